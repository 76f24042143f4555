-- The numbers of a sheet as it is filled: heads of blocks, then the entries of flow after flow. Assumes nothing.
use mathlib.Core.Path.{◌≡◌, refl, sym, ap, ap₂, ◌∙◌, subst}
use mathlib.Core.Bool.{Bool, true, false, not}
use mathlib.Core.Logic.{inl, inr}
use mathlib.Core.List.{List, [], ◌∷◌, ◌++◌}
use Prim.Native.Nat.{ℕ, ◌+◌, ◌*◌, ◌≤◌, ◌<◌}
use native.Mathlib.Numerals.{add-one}
use native.Mathlib.Omega.{arith}
use lib.ListN.{length, take}
use borrow.Author.Tests.{lt-ltb, le-ltb}
use Rattle.least.specs.Count.{pick}
use Rattle.least.specs.Lists.{First}
use Rattle.least.proofs.Count.{le_or-lt, pick_below, pick_above}
use Rattle.rules.specs.Net.{Hop, Flow, Net}
use Rattle.rules.specs.Formula.{Own, Higher, Equal, Lower, both, role, lower}
use Rattle.rules.specs.Valid.{Valid}
use Rattle.nets.specs.Nets.{count_in, room_in, length_in, field_in, hop_in, path_in, flow_in, net_in, flow_at, node_at}
use Rattle.nets.proofs.Reading.{path_length, path_at, flows_length, flow_at_lem}
use Rattle.crossings.specs.Pairs.{place_on}
use Rattle.terms.specs.Terms.{base_of}
use Rattle.blocks.specs.Sheet.{Shaped}
use Rattle.frames.specs.Frames.{Entry, Listed, Grown}
use Rattle.entries.specs.Fields.{up_to, entry_of, counted, entries_to}
use Rattle.sheets.specs.Sheets.{SheetIs, from_on, Joined, Filled}
use Rattle.entries.specs.Rows.{higher_at, equal_at, own_at}
use Rattle.entries.proofs.Running.{upto_at, node_at_lem, added_at, own_at_lem, counted_own, counted_at, higher_at_lem, equal_at_lem}
use Rattle.frames.proofs.Frames.{frame_less, kept_grown, Heads, heads_frame}

-- an entry from the first place shared on
module _ (f : ℕ) (x : ℕ → Entry) (p : ℕ) where
  pub from_none : p < f → from_on f x p ≡ []
  from_none h = sym (pick_above f (p + 1) (x p ∷ []) [] (omega arith))

  pub from_one : f ≤ p → from_on f x p ≡ x p ∷ []
  from_one h = sym (pick_below f (p + 1) (x p ∷ []) [] (omega arith))

-- what block p has before its entries
abbrev pub base_at : List ℕ → ℕ → ℕ → ℕ
base_at net a p = base_of (net_in net) (flow_in net a) (take (p + 1) (path_in net a)) (hop_in net a p).node

abbrev pub add_at : List ℕ → ℕ → ℕ → ℕ
add_at net a p = (hop_in net a p).cost + field_in net a 3

pub heads_filled : (net : List ℕ) (r : ℕ → ℕ) (a : ℕ) → a < count_in net → {e : List ℕ} {p : ℕ} →
    Heads (Valid (net_in net)) (count_in net) (length_in net a) (base_at net a) (add_at net a) e p → length_in net a ≤ p → Filled net r a 0 e
unfolding entries_to
heads_filled net r a one H end = record {
  frame = heads_frame end H;
  few = λ k h. omega (arith, (H.heads k (omega arith) h).none);
  is = λ v k h. record {
    base =
        (H.heads k (omega arith) h).base v
        ∙ ap (λ (q : Hop). base_of (net_in net) (flow_in net a) (take (k + 1) (path_in net a)) q.node) (sym (path_at net a k h))
        ∙ ap (λ (i : Flow). base_of (net_in net) i (up_to i k) (node_at i k)) (sym (flow_at_lem net a one));
    added = (H.heads k (omega arith) h).added v ∙ added_at net v a one k h;
    entries = record { count = (H.heads k (omega arith) h).none; each = λ q g. absurd (omega arith) };
  };
}

-- the sheet of flow a with the entries of flow b too
module _ {net : List ℕ} {r : ℕ → ℕ} {a b : ℕ} {e : List ℕ} (one : a < count_in net) (other : b < count_in net) (F : Filled net r a b e) where
  abbrev N : Net
  N = net_in net

  -- what the rules add to a block, with the prefix P and at node h
  abbrev new_of : List Hop → ℕ → List Entry
  new_of P h = pick (counted N (room_in net) r a P h b) (entry_of N (room_in net) r a P h b (role (flow_at N a) (flow_at N b)) ∷ []) []

  filled_more : {e' : List ℕ} (x : ℕ → List Entry) → Grown (Valid N) (count_in net) (length_in net a) x e e' →
      (Valid N → (p : ℕ) → p < length_in net a → x p ≡ new_of (take (p + 1) (path_in net a)) (hop_in net a p).node) → Filled net r a (b + 1) e'
  unfolding entries_to
  filled_more {e'} x G new = record {
    frame = G.frame;
    few = λ p h. omega (arith, (G.blocks p h).few, F.few p h);
    is = λ v p h.
        let z : x p ≡ new_of (up_to (flow_at N a) p) (node_at (flow_at N a) p) =
        new v p h ∙ ap₂ new_of (sym (upto_at net v a one p h)) (sym (node_at_lem net v a one p h)) in
        let E : List Entry = entries_to N (room_in net) r a (up_to (flow_at N a) p) (node_at (flow_at N a) p) b in
        record {
          base = (G.blocks p h).base ∙ (F.is v p h).base;
          added = (G.blocks p h).added ∙ (F.is v p h).added;
          entries = rw (add-one b) (subst (λ l. Listed e' p (E ++ l)) z ((G.blocks p h).entries v E (F.is v p h).entries));
        };
  }

  pub filled_own : role (flow_in net a) (flow_in net b) ≡ Own → {e' : List ℕ} →
      Grown (Valid N) (count_in net) (length_in net a) (λ p. own_at net a p ∷ []) e e' → Filled net r a (b + 1) e'
  filled_own own G =
      filled_more (λ p. own_at net a p ∷ []) G
      (λ v p h. rw (counted_own net v a b one other r p h own (room_in net) (hop_in net a p).node) (ap (λ z. z ∷ []) (sym (own_at_lem net v a b one other r p h own))))

  -- of a flow that is neither a nor lower
  filled_joined : (x : ℕ → ℕ → Entry) → both (not (lower (role (flow_in net a) (flow_in net b)))) true ≡ true →
      (Valid N → (f : ℕ) → First (place_on net a b) (length_in net a) (length_in net b) f → (p : ℕ) → p < length_in net a → f ≤ p →
      entry_of N (room_in net) r a (take (p + 1) (path_in net a)) (hop_in net a p).node b (role (flow_at N a) (flow_at N b)) ≡ x f p) →
      {e' : List ℕ} → Joined net a b x e e' → Filled net r a (b + 1) e'
  filled_joined x side same J =
      filled_more (from_on f (x f)) J.grown
      (λ v p h. rw (counted_at net v a b one other r p h f J.first (room_in net) (hop_in net a p).node)
      (elim (le_or-lt f p) [
        | inl q ↦ rw (lt-ltb f (p + 1) (omega arith), side) (ap (λ z. z ∷ []) (sym (same v f J.first p h q)))
        | inr q ↦ rw (le-ltb f (p + 1) (omega arith)) (none (not (lower (role (flow_in net a) (flow_in net b)))) _)
      ]))
    where
      f : ℕ
      f = J.place

      none : (t : Bool) (y : Entry) → [] ≡ pick (both t false) (y ∷ []) []
      none true y = refl
      none false y = refl

  pub filled_higher : role (flow_in net a) (flow_in net b) ≡ Higher → {e' : List ℕ} → Joined net a b (higher_at net a b r) e e' → Filled net r a (b + 1) e'
  filled_higher up J = filled_joined (higher_at net a b r) (rw up) (λ v f d p h q. higher_at_lem net v a b one other r p h f d q up) J

  pub filled_equal : role (flow_in net a) (flow_in net b) ≡ Equal → {e' : List ℕ} → Joined net a b (equal_at net a b r) e e' → Filled net r a (b + 1) e'
  filled_equal same J = filled_joined (equal_at net a b r) (rw same) (λ v f d p h q. equal_at_lem net v a b one other r p h f d q same) J

  pub filled_lower : role (flow_in net a) (flow_in net b) ≡ Lower → Filled net r a (b + 1) e
  unfolding counted
  filled_lower low =
      filled_more (λ p. [])
      (record { frame = F.frame; blocks = λ p h. kept_grown (count_in net) p e e (λ i g. refl) (omega (arith, F.few p h)) })
      (λ v p h. rw (flow_at_lem net a one, flow_at_lem net b other, low))

-- the whole sheet
module _ {net : List ℕ} {r : ℕ → ℕ} {a b : ℕ} {e : List ℕ} (one : a < count_in net) (all : b ≡ count_in net) (F : Filled net r a b e) where
  pub filled_sheet : Valid (net_in net) → SheetIs (net_in net) (room_in net) r a e
  filled_sheet v = record {
    base = λ p h. (F.is v p (on p h)).base;
    added = λ p h. (F.is v p (on p h)).added;
    entries = λ p h.
        subst
        (λ n. Listed e p (entries_to (net_in net) (room_in net) r a (up_to (flow_at (net_in net) a) p) (node_at (flow_at (net_in net) a) p) n))
        (all ∙ sym (flows_length net)) (F.is v p (on p h)).entries;
  }
    where
      on : (p : ℕ) → p < length (flow_at (net_in net) a).path → p < length_in net a
      on p h = omega (arith, ap (λ (i : Flow). length i.path) (flow_at_lem net a one), path_length net a)

  pub filled_shaped : length e ≤ 16777216 → Shaped e (length_in net a)
  filled_shaped short = record {
    whole = λ p h.
        omega (
          arith,
          F.few p h,
          (frame_less p h F.frame).long,
          ap (λ s. p * s) F.frame.size,
        );
    few = λ p h. omega (arith, F.few p h);
    short = short;
    small = F.frame.small;
    looks = F.frame.looks;
  }
