-- What the walk keeps, node by node: a law for the start, a turn and the end; and from a step to the tick before the next. Assumes nothing.
use mathlib.Core.Path.{◌≡◌, refl, sym, ◌∙◌, subst}
use mathlib.Core.List.{List}
use Prim.Native.Nat.{ℕ, ◌+◌, ◌-◌, ◌*◌, ◌≤◌, ◌<◌, min}
use native.Mathlib.Omega.{arith}
use native.Mathlib.Nat.{mul-le-mul_right}
use lib.ListN.{length}
use borrow.Author.Count.{below_more}
use Rattle.least.specs.Lists.{values, Inside}
use Rattle.blocks.specs.Sheet.{entries_in, entry_at, Shaped, Looking}
use Rattle.steps.specs.Steps.{EntryStep, NodeStep}
use Rattle.steps.specs.Kept.{kept_size, KeptAt}
use Rattle.steps.proofs.Kept.{kept_later}
use Rattle.starts.specs.Steps.{SheetStep}
use Rattle.starts.specs.Kept.{Strided, KeptTo}
use Rattle.starts.proofs.Steps.{nodes_none, nodes_more, node_late}

pub strided_same : {e : List ℕ} {stride m : ℕ} {steps steps' : List ℕ} → length steps' ≡ length steps → Strided e stride m steps → Strided e stride m steps'
strided_same h s = record { each = s.each; long = rw h s.long; short = rw h s.short }

-- what is kept of a node stands before the next
strided-apart : {e : List ℕ} {stride m : ℕ} {steps : List ℕ} → Strided e stride m steps → (p i : ℕ) → p < i → i ≤ m → p * stride + kept_size + entries_in e p ≤ i * stride
strided-apart {stride} s p i h l = omega (arith, s.each p (omega arith), mul-le-mul_right {m = p + 1} {n = i} stride (omega arith))

pub strided-room : {e : List ℕ} {stride m at p : ℕ} {steps : List ℕ} → Strided e stride m steps → at ≡ p * stride → p < m →
    (at + kept_size + entries_in e p ≤ length steps) × (at + stride ≤ length steps)
strided-room {stride} {m} {p} s is on =
    (omega (arith, strided-apart s p m on (omega arith), s.long), omega (arith, mul-le-mul_right {m = p + 1} {n = m} stride (omega arith), s.long))

-- only its own places count
kept_same : {e : List ℕ} {end u p at : ℕ} {steps steps' : List ℕ} → ((k : ℕ) → at ≤ k → k < at + kept_size + entries_in e p → values steps' k ≡ values steps k) →
    KeptAt e end u steps p at → KeptAt e end u steps' p at
kept_same {e} {end} {u} {p} {at} {steps} {steps'} same kept = record {
  sum = same at (omega arith) (omega arith) ∙ kept.sum;
  next = subst (NodeStep e p u end) (sym (same (at + 1) (omega arith) (omega arith))) kept.next;
  looks = subst (Looking e p) (sym (same (at + 2) (omega arith) (omega arith))) kept.looks;
  each = λ q h. subst (EntryStep e (entry_at e p q) u end) (sym (same (at + kept_size + q) (omega arith) (omega arith))) (kept.each q h);
  after = λ q h. omega (arith, same (at + 1) (omega arith) (omega arith), same (at + kept_size + q) (omega arith) (omega arith), kept.after q h);
}

pub shaped_less : {e : List ℕ} {m m' : ℕ} → m' ≤ m → Shaped e m → Shaped e m'
shaped_less h s = record { whole = λ p q. s.whole p (omega arith); few = λ p q. s.few p (omega arith); short = s.short; small = s.small; looks = λ p q a b. s.looks p q (omega arith) b }

-- the first p nodes
pub record Noded (e : List ℕ) (stride m end u : ℕ) (steps₀ steps : List ℕ) (next at p : ℕ) : Type 0 where
  pub room : Strided e stride m steps
  pub place : at ≡ p * stride
  pub kept : KeptTo e stride end u steps p
  pub step : SheetStep e p u end next
  pub long : length steps ≡ length steps₀

module _ (e : List ℕ) (stride m end u : ℕ) where
  pub noded_none : (steps : List ℕ) → Strided e stride m steps → u < end → Noded e stride m end u steps steps end 0 0
  noded_none steps room on = record { room = room; place = omega arith; kept = λ p h. absurd (omega arith); step = nodes_none e u end on; long = refl }

  module _ (steps₀ steps : List ℕ) (next at p : ℕ) (noded : Noded e stride m end u steps₀ steps next at p) where
    module _ (on : p < m) (steps' : List ℕ) (i : Inside at (at + kept_size + entries_in e p) steps steps') where
      pub noded_more : (s next' : ℕ) → KeptAt e end u steps' p at → NodeStep e p u end s → next' ≡ min next s →
          Noded e stride m end u steps₀ steps' next' (at + stride) (p + 1)
      noded_more s next' here step least = record {
        room = strided_same i.long noded.room;
        place = omega (arith, noded.place);
        kept = below_more (λ p. KeptAt e end u steps' p (p * stride)) p
            (λ j h. kept_same (λ k a b. i.before k (omega (arith, noded.place, strided-apart noded.room j p h (omega arith)))) (noded.kept j h))
            (subst (KeptAt e end u steps' p) noded.place here);
        step = subst (SheetStep e (p + 1) u end) (sym least) (nodes_more e u end p next s noded.step step);
        long = i.long ∙ noded.long;
      }

      -- the nodes behind are as they were
      pub noded_left : (u₀ : ℕ) → ((j : ℕ) → p ≤ j → j < m → KeptAt e end u₀ steps j (j * stride)) →
          (j : ℕ) → p + 1 ≤ j → j < m → KeptAt e end u₀ steps' j (j * stride)
      noded_left u₀ left j h l =
          kept_same (λ k a b. i.behind k (omega (arith, noded.place, strided-apart noded.room p j (omega arith) (omega arith)))) (left j (omega arith) l)

-- up to the tick before the next step nothing changes
pub kept_on : (e : List ℕ) (stride end u m r : ℕ) (steps : List ℕ) → KeptTo e stride end u steps m → SheetStep e m u end r → KeptTo e stride end (r - 1) steps m
kept_on e stride end u m r steps kept s p on =
    let k = kept p on in
    kept_later k (omega (arith, s.later)) (omega (arith, s.later, node_late e m u end r s p on _ k.next))
