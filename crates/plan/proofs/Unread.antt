-- Any bytes are a plan in form, or have a first record that is refused; reading gives the set of the one, of the other the refusal and the place.
use Prim.Native.Nat.{ℕ, zero, suc, ◌+◌, ◌≤◌, ◌<◌}
use mathlib.Core.Path.{◌≡◌, refl, sym, ap, ◌∙◌, subst}
use mathlib.Core.Bool.{Bool, true, false, cond, not, ◌&&◌}
use mathlib.Core.List.{List, [], ◌∷◌, ◌++◌, append_assoc}
use mathlib.Core.Logic.{◌⊎◌, inl, inr}
use native.Mathlib.Omega.{arith}
use lib.ListN.{length, length-append}
use lib.Dec.{leb, eqb}
use borrow.Author.Tests.{eqb-true, eqb-false, lt-ltb, le-leb, leb-true, leb-false}
use Rattle.std.specs.Prelude.{Ok, Err, Some}
use Rattle.flows.specs.declared.Flow.{Flow}
use Rattle.flows.specs.declared.Refusal.{Refusal}
use Rattle.flows.specs.declared.Cause.{Cause}
use Rattle.flows.specs.declared.Cause.TheVariants.{Delays, Full, Malformed}
use Rattle.flows.specs.Refusals.{Ruling, accepted, first_cause, place_in}
use Rattle.flows.specs.Lists.{most_flows}
use Rattle.flows.specs.Tests.{delay_cause, flow_cause}
use Rattle.flows.specs.WellFormed.{Exactly, WellFormed, OfDelays, delays-fit, delays_unfit, Typed}
use Rattle.row.specs.Rows.{last_number}
use Rattle.records.specs.Kinds.{links_record, flow_record, end_kind}
use Rattle.records.specs.Bodies.{Bytes}
use Rattle.records.specs.Rows.{row_bytes}
use Rattle.reader.specs.declared.Kind.TheVariants as kind
use Rattle.reader.specs.Places.{kind_at}
use Rattle.plan.specs.declared.Reading.{Reading}
use Rattle.plan.specs.Reading.{Listing, empty_set, flow_at, refused, reading_of, unless, falls_to, record_cause, read_after_links, read_records, read_plan}
use Rattle.plan.specs.Writing.{links_bytes, flow_bytes, flows_bytes, plan_bytes, plan_length}
use Rattle.plan.specs.Demands.{InForm, StartsLinks, StartsFlow, StartsEnd, After, OfRecord, not-rising, by_itself, no_room, Unread, no-links, unfit-links, no_record, of-flow, after-end}
use Rattle.flows.proofs.Passed.{delays_exact, flow_exact, formed, formed_passes}
use Rattle.row.proofs.Arrays.{length_snoc}
use Rattle.row.proofs.Longer.{rising_snoc, each_snoc}
use Rattle.row.proofs.Valid.{readable_none}
use Rattle.records.proofs.Writing.{length-flow}
use Rattle.reader.proofs.Places.{is_kind, impossible}
use Rattle.reader.proofs.Records.{first_byte}
use Rattle.plan.proofs.Steps.{falls-zero, falls_not, falls-order, flows_at_other, flows_at_end, flows_at_flow, records_at_other}
use Rattle.records.proofs.Rows.{row_snoc}
use Rattle.plan.proofs.Trips.{number_last, end_here, end_starts, flow_here_lem, flow_same, flow_starts, links_starts, links_here, records_start, after_rest, read_after, form_read, flows_long}

-- ---- a flow's record: accepted, or refused as the words say
record Taken (fs : List Flow) (f : Flow) : Type 0 where
  flow : WellFormed f
  rises : last_number fs < f.number
  room : length fs < most_flows

data Ruled (fs : List Flow) (f : Flow) : Ruling → Type 0 where
  taken : Taken fs f → Ruled fs f accepted
  refuses : (c : Cause) → OfRecord fs f c → Ruled fs f (Err c)

module _ (fs : List Flow) (f : Flow) (t : Typed f) where
  of_record : Ruled fs f (record_cause fs f)
  unfolding record_cause falls_to
  of_record = go (eqb f.number 0) (leb f.number (last_number fs)) (flow_cause f) (leb most_flows (length fs)) refl refl refl refl
    where
      go : (o p : Bool) (q : Ruling) (r : Bool) → eqb f.number 0 ≡ o → leb f.number (last_number fs) ≡ p → flow_cause f ≡ q →
          leb most_flows (length fs) ≡ r → Ruled fs f (cond (not o && p) (Err Malformed) (first_cause q (cond r (Err Full) accepted)))
      go false true q r i j k l = refuses Malformed (not-rising (eqb-false _ _ i) (leb-true _ _ j))
      go true p (Err c) r i j k l = refuses c (by_itself c (inl (eqb-true _ _ i)) ((flow_exact f t (Err c)).0 k))
      go false false (Err c) r i j k l = refuses c (by_itself c (inr (leb-false _ _ j)) ((flow_exact f t (Err c)).0 k))
      go true p (Ok tt) r i j k l =
          let n = (formed f t k).number.0 in
          let z = eqb-true f.number 0 i in
          absurd (omega arith)
      go false false (Ok tt) true i j k l = refuses Full (no_room (leb-false _ _ j) (formed f t k) (leb-true _ _ l))
      go false false (Ok tt) false i j k l = taken (record { flow = formed f t k; rises = leb-false _ _ j; room = leb-false _ _ l })

  rises_in : (f.number ≡ 0) ⊎ (last_number fs < f.number) → falls_to f.number (last_number fs) ≡ false
  rises_in (inl h) = sym (falls-zero f.number (last_number fs) h)
  rises_in (inr h) = sym (falls_not f.number (last_number fs) h)

  record-only : (c : Cause) → OfRecord fs f c → record_cause fs f ≡ Err c
  unfolding record_cause
  record-only c (not-rising n h) = rw (← falls-order f.number (last_number fs) n, le-leb _ _ h)
  record-only c (by_itself d o x) = rw (rises_in o, (flow_exact f t (Err d)).1 x)
  record-only c (no_room h w g) = rw (rises_in (inr h), formed_passes f t w, le-leb _ _ g)

-- ---- the records that are not refused, and one more
module _ {b : List ℕ} {fs : List Flow} {at : ℕ} {rest : List ℕ} (a : After b fs at rest) where
  abbrev before : List ℕ
  before = links_bytes a.lmin a.lmax ++ flows_bytes fs

  after_more : {f : Flow} (s : StartsFlow rest f) → Taken fs f → After b (fs ++ (f ∷ [])) (at + flow_record) s.rest
  unfolding last_number
  after_more {f} s k =
      let x = links_bytes a.lmin a.lmax in
      let m : before ++ flow_bytes f ≡ x ++ flows_bytes (fs ++ (f ∷ [])) =
      append_assoc x (flows_bytes fs) (flow_bytes f) ∙ ap (λ (l : List ℕ). x ++ l) (sym (row_snoc flow_bytes fs f)) in
      let p : at + flow_record ≡ length (before ++ flow_bytes f) =
      omega (arith, a.place_is, length-append before (flow_bytes f), length-flow f s.typed.nodes s.typed.costs) in
      record {
        lmin = a.lmin;
        lmax = a.lmax;
        readable = record {
          delays = a.readable.delays;
          rising = rising_snoc (λ (g : Flow). g.number) last_number number_last fs [] f a.readable.rising k.rises;
          count = omega (arith, k.room, length_snoc fs f);
          flows = each_snoc _ fs f a.readable.flows k.flow;
          typed = each_snoc _ fs f a.readable.typed s.typed;
        };
        bytes =
            a.bytes ∙ ap (λ (l : List ℕ). before ++ l) s.bytes ∙ sym (append_assoc before (flow_bytes f) s.rest) ∙
            ap (λ (l : List ℕ). l ++ s.rest) m;
        place_is = p ∙ ap length m;
      }

  after-inside : (at + length rest ≡ length b) × (at + 1 ≤ plan_length most_flows)
  after-inside =
      let n = length-append before rest in
      let m = length-append (links_bytes a.lmin a.lmax) (flows_bytes fs) in
      let l = flows_long fs a.readable.typed in
      (omega (arith, a.place_is, ap length a.bytes), omega (arith, a.place_is, a.readable.count))

-- ---- any bytes are in form, or one of their records is refused
data Decided (b : List ℕ) : Type 0 where
  in_form : InForm b → Decided b
  unread : (c : Cause) (place : ℕ) → Unread b c place → Decided b

-- what goes with a refusal
pub record Inside (b : List ℕ) (r : Reading) : Type 0 where
  pub place : (place_in r.outcome ≤ length b) × (place_in r.outcome ≤ plan_length most_flows)
  pub empty : (r.outcome ≡ Ok tt → ⊥) → r.set ≡ empty_set

module _ (b : List ℕ) (u : Bytes b) where
  module _ {fs : List Flow} {at : ℕ} {rest : List ℕ} (a : After b fs at rest) where
    other : (kind_at b at ≡ Some kind.End → ⊥) → (kind_at b at ≡ Some kind.Flow → ⊥) → Decided b
    other n m = unread Malformed at (no_record fs at rest a (λ f s. m (flow_here_lem b at (after_rest a) s)) (λ s. n (end_here b at (after_rest a) s)))

    ended : (x : List ℕ) → rest ≡ end_kind ∷ x → Decided b
    unfolding plan_bytes
    ended [] e =
        in_form (record {
          lmin = a.lmin;
          lmax = a.lmax;
          flows = fs;
          readable = a.readable;
          bytes = a.bytes ∙ ap (λ (l : List ℕ). before a ++ l) e;
        })
    ended (x ∷ y) e = unread Malformed (at + 1) (after-end fs at x y (subst (After b fs at) e a))

    record-decided : ((f : Flow) (s : StartsFlow rest f) → Taken fs f → Decided b) → Decided b
    record-decided next = go (is_kind (kind_at b at) kind.Flow) (is_kind (kind_at b at) kind.End)
      where
        tested : {r : Ruling} → StartsFlow rest (flow_at b at) → Ruled fs (flow_at b at) r → Decided b
        tested s (taken k) = next (flow_at b at) s k
        tested s (refuses c o) = unread c at (of-flow fs at rest (flow_at b at) c a s o)

        go : (kind_at b at ≡ Some kind.Flow) ⊎ (kind_at b at ≡ Some kind.Flow → ⊥) → (kind_at b at ≡ Some kind.End) ⊎ (kind_at b at ≡ Some kind.End → ⊥) → Decided b
        go (inl h) o = let s = flow_starts b at (after_rest a) u h in tested s (of_record fs (flow_at b at) s.typed)
        go (inr n) (inl h) = let s = end_starts b at (after_rest a) h in ended s.rest s.bytes
        go (inr n) (inr m) = other m n

  after-decided : (room : ℕ) {fs : List Flow} {at : ℕ} {rest : List ℕ} → room + length fs ≡ most_flows → After b fs at rest → Decided b
  after-decided zero h a = record-decided a (λ f s k. absurd (omega (arith, k.room)))
  after-decided (suc room) {fs} h a = record-decided a (λ f s k. after-decided room (omega (arith, length_snoc fs f)) (after_more a s k))

  links-decided : (lmin lmax : ℕ) → StartsLinks b lmin lmax → Decided b
  unfolding row_bytes
  links-decided lmin lmax s = go (delay_cause lmin lmax) refl ((delays_exact lmin lmax (delay_cause lmin lmax)).0 refl)
    where
      go : (c : Ruling) → delay_cause lmin lmax ≡ c → OfDelays lmin lmax c → Decided b
      go c e (delays_unfit n) = unread Delays 0 (unfit-links lmin lmax s n)
      go c e (delays-fit h) =
          after-decided most_flows {fs = []} {at = links_record} {rest = s.rest} refl (record {
            lmin = lmin;
            lmax = lmax;
            readable = readable_none lmin lmax h;
            bytes = s.bytes;
            place_is = refl;
          })

  decided : Decided b
  decided = go (is_kind (kind_at b 0) kind.Links)
    where
      go : (kind_at b 0 ≡ Some kind.Links) ⊎ (kind_at b 0 ≡ Some kind.Links → ⊥) → Decided b
      go (inl h) = links-decided _ _ (links_starts b u h)
      go (inr n) = unread Malformed 0 (no-links (λ l m s. n (links_here b l m s)))

  -- ---- what the words say is given
  gives : (c : Cause) (place : ℕ) → Unread b c place → read_records b ≡ refused c place
  unfolding unless
  gives c place (no-links n) = records_at_other b (λ h. n _ _ (links_starts b u h))
  gives c place (unfit-links lmin lmax s n) =
      records_start b lmin lmax s ∙ ap (λ (d : Ruling). unless d 0 (read_after_links lmin lmax b)) ((delays_exact lmin lmax (Err Delays)).1 (delays_unfit n))
  gives c place (no_record fs at rest a n m) =
      read_after a ∙ flows_at_other _ _ _ fs b at (λ h. n _ (flow_starts b at (after_rest a) u h)) (λ h. m (end_starts b at (after_rest a) h))
  gives c place (of-flow fs at rest f d a s o) =
      let e : record_cause fs (flow_at b at) ≡ Err d = ap (record_cause fs) (flow_same b at (after_rest a) s) ∙ record-only fs f s.typed d o in
      read_after a ∙ flows_at_flow _ _ _ fs b at (flow_here_lem b at (after_rest a) s) ∙ rw e
  gives c place (after-end fs at x y a) =
      let s : StartsEnd (end_kind ∷ x ∷ y) = record { rest = x ∷ y; bytes = refl } in
      let h : at + 1 < length b = omega (arith, (first_byte b at (after_rest a) end_kind (x ∷ y) refl).1) in
      read_after a ∙ flows_at_end _ _ _ fs b at (end_here b at (after_rest a) s) ∙ rw (lt-ltb (at + 1) (length b) h)

  -- the place is within the plan or at its end, and within the longest plan whatever is read
  inside : (c : Cause) (place : ℕ) → Unread b c place → (place ≤ length b) × (place ≤ plan_length most_flows)
  inside c place (no-links n) = (omega arith, omega arith)
  inside c place (unfit-links lmin lmax s n) = (omega arith, omega arith)
  inside c place (no_record fs at rest a n m) = let h = after-inside a in (omega (arith, h.0), omega (arith, h.1))
  inside c place (of-flow fs at rest f d a s o) = let h = after-inside a in (omega (arith, h.0), omega (arith, h.1))
  inside c place (after-end fs at x y a) = let h = after-inside a in (omega (arith, h.0), omega (arith, h.1))

  outcome-of : (c : Cause) (place : ℕ) → Unread b c place → (read_plan b).outcome ≡ Err (record { cause = c; place = place })
  outcome-of c place n = ap (λ (l : Listing). (reading_of l).outcome) (gives c place n)

  -- With a refusal goes the empty set
  pub place_inside : Inside b (read_plan b)
  place_inside = go decided
    where
      go : Decided b → Inside b (read_plan b)
      go (in_form i) =
          subst (Inside b) (sym (form_read b i))
          (record { place = (omega arith, omega arith); empty = λ never. absurd (never refl) })
      go (unread c place n) =
          subst (λ (l : Listing). Inside b (reading_of l)) (sym (gives c place n)) (record { place = inside c place n; empty = λ never. refl })

  -- What is read is in form
  pub plan_form : (read_plan b).outcome ≡ Ok tt → InForm b
  plan_form h = go decided
    where
      go : Decided b → InForm b
      go (in_form i) = i
      go (unread c place n) = let e = outcome-of c place n in impossible (cc)

  -- What is refused is refused as the words say, and exactly then
  pub unread_exact : (c : Cause) (place : ℕ) → Exactly ((read_plan b).outcome ≡ Err (record { cause = c; place = place })) (Unread b c place)
  unread_exact c place = (λ h. go h decided, outcome-of c place)
    where
      go : (read_plan b).outcome ≡ Err (record { cause = c; place = place }) → Decided b → Unread b c place
      go h (in_form i) = let e = ap (λ (r : Reading). r.outcome) (form_read b i) in impossible (cc)
      go h (unread d at n) =
          let e = outcome-of d at n in
          let m : ◌≡◌ {A = Refusal} (record { cause = d; place = at }) (record { cause = c; place = place }) = cc in
          let p : d ≡ c = ap (λ (r : Refusal). r.cause) m in
          let q : at ≡ place = ap (λ (r : Refusal). r.place) m in
          rw (p, q) at n
