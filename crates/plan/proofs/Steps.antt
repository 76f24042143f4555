-- Reading: a law for each way out.
use Prim.Native.Nat.{ℕ, zero, suc, ◌+◌, ◌-◌, ◌≤◌, ◌<◌}
use mathlib.Core.Path.{◌≡◌, refl, sym, ap, ◌∙◌}
use mathlib.Core.Bool.{Bool, true, false, cond, and-false}
use mathlib.Core.List.{List, [], ◌∷◌, ◌++◌}
use native.Mathlib.Omega.{arith}
use lib.ListN.{length, take, drop}
use lib.Dec.{leb, ltb}
use borrow.Author.Tests.{eq-eqb, ne_eqb, lt-ltb, le-ltb, lt-leb, leb-false}
use Rattle.std.specs.Prelude.{Ok, Err, Err, Option, Some}
use Rattle.flows.specs.declared.Flow.{Flow}
use Rattle.flows.specs.declared.Row.{Row}
use Rattle.flows.specs.declared.Cause.{Cause}
use Rattle.flows.specs.declared.Cause.TheVariants.{Full, Malformed}
use Rattle.flows.specs.Refusals.{Ruling, accepted, first_cause}
use Rattle.flows.specs.Lists.{most_flows, held, row_of}
use Rattle.flows.specs.Tests.{delay_cause, flow_cause}
use Rattle.row.specs.Rows.{appended, last_number}
use Rattle.records.specs.declared.Links.{Links}
use Rattle.records.specs.Kinds.{links_record, flow_body, flow_record}
use Rattle.records.specs.Bodies.{flow_read}
use Rattle.reader.specs.declared.Kind.{Kind}
use Rattle.reader.specs.declared.Kind.TheVariants as kind
use Rattle.flows.specs.declared.Refusal.{Refusal}
use Rattle.plan.specs.declared.FlowSet.{FlowSet}
use Rattle.reader.specs.Places.{kind_at, if_kind}
use Rattle.plan.specs.Reading.{Listing, flow_at, links_at, refused, listed, unless, falls_to, record_cause, read_end, read_flows, read_after_links, read_records, reading_of, read_plan}
use Rattle.row.proofs.Arrays.{held-row_of, append_list, length_snoc}
use Rattle.reader.proofs.Places.{if_here, if_other, seen_here, seen_other, impossible}

pub falls-zero : (number last : ℕ) → number ≡ 0 → false ≡ falls_to number last
unfolding falls_to
falls-zero number last h = rw (eq-eqb _ _ h)

pub falls_not : (number last : ℕ) → last < number → false ≡ falls_to number last
unfolding falls_to
falls_not number last h = rw (lt-leb _ _ h, and-false)

pub falls-order : (number last : ℕ) → (number ≡ 0 → ⊥) → leb number last ≡ falls_to number last
unfolding falls_to
falls-order number last h = rw (ne_eqb _ _ h)

-- ---- a flow's body, as the part from the byte after the kind to the record's end
pub flow_part : (b : List ℕ) (at : ℕ) (f : Flow) → f ≡ flow_read (take (at + flow_record - (at + 1)) (drop (at + 1) b)) → f ≡ flow_at b at
flow_part b at f e = let z : at + flow_record - (at + 1) ≡ flow_body = omega arith in rw z at e

-- ---- the end
module _ (lmin lmax : ℕ) (row : Row) (b : List ℕ) (at : ℕ) (k : Option Kind) (e : k ≡ kind_at b at) where
  pub end_other : (r : Refusal) → (k ≡ Some kind.End → ⊥) → r ≡ record { cause = Malformed; place = at } → Err r ≡ read_end lmin lmax row b at
  unfolding read_end
  end_other r o g = ap Err g ∙ sym (seen_other b at kind.End _ _ k e o)

  pub end_more : (r : Refusal) → k ≡ Some kind.End → at + 1 < length b → r ≡ record { cause = Malformed; place = at + 1 } → Err r ≡ read_end lmin lmax row b at
  unfolding read_end
  end_more r h l g = rw (lt-ltb _ _ l) (ap Err g ∙ sym (seen_here b at kind.End _ _ k e h))

  pub end_last : k ≡ Some kind.End → length b ≤ at + 1 → listed lmin lmax row ≡ read_end lmin lmax row b at
  unfolding read_end
  end_last h l = rw (le-ltb _ _ l) (sym (seen_here b at kind.End _ _ k e h))

-- ---- the records after the first
-- what follows a flow that is accepted
unfoldable pub next_after : ℕ → ℕ → ℕ → List Flow → List ℕ → ℕ → Listing
next_after zero lmin lmax fs b at = refused Full at
next_after (suc room) lmin lmax fs b at = read_flows room lmin lmax (fs ++ (flow_at b at ∷ [])) b (at + flow_record)

-- a flow's record at a place
abbrev flow_here : ℕ → ℕ → ℕ → List Flow → List ℕ → ℕ → Listing
flow_here room lmin lmax fs b at = unless (record_cause fs (flow_at b at)) at (next_after room lmin lmax fs b at)

flows_is : (room lmin lmax : ℕ) (fs : List Flow) (b : List ℕ) (at : ℕ) →
    read_flows room lmin lmax fs b at ≡ if_kind (kind_at b at) kind.Flow (flow_here room lmin lmax fs b at) (read_end lmin lmax (row_of fs) b at)
unfolding read_flows next_after
flows_is zero lmin lmax fs b at = refl
flows_is (suc room) lmin lmax fs b at = refl

-- what stands at the place decides
module _ (room lmin lmax : ℕ) (fs : List Flow) (b : List ℕ) (at : ℕ) where
  pub flows_at_other : (kind_at b at ≡ Some kind.Flow → ⊥) → (kind_at b at ≡ Some kind.End → ⊥) → read_flows room lmin lmax fs b at ≡ refused Malformed at
  unfolding read_end
  flows_at_other n m = flows_is room lmin lmax fs b at ∙ if_other (kind_at b at) kind.Flow _ _ n ∙ if_other (kind_at b at) kind.End _ _ m

  pub flows_at_end : kind_at b at ≡ Some kind.End →
      read_flows room lmin lmax fs b at ≡ cond (ltb (at + 1) (length b)) (refused Malformed (at + 1)) (listed lmin lmax (row_of fs))
  unfolding read_end
  flows_at_end h = flows_is room lmin lmax fs b at ∙ if_other (kind_at b at) kind.Flow _ _ (λ g. impossible (cc)) ∙ if_here (kind_at b at) kind.End _ _ h

  pub flows_at_flow : kind_at b at ≡ Some kind.Flow →
      read_flows room lmin lmax fs b at ≡ unless (record_cause fs (flow_at b at)) at (next_after room lmin lmax fs b at)
  flows_at_flow h = flows_is room lmin lmax fs b at ∙ if_here (kind_at b at) kind.Flow _ _ h

-- a flow is accepted only where there is room
has_room : (fs : List Flow) (f : Flow) → record_cause fs f ≡ accepted → length fs < most_flows
unfolding record_cause
has_room fs f h = go (falls_to f.number (last_number fs)) (flow_cause f) (leb most_flows (length fs)) refl h
  where
    go : (p : Bool) (q : Ruling) (r : Bool) → leb most_flows (length fs) ≡ r →
        cond p (Err Malformed) (first_cause q (cond r (Err Full) accepted)) ≡ accepted → length fs < most_flows
    go true q r j g = cc
    go false (Ok x) true j g = cc
    go false (Ok x) false j g = leb-false most_flows (length fs) j
    go false (Err c) r j g = cc

-- the loop: all that is known at its head, of any answer x
module _ (lmin lmax : ℕ) (row : Row) (b : List ℕ) (at : ℕ) (x : Listing) (made : row ≡ row_of (held row))
    (inv : read_flows (most_flows - length (held row)) lmin lmax (held row) b at ≡ x) where
  here : if_kind (kind_at b at) kind.Flow (flow_here (most_flows - length (held row)) lmin lmax (held row) b at) (read_end lmin lmax row b at) ≡ x
  here =
      ap (λ (r : Row). if_kind (kind_at b at) kind.Flow (flow_here (most_flows - length (held row)) lmin lmax (held row) b at) (read_end lmin lmax r b at)) made ∙
      sym (flows_is (most_flows - length (held row)) lmin lmax (held row) b at) ∙ inv

  pub flows_other : (k : Option Kind) (r : Listing) → k ≡ kind_at b at → (k ≡ Some kind.Flow → ⊥) → r ≡ read_end lmin lmax row b at → r ≡ x
  flows_other k r e o g = g ∙ sym (seen_other b at kind.Flow _ _ k e o) ∙ here

  module _ (k : Option Kind) (e : k ≡ kind_at b at) (h : k ≡ Some kind.Flow) (f : Flow) (i : f ≡ flow_at b at) (cause : Ruling) (j : cause ≡ record_cause (held row) f) where
    at-flow : unless cause at (next_after (most_flows - length (held row)) lmin lmax (held row) b at) ≡ x
    at-flow = rw (← i, ← j) at (sym (seen_here b at kind.Flow _ _ k e h) ∙ here)

    pub flows_refused : (c : Cause) (r : Refusal) → cause ≡ Err c → r ≡ record { cause = c; place = at } → Err r ≡ x
    unfolding unless
    flows_refused c r m g = ap Err g ∙ rw m at at-flow

    module _ (m : cause ≡ accepted) where
      flows-room : length (held row) < most_flows
      flows-room = has_room (held row) f (sym j ∙ m)

      flows-held : (next : Row) → next ≡ appended row f → next ≡ row_of (held row ++ (f ∷ []))
      flows-held next g = g ∙ ap (λ (r : Row). appended r f) made ∙ append_list (held row) f flows-room

      pub flows_more : (next : Row) → next ≡ appended row f → read_flows (most_flows - length (held next)) lmin lmax (held next) b (at + flow_record) ≡ x
      unfolding unless next_after
      flows_more next g =
          let n : held next ≡ held row ++ (f ∷ []) = ap held (flows-held next g) ∙ held-row_of (held row ++ (f ∷ [])) in
          let z : most_flows - length (held row) ≡ suc (most_flows - (length (held row) + 1)) = omega (arith, flows-room) in
          let y : next_after (most_flows - length (held row)) lmin lmax (held row) b at ≡ x = rw m at at-flow in
          rw (n, length_snoc (held row) f) (rw (z, ← i) at y)

      pub flows_made : (next : Row) → next ≡ appended row f → next ≡ row_of (held next)
      flows_made next g = let n = flows-held next g in n ∙ ap row_of (sym (ap held n ∙ held-row_of (held row ++ (f ∷ []))))

pub flows-start : (lmin lmax : ℕ) (row : Row) (b : List ℕ) → row ≡ row_of [] →
    read_flows (most_flows - length (held row)) lmin lmax (held row) b links_record ≡ read_after_links lmin lmax b
flows-start lmin lmax row b e = rw (e, held-row_of [])

pub start_made : (row : Row) → row ≡ row_of [] → row ≡ row_of (held row)
start_made row e = e ∙ ap row_of (sym (ap held e ∙ held-row_of []))

-- ---- the first record
module _ (b : List ℕ) where
  pub records_at_links : kind_at b 0 ≡ Some kind.Links →
      read_records b ≡ unless (delay_cause (links_at b 0).lmin (links_at b 0).lmax) 0 (read_after_links (links_at b 0).lmin (links_at b 0).lmax b)
  unfolding read_records
  records_at_links e = if_here (kind_at b 0) kind.Links _ _ e

  pub records_at_other : (kind_at b 0 ≡ Some kind.Links → ⊥) → read_records b ≡ refused Malformed 0
  unfolding read_records
  records_at_other n = if_other (kind_at b 0) kind.Links _ _ n

module _ (b : List ℕ) (k : Option Kind) (e : k ≡ kind_at b 0) where
  pub records_other : (k ≡ Some kind.Links → ⊥) → (r : Refusal) → r ≡ record { cause = Malformed; place = 0 } → Err r ≡ read_records b
  records_other o r g = ap Err g ∙ sym (records_at_other b (λ h. o (e ∙ h)))

  module _ (h : k ≡ Some kind.Links) (l : Links) (i : l ≡ links_at b 0) (cause : Ruling) (j : cause ≡ delay_cause l.lmin l.lmax) where
    fits : cause ≡ delay_cause (links_at b 0).lmin (links_at b 0).lmax
    fits = rw i at j

    first : read_records b ≡ unless cause 0 (read_after_links (links_at b 0).lmin (links_at b 0).lmax b)
    first = rw (← fits) at (records_at_links b (sym e ∙ h))

    pub records_delays : (c : Cause) → cause ≡ Err c → (r : Refusal) → r ≡ record { cause = c; place = 0 } → Err r ≡ read_records b
    unfolding unless
    records_delays c n r g = rw (first, n) (ap Err g)

    pub records_read : cause ≡ accepted → (r : Listing) → r ≡ read_after_links l.lmin l.lmax b → r ≡ read_records b
    unfolding unless
    records_read n r g = rw (first, n) (rw i at g)

-- ---- what is given of the records
module _ (b : List ℕ) (l : Listing) (e : l ≡ read_records b) where
  pub plan_listed : (s : FlowSet) → l ≡ Ok s → record { outcome = Ok tt; set = s } ≡ read_plan b
  plan_listed s h = ap reading_of (sym h ∙ e)

  pub plan_refused : (r : Refusal) → l ≡ Err r → (row : Row) → row ≡ row_of [] →
      record { outcome = Err r; set = record { lmin = 0; lmax = 0; row = row } } ≡ read_plan b
  plan_refused r h row g = rw g (ap reading_of (sym h ∙ e))
