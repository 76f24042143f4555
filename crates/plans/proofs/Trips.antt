-- Reading and judging a written table gives that table; writing the table of an accepted plan gives its bytes; the table of a set is as if made by calls.
-- Assumes nothing.
use Prim.Native.Nat.{ℕ}
use mathlib.Core.Path.{◌≡◌, refl, sym, ap, ◌∙◌, subst}
use mathlib.Core.List.{List}
use Rattle.rules.specs.Net as net
use Rattle.rules.specs.Judge.{judged}
use Rattle.flows.specs.declared.Table.{Table}
use Rattle.flows.specs.declared.Answer.{Answer}
use Rattle.std.specs.Prelude.{true, Result, Ok, Err}
use Rattle.flows.specs.declared.Figures.{Figures}
use Rattle.flows.specs.declared.Refusal.{Refusal}
use Rattle.flows.specs.declared.Cause.{Cause}
use Rattle.flows.specs.Refusals.{accepted_by, accepted, cause_in, place_in}
use Rattle.flows.specs.Lists.{net_of}
use Rattle.records.specs.Bodies.{Bytes}
use Rattle.reader.proofs.Places.{impossible}
use Rattle.plan.specs.declared.FlowSet.{FlowSet}
use Rattle.plan.specs.Reading.{read_plan}
use Rattle.plan.specs.Writing.{set_bytes}
use Rattle.plan.proofs.Sets.{Proper, read_proper, write_read-set, read_write}
use Rattle.engine.specs.Verdicts.{Verdict, listed, ruling_of, verdict_from, verdict_of}
use Rattle.flows.specs.Tests.{delay_cause}
use Rattle.table.specs.Calls.{empty_table, answered, unless, fresh_answer}
use Rattle.table.specs.Made.{Made, by_fresh}
use Rattle.table.proofs.Kept.{Right, made-right}
use Rattle.table.proofs.Sets.{right_made}
use Rattle.plans.specs.Plans.{refused_plan, accepted_plan, decided_by, set_answer, answer_as, answer_to, plan_answer, set_of, table_bytes}

-- ---- a set that is judged
abbrev net_in : FlowSet → net.Net
net_in s = net_of s.lmin s.lmax s.row

given-decided : (s : FlowSet) (gs : List net.Figures) → judged (net_in s) ≡ net.Given gs → set_answer s ≡ accepted_plan s (listed gs)
unfolding set_answer decided_by verdict_of verdict_from
given-decided s gs j = ap (λ (v : net.Judgement). decided_by s (verdict_from v)) j

record Given (v : net.Judgement) : Type 0 where
  givens : List net.Figures
  judgement : v ≡ net.Given givens

only-given : (v : net.Judgement) (figures : List Figures) → verdict_from v ≡ Ok figures → Given v
unfolding verdict_from
only-given (net.Refused k n) figures h = impossible (cc)
only-given (net.Given gs) figures h = record { givens = gs; judgement = refl }

module _ (s : FlowSet) where
  abbrev verdict : Verdict
  verdict = verdict_of s.lmin s.lmax s.row

  -- by whether the verdict refuses
  decided : {A : Type 0} → ((figures : List Figures) → verdict ≡ Ok figures → set_answer s ≡ accepted_plan s figures → A) →
      ((c : Cause) → verdict ≡ Err c → set_answer s ≡ refused_plan (record { cause = c; place = 0 }) → A) → A
  unfolding set_answer decided_by
  decided {A} accepts refuses = go verdict refl refl
    where
      go : (v : Verdict) → verdict ≡ v → set_answer s ≡ decided_by s v → A
      go (Ok figures) = accepts figures
      go (Err c) = refuses c

  pub judged_place : place_in (set_answer s).outcome ≡ 0
  unfolding accepted_plan refused_plan
  judged_place = decided (λ fs h e. ap (λ (a : Answer). place_in a.outcome) e) (λ c h e. ap (λ (a : Answer). place_in a.outcome) e)

  pub judged_cause : cause_in (set_answer s).outcome ≡ ruling_of verdict
  unfolding accepted_plan refused_plan
  judged_cause =
      decided (λ fs h e. ap (λ (a : Answer). cause_in a.outcome) e ∙ sym (ap ruling_of h))
      (λ c h e. ap (λ (a : Answer). cause_in a.outcome) e ∙ sym (ap ruling_of h))

  -- no flows and no link delays if the set is refused. RULES, tables
  pub judged_empty : (cause_in (set_answer s).outcome ≡ accepted → ⊥) → (set_answer s).table ≡ empty_table 0 0
  unfolding accepted_plan refused_plan
  judged_empty never = decided (λ fs h e. absurd (never (ap (λ (a : Answer). cause_in a.outcome) e))) (λ c h e. ap (λ (a : Answer). a.table) e)

  module _ (h : cause_in (set_answer s).outcome ≡ accepted) where
    -- The table of a set has its link delays and flows
    pub judged_set : set_of (set_answer s).table ≡ s
    unfolding accepted_plan refused_plan
    judged_set = decided (λ fs g e. ap (λ (a : Answer). set_of a.table) e) (λ c g e. let x = ap (λ (a : Answer). cause_in a.outcome) e in impossible (cc))

  -- It could have been made by calls
  pub set_made : Proper s → Made (set_answer s).table
  unfolding accepted_plan refused_plan verdict_of fresh_answer unless answered delay_cause
  set_made p = decided accepted_made (λ c h e. subst (λ (a : Answer). Made a.table) (sym e) (by_fresh 0 0))
    where
      accepted_made : (figures : List Figures) → verdict ≡ Ok figures → set_answer s ≡ accepted_plan s figures → Made (set_answer s).table
      accepted_made figures h e =
          let o = only-given (judged (net_in s)) figures h in
          let t : Table = (accepted_plan s (listed o.givens)).table in
          subst (λ (a : Answer). Made a.table) (sym (given-decided s o.givens o.judgement))
          (right_made t (record { set = p.readable; row = p.row; givens = o.givens; accepted = o.judgement; figures = refl }))

  pub judged_made : accepted_by (cause_in (set_answer s).outcome) ≡ true → Proper s → Made (set_answer s).table
  judged_made h p = set_made p

-- ---- written, then read and judged
module _ (t : Table) (r : Right t) where
  pub right_proper : Proper (set_of t)
  right_proper = record { readable = r.set; row = r.row }

  right-back : plan_answer (table_bytes t) ≡ answered accepted t
  unfolding plan_answer answer_as accepted_plan answered
  right-back =
      ap answer_to (write_read-set (set_of t) right_proper) ∙ given-decided (set_of t) r.givens r.accepted ∙
      ap (accepted_plan (set_of t)) (sym r.figures)

-- Reading a written table gives that table
pub write_read_table : (t : Table) → Made t → plan_answer (table_bytes t) ≡ answered accepted t
write_read_table t m = right-back t (made-right t m)

-- ---- read, then judged
module _ (b : List ℕ) where
  abbrev s : FlowSet
  s = (read_plan b).set

  -- The two in turn: by whether the records are read
  pub in_turn : {A : Type 0} → ((read_plan b).outcome ≡ Ok tt → plan_answer b ≡ set_answer s → A) →
      ((r : Refusal) → (read_plan b).outcome ≡ Err r → plan_answer b ≡ refused_plan r → A) → A
  unfolding plan_answer answer_as
  in_turn {A} is_read is-refused = go (read_plan b).outcome refl refl
    where
      go : (o : Result (Unit {0}) Refusal) → (read_plan b).outcome ≡ o → plan_answer b ≡ answer_as o s → A
      go (Ok tt) e g = is_read e g
      go (Err r) e g = is-refused r e g

  -- no flows and no link delays if the plan is refused. RULES, tables
  pub refused_table : (cause_in (plan_answer b).outcome ≡ accepted → ⊥) → (plan_answer b).table ≡ empty_table 0 0
  unfolding refused_plan
  refused_table never =
      in_turn (λ g e. ap (λ (a : Answer). a.table) e ∙ judged_empty s (subst (λ (a : Answer). cause_in a.outcome ≡ accepted → ⊥) e never))
      (λ r g e. ap (λ (a : Answer). a.table) e)

  -- what holds of the set's answer holds of the plan's, if it is accepted
  through : (P : Answer → Type 0) → cause_in (plan_answer b).outcome ≡ accepted →
      ((read_plan b).outcome ≡ Ok tt → cause_in (set_answer s).outcome ≡ accepted → P (set_answer s)) → P (plan_answer b)
  unfolding refused_plan
  through P h f =
      in_turn (λ g e. subst P (sym e) (f g (subst (λ (a : Answer). cause_in a.outcome ≡ accepted) e h)))
      (λ r g e. let x = ap (λ (a : Answer). cause_in a.outcome) e in impossible (cc))

  pub accepted_place : cause_in (plan_answer b).outcome ≡ accepted → place_in (plan_answer b).outcome ≡ 0
  accepted_place h = through (λ a. place_in a.outcome ≡ 0) h (λ g i. judged_place s)

  module _ (u : Bytes b) where
    -- Writing a table read from an accepted plan gives its bytes
    pub read_write_table : cause_in (plan_answer b).outcome ≡ accepted → table_bytes (plan_answer b).table ≡ b
    read_write_table h =
        through (λ a. table_bytes a.table ≡ b) h
        (λ g i. ap set_bytes (judged_set s i) ∙ read_write b u s (ap (λ (o : Result (Unit {0}) Refusal). record { outcome = o; set = s }) g))

    -- The table of any plan could have been made by calls
    pub answer_made : Made (plan_answer b).table
    unfolding fresh_answer unless answered delay_cause refused_plan
    answer_made =
        in_turn (λ g e. subst (λ (a : Answer). Made a.table) (sym e) (set_made s (read_proper s (record { bytes = b; fit = u; given = refl }))))
        (λ r g e. subst (λ (a : Answer). Made a.table) (sym e) (by_fresh 0 0))
