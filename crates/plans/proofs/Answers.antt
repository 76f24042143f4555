-- A law for each way out. Assumes nothing.
use Prim.Native.Nat.{ℕ}
use mathlib.Core.Path.{◌≡◌, sym, ap, ◌∙◌}
use mathlib.Core.List.{List}
use lib.ListN.{get_or}
use mir.Val.{Fits}
use mir.Syntax.{w8}
use Rattle.std.specs.Prelude.{Result, Ok, Err}
use Rattle.rules.specs.Valid.{Valid}
use Rattle.flows.specs.declared.Figures.{Figures}
use Rattle.flows.specs.declared.Answer.{Answer}
use Rattle.flows.specs.declared.Refusal.{Refusal}
use Rattle.flows.specs.declared.Cause.{Cause}
use Rattle.flows.specs.Lists.{held, net_of}
use Rattle.row.proofs.Valid.{readable_valid}
use Rattle.records.proofs.RoundTrip.{bytes_fit}
use Rattle.plan.specs.declared.FlowSet.{FlowSet}
use Rattle.plan.specs.declared.Reading.{Reading}
use Rattle.plan.specs.Reading.{read_plan}
use Rattle.plan.specs.Demands.{WasRead}
use Rattle.plan.proofs.Sets.{read_proper}
use Rattle.engine.specs.Verdicts.{Verdict, verdict_of}
use Rattle.plans.specs.Plans.{refused_plan, accepted_plan, decided_by, set_answer, answer_as, answer_to, plan_answer}

-- ---- the set
pub set_valid : (s : FlowSet) → WasRead s → Valid (net_of s.lmin s.lmax s.row)
set_valid s w = readable_valid s.lmin s.lmax (held s.row) (read_proper s w).readable

module _ (s : FlowSet) (v : Verdict) (e : Valid (net_of s.lmin s.lmax s.row) → v ≡ verdict_of s.lmin s.lmax s.row) where
  pub set_refused : (c : Cause) → v ≡ Err c → (q : Refusal) → q ≡ record { cause = c; place = 0 } → (r : Answer) → r ≡ refused_plan q → WasRead s → r ≡ set_answer s
  unfolding set_answer decided_by
  set_refused c h q i r j w = j ∙ rw (← e (set_valid s w), h, i)

  pub set_accepted : (figures : List Figures) → v ≡ Ok figures → WasRead s →
      record { outcome = Ok tt; table = record { lmin = s.lmin; lmax = s.lmax; row = s.row; figures = figures } } ≡ set_answer s
  unfolding set_answer decided_by accepted_plan
  set_accepted figures h w = rw (← e (set_valid s w), h)

-- ---- the plan
module _ (b : List ℕ) (reading : Reading) (e : reading ≡ read_plan b) where
  pub plan_refused : (q : Refusal) → reading.outcome ≡ Err q → (r : Answer) → r ≡ refused_plan q → r ≡ plan_answer b
  unfolding plan_answer answer_as
  plan_refused q i r j = j ∙ ap (λ (o : Result (Unit {0}) Refusal). answer_as o reading.set) (sym i) ∙ ap answer_to e

  pub plan_judged : ((k : ℕ) → Fits w8 (get_or b k 0)) → reading.outcome ≡ Ok tt → (r : Answer) → (WasRead reading.set → r ≡ set_answer reading.set) →
      r ≡ plan_answer b
  unfolding plan_answer answer_as
  plan_judged f h r j =
      j (record { bytes = b; fit = bytes_fit b f; given = ap (λ (q : Reading). q.set) (sym e) }) ∙
      ap (λ (o : Result (Unit {0}) Refusal). answer_as o reading.set) (sym h) ∙ ap answer_to e
