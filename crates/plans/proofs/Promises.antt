-- What judging a set, and reading and writing a whole plan, promise: the demands, from the equations. Assumes nothing.
use Prim.Native.Nat.{ℕ}
use mathlib.Core.Path.{◌≡◌, refl, sym, ap, ◌∙◌, subst}
use mathlib.Core.List.{List}
use lib.ListN.{length, get_or}
use mir.Val.{Fits}
use mir.Syntax.{w8}
use Rattle.rules.specs.Net as net
use Rattle.rules.specs.Judge.{judged}
use Rattle.rules.proofs.Judge.{judged_is, judged_unique}
use Rattle.flows.specs.declared.Table.{Table}
use Rattle.flows.specs.declared.Answer.{Answer}
use Rattle.std.specs.Prelude.{Result}
use Rattle.flows.specs.declared.Refusal.{Refusal}
use Rattle.flows.specs.Refusals.{Ruling, cause_in}
use Rattle.flows.specs.Lists.{held, net_of}
use Rattle.flows.specs.WellFormed.{Exact}
use Rattle.flows.proofs.Passed.{exact_from}
use Rattle.records.specs.Bodies.{Bytes}
use Rattle.records.proofs.RoundTrip.{bytes_fit}
use Rattle.plan.specs.declared.FlowSet.{FlowSet}
use Rattle.plan.specs.Writing.{set_bytes, written_into, buffer_after}
use Rattle.plan.specs.Demands.{WasRead}
use Rattle.plan.proofs.Sets.{read_proper}
use Rattle.plan.proofs.Promises.{begins, written, writes_back}
use Rattle.engine.specs.Verdicts.{ruling_of, verdict_from, verdict_of}
use Rattle.table.specs.Calls.{empty_table}
use Rattle.table.specs.Made.{Made}
use Rattle.table.proofs.Kept.{made-right}
use Rattle.table.proofs.Calls.{none_present}
use Rattle.table.proofs.Promises.{made-sound}
use Rattle.plans.specs.Plans.{set_answer, plan_answer, set_of, table_bytes}
use Rattle.plans.specs.Demands.{Empty, OfSet, by-judgement, SetJudged, PlanRead, PlanWritten}
use Rattle.plans.proofs.Answers.{set_valid}
use Rattle.plans.proofs.Trips.{judged_place, judged_cause, judged_empty, judged_set, set_made, right_proper, write_read_table, read_write_table, refused_table, accepted_place, answer_made}

none : Empty (empty_table 0 0)
unfolding empty_table
none = record { flows = none_present 0 0; lmin = refl; lmax = refl }

-- ---- judging
module _ (s : FlowSet) (w : WasRead s) where
  abbrev N : net.Net
  N = net_of s.lmin s.lmax s.row

  said : cause_in (set_answer s).outcome ≡ ruling_of (verdict_from (judged N))
  unfolding verdict_of
  said = judged_cause s

  -- 7 to 10: each is given exactly when the rules say so, with the least flow at fault
  judging_exact : Exact (cause_in (set_answer s).outcome) (OfSet s)
  judging_exact =
      exact_from (OfSet s) (cause_in (set_answer s).outcome) (subst (OfSet s) (sym said) (by-judgement (judged N) (judged_is N (set_valid s w)))) only
    where
      only : (c : Ruling) → OfSet s c → c ≡ cause_in (set_answer s).outcome
      only c (by-judgement v j) =
          ap (λ (i : net.Judgement). ruling_of (verdict_from i)) (judged_unique N (set_valid s w) v (judged N) j (judged_is N (set_valid s w))) ∙ sym said

  judges : SetJudged s (set_answer s)
  judges = record {
    cause = judging_exact;
    place = judged_place s;
    accepted = λ a. judged_set s a;
    bytes = λ a. ap set_bytes (judged_set s a);
    refused = λ never. subst Empty (sym (judged_empty s never)) none;
    sound = made-sound (set_answer s).table (set_made s (read_proper s w));
  }

pub judge_promise : (s : FlowSet) (r : Answer) → (WasRead s → r ≡ set_answer s) → WasRead s → SetJudged s r
judge_promise s r e w = subst (SetJudged s) (sym (e w)) (judges s w)

-- ---- writing
module _ (t : Table) (m : Made t) (old : List ℕ) where
  abbrev answer : Result ℕ Refusal
  answer = written_into (length old) (length (held t.row))

  abbrev after : List ℕ
  after = buffer_after t.lmin t.lmax (held t.row) old

  writes : PlanWritten t old answer after
  writes =
      let p = right_proper t (made-right t m) in
      record {
        set = written (set_of t) p old;
        read = λ h. ap plan_answer (begins (set_of t) p old h) ∙ write_read_table t m;
        plan = λ h b u a e. begins (set_of t) p old h ∙ ap table_bytes (sym e) ∙ read_write_table b u a;
      }

pub write_promise : (t : Table) (old : List ℕ) (r : Result ℕ Refusal) (new : List ℕ) → r ≡ written_into (length old) (length (held t.row)) →
    new ≡ buffer_after t.lmin t.lmax (held t.row) old → Made t → PlanWritten t old r new
write_promise t old r new e g m =
    subst (λ (l : List ℕ). PlanWritten t old r l) (sym g) (subst (λ (q : Result ℕ Refusal). PlanWritten t old q (after t m old)) (sym e) (writes t m old))

-- ---- reading, then judging
module _ (b : List ℕ) (u : Bytes b) where
  abbrev t : Table
  t = (plan_answer b).table

  read : PlanRead b (plan_answer b)
  read = record {
    accepted =
        λ a. (
          accepted_place b a,
          λ old. writes_back (set_of t) (right_proper t (made-right t (answer_made b u))) old b (read_write_table b u a),
        );
    refused = λ never. subst Empty (sym (refused_table b never)) none;
    sound = made-sound t (answer_made b u);
  }

pub read_promise : (b : List ℕ) → ((k : ℕ) → Fits w8 (get_or b k 0)) → (r : Answer) → r ≡ plan_answer b → PlanRead b r
read_promise b f r e = subst (PlanRead b) (sym e) (read b (bytes_fit b f))
