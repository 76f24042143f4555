-- The rules' judgement of a row's flows, as the code gives it.
use Rattle.std.specs.Prelude.{ℕ, ◌-◌, ◌≡◌, cond, List, ◌++◌, map, eqb, length, replicate, Result, Ok, Err}
use Rattle.std.specs.Result.{result_unwrap_or}
use Rattle.rules.specs.Net as net
use Rattle.rules.specs.Meaning.{Judged}
use Rattle.rules.specs.Judge.{judged}
use Rattle.flows.specs.declared.Figures.{Figures}
use Rattle.flows.specs.declared.Row.{Row}
use Rattle.flows.specs.declared.Cause.{Cause}
use Rattle.flows.specs.declared.Cause.TheVariants.{Crossing, NoBusyLength, Unsettled, PastDeadline}
use Rattle.flows.specs.Refusals.{Ruling, accepted}
use Rattle.flows.specs.Lists.{most_flows, net_of}

abbrev pub no_figures : Figures
no_figures = record { bound = 0; jitter = 0; busy = 0 }

-- the figures of each flow, or why there are none
abbrev pub Verdict : Type 0
Verdict = Result (List Figures) Cause

abbrev pub as_figures : net.Figures → Figures
as_figures f = record { bound = f.bound; jitter = f.jitter; busy = f.busy }

-- 7, 8, 9, 10 with the flow named
unfoldable pub cause_of : ℕ → ℕ → Cause
cause_of k n = cond (eqb k 7) (Crossing n) (cond (eqb k 8) (NoBusyLength n) (cond (eqb k 9) Unsettled (PastDeadline n)))

-- the figures in the order of the flows; unused places are zero
unfoldable pub listed : List net.Figures → List Figures
listed fs = map as_figures fs ++ replicate (most_flows - length fs) no_figures

unfoldable pub verdict_from : net.Judgement → Verdict
verdict_from (net.Refused k n) = Err (cause_of k n)
verdict_from (net.Given fs) = Ok (listed fs)

unfoldable pub verdict_of : ℕ → ℕ → Row → Verdict
verdict_of lmin lmax row = verdict_from (judged (net_of lmin lmax row))

-- whether a verdict accepts, and its figures: none, where it does not
abbrev pub ruling_of : Verdict → Ruling
ruling_of (Ok figures) = accepted
ruling_of (Err cause) = Err cause

abbrev pub figures_in : Verdict → List Figures
figures_in v = result_unwrap_or v (replicate most_flows no_figures)

-- the verdict of the judgement that the rules mean, which is the only one
pub record Meant (N : net.Net) (r : Verdict) : Type 0 where
  pub judgement : net.Judgement
  pub meant : Judged N judgement
  pub said : r ≡ verdict_from judgement
  pub only : (v : net.Judgement) → Judged N v → v ≡ judgement
