-- The figures of each flow, and the first flow past its deadline, as loops find them.
use Rattle.std.specs.Prelude.{◌≡◌, List, ℕ, ◌+◌, ◌-◌, ◌*◌, ◌≤◌, ◌<◌, length, get_or, ltb, Option, Some, None, Ok, Err}
use Rattle.least.specs.Fold.{sum_of}
use Rattle.rules.specs.Net.{Hop}
use Rattle.rules.specs.Formula.{least}
use Rattle.flows.specs.declared.Flow.{Flow}
use Rattle.flows.specs.declared.Figures.{Figures}
use Rattle.flows.specs.declared.Row.{Row}
use Rattle.flows.specs.Lists.{most_nodes, path_of, held}
use Rattle.row.specs.Rows.{placed}
use Rattle.least.specs.Lists.{values}
use Rattle.flows.specs.declared.Cause.TheVariants.{PastDeadline}
use Rattle.findings.specs.Findings.{FirstIs}
use Rattle.engine.specs.Verdicts.{no_figures, Verdict}

-- the node and the cost at place k of the path
abbrev pub hop_at : Flow → ℕ → Hop
hop_at f k = get_or (path_of f) k (record { node = 0; cost = 0 })

-- bound, jitter, busy length
abbrev pub figure_of : Flow → ℕ → ℕ → ℕ → Figures
figure_of f lmin bound busy = record { bound = bound; jitter = bound - (sum_of least (path_of f) + (length (path_of f) - 1) * lmin); busy = busy }

-- the flow at place k of a row: the response bound at its last node, and its busy length
abbrev pub figure_at : Row → ℕ → List ℕ → List ℕ → ℕ → Figures
figure_at row lmin replies busies k =
    figure_of (placed row k) lmin (values replies (k * most_nodes + (length (path_of (placed row k)) - 1))) (values busies k)

pub record FiguresUpTo (row : Row) (lmin : ℕ) (replies busies : List ℕ) (n : ℕ) (figures : List Figures) : Type 0 where
  pub long : length figures ≡ 16
  pub given : (k : ℕ) → k < n → get_or figures k no_figures ≡ figure_at row lmin replies busies k
  pub rest : (k : ℕ) → n ≤ k → get_or figures k no_figures ≡ no_figures

abbrev pub deadline_at : Row → ℕ → ℕ
deadline_at row k = (placed row k).deadline

abbrev pub bound_at : List Figures → ℕ → ℕ
bound_at figures k = (get_or figures k no_figures).bound

-- 10 with the flow named, where one is past its deadline; or accepted with these figures
abbrev pub verdict_late : Row → List Figures → Option ℕ → Verdict
verdict_late row figures None = Ok figures
verdict_late row figures (Some k) = Err (PastDeadline (placed row k).number)

-- the verdict by the first flow whose bound is past its deadline, if one is
pub record DeadlinesIs (row : Row) (figures : List Figures) (r : Verdict) : Type 0 where
  pub late : Option ℕ
  pub first : FirstIs (λ k. ltb (deadline_at row k) (bound_at figures k)) (length (held row)) late
  pub said : r ≡ verdict_late row figures late
