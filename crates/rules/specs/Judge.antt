-- The figures and the judgement as functions that compute. That they are what Meaning says is proofs/Judge.
use Rattle.std.specs.Prelude.{Bool, true, false, List, [], ◌∷◌, map, ℕ, suc, ◌+◌, ◌*◌, leb, ltb, eqb, length}
use Rattle.least.specs.Count.{pick}
use Rattle.least.specs.Fold.{sum_of, max_of, only, any_of}
use Rattle.least.specs.Fixed.{climb, cap, floored}
use Rattle.least.specs.Vector.{settle_by}
use Rattle.least.specs.Instants.{best_to}
use Rattle.least.specs.Starts.{start_to}
use Rattle.rules.specs.Net.{Hop, Flow, Net, Figures, Judgement, Refused, Given}
use Rattle.rules.specs.Formula.{horizon, visits, last_node, both, cost_at, Arrivals, sum, load, jitter_of}

-- the busy length, or H + 1 if there is none
unfoldable pub busy_length : Net → Flow → ℕ
busy_length N i = climb (cap horizon (floored 1 (load N i))) (suc (suc horizon)) 0

unfoldable pub start : Net → Flow → Arrivals → ℕ → ℕ → ℕ
start N i S u h = start_to (sum N i S u) (busy_length N i) (length i.path) h

unfoldable pub response : Net → Flow → Arrivals → ℕ → ℕ
response N i S h = best_to (λ u. start N i S u h + cost_at i.path h + i.jitter) (busy_length N i)

-- a flow's response bounds at the nodes of its path, in order
pub record Reply : Type 0 where
  pub flow : Flow
  pub responses : List ℕ

-- the arrival bounds that replies give
unfoldable pub arriving_by : ℕ → ℕ → List Hop → List ℕ → ℕ → ℕ
arriving_by lmax a [] rs h = 0
arriving_by lmax a (k ∷ ks) [] h = 0
arriving_by lmax a (k ∷ ks) (r ∷ rs) h = pick (eqb k.node h) a (arriving_by lmax (r + lmax) ks rs h)

unfoldable pub arrivals_by : Net → List Reply → Arrivals
arrivals_by N c k =
    max_of (only (λ q. eqb q.flow.number k.0) (λ q. arriving_by N.lmax 0 q.flow.path q.responses k.1)) c

unfoldable pub replies : Net → Arrivals → List Reply
replies N S = map (λ i. record { flow = i; responses = map (λ k. response N i S k.node) i.path }) N.flows

-- one round, and whether the next brings nothing or this one is past the horizon
unfoldable pub round : Net → List Reply → List Reply
round N c = replies N (arrivals_by N c)

unfoldable pub past_horizon : List Reply → Bool
past_horizon c = any_of (λ q. any_of (λ r. ltb horizon r) q.responses) c

unfoldable pub total : List Reply → ℕ
total c = sum_of (λ q. sum_of (λ r. r) q.responses) c

unfoldable pub still : List Reply → List Reply → Bool
still c d = pick (past_horizon c) true (leb (total d) (total c))

-- Rounds from zero until they are still. Each other round adds to a total of at most nodes × H, so there are enough: proofs/Rounds.
unfoldable pub rounds : Net → ℕ
rounds N = suc (sum_of (λ i. length i.path * horizon) N.flows)

unfoldable pub settle : Net → List Reply
settle N = settle_by still (round N) (rounds N) (round N [])

unfoldable pub figures : Net → Arrivals → Flow → Figures
figures N S i =
    let b = response N i S (last_node i.path) in
    record { bound = b; jitter = jitter_of N i b; busy = busy_length N i }

-- left, and met again: the path l against P, once it has met P, and from its beginning
unfoldable pub meets_again : List Hop → List Hop → Bool
meets_again P [] = false
meets_again P (k ∷ l) = pick (visits P k.node) (meets_again P l) (any_of (λ m. visits P m.node) l)

unfoldable pub returns : List Hop → List Hop → Bool
returns P [] = false
returns P (k ∷ l) = pick (visits P k.node) (meets_again P l) (returns P l)

unfoldable pub misplaced : Net → Flow → Bool
misplaced N i = any_of (λ j. both (leb i.priority j.priority) (returns i.path j.path)) N.flows

-- what is said of the first flow that fails a test, or otherwise
unfoldable pub first_or : (Flow → Bool) → (ℕ → Judgement) → List Flow → Judgement → Judgement
first_or p f [] other = other
first_or p f (i ∷ l) other = elim (p i) [ true ↦ f i.number | false ↦ first_or p f l other ]

-- 9, then 10, or the figures of each flow
unfoldable pub settled_judged : Net → Judgement
settled_judged N =
    let c = settle N in
    elim (past_horizon c) [
      | true ↦ Refused 9 0
      | false ↦ (
          let f = figures N (arrivals_by N c) in
          first_or (λ i. ltb i.deadline (f i).bound) (Refused 10) N.flows (Given (map f N.flows)))
    ]

-- 8 before that, and 7 before all
unfoldable pub load_judged : Net → Judgement
load_judged N = first_or (λ i. ltb horizon (busy_length N i)) (Refused 8) N.flows (settled_judged N)

unfoldable pub judged : Net → Judgement
judged N = first_or (misplaced N) (Refused 7) N.flows (load_judged N)
