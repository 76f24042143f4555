-- The cases with *, sets that tell readings apart, and crossing paths, as lists of rows: the judgement of each row's set is the expected one. RULES, cases.
use Rattle.std.specs.Prelude.{◌≡◌, refl, List, [], ◌∷◌, ℕ}
use Rattle.least.specs.Count.{count, ceil}
use Rattle.least.specs.Fold.{sum_of, max_of, min_of, any_of, keep}
use Rattle.least.specs.Fixed.{climb}
use Rattle.least.specs.Vector.{settle_by}
use Rattle.least.specs.Instants.{best_to}
use Rattle.least.specs.Starts.{start_to}
use Rattle.rules.specs.Net.{Hop, Flow, Net, Figures, Judgement, Refused, Given}
use Rattle.rules.specs.Formula.{horizon, role, visits, prefix, before, last_node, first_on, last_on, there, crossings, smin, runs_along, along, least_cost, M, slowest, weight, own_weight, earliest, slowest_node, plus_a, less_a, term1, term2, packets, others, term3, greatest_cost, term4, lower_cost, term5, term6, sum, load, jitter_of}
use Rattle.rules.specs.Judge.{busy_length, start, response, arriving_by, arrivals_by, replies, round, past_horizon, total, still, rounds, settle, figures, meets_again, returns, misplaced, first_or, settled_judged, load_judged, judged}

hop : ℕ → ℕ → Hop
hop n c = record { node = n; cost = c }

-- number, priority, T, J, D, path
flow : ℕ → ℕ → ℕ → ℕ → ℕ → List Hop → Flow
flow n p t j d l = record { number = n; priority = p; period = t; jitter = j; deadline = d; path = l }

-- one node of a cost, J = 0, D = 60
plain : ℕ → ℕ → ℕ → ℕ → Flow
plain n p c t = flow n p t 0 60 (hop 1 c ∷ [])

-- bound/jitter/busy
fig : ℕ → ℕ → ℕ → Figures
fig b j l = record { bound = b; jitter = j; busy = l }

pub record Row : Type 0 where
  pub net : Net
  pub expected : Judgement

-- Lmin, Lmax
between : ℕ → ℕ → List Flow → Judgement → Row
between least most l e = record { net = record { lmin = least; lmax = most; flows = l }; expected = e }

on : ℕ → List Flow → Judgement → Row
on m l e = between 1 m l e

row : List Flow → Judgement → Row
row l e = on 1 l e

pub rows : List Row
rows =
    -- 2, 3, 4, 5
    row (flow 1 0 20 0 60 (hop 1 4 ∷ hop 2 4 ∷ []) ∷ []) (Given (fig 9 0 4 ∷ []))
    ∷ row (plain 1 0 3 10 ∷ plain 2 0 5 20 ∷ []) (Given (fig 8 5 8 ∷ fig 8 3 8 ∷ []))
    ∷ row (plain 1 1 3 10 ∷ plain 2 0 5 20 ∷ []) (Given (fig 7 4 3 ∷ fig 8 3 8 ∷ []))
    ∷ row (flow 1 1 10 8 60 (hop 1 3 ∷ []) ∷ plain 2 0 5 20 ∷ []) (Given (fig 15 12 3 ∷ fig 11 6 8 ∷ []))
    -- 6, 7, 8
    ∷ row (flow 1 0 100 10 60 (hop 1 1 ∷ []) ∷ plain 2 0 50 100 ∷ []) (Given (fig 51 50 51 ∷ fig 51 1 51 ∷ []))
    ∷ row (flow 1 0 20 0 60 (hop 1 4 ∷ hop 2 4 ∷ []) ∷ flow 2 0 20 0 60 (hop 2 3 ∷ []) ∷ []) (Given (fig 12 3 7 ∷ fig 7 4 7 ∷ []))
    ∷ row (plain 1 0 5 10 ∷ plain 2 0 5 10 ∷ []) (Given (fig 10 5 10 ∷ fig 10 5 10 ∷ []))
    -- 9
    ∷ row (plain 1 0 6 10 ∷ plain 2 0 5 10 ∷ []) (Refused 8 1)
    -- 10
    ∷ row (flow 1 0 10 65534 65535 (hop 1 1 ∷ []) ∷ []) (Given (fig 65535 65534 1 ∷ []))
    ∷ row (flow 1 0 10 65535 65535 (hop 1 1 ∷ []) ∷ []) (Refused 9 0)
    -- 11
    ∷ row (plain 1 1 3 10 ∷ flow 2 0 20 0 8 (hop 1 5 ∷ []) ∷ []) (Given (fig 7 4 3 ∷ fig 8 3 8 ∷ []))
    ∷ row (plain 1 1 3 10 ∷ flow 2 0 20 0 7 (hop 1 5 ∷ []) ∷ []) (Refused 10 2)
    ∷ []

-- Small sets that tell the formula from readings near it. The expected figures were worked out by the second program, which shares nothing with these definitions.
pub apart : List Row
apart =
    on 1 (flow 1 1 20 0 60 (hop 1 2 ∷ hop 2 1 ∷ hop 3 1 ∷ []) ∷ flow 2 2 20 0 60 (hop 3 1 ∷ hop 1 1 ∷ []) ∷ flow 3 2 3 0 60 (hop 2 1 ∷ []) ∷ []) (Given (fig 8 2 5 ∷ fig 4 1 1 ∷ fig 1 0 1 ∷ []))
    ∷ on 1 (flow 1 1 20 0 60 (hop 1 1 ∷ hop 2 1 ∷ []) ∷ flow 2 2 20 0 60 (hop 1 2 ∷ hop 2 1 ∷ []) ∷ []) (Given (fig 3 0 3 ∷ fig 4 0 2 ∷ []))
    ∷ on 1 (flow 1 1 20 0 60 (hop 1 1 ∷ hop 2 1 ∷ []) ∷ flow 2 2 3 0 60 (hop 1 1 ∷ []) ∷ []) (Given (fig 4 1 2 ∷ fig 1 0 1 ∷ []))
    ∷ on 1 (flow 1 1 20 0 60 (hop 1 2 ∷ []) ∷ flow 2 1 20 0 60 (hop 1 1 ∷ hop 2 1 ∷ []) ∷ []) (Given (fig 3 1 3 ∷ fig 5 2 3 ∷ []))
    ∷ on 1 (flow 1 1 20 0 60 (hop 1 1 ∷ hop 2 2 ∷ []) ∷ flow 2 2 20 0 60 (hop 1 1 ∷ hop 2 1 ∷ []) ∷ []) (Given (fig 5 1 3 ∷ fig 4 1 1 ∷ []))
    ∷ on 1 (flow 1 1 20 65531 65535 (hop 1 2 ∷ hop 2 1 ∷ []) ∷ flow 2 2 20 0 60 (hop 1 3 ∷ hop 2 1 ∷ []) ∷ []) (Refused 9 0)
    ∷ on 1 (flow 1 1 20 0 60 (hop 1 1 ∷ hop 2 1 ∷ []) ∷ flow 2 1 20 0 60 (hop 2 1 ∷ []) ∷ []) (Given (fig 4 1 2 ∷ fig 2 1 2 ∷ []))
    ∷ on 1 (flow 1 1 5 0 60 (hop 1 1 ∷ hop 2 2 ∷ []) ∷ flow 2 1 20 0 60 (hop 2 1 ∷ hop 1 1 ∷ []) ∷ []) (Given (fig 5 1 3 ∷ fig 7 4 3 ∷ []))
    ∷ on 1 (flow 1 2 20 0 60 (hop 1 1 ∷ []) ∷ flow 2 1 20 0 60 (hop 1 1 ∷ []) ∷ []) (Given (fig 1 0 1 ∷ fig 2 1 2 ∷ []))
    ∷ on 1 (flow 1 1 7 0 60 (hop 1 1 ∷ hop 2 1 ∷ []) ∷ flow 2 1 20 0 60 (hop 2 2 ∷ hop 1 1 ∷ []) ∷ []) (Given (fig 5 2 3 ∷ fig 6 2 3 ∷ []))
    ∷ on 1 (flow 1 1 20 0 60 (hop 1 1 ∷ hop 2 1 ∷ []) ∷ flow 2 1 9 0 60 (hop 2 2 ∷ hop 1 1 ∷ []) ∷ []) (Given (fig 5 2 3 ∷ fig 5 1 3 ∷ []))
    ∷ on 1 (flow 1 1 4 0 60 (hop 2 1 ∷ []) ∷ flow 2 1 20 0 60 (hop 1 4 ∷ hop 2 1 ∷ []) ∷ []) (Given (fig 2 1 2 ∷ fig 7 1 6 ∷ []))
    ∷ on 1 (flow 1 1 20 0 60 (hop 1 1 ∷ hop 2 1 ∷ []) ∷ flow 2 1 20 0 60 (hop 2 2 ∷ hop 1 1 ∷ []) ∷ []) (Given (fig 5 2 3 ∷ fig 5 1 3 ∷ []))
    ∷ on 2 (flow 1 1 20 0 60 (hop 1 1 ∷ hop 2 1 ∷ []) ∷ flow 2 1 20 1 60 (hop 2 1 ∷ []) ∷ []) (Given (fig 5 2 2 ∷ fig 3 2 2 ∷ []))
    ∷ on 2 (flow 1 1 20 0 60 (hop 1 1 ∷ hop 2 1 ∷ []) ∷ flow 2 2 4 0 60 (hop 2 2 ∷ []) ∷ []) (Given (fig 9 6 3 ∷ fig 2 0 2 ∷ []))
    ∷ on 2 (flow 1 1 20 0 60 (hop 1 1 ∷ hop 2 1 ∷ []) ∷ []) (Given (fig 4 1 1 ∷ []))
    ∷ []

-- Further sets of that kind: each stands below the reading that gives another figure.
pub near : List Row
near =
    -- l in the order of j's path
    between 0 0 (flow 1 0 20 0 60 (hop 1 1 ∷ hop 2 1 ∷ []) ∷ flow 2 1 4 1 60 (hop 2 1 ∷ hop 1 1 ∷ []) ∷ []) (Given (fig 4 2 2 ∷ fig 3 1 1 ∷ []))
    -- Smin(j,g) left out of term 2
    ∷ between 1 1 (flow 1 1 20 0 60 (hop 2 1 ∷ []) ∷ flow 2 1 2 0 60 (hop 1 1 ∷ hop 2 1 ∷ []) ∷ []) (Given (fig 2 1 2 ∷ fig 4 1 2 ∷ []))
    -- own slowest cost, or slowest node, of the whole path
    ∷ between 0 0 (flow 1 0 20 0 60 (hop 1 1 ∷ []) ∷ flow 2 1 3 0 60 (hop 2 1 ∷ hop 1 2 ∷ []) ∷ []) (Given (fig 3 2 3 ∷ fig 3 0 2 ∷ []))
    -- V at the node before h
    ∷ between 0 0 (flow 1 1 2 0 60 (hop 4 1 ∷ []) ∷ flow 2 0 20 0 60 (hop 4 1 ∷ hop 3 1 ∷ hop 2 1 ∷ []) ∷ []) (Given (fig 1 0 1 ∷ fig 4 1 2 ∷ []))
    -- running along on the whole path in term 4
    ∷ between 1 1 (flow 1 0 20 6 60 (hop 1 1 ∷ hop 2 2 ∷ []) ∷ flow 2 0 20 0 60 (hop 3 1 ∷ hop 2 1 ∷ hop 1 1 ∷ []) ∷ []) (Given (fig 11 7 3 ∷ fig 8 3 3 ∷ []))
    -- M without the other flows
    ∷ between 0 1 (flow 1 1 4 0 60 (hop 4 1 ∷ []) ∷ flow 2 1 20 0 60 (hop 2 1 ∷ []) ∷ flow 3 0 20 0 60 (hop 2 2 ∷ hop 4 1 ∷ []) ∷ []) (Given (fig 1 0 1 ∷ fig 2 1 1 ∷ fig 7 4 4 ∷ []))
    ∷ []

-- Paths that leave another path and meet it again, in each order and priority.
pub crossed : List Row
crossed =
    row (flow 1 5 100 0 60 (hop 1 1 ∷ hop 2 1 ∷ hop 3 1 ∷ []) ∷ flow 2 6 100 0 60 (hop 1 1 ∷ hop 3 1 ∷ []) ∷ []) (Given (fig 6 1 2 ∷ fig 3 0 1 ∷ []))
    ∷ row (flow 1 5 100 0 60 (hop 1 1 ∷ hop 2 1 ∷ hop 3 1 ∷ []) ∷ flow 2 5 100 0 60 (hop 1 1 ∷ hop 3 1 ∷ []) ∷ []) (Refused 7 2)
    ∷ row (flow 1 5 100 0 60 (hop 1 1 ∷ hop 2 1 ∷ hop 3 1 ∷ []) ∷ flow 2 4 100 0 60 (hop 1 1 ∷ hop 3 1 ∷ []) ∷ []) (Refused 7 2)
    ∷ row (flow 1 5 100 0 60 (hop 1 1 ∷ hop 3 1 ∷ []) ∷ flow 2 6 100 0 60 (hop 1 1 ∷ hop 2 1 ∷ hop 3 1 ∷ []) ∷ []) (Refused 7 1)
    ∷ row (flow 1 5 100 0 60 (hop 1 1 ∷ hop 3 1 ∷ []) ∷ flow 2 5 100 0 60 (hop 1 1 ∷ hop 2 1 ∷ hop 3 1 ∷ []) ∷ []) (Refused 7 1)
    ∷ row (flow 1 5 100 0 60 (hop 1 1 ∷ hop 3 1 ∷ []) ∷ flow 2 4 100 0 60 (hop 1 1 ∷ hop 2 1 ∷ hop 3 1 ∷ []) ∷ []) (Given (fig 3 0 1 ∷ fig 6 1 2 ∷ []))
    ∷ row (flow 1 5 100 0 60 (hop 1 1 ∷ hop 2 1 ∷ hop 3 1 ∷ []) ∷ flow 2 6 100 0 60 (hop 1 1 ∷ hop 4 1 ∷ hop 3 1 ∷ []) ∷ []) (Refused 7 1)
    ∷ row (flow 1 5 100 0 60 (hop 1 1 ∷ hop 2 1 ∷ hop 3 1 ∷ []) ∷ flow 2 5 100 0 60 (hop 1 1 ∷ hop 4 1 ∷ hop 3 1 ∷ []) ∷ []) (Refused 7 1)
    ∷ row (flow 1 5 100 0 60 (hop 1 1 ∷ hop 2 1 ∷ hop 3 1 ∷ []) ∷ flow 2 4 100 0 60 (hop 1 1 ∷ hop 4 1 ∷ hop 3 1 ∷ []) ∷ []) (Refused 7 2)
    ∷ row (flow 1 5 100 0 60 (hop 1 1 ∷ hop 2 1 ∷ hop 3 1 ∷ []) ∷ flow 2 5 100 0 60 (hop 1 1 ∷ hop 3 1 ∷ []) ∷ flow 3 5 100 0 60 (hop 1 1 ∷ hop 3 1 ∷ []) ∷ []) (Refused 7 2)
    ∷ row (flow 1 5 100 0 60 (hop 1 1 ∷ hop 2 1 ∷ hop 3 1 ∷ []) ∷ flow 2 6 100 0 60 (hop 1 1 ∷ hop 3 1 ∷ []) ∷ flow 3 5 100 0 60 (hop 1 1 ∷ hop 3 1 ∷ []) ∷ []) (Refused 7 3)
    ∷ []

pub Right : List Row → Type 0
Right [] = Unit {0}
Right (r ∷ l) = (judged r.net ≡ r.expected) × Right l

pub worked : Right rows
unfolding Right rows hop flow plain fig between on row count ceil sum_of max_of min_of any_of keep climb settle_by best_to start_to horizon role visits prefix before last_node first_on last_on there crossings smin runs_along along least_cost M slowest weight own_weight earliest slowest_node plus_a less_a term1 term2 packets others term3 greatest_cost term4 lower_cost term5 term6 sum load jitter_of busy_length start response arriving_by arrivals_by replies round past_horizon total still rounds settle figures meets_again returns misplaced first_or settled_judged load_judged judged
worked = (refl, (refl, (refl, (refl, (refl, (refl, (refl, (refl, (refl, (refl, (refl, (refl, tt))))))))))))

pub told-apart : Right apart
unfolding Right apart hop flow plain fig between on row count ceil sum_of max_of min_of any_of keep climb settle_by best_to start_to horizon role visits prefix before last_node first_on last_on there crossings smin runs_along along least_cost M slowest weight own_weight earliest slowest_node plus_a less_a term1 term2 packets others term3 greatest_cost term4 lower_cost term5 term6 sum load jitter_of busy_length start response arriving_by arrivals_by replies round past_horizon total still rounds settle figures meets_again returns misplaced first_or settled_judged load_judged judged
told-apart = (refl, (refl, (refl, (refl, (refl, (refl, (refl, (refl, (refl, (refl, (refl, (refl, (refl, (refl, (refl, (refl, tt))))))))))))))))

pub told-near : Right near
unfolding Right near hop flow plain fig between on row count ceil sum_of max_of min_of any_of keep climb settle_by best_to start_to horizon role visits prefix before last_node first_on last_on there crossings smin runs_along along least_cost M slowest weight own_weight earliest slowest_node plus_a less_a term1 term2 packets others term3 greatest_cost term4 lower_cost term5 term6 sum load jitter_of busy_length start response arriving_by arrivals_by replies round past_horizon total still rounds settle figures meets_again returns misplaced first_or settled_judged load_judged judged
told-near = (refl, (refl, (refl, (refl, (refl, (refl, tt))))))

pub kept-apart : Right crossed
unfolding Right crossed hop flow plain fig between on row count ceil sum_of max_of min_of any_of keep climb settle_by best_to start_to horizon role visits prefix before last_node first_on last_on there crossings smin runs_along along least_cost M slowest weight own_weight earliest slowest_node plus_a less_a term1 term2 packets others term3 greatest_cost term4 lower_cost term5 term6 sum load jitter_of busy_length start response arriving_by arrivals_by replies round past_horizon total still rounds settle figures meets_again returns misplaced first_or settled_judged load_judged judged
kept-apart = (refl, (refl, (refl, (refl, (refl, (refl, (refl, (refl, (refl, (refl, (refl, tt)))))))))))
