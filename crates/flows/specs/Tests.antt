-- Refusals 1 to 4: what the link delays and a flow must be.
use Rattle.std.specs.Prelude.{ℕ, ◌+◌, Bool, true, cond, not, ◌&&◌, ◌||◌, List, [], ◌∷◌, get_or, take, drop, leb, ltb, eqb, Err}
use Rattle.rules.specs.Net.{Hop}
use Rattle.flows.specs.declared.Flow.{Flow}
use Rattle.flows.specs.declared.Cause.TheVariants.{Delays, NumberZero, OutOfRange, NodeTwice}
use Rattle.flows.specs.Refusals.{Ruling, accepted}
use Rattle.flows.specs.Lists.{most_nodes, path_of, unused_of}

-- link delays and costs, at most
abbrev pub most_delay : ℕ
most_delay = 4095

abbrev pub most_cost : ℕ
most_cost = 4095

-- 1: the greatest delay is below the least, or too long. RULES, refusals
unfoldable pub delay_cause : ℕ → ℕ → Ruling
delay_cause lmin lmax = cond (ltb lmax lmin || ltb most_delay lmax) (Err Delays) accepted

unfoldable pub every : {A : Type 0} → (A → Bool) → List A → Bool
every p [] = true
every p (x ∷ xs) = p x && every p xs

unfoldable pub hop_fits : Hop → Bool
hop_fits h = not (eqb h.node 0) && not (eqb h.cost 0) && leb h.cost most_cost

unfoldable pub hop_zero : Hop → Bool
hop_zero h = eqb h.node 0 && eqb h.cost 0

-- T, D, path length, each used node and cost in range, each unused node and cost 0; what a field's type rules out is not tested
unfoldable pub ranges_fit : Flow → Bool
ranges_fit f =
    not (eqb f.period 0) && not (eqb f.deadline 0) && not (eqb f.length 0) && leb f.length most_nodes &&
    every hop_fits (path_of f) && every hop_zero (unused_of f)

-- n is none of these
abbrev pub new_to : List ℕ → ℕ → Bool
new_to ns n = every (λ m. not (eqb m n)) ns

-- no number twice
unfoldable pub distinct : List ℕ → Bool
distinct [] = true
distinct (n ∷ ns) = new_to ns n && distinct ns

abbrev pub nodes_of : Flow → List ℕ
nodes_of f = take f.length f.nodes

-- node i does not come again on the path
abbrev pub not_again : Flow → ℕ → Bool
not_again f i = new_to (drop (i + 1) (nodes_of f)) (get_or f.nodes i 0)

-- 2: the number is 0; 3: something is out of range; 4: a node comes twice. RULES, refusals
unfoldable pub flow_cause : Flow → Ruling
flow_cause f =
    cond (eqb f.number 0) (Err NumberZero)
    (cond (not (ranges_fit f)) (Err OutOfRange)
    (cond (not (distinct (nodes_of f))) (Err NodeTwice) accepted))
