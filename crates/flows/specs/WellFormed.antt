-- RULES, ranges: what link delays and a flow must be, with the rules' own figures; which of refusals 1 to 4 is given, and exactly when. Nothing
-- here names a test.
use Rattle.std.specs.Prelude.{ℕ, ◌<◌, ◌≤◌, ◌≡◌, List, [], ◌∷◌, length, get_or, Err}
use Rattle.flows.specs.declared.Flow.{Flow}
use Rattle.flows.specs.declared.Cause.TheVariants.{Delays, NumberZero, OutOfRange, NodeTwice}
use Rattle.flows.specs.Refusals.{Ruling, accepted}

abbrev pub Exactly : Type 0 → Type 0 → Type 0
Exactly A B = (A → B) × (B → A)

abbrev pub Between : ℕ → ℕ → ℕ → Type 0
Between low high n = (low ≤ n) × (n ≤ high)

abbrev pub DelaysFit : ℕ → ℕ → Type 0
DelaysFit lmin lmax = (lmin ≤ lmax) × (lmax ≤ 4095)

-- T, D, path length, each used node and cost in range; each unused node and cost 0
pub record Ranges (f : Flow) : Type 0 where
  pub period : Between 1 65535 f.period
  pub deadline : Between 1 65535 f.deadline
  pub path : Between 1 8 f.length
  pub node : (k : ℕ) → k < f.length → Between 1 255 (get_or f.nodes k 0)
  pub cost : (k : ℕ) → k < f.length → Between 1 4095 (get_or f.costs k 0)
  pub unused : (k : ℕ) → f.length ≤ k → (get_or f.nodes k 0 ≡ 0) × (get_or f.costs k 0 ≡ 0)

abbrev pub Differ : Flow → Type 0
Differ f = (a b : ℕ) → a < b → b < f.length → get_or f.nodes a 0 ≡ get_or f.nodes b 0 → ⊥

pub record WellFormed (f : Flow) : Type 0 where
  pub number : Between 1 255 f.number
  pub priority : f.priority ≤ 255
  pub jitter : f.jitter ≤ 65535
  pub ranges : Ranges f
  pub differ : Differ f

-- the refusal of link delays, and that of a flow by itself: the lowest that applies
pub data OfDelays (lmin lmax : ℕ) : Ruling → Type 0 where
  delays-fit : DelaysFit lmin lmax → OfDelays lmin lmax accepted
  delays_unfit : (DelaysFit lmin lmax → ⊥) → OfDelays lmin lmax (Err Delays)

pub data OfFlow (f : Flow) : Ruling → Type 0 where
  number-zero : f.number ≡ 0 → OfFlow f (Err NumberZero)
  out_of_range : (f.number ≡ 0 → ⊥) → (Ranges f → ⊥) → OfFlow f (Err OutOfRange)
  node-twice : (f.number ≡ 0 → ⊥) → Ranges f → (Differ f → ⊥) → OfFlow f (Err NodeTwice)
  well_formed : WellFormed f → OfFlow f accepted

-- a ruling is given exactly when the rules say so
abbrev pub Exact : Ruling → (Ruling → Type 0) → Type 0
Exact r Of = (c : Ruling) → Exactly (r ≡ c) (Of c)

module _ {A : Type 0} (P : A → Type 0) where
  pub data Each : List A → Type 0 where
    each_none : Each []
    each_more : {x : A} {xs : List A} → P x → Each xs → Each (x ∷ xs)

-- what the types of its fields say of any flow
pub record Typed (f : Flow) : Type 0 where
  pub number : f.number < 256
  pub priority : f.priority < 256
  pub period : f.period < 65536
  pub jitter : f.jitter < 65536
  pub deadline : f.deadline < 65536
  pub path : f.length < 256
  pub nodes : length f.nodes ≡ 8
  pub costs : length f.costs ≡ 8
  pub node : (k : ℕ) → get_or f.nodes k 0 < 256
  pub cost : (k : ℕ) → get_or f.costs k 0 < 65536
