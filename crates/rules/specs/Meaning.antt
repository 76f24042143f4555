-- What the figures and the refusals of a set are, said without computing.
use Rattle.std.specs.Prelude.{◌≡◌, true, ℕ, ◌+◌, ◌≤◌, ◌<◌}
use mathlib.Core.List.{[], ◌∷◌, map, Memᴰ, Sublistᴰ}
use Rattle.least.specs.Fixed.{Smallest}
use Rattle.least.specs.Instants.{Greatest}
use Rattle.rules.specs.Net.{Hop, Flow, Net, Figures, Judgement, Refused, Given}
use Rattle.rules.specs.Formula.{horizon, visits, last_node, cost_at, Arrivals, sum, load, arrivals, jitter_of}

abbrev pub On : Flow → ℕ → Type 0
On i h = visits i.path h ≡ true

-- j does not come back to i's path after leaving it. RULES, crossing
abbrev pub Keeps : Flow → Flow → Type 0
Keeps i j = (k m n : Hop) → Sublistᴰ (k ∷ m ∷ n ∷ []) j.path → On i k.node → On i n.node → On i m.node

module _ (N : Net) where
  abbrev pub Here : Flow → Type 0
  Here i = Memᴰ i N.flows

  -- the least solution at each instant and node, with W itself at earlier nodes. RULES, starting time
  abbrev pub IsStart : Flow → Arrivals → (ℕ → ℕ → ℕ) → Type 0
  IsStart i S W = (u h : ℕ) → On i h → Smallest 0 (sum N i S u h (W u)) (W u h)

  -- over every instant, without an end: W + C − t is W + C + J − u. RULES, response bounds
  pub record IsResponse (i : Flow) (S : Arrivals) (h r : ℕ) : Type 0 where
    pub W : ℕ → ℕ → ℕ
    pub start : IsStart i S W
    pub greatest : Greatest (λ u. W u h + cost_at i.path h + i.jitter) r

  -- at the path's end. RULES, response bounds
  abbrev pub IsBound : Flow → Arrivals → ℕ → Type 0
  IsBound i S b = IsResponse i S (last_node i.path) b

  -- the least solution above 0, if it is within the horizon. RULES, busy length
  pub record IsBusy (i : Flow) (B : ℕ) : Type 0 where
    pub smallest : Smallest 1 (load N i) B
    pub within : B ≤ horizon

  -- S gives the response bounds R, which give S again, and none is past the horizon. RULES, arrival bounds
  pub record Settled (S : Arrivals) : Type 0 where
    pub R : Flow → ℕ → ℕ
    pub response : (i : Flow) → Here i → (h : ℕ) → On i h → IsResponse i S h (R i h)
    pub meets : (k : ℕ × ℕ) → S k ≡ arrivals N R k
    pub within : (i : Flow) → Here i → (h : ℕ) → On i h → R i h ≤ horizon

  -- in no entry above another settled one. RULES, arrival bounds
  pub record LeastSettled (S : Arrivals) : Type 0 where
    pub settled : Settled S
    pub lowest : (U : Arrivals) → Settled U → (k : ℕ × ℕ) → S k ≤ U k

  pub record IsFigures (S : Arrivals) (i : Flow) (f : Figures) : Type 0 where
    pub bound : IsBound i S f.bound
    pub jitter : f.jitter ≡ jitter_of N i f.bound
    pub busy : IsBusy i f.busy

  -- assumption 1, against each flow of i's priority or a higher one. RULES, crossing
  abbrev pub Permitted : Flow → Type 0
  Permitted i = (j : Flow) → Here j → i.priority ≤ j.priority → Keeps i j

  -- n is the least number of a flow at fault
  pub record Named (AtFault : Flow → Type 0) (n : ℕ) : Type 0 where
    pub flow : Flow
    pub here : Here flow
    pub number : flow.number ≡ n
    pub fault : AtFault flow
    pub lowest : (j : Flow) → Here j → AtFault j → n ≤ j.number

  -- Lower numbers first: this one, naming the least flow at fault, or none is and what comes next decides. RULES, refusals.
  pub data Lowest (refusal : ℕ) (AtFault : Flow → Type 0) (Next : Judgement → Type 0) : Judgement → Type 0 where
    applies : (n : ℕ) → Named AtFault n → Lowest refusal AtFault Next (Refused refusal n)
    passes : (v : Judgement) → ((i : Flow) → Here i → AtFault i → ⊥) → Next v → Lowest refusal AtFault Next v

  -- 9, or the figures that the least settled arrival bounds give, unless one is late
  pub data Settles : Judgement → Type 0 where
    unsettled : ((S : Arrivals) → Settled S → ⊥) → Settles (Refused 9 0)
    settled : (v : Judgement) (S : Arrivals) (f : Flow → Figures) → LeastSettled S → ((i : Flow) → Here i → IsFigures S i (f i)) →
        Lowest 10 (λ i. i.deadline < (f i).bound) (λ v. v ≡ Given (map f N.flows)) v → Settles v

  -- the judgement of a set
  abbrev pub Judged : Judgement → Type 0
  Judged = Lowest 7 (λ i. Permitted i → ⊥) (Lowest 8 (λ i. (B : ℕ) → IsBusy i B → ⊥) Settles)
