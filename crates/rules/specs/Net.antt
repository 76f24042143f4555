-- What a plan lists: flows on paths, and link delays. What is said of it: figures, a judgement.
use Rattle.std.specs.Prelude.{List, ℕ}

-- a node of a path, and the cost there
pub record Hop : Type 0 where
  pub node : ℕ
  pub cost : ℕ

-- jitter is the release jitter
pub record Flow : Type 0 where
  pub number : ℕ
  pub priority : ℕ
  pub period : ℕ
  pub jitter : ℕ
  pub deadline : ℕ
  pub path : List Hop

pub record Net : Type 0 where
  pub lmin : ℕ
  pub lmax : ℕ
  pub flows : List Flow

-- a flow's bound, jitter and busy length
pub record Figures : Type 0 where
  pub bound : ℕ
  pub jitter : ℕ
  pub busy : ℕ

-- the judgement of a set: a refusal's number and the flow named, or the figures of each flow
pub data Judgement : Type 0 where
  Refused : ℕ → ℕ → Judgement
  Given : List Figures → Judgement
