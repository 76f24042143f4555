-- Each edge of refusals 1 to 4, as rows under one statement: the cause is the expected one. The causes are read off RULES, refusals.
use Rattle.std.specs.Prelude.{ℕ, ◌-◌, ◌≡◌, refl, List, [], ◌∷◌, ◌++◌, length, replicate, Err}
use Rattle.flows.specs.declared.Flow.{Flow}
use Rattle.flows.specs.declared.Cause.TheVariants.{Delays, NumberZero, OutOfRange, NodeTwice}
use Rattle.flows.specs.Refusals.{Ruling, accepted}
use Rattle.flows.specs.Tests.{delay_cause, every, hop_fits, hop_zero, ranges_fit, distinct, flow_cause}

-- number, T, D, path length, then nodes and costs with zeros behind
flow : ℕ → ℕ → ℕ → ℕ → List ℕ → List ℕ → Flow
flow n t d l ns cs = record {
  number = n;
  priority = 0;
  period = t;
  jitter = 0;
  deadline = d;
  length = l;
  nodes = ns ++ replicate (8 - length ns) 0;
  costs = cs ++ replicate (8 - length cs) 0;
}

eight : List ℕ
eight = 1 ∷ 2 ∷ 3 ∷ 4 ∷ 5 ∷ 6 ∷ 7 ∷ 8 ∷ []

pub record Row : Type 0 where
  pub cause : Ruling
  pub expected : Ruling

row : Flow → Ruling → Row
row f c = record { cause = flow_cause f; expected = c }

delays : ℕ → ℕ → Ruling → Row
delays lmin lmax c = record { cause = delay_cause lmin lmax; expected = c }

pub rows : List Row
rows =
    -- 1
    delays 0 0 accepted
    ∷ delays 4095 4095 accepted
    ∷ delays 4095 4096 (Err Delays)
    ∷ delays 2 1 (Err Delays)
    -- 2, before 3
    ∷ row (flow 0 1 1 1 (1 ∷ []) (1 ∷ [])) (Err NumberZero)
    ∷ row (flow 0 0 1 1 (1 ∷ []) (1 ∷ [])) (Err NumberZero)
    -- 3: T, D, path length
    ∷ row (flow 1 1 1 1 (1 ∷ []) (1 ∷ [])) accepted
    ∷ row (flow 1 0 1 1 (1 ∷ []) (1 ∷ [])) (Err OutOfRange)
    ∷ row (flow 1 1 0 1 (1 ∷ []) (1 ∷ [])) (Err OutOfRange)
    ∷ row (flow 1 1 1 0 [] []) (Err OutOfRange)
    ∷ row (flow 1 1 1 8 eight eight) accepted
    ∷ row (flow 1 1 1 9 eight eight) (Err OutOfRange)
    -- 3: a used node or cost
    ∷ row (flow 1 1 1 2 (1 ∷ []) (1 ∷ 1 ∷ [])) (Err OutOfRange)
    ∷ row (flow 1 1 1 2 (1 ∷ 2 ∷ []) (1 ∷ [])) (Err OutOfRange)
    ∷ row (flow 1 1 1 1 (255 ∷ []) (4095 ∷ [])) accepted
    ∷ row (flow 1 1 1 1 (1 ∷ []) (4096 ∷ [])) (Err OutOfRange)
    -- 3: an unused node or cost
    ∷ row (flow 1 1 1 1 (1 ∷ 2 ∷ []) (1 ∷ [])) (Err OutOfRange)
    ∷ row (flow 1 1 1 1 (1 ∷ []) (1 ∷ 1 ∷ [])) (Err OutOfRange)
    -- 4, after 3
    ∷ row (flow 1 1 1 3 (1 ∷ 2 ∷ 1 ∷ []) (1 ∷ 1 ∷ 1 ∷ [])) (Err NodeTwice)
    ∷ row (flow 1 0 1 3 (1 ∷ 2 ∷ 1 ∷ []) (1 ∷ 1 ∷ 1 ∷ [])) (Err OutOfRange)
    ∷ []

pub Right : List Row → Type 0
Right [] = Unit {0}
Right (r ∷ l) = (r.cause ≡ r.expected) × Right l

pub edges : Right rows
unfolding Right rows row delays flow eight delay_cause every hop_fits hop_zero ranges_fit distinct flow_cause
edges = (refl, (refl, (refl, (refl, (refl, (refl, (refl, (refl, (refl, (refl, (refl, (refl, (refl, (refl, (refl, (refl, (refl, (refl, (refl, (refl, tt))))))))))))))))))))
