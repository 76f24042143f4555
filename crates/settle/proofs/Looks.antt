-- A look near some peaks: a law for the start, for each peak and for each way out. Assumes nothing.
use mathlib.Core.List.{List}
use Prim.Native.Nat.{ℕ, ◌+◌, ◌≤◌, ◌<◌}
use native.Mathlib.Omega.{arith}
use native.Mathlib.Nat.{le_trans}
use Rattle.std.specs.Prelude.{IsErr}
use Rattle.std.specs.declared.result.Result.{Result}
use Rattle.std.specs.declared.result.Result.TheVariants.{Ok, Err}
use Rattle.least.specs.Instants.{since}
use Rattle.least.specs.Lists.{values}
use Rattle.least.proofs.Fold.{false_true}
use Rattle.least.proofs.Instants.{best-within, since_le, best-all}
use Rattle.starts.specs.declared.PastHorizon.{PastHorizon}
use Rattle.starts.specs.Runs.{StartsOf, reply_at, LowTo, ResponsesAre}
use Rattle.settle.specs.Turns.{LookIs}

-- what bounds W + C − t everywhere bounds a run over some instants
run_below : (e : List ℕ) (m A B : ℕ) (best₀ best : List ℕ) → ResponsesAre e m A B best₀ (Ok tt) best → (W : ℕ → ℕ → ℕ) → StartsOf e m W →
    (p : ℕ) → p < m → (r : ℕ) → ((t : ℕ) → reply_at e W p t ≤ r + t) → values best₀ p ≤ r → values best p ≤ r
run_below e m A B best₀ best run W s p on r h g =
    omega (arith, (run.maxima W s p on).bound, best-within (since A (reply_at e W p)) r (λ t. le_trans (since_le A (reply_at e W p) t) (h t)) B)

module _ (e : List ℕ) (m far busy : ℕ) (best₀ : List ℕ) where
  -- over the busy length
  pub look_all : (given : Result (Unit {0}) PastHorizon) (best : List ℕ) → ResponsesAre e m 0 busy best₀ given best → LookIs e m far busy best₀ given best
  look_all (Err past) best run = record {
    below = tt;
    all = tt;
    over = λ W s. (let q = run.maxima W s in (q.0, q.3));
    low = run.low;
  }
  look_all (Ok tt) best run = record {
    below = run_below e m 0 busy best₀ best run;
    all = λ h W s p on. omega (arith, (run.maxima W s p on).bound, best-all (reply_at e W p) busy);
    over = tt;
    low = run.low;
  }

  module _ (near : far < busy) where
    pub look_none : LowTo m best₀ → LookIs e m far busy best₀ (Ok tt) best₀
    look_none low = record {
      below = λ W s p on r h g. g;
      all = λ h. absurd (omega arith);
      over = tt;
      low = low;
    }

    module _ (best : List ℕ) (look : LookIs e m far busy best₀ (Ok tt) best) (A B : ℕ) (best' : List ℕ) where
      pub look_more : ResponsesAre e m A B best (Ok tt) best' → LookIs e m far busy best₀ (Ok tt) best'
      look_more run = record {
        below = λ W s p on r h g. run_below e m A B best best' run W s p on r h (look.below W s p on r h g);
        all = λ h. absurd (omega arith);
        over = tt;
        low = run.low;
      }

      pub look_past : (past : PastHorizon) → ResponsesAre e m A B best (Err past) best' → (given : Result (Unit {0}) PastHorizon) → IsErr given →
          LookIs e m far busy best₀ given best'
      look_past past run (Ok done) q = absurd (false_true q)
      look_past past run (Err past') q = record {
        below = tt;
        all = tt;
        over = λ W s. (let q = run.maxima W s in (q.0, q.3));
        low = run.low;
      }
