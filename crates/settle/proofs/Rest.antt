-- Turns until no flow is marked. Assumes nothing.
use mathlib.Core.Path.{◌≡◌, ap}
use mathlib.Core.Logic.{inl, inr}
use mathlib.Core.List.{List}
use Rattle.std.specs.Prelude.{Option, None}
use Prim.Native.Nat.{ℕ, ◌+◌, ◌*◌, ◌≤◌}
use native.Mathlib.Omega.{arith}
use lib.ListN.{replicate, get_or-eq_default, length-replicate}
use Rattle.std.proofs.lemmas.List.{get_or-replicate}
use Rattle.std.specs.declared.result.Result.TheVariants.{Ok, Err}
use Rattle.starts.specs.declared.PastHorizon.{PastHorizon}
use Rattle.least.specs.Lists.{values}
use Rattle.least.proofs.Count.{le_or-lt}
use Rattle.rules.specs.Net.{Flow, Net}
use Rattle.rules.specs.Formula.{horizon}
use Rattle.rules.specs.Meaning.{Here}
use Rattle.rules.specs.Valid.{Valid}
use Rattle.rules.specs.Ready.{Ready}
use Rattle.nets.specs.Nets.{count_in, room_in, net_in}
use Rattle.nets.proofs.Reading.{flows_length}
use Rattle.ascent.specs.Good.{Good}
use Rattle.rounds.specs.Rounds.{ChosenIs}
use Rattle.settle.specs.Turns.{Fair, BusiesAre, TurnIs, SettleIs}
use Rattle.ascent.proofs.Steps.{good_start, good_end}

-- n times x
most : (n x k : ℕ) → values (replicate n x) k ≤ x
most n x k = elim (le_or-lt n k) [
  | inl h ↦ omega (arith, get_or-eq_default (replicate n x) 0 {n = k} (omega (arith, length-replicate n x)))
  | inr h ↦ omega (arith, get_or-replicate {A = ℕ} n k x 0 h)
]

module _ (net busies : List ℕ) where
  abbrev N : Net
  N = net_in net

  abbrev w : ℕ
  w = room_in net

  pub record Settling (replies marks : List ℕ) (chosen : Option ℕ) : Type 0 where
    pub fair : Fair net replies marks
    pub chosen_is : ChosenIs marks (count_in net) chosen
    pub good : Valid N → ((i : Flow) → Here N i → Ready N i) → BusiesAre net busies → Good N w replies marks

  pub settling_start : (r m : ℕ) (replies marks : List ℕ) → replies ≡ replicate r 0 → marks ≡ replicate m 1 → count_in net ≤ m → (chosen : Option ℕ) →
      ChosenIs marks (count_in net) chosen → Settling replies marks chosen
  settling_start r m replies marks zero one room chosen is = record {
    fair = record {
      low = λ x. omega (arith, none x);
      bare = λ b k h q. none (b * w + k);
      flags = λ b h. omega (arith, ap (λ l. values l b) one, most m 1 b);
    };
    chosen_is = is;
    good = λ val ready busy.
        good_start N val ready w replies marks none
        (λ b h z. absurd (omega (arith, ap (λ l. values l b) one, get_or-replicate {A = ℕ} m b 1 0 (omega (arith, flows_length net)))));
  }
    where
      none : (k : ℕ) → values replies k ≡ 0
      none k = omega (arith, ap (λ l. values l k) zero, most r 0 k)

  module _ (replies marks : List ℕ) (chosen : Option ℕ) (s : Settling replies marks chosen) (a : ℕ) (replies' marks' : List ℕ) where
    pub settling_past : (past : PastHorizon) → TurnIs net busies replies marks a (Err past) replies' marks' → (r : ℕ) (zeros : List ℕ) → zeros ≡ replicate r 0 →
        SettleIs net busies (Err past) zeros
    settling_past past turn r zeros zero = record {
      outcome = λ val ready busy. turn.keeps val ready busy (s.good val ready busy);
      low = λ x. omega (arith, none x);
      bare = λ b k h q. none (b * w + k);
    }
      where
        none : (k : ℕ) → values zeros k ≡ 0
        none k = omega (arith, ap (λ l. values l k) zero, most r 0 k)

    pub settling_more : TurnIs net busies replies marks a (Ok tt) replies' marks' → Fair net replies' marks' → (chosen' : Option ℕ) →
        ChosenIs marks' (count_in net) chosen' → Settling replies' marks' chosen'
    settling_more turn fair chosen' is = record {
      fair = fair;
      chosen_is = is;
      good = λ val ready busy. turn.keeps val ready busy (s.good val ready busy);
    }

  pub settling_end : (replies marks : List ℕ) → Settling replies marks None → SettleIs net busies (Ok tt) replies
  unfolding horizon
  settling_end replies marks s = record {
    outcome = λ val ready busy.
        good_end N val ready w replies marks (s.good val ready busy) (λ b q. s.chosen_is b (omega (arith, flows_length net))) s.fair.low;
    low = s.fair.low;
    bare = s.fair.bare;
  }
