-- One instant, node by node: a law for the start, a turn and each way out. Assumes nothing.
use mathlib.Core.Path.{◌≡◌, refl, sym, ◌∙◌, subst}
use mathlib.Core.Bool.{Bool, true, false, false≢true}
use mathlib.Core.List.{List}
use Prim.Native.Nat.{ℕ, ◌+◌, ◌-◌, ◌≤◌, ◌<◌}
use native.Mathlib.Omega.{arith}
use lib.Dec.{eqb}
use lib.ListN.{length, set, length-set}
use lib.Seq.{get_or-set_same, get_or-set_other}
use borrow.Author.Count.{below_more}
use borrow.Author.Tests.{eqb-true, eqb-false}
use Rattle.least.specs.Lists.{values, Inside}
use Rattle.least.proofs.Stores.{set_cases, inside-none}
use Rattle.least.specs.Fixed.{Under}
use Rattle.blocks.specs.Sheet.{most_instant, instant_slot, node_slot, added, sums, Small, Fit}
use Rattle.starts.specs.Begins.{BeginIs, BeginFits, Kept}
use Rattle.starts.specs.Runs.{most_time, StartsOf, Behind, LowTo, RaisedAt, AtNode, PastAt, Found}
use Rattle.std.specs.Prelude.{IsErr}
use Rattle.std.specs.declared.result.Result.{Result}
use Rattle.std.specs.declared.result.Result.TheVariants.{Ok, Err}
use Rattle.starts.specs.declared.PastHorizon.{PastHorizon}
use Rattle.starts.proofs.Sums.{sums_same, start_found, from_under}

-- past at a node, whatever was found
found_past : (e : List ℕ) (m : ℕ) (W : ℕ → ℕ → ℕ) (u : ℕ) (best₀ slots best : List ℕ) (r : Result (Unit {0}) PastHorizon) → IsErr r → PastAt e m W u →
    Found e m W u best₀ r slots best
found_past e m W u best₀ slots best (Ok done) h p = absurd (false≢true h)
found_past e m W u best₀ slots best (Err past) h p = p

-- the starting times in the slots
abbrev pub nodes : List ℕ → ℕ → ℕ
nodes slots q = values slots (node_slot q)

-- what the nodes before p have found, and what is left as it was
pub record Passed (e : List ℕ) (W : ℕ → ℕ → ℕ) (m u : ℕ) (best₀ slots best : List ℕ) (p : ℕ) : Type 0 where
  pub found : (k : ℕ) → k < p → AtNode e m W u best₀ slots best k
  pub left : (k : ℕ) → p ≤ k → k < m → Under (sums e u k (W u)) (nodes slots k)
  pub kept : (k : ℕ) → p ≤ k → k < m → (values best k ≡ values best₀ k) × (values best (m + k) ≡ values best₀ (m + k))

pub record Going (e : List ℕ) (m u : ℕ) (slots₀ best₀ slots best : List ℕ) (p : ℕ) : Type 0 where
  pub few : p ≤ m
  pub room : node_slot m ≤ length slots
  pub long : length slots ≡ length slots₀
  pub wide : m + m ≤ length best
  pub time : values slots instant_slot ≡ u
  pub small : Small slots
  pub low : LowTo m best
  pub behind : Inside 0 (m + m) best₀ best
  pub passed : (W : ℕ → ℕ → ℕ) → StartsOf e m W → Behind e m W u slots₀ → Passed e W m u best₀ slots best p

module _ (e : List ℕ) (m u : ℕ) where
  pub going_start : (slots best : List ℕ) → node_slot m ≤ length slots → m + m ≤ length best → u ≤ most_instant → Small slots → LowTo m best →
      Going e m u (set slots instant_slot u) best (set slots instant_slot u) best 0
  going_start slots best room wide short small low = record {
    few = omega arith;
    room = simp length-set room;
    long = refl;
    wide = wide;
    time = get_or-set_same slots instant_slot u 0 (omega arith);
    small = set_cases (λ j v. v < 16777216) slots instant_slot u (omega arith) (omega arith) (λ j h. small j);
    low = low;
    behind = inside-none;
    passed = λ W starts first. record {
      found = λ k h. absurd (omega arith);
      left = λ k h q. first k q;
      kept = λ k h q. (refl, refl);
    };
  }

  -- the instant's slot is none of the nodes'
  pub first_set : (slots : List ℕ) (W : ℕ → ℕ → ℕ) → Behind e m W u slots → Behind e m W u (set slots instant_slot u)
  first_set slots W first k h =
      subst (Under (sums e u k (W u))) (sym (get_or-set_other slots instant_slot (node_slot k) u 0 (λ z. omega arith))) (first k h)

  -- nor is that of the starting time sought
  pub going_kept : (slots₀ best₀ slots slots' best : List ℕ) (p : ℕ) → Kept slots slots' → Going e m u slots₀ best₀ slots best p → Going e m u slots₀ best₀ slots' best p
  going_kept slots₀ best₀ slots slots' best p kept going = record {
    few = going.few;
    room = omega (arith, going.room, kept.long);
    long = kept.long ∙ going.long;
    wide = going.wide;
    time = kept.others instant_slot (λ z. omega arith) ∙ going.time;
    small = kept.small;
    low = going.low;
    behind = going.behind;
    passed = λ W starts first. (let old = going.passed W starts first in record {
      found = λ k h. record {
        start = kept.others (node_slot k) (λ z. omega arith) ∙ (old.found k h).start;
        greatest = (old.found k h).greatest;
        kept = (old.found k h).kept;
        peak = (old.found k h).peak;
        within = (old.found k h).within;
      };
      left = λ k h q. subst (Under (sums e u k (W u))) (sym (kept.others (node_slot k) (λ z. omega arith))) (old.left k h q);
      kept = old.kept;
    });
  }

  module _ (slots₀ best₀ slots best : List ℕ) (p : ℕ) (going : Going e m u slots₀ best₀ slots best p) (on : p < m) (fit : Fit e m) where
    -- the starting times so far, and the start from below at p
    module _ (W : ℕ → ℕ → ℕ) (starts : StartsOf e m W) (first : Behind e m W u slots₀) where
      earlier : (l : ℕ) → l < p → nodes slots l ≡ W u l
      earlier l h = ((going.passed W starts first).found l h).start

      under : Under (sums e u p (nodes slots)) (nodes slots p)
      under = from_under e m fit W starts u p (nodes slots p) on (nodes slots) earlier ((going.passed W starts first).left p (omega arith) on)

      found-sum : sums e u p (nodes slots) (W u p) ≤ W u p
      found-sum = omega (arith, sums_same e m fit u p on (nodes slots) (W u) earlier (W u p), (starts u p on).fixed)

    -- what start_at gives at p
    module _ (r : Result ℕ PastHorizon) (begin : Under (sums e u p (nodes slots)) (nodes slots p) → BeginIs e u p (nodes slots) r) where
      pub going_past : (past : PastHorizon) → r ≡ Err past → (out : Result (Unit {0}) PastHorizon) → IsErr out → (slots' best' : List ℕ) →
          (W : ℕ → ℕ → ℕ) → StartsOf e m W → Behind e m W u slots₀ → Found e m W u best₀ out slots' best'
      going_past past is out err slots' best' W starts first =
          let passes = subst (BeginIs e u p (nodes slots)) is (begin (under W starts first)) in
          found_past e m W u best₀ slots' best' out err (record { node = p; on = on; past = passes (W u p) (found-sum W starts first) })

      module _ (fits : BeginFits e u p r) (w : ℕ) (at : r ≡ Ok w) where
        pub begin_small : w + added e p ≤ most_time + u
        begin_small = subst (BeginFits e u p) at fits

        start : (W : ℕ → ℕ → ℕ) → StartsOf e m W → Behind e m W u slots₀ → w ≡ W u p
        start W starts first =
            start_found e m fit W starts u p w on (nodes slots) (earlier W starts first)
            (subst (BeginIs e u p (nodes slots)) at (begin (under W starts first)))

        module _ (slots' : List ℕ) (kept : Kept slots slots') (bound : ℕ) (reply : bound ≡ w + added e p - u)
            (best' : List ℕ) (raised : RaisedAt m p bound u best best') (short : u ≤ most_instant) where
          now : Going e m u slots₀ best₀ slots' best p
          now = going_kept slots₀ best₀ slots slots' best p kept going

          lows : (j : ℕ) → j < m → (t : Bool) → eqb j p ≡ t → values best' j ≤ most_time
          lows j q true z = subst (λ i. values best' i ≤ most_time) (sym (eqb-true j p z)) (omega (arith, raised.greatest, begin_small, going.low p on))
          lows j q false z = omega (arith, raised.others j (eqb-false j p z) (λ y. omega arith), going.low j q)

          module _ (W : ℕ → ℕ → ℕ) (starts : StartsOf e m W) (first : Behind e m W u slots₀) where
            old : Passed e W m u best₀ slots' best p
            old = now.passed W starts first

            here : AtNode e m W u best₀ (set slots' (node_slot p) w) best' p
            here =
                let was = old.kept p (omega arith) on in
                let is-w = start W starts first in
                record {
                  start = get_or-set_same slots' (node_slot p) w 0 (omega (arith, now.room)) ∙ is-w;
                  greatest = omega (arith, raised.greatest, was.0, is-w);
                  kept = λ h. raised.kept (omega (arith, was.0, is-w)) ∙ was.1;
                  peak = λ h. raised.peak (omega (arith, was.0, is-w));
                  within = omega (arith, begin_small, is-w);
                }

            there : (j : ℕ) → j < p → AtNode e m W u best₀ (set slots' (node_slot p) w) best' j
            there j h = record {
              start = get_or-set_other slots' (node_slot p) (node_slot j) w 0 (λ z. omega arith) ∙ (old.found j h).start;
              greatest = raised.others j (λ z. omega arith) (λ z. omega arith) ∙ (old.found j h).greatest;
              kept = λ q. raised.others (m + j) (λ z. omega arith) (λ z. omega arith) ∙ (old.found j h).kept q;
              peak = λ q. raised.others (m + j) (λ z. omega arith) (λ z. omega arith) ∙ (old.found j h).peak q;
              within = (old.found j h).within;
            }

            passed : Passed e W m u best₀ (set slots' (node_slot p) w) best' (p + 1)
            passed = record {
              found = below_more (AtNode e m W u best₀ (set slots' (node_slot p) w) best') p there here;
              left = λ j h q.
                  subst (Under (sums e u j (W u))) (sym (get_or-set_other slots' (node_slot p) (node_slot j) w 0 (λ z. omega arith))) (old.left j (omega arith) q);
              kept = λ j h q. (
                raised.others j (λ z. omega arith) (λ z. omega arith) ∙ (old.kept j (omega arith) q).0,
                raised.others (m + j) (λ z. omega arith) (λ z. omega arith) ∙ (old.kept j (omega arith) q).1,
              );
            }

          pub going_more : Going e m u slots₀ best₀ (set slots' (node_slot p) w) best' (p + 1)
          going_more = record {
            few = omega arith;
            room = simp length-set now.room;
            long = simp length-set now.long;
            wide = omega (arith, now.wide, raised.long);
            time = get_or-set_other slots' (node_slot p) instant_slot w 0 (λ z. omega arith) ∙ now.time;
            small = set_cases (λ j v. v < 16777216) slots' (node_slot p) w (omega (arith, now.room)) (omega (arith, begin_small)) (λ j h. now.small j);
            low = λ j q. lows j q (eqb j p) refl;
            behind = record {
              before = λ k h. absurd (omega arith);
              behind = λ k h. raised.others k (λ z. omega arith) (λ z. omega arith) ∙ going.behind.behind k h;
              long = raised.long ∙ going.behind.long;
            };
            passed = passed;
          }

  pub going_end : (slots₀ best₀ slots best : List ℕ) (p : ℕ) → Going e m u slots₀ best₀ slots best p → m ≤ p →
      (W : ℕ → ℕ → ℕ) → StartsOf e m W → Behind e m W u slots₀ → (k : ℕ) → k < m → AtNode e m W u best₀ slots best k
  going_end slots₀ best₀ slots best p going h W starts first k q = (going.passed W starts first).found k (omega arith)
