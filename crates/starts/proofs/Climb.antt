-- The climb to a starting time: a law for the start, a turn and each way out. Assumes nothing.
use mathlib.Core.Path.{◌≡◌, refl, sym, ap, ◌∙◌, subst}
use mathlib.Core.Bool.{Bool, true, false}
use mathlib.Core.List.{List}
use Prim.Native.Nat.{ℕ, ◌+◌, ◌-◌, ◌≤◌, ◌<◌}
use native.Mathlib.Omega.{arith}
use lib.Dec.{eqb}
use lib.ListN.{length, set, length-set}
use lib.Seq.{get_or-set_same, get_or-set_other}
use borrow.Author.Tests.{eqb-true, eqb-false}
use Rattle.least.specs.Count.{pick}
use Rattle.least.specs.Lists.{values}
use Rattle.least.specs.Fixed.{Under}
use Rattle.least.proofs.Fixed.{under_step, under_done}
use Rattle.least.proofs.Stores.{set_cases}
use Rattle.blocks.specs.Sheet.{here_slot, instant_slot, node_slot, added, sheet_sum, seen, sums, Fit}
use Rattle.starts.specs.Runs.{most_time}
use Rattle.starts.specs.Begins.{BeginIs, Kept}
use Rattle.std.specs.declared.result.Result.TheVariants.{Ok, Err}
use Rattle.starts.specs.declared.PastHorizon.{PastHorizon}
use Rattle.starts.proofs.Sums.{sheet_ext, sums_rising}
use Rattle.starts.proofs.Nodes.{nodes}

module _ (s₀ s : List ℕ) (kept : Kept s₀ s) (room : 0 < length s₀) (w : ℕ) where
  pub kept_set : w < 16777216 → Kept s₀ (set s here_slot w)
  kept_set h = record {
    others = λ k q. get_or-set_other s here_slot k w 0 q ∙ kept.others k q;
    small = set_cases (λ j v. v < 16777216) s here_slot w (omega (arith, kept.long)) h (λ j q. kept.small j);
    long = simp length-set kept.long;
  }

  slots-seen : (u : ℕ) → values s₀ instant_slot ≡ u → (k : ℕ) → values (set s here_slot w) k ≡ seen (nodes s₀) w u k
  slots-seen u time k = go (eqb k here_slot) refl (eqb k instant_slot) refl
    where
      other : (k ≡ here_slot → ⊥) → values (set s here_slot w) k ≡ values s₀ k
      other h = get_or-set_other s here_slot k w 0 h ∙ kept.others k h

      go : (a : Bool) → eqb k here_slot ≡ a → (b : Bool) → eqb k instant_slot ≡ b →
          values (set s here_slot w) k ≡ pick a w (pick b u (nodes s₀ (k - 2)))
      go true e b q = subst (λ j. values (set s here_slot w) j ≡ w) (sym (eqb-true k here_slot e)) (get_or-set_same s here_slot w 0 (omega (arith, kept.long)))
      go false e true q = other (eqb-false k here_slot e) ∙ ap (values s₀) (eqb-true k instant_slot q) ∙ time
      go false e false q =
          let h = eqb-false k here_slot e in
          let g = eqb-false k instant_slot q in
          let r : k ≡ node_slot (k - 2) = omega (arith, h, g) in
          other h ∙ ap (values s₀) r

  pub slots_sum : (e : List ℕ) (p u : ℕ) → values s₀ instant_slot ≡ u → sheet_sum e p (values (set s here_slot w)) ≡ sums e u p (nodes s₀) w
  slots_sum e p u time = sheet_ext e p (values (set s here_slot w)) (seen (nodes s₀) w u) (slots-seen u time)

-- from is under, and so is w
abbrev pub Climbs : List ℕ → ℕ → ℕ → List ℕ → ℕ → ℕ → Type 0
Climbs e p u s₀ from w = Under (sums e u p (nodes s₀)) from → Under (sums e u p (nodes s₀)) w

module _ (e : List ℕ) (p u : ℕ) (s₀ s : List ℕ) (time : values s₀ instant_slot ≡ u) (from w : ℕ) (kept : Kept s₀ s) (room : 0 < length s₀)
    (climbs : Climbs e p u s₀ from w) (r : ℕ) (sum : r ≡ sheet_sum e p (values (set s here_slot w))) where
  is : r ≡ sums e u p (nodes s₀) w
  is = sum ∙ slots_sum s₀ s kept room w e p u time

  pub climbs_more : Fit e (p + 1) → Climbs e p u s₀ from r
  climbs_more fit under =
      subst (Under (sums e u p (nodes s₀))) (sym is) (under_step (sums_rising e (p + 1) fit u p (omega arith) (nodes s₀)) (climbs under))

  pub climbs_at : r ≤ w → Under (sums e u p (nodes s₀)) from → BeginIs e u p (nodes s₀) (Ok w)
  climbs_at h under = under_done (climbs under) (omega (arith, is))

pub climbs_past : (e : List ℕ) (p u : ℕ) (s₀ : List ℕ) (from w : ℕ) (past : PastHorizon) → Climbs e p u s₀ from w → most_time + u < w + added e p →
    Under (sums e u p (nodes s₀)) from → BeginIs e u p (nodes s₀) (Err past)
climbs_past e p u s₀ from w past climbs h under v q = omega (arith, (climbs under).low v q)
