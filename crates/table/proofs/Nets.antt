-- Accepted sets of the rules: the empty one, and each part of one. Assumes nothing.
use mathlib.Core.Path.{◌≡◌, refl}
use mathlib.Core.Bool.{Bool, true, false}
use mathlib.Core.List.{List, [], map, Sublistᴰ}
use Prim.Native.Nat.{ℕ, ◌≤◌}
use native.Mathlib.Omega.{arith}
use native.Mathlib.Nat.{le_trans}
use lib.Dec.{ltb}
use borrow.Author.Tests.{ltb-true, ltb-false}
use Rattle.least.specs.Fold.{sum_of, any_of}
use Rattle.least.specs.Vector.{◌⊑◌, settle_by}
use Rattle.least.proofs.Fold.{mem_sublist}
use Rattle.rules.specs.Net.{Flow, Net, Figures, Judgement, Given}
use Rattle.rules.specs.Formula.{Arrivals}
use Rattle.rules.specs.Meaning.{Here, IsBusy, IsFigures, LeastSettled, Permitted, applies, passes, unsettled, settled, Judged}
use Rattle.rules.specs.Valid.{Valid}
use Rattle.rules.specs.Judge.{replies, round, past_horizon, total, still, rounds, settle, first_or, settled_judged, load_judged, judged}
use Rattle.rules.proofs.Judge.{judged_is}
use Rattle.rules.proofs.Withdraw.{withdraw_valid, withdraw_permitted, withdraw_busy, withdraw_settled, withdraw_bound}

pub none_accepted : (lmin lmax : ℕ) → judged (record { lmin = lmin; lmax = lmax; flows = [] }) ≡ Given []
unfolding judged load_judged settled_judged first_or settle settle_by rounds round replies past_horizon still total any_of sum_of
none_accepted lmin lmax = refl

-- what a judgement with figures says of the set
pub record Accepting (N : Net) (gs : List Figures) : Type 0 where
  pub permitted : (i : Flow) → Here N i → (Permitted N i → ⊥) → ⊥
  pub arrivals : Arrivals
  pub least : LeastSettled N arrivals
  pub figure : Flow → Figures
  pub figures : (i : Flow) → Here N i → IsFigures N arrivals i (figure i)
  pub timely : (i : Flow) → Here N i → (figure i).bound ≤ i.deadline
  pub all : gs ≡ map figure N.flows

module _ (N : Net) where
  pub accepting : (v : Judgement) (gs : List Figures) → v ≡ Given gs → Judged N v → Accepting N gs
  accepting v gs e (applies n a) = let z : ◌≡◌ {A = ℕ} 0 1 = cc in absurd (omega arith)
  accepting v gs e (passes x p (applies n a)) = let z : ◌≡◌ {A = ℕ} 0 1 = cc in absurd (omega arith)
  accepting v gs e (passes x p (passes y q (unsettled u))) = let z : ◌≡◌ {A = ℕ} 0 1 = cc in absurd (omega arith)
  accepting v gs e (passes x p (passes y q (settled w S f l r (applies n a)))) = let z : ◌≡◌ {A = ℕ} 0 1 = cc in absurd (omega arith)
  accepting v gs e (passes x p (passes y q (settled w S f l r (passes z d g)))) = record {
    permitted = p;
    arrivals = S;
    least = l;
    figure = f;
    figures = r;
    timely = not_late;
    all = cc;
  }
    where
      not_late : (i : Flow) → Here N i → (f i).bound ≤ i.deadline
      not_late i m = go (ltb i.deadline (f i).bound) refl
        where
          go : (b : Bool) → ltb i.deadline (f i).bound ≡ b → (f i).bound ≤ i.deadline
          go true h = absurd (d i m (ltb-true _ _ h))
          go false h = ltb-false _ _ h

-- a part of an accepted set, in the same network, is accepted
module _ (N N' : Net) (lmin : N.lmin ≡ N'.lmin) (lmax : N.lmax ≡ N'.lmax) (some : Sublistᴰ N.flows N'.flows) (v' : Valid N') where
  module _ (gs' : List Figures) (a' : Accepting N' gs') where
    whole_busy : (i : Flow) → Here N' i → (B : ℕ) × IsBusy N' i B
    whole_busy i m = ((a'.figure i).busy, (a'.figures i m).busy)

    -- its least settled arrival bounds are at most those of the whole
    pub part_lower : (S : Arrivals) → LeastSettled N S → S ⊑ a'.arrivals
    part_lower S l k =
        let w = withdraw_settled N N' lmin lmax some v' whole_busy a'.arrivals a'.least.settled in
        le_trans (l.lowest w.0 w.1.settled k) (w.2 k)

    part-given : (v : Judgement) → Judged N v → (gs : List Figures) × (v ≡ Given gs)
    part-given v (applies n a) =
        absurd (a'.permitted a.flow (mem_sublist some a.here) (λ p. a.fault (withdraw_permitted N N' lmin lmax some v' a.flow p)))
    part-given v (passes x p (applies n a)) =
        let w = withdraw_busy N N' lmin lmax some v' a.flow a.here _ (a'.figures a.flow (mem_sublist some a.here)).busy in
        absurd (a.fault w.0 w.1)
    part-given v (passes x p (passes y q (unsettled u))) =
        let w = withdraw_settled N N' lmin lmax some v' whole_busy a'.arrivals a'.least.settled in
        absurd (u w.0 w.1.settled)
    part-given v (passes x p (passes y q (settled w S f l r (applies n a)))) =
        let m' = mem_sublist some a.here in
        let b = withdraw_bound N N' lmin lmax some v' S a'.arrivals (part_lower S l) a.flow a.here _ _ (r a.flow a.here).bound (a'.figures a.flow m').bound in
        absurd (omega (arith, a.fault, b, a'.timely a.flow m'))
    part-given v (passes x p (passes y q (settled w S f l r (passes z d g)))) = (map f N.flows, g)

  pub part_accepted : (gs' : List Figures) → judged N' ≡ Given gs' → (gs : List Figures) × (judged N ≡ Given gs)
  part_accepted gs' e =
      part-given gs' (accepting N' (judged N') gs' e (judged_is N' v')) (judged N) (judged_is N (withdraw_valid N N' lmin lmax some v'))
