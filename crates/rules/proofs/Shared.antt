-- The nodes that a flow shares with i's path stand for its whole path: what the formula reads of them is what it would read of the path. Assumes nothing.
use mathlib.Core.Path.{◌≡◌, refl, ◌∙◌, sym, ap, ap₂}
use mathlib.Core.Bool.{Bool, true, false}
use mathlib.Core.List.{List, [], ◌∷◌, Memᴰ}
use Prim.Native.Nat.{ℕ, ◌≤◌, max}
use native.Mathlib.Omega.{arith}
use lib.Dec.{eqb}
use borrow.Author.Tests.{eqb-true}
use Rattle.least.specs.Count.{pick}
use Rattle.least.specs.Fold.{max_of, only, any_of, keep}
use Rattle.least.proofs.Count.{never_true}
use Rattle.least.proofs.Fold.{false_true, max_under, any_at}
use Rattle.rules.specs.Net.{Hop}
use Rattle.rules.specs.Formula.{visits, first_on, last_on, there, crosses, slowest}

-- I is i's path
module _ (I : List Hop) where
  abbrev pub shared : List Hop → List Hop
  shared l = keep (λ k. visits I k.node) l

  -- a function over a list that a node off I does not change
  unchanged : {X : Type 0} (F : List Hop → X) (step : Hop → X → X) → ((k : Hop) (l : List Hop) → F (k ∷ l) ≡ step k (F l)) →
      ((k : Hop) (x : X) → visits I k.node ≡ false → step k x ≡ x) → (l : List Hop) → F (shared l) ≡ F l
  unfolding keep
  unchanged F step next off [] = refl
  unchanged {X} F step next off (k ∷ l) = go (unchanged F step next off l) (visits I k.node) refl
    where
      go : F (shared l) ≡ F l → (b : Bool) → visits I k.node ≡ b → F (elim b [ true ↦ k ∷ shared l | false ↦ shared l ]) ≡ F (k ∷ l)
      go ih true e = next k (shared l) ∙ ap (step k) ih ∙ sym (next k l)
      go ih false e = ih ∙ sym (off k (F l) e) ∙ sym (next k l)

  other-node : (n : ℕ) → visits I n ≡ true → (k : Hop) → visits I k.node ≡ false → eqb k.node n ≡ false
  other-node n o k e = never_true (eqb k.node n) (λ q. false_true (sym e ∙ ap (visits I) (eqb-true k.node n q) ∙ o))

  -- at a node of I
  pub visits_shared : (n : ℕ) → visits I n ≡ true → (l : List Hop) → visits (shared l) n ≡ visits l n
  unfolding visits any_of
  visits_shared n o = unchanged (λ l. visits l n) (λ k r. pick (eqb k.node n) true r) (λ k l. refl) (λ k r e. rw (other-node n o k e))

  pub there_shared : (f : Hop → ℕ) (n : ℕ) → visits I n ≡ true → (l : List Hop) → there f (shared l) n ≡ there f l n
  unfolding there max_of
  there_shared f n o =
      unchanged (λ l. there f l n) (λ k r. max (pick (eqb k.node n) (f k) 0) r) (λ k l. refl) (λ k r e. rw (other-node n o k e) (omega arith))

  -- on a part P of I
  module _ (P : List Hop) (within : (n : ℕ) → visits P n ≡ true → visits I n ≡ true) where
    outside : (n : ℕ) → visits I n ≡ false → visits P n ≡ false
    outside n e = never_true (visits P n) (λ q. false_true (sym e ∙ within n q))

    pub slowest_shared : (l : List Hop) → slowest P (shared l) ≡ slowest P l
    unfolding slowest max_of
    slowest_shared =
        unchanged (slowest P) (λ k r. max (pick (visits P k.node) k.cost 0) r) (λ k l. refl) (λ k r e. rw (outside k.node e) (omega arith))

    pub first_of_shared : (l : List Hop) → first_on (shared l) P ≡ first_on l P
    unfolding first_on
    first_of_shared = unchanged (λ l. first_on l P) (λ k r. pick (visits P k.node) k.node r) (λ k l. refl) (λ k r e. rw (outside k.node e))

-- the first and the last node of a, where every node of a is on I
pub first_on_shared : (I a l : List Hop) → ((k : Hop) → Memᴰ k a → visits I k.node ≡ true) → first_on a (shared I l) ≡ first_on a l
unfolding first_on
first_on_shared I [] l h = refl
first_on_shared I (k ∷ a) l h =
    ap₂ (λ b r. pick b k.node r) (visits_shared I k.node (h k (Memᴰ.head refl)) l) (first_on_shared I a l (λ m q. h m (Memᴰ.tail q)))

pub last_on_shared : (I a l : List Hop) (d : ℕ) → ((k : Hop) → Memᴰ k a → visits I k.node ≡ true) → last_on d a (shared I l) ≡ last_on d a l
unfolding last_on
last_on_shared I [] l d h = refl
last_on_shared I (k ∷ a) l d h =
    ap (λ b. last_on (pick b k.node d) a (shared I l)) (visits_shared I k.node (h k (Memᴰ.head refl)) l)
    ∙ last_on_shared I a l (pick (visits l k.node) k.node d) (λ m q. h m (Memᴰ.tail q))

-- the slowest cost of a flow that does not cross is 0
pub uncrossed_nothing : (P l : List Hop) → crosses P l ≡ false → slowest P l ≡ 0
unfolding crosses slowest
uncrossed_nothing P l e = omega (arith, max_under (only (λ k. visits P k.node) (λ k. k.cost)) l 0 (λ k m. go k m (visits P k.node) refl))
  where
    go : (k : Hop) → Memᴰ k l → (b : Bool) → visits P k.node ≡ b → pick b k.cost 0 ≤ 0
    go k m true q = false_true (sym e ∙ any_at (λ k. visits P k.node) m q)
    go k m false q = omega arith
