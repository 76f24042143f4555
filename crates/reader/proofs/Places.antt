-- The table of kinds, and what a kind says of the bytes at its place.
use Prim.Native.Nat.{ℕ, ◌+◌, ◌-◌, ◌≤◌, ◌<◌}
use mathlib.Core.Path.{◌≡◌, refl, sym, ap, ◌∙◌}
use mathlib.Core.Bool.{Bool, true, false, cond}
use mathlib.Core.List.{List}
use mathlib.Core.Logic.{◌⊎◌, inl, inr}
use native.Mathlib.Omega.{arith}
use Rattle.std.specs.Prelude.{Option, Some, None, Result, Ok, Err, IsErrAnd}
use lib.ListN.{length, get_or}
use lib.Dec.{leb, ltb, eqb}
use borrow.Author.Tests.{eq-eqb, ne_eqb, le-ltb, lt-leb, eqb-true, eqb-false, ltb-false, leb-false}
use Rattle.records.specs.Kinds.{links_kind, flow_kind, end_kind, count_kind, line_kind, close_kind}
use Rattle.std.specs.Option.{ok_or}
use Rattle.reader.specs.declared.Kind.{Kind}
use Rattle.reader.specs.declared.Kind.TheVariants.{Links, Flow, End, Count, Line, Close}
use Rattle.reader.specs.Places.{byte_of, body_of, with_body, kind_named, kind_of, kind_at, if_kind}

-- ---- the table: a kind's byte names it, and no other byte does
named_byte : (k : Kind) → kind_named (byte_of k) ≡ Some k
unfolding kind_named
named_byte Links = refl
named_byte Flow = refl
named_byte End = refl
named_byte Count = refl
named_byte Line = refl
named_byte Close = refl

named_as : (k : Kind) (x : ℕ) → x ≡ byte_of k → Some k ≡ kind_named x
named_as k x e = sym (named_byte k) ∙ ap kind_named (sym e)

byte_named : (x : ℕ) (k : Kind) → kind_named x ≡ Some k → byte_of k ≡ x
unfolding kind_named
byte_named x k =
    go (eqb x links_kind) (eqb x flow_kind) (eqb x end_kind) (eqb x count_kind) (eqb x line_kind) (eqb x close_kind) refl refl refl refl refl refl
  where
    this : (l : Kind) → eqb x (byte_of l) ≡ true → Some l ≡ Some k → byte_of k ≡ x
    this l e n = let m : l ≡ k = cc in ap byte_of (sym m) ∙ sym (eqb-true _ _ e)

    go : (p q r s t u : Bool) → eqb x links_kind ≡ p → eqb x flow_kind ≡ q → eqb x end_kind ≡ r → eqb x count_kind ≡ s → eqb x line_kind ≡ t →
        eqb x close_kind ≡ u →
        cond p (Some Links) (cond q (Some Flow) (cond r (Some End) (cond s (Some Count) (cond t (Some Line) (cond u (Some Close) None))))) ≡ Some k → byte_of k ≡ x
    go true q r s t u e₀ e₁ e₂ e₃ e₄ e₅ n = this Links e₀ n
    go false true r s t u e₀ e₁ e₂ e₃ e₄ e₅ n = this Flow e₁ n
    go false false true s t u e₀ e₁ e₂ e₃ e₄ e₅ n = this End e₂ n
    go false false false true t u e₀ e₁ e₂ e₃ e₄ e₅ n = this Count e₃ n
    go false false false false true u e₀ e₁ e₂ e₃ e₄ e₅ n = this Line e₄ n
    go false false false false false true e₀ e₁ e₂ e₃ e₄ e₅ n = this Close e₅ n
    go false false false false false false e₀ e₁ e₂ e₃ e₄ e₅ n = cc

body_whole : (x left : ℕ) (k : Kind) (n : ℕ) → Some k ≡ kind_named x → n ≡ body_of k → n ≤ left → Some k ≡ kind_of x left
unfolding kind_of
body_whole x left k n e g h = let i : body_of k ≤ left = rw (← g) h in rw (← e, le-ltb _ _ i)

at_some : (b : List ℕ) (at : ℕ) (k : Option Kind) → at < length b → k ≡ kind_of (get_or b at 0) (length b - (at + 1)) → k ≡ kind_at b at
unfolding kind_at
at_some b at k h e = rw (lt-leb _ _ h) e

-- ---- a record is of a kind or not
same_kind : (k w : Kind) → byte_of k ≡ byte_of w → k ≡ w
same_kind k w e = let h : Some k ≡ Some w = sym (named_byte k) ∙ ap kind_named e ∙ named_byte w in cc

pub is_kind : (k : Option Kind) (w : Kind) → (k ≡ Some w) ⊎ (k ≡ Some w → ⊥)
is_kind None w = inr (λ h. cc)
is_kind (Some k) w = go (eqb (byte_of k) (byte_of w)) refl
  where
    go : (p : Bool) → eqb (byte_of k) (byte_of w) ≡ p → (Some k ≡ Some w) ⊎ (Some k ≡ Some w → ⊥)
    go true e = inl (ap Some (same_kind k w (eqb-true _ _ e)))
    go false e = inr (λ h. let g : k ≡ w = cc in eqb-false _ _ e (ap byte_of g))

pub if_here : {A : Type 0} (k : Option Kind) (w : Kind) (x y : A) → k ≡ Some w → if_kind k w x y ≡ x
unfolding if_kind
if_here k w x y e = rw (e, eq-eqb (byte_of w) (byte_of w) refl)

pub if_other : {A : Type 0} (k : Option Kind) (w : Kind) (x y : A) → (k ≡ Some w → ⊥) → if_kind k w x y ≡ y
unfolding if_kind
if_other None w x y n = refl
if_other (Some k) w x y n = rw (ne_eqb _ _ (λ h. n (ap Some (same_kind k w h))))

-- what a caller knows that takes the answer apart by let .. else
pub kind_none : (k : Option Kind) (w : Kind) → k ≡ None → k ≡ Some w → ⊥
kind_none k w e g = cc

pub kind_other : (k : Option Kind) (l w : Kind) → k ≡ Some l → (l ≡ w → ⊥) → k ≡ Some w → ⊥
kind_other k l w e n g = n (cc)

-- what a ? gives back
passed : {T E : Type 0} {e : E} (r : Result T E) → IsErrAnd r (λ d. d ≡ e) → r ≡ Err e
passed (Ok x) h = absurd h
passed (Err d) h = ap Err h

-- where there is none, the caller refuses by a ?
module _ {E : Type 0} (k : Option Kind) (e : E) (r : Result Kind E) (v : r ≡ ok_or k e) (w : Kind) where
  pub saw : (l : Kind) → r ≡ Ok l → l ≡ w → k ≡ Some w
  saw l h i = go k (sym v ∙ h)
    where
      go : (m : Option Kind) → ok_or m e ≡ Ok l → m ≡ Some w
      go None j = cc
      go (Some x) j = cc

  pub saw_other : (l : Kind) → r ≡ Ok l → (l ≡ w → ⊥) → k ≡ Some w → ⊥
  saw_other l h n g = let i : ok_or (Some w) e ≡ Ok l = ap (λ (m : Option Kind). ok_or m e) (sym g) ∙ sym v ∙ h in n (cc)

  pub saw_none : {A : Type 0} (a : Result A E) (d : E) → r ≡ Err d → IsErrAnd a (λ f. f ≡ d) → (a ≡ Err e) × (k ≡ Some w → ⊥)
  saw_none a d h i = go k refl (sym v ∙ h)
    where
      go : (m : Option Kind) → k ≡ m → ok_or m e ≡ Err d → (a ≡ Err e) × (k ≡ Some w → ⊥)
      go None g j = let f : d ≡ e = cc in (passed a i ∙ ap Err f, kind_none k w g)
      go (Some x) g j = cc

-- what follows from the kind that a caller saw
module _ {A : Type 0} (b : List ℕ) (at : ℕ) (w : Kind) (x y : A) (k : Option Kind) (e : k ≡ kind_at b at) where
  pub seen_here : k ≡ Some w → if_kind (kind_at b at) w x y ≡ x
  seen_here h = if_here (kind_at b at) w x y (sym e ∙ h)

  pub seen_other : (k ≡ Some w → ⊥) → if_kind (kind_at b at) w x y ≡ y
  seen_other n = if_other (kind_at b at) w x y (λ h. n (e ∙ h))

-- ---- a kind that was found: its byte and its whole body are there
pub record Whole (b : List ℕ) (at : ℕ) (k : Kind) : Type 0 where
  pub byte : get_or b at 0 ≡ byte_of k
  pub room : at + 1 + body_of k ≤ length b

module _ (b : List ℕ) (at : ℕ) (k : Kind) where
  pub whole : kind_at b at ≡ Some k → Whole b at k
  unfolding kind_at kind_of
  whole = go (leb (length b) at) (kind_named x) refl refl
    where
      x : ℕ
      x = get_or b at 0

      left : ℕ
      left = length b - (at + 1)

      fits : (l : Kind) (q : Bool) → at < length b → kind_named x ≡ Some l → ltb left (body_of l) ≡ q → cond q None (Some l) ≡ Some k → Whole b at k
      fits l true i j h g = cc
      fits l false i j h g =
          let m : l ≡ k = cc in
          let r : body_of k ≤ left = rw (← m) (ltb-false left (body_of l) h) in
          record { byte = sym (byte_named x k (j ∙ g)); room = omega arith }

      go : (p : Bool) (m : Option Kind) → leb (length b) at ≡ p → kind_named x ≡ m → cond p None (with_body m left) ≡ Some k → Whole b at k
      go true m i j g = cc
      go false None i j g = cc
      go false (Some l) i j g = fits l (ltb left (body_of l)) (leb-false (length b) at i) j refl g

  pub found : Whole b at k → kind_at b at ≡ Some k
  found w =
      sym (at_some b at (Some k) (omega (arith, w.room))
      (body_whole _ _ k _ (named_as k _ w.byte) refl (omega (arith, w.room))))

-- kinds, and answers, that differ
pub impossible : {A : Type 0} → ◌≡◌ {A = ℕ} 0 1 → A
impossible e = absurd (omega arith)
