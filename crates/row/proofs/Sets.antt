-- Rows in rising number: kept by insertion and removal, and determined by their flows; which of refusals 2 to 6 is given.
use Prim.Native.Nat.{ℕ, suc, ◌≤◌, ◌<◌}
use mathlib.Core.Path.{◌≡◌, refl, sym, ap, ◌∙◌, subst}
use mathlib.Core.Bool.{Bool, true, false, cond}
use mathlib.Core.List.{List, [], ◌∷◌, Memᴰ}
use mathlib.Core.Logic.{◌⊎◌, inl, inr, ⊎_elim}
use native.Mathlib.Omega.{arith}
use native.Mathlib.Nat.{eq-or-lt_of_le}
use lib.ListN.{length, get_or}
use lib.Dec.{eqb, leb, ltb}
use borrow.Author.Tests.{ne_eqb, eqb-true, eqb-false, lt-ltb, le-ltb, ltb-true, ltb-false, le-leb, lt-leb, leb-true, leb-false}
use Rattle.flows.specs.declared.Flow.{Flow}
use Rattle.flows.specs.Lists.{most_flows}
use Rattle.flows.specs.declared.Cause.TheVariants.{Present, Full}
use Rattle.flows.specs.Refusals.{Ruling, accepted, accepted_by}
use Rattle.flows.specs.Tests.{flow_cause}
use Rattle.flows.specs.WellFormed.{Exact, Each, each_none, each_more, Typed}
use Rattle.std.specs.Prelude.{Some, None, Err}
use Rattle.row.specs.Rows.{first_of, place_of, found_in, insert_sorted, without, entry_cause, RisingBy, Rising, rising_none, rising-more}
use Rattle.flows.proofs.Causes.{accepted_only, not_accepted, refused-never}
use Rattle.row.specs.Sets.{Lacks, Enters, OfEntry, by_itself, number_taken, no_room, let_in}
use Rattle.flows.proofs.Passed.{exact_from, exact_as, flow_exact, formed, formed_passes}

-- ---- insertion and removal keep the numbers rising
pub insert_rising : {n : ℕ} (f : Flow) (fs : List Flow) → n < f.number → Lacks f.number fs → Rising n fs → Rising n (insert_sorted f fs)
unfolding insert_sorted
insert_rising f [] h a r = rising-more h rising_none
insert_rising {n} f (g ∷ gs) h (each_more d a) (rising-more i r) = go (ltb f.number g.number) refl (λ l. insert_rising f gs l a r)
  where
    go : (b : Bool) → ltb f.number g.number ≡ b → (g.number < f.number → Rising g.number (insert_sorted f gs)) →
        Rising n (cond b (f ∷ g ∷ gs) (g ∷ insert_sorted f gs))
    go true e ih = rising-more h (rising-more (ltb-true _ _ e) r)
    go false e ih =
        let l : g.number ≤ f.number = ltb-false _ _ e in
        let m : g.number < f.number = ⊎_elim (λ (q : g.number ≡ f.number). absurd (d q)) (λ (q : g.number < f.number). q) (eq-or-lt_of_le l) in
        rising-more i (ih m)

rising_from : {m n : ℕ} (fs : List Flow) → m < n → Rising n fs → Rising m fs
rising_from [] h r = rising_none
rising_from {m} (f ∷ fs) h (rising-more i r) = let j : m < f.number = omega arith in rising-more j r

pub without_rising : {n : ℕ} (number : ℕ) (fs : List Flow) → Rising n fs → Rising n (without number fs)
unfolding without
without_rising number [] r = rising_none
without_rising {n} number (f ∷ fs) (rising-more h r) = go (eqb f.number number) (without_rising number fs r)
  where
    go : (b : Bool) → Rising f.number (without number fs) → Rising n (cond b fs (f ∷ without number fs))
    go true ih = rising_from fs h r
    go false ih = rising-more h ih

-- ---- equal sets, equal rows
pub above : {A : Type 0} {number : A → ℕ} {n : ℕ} {y : A} (xs : List A) → RisingBy number n xs → Memᴰ y xs → n < number y
above [] r m = absurd (mathlib.Core.List.Memᴰ.not-nil m)
above {y = y} (x ∷ xs) (rising-more h r) m =
    ⊎_elim (λ (e : y ≡ x). rw e h) (λ (i : Memᴰ y xs). let l = above xs r i in omega arith) (mathlib.Core.List.Memᴰ.cases_cons m)

-- every flow of fs is one of gs
abbrev Within : List Flow → List Flow → Type 0
Within fs gs = (f : Flow) → Memᴰ f fs → Memᴰ f gs

same_first : {m n : ℕ} (f g : Flow) (fs gs : List Flow) → Rising m (f ∷ fs) → Rising n (g ∷ gs) → Within (f ∷ fs) (g ∷ gs) → Within (g ∷ gs) (f ∷ fs) → f ≡ g
same_first f g fs gs (rising-more h r) (rising-more i s) a b =
    ⊎_elim (λ (e : f ≡ g). e)
    (λ (p : Memᴰ f gs).
    ⊎_elim (λ (e : g ≡ f). sym e)
    (λ (q : Memᴰ g fs). let l = above gs s p in let k = above fs r q in absurd (omega arith))
    (mathlib.Core.List.Memᴰ.cases_cons (b g (mathlib.Core.List.Memᴰ.head refl))))
    (mathlib.Core.List.Memᴰ.cases_cons (a f (mathlib.Core.List.Memᴰ.head refl)))

same_rest : {m : ℕ} (f g : Flow) (fs gs : List Flow) → Rising m (f ∷ fs) → f ≡ g → Within (f ∷ fs) (g ∷ gs) → Within fs gs
same_rest f g fs gs (rising-more h r) e a x p =
    ⊎_elim (λ (q : x ≡ g). let l = above fs r p in let k : x.number ≡ f.number = ap (λ (y : Flow). y.number) (q ∙ sym e) in absurd (omega arith))
    (λ (q : Memᴰ x gs). q)
    (mathlib.Core.List.Memᴰ.cases_cons (a x (mathlib.Core.List.Memᴰ.tail p)))

pub same_flows : {m n : ℕ} (fs gs : List Flow) → Rising m fs → Rising n gs → Within fs gs → Within gs fs → fs ≡ gs
same_flows [] [] r s a b = refl
same_flows [] (g ∷ gs) r s a b = absurd (mathlib.Core.List.Memᴰ.not-nil (b g (mathlib.Core.List.Memᴰ.head refl)))
same_flows (f ∷ fs) [] r s a b = absurd (mathlib.Core.List.Memᴰ.not-nil (a f (mathlib.Core.List.Memᴰ.head refl)))
same_flows (f ∷ fs) (g ∷ gs) r s a b =
    let e = same_first f g fs gs r s a b in
    let t : fs ≡ gs = same_flows fs gs (rest r) (rest s) (same_rest f g fs gs r e a) (same_rest g f gs fs s (sym e) b) in
    rw (e, t)
  where
    rest : {n : ℕ} {x : Flow} {xs : List Flow} → Rising n (x ∷ xs) → Rising x.number xs
    rest (rising-more h r) = r

-- ---- the flows present afterwards
pub insert_has : (f : Flow) (fs : List Flow) → Memᴰ f (insert_sorted f fs)
unfolding insert_sorted
insert_has f [] = mathlib.Core.List.Memᴰ.head refl
insert_has f (g ∷ gs) = go (ltb f.number g.number) (insert_has f gs)
  where
    go : (b : Bool) → Memᴰ f (insert_sorted f gs) → Memᴰ f (cond b (f ∷ g ∷ gs) (g ∷ insert_sorted f gs))
    go true ih = mathlib.Core.List.Memᴰ.head refl
    go false ih = mathlib.Core.List.Memᴰ.tail ih

pub insert-keeps : (f x : Flow) (fs : List Flow) → Memᴰ x fs → Memᴰ x (insert_sorted f fs)
unfolding insert_sorted
insert-keeps f x [] m = absurd (mathlib.Core.List.Memᴰ.not-nil m)
insert-keeps f x (g ∷ gs) m = go (ltb f.number g.number) (λ i. insert-keeps f x gs i) (mathlib.Core.List.Memᴰ.cases_cons m)
  where
    go : (b : Bool) → (Memᴰ x gs → Memᴰ x (insert_sorted f gs)) → (x ≡ g) ⊎ Memᴰ x gs →
        Memᴰ x (cond b (f ∷ g ∷ gs) (g ∷ insert_sorted f gs))
    go true ih p = mathlib.Core.List.Memᴰ.tail m
    go false ih (inl e) = mathlib.Core.List.Memᴰ.head e
    go false ih (inr i) = mathlib.Core.List.Memᴰ.tail (ih i)

pub insert_only : (f x : Flow) (fs : List Flow) → Memᴰ x (insert_sorted f fs) → (x ≡ f) ⊎ Memᴰ x fs
unfolding insert_sorted
insert_only f x [] m = mathlib.Core.List.Memᴰ.cases_cons m
insert_only f x (g ∷ gs) m = go (ltb f.number g.number) (λ i. insert_only f x gs i) m
  where
    down : (x ≡ f) ⊎ Memᴰ x gs → (x ≡ f) ⊎ Memᴰ x (g ∷ gs)
    down (inl e) = inl e
    down (inr i) = inr (mathlib.Core.List.Memᴰ.tail i)

    go : (b : Bool) → (Memᴰ x (insert_sorted f gs) → (x ≡ f) ⊎ Memᴰ x gs) → Memᴰ x (cond b (f ∷ g ∷ gs) (g ∷ insert_sorted f gs)) →
        (x ≡ f) ⊎ Memᴰ x (g ∷ gs)
    go true ih p = mathlib.Core.List.Memᴰ.cases_cons p
    go false ih p =
        ⊎_elim (λ (e : x ≡ g). inr (mathlib.Core.List.Memᴰ.head e)) (λ (i : Memᴰ x (insert_sorted f gs)). down (ih i)) (mathlib.Core.List.Memᴰ.cases_cons p)

pub without-keeps : (number : ℕ) (x : Flow) (fs : List Flow) → (x.number ≡ number → ⊥) → Memᴰ x fs → Memᴰ x (without number fs)
unfolding without
without-keeps number x [] d m = absurd (mathlib.Core.List.Memᴰ.not-nil m)
without-keeps number x (f ∷ fs) d m = go (eqb f.number number) refl (λ i. without-keeps number x fs d i) (mathlib.Core.List.Memᴰ.cases_cons m)
  where
    go : (b : Bool) → eqb f.number number ≡ b → (Memᴰ x fs → Memᴰ x (without number fs)) → (x ≡ f) ⊎ Memᴰ x fs →
        Memᴰ x (cond b fs (f ∷ without number fs))
    go true e ih (inl p) = absurd (d (ap (λ (y : Flow). y.number) p ∙ eqb-true _ _ e))
    go true e ih (inr i) = i
    go false e ih (inl p) = mathlib.Core.List.Memᴰ.head p
    go false e ih (inr i) = mathlib.Core.List.Memᴰ.tail (ih i)

pub without_only : {n : ℕ} (number : ℕ) (x : Flow) (fs : List Flow) → Rising n fs → Memᴰ x (without number fs) →
    (x.number ≡ number → ⊥) × Memᴰ x fs
unfolding without
without_only number x [] r m = absurd (mathlib.Core.List.Memᴰ.not-nil m)
without_only number x (f ∷ fs) (rising-more h r) m = go (eqb f.number number) refl (λ i. without_only number x fs r i) m
  where
    go : (b : Bool) → eqb f.number number ≡ b → (Memᴰ x (without number fs) → (x.number ≡ number → ⊥) × Memᴰ x fs) →
        Memᴰ x (cond b fs (f ∷ without number fs)) → (x.number ≡ number → ⊥) × Memᴰ x (f ∷ fs)
    go true e ih p =
        let l = above fs r p in
        let k = eqb-true f.number number e in
        (λ q. omega arith, mathlib.Core.List.Memᴰ.tail p)
    go false e ih p =
        ⊎_elim
        (λ (q : x ≡ f). (λ (z : x.number ≡ number). eqb-false f.number number e (sym (ap (λ (y : Flow). y.number) q) ∙ z), mathlib.Core.List.Memᴰ.head q))
        (λ (i : Memᴰ x (without number fs)). ((ih i).0, mathlib.Core.List.Memᴰ.tail (ih i).1))
        (mathlib.Core.List.Memᴰ.cases_cons p)

-- ---- what holds of each flow still does
module _ (P : Flow → Type 0) where
  pub insert_each : (f : Flow) (fs : List Flow) → P f → Each P fs → Each P (insert_sorted f fs)
  unfolding insert_sorted
  insert_each f [] p e = each_more p each_none
  insert_each f (g ∷ gs) p (each_more q e) = go (ltb f.number g.number) (insert_each f gs p e)
    where
      go : (b : Bool) → Each P (insert_sorted f gs) → Each P (cond b (f ∷ g ∷ gs) (g ∷ insert_sorted f gs))
      go true ih = each_more p (each_more q e)
      go false ih = each_more q ih

  pub without_each : (number : ℕ) (fs : List Flow) → Each P fs → Each P (without number fs)
  unfolding without
  without_each number [] e = each_none
  without_each number (f ∷ fs) (each_more p e) = go (eqb f.number number) (without_each number fs e)
    where
      go : (b : Bool) → Each P (without number fs) → Each P (cond b fs (f ∷ without number fs))
      go true ih = e
      go false ih = each_more p ih

-- ---- what an answer says of the row
lacks-all : (number : ℕ) (fs : List Flow) → length fs ≤ place_of number fs → Lacks number fs
unfolding first_of
lacks-all number [] h = each_none
lacks-all number (f ∷ fs) h = go (eqb f.number number) refl h (λ i. lacks-all number fs i)
  where
    go : (b : Bool) → eqb f.number number ≡ b → suc (length fs) ≤ cond b 0 (suc (place_of number fs)) → (length fs ≤ place_of number fs → Lacks number fs) →
        Lacks number (f ∷ fs)
    go true e i ih = absurd (omega arith)
    go false e i ih = each_more (eqb-false f.number number e) (ih (omega arith))

at_place : (number : ℕ) (fs : List Flow) (d : Flow) → place_of number fs < length fs → (get_or fs (place_of number fs) d).number ≡ number
unfolding first_of
at_place number [] d h = absurd (omega arith)
at_place number (f ∷ fs) d h = go (eqb f.number number) refl h (λ i. at_place number fs d i)
  where
    go : (b : Bool) → eqb f.number number ≡ b → cond b 0 (suc (place_of number fs)) < suc (length fs) →
        (place_of number fs < length fs → (get_or fs (place_of number fs) d).number ≡ number) →
        (get_or (f ∷ fs) (cond b 0 (suc (place_of number fs))) d).number ≡ number
    go true e i ih = eqb-true f.number number e
    go false e i ih = ih (omega arith)

pub found-flow : (fs : List Flow) (number at : ℕ) (d : Flow) → found_in fs number ≡ Some at → (at < length fs) × ((get_or fs at d).number ≡ number)
unfolding found_in
found-flow fs number at d h = go (ltb (place_of number fs) (length fs)) refl h
  where
    go : (b : Bool) → ltb (place_of number fs) (length fs) ≡ b → cond b (Some (place_of number fs)) None ≡ Some at →
        (at < length fs) × ((get_or fs at d).number ≡ number)
    go true e i =
        let p : place_of number fs ≡ at = cc in
        let l = ltb-true (place_of number fs) (length fs) e in
        (rw (← p) l, rw (← p) (at_place number fs d l))
    go false e i = let z : ◌≡◌ {A = ℕ} 0 1 = cc in absurd (omega arith)

lacks_place : (number : ℕ) (fs : List Flow) → Lacks number fs → length fs ≤ place_of number fs
unfolding first_of
lacks_place number [] a = omega arith
lacks_place number (f ∷ fs) (each_more d a) = let ih = lacks_place number fs a in rw (ne_eqb f.number number d) (omega arith)

taken_place : (number : ℕ) (fs : List Flow) → place_of number fs < length fs → Lacks number fs → ⊥
taken_place number fs h a = omega (arith, lacks_place number fs a)

module _ (fs : List Flow) (f : Flow) where
  entry-itself : accepted_by (flow_cause f) ≡ false → flow_cause f ≡ entry_cause fs f
  unfolding entry_cause
  entry-itself e = rw e

  module _ (e : flow_cause f ≡ accepted) where
    entry_taken : place_of f.number fs < length fs → Err Present ≡ entry_cause fs f
    unfolding entry_cause
    entry_taken h = rw (e, lt-ltb _ _ h)

    entry_filled : length fs ≤ place_of f.number fs → most_flows ≤ length fs → Err Full ≡ entry_cause fs f
    unfolding entry_cause
    entry_filled h g = rw (e, le-ltb _ _ h, le-leb _ _ g)

    entry_let_in : length fs ≤ place_of f.number fs → length fs < most_flows → accepted ≡ entry_cause fs f
    unfolding entry_cause
    entry_let_in h g = rw (e, le-ltb _ _ h, lt-leb _ _ g)

  module _ (t : Typed f) where
    of_entry : OfEntry fs f (entry_cause fs f)
    of_entry = go (accepted_by (flow_cause f)) (ltb (place_of f.number fs) (length fs)) (leb most_flows (length fs)) refl refl refl
      where
        go : (p q r : Bool) → accepted_by (flow_cause f) ≡ p → ltb (place_of f.number fs) (length fs) ≡ q → leb most_flows (length fs) ≡ r →
            OfEntry fs f (entry_cause fs f)
        go false q r i j k =
            subst (OfEntry fs f) (entry-itself i)
            (by_itself (flow_cause f) (refused-never (flow_cause f) i) ((flow_exact f t (flow_cause f)).0 refl))
        go true true r i j k =
            let e = accepted_only (flow_cause f) i in
            let h = ltb-true _ _ j in
            subst (OfEntry fs f) (entry_taken e h) (number_taken (formed f t e) (taken_place f.number fs h))
        go true false true i j k =
            let e = accepted_only (flow_cause f) i in
            let h = ltb-false _ _ j in
            let g = leb-true _ _ k in
            subst (OfEntry fs f) (entry_filled e h g) (no_room (formed f t e) (lacks-all f.number fs h) g)
        go true false false i j k =
            let e = accepted_only (flow_cause f) i in
            let h = ltb-false _ _ j in
            let g = leb-false _ _ k in
            subst (OfEntry fs f) (entry_let_in e h g) (let_in (record { flow = formed f t e; lacks = lacks-all f.number fs h; room = g }))

    entry-only : (c : Ruling) → OfEntry fs f c → c ≡ entry_cause fs f
    entry-only c (by_itself d n o) =
        let e = (flow_exact f t d).1 o in
        sym e ∙ entry-itself (ap accepted_by e ∙ not_accepted d n)
    entry-only c (number_taken w n) = entry_taken (formed_passes f t w) (go (ltb (place_of f.number fs) (length fs)) refl)
      where
        go : (b : Bool) → ltb (place_of f.number fs) (length fs) ≡ b → place_of f.number fs < length fs
        go true h = ltb-true _ _ h
        go false h = absurd (n (lacks-all f.number fs (ltb-false _ _ h)))
    entry-only c (no_room w l g) = entry_filled (formed_passes f t w) (lacks_place f.number fs l) g
    entry-only c (let_in n) = entry_let_in (formed_passes f t n.flow) (lacks_place f.number fs n.lacks) n.room

    -- Refusals 2 to 6: each is given exactly when the rules say so
    pub entry_exact : Exact (entry_cause fs f) (OfEntry fs f)
    entry_exact = exact_from (OfEntry fs f) (entry_cause fs f) of_entry entry-only

    pub entry_given : (r : Ruling) → r ≡ entry_cause fs f → Exact r (OfEntry fs f)
    entry_given r e = exact_as (OfEntry fs f) r (entry_cause fs f) e entry_exact

    pub enters : entry_cause fs f ≡ accepted → Enters fs f
    enters e = go ((entry_exact accepted).0 e)
      where
        go : OfEntry fs f accepted → Enters fs f
        go (by_itself c n o) = absurd (n refl)
        go (let_in n) = n

    pub entered : Enters fs f → entry_cause fs f ≡ accepted
    entered n = (entry_exact accepted).1 (let_in n)
