-- What the list of a row says of its array; a flow put at its end, the searches through it, the last number, the ways out of refusals 2 to 6.
use Prim.Native.Nat.{ℕ, zero, suc, ◌+◌, ◌-◌, ◌≤◌, ◌<◌, min}
use mathlib.Core.Path.{◌≡◌, refl, sym, ap, ◌∙◌}
use mathlib.Core.Bool.{Bool, true, false, cond, false≢true}
use mathlib.Core.List.{List, [], ◌∷◌, ◌++◌}
use native.Mathlib.Numerals.{add-one}
use native.Mathlib.Omega.{arith}
use lib.ListN.{length, get_or, take, drop, set, replicate, length-append, length-take, drop_of_length-le, get_or-eq_default}
use lib.Seq.{set-append_seam, append_snoc, take-append_seam, drop-cons, get_or-take}
use lib.Dec.{leb, ltb}
use borrow.Author.Tests.{le-leb, lt-leb}
use Rattle.flows.specs.declared.Flow.{Flow}
use Rattle.flows.specs.declared.Row.{Row}
use Rattle.flows.specs.Lists.{most_flows, no_flow, held, row_of}
use Rattle.std.specs.Prelude.{Option, Some, None, is_some, Ok, Err}
use Rattle.flows.specs.declared.Cause.{Cause}
use Rattle.row.specs.Rows.{placed, first_of, place_of, found_in, appended, last_number, entry_cause}
use Rattle.flows.specs.declared.Cause.TheVariants.{Present, Full}
use Rattle.flows.specs.Refusals.{Ruling, accepted}
use Rattle.flows.specs.Tests.{flow_cause}

-- what is read within a list does not depend on the default
pub get_d_any : {A : Type 0} (l : List A) (i : ℕ) (d e : A) → i < length l → get_or l i d ≡ get_or l i e
get_d_any [] i d e h = absurd (omega arith)
get_d_any (x ∷ l) zero d e h = refl
get_d_any (x ∷ l) (suc i) d e h = get_d_any l i d e (omega arith)

pub length_snoc : {A : Type 0} (l : List A) (x : A) → length (l ++ (x ∷ [])) ≡ length l + 1
length_snoc l x = length-append l (x ∷ [])

pub held-row_of : (fs : List Flow) → held (row_of fs) ≡ fs
unfolding held row_of
held-row_of fs = take-append_seam fs (replicate (most_flows - length fs) no_flow)

pub none_row : (f : Flow) → f ≡ no_flow → record { flows = replicate most_flows f; count = 0 } ≡ row_of []
unfolding row_of
none_row f e = rw e

-- an array of which the first count places are used
module _ {A : Type 0} (all : List A) (count : ℕ) where
  pub used_all : {most : ℕ} → length all ≡ most → most < count → most ≡ length (take count all)
  used_all len h = omega (arith, length-take count all)

  pub used_count : {most : ℕ} → length all ≡ most → count ≤ most → count ≡ length (take count all)
  used_count len h = omega (arith, length-take count all)

  pub used_at : (k : ℕ) (d : A) → k < length (take count all) → get_or (take count all) k d ≡ get_or all k d
  used_at k d h = get_or-take count all k d (omega (arith, length-take count all))

module _ (row : Row) (len : length row.flows ≡ most_flows) where
  pub size_capped : (n : ℕ) → n ≡ min row.count most_flows → n ≡ length (held row)
  unfolding held
  size_capped n e = omega (arith, length-take row.count row.flows)

  pub held_at : (k : ℕ) (d : Flow) → k < length (held row) → get_or (held row) k d ≡ get_or row.flows k d
  unfolding held
  held_at k d h = used_at row.flows row.count k d h

  pub flow_none : (k : ℕ) → length (held row) ≤ k → no_flow ≡ placed row k
  flow_none k h = sym (get_or-eq_default (held row) no_flow {n = k} h)

  pub flow_held : (k : ℕ) → k < length (held row) → (d : Flow) → get_or row.flows k d ≡ placed row k
  flow_held k h d = sym (held_at k d h) ∙ get_d_any (held row) k d no_flow h

pub take_counted : {A : Type 0} (l : List A) (k m : ℕ) → m ≡ length (take k l) → take m l ≡ take k l
take_counted l zero m e = rw e
take_counted [] (suc k) m e = rw e
take_counted (x ∷ l) (suc k) zero e = absurd (omega arith)
take_counted (x ∷ l) (suc k) (suc m) e = ap (λ (r : List _). x ∷ r) (take_counted l k m (omega arith))

pub held_all : (row : Row) (n : ℕ) → n ≡ length (held row) → take n row.flows ≡ held row
unfolding held
held_all row n e = take_counted row.flows row.count n e

-- ---- a flow put at the end
module _ (row : Row) (f : Flow) where
  pub append_stored : row.count < most_flows → record { flows = set row.flows row.count f; count = row.count + 1 } ≡ appended row f
  unfolding appended
  append_stored h = rw (lt-leb _ _ h)

  pub append_count : (r : Row) → r ≡ appended row f → row.count < most_flows → r.count ≡ row.count + 1
  unfolding appended
  append_count r e h = ap (λ (s : Row). s.count) (e ∙ sym (append_stored h))

pub stored : {A : Type 0} (most : ℕ) (none : A) (xs : List A) (x : A) → length xs < most →
    set (xs ++ replicate (most - length xs) none) (length xs) x ≡ (xs ++ (x ∷ [])) ++ replicate (most - (length xs + 1)) none
stored most none xs x h =
    let e : most - length xs ≡ suc (most - (length xs + 1)) = omega arith in
    rw (e, set-append_seam, append_snoc)

pub append_list : (fs : List Flow) (f : Flow) → length fs < most_flows → appended (row_of fs) f ≡ row_of (fs ++ (f ∷ []))
unfolding appended row_of
append_list fs f h = rw (lt-leb _ _ h, stored most_flows no_flow fs f h, length_snoc)

-- ---- a search: what is left from place k decides
module _ {A : Type 0} (p : A → Bool) (l : List A) (k : ℕ) (d : A) (inv : first_of p l ≡ k + first_of p (drop k l)) where
  first_more : k < length l → p (get_or l k d) ≡ false → first_of p l ≡ k + 1 + first_of p (drop (k + 1) l)
  unfolding first_of
  first_more h t = let g : first_of p (drop k l) ≡ suc (first_of p (drop (suc k) l)) = rw (drop-cons l k d h, t) in rw add-one (omega arith)

  first_here : k < length l → p (get_or l k d) ≡ true → k ≡ first_of p l
  unfolding first_of
  first_here h t = let g : first_of p (drop k l) ≡ 0 = rw (drop-cons l k d h, t) in omega arith

  first-end : length l ≤ k → k ≡ first_of p l
  unfolding first_of
  first-end h = let g : first_of p (drop k l) ≡ 0 = rw (drop_of_length-le l {i = k} h) in omega arith

module _ (row : Row) (p : ℕ → Bool) (n k : ℕ) (d : Flow) (len : length row.flows ≡ most_flows) (e : n ≡ length (held row))
    (inv : first_of (λ (f : Flow). p f.number) (held row) ≡ k + first_of (λ (f : Flow). p f.number) (drop k (held row))) (h : k < n) where
  there : get_or (held row) k d ≡ get_or row.flows k d
  there = held_at row len k d (omega arith)

  pub search_more : p (get_or row.flows k d).number ≡ false →
      first_of (λ (f : Flow). p f.number) (held row) ≡ k + 1 + first_of (λ (f : Flow). p f.number) (drop (k + 1) (held row))
  search_more t = first_more _ (held row) k d inv (omega arith) (rw there t)

  pub search_here : p (get_or row.flows k d).number ≡ true → k ≡ first_of (λ (f : Flow). p f.number) (held row)
  search_here t = first_here _ (held row) k d inv (omega arith) (rw there t)

pub search_end : (p : Flow → Bool) (fs : List Flow) (n k : ℕ) → n ≡ length fs → n ≤ k → first_of p fs ≡ k + first_of p (drop k fs) → k ≡ first_of p fs
search_end p fs n k e h inv = first-end p fs k no_flow inv (omega arith)

pub search_past : (p : Flow → Bool) (fs : List Flow) (n k : ℕ) → n ≡ length fs → k ≤ n → n ≤ k → first_of p fs ≡ k + first_of p (drop k fs) → n ≡ first_of p fs
search_past p fs n k e h g inv = let r = search_end p fs n k e g inv in omega arith

-- ---- the last number
pub last_none : (row : Row) (n : ℕ) → n ≡ length (held row) → n ≡ 0 → 0 ≡ last_number (held row)
unfolding last_number
last_none row n e h = go (held row) (omega arith)
  where
    go : (fs : List Flow) → length fs ≡ 0 → 0 ≡ (get_or fs (length fs - 1) no_flow).number
    go [] z = refl
    go (f ∷ fs) z = absurd (omega arith)

pub last_at : (row : Row) (n : ℕ) (d : Flow) → length row.flows ≡ most_flows → n ≡ length (held row) → (n ≡ 0 → ⊥) →
    (get_or row.flows (n - 1) d).number ≡ last_number (held row)
unfolding last_number
last_at row n d len e h =
    let z : n - 1 < length (held row) = omega arith in
    let g : get_or (held row) (n - 1) no_flow ≡ get_or row.flows (n - 1) d = get_d_any (held row) (n - 1) no_flow d z ∙ held_at row len (n - 1) d z in
    ap (λ (f : Flow). f.number) (sym g) ∙ ap (λ (i : ℕ). (get_or (held row) (i - 1) no_flow).number) e

-- ---- refusals 2 to 6
module _ (fs : List Flow) (f : Flow) (r : Ruling) (e : r ≡ flow_cause f) where
  pub entry_refused : (s : Ruling) (c : Cause) → r ≡ Err c → s ≡ Err c → s ≡ entry_cause fs f
  unfolding entry_cause
  entry_refused s c g i = let h : flow_cause f ≡ Err c = sym e ∙ g in i ∙ rw h

  module _ (x : Unit {0}) (g : r ≡ Ok x) (o : Option ℕ) (i : o ≡ found_in fs f.number) where
    passed : flow_cause f ≡ accepted
    passed = sym e ∙ g

    pub entry_present : (t : Bool) → t ≡ is_some o → t ≡ true → Err Present ≡ entry_cause fs f
    unfolding entry_cause found_in
    entry_present t j h = rw passed (go (ltb (place_of f.number fs) (length fs)) i)
      where
        go : (b : Bool) → o ≡ cond b (Some (place_of f.number fs)) None → Err Present ≡ cond b (Err Present) (cond (leb most_flows (length fs)) (Err Full) accepted)
        go true q = refl
        go false q = absurd (false≢true (sym (ap is_some q) ∙ sym j ∙ h))

    module _ (t : Bool) (j : t ≡ is_some o) (h : t ≡ false) where
      absent : entry_cause fs f ≡ cond (leb most_flows (length fs)) (Err Full) accepted
      unfolding entry_cause found_in
      absent = rw passed (go (ltb (place_of f.number fs) (length fs)) i)
        where
          go : (b : Bool) → o ≡ cond b (Some (place_of f.number fs)) None →
              cond b (Err Present) (cond (leb most_flows (length fs)) (Err Full) accepted) ≡ cond (leb most_flows (length fs)) (Err Full) accepted
          go true q = absurd (false≢true (sym h ∙ j ∙ ap is_some q))
          go false q = refl

      pub entry_full : (n : ℕ) → n ≡ length fs → most_flows ≤ n → Err Full ≡ entry_cause fs f
      entry_full n m l = rw (absent, ← m, le-leb _ _ l)

      pub entry_accepted : (n : ℕ) → n ≡ length fs → n < most_flows → accepted ≡ entry_cause fs f
      entry_accepted n m l = rw (absent, ← m, lt-leb _ _ l)
