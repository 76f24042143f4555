-- A row made of parts of another: what the copies of an insertion and a removal put together.
use Prim.Native.Nat.{ℕ, zero, suc, ◌+◌, ◌-◌, ◌≤◌, ◌<◌}
use mathlib.Core.Path.{◌≡◌, refl, sym, ap, ◌∙◌}
use mathlib.Core.Bool.{Bool, true, false, cond}
use mathlib.Core.List.{List, [], ◌∷◌, ◌++◌, append_assoc, append-nil}
use native.Mathlib.Numerals.{add-one}
use native.Mathlib.Omega.{arith}
use native.Mathlib.Nat.{sub_self, sub-zero, suc-sub-suc, zero-sub}
use lib.ListN.{length, get_or, take, drop, length-take, length-drop}
use lib.Seq.{append_snoc, take-suc, take-nil, take-take, get_or-drop}
use lib.Dec.{eqb, leb, ltb}
use borrow.Author.Tests.{le-leb, lt-leb}
use Rattle.flows.specs.declared.Flow.{Flow}
use Rattle.flows.specs.declared.Row.{Row}
use Rattle.flows.specs.Lists.{most_flows, held, row_of}
use Rattle.row.specs.Rows.{first_of, place_of, rank_of, insert_sorted, without, inserted, appended}
use Rattle.row.proofs.Arrays.{append_list, held_all}

room_in : (r : Row) (fs : List Flow) → r ≡ row_of fs → r.count < most_flows → length fs < most_flows
unfolding row_of
room_in r fs e h = rw e at h

-- ---- the copying loop
pub copy-none : (start : Row) (fs gs : List Flow) (a : ℕ) → start ≡ row_of fs → start ≡ row_of (fs ++ take (a - a) (drop a gs))
copy-none start fs gs a e = e ∙ ap row_of (rw (sub_self, append-nil))

part_more : (fs gs : List Flow) (a k : ℕ) (d : Flow) → a ≤ k → k < length gs →
    (fs ++ take (k - a) (drop a gs)) ++ (get_or gs k d ∷ []) ≡ fs ++ take (k + 1 - a) (drop a gs)
part_more fs gs a k d h g =
    let e : k + 1 - a ≡ suc (k - a) = omega arith in
    let i : a + (k - a) ≡ k = omega arith in
    let j : k - a < length (drop a gs) = omega (arith, length-drop a gs) in
    rw (e, take-suc (drop a gs) (k - a) d j, get_or-drop a gs (k - a) d, i, append_assoc)

pub copy_more : (to r : Row) (fs gs : List Flow) (a k : ℕ) (d : Flow) → a ≤ k → k < length gs → to.count < most_flows →
    r ≡ appended to (get_or gs k d) → to ≡ row_of (fs ++ take (k - a) (drop a gs)) → r ≡ row_of (fs ++ take (k + 1 - a) (drop a gs))
copy_more to r fs gs a k d h g room e i =
    let n : length (fs ++ take (k - a) (drop a gs)) < most_flows = room_in to _ i room in
    e ∙ ap (λ (s : Row). appended s (get_or gs k d)) i ∙ append_list (fs ++ take (k - a) (drop a gs)) (get_or gs k d) n ∙ ap row_of (part_more fs gs a k d h g)

pub copy_end : (to : Row) (fs gs : List Flow) (a b k : ℕ) → k - a ≡ b - a → to ≡ row_of (fs ++ take (k - a) (drop a gs)) →
    to ≡ row_of (fs ++ take (b - a) (drop a gs))
copy_end to fs gs a b k e h = rw e at h

-- ---- insertion by rank, removal by place
insert_rank : (f : Flow) (l : List Flow) → insert_sorted f l ≡ take (rank_of f.number l) l ++ (f ∷ drop (rank_of f.number l) l)
unfolding insert_sorted first_of
insert_rank f [] = refl
insert_rank f (g ∷ gs) = go (ltb f.number g.number) (insert_rank f gs)
  where
    go : (b : Bool) → insert_sorted f gs ≡ take (rank_of f.number gs) gs ++ (f ∷ drop (rank_of f.number gs) gs) →
        cond b (f ∷ g ∷ gs) (g ∷ insert_sorted f gs) ≡
        take (cond b 0 (suc (rank_of f.number gs))) (g ∷ gs) ++ (f ∷ drop (cond b 0 (suc (rank_of f.number gs))) (g ∷ gs))
    go true ih = refl
    go false ih = ap (λ (r : List Flow). g ∷ r) ih

without_place : (n : ℕ) (l : List Flow) → without n l ≡ take (place_of n l) l ++ drop (suc (place_of n l)) l
unfolding without first_of
without_place n [] = refl
without_place n (g ∷ gs) = go (eqb g.number n) (without_place n gs)
  where
    go : (b : Bool) → without n gs ≡ take (place_of n gs) gs ++ drop (suc (place_of n gs)) gs →
        cond b gs (g ∷ without n gs) ≡ take (cond b 0 (suc (place_of n gs))) (g ∷ gs) ++ drop (suc (cond b 0 (suc (place_of n gs)))) (g ∷ gs)
    go true ih = refl
    go false ih = ap (λ (r : List Flow). g ∷ r) ih

take-drop : {A : Type 0} (l : List A) (p n : ℕ) → take (n - p) (drop p l) ≡ drop p (take n l)
take-drop l zero n = rw sub-zero
take-drop l (suc p) zero = rw zero-sub
take-drop [] (suc p) (suc n) = take-nil (suc n - suc p)
take-drop (x ∷ l) (suc p) (suc n) = rw suc-sub-suc (take-drop l p n)

module _ (row : Row) (len : length row.flows ≡ most_flows) (n : ℕ) (e : n ≡ length (held row)) where
  part : (at : ℕ) → take (n - at) (drop at row.flows) ≡ drop at (held row)
  part at = rw (take-drop row.flows at n) (ap (drop at) (held_all row n e))

  front : (at : ℕ) → at ≤ length (held row) → take (at - 0) (drop 0 row.flows) ≡ take at (held row)
  unfolding held
  front at h = rw (sub-zero, take-take at row.count row.flows (omega (arith, length-take row.count row.flows)))

  -- none, the part before, the flow, the part after: each row as a call gave it
  module _ (at : ℕ) (h : at ≤ length (held row)) (none before : Row) (e₀ : none ≡ row_of [])
      (e₁ : (fs : List Flow) → none ≡ row_of fs → before ≡ row_of (fs ++ take (at - 0) (drop 0 row.flows))) where
    pub insert_made : (f : Flow) (with r : Row) → n < most_flows → at ≡ rank_of f.number (held row) → before.count < most_flows →
        with ≡ appended before f →
        ((fs : List Flow) → with ≡ row_of fs → r ≡ row_of (fs ++ take (n - at) (drop at row.flows))) → r ≡ inserted row f
    unfolding inserted
    insert_made f with r room p m e₂ e₃ =
        let b = e₁ [] e₀ in
        let l : length (take (at - 0) (drop 0 row.flows)) < most_flows = room_in before _ b m in
        let w : with ≡ row_of (([] ++ take (at - 0) (drop 0 row.flows)) ++ (f ∷ [])) =
        e₂ ∙ ap (λ (s : Row). appended s f) b ∙ append_list _ f l in
        let i : leb most_flows (length (held row)) ≡ false = rw (← e) (lt-leb _ _ room) in
        let q : (([] ++ take (at - 0) (drop 0 row.flows)) ++ (f ∷ [])) ++ take (n - at) (drop at row.flows) ≡ insert_sorted f (held row) =
        rw (front at h, part at, append_snoc) (sym (rw (← p) at (insert_rank f (held row)))) in
        e₃ _ w ∙ ap row_of q ∙ rw i

    pub remove_made : (number : ℕ) (r : Row) → at ≡ place_of number (held row) →
        ((fs : List Flow) → before ≡ row_of fs → r ≡ row_of (fs ++ take (n - (at + 1)) (drop (at + 1) row.flows))) → r ≡ row_of (without number (held row))
    remove_made number r p e₂ =
        let q : ([] ++ take (at - 0) (drop 0 row.flows)) ++ take (n - (at + 1)) (drop (at + 1) row.flows) ≡ without number (held row) =
        rw (front at h, part (at + 1), add-one) (sym (rw (← p) at (without_place number (held row)))) in
        e₂ _ (e₁ [] e₀) ∙ ap row_of q

pub insert_full : (row : Row) (f : Flow) (n : ℕ) → n ≡ length (held row) → most_flows ≤ n → row ≡ inserted row f
unfolding inserted
insert_full row f n e h = let i : leb most_flows (length (held row)) ≡ true = rw (← e) (le-leb _ _ h) in rw i
