-- Writing: records in a row, and the whole with its answer.
use Prim.Native.Nat.{ℕ, ◌+◌, ◌*◌, ◌≤◌, ◌<◌}
use mathlib.Core.Path.{◌≡◌, sym, ap, ◌∙◌}
use mathlib.Core.List.{List, [], ◌∷◌, ◌++◌, append-nil, append_assoc}
use native.Mathlib.Numerals.{add-one}
use native.Mathlib.Omega.{arith}
use lib.ListN.{length, get_or, take, drop, set, length-append, length-take, length-drop, take-append-drop}
use lib.Seq.{take_at, drop_at, take-suc, drop-drop, drop-cons, set_at, length-take-le}
use borrow.Author.Tests.{lt-ltb, le-ltb}
use Rattle.flows.specs.declared.Refusal.{Refusal}
use Rattle.flows.specs.declared.Cause.TheVariants.{ShortBuffer}
use Rattle.std.specs.Prelude.{Ok, Err}
use Rattle.flows.specs.WellFormed.{Each, each_more}
use Rattle.records.specs.Rows.{row_bytes, size_written, buffer_with}

-- ---- records in a row, each of size bytes, after the first head bytes of the buffer
module _ {A : Type 0} (bytes : A → List ℕ) where
  pub row_snoc : (xs : List A) (x : A) → row_bytes bytes (xs ++ (x ∷ [])) ≡ row_bytes bytes xs ++ bytes x
  unfolding row_bytes
  row_snoc [] x = append-nil (bytes x)
  row_snoc (y ∷ xs) x = rw (row_snoc xs x, append_assoc)

  module _ (head size : ℕ) where
    pub row_long : (xs : List A) → Each (λ x. length (bytes x) ≡ size) xs → length (row_bytes bytes xs) ≡ size * length xs
    unfolding row_bytes
    row_long [] e = omega arith
    row_long (x ∷ xs) (each_more l e) = let n = row_long xs e in omega (arith, length-append (bytes x) (row_bytes bytes xs))

    -- what the buffer holds once xs are written
    abbrev pub Holds : List ℕ → List A → List ℕ → Type 0
    Holds old xs buf = (length (row_bytes bytes xs) ≡ size * length xs) × (buf ≡ (take head old ++ row_bytes bytes xs) ++ drop (head + size * length xs) old)

    pub holds_none : (old : List ℕ) → Holds old [] old
    unfolding row_bytes
    holds_none old =
        let z : head + size * 0 ≡ head = omega arith in
        (omega arith, rw (append-nil (take head old), z) (sym (take-append-drop head old)))

    holds_more : (old buf new : List ℕ) (xs : List A) (x : A) → head ≤ length old → Holds old xs buf → length (bytes x) ≡ size →
        new ≡ take (head + size * length xs) buf ++ (bytes x ++ drop (head + size * length xs + size) buf) → Holds old (xs ++ (x ∷ [])) new
    holds_more old buf new xs x g (len, eb) long en =
        let at : ℕ = head + size * length xs in
        let p = take head old ++ row_bytes bytes xs in
        let lp : length p ≡ at = omega (arith, length-append (take head old) (row_bytes bytes xs), length-take head old) in
        let ls = length-append xs (x ∷ []) in
        let z : head + size * length (xs ++ (x ∷ [])) ≡ at + size = rw ls (omega arith) in
        let t : take at buf ≡ p = rw eb (take_at p _ _ lp) in
        let v : drop at buf ≡ drop at old = rw eb (drop_at p (drop at old) _ lp) in
        let u : drop (at + size) buf ≡ drop (at + size) old =
        sym (drop-drop size at buf) ∙ ap (λ (l : List ℕ). drop size l) v ∙ drop-drop size at old in
        let r = drop (at + size) old in (
          rw (row_snoc xs x, ls) (omega (arith, length-append (row_bytes bytes xs) (bytes x))),
          en ∙ rw (t, u, z, row_snoc xs x) (sym (append_assoc p (bytes x) r) ∙ ap (λ (l : List ℕ). l ++ r) (append_assoc (take head old) (row_bytes bytes xs) (bytes x))),
        )

    -- one record of an array more
    pub holds_next : (old buf new : List ℕ) (all : List A) (k : ℕ) (d : A) → k < length all → head ≤ length old → Holds old (take k all) buf →
        length (bytes (get_or all k d)) ≡ size → new ≡ take (head + size * k) buf ++ (bytes (get_or all k d) ++ drop (head + size * k + size) buf) →
        Holds old (take (k + 1) all) new
    holds_next old buf new all k d h g held long en =
        let n : length (take k all) ≡ k = length-take-le k all (omega arith) in
        rw (add-one, take-suc all k d h) (holds_more old buf new (take k all) (get_or all k d) g held long (rw n en))

    -- a head, the row, and the kind that ends it
    pub filled : (old first one two : List ℕ) (xs : List A) (kind : ℕ) → length first ≡ head → head + size * length xs + 1 ≤ length old →
        one ≡ first ++ drop head old → Holds one xs two →
        set two (head + size * length xs) kind ≡ (first ++ row_bytes bytes xs ++ (kind ∷ [])) ++ drop (head + size * length xs + 1) old
    filled old first one two xs kind lf h e₁ (len, e₂) =
        let at : ℕ = head + size * length xs in
        let p = first ++ row_bytes bytes xs in
        let lp : length p ≡ at = omega (arith, length-append first (row_bytes bytes xs)) in
        let t : take head one ≡ first = rw e₁ (take_at first (drop head old) head lf) in
        let f : drop head one ≡ drop head old = rw e₁ (drop_at first (drop head old) head lf) in
        let d : drop at one ≡ drop at old =
        sym (drop-drop (size * length xs) head one) ∙ ap (λ (r : List ℕ). drop (size * length xs) r) f ∙ drop-drop (size * length xs) head old in
        let q : at < length old = omega arith in
        let g : drop at old ≡ get_or old at 0 ∷ drop (at + 1) old = rw add-one (drop-cons old at 0 q) in
        let w : two ≡ p ++ (get_or old at 0 ∷ drop (at + 1) old) = e₂ ∙ rw (t, d, g) in
        ap (λ (l : List ℕ). set l at kind) w ∙ set_at p (get_or old at 0) (drop (at + 1) old) kind at lp ∙
        sym (append_assoc p (kind ∷ []) (drop (at + 1) old))

-- ---- the answer, and the buffer
module _ (space size : ℕ) where
  pub wrote_short : (r : Refusal) → space < size → r ≡ record { cause = ShortBuffer; place = 0 } → Err r ≡ size_written space size
  unfolding size_written
  wrote_short r h g = rw (lt-ltb _ _ h, g)

  pub wrote_all : size ≤ space → Ok size ≡ size_written space size
  unfolding size_written
  wrote_all h = rw (le-ltb _ _ h)

module _ (bytes : List ℕ) (size : ℕ) (old : List ℕ) where
  pub buffer_kept : length old < size → old ≡ buffer_with bytes size old
  unfolding buffer_with
  buffer_kept h = rw (lt-ltb _ _ h)

  pub buffer_filled : size ≤ length old → bytes ++ drop size old ≡ buffer_with bytes size old
  unfolding buffer_with
  buffer_filled h = rw (le-ltb _ _ h)

  module _ (long : length bytes ≡ size) (h : size ≤ length old) where
    pub buffer_begins : take size (buffer_with bytes size old) ≡ bytes
    buffer_begins = ap (take size) (sym (buffer_filled h)) ∙ take_at bytes (drop size old) size long

    pub buffer_rest : drop size (buffer_with bytes size old) ≡ drop size old
    buffer_rest = ap (drop size) (sym (buffer_filled h)) ∙ drop_at bytes (drop size old) size long

    pub buffer_long : length (buffer_with bytes size old) ≡ length old
    buffer_long = ap length (sym (buffer_filled h)) ∙ omega (arith, length-append bytes (drop size old), length-drop size old, long)
