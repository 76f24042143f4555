-- A record by its bytes, kind byte and body, and as what is seen at its place.
use Prim.Native.Nat.{ℕ, zero, suc, ◌+◌, ◌<◌}
use mathlib.Core.Path.{◌≡◌, sym, ap, ◌∙◌}
use mathlib.Core.List.{List, [], ◌∷◌, ◌++◌}
use native.Mathlib.Numerals.{add-one}
use native.Mathlib.Nat.{add-zero}
use native.Mathlib.Omega.{arith}
use Rattle.std.specs.Prelude.{Some}
use lib.ListN.{length, get_or, take, drop, length-append, length-drop, take-append-drop}
use lib.Seq.{take_at, drop_at, drop-cons, drop-drop, get_or-drop, length-take-le}
use Rattle.records.specs.Bodies.{Bytes}
use Rattle.reader.specs.declared.Kind.{Kind}
use Rattle.reader.specs.Places.{byte_of, body_of, kind_at, body_at}
use Rattle.reader.proofs.Places.{Whole, found}

bytes_take : (n : ℕ) (b : List ℕ) → Bytes b → Bytes (take n b)
bytes_take zero b u k = omega arith
bytes_take (suc n) [] u k = omega arith
bytes_take (suc n) (x ∷ b) u zero = u 0
bytes_take (suc n) (x ∷ b) u (suc k) = bytes_take n b (λ j. u (suc j)) k

bytes_drop : (n : ℕ) (b : List ℕ) → Bytes b → Bytes (drop n b)
bytes_drop n b u k = rw (get_or-drop n b k 0) (u (n + k))

-- ---- a whole record: its bytes, and what is after them
module _ (b : List ℕ) (at : ℕ) (k : Kind) (w : Whole b at k) where
  pub body_long : length (body_at b at (body_of k)) ≡ body_of k
  body_long = length-take-le (body_of k) (drop (at + 1) b) (omega (arith, w.room, length-drop (at + 1) b))

  pub body_bytes : Bytes b → Bytes (body_at b at (body_of k))
  body_bytes u = bytes_take (body_of k) (drop (at + 1) b) (bytes_drop (at + 1) b u)

  pub record_split : drop at b ≡ (byte_of k ∷ body_at b at (body_of k)) ++ drop (at + (1 + body_of k)) b
  record_split =
      let n : ℕ = body_of k in
      let h : at < length b = omega (arith, w.room) in
      let z : at + 1 + n ≡ at + (1 + n) = omega arith in
      let d : drop n (drop (at + 1) b) ≡ drop (at + (1 + n)) b = drop-drop n (at + 1) b ∙ ap (λ (j : ℕ). drop j b) z in
      let t : drop (at + 1) b ≡ body_at b at n ++ drop (at + (1 + n)) b =
      sym (take-append-drop n (drop (at + 1) b)) ∙ ap (λ (l : List ℕ). body_at b at n ++ l) d in
      drop-cons b at 0 h ∙ ap (λ (j : ℕ). get_or b at 0 ∷ drop j b) (sym (add-one at)) ∙ ap (λ (j : ℕ). j ∷ drop (at + 1) b) w.byte ∙
      ap (λ (l : List ℕ). byte_of k ∷ l) t

-- ---- what the bytes from a place on begin with
module _ (b : List ℕ) (at : ℕ) {rest : List ℕ} (e : drop at b ≡ rest) where
  pub first_byte : (x : ℕ) (y : List ℕ) → rest ≡ x ∷ y → (get_or b at 0 ≡ x) × (length b ≡ at + 1 + length y)
  first_byte x y h =
      let g : drop at b ≡ x ∷ y = e ∙ h in
      (sym (rw (add-zero at) at (get_or-drop at b 0 0)) ∙ ap (λ (l : List ℕ). get_or l 0 0) g, omega (arith, length-drop at b, ap length g))

  module _ (k : Kind) (body post : List ℕ) (long : length body ≡ body_of k) (s : rest ≡ (byte_of k ∷ body) ++ post) where
    behind : (n : ℕ) → drop (at + n) b ≡ drop n ((byte_of k ∷ body) ++ post)
    behind n = sym (drop-drop n at b) ∙ ap (drop n) (e ∙ s)

    pub record_here : kind_at b at ≡ Some k
    record_here =
        let f = first_byte (byte_of k) (body ++ post) s in
        found b at k (record { byte = f.0; room = omega (arith, f.1, length-append body post, long) })

    pub record_body : body_at b at (body_of k) ≡ body
    record_body = ap (take (body_of k)) (behind 1) ∙ take_at body post (body_of k) long

    pub record_next : drop (at + (1 + body_of k)) b ≡ post
    record_next = behind (1 + body_of k) ∙ drop_at (byte_of k ∷ body) post (1 + body_of k) (omega (arith, long))
