-- What the bodies' writers leave: stores over a whole part, a loop, three parts of a body.
use Prim.Native.Nat.{ℕ, ◌+◌, ◌-◌, ◌*◌, ◌/◌, ◌%◌, ◌<◌}
use mathlib.Core.Path.{◌≡◌, refl, sym}
use mathlib.Core.List.{List, [], ◌∷◌, ◌++◌, append-nil, append_assoc}
use native.Mathlib.Numerals.{add-one}
use native.Mathlib.Omega.{arith}
use borrow.Rule.Slice.PartMut.{put_mid}
use Rattle.std.proofs.lemmas.Slice.{take-put_mid}
use lib.ListN.{length, get_or, take, drop, set, drop_of_length-le, length-append, length-drop}
use lib.Seq.{take-suc, take_at, drop_at}
use Rattle.flows.specs.declared.Flow.{Flow}
use Rattle.records.specs.declared.Line.{Line}
use Rattle.records.specs.Kinds.{flow_body, flow_nodes, line_body}
use Rattle.records.proofs.RoundTrip.{all_bytes}
use Rattle.records.specs.Bodies.{words_written, head_written, flow_written, line_written}

-- the bytes of a two-byte number
abbrev pub bytes : ℕ → List ℕ
bytes x = x / 256 % 256 ∷ x % 256 ∷ []

-- ---- over a whole part whose places are written out
pub head_stored : (old p j d : List ℕ) (f : Flow) → length old ≡ 9 → p ≡ bytes f.period → j ≡ bytes f.jitter → d ≡ bytes f.deadline →
    set (put_mid 6 2 (put_mid 4 2 (put_mid 2 2 (set (set old 0 f.number) 1 f.priority) p) j) d) 8 f.length ≡ head_written f
head_stored old p j d f h e₀ e₁ e₂ = rw (e₀, e₁, e₂, ← all_bytes 9 old h)

pub line_stored : (old b j y : List ℕ) (l : Line) → length old ≡ line_body → b ≡ bytes l.figures.bound → j ≡ bytes l.figures.jitter → y ≡ bytes l.figures.busy →
    put_mid 5 2 (put_mid 3 2 (put_mid 1 2 (set old 0 l.number) b) j) y ≡ line_written l
unfolding line_written words_written
line_stored old b j y l h e₀ e₁ e₂ = rw (e₀, e₁, e₂, ← all_bytes line_body old h)

-- ---- the costs, two bytes each
length_words : (l : List ℕ) → length (words_written l) ≡ 2 * length l
unfolding words_written
length_words [] = refl
length_words (x ∷ l) = let h = length_words l in omega arith

words_snoc : (l : List ℕ) (x : ℕ) → words_written (l ++ (x ∷ [])) ≡ words_written l ++ bytes x
unfolding words_written
words_snoc [] x = refl
words_snoc (y ∷ l) x = rw (words_snoc l x)

pub costs_more : (costs out two : List ℕ) (k : ℕ) → length costs ≡ flow_nodes → length out ≡ 2 * flow_nodes → k < flow_nodes → two ≡ bytes (get_or costs k 0) →
    take (2 * k) out ≡ words_written (take k costs) → take (2 * (k + 1)) (put_mid (2 * k) (2 * k + 2 - 2 * k) out two) ≡ words_written (take (k + 1) costs)
costs_more costs out two k lc lo h e inv =
    let l : length two ≡ 2 = rw e in
    rw (take-put_mid (2 * k) (2 * k + 2 - 2 * k) out two (2 * (k + 1)) (omega arith) (omega arith), inv, e, add-one, take-suc costs k 0 (omega arith)) (sym (words_snoc (take k costs) (get_or costs k 0)))

-- ---- a body of three parts
pub length-flow : (f : Flow) → length f.nodes ≡ flow_nodes → length f.costs ≡ flow_nodes → length (flow_written f) ≡ flow_body
unfolding flow_written
length-flow f h g = simp (length-append, length_words) (omega arith)

-- a part that was lent comes back to its place
put_after : (p q ys : List ℕ) (a k : ℕ) → length p ≡ a → take a (p ++ q) ++ (ys ++ drop k (drop a (p ++ q))) ≡ p ++ (ys ++ drop k q)
put_after p q ys a k e = rw (take_at p q a e, drop_at p q a e)

pub flow-stored : (o h n c : List ℕ) (f : Flow) → length o ≡ flow_body → length f.nodes ≡ flow_nodes → length f.costs ≡ flow_nodes →
    h ≡ head_written f → n ≡ f.nodes → c ≡ words_written f.costs →
    put_mid 17 16 (put_mid 9 8 (h ++ drop 9 o) n) c ≡ flow_written f
unfolding flow_written
flow-stored o h n c f lo ln lc eh en ec =
    let lh : length h ≡ 9 = rw eh in
    let k : length n ≡ 8 = rw en ln in
    let hn : length (h ++ n) ≡ 17 = omega (arith, length-append h n) in
    let z : drop 16 (drop 8 (drop 9 o)) ≡ [] =
    drop_of_length-le (drop 8 (drop 9 o)) {i = 16} (omega (arith, length-drop 8 (drop 9 o), length-drop 9 o)) in
    rw (put_after h (drop 9 o) n 9 8 lh, ← append_assoc h n (drop 8 (drop 9 o)), put_after (h ++ n) (drop 8 (drop 9 o)) c 17 16 hn, z, append-nil, eh, en, ec)
