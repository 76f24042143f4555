-- A body that is written says what was written, and what a body says is written as that body.
use Prim.Native.Nat.{ℕ, zero, suc, ◌+◌, ◌*◌, ◌/◌, ◌%◌, ◌≤◌, ◌<◌}
use mathlib.Core.Path.{◌≡◌, refl, ap, ◌∙◌}
use mathlib.Core.List.{List, ◌∷◌}
use native.Mathlib.Omega.{arith}
use lib.ListN.{length, get_or, take, drop}
use lib.Seq.{take_all, drop-cons}
use mir.Val.{Fits}
use mir.Syntax.{w8}
use Rattle.flows.specs.declared.Flow.{Flow}
use Rattle.flows.specs.WellFormed.{Typed}
use Rattle.records.specs.declared.Line.{Line}
use Rattle.records.specs.Kinds.{links_body, flow_body, flow_nodes, line_body}
use Rattle.records.specs.Bodies.{Bytes, bytes_from, words_from, links_read, flow_read, words_written, links_written, flow_written, line_read, line_written, TypedLine}

-- what a slice of bytes holds
pub bytes_fit : (b : List ℕ) → ((k : ℕ) → Fits w8 (get_or b k 0)) → Bytes b
bytes_fit b f k = (f k).fits

high_low : (x : ℕ) → x < 65536 → x / 256 % 256 * 256 + x % 256 ≡ x
high_low x h = omega arith

high_of : (x y : ℕ) → x < 256 → y < 256 → (x * 256 + y) / 256 % 256 ≡ x
high_of x y h g = omega arith

low_of : (x y : ℕ) → y < 256 → (x * 256 + y) % 256 ≡ y
low_of x y g = omega arith

-- a list read one by one
bytes_from_lem : (at n : ℕ) (l : List ℕ) → at + n ≤ length l → bytes_from at n l ≡ take n (drop at l)
bytes_from_lem at zero l h = refl
bytes_from_lem at (suc n) l h =
    let g : at < length l = omega arith in
    rw (drop-cons l at 0 g) (ap (λ (r : List ℕ). get_or l at 0 ∷ r) (bytes_from_lem (suc at) n l (omega arith)))

pub all_bytes : (n : ℕ) (l : List ℕ) → length l ≡ n → bytes_from 0 n l ≡ l
all_bytes n l h = bytes_from_lem 0 n l (omega arith) ∙ take_all n l (omega arith)

pub links_back : (b : List ℕ) → length b ≡ links_body → Bytes b → links_written (links_read b).lmin (links_read b).lmax ≡ b
links_back b h u = simp (high_of, low_of, u) (all_bytes links_body b h)

pub flow_back : (b : List ℕ) → length b ≡ flow_body → Bytes b → flow_written (flow_read b) ≡ b
unfolding flow_written words_written
flow_back b h u = simp (high_of, low_of, u) (all_bytes flow_body b h)

-- the flow with its arrays written out
spelt : Flow → Flow
spelt f = record {
  number = f.number;
  priority = f.priority;
  period = f.period;
  jitter = f.jitter;
  deadline = f.deadline;
  length = f.length;
  nodes = bytes_from 0 flow_nodes f.nodes;
  costs = bytes_from 0 flow_nodes f.costs;
}

spelt_is : (f : Flow) → Typed f → spelt f ≡ f
unfolding spelt
spelt_is f t = rw (all_bytes flow_nodes f.nodes t.nodes, all_bytes flow_nodes f.costs t.costs)

read-spelt : (f : Flow) → Typed f → flow_read (flow_written (spelt f)) ≡ spelt f
unfolding flow_written words_written spelt
read-spelt f t = simp (high_low, t.period, t.jitter, t.deadline, t.cost)

pub flow_again : (f : Flow) → Typed f → flow_read (flow_written f) ≡ f
flow_again f t = rw (spelt_is f t) at (read-spelt f t)

pub links_again : (lmin lmax : ℕ) → lmin < 65536 → lmax < 65536 → links_read (links_written lmin lmax) ≡ record { lmin = lmin; lmax = lmax }
links_again lmin lmax h g = rw (high_low lmin h, high_low lmax g)

pub line_back : (b : List ℕ) → length b ≡ line_body → Bytes b → line_written (line_read b) ≡ b
unfolding line_written words_written
line_back b h u = simp (high_of, low_of, u) (all_bytes line_body b h)

pub line_again : (l : Line) → TypedLine l → line_read (line_written l) ≡ l
unfolding line_written words_written
line_again l t = rw (high_low l.figures.bound t.bound, high_low l.figures.jitter t.jitter, high_low l.figures.busy t.busy)

-- what a body of bytes says is within the types
word_below : {x y : ℕ} → x < 256 → y < 256 → x * 256 + y < 65536
word_below h g = omega arith

pub read-typed : (b : List ℕ) → Bytes b → Typed (flow_read b)
read-typed b u = record {
  number = u 0;
  priority = u 1;
  period = word_below (u 2) (u 3);
  jitter = word_below (u 4) (u 5);
  deadline = word_below (u 6) (u 7);
  path = u 8;
  nodes = refl;
  costs = refl;
  node = bytes_below 9 flow_nodes;
  cost = words-below 17 flow_nodes;
}
  where
    bytes_below : (at n k : ℕ) → get_or (bytes_from at n b) k 0 < 256
    bytes_below at zero k = omega arith
    bytes_below at (suc n) zero = u at
    bytes_below at (suc n) (suc k) = bytes_below (suc at) n k

    words-below : (at n k : ℕ) → get_or (words_from at n b) k 0 < 65536
    words-below at zero k = omega arith
    words-below at (suc n) zero = word_below (u at) (u (at + 1))
    words-below at (suc n) (suc k) = words-below (suc (suc at)) n k

pub line-typed : (b : List ℕ) → Bytes b → TypedLine (line_read b)
line-typed b u = record {
  number = u 0;
  bound = word_below (u 1) (u 2);
  jitter = word_below (u 3) (u 4);
  busy = word_below (u 5) (u 6);
}
