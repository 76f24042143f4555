-- What reading and writing a set promise, from the equations.
use Prim.Native.Nat.{ℕ, ◌≤◌, ◌<◌}
use mathlib.Core.Path.{◌≡◌, refl, sym, ap, ◌∙◌, subst}
use mathlib.Core.List.{List, ◌++◌}
use native.Mathlib.Omega.{arith}
use lib.ListN.{length, get_or, take, drop, length-append, length-drop}
use lib.Seq.{take_at, drop_at}
use mir.Val.{Fits}
use mir.Syntax.{w8}
use Rattle.flows.specs.declared.Cause.TheVariants.{ShortBuffer}
use Rattle.flows.specs.declared.Refusal.{Refusal}
use Rattle.std.specs.Prelude.{Result, Ok, Err}
use Rattle.flows.specs.Lists.{held}
use Rattle.records.specs.Bodies.{Bytes}
use Rattle.records.proofs.RoundTrip.{bytes_fit}
use Rattle.records.proofs.Rows.{wrote_short, wrote_all, buffer_kept, buffer_filled}
use Rattle.plan.specs.declared.FlowSet.{FlowSet}
use Rattle.plan.specs.declared.Reading.{Reading}
use Rattle.plan.specs.Reading.{read_plan}
use Rattle.plan.specs.Writing.{set_bytes, plan_length, written_into, buffer_after}
use Rattle.plan.specs.Demands.{size, WasRead, WritesBack, SetRead, SetWritten}
use Rattle.plan.proofs.Trips.{form_read, plan_long, plan-length}
use Rattle.plan.proofs.Unread.{place_inside, plan_form, unread_exact}
use Rattle.plan.proofs.Sets.{Proper, read_proper, read_write, write_read-set}

-- ---- writing: what the buffer then holds
module _ (s : FlowSet) (old : List ℕ) where
  abbrev n : ℕ
  n = length (held s.row)

  abbrev after : List ℕ
  after = buffer_after s.lmin s.lmax (held s.row) old

  abbrev answer : Result ℕ Refusal
  answer = written_into (length old) n

  module _ (h : length old < size s) where
    short-answer : answer ≡ Err (record { cause = ShortBuffer; place = 0 })
    short-answer = sym (wrote_short (length old) (plan_length n) _ (omega arith) refl)

    short-after : after ≡ old
    short-after = sym (buffer_kept (set_bytes s) (plan_length n) old (omega arith))

  module _ (h : size s ≤ length old) where
    long-answer : answer ≡ Ok (size s)
    long-answer = sym (wrote_all (length old) (plan_length n) (omega arith)) ∙ ap Ok (plan-length n)

    long_after : after ≡ set_bytes s ++ drop (size s) old
    long_after = sym (buffer_filled (set_bytes s) (plan_length n) old (omega arith)) ∙ ap (λ (k : ℕ). set_bytes s ++ drop k old) (plan-length n)

module _ (s : FlowSet) (p : Proper s) where
  long : length (set_bytes s) ≡ size s
  long = plan_long s.lmin s.lmax (held s.row) p.readable.typed

  module _ (old : List ℕ) where
    pub begins : size s ≤ length old → take (size s) (after s old) ≡ set_bytes s
    begins h = ap (take (size s)) (long_after s old h) ∙ take_at (set_bytes s) (drop (size s) old) (size s) long

    rest : size s ≤ length old → drop (size s) (after s old) ≡ drop (size s) old
    rest h = ap (drop (size s)) (long_after s old h) ∙ drop_at (set_bytes s) (drop (size s) old) (size s) long

    same_length : size s ≤ length old → length (after s old) ≡ length old
    same_length h =
        ap length (long_after s old h) ∙ omega (arith, length-append (set_bytes s) (drop (size s) old), length-drop (size s) old, long)

    pub written : SetWritten s old (answer s old) (after s old)
    written = record {
      short = λ h. (short-answer s old h, short-after s old h);
      short_is_13 = (refl, refl);
      long = λ h. (long-answer s old h, same_length h, rest h);
      read = λ h. ap read_plan (begins h) ∙ write_read-set s p;
      plan = λ h b u e. begins h ∙ read_write b u s e;
    }

    -- ---- reading: what is then written
    pub writes_back : (b : List ℕ) → set_bytes s ≡ b → length b ≤ length old → WritesBack b s old
    writes_back b e h =
        let m : size s ≡ length b = sym long ∙ ap length e in
        let k : size s ≤ length old = omega arith in
        record {
          answer = long-answer s old k ∙ ap Ok m;
          buffer = long_after s old k ∙ ap (λ (l : List ℕ). l ++ drop (size s) old) e ∙ ap (λ (j : ℕ). b ++ drop j old) m;
        }

pub write_promise : (s : FlowSet) (old : List ℕ) (r : Result ℕ Refusal) (new : List ℕ) → r ≡ written_into (length old) (length (held s.row)) →
    new ≡ buffer_after s.lmin s.lmax (held s.row) old → WasRead s → SetWritten s old r new
write_promise s old r new e g w =
    subst (λ (l : List ℕ). SetWritten s old r l) (sym g) (subst (λ (q : Result ℕ Refusal). SetWritten s old q (after s old)) (sym e) (written s (read_proper s w) old))

module _ (b : List ℕ) (u : Bytes b) where
  was_read : WasRead (read_plan b).set
  was_read = record { bytes = b; fit = u; given = refl }

  reads : SetRead b (read_plan b)
  reads = record {
    exactly = (plan_form b u, λ i. ap (λ (r : Reading). r.outcome) (form_read b i));
    lists = λ i. ap (λ (r : Reading). r.set) (form_read b i);
    back =
        λ h old. writes_back (read_plan b).set (read_proper (read_plan b).set was_read) old b
        (read_write b u (read_plan b).set (ap (λ (o : Result (Unit {0}) Refusal). record { outcome = o; set = (read_plan b).set }) h));
    refused = unread_exact b u;
    empty = (place_inside b u).empty;
  }

pub read_promise : (b : List ℕ) → ((k : ℕ) → Fits w8 (get_or b k 0)) → (r : Reading) → r ≡ read_plan b → SetRead b r
read_promise b f r e = subst (SetRead b) (sym e) (reads b (bytes_fit b f))
