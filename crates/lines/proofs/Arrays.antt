-- What the list of a report says of its array: its size, a line put at its end, asking.
use Prim.Native.Nat.{ℕ, ◌+◌, ◌-◌, ◌≤◌, ◌<◌, min}
use mathlib.Core.Path.{◌≡◌, ◌∙◌}
use mathlib.Core.List.{List, [], ◌∷◌, ◌++◌}
use native.Mathlib.Numerals.{add-one}
use native.Mathlib.Omega.{arith}
use lib.ListN.{length, length-take, get_or, take, drop, replicate, drop_of_length-le}
use lib.Seq.{take-append_seam, drop-cons}
use borrow.Author.Tests.{eq-eqb, ne_eqb, lt-leb}
use Rattle.std.specs.Prelude.{Ok, Err}
use Rattle.flows.specs.declared.Refusal.{Refusal}
use Rattle.flows.specs.declared.Cause.TheVariants.{Absent}
use Rattle.flows.specs.Lists.{most_flows}
use Rattle.records.specs.declared.Line.{Line}
use Rattle.lines.specs.declared.Report.{Report}
use Rattle.lines.specs.Reports.{no_line, lines_in, report_of, with_line, asked_in}
use Rattle.row.proofs.Arrays.{take_counted, stored, length_snoc}

pub lines_of : (ls : List Line) → lines_in (report_of ls) ≡ ls
unfolding lines_in report_of
lines_of ls = take-append_seam ls (replicate (most_flows - length ls) no_line)

module _ (r : Report) (len : length r.lines ≡ most_flows) where
  pub size_capped : (n : ℕ) → n ≡ min r.count most_flows → n ≡ length (lines_in r)
  unfolding lines_in
  size_capped n e = omega (arith, length-take r.count r.lines)

pub lines-all : (r : Report) (n : ℕ) → n ≡ length (lines_in r) → take n r.lines ≡ lines_in r
unfolding lines_in
lines-all r n e = take_counted r.lines r.count n e

-- ---- a line put at the end
pub append_list : (ls : List Line) (l : Line) → length ls < most_flows → with_line (report_of ls) l ≡ report_of (ls ++ (l ∷ []))
unfolding with_line report_of
append_list ls l h = rw (lt-leb _ _ h, stored most_flows no_line ls l h, length_snoc)

-- ---- asking: what is left from place k decides
module _ (r : Report) (n number k : ℕ) (e : n ≡ length (lines_in r)) (inv : asked_in (take n r.lines) number ≡ asked_in (drop k (take n r.lines)) number) where
  abbrev ls : List Line
  ls = take n r.lines

  pub ask_here : k < length ls → (get_or ls k no_line).number ≡ number → Ok (get_or ls k no_line).figures ≡ asked_in (lines_in r) number
  unfolding asked_in
  ask_here h g = rw (← lines-all r n e, inv, drop-cons ls k no_line h, eq-eqb _ _ g)

  pub ask_more : k < length ls → ((get_or ls k no_line).number ≡ number → ⊥) → asked_in ls number ≡ asked_in (drop (k + 1) ls) number
  unfolding asked_in
  ask_more h g = inv ∙ rw (add-one, drop-cons ls k no_line h, ne_eqb _ _ g)

  pub ask_end : length ls ≤ k → (x : Refusal) → x ≡ record { cause = Absent; place = 0 } → Err x ≡ asked_in (lines_in r) number
  unfolding asked_in
  ask_end h x g = rw (← lines-all r n e, inv, drop_of_length-le ls {i = k} h, g)
