-- Reading: a law for each way out.
use Prim.Native.Nat.{ℕ, suc, ◌+◌, ◌-◌, ◌≤◌, ◌<◌}
use mathlib.Core.Path.{◌≡◌, refl, sym, ap, ◌∙◌}
use mathlib.Core.Bool.{cond}
use mathlib.Core.List.{List, [], ◌∷◌, ◌++◌}
use native.Mathlib.Omega.{arith}
use lib.ListN.{length, take, drop}
use lib.Dec.{ltb}
use borrow.Author.Tests.{lt-ltb, le-ltb}
use Rattle.std.specs.Prelude.{Ok, Err, Option, Some}
use Rattle.flows.specs.declared.Cause.{Cause}
use Rattle.flows.specs.declared.Cause.TheVariants.{Malformed}
use Rattle.flows.specs.Refusals.{Ruling, accepted}
use Rattle.flows.specs.Lists.{most_flows}
use Rattle.records.specs.declared.Line.{Line}
use Rattle.records.specs.Kinds.{count_record, line_body, line_record}
use Rattle.records.specs.Bodies.{line_read}
use Rattle.reader.specs.declared.Kind.{Kind}
use Rattle.reader.specs.declared.Kind.TheVariants as kind
use Rattle.reader.specs.Places.{kind_at}
use Rattle.reader.proofs.Places.{if_here, if_other, seen_here, seen_other}
use Rattle.lines.specs.declared.Report.{Report}
use Rattle.flows.specs.declared.Refusal.{Refusal}
use Rattle.lines.specs.Reports.{no_line, lines_in, report_of, with_line}
use Rattle.lines.specs.Reading.{Listing, count_in, line_at, refused, unless, last_number, line_cause, read_close, read_lines, read_records, reading_of, read_report}
use Rattle.row.proofs.Arrays.{length_snoc}
use Rattle.row.proofs.Longer.{last_snoc}
use Rattle.lines.proofs.Arrays.{lines_of, append_list}

-- a line's body, as the part from the byte after the kind to the record's end
pub line_part : (b : List ℕ) (at : ℕ) (l : Line) → l ≡ line_read (take (at + line_record - (at + 1)) (drop (at + 1) b)) → l ≡ line_at b at
line_part b at l e = let z : at + line_record - (at + 1) ≡ line_body = omega arith in rw z at e

-- ---- the end
module _ (report : Report) (b : List ℕ) (at : ℕ) (k : Option Kind) (e : k ≡ kind_at b at) where
  pub close_other : (r : Refusal) → (k ≡ Some kind.Close → ⊥) → r ≡ record { cause = Malformed; place = at } → Err r ≡ read_close report b at
  unfolding read_close
  close_other r o g = ap Err g ∙ sym (seen_other b at kind.Close _ _ k e o)

  pub close_more : (r : Refusal) → k ≡ Some kind.Close → at + 1 < length b → r ≡ record { cause = Malformed; place = at + 1 } → Err r ≡ read_close report b at
  unfolding read_close
  close_more r h l g = rw (lt-ltb _ _ l) (ap Err g ∙ sym (seen_here b at kind.Close _ _ k e h))

  pub close_last : k ≡ Some kind.Close → length b ≤ at + 1 → Ok report ≡ read_close report b at
  unfolding read_close
  close_last h l = rw (le-ltb _ _ l) (sym (seen_here b at kind.Close _ _ k e h))

pub close_at_other : (report : Report) (b : List ℕ) (at : ℕ) → (kind_at b at ≡ Some kind.Close → ⊥) → read_close report b at ≡ refused Malformed at
unfolding read_close
close_at_other report b at n = if_other (kind_at b at) kind.Close _ _ n

-- ---- the lines
-- a line's record at a place
abbrev pub line_here : ℕ → List Line → List ℕ → ℕ → Listing
line_here more ls b at =
    unless (line_cause (last_number ls) (line_at b at)) at (read_lines more (ls ++ (line_at b at ∷ [])) b (at + line_record))

-- what stands at the place decides
module _ (ls : List Line) (b : List ℕ) (at : ℕ) where
  pub lines_end : read_lines 0 ls b at ≡ read_close (report_of ls) b at
  unfolding read_lines
  lines_end = refl

  module _ (more : ℕ) where
    pub lines_at_line : kind_at b at ≡ Some kind.Line → read_lines (suc more) ls b at ≡ line_here more ls b at
    unfolding read_lines
    lines_at_line h = if_here (kind_at b at) kind.Line _ _ h

    pub lines_at_other : (kind_at b at ≡ Some kind.Line → ⊥) → read_lines (suc more) ls b at ≡ refused Malformed at
    unfolding read_lines
    lines_at_other n = if_other (kind_at b at) kind.Line _ _ n

pub number_last : (ls : List Line) (l : Line) → last_number (ls ++ (l ∷ [])) ≡ l.number
unfolding last_number
number_last ls l = ap (λ (m : Line). m.number) (last_snoc ls l no_line)

-- the loop: all that is known at its head, of any answer x
module _ (count : ℕ) (most : count ≤ most_flows) (report : Report) (b : List ℕ) (at last k : ℕ) (x : Listing) (made : report ≡ report_of (lines_in report))
    (latest : last ≡ last_number (lines_in report)) (counted : k ≡ length (lines_in report)) (inv : read_lines (count - k) (lines_in report) b at ≡ x) where
  abbrev ls : List Line
  ls = lines_in report

  pub lines_done : (r : Listing) → count ≤ k → r ≡ read_close report b at → r ≡ x
  lines_done r h g =
      let z : count - k ≡ 0 = omega arith in
      g ∙ ap (λ (s : Report). read_close s b at) made ∙ sym (lines_end ls b at) ∙ rw z at inv

  module _ (h : k < count) where
    left : ℕ
    left = count - (k + 1)

    here : read_lines (suc left) ls b at ≡ x
    unfolding left
    here = let z : count - k ≡ suc (count - (k + 1)) = omega arith in rw z at inv

    pub lines_other : (s : Option Kind) (r : Refusal) → s ≡ kind_at b at → (s ≡ Some kind.Line → ⊥) → r ≡ record { cause = Malformed; place = at } → Err r ≡ x
    lines_other s r e o g = ap Err g ∙ sym (lines_at_other ls b at left (λ m. o (e ∙ m))) ∙ here

    module _ (s : Option Kind) (e : s ≡ kind_at b at) (i : s ≡ Some kind.Line) (l : Line) (j : l ≡ line_at b at) (cause : Ruling) (c : cause ≡ line_cause last l) where
      at-line : unless cause at (read_lines left (ls ++ (l ∷ [])) b (at + line_record)) ≡ x
      at-line = let d : cause ≡ line_cause (last_number ls) l = rw (← latest) c in rw (← j, ← d) at (sym (lines_at_line ls b at left (sym e ∙ i)) ∙ here)

      pub lines_refused : (d : Cause) (r : Refusal) → cause ≡ Err d → r ≡ record { cause = d; place = at } → Err r ≡ x
      unfolding unless
      lines_refused d r n g = ap Err g ∙ rw n at at-line

      module _ (n : cause ≡ accepted) (next : Report) (g : next ≡ with_line report l) where
        lines-held : next ≡ report_of (ls ++ (l ∷ []))
        lines-held = g ∙ ap (λ (r : Report). with_line r l) made ∙ append_list ls l (omega arith)

        lines_next : lines_in next ≡ ls ++ (l ∷ [])
        lines_next = ap lines_in lines-held ∙ lines_of (ls ++ (l ∷ []))

        pub lines_made : next ≡ report_of (lines_in next)
        lines_made = lines-held ∙ ap report_of (sym lines_next)

        pub lines_latest : l.number ≡ last_number (lines_in next)
        lines_latest = rw lines_next (sym (number_last ls l))

        pub lines_more : read_lines (count - (k + 1)) (lines_in next) b (at + line_record) ≡ x
        unfolding left unless
        lines_more = rw lines_next (rw n at at-line)

        pub lines_counted : k + 1 ≡ length (lines_in next)
        lines_counted = rw (lines_next, length_snoc ls l, counted)

module _ (report : Report) (e : report ≡ report_of []) where
  pub start_made : report ≡ report_of (lines_in report)
  start_made = e ∙ ap report_of (sym (ap lines_in e ∙ lines_of []))

  pub start_latest : 0 ≡ last_number (lines_in report)
  unfolding last_number
  start_latest = rw (e, lines_of [])

  pub start_counted : 0 ≡ length (lines_in report)
  start_counted = rw (e, lines_of [])

  pub start_lines : (count : ℕ) (b : List ℕ) (at : ℕ) → read_lines (count - 0) (lines_in report) b at ≡ read_lines count [] b at
  start_lines count b at = let z : count - 0 ≡ count = omega arith in rw (e, lines_of [], z)

-- ---- the first record
module _ (b : List ℕ) where
  pub records_at_count : kind_at b 0 ≡ Some kind.Count → read_records b ≡ cond (ltb most_flows (count_in b)) (refused Malformed 0) (read_lines (count_in b) [] b count_record)
  unfolding read_records
  records_at_count h = if_here (kind_at b 0) kind.Count _ _ h

  pub records_at_other : (kind_at b 0 ≡ Some kind.Count → ⊥) → read_records b ≡ refused Malformed 0
  unfolding read_records
  records_at_other n = if_other (kind_at b 0) kind.Count _ _ n

module _ (b : List ℕ) (k : Option Kind) (e : k ≡ kind_at b 0) where
  pub records_other : (k ≡ Some kind.Count → ⊥) → (r : Refusal) → r ≡ record { cause = Malformed; place = 0 } → Err r ≡ read_records b
  records_other o r g = ap Err g ∙ sym (records_at_other b (λ h. o (e ∙ h)))

  module _ (h : k ≡ Some kind.Count) (n : ℕ) (f : n ≡ count_in b) where
    pub records_many : most_flows < n → (r : Refusal) → r ≡ record { cause = Malformed; place = 0 } → Err r ≡ read_records b
    records_many l r g = rw (records_at_count b (sym e ∙ h), ← f, lt-ltb _ _ l) (ap Err g)

    pub records_lines : n ≤ most_flows → (r : Listing) → r ≡ read_lines n [] b count_record → r ≡ read_records b
    records_lines l r g = rw (records_at_count b (sym e ∙ h), ← f, le-ltb _ _ l) g

-- ---- what is given of the records
module _ (b : List ℕ) (l : Listing) (e : l ≡ read_records b) where
  pub report_listed : (s : Report) → l ≡ Ok s → record { outcome = Ok tt; report = s } ≡ read_report b
  report_listed s h = ap reading_of (sym h ∙ e)

  pub report_refused : (r : Refusal) → l ≡ Err r → (s : Report) → s ≡ report_of [] → record { outcome = Err r; report = s } ≡ read_report b
  report_refused r h s g = rw g (ap reading_of (sym h ∙ e))
