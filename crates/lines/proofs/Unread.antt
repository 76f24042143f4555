-- Any bytes are a report in form, or have a first record that is refused; reading gives the lines of the one, of the other the refusal and the place.
use Prim.Native.Nat.{ℕ, zero, suc, ◌+◌, ◌-◌, ◌≤◌, ◌<◌}
use mathlib.Core.Path.{◌≡◌, refl, sym, ap, ◌∙◌, subst}
use mathlib.Core.Bool.{Bool, true, false, cond, not, ◌&&◌}
use mathlib.Core.List.{List, [], ◌∷◌, ◌++◌, append_assoc}
use mathlib.Core.Logic.{◌⊎◌, inl, inr}
use native.Mathlib.Omega.{arith}
use lib.ListN.{length, get_or, length-append}
use lib.Dec.{leb, ltb, eqb}
use borrow.Author.Tests.{eqb-false, lt-ltb, le-leb, lt-leb, leb-true, leb-false, ltb-true, ltb-false}
use Rattle.std.specs.Prelude.{Ok, Err, Some}
use Rattle.flows.specs.declared.Figures.{Figures}
use Rattle.flows.specs.declared.Refusal.{Refusal}
use Rattle.flows.specs.declared.Cause.{Cause}
use Rattle.flows.specs.declared.Cause.TheVariants.{OutOfRange, Malformed}
use Rattle.flows.specs.Refusals.{Ruling, accepted, place_in}
use Rattle.flows.specs.Lists.{most_flows}
use Rattle.flows.specs.WellFormed.{Exactly, each_none}
use Rattle.row.specs.Rows.{rising_none}
use Rattle.records.specs.declared.Line.{Line}
use Rattle.records.specs.Kinds.{count_record, line_record, close_kind}
use Rattle.records.specs.Bodies.{Bytes}
use Rattle.records.specs.Rows.{row_bytes}
use Rattle.reader.specs.declared.Kind.TheVariants as kind
use Rattle.reader.specs.Places.{kind_at}
use Rattle.reader.proofs.Places.{is_kind, impossible}
use Rattle.reader.proofs.Records.{first_byte}
use Rattle.records.proofs.Rows.{row_snoc}
use Rattle.row.proofs.Arrays.{length_snoc}
use Rattle.row.proofs.Longer.{rising_snoc, each_snoc}
use Rattle.lines.specs.declared.Reading.{Reading}
use Rattle.lines.specs.Reports.{report_of}
use Rattle.lines.specs.Reading.{Listing, reading_of, count_in, line_at, refused, unless, last_number, figures_fit, line_cause, read_lines, read_records, read_report}
use Rattle.lines.specs.Writing.{count_bytes, line_bytes, lines_bytes, report_bytes, report_length}
use Rattle.lines.specs.Demands.{Possible, Listable, InForm, StartsCount, StartsLine, StartsClose, After, OfRecord, not-rising, not-possible, Unread, no-count, too_many, no_line, of-line, no_close, after_close, Sought, at-start, behind, Foreign}
use Rattle.lines.proofs.Steps.{close_at_other, close_more, number_last, lines_end, lines_at_line, lines_at_other, records_at_other}
use Rattle.lines.proofs.Puts.{body_long, lines_long}
use Rattle.lines.proofs.Trips.{close_here, close_starts, line_here_lem, line_same, line_starts, count_starts, count_here, records_start, accepted-line, after_rest, read_after, form_read}

-- ---- a line's record: accepted, or refused as the words say
pub possible : (g : Figures) → figures_fit g ≡ true → Possible g
unfolding figures_fit
possible g = go (eqb g.bound 0) (eqb g.busy 0) (ltb g.jitter g.bound) refl refl refl
  where
    go : (p q r : Bool) → eqb g.bound 0 ≡ p → eqb g.busy 0 ≡ q → ltb g.jitter g.bound ≡ r → not p && (not q && r) ≡ true → Possible g
    go true q r i j k h = impossible (cc)
    go false true r i j k h = impossible (cc)
    go false false false i j k h = impossible (cc)
    go false false true i j k h =
        let b = eqb-false g.bound 0 i in
        let c = eqb-false g.busy 0 j in
        record { bound = omega (arith, b); busy = omega (arith, c); jitter = ltb-true _ _ k }

record Taken (ls : List Line) (l : Line) : Type 0 where
  rises : last_number ls < l.number
  figures : Possible l.figures

data Ruled (ls : List Line) (l : Line) : Ruling → Type 0 where
  taken : Taken ls l → Ruled ls l accepted
  refuses : (c : Cause) → OfRecord ls l c → Ruled ls l (Err c)

module _ (ls : List Line) (l : Line) where
  of_record : Ruled ls l (line_cause (last_number ls) l)
  unfolding line_cause
  of_record = go (leb l.number (last_number ls)) (figures_fit l.figures) refl refl
    where
      go : (p q : Bool) → leb l.number (last_number ls) ≡ p → figures_fit l.figures ≡ q →
          Ruled ls l (cond p (Err Malformed) (cond q accepted (Err OutOfRange)))
      go true q i j = refuses Malformed (not-rising (leb-true _ _ i))
      go false true i j = taken (record { rises = leb-false _ _ i; figures = possible l.figures j })
      go false false i j =
          refuses OutOfRange (not-possible (leb-false _ _ i) (λ p. let a = accepted-line (last_number ls) l (leb-false _ _ i) p in impossible (cc)))

  record-only : (c : Cause) → OfRecord ls l c → line_cause (last_number ls) l ≡ Err c
  unfolding line_cause
  record-only c (not-rising h) = rw (le-leb _ _ h)
  record-only c (not-possible h n) = go (figures_fit l.figures) refl
    where
      go : (q : Bool) → figures_fit l.figures ≡ q →
          cond (leb l.number (last_number ls)) (Err Malformed) (cond (figures_fit l.figures) accepted (Err OutOfRange)) ≡ Err OutOfRange
      go true e = absurd (n (possible l.figures e))
      go false e = rw (lt-leb _ _ h, e)

-- ---- the records that are not refused, and one more
module _ {b : List ℕ} {n : ℕ} {ls : List Line} {at : ℕ} {rest : List ℕ} (a : After b n ls at rest) where
  abbrev before : List ℕ
  before = count_bytes n ++ lines_bytes ls

  after_more : length ls < n → {l : Line} (s : StartsLine rest l) → Taken ls l → After b n (ls ++ (l ∷ [])) (at + line_record) s.rest
  unfolding last_number
  after_more h {l} s k =
      let m : before ++ line_bytes l ≡ count_bytes n ++ lines_bytes (ls ++ (l ∷ [])) =
      append_assoc (count_bytes n) (lines_bytes ls) (line_bytes l) ∙ ap (λ (x : List ℕ). count_bytes n ++ x) (sym (row_snoc line_bytes ls l)) in
      let p : at + line_record ≡ length (before ++ line_bytes l) = omega (arith, a.place_is, length-append before (line_bytes l), body_long l) in
      record {
        most = a.most;
        announced = omega (arith, length_snoc ls l);
        listable = record {
          rising = rising_snoc (λ (m : Line). m.number) last_number number_last ls [] l a.listable.rising k.rises;
          count = omega (arith, length_snoc ls l, a.most);
          figures = each_snoc _ ls l a.listable.figures k.figures;
          typed = each_snoc _ ls l a.listable.typed s.typed;
        };
        bytes =
            a.bytes ∙ ap (λ (x : List ℕ). before ++ x) s.bytes ∙ sym (append_assoc before (line_bytes l) s.rest) ∙
            ap (λ (x : List ℕ). x ++ s.rest) m;
        place_is = p ∙ ap length m;
      }

  after-inside : at + 1 ≤ report_length most_flows
  after-inside = omega (arith, a.place_is, a.announced, a.most, length-append (count_bytes n) (lines_bytes ls), lines_long ls)

  after_line : length ls < n → read_records b ≡ read_lines (suc (n - (length ls + 1))) ls b at
  after_line h = let z : n - length ls ≡ suc (n - (length ls + 1)) = omega arith in rw z at (read_after a)

  after-end : length ls ≡ n → read_records b ≡ read_lines 0 ls b at
  after-end h = let z : n - length ls ≡ 0 = omega arith in rw z at (read_after a)

-- ---- any bytes are in form, or one of their records is refused
data Decided (b : List ℕ) : Type 0 where
  in_form : InForm b → Decided b
  unread : (c : Cause) (place : ℕ) → Unread b c place → Decided b

pub none_listable : Listable []
none_listable = record { rising = rising_none; count = omega arith; figures = each_none; typed = each_none }

-- what goes with a refusal
pub record Inside (r : Reading) : Type 0 where
  pub place : place_in r.outcome ≤ report_length most_flows
  pub empty : (r.outcome ≡ Ok tt → ⊥) → r.report ≡ report_of []

module _ (b : List ℕ) (u : Bytes b) where
  module _ {n : ℕ} {ls : List Line} {at : ℕ} {rest : List ℕ} (a : After b n ls at rest) where
    ended : length ls ≡ n → (x : List ℕ) → rest ≡ close_kind ∷ x → Decided b
    unfolding report_bytes
    ended h [] e =
        in_form (record {
          lines = ls;
          listable = a.listable;
          bytes = a.bytes ∙ ap (λ (x : List ℕ). before a ++ x) e ∙ ap (λ (m : ℕ). (count_bytes m ++ lines_bytes ls) ++ (close_kind ∷ [])) (sym h);
        })
    ended h (x ∷ y) e = unread Malformed (at + 1) (after_close n ls at x y (subst (After b n ls at) e a) h)

    close-decided : length ls ≡ n → Decided b
    close-decided h = go (is_kind (kind_at b at) kind.Close)
      where
        go : (kind_at b at ≡ Some kind.Close) ⊎ (kind_at b at ≡ Some kind.Close → ⊥) → Decided b
        go (inl k) = let s = close_starts b at (after_rest a) k in ended h s.rest s.bytes
        go (inr m) = unread Malformed at (no_close n ls at rest a h (λ s. m (close_here b at (after_rest a) s)))

    line-decided : length ls < n → ((l : Line) (s : StartsLine rest l) → Taken ls l → Decided b) → Decided b
    line-decided h next = go (is_kind (kind_at b at) kind.Line)
      where
        tested : {r : Ruling} → StartsLine rest (line_at b at) → Ruled ls (line_at b at) r → Decided b
        tested s (taken k) = next (line_at b at) s k
        tested s (refuses c o) = unread c at (of-line n ls at rest (line_at b at) c a h s o)

        go : (kind_at b at ≡ Some kind.Line) ⊎ (kind_at b at ≡ Some kind.Line → ⊥) → Decided b
        go (inl k) = tested (line_starts b at (after_rest a) u k) (of_record ls (line_at b at))
        go (inr m) = unread Malformed at (no_line n ls at rest a h (λ l s. m (line_here_lem b at (after_rest a) s)))

  after-decided : (more : ℕ) {n : ℕ} {ls : List Line} {at : ℕ} {rest : List ℕ} → more + length ls ≡ n → After b n ls at rest → Decided b
  after-decided zero h a = close-decided a (omega arith)
  after-decided (suc more) {ls = ls} h a =
      line-decided a (omega arith) (λ l s k. after-decided more (omega (arith, length_snoc ls l)) (after_more a (omega arith) s k))

  count-decided : (n : ℕ) → StartsCount b n → Decided b
  unfolding row_bytes
  count-decided n s = go (ltb most_flows n) refl
    where
      go : (p : Bool) → ltb most_flows n ≡ p → Decided b
      go true e = unread Malformed 0 (too_many n s (ltb-true _ _ e))
      go false e =
          after-decided n {ls = []} {at = count_record} {rest = s.rest} (omega arith) (record {
            most = ltb-false _ _ e;
            announced = omega arith;
            listable = none_listable;
            bytes = s.bytes;
            place_is = refl;
          })

  decided : Decided b
  decided = go (is_kind (kind_at b 0) kind.Count)
    where
      go : (kind_at b 0 ≡ Some kind.Count) ⊎ (kind_at b 0 ≡ Some kind.Count → ⊥) → Decided b
      go (inl h) = count-decided (count_in b) (count_starts b h)
      go (inr m) = unread Malformed 0 (no-count (λ n s. m (count_here b n s)))

  -- ---- what the words say is given
  gives : (c : Cause) (place : ℕ) → Unread b c place → read_records b ≡ refused c place
  unfolding unless
  gives c place (no-count n) = records_at_other b (λ h. n _ (count_starts b h))
  gives c place (too_many n s h) = rw (lt-ltb most_flows n h) at (records_start b n s)
  gives c place (no_line n ls at rest a h m) =
      after_line a h ∙ lines_at_other ls b at (n - (length ls + 1)) (λ k. m _ (line_starts b at (after_rest a) u k))
  gives c place (of-line n ls at rest l d a h s o) =
      after_line a h ∙ lines_at_line ls b at (n - (length ls + 1)) (line_here_lem b at (after_rest a) s) ∙ rw (line_same b at (after_rest a) s, record-only ls l d o)
  gives c place (no_close n ls at rest a h m) = after-end a h ∙ lines_end ls b at ∙ close_at_other (report_of ls) b at (λ k. m (close_starts b at (after_rest a) k))
  gives c place (after_close n ls at x y a h) =
      let s : StartsClose (close_kind ∷ x ∷ y) = record { rest = x ∷ y; bytes = refl } in
      let i : at + 1 < length b = omega (arith, (first_byte b at (after_rest a) close_kind (x ∷ y) refl).1) in
      after-end a h ∙ lines_end ls b at ∙ sym (close_more (report_of ls) b at (Some kind.Close) (sym (close_here b at (after_rest a) s)) _ refl i refl)

  inside : (c : Cause) (place : ℕ) → Unread b c place → place ≤ report_length most_flows
  inside c place (no-count n) = omega arith
  inside c place (too_many n s h) = omega arith
  inside c place (no_line n ls at rest a h m) = omega (arith, after-inside a)
  inside c place (of-line n ls at rest l d a h s o) = omega (arith, after-inside a)
  inside c place (no_close n ls at rest a h m) = omega (arith, after-inside a)
  inside c place (after_close n ls at x y a h) = after-inside a

  outcome-of : (c : Cause) (place : ℕ) → Unread b c place → (read_report b).outcome ≡ Err (record { cause = c; place = place })
  outcome-of c place n = ap (λ (l : Listing). (reading_of l).outcome) (gives c place n)

  -- With a refusal goes the report without lines
  pub place_inside : Inside (read_report b)
  place_inside = go decided
    where
      go : Decided b → Inside (read_report b)
      go (in_form i) =
          subst Inside (sym (form_read b i)) (record { place = omega arith; empty = λ never. absurd (never refl) })
      go (unread c place n) =
          subst (λ (l : Listing). Inside (reading_of l)) (sym (gives c place n)) (record { place = inside c place n; empty = λ never. refl })

  -- What is read is in form
  pub report_form : (read_report b).outcome ≡ Ok tt → InForm b
  report_form h = go decided
    where
      go : Decided b → InForm b
      go (in_form i) = i
      go (unread c place n) = let e = outcome-of c place n in impossible (cc)

  -- What is refused is refused as the words say, and exactly then
  pub unread_exact : (c : Cause) (place : ℕ) → Exactly ((read_report b).outcome ≡ Err (record { cause = c; place = place })) (Unread b c place)
  unread_exact c place = (λ h. go h decided, outcome-of c place)
    where
      go : (read_report b).outcome ≡ Err (record { cause = c; place = place }) → Decided b → Unread b c place
      go h (in_form i) = let e = ap (λ (r : Reading). r.outcome) (form_read b i) in impossible (cc)
      go h (unread d at n) =
          let g = outcome-of d at n in
          let m : ◌≡◌ {A = Refusal} (record { cause = d; place = at }) (record { cause = c; place = place }) = cc in
          let p : d ≡ c = ap (λ (r : Refusal). r.cause) m in
          let q : at ≡ place = ap (λ (r : Refusal). r.place) m in
          rw (p, q) at n

  -- ---- a byte that is no kind of a report
  foreign-unread : (x place : ℕ) (rest : List ℕ) → Sought b (x ∷ rest) place → Foreign x → Unread b Malformed place
  foreign-unread x place rest (at-start e) f =
      no-count (λ n s. f.count (ap (λ (l : List ℕ). get_or l 0 0) (sym e ∙ s.bytes)))
  foreign-unread x place rest (behind n ls at a) f = go (ltb (length ls) n) refl
    where
      go : (p : Bool) → ltb (length ls) n ≡ p → Unread b Malformed at
      go true e = no_line n ls at (x ∷ rest) a (ltb-true _ _ e) (λ l s. f.line (ap (λ (l : List ℕ). get_or l 0 0) s.bytes))
      go false e =
          no_close n ls at (x ∷ rest) a (omega (arith, ltb-false (length ls) n e, a.announced)) (λ s. f.close (ap (λ (l : List ℕ). get_or l 0 0) s.bytes))

  pub foreign_refused : (x place : ℕ) (rest : List ℕ) → Sought b (x ∷ rest) place → Foreign x → (read_report b).outcome ≡ Err (record { cause = Malformed; place = place })
  foreign_refused x place rest s f = outcome-of Malformed place (foreign-unread x place rest s f)
