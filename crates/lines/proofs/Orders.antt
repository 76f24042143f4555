-- The reports of the library's calls: lines that can be listed, zeros behind them. What is read is one, and is written as the bytes that were read.
use Prim.Native.Nat.{ℕ}
use mathlib.Core.Path.{◌≡◌, refl, sym, ap, ◌∙◌, subst}
use mathlib.Core.List.{List, []}
use Rattle.flows.specs.declared.Refusal.{Refusal}
use Rattle.std.specs.Prelude.{Result, Ok, Err}
use Rattle.records.specs.declared.Line.{Line}
use Rattle.records.specs.Bodies.{Bytes}
use Rattle.reader.proofs.Places.{impossible}
use Rattle.lines.specs.declared.Report.{Report}
use Rattle.lines.specs.declared.Reading.{Reading}
use Rattle.lines.specs.Reports.{lines_in, report_of}
use Rattle.lines.specs.Reading.{read_report}
use Rattle.lines.specs.Writing.{report_bytes}
use Rattle.lines.specs.Demands.{Listable, InOrder}
use Rattle.lines.proofs.Arrays.{lines_of}
use Rattle.lines.proofs.Trips.{form_read}
use Rattle.lines.proofs.Unread.{none_listable, place_inside, report_form}

pub listed-order : (ls : List Line) → Listable ls → InOrder (report_of ls)
listed-order ls c = record { listable = subst Listable (sym (lines_of ls)) c; report = ap report_of (sym (lines_of ls)) }

pub read-order : (b : List ℕ) → Bytes b → InOrder (read_report b).report
read-order b u = go (read_report b).outcome refl
  where
    go : (o : Result (Unit {0}) Refusal) → (read_report b).outcome ≡ o → InOrder (read_report b).report
    go (Ok x) e = let i = report_form b u e in subst (λ (r : Reading). InOrder r.report) (sym (form_read b i)) (listed-order i.lines i.listable)
    go (Err r) e = subst InOrder (sym ((place_inside b u).empty (λ g. impossible (cc)))) (listed-order [] none_listable)

-- what is read and then written is the bytes that were read
pub read_write : (b : List ℕ) → Bytes b → (s : Report) → read_report b ≡ record { outcome = Ok tt; report = s } → report_bytes (lines_in s) ≡ b
read_write b u s e =
    let i = report_form b u (ap (λ (r : Reading). r.outcome) e) in
    ap (λ (r : Reading). report_bytes (lines_in r.report)) (sym e ∙ form_read b i) ∙ ap report_bytes (lines_of i.lines) ∙ sym i.bytes
