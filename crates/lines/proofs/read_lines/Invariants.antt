use Prim.Native.Nat.{◌-◌}
use mathlib.Core.Path.{◌≡◌}
use mathlib.Core.List.{[]}
use lib.ListN.{length}
use Rattle.records.specs.Kinds.{count_record}
use Rattle.lines.specs.Reports.{lines_in, report_of}
use Rattle.lines.specs.Reading.{last_number, read_lines}
use Rattle.lines.proofs.read_lines.Given as goal

abbrev pub invariant-loop : goal.invariant-loop
invariant-loop l = record {
  made : l.report ≡ report_of (lines_in l.report);
  latest : l.last ≡ last_number (lines_in l.report);
  counted : l.counter ≡ length (lines_in l.report);
  rest : read_lines (l.count - l.counter) (lines_in l.report) l.bytes l.at ≡ read_lines l.count [] l.bytes count_record;
}
