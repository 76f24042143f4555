-- Tables that calls have made out of a fresh one. A refused call gives back the table that it was handed. RULES, tables.
use Rattle.std.specs.Prelude.{ℕ}
use Rattle.flows.specs.declared.Flow.{Flow}
use Rattle.flows.specs.declared.Table.{Table}
use Rattle.flows.specs.WellFormed.{Typed}
use Rattle.table.specs.Calls.{fresh_answer, admitted, withdrawn}

pub data Made : Table → Type 0 where
  by_fresh : (lmin lmax : ℕ) → Made (fresh_answer lmin lmax).table
  by_admit : {t : Table} (f : Flow) → Made t → Typed f → Made (admitted t f).table
  by_withdraw : {t : Table} (number : ℕ) → Made t → Made (withdrawn t number).table
