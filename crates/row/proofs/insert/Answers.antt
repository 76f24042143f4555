use native.Mathlib.Omega.{arith}
use borrow.Author.Rules.{rules}
use Rattle.flows.proofs.Arrays.{length_of-map}
use Rattle.row.proofs.Arrays.{append_count}
use Rattle.row.proofs.Parts.{insert_full, insert_made}
use Rattle.row.proofs.insert.Goals as goal

pub returns-then-n-ge-FLOWS : goal.returns-then-n-ge-FLOWS
returns-then-n-ge-FLOWS c = search insert_full

pub copy-requires : goal.copy-requires
copy-requires c = record { b_le_most_flows = omega (arith, append_count _ _ _ c.append-with.ensures (omega arith)); a_bound = omega (arith, append_count _ _ _ c.append-with.ensures (omega arith)) }

pub returns : goal.returns
returns c =
    insert_made c.args.row (search (length_of-map, c.well_formed)) _ c.size-n.ensures.value _ c.rank-at.ensures.upper_bound _ _ c.none-start.ensures.value c.copy-before.ensures.value c.args.f _ _ (search rules) c.rank-at.ensures.value (omega arith) c.append-with.ensures c.copy.ensures.value
