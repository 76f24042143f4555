use Prim.Native.Nat.{◌<◌}
use native.Mathlib.Omega.{arith}
use Rattle.table.proofs.Ways.{ask_absent, ask_within, ask_present}
use Rattle.table.proofs.Promises.{ask_promise}
use Rattle.table.proofs.ask.Goals as goal

pub offset_bounds-t-place : goal.offset_bounds-t-place
offset_bounds-t-place c = let h : c.in-Some.place < 16 = search ask_within in omega arith

pub bounds-t-place : goal.bounds-t-place
bounds-t-place c = search ask_within

pub returns-in-Some : goal.returns-in-Some
returns-in-Some c = record { value = search ask_present; asking = search (ask_promise, ask_present) }

pub returns-in-None : goal.returns-in-None
returns-in-None c = record { value = search ask_absent; asking = search (ask_promise, ask_absent) }
