-- What was written fits the buffer.
use Rattle.std.proofs.Common.{rules, arith, ◌≡◌, ℕ, ◌≤◌, Bool, true, false, nat_lt, length, refl}
use borrow.Author.Tests.{ltb-false}
use Rattle.std.specs.Prelude.{Ok}
use Rattle.records.specs.Rows.{size_written}
use Rattle.calls.proofs.write_table.Goals as goal

within : (space size n : ℕ) (short : Bool) → nat_lt space size ≡ short → Ok n ≡ size_written space size → n ≤ space
unfolding size_written
within space size n true p e = let q = rw p at e in absurd (cc)
within space size n false p e = let q = rw p at e in let z : n ≡ size = cc in omega (arith, ltb-false space size p)

pub read_table-requires : goal.read_table-requires
read_table-requires g c =
    let h : c.in-Ok.n ≤ 550 = within _ _ _ _ refl c.in-Ok.ensures.value in
    let l : length c.write_plan.new.buffer ≡ 550 = search rules in
    omega arith
