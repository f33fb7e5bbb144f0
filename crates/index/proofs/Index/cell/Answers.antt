-- By the mask the index lies in the cell of its bits; otherwise its magnitude is divided, and counted from the last cell where the index is below zero.
use Rattle.std.proofs.Common.{arith, sym, eqb-true}
use Rattle.index.proofs.Signs.{back}
use Rattle.index.proofs.Cells.{cell_is, masked}
use Rattle.index.proofs.Index.cell.Goals as goal

pub returns-then-is_power_of_two : goal.returns-then-is_power_of_two
returns-then-is_power_of_two c =
    let i = c.args.self in
    let n = c.args.capacity in
    rw
    (cell_is i n (omega arith))
    (masked i.0 n c.bits.result c.ranges.capacity.fits (eqb-true _ 1 (sym c.if-is_power_of_two.ensures)) (rw (back i.0 c.struct_told-1.given.0.1) at c.bits.ensures))
