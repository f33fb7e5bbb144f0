-- A job put into the cell of a standing ring's stretch is written to the pool.
use Rattle.cells.proofs.StandLaws.{lent_inside, lent_put_back}
use Rattle.cells.proofs.write.Goals as goal

pub put-requires : goal.put-requires
put-requires c = lent_inside _ _ _ _ _ c.in-Some.ensures.value c.cell.ensures

pub returns-in-Some : goal.returns-in-Some
returns-in-Some c = lent_put_back _ _ _ _ _ c.in-Some.ensures.value c.cell.ensures _ _ c.put.ensures
