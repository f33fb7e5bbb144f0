-- A ring that stands has the index's cell within its stretch.
use Rattle.std.proofs.Common.{◌∙◌}
use Rattle.cells.proofs.StandLaws.{lent_inside, lent_got}
use Rattle.cells.proofs.read.Goals as goal

pub get-requires : goal.get-requires
get-requires c = lent_inside _ _ _ _ _ c.in-Some.ensures.value c.cell-at.ensures

pub returns : goal.returns
returns c = c.get.ensures ∙ lent_got _ _ _ _ _ c.in-Some.ensures.value c.cell-at.ensures
