-- Each turn reads some of what is left of the part.
use Rattle.std.proofs.Common.{length}
use Rattle.play.proofs.Game.play.Given as goal

abbrev pub decreases-loop-rest : goal.decreases-loop-rest
decreases-loop-rest g l = length l.rest
