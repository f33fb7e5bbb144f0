-- What `any` ran at each number is the test of that number.
use Rattle.std.proofs.Common.{rules}
use Rattle.base.proofs.Loops.{any_ran}
use Rattle.places.proofs.rings.Rings.used.Goals as goal

pub returns : goal.returns
returns c = any_ran c.any.ensures.ran (λ x b q k. search rules)
