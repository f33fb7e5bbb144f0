-- What `all` ran at each number is the test of that number.
use Rattle.std.proofs.Common.{rules}
use Rattle.base.proofs.Loops.{all_ran}
use Rattle.places.proofs.rings.Rings.apart_from.Goals as goal

pub returns : goal.returns
returns c = all_ran c.all.ensures.ran (λ x b q k. search rules)
