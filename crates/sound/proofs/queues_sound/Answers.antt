-- What `all` ran at each number is `queue_sound` of that queue.
use Rattle.std.proofs.Common.{rules}
use Rattle.base.proofs.Loops.{all_ran}
use Rattle.sound.proofs.queues_sound.Goals as goal

pub returns : goal.returns
returns c = all_ran c.all.ensures.ran (λ x b q k. search rules)
