-- What `all` ran at each number is whether the stage of that thread is sound.
use Rattle.std.proofs.Common.{rules}
use Rattle.base.proofs.Loops.{all_ran}
use Rattle.machine.proofs.state.Machine.stages_sound.Goals as goal

pub returns : goal.returns
returns c = all_ran c.all.ensures.ran (λ x b q k. search rules)
