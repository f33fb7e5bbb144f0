-- What `map` ran at each thread is what that thread keeps.
use Rattle.std.proofs.Common.{rules}
use Rattle.keeps.specs.declared.Kept.TheVariants.{Nothing}
use Rattle.machine.specs.State.{idle_thread}
use Rattle.machine.proofs.KeptLaws.{row_kept}
use Rattle.machine.proofs.state.Machine.rings_kept.Goals as goal

pub returns : goal.returns
returns c =
    row_kept c.args.self.now c.map.result (search rules) c.map.ensures.items.long
    (λ t below. let at = c.map.ensures.items.at t idle_thread Nothing below in search rules)
