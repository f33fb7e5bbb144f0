-- The ring that a claim finds is that of the first place that none uses, by what its calls ensure.
use Rattle.std.proofs.Common.{refl}
use Rattle.machine.specs.Claim.{free_ring}
use Rattle.machine.proofs.state.Machine.free_ring.Goals as goal

pub returns : goal.returns
unfolding free_ring
returns c =
    rw (c.found.ensures, c.free_place-place.ensures, c.rings.ensures.queues, c.rings.ensures.kept, c.rings.ensures.count) refl
