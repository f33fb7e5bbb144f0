-- LIFO pop. Load b; load f; b - f <= 0: nothing. Store back b - 1. Load f; d = b - 1 - f. If d < 0: store back b; nothing. Otherwise read
-- cell b - 1. If d = 0: compare-exchange front f to f + 1; store back b; the job if won, nothing if lost, and no shrink. If d > 0,
-- capacity > 64 and d < capacity / 4: shrink to half. Answer.
use Rattle.std.specs.Prelude.{ℕ, ◌+◌, ◌/◌, Bool, ◌&&◌, List, nat_lt}
use Rattle.base.specs.Tests.{pick}
use Rattle.index.specs.declared.Index.{Index}
use Rattle.index.specs.Index.{empty_b, behind_b, same_b, plus_of, minus_of}
use Rattle.ring.specs.Capacity.{smallest}
use Rattle.cells.specs.Cells.{read_of}
use Rattle.parts.specs.declared.queue.Queue.{Queue}
use Rattle.parts.specs.declared.stage.LifoPopStage.{LifoPopStage}
use Rattle.parts.specs.declared.stage.LifoPopStage.TheVariants.{LoadBack, LoadFront, StoreBack, ReloadFront, RestoreBack, ReadLast, Exchange, RestoreBackWon, Read}
use Rattle.parts.specs.declared.stage.PopStage.TheVariants.{Lifo}
use Rattle.parts.specs.declared.stage.Popper.{Popper}
use Rattle.parts.specs.Out.{with_front, with_back}
use Rattle.parts.specs.declared.out.StepOut.{StepOut}
use Rattle.parts.specs.declared.out.StepOut.TheVariants.{Going, Ended}
use Rattle.op_shrink.specs.Shrink.{others_of, nothing_for, job_for, reading}
use Rattle.parts.specs.declared.stage.PopStage.{PopStage}

-- on to a stage of the LIFO pop
abbrev pub lifo : Queue → LifoPopStage → StepOut PopStage
lifo q at = Going q (Lifo at)

-- d, for the back b - 1 and the front f: below 0, 0, or above
abbrev pub decided : Index → Index → LifoPopStage
decided b f =
    pick (behind_b (minus_of b 1) f) (RestoreBack b)
    (pick (empty_b (minus_of b 1) f) (ReadLast b) (Read b (others_of (minus_of b 1) f)))

-- d is one more than the others; capacity > 64 and d < capacity / 4
abbrev pub few_b : ℕ → ℕ → Bool
few_b others capacity = nat_lt smallest capacity && nat_lt (others + 1) (capacity / 4)

abbrev pub lifo_pop_of : Popper → LifoPopStage → Queue → List ℕ → StepOut PopStage
lifo_pop_of w LoadBack q cells = lifo q (LoadFront q.back)
lifo_pop_of w (LoadFront b) q cells = pick (empty_b b q.front) (Ended q (nothing_for w)) (lifo q (StoreBack b))
lifo_pop_of w (StoreBack b) q cells = lifo (with_back q (minus_of b 1)) (ReloadFront b)
lifo_pop_of w (ReloadFront b) q cells = lifo q (decided b q.front)
lifo_pop_of w (RestoreBack b) q cells = Ended (with_back q b) (nothing_for w)
-- d = 0, so f is b - 1
lifo_pop_of w (ReadLast b) q cells = lifo q (Exchange b (read_of cells q.ring (minus_of b 1)))
lifo_pop_of w (Exchange b job) q cells =
    pick (same_b q.front (minus_of b 1)) (lifo (with_front q (plus_of (minus_of b 1) 1)) (RestoreBackWon b job)) (lifo q (RestoreBack b))
lifo_pop_of w (RestoreBackWon b job) q cells = Ended (with_back q b) (job_for w job)
lifo_pop_of w (Read b others) q cells = reading (few_b others q.ring.capacity) w (read_of cells q.ring (minus_of b 1)) q
