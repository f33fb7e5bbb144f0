-- FIFO pop. Load b; load f; b - f <= 0: nothing. Fetch-and-add front, getting f. If b - (f + 1) < 0: store front f; nothing. Otherwise read
-- cell f. If capacity > 64 and the difference first seen <= capacity / 4, shrink to half. Answer.
use Rattle.std.specs.Prelude.{ℕ, ◌+◌, ◌/◌, ◌&&◌, List, nat_le, nat_lt}
use Rattle.base.specs.Tests.{pick}
use Rattle.index.specs.Index.{empty_b, behind_b, plus_of}
use Rattle.ring.specs.Capacity.{smallest}
use Rattle.cells.specs.Cells.{read_of}
use Rattle.parts.specs.declared.queue.Queue.{Queue}
use Rattle.parts.specs.declared.stage.FifoPopStage.{FifoPopStage}
use Rattle.parts.specs.declared.stage.FifoPopStage.TheVariants.{LoadBack, LoadFront, FetchAdd, RestoreFront, Read}
use Rattle.parts.specs.declared.stage.PopStage.TheVariants.{Fifo}
use Rattle.parts.specs.declared.stage.Popper.{Popper}
use Rattle.parts.specs.Out.{with_front}
use Rattle.parts.specs.declared.out.StepOut.{StepOut}
use Rattle.parts.specs.declared.out.StepOut.TheVariants.{Going, Ended}
use Rattle.op_shrink.specs.Shrink.{others_of, nothing_for, reading}
use Rattle.parts.specs.declared.stage.PopStage.{PopStage}

-- on to a stage of the FIFO pop
abbrev pub fifo : Queue → FifoPopStage → StepOut PopStage
fifo q at = Going q (Fifo at)

abbrev pub fifo_pop_of : Popper → FifoPopStage → Queue → List ℕ → StepOut PopStage
fifo_pop_of w LoadBack q cells = fifo q (LoadFront q.back)
fifo_pop_of w (LoadFront b) q cells = pick (empty_b b q.front) (Ended q (nothing_for w)) (fifo q (FetchAdd b (others_of b q.front)))
fifo_pop_of w (FetchAdd b others) q cells =
    fifo (with_front q (plus_of q.front 1))
    (pick (behind_b b (plus_of q.front 1)) (RestoreFront q.front) (Read q.front others))
fifo_pop_of w (RestoreFront f) q cells = Ended (with_front q f) (nothing_for w)
fifo_pop_of w (Read f others) q cells =
    reading (nat_lt smallest q.ring.capacity && nat_le (others + 1) (q.ring.capacity / 4)) w (read_of cells q.ring f) q
