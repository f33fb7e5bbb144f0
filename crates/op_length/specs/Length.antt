-- Length. Of any queue, for owner and thief alike: load back, load front. Answers the signed difference and the length.
-- Batch whose source is the thread's own queue: load back, load front; Empty or Success, nothing moved.
use Rattle.base.specs.Tests.{pick}
use Rattle.index.specs.Index.{empty_b, difference_of, length_of}
use Rattle.steal.specs.declared.Steal.TheVariants.{Empty}
use Rattle.parts.specs.declared.queue.Queue.{Queue}
use Rattle.parts.specs.declared.stage.LengthStage.{LengthStage}
use Rattle.parts.specs.declared.stage.LengthStage.TheVariants.{LoadBack, LoadFront}
use Rattle.parts.specs.declared.answer.Answer.TheVariants.{Length, Stolen, Moved}
use Rattle.parts.specs.declared.out.StepOut.{StepOut}
use Rattle.parts.specs.declared.out.StepOut.TheVariants.{Going, Ended}

abbrev pub length_step_of : LengthStage → Queue → StepOut LengthStage
length_step_of LoadBack q = Going q (LoadFront q.back)
length_step_of (LoadFront b) q = Ended q (Length (difference_of b q.front) (length_of b q.front))

abbrev pub own_batch_of : LengthStage → Queue → StepOut LengthStage
own_batch_of LoadBack q = Going q (LoadFront q.back)
own_batch_of (LoadFront b) q = Ended q (pick (empty_b b q.front) (Stolen Empty) Moved)
