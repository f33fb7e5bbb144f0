-- Reserve n in the own queue: if n > 0, load back, load front; if capacity less length is below n, resize to the smallest capacity that holds
-- length + n (above the largest: answer 8).
use Rattle.std.specs.Prelude.{ℕ, ◌+◌, List, nat_le, Option, Some, None}
use Rattle.base.specs.Tests.{pick}
use Rattle.index.specs.Index.{length_of}
use Rattle.ring.specs.Capacity.{holding_of}
use Rattle.parts.specs.declared.queue.Queue.{Queue}
use Rattle.parts.specs.declared.stage.ResizeStage.TheVariants as Z
use Rattle.parts.specs.declared.stage.Wanted.{Wanted}
use Rattle.parts.specs.declared.stage.ReserveStage.{ReserveStage}
use Rattle.parts.specs.declared.stage.ReserveStage.TheVariants.{LoadBack, LoadFront, Resize}
use Rattle.parts.specs.declared.stage.OwnStage.TheVariants as O
use Rattle.parts.specs.declared.answer.Answer.TheVariants.{GaveUp}
use Rattle.parts.specs.declared.answer.Shortage.TheVariants.{TooLarge, NoRing}
use Rattle.parts.specs.declared.out.Resized.{Resized}
use Rattle.parts.specs.declared.out.Resized.TheVariants as R
use Rattle.op_resize.specs.Resize.{resize_of}
use Rattle.parts.specs.declared.out.StepOut.{StepOut}
use Rattle.parts.specs.declared.stage.BatchStage.{BatchStage}
use Rattle.parts.specs.declared.out.StepOut.TheVariants.{Going, Ended}
use Rattle.parts.specs.declared.stage.BatchStage.TheVariants.{Own}
use Rattle.op_batch.specs.Haul.{reserve_at}
use Rattle.parts.specs.Out.{Claim}

abbrev pub growing : Wanted → Queue → Option ℕ → StepOut BatchStage
growing w q (Some c) = reserve_at q w (Resize (Z.LoadBack c))
growing w q None = Ended q (GaveUp TooLarge)

-- what a batch does with a step of its resize
abbrev pub grown : Wanted → Queue → Resized → StepOut BatchStage
grown w q (R.Stage z) = reserve_at q w (Resize z)
grown w q R.NoRing = Ended q (GaveUp NoRing)
grown w q (R.Done r) = Going r (Own (O.LoadBack w))

abbrev pub reserve_of : Wanted → ReserveStage → Queue → Claim → List ℕ → StepOut BatchStage × List ℕ
reserve_of w LoadBack q g cells = (reserve_at q w (LoadFront q.back), cells)
reserve_of w (LoadFront b) q g cells = (
  pick (nat_le (length_of b q.front + w.n) q.ring.capacity)
      (Going q (Own (O.LoadBack w)))
      (growing w q (holding_of (length_of b q.front + w.n))),
  cells,
)
reserve_of w (Resize z) q g cells = (grown w q (resize_of z q g cells).resized, (resize_of z q g cells).cells)
