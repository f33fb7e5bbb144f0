-- Push. Load back b; load front f: if b - f >= capacity, grow to twice (above the largest: answer 8). Write cell b; store back b + 1; done.
use Rattle.std.specs.Prelude.{ℕ, List, Option, Some, None}
use Rattle.base.specs.Tests.{pick}
use Rattle.index.specs.declared.Index.{Index}
use Rattle.index.specs.Index.{full_b, plus_of}
use Rattle.ring.specs.Capacity.{twice_of}
use Rattle.cells.specs.Cells.{written_of}
use Rattle.parts.specs.declared.queue.Queue.{Queue}
use Rattle.parts.specs.declared.stage.ResizeStage.TheVariants as Z
use Rattle.parts.specs.declared.stage.PushStage.{PushStage}
use Rattle.parts.specs.declared.stage.PushStage.TheVariants.{LoadBack, LoadFront, Resize, Write, StoreBack}
use Rattle.parts.specs.declared.answer.Answer.TheVariants as A
use Rattle.parts.specs.declared.answer.Shortage.TheVariants.{TooLarge, NoRing}
use Rattle.parts.specs.declared.out.Resized.{Resized}
use Rattle.parts.specs.declared.out.Resized.TheVariants as R
use Rattle.parts.specs.Out.{Claim, with_back}
use Rattle.op_resize.specs.Resize.{resize_of}
use Rattle.parts.specs.declared.out.StepOut.{StepOut}
use Rattle.parts.specs.declared.out.StepOut.TheVariants.{Going, Ended}

abbrev pub growing : Index → Queue → Option ℕ → StepOut PushStage
growing b q (Some c) = Going q (Resize b (Z.LoadBack c))
growing b q None = Ended q (A.GaveUp TooLarge)

-- what a push does with a step of its resize
abbrev pub grown : Index → Queue → Resized → StepOut PushStage
grown b q (R.Stage z) = Going q (Resize b z)
grown b q R.NoRing = Ended q (A.GaveUp NoRing)
grown b q (R.Done r) = Going r (Write b)

-- with the pool's cells
abbrev pub push_of : ℕ → PushStage → Queue → Claim → List ℕ → StepOut PushStage × List ℕ
push_of job LoadBack q g cells = (Going q (LoadFront q.back), cells)
push_of job (LoadFront b) q g cells =
    (pick (full_b b q.front q.ring.capacity) (growing b q (twice_of q.ring.capacity)) (Going q (Write b)), cells)
push_of job (Resize b z) q g cells = (grown b q (resize_of z q g cells).resized, (resize_of z q g cells).cells)
push_of job (Write b) q g cells = (Going q (StoreBack b), written_of cells q.ring b job)
push_of job (StoreBack b) q g cells = (Ended (with_back q (plus_of b 1)) A.Done, cells)
