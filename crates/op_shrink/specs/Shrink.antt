-- What both pops share: how they answer, and the shrinking.
use Rattle.std.specs.Prelude.{ℕ, ◌-◌, ◌/◌, Bool, List}
use Rattle.base.specs.Tests.{pick}
use Rattle.index.specs.declared.Index.{Index}
use Rattle.index.specs.Index.{length_of}
use Rattle.steal.specs.declared.Steal.TheVariants.{Empty, Success}
use Rattle.parts.specs.declared.queue.Queue.{Queue}
use Rattle.parts.specs.declared.stage.ResizeStage.{ResizeStage}
use Rattle.parts.specs.declared.stage.ResizeStage.TheVariants.{LoadBack}
use Rattle.parts.specs.declared.stage.PopStage.TheVariants.{Shrink}
use Rattle.parts.specs.declared.stage.Popper.{Popper}
use Rattle.parts.specs.declared.stage.Popper.TheVariants as W
use Rattle.parts.specs.declared.answer.Answer.{Answer}
use Rattle.parts.specs.declared.answer.Answer.TheVariants.{Job, Nothing, Stolen}
use Rattle.parts.specs.declared.out.Resized.{Resized}
use Rattle.parts.specs.declared.out.Resized.TheVariants as R
use Rattle.op_resize.specs.Resize.{resize_of}
use Rattle.parts.specs.declared.out.StepOut.{StepOut}
use Rattle.parts.specs.declared.out.StepOut.TheVariants.{Going, Ended}
use Rattle.parts.specs.Out.{Claim}
use Rattle.parts.specs.declared.stage.PopStage.{PopStage}

-- a difference above 0, less one
abbrev pub others_of : Index → Index → ℕ
others_of b f = length_of b f - 1

-- of a batch and pop from the own queue, nothing becomes Empty
abbrev pub nothing_for : Popper → Answer
nothing_for W.Pop = Nothing
nothing_for W.BatchAndPop = Stolen Empty

abbrev pub job_for : Popper → ℕ → Answer
job_for W.Pop job = Job job
job_for W.BatchAndPop job = Stolen (Success job)

-- the job is read: shrink to half first, or answer
abbrev pub reading : Bool → Popper → ℕ → Queue → StepOut PopStage
reading few w job q = pick few (Going q (Shrink job (LoadBack (q.ring.capacity / 2)))) (Ended q (job_for w job))

-- what a pop does with a step of its resize: with no ring to be had it skips the shrink
abbrev pub shrunk : Popper → ℕ → Queue → Resized → StepOut PopStage
shrunk w job q (R.Stage z) = Going q (Shrink job z)
shrunk w job q R.NoRing = Ended q (job_for w job)
shrunk w job q (R.Done r) = Ended r (job_for w job)

abbrev pub shrink_of : Popper → ℕ → ResizeStage → Queue → Claim → List ℕ → StepOut PopStage × List ℕ
shrink_of w job z q g cells = (shrunk w job q (resize_of z q g cells).resized, (resize_of z q g cells).cells)
