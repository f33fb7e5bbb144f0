-- Steal. Load front f; load back; difference <= 0: Empty. Load ring, and hold it until the answer. Read cell f. Load ring: another number:
-- Retry. Compare-exchange f to f + 1: lost: Retry. Success.
use Rattle.std.specs.Prelude.{ℕ, List, ◌==◌}
use Rattle.base.specs.Tests.{pick}
use Rattle.index.specs.Index.{empty_b, same_b, plus_of}
use Rattle.cells.specs.Cells.{read_of}
use Rattle.steal.specs.declared.Steal.TheVariants.{Empty, Success, Retry}
use Rattle.parts.specs.declared.queue.Queue.{Queue}
use Rattle.parts.specs.declared.stage.StealStage.{StealStage}
use Rattle.parts.specs.declared.stage.StealStage.TheVariants.{LoadFront, LoadBack, LoadRing, Read, ReloadRing, Exchange}
use Rattle.parts.specs.declared.answer.Answer.TheVariants.{Stolen}
use Rattle.parts.specs.Out.{with_front}
use Rattle.parts.specs.declared.out.StepOut.{StepOut}
use Rattle.parts.specs.declared.out.StepOut.TheVariants.{Going, Ended}

abbrev pub steal_of : StealStage → Queue → List ℕ → StepOut StealStage
steal_of LoadFront q cells = Going q (LoadBack q.front)
steal_of (LoadBack f) q cells = pick (empty_b q.back f) (Ended q (Stolen Empty)) (Going q (LoadRing f))
steal_of (LoadRing f) q cells = Going q (Read f q.ring)
steal_of (Read f ring) q cells = Going q (ReloadRing f ring (read_of cells ring f))
steal_of (ReloadRing f ring job) q cells =
    pick (q.ring.number.0 == ring.number.0) (Going q (Exchange f ring job)) (Ended q (Stolen Retry))
steal_of (Exchange f ring job) q cells =
    pick (same_b q.front f) (Ended (with_front q (plus_of f 1)) (Stolen (Success job))) (Ended q (Stolen Retry))
