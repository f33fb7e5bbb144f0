-- FIFO source: for each of n, read source cell, write own cell. Load ring (changed: Retry). Compare-exchange f to f + n (lost: Retry).
-- Batch and pop: as batch from f + 1, compare-exchange to f + n + 1.
use Rattle.std.specs.Prelude.{ℕ, List, ◌==◌}
use Rattle.base.specs.Tests.{pick}
use Rattle.index.specs.Index.{same_b, plus_of}
use Rattle.cells.specs.Cells.{read_of}
use Rattle.steal.specs.declared.Steal.TheVariants.{Retry}
use Rattle.parts.specs.declared.queue.Queue.{Queue}
use Rattle.parts.specs.declared.stage.Haul.{Haul}
use Rattle.parts.specs.declared.stage.AllStage.{AllStage}
use Rattle.parts.specs.declared.stage.AllStage.TheVariants.{Copy, ReloadRing, Exchange}
use Rattle.parts.specs.declared.stage.TakeStage.TheVariants.{All}
use Rattle.parts.specs.declared.stage.PutStage.TheVariants.{WriteCopy, StoreBack}
use Rattle.parts.specs.declared.answer.Answer.TheVariants.{Stolen}
use Rattle.parts.specs.Out.{with_front}
use Rattle.parts.specs.declared.out.StepOut.{StepOut}
use Rattle.parts.specs.declared.stage.BatchStage.{BatchStage}
use Rattle.parts.specs.declared.out.StepOut.TheVariants.{Ended}
use Rattle.op_batch.specs.Haul.{take_at, put_at, first_of}

abbrev pub all_step_of : Haul → AllStage → Queue → List ℕ → StepOut BatchStage
all_step_of h (Copy i) q cells = put_at q h (WriteCopy i (read_of cells h.ring (plus_of (first_of h.in_hand h.f) i)))
all_step_of h ReloadRing q cells =
    pick (q.ring.number.0 == h.ring.number.0) (take_at q h (All Exchange)) (Ended q (Stolen Retry))
all_step_of h Exchange q cells =
    pick (same_b q.front h.f)
    (put_at (with_front q (plus_of (first_of h.in_hand h.f) h.n)) h StoreBack)
    (Ended q (Stolen Retry))
