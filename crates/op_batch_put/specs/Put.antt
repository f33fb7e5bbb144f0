-- What a batch took is put into the own queue: write own cells; into FIFO, reverse; store own back.
use Rattle.std.specs.Prelude.{ℕ, ◌+◌, List}
use Rattle.index.specs.Index.{plus_of}
use Rattle.cells.specs.Cells.{written_of}
use Rattle.parts.specs.declared.queue.Queue.{Queue}
use Rattle.parts.specs.declared.stage.Haul.{Haul}
use Rattle.parts.specs.declared.stage.PutStage.{PutStage}
use Rattle.parts.specs.declared.stage.PutStage.TheVariants.{WriteCopy, WriteOne, Swap, StoreBack}
use Rattle.parts.specs.Out.{with_back}
use Rattle.parts.specs.declared.out.StepOut.{StepOut}
use Rattle.parts.specs.declared.stage.BatchStage.{BatchStage}
use Rattle.parts.specs.declared.out.StepOut.TheVariants.{Ended}
use Rattle.op_batch.specs.Haul.{take_at, put_at, turn_of, copying, slot_of, turning, written_after, answer_of}
use Rattle.op_batch_put.specs.Swap.{swap_of}

-- with the pool's cells
abbrev pub put_of : Haul → PutStage → Queue → List ℕ → StepOut BatchStage × List ℕ
put_of h (WriteCopy i job) q cells =
    (take_at q h (copying (turn_of h.n (i + 1))), written_of cells q.ring (slot_of q.flavor h i) job)
put_of h (WriteOne i job) q cells =
    (turning q.flavor h (written_after i) q, written_of cells q.ring (plus_of h.b i) job)
put_of h (Swap x at) q cells = (put_at q h (swap_of h x at q cells).0, (swap_of h x at q cells).1)
put_of h StoreBack q cells = (Ended (with_back q (plus_of h.b h.n)) (answer_of h.in_hand), cells)
