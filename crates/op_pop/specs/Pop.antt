-- Pop, by the queue's flavour, and the shrinking after it.
use Rattle.std.specs.Prelude.{ℕ, List}
use Rattle.parts.specs.declared.queue.Queue.{Queue}
use Rattle.parts.specs.declared.stage.PopStage.{PopStage}
use Rattle.parts.specs.declared.stage.PopStage.TheVariants.{Fifo, Lifo, Shrink}
use Rattle.parts.specs.declared.stage.Popper.{Popper}
use Rattle.parts.specs.declared.out.StepOut.{StepOut}
use Rattle.op_shrink.specs.Shrink.{shrink_of}
use Rattle.op_pop_fifo.specs.FifoPop.{fifo_pop_of}
use Rattle.op_pop_lifo.specs.LifoPop.{lifo_pop_of}
use Rattle.parts.specs.Out.{Claim}

abbrev pub pop_of : Popper → PopStage → Queue → Claim → List ℕ → StepOut PopStage × List ℕ
pop_of w (Fifo at) q g cells = (fifo_pop_of w at q cells, cells)
pop_of w (Lifo at) q g cells = (lifo_pop_of w at q cells, cells)
pop_of w (Shrink job at) q g cells = shrink_of w job at q g cells
