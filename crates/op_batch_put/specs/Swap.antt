-- Into FIFO: reverse what was written by swaps from the outside in, each two reads, then two writes, the cell nearer the front first.
use Rattle.std.specs.Prelude.{ℕ, ◌+◌, ◌/◌, List}
use Rattle.index.specs.declared.Index.{Index}
use Rattle.index.specs.Index.{plus_of}
use Rattle.cells.specs.Cells.{read_of, written_of}
use Rattle.parts.specs.declared.queue.Queue.{Queue}
use Rattle.parts.specs.declared.stage.Haul.{Haul}
use Rattle.parts.specs.declared.stage.PutStage.{PutStage}
use Rattle.parts.specs.declared.stage.PutStage.TheVariants.{Swap}
use Rattle.parts.specs.declared.stage.SwapStage.{SwapStage}
use Rattle.parts.specs.declared.stage.SwapStage.TheVariants.{ReadNear, ReadFar, WriteNear, WriteFar}
use Rattle.op_batch.specs.Haul.{turn_of, mirror_of, swapping}

-- the cell nearer the front, when x swaps are made; the other is its mirror image
abbrev pub near_of : Haul → ℕ → Index
near_of h x = plus_of h.b x

-- with the pool's cells; the queue stays as it is
abbrev pub swap_of : Haul → ℕ → SwapStage → Queue → List ℕ → PutStage × List ℕ
swap_of h x ReadNear q cells = (Swap x (ReadFar (read_of cells q.ring (near_of h x))), cells)
swap_of h x (ReadFar near) q cells = (Swap x (WriteNear near (read_of cells q.ring (mirror_of h x))), cells)
swap_of h x (WriteNear near far) q cells = (Swap x (WriteFar near), written_of cells q.ring (near_of h x) far)
swap_of h x (WriteFar near) q cells = (swapping (turn_of (h.n / 2) (x + 1)), written_of cells q.ring (mirror_of h x) near)
