-- The lines of the two pops, one step each, as in Lines; and sound states that no session reaches, each with what its step does.
use Rattle.std.specs.Prelude.{◌≡◌, ℕ, ◌-◌, ◌^◌, List, [], ◌∷◌, map, refl, None}
use Rattle.std.specs.Int.Count.{ones, ones_in}
use Rattle.base.specs.Below.{all_below, any_below, first_not}
use Rattle.index.specs.Index.{wrap, plus_of, minus_of, difference_of, length_of, behind_b, empty_b, spans_b, same_b, cell_of}
use Rattle.ring.specs.Capacity.{allowed_b}
use Rattle.cells.specs.Cells.{stands_b, spot, read_of, written_of}
use Rattle.steal.specs.declared.Steal.TheVariants.{Empty, Success}
use Rattle.parts.specs.declared.queue.Flavor.{Flavor}
use Rattle.parts.specs.declared.queue.Flavor.TheVariants.{Fifo, Lifo}
use Rattle.parts.specs.declared.queue.Queue.{Queue}
use Rattle.parts.specs.declared.answer.Answer.{Answer}
use Rattle.parts.specs.declared.answer.Answer.TheVariants as B
use Rattle.parts.specs.declared.stage.ResizeStage.TheVariants as Z
use Rattle.parts.specs.declared.stage.FifoPopStage.{FifoPopStage}
use Rattle.parts.specs.declared.stage.FifoPopStage.TheVariants as D
use Rattle.parts.specs.declared.stage.LifoPopStage.{LifoPopStage}
use Rattle.parts.specs.declared.stage.LifoPopStage.TheVariants as L
use Rattle.parts.specs.declared.stage.PopStage.TheVariants as P
use Rattle.parts.specs.declared.stage.Popper.TheVariants as M
use Rattle.parts.specs.declared.stage.Haul.{Haul}
use Rattle.parts.specs.declared.stage.AllStage.TheVariants as A
use Rattle.parts.specs.declared.stage.SwapStage.TheVariants as Q
use Rattle.parts.specs.declared.stage.PutStage.TheVariants as W
use Rattle.parts.specs.declared.stage.Stage.{Stage}
use Rattle.parts.specs.declared.stage.Stage.TheVariants.{Idle, Pop}
use Rattle.machine.specs.Sound.{sound_b}
use Rattle.machine.specs.Claim.{free_ring}
use Rattle.machine.specs.Step.{gate_of, step_of}
use Rattle.witness.specs.Lines.{from, Line, pool, stepped, left, line, goes, writes, ends, at, ring, queue, own, q, o, new, haul, all, put, lifo, into, reversing}

abbrev fifo : FifoPopStage → Stage
fifo s = Pop M.Pop (P.Fifo s)

abbrev lifo_at : LifoPopStage → Stage
lifo_at s = Pop M.Pop (P.Lifo s)

-- the own queue in a ring of 128 cells
abbrev wide : Flavor → ℕ → ℕ → Queue
wide fl f b = queue fl f b (ring 0 0 128)

-- the own queue changes; the operation goes on, or ends
abbrev turns : Queue → Stage → Queue → Stage → Line
turns a s b t = line a o s b o t B.Working pool

abbrev closes : Queue → Stage → Queue → Answer → Line
closes a s b r = line a o s b o Idle r pool

abbrev shrinks : ℕ → Stage
shrinks job = Pop M.Pop (P.Shrink job (Z.LoadBack 64))

abbrev pub fifo_pops : List Line
fifo_pops =
    goes q o (fifo D.LoadBack) (fifo (D.LoadFront (at 5))) ∷
    -- b - f <= 0: nothing; of a batch and pop Empty. Otherwise the difference less one is remembered
    goes q o (fifo (D.LoadFront (at 5))) (fifo (D.FetchAdd (at 5) 1)) ∷
    goes q o (fifo (D.LoadFront (at 4))) (fifo (D.FetchAdd (at 4) 0)) ∷
    ends q o (fifo (D.LoadFront (at 3))) B.Nothing ∷
    ends q o (fifo (D.LoadFront (at 2))) B.Nothing ∷
    ends q o (Pop M.BatchAndPop (P.Fifo (D.LoadFront (at 3)))) (B.Stolen Empty) ∷
    -- fetch-and-add front, getting f; b - (f + 1) < 0: store front f; nothing
    turns q (fifo (D.FetchAdd (at 5) 1)) (own Fifo 4 5) (fifo (D.Read (at 3) 1)) ∷
    turns q (fifo (D.FetchAdd (at 4) 0)) (own Fifo 4 5) (fifo (D.Read (at 3) 0)) ∷
    turns q (fifo (D.FetchAdd (at 3) 0)) (own Fifo 4 5) (fifo (D.RestoreFront (at 3))) ∷
    closes (own Fifo 4 3) (fifo (D.RestoreFront (at 3))) (own Fifo 3 3) B.Nothing ∷
    -- read cell f; of a batch and pop as a steal answers
    ends q o (fifo (D.Read (at 3) 1)) (B.Job 3) ∷
    ends q o (Pop M.BatchAndPop (P.Fifo (D.Read (at 3) 1))) (B.Stolen (Success 3)) ∷
    -- capacity > 64 and the difference first seen <= capacity / 4: 32 and 33 of 128
    goes (wide Fifo 3 5) o (fifo (D.Read (at 3) 31)) (shrinks 3) ∷
    ends (wide Fifo 3 5) o (fifo (D.Read (at 3) 32)) (B.Job 3) ∷
    ends (own Fifo 3 5) o (fifo (D.Read (at 3) 0)) (B.Job 3) ∷
    []

pub all_fifo_pops : map stepped fifo_pops ≡ map left fifo_pops
unfolding from step_of gate_of sound_b free_ring all_below any_below first_not allowed_b ones ones_in spans_b behind_b empty_b same_b plus_of minus_of difference_of length_of wrap cell_of stands_b spot read_of written_of
all_fifo_pops = refl

abbrev pub lifo_pops : List Line
lifo_pops =
    goes into o (lifo_at L.LoadBack) (lifo_at (L.LoadFront (at 5))) ∷
    goes into o (lifo_at (L.LoadFront (at 4))) (lifo_at (L.StoreBack (at 4))) ∷
    ends into o (lifo_at (L.LoadFront (at 3))) B.Nothing ∷
    ends into o (lifo_at (L.LoadFront (at 2))) B.Nothing ∷
    -- store back b - 1
    turns into (lifo_at (L.StoreBack (at 5))) (own Lifo 3 4) (lifo_at (L.ReloadFront (at 5))) ∷
    -- load f; d = b - 1 - f: -1, 0, 1, 2
    goes (own Lifo 5 4) o (lifo_at (L.ReloadFront (at 5))) (lifo_at (L.RestoreBack (at 5))) ∷
    goes (own Lifo 4 4) o (lifo_at (L.ReloadFront (at 5))) (lifo_at (L.ReadLast (at 5))) ∷
    goes (own Lifo 3 4) o (lifo_at (L.ReloadFront (at 5))) (lifo_at (L.Read (at 5) 0)) ∷
    goes (own Lifo 2 4) o (lifo_at (L.ReloadFront (at 5))) (lifo_at (L.Read (at 5) 1)) ∷
    -- d < 0: store back b; nothing
    closes (own Lifo 5 4) (lifo_at (L.RestoreBack (at 5))) (own Lifo 5 5) B.Nothing ∷
    -- d = 0: read cell b - 1; compare-exchange front f to f + 1, where f is b - 1; store back b; the job if won, nothing if lost, and no shrink
    goes (own Lifo 4 4) o (lifo_at (L.ReadLast (at 5))) (lifo_at (L.Exchange (at 5) 4)) ∷
    turns (own Lifo 4 4) (lifo_at (L.Exchange (at 5) 700)) (own Lifo 5 4) (lifo_at (L.RestoreBackWon (at 5) 700)) ∷
    goes (own Lifo 5 4) o (lifo_at (L.Exchange (at 5) 700)) (lifo_at (L.RestoreBack (at 5))) ∷
    goes (own Lifo 3 4) o (lifo_at (L.Exchange (at 5) 700)) (lifo_at (L.RestoreBack (at 5))) ∷
    closes (wide Lifo 5 4) (lifo_at (L.RestoreBackWon (at 5) 700)) (wide Lifo 5 5) (B.Job 700) ∷
    -- d > 0: read cell b - 1; capacity > 64 and d < capacity / 4: 31 and 32 of 128
    ends (own Lifo 3 4) o (lifo_at (L.Read (at 5) 0)) (B.Job 4) ∷
    goes (wide Lifo 3 4) o (lifo_at (L.Read (at 5) 30)) (shrinks 4) ∷
    ends (wide Lifo 3 4) o (lifo_at (L.Read (at 5) 31)) (B.Job 4) ∷
    []

pub all_lifo_pops : map stepped lifo_pops ≡ map left lifo_pops
unfolding from step_of gate_of sound_b free_ring all_below any_below first_not allowed_b ones ones_in spans_b behind_b empty_b same_b plus_of minus_of difference_of length_of wrap cell_of stands_b spot read_of written_of
all_lifo_pops = refl

-- ---- sound states that no session reaches

-- a haul whose own back is 0
abbrev none_yet : Haul
none_yet = record { ring = new; f = at 3; n = 0; b = at 0; in_hand = None }

abbrev pub unreached : List Line
unreached =
    -- front and back 0: what a LIFO pop remembers is a difference of 1 or more, so this one is 1, and the last job's branch has no shrink
    goes (wide Lifo 0 0) o (lifo_at (L.Read (at 1) 0)) (shrinks 0) ∷
    goes (wide Lifo 0 0) o (lifo_at (L.ReadLast (at 1))) (lifo_at (L.Exchange (at 1) 0)) ∷
    -- the largest difference that can be remembered, 2^64, is not few
    ends (wide Lifo 0 0) o (lifo_at (L.Read (at 1) (2 ^ 64 - 1))) (B.Job 0) ∷
    ends (wide Fifo 0 0) o (fifo (D.Read (at 1) (2 ^ 64 - 1))) (B.Job 1) ∷
    -- a difference of -1 at a fetch-and-add leaves -2
    turns (own Fifo 4 3) (fifo (D.FetchAdd (at 3) 0)) (own Fifo 5 3) (fifo (D.RestoreFront (at 4))) ∷
    -- a copy more than n: into FIFO behind the others, into LIFO before them, own back + n - 1 - i
    writes q o (put (haul 3 None) (W.WriteCopy 3 900)) 8 900 (all (haul 3 None) A.ReloadRing) ∷
    writes into o (put (haul 3 None) (W.WriteCopy 3 900)) 4 900 (all (haul 3 None) A.ReloadRing) ∷
    -- an index before 0 lies in the last cell
    writes into o (put none_yet (W.WriteCopy 0 900)) 63 900 (all none_yet A.ReloadRing) ∷
    -- a swap that is not due: its far cell is own back + n - 1 - x
    goes q lifo (put (haul 3 None) (W.Swap 3 Q.ReadNear)) (put (haul 3 None) (W.Swap 3 (Q.ReadFar 8))) ∷
    goes q lifo (put (haul 3 None) (W.Swap 3 (Q.ReadFar 8))) (put (haul 3 None) (W.Swap 3 (Q.WriteNear 8 4))) ∷
    writes q lifo (put (haul 3 None) (W.Swap 3 (Q.WriteFar 8))) 4 8 (put (haul 3 None) W.StoreBack) ∷
    -- a job that is written when n are is one more, and the back that is stored shows it
    writes q lifo (put (haul 3 None) (W.WriteOne 3 700)) 8 700 (put (haul 4 None) reversing) ∷
    writes into lifo (put (haul 3 None) (W.WriteOne 3 700)) 8 700 (put (haul 4 None) W.StoreBack) ∷
    line into lifo (put (haul 4 None) W.StoreBack) (own Lifo 3 9) lifo Idle B.Moved pool ∷
    []

pub all_unreached : map stepped unreached ≡ map left unreached
unfolding from step_of gate_of sound_b free_ring all_below any_below first_not allowed_b ones ones_in spans_b behind_b empty_b same_b plus_of minus_of difference_of length_of wrap cell_of stands_b spot read_of written_of
all_unreached = refl
