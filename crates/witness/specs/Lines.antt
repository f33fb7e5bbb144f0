-- The lines of the step tables, one step each, from written states: what is read, written and compared, and both ways of every test. Cell i of the pool
-- holds job i, so that a job tells where it was read. The pops stand in Pops, the claim in Claims.
use Rattle.std.specs.Prelude.{◌≡◌, ℕ, zero, suc, ◌+◌, List, [], ◌∷◌, map, pos, negsuc, slice_set, refl, Option, None, Some}
use Rattle.std.specs.Int.Count.{ones, ones_in}
use Rattle.base.specs.Below.{all_below, any_below, first_not}
use Rattle.index.specs.declared.Index.{Index}
use Rattle.index.specs.Index.{wrap, plus_of, minus_of, difference_of, length_of, empty_b, full_b, spans_b, same_b, cell_of}
use Rattle.ring.specs.declared.Ring.{Ring}
use Rattle.ring.specs.Capacity.{allowed_b, twice_of, doubled, holding_of}
use Rattle.cells.specs.Cells.{stands_b, spot, read_of, written_of}
use Rattle.steal.specs.declared.Steal.TheVariants.{Empty, Success, Retry}
use Rattle.parts.specs.declared.queue.Flavor.{Flavor}
use Rattle.parts.specs.declared.queue.Flavor.TheVariants.{Fifo, Lifo}
use Rattle.parts.specs.declared.queue.Queue.{Queue}
use Rattle.parts.specs.declared.answer.Answer.{Answer}
use Rattle.parts.specs.declared.answer.Answer.TheVariants as B
use Rattle.parts.specs.declared.answer.Shortage.TheVariants.{TooLarge}
use Rattle.parts.specs.declared.stage.ResizeStage.{ResizeStage}
use Rattle.parts.specs.declared.stage.ResizeStage.TheVariants as Z
use Rattle.parts.specs.declared.stage.PushStage.{PushStage}
use Rattle.parts.specs.declared.stage.PushStage.TheVariants as U
use Rattle.parts.specs.declared.stage.PopStage.TheVariants as P
use Rattle.parts.specs.declared.stage.Popper.TheVariants as M
use Rattle.parts.specs.declared.stage.StealStage.{StealStage}
use Rattle.parts.specs.declared.stage.StealStage.TheVariants as T
use Rattle.parts.specs.declared.stage.LengthStage.TheVariants as N
use Rattle.parts.specs.declared.stage.BatchKind.{BatchKind}
use Rattle.parts.specs.declared.stage.BatchKind.TheVariants as K
use Rattle.parts.specs.declared.stage.Wanted.{Wanted}
use Rattle.parts.specs.declared.stage.Haul.{Haul}
use Rattle.parts.specs.declared.stage.AllStage.{AllStage}
use Rattle.parts.specs.declared.stage.AllStage.TheVariants as A
use Rattle.parts.specs.declared.stage.OneStage.{OneStage}
use Rattle.parts.specs.declared.stage.OneStage.TheVariants as E
use Rattle.parts.specs.declared.stage.TakeStage.TheVariants as X
use Rattle.parts.specs.declared.stage.SwapStage.TheVariants as Q
use Rattle.parts.specs.declared.stage.PutStage.{PutStage}
use Rattle.parts.specs.declared.stage.PutStage.TheVariants as W
use Rattle.parts.specs.declared.stage.ReserveStage.{ReserveStage}
use Rattle.parts.specs.declared.stage.ReserveStage.TheVariants as Y
use Rattle.parts.specs.declared.stage.SourceStage.TheVariants as S
use Rattle.parts.specs.declared.stage.OwnStage.TheVariants as O
use Rattle.parts.specs.declared.stage.Stage.{Stage}
use Rattle.parts.specs.declared.stage.Stage.TheVariants.{Idle, Push, Pop, Steal, Length, OwnBatch, BatchSource, BatchOwn}
use Rattle.machine.specs.declared.state.Machine.{Machine}
use Rattle.machine.specs.State.{After, after, with_queue, with_stage}
use Rattle.machine.specs.Sound.{sound_b}
use Rattle.machine.specs.Claim.{free_ring}
use Rattle.machine.specs.Setup.{fresh_machine}
use Rattle.machine.specs.Step.{gate_of, step_of}

-- n numbers from i on: a pool's cells tell where they lie
unfoldable pub from : ℕ → ℕ → List ℕ
from i zero = []
from i (suc n) = i ∷ from (i + 1) n

-- ---- a line: the thread's own queue, another queue, the stage; and what a step leaves of them, its answer, and the pool

pub record Line : Type 0 where
  pub own : Queue
  pub other : Queue
  pub stage : Stage
  pub own_after : Queue
  pub other_after : Queue
  pub next : Stage
  pub answer : Answer
  pub cells : List ℕ

-- three places
abbrev pub pool : List ℕ
pool = from 0 768

abbrev machine : Queue → Queue → Stage → Machine
machine own other s = with_stage (with_queue (with_queue (fresh_machine 2 [] 3) 0 own) 1 other) 0 s

abbrev pub stepped : Line → After
stepped l = step_of (machine l.own l.other l.stage) pool 0

abbrev pub left : Line → After
left l = after (machine l.own_after l.other_after l.next) l.answer l.cells

abbrev pub line : Queue → Queue → Stage → Queue → Queue → Stage → Answer → List ℕ → Line
line q o s q' o' s' a c = record {
  own = q;
  other = o;
  stage = s;
  own_after = q';
  other_after = o';
  next = s';
  answer = a;
  cells = c;
}

-- on to a stage, and nothing shared changes; or a cell is written; or the own queue changes; or the other
abbrev pub goes : Queue → Queue → Stage → Stage → Line
goes q o s s' = line q o s q o s' B.Working pool

abbrev pub writes : Queue → Queue → Stage → ℕ → ℕ → Stage → Line
writes q o s at job s' = line q o s q o s' B.Working (slice_set pool at job)

abbrev pub takes : Queue → Queue → Stage → Queue → Stage → Line
takes q o s o' s' = line q o s q o' s' B.Working pool

-- ended with an answer, and nothing shared changes
abbrev pub ends : Queue → Queue → Stage → Answer → Line
ends q o s a = line q o s q o Idle a pool

-- ---- queues: the own one in place 0, the other in place 1; place 2 is free

abbrev pub at : ℕ → Index
at n = record { 0 = pos n }

abbrev pub ring : ℕ → ℕ → ℕ → Ring
ring number place capacity = record { number = record { 0 = number }; place = record { 0 = place }; capacity = capacity }

abbrev pub queue : Flavor → ℕ → ℕ → Ring → Queue
queue fl f b r = record { flavor = fl; front = at f; back = at b; ring = r }

-- by flavour, front and back
abbrev pub own : Flavor → ℕ → ℕ → Queue
own fl f b = queue fl f b (ring 0 0 64)

abbrev pub other : Flavor → ℕ → ℕ → Queue
other fl f b = queue fl f b (ring 1 1 64)

-- where they are not in question
abbrev pub q : Queue
q = own Fifo 3 5

abbrev pub o : Queue
o = other Fifo 3 5

-- ---- push, job 900

abbrev push : PushStage → Stage
push s = Push 900 s

abbrev growing : ResizeStage → Stage
growing z = Push 900 (U.Resize (at 66) z)

abbrev pub pushes : List Line
pushes =
    -- load back b
    goes q o (push U.LoadBack) (push (U.LoadFront (at 5))) ∷
    -- load front f: if b - f >= capacity, grow to twice
    goes q o (push (U.LoadFront (at 5))) (push (U.Write (at 5))) ∷
    goes (own Fifo 2 65) o (push (U.LoadFront (at 65))) (push (U.Write (at 65))) ∷
    goes (own Fifo 2 66) o (push (U.LoadFront (at 66))) (growing (Z.LoadBack 128)) ∷
    goes (queue Lifo 0 128 (ring 0 0 128)) o (push (U.LoadFront (at 128))) (push (U.Resize (at 128) (Z.LoadBack 256))) ∷
    -- above 256: answer 8
    ends (queue Lifo 0 256 (ring 0 0 256)) o (push (U.LoadFront (at 256))) (B.GaveUp TooLarge) ∷
    -- write cell b, modulo capacity
    writes q o (push (U.Write (at 5))) 5 900 (push (U.StoreBack (at 5))) ∷
    writes (own Fifo 3 66) o (push (U.Write (at 66))) 2 900 (push (U.StoreBack (at 66))) ∷
    writes (queue Fifo 3 66 (ring 0 2 128)) o (push (U.Write (at 66))) 578 900 (push (U.StoreBack (at 66))) ∷
    -- store back b + 1; done
    line q o (push (U.StoreBack (at 5))) (own Fifo 3 6) o Idle B.Done pool ∷
    -- resize: load back
    goes (own Fifo 2 66) o (growing (Z.LoadBack 128)) (growing (Z.LoadFront 128 (at 66))) ∷
    -- copy cells from front on, until the next index equals the back just loaded
    writes (own Fifo 2 66) o (growing (Z.Copy (at 66) (at 2) (ring 9 2 128))) 514 2 (growing (Z.Copy (at 66) (at 3) (ring 9 2 128))) ∷
    writes (own Fifo 2 66) o (growing (Z.Copy (at 66) (at 65) (ring 9 2 128))) 577 1 (growing (Z.Swap (ring 9 2 128))) ∷
    -- swap the current ring; then write cell b, answer the job, or load own back
    line (own Fifo 2 66) o (growing (Z.Swap (ring 9 2 128))) (queue Fifo 2 66 (ring 9 2 128)) o (push (U.Write (at 66))) B.Working pool ∷
    line q o (Pop M.Pop (P.Shrink 7 (Z.Swap (ring 9 2 64)))) (queue Fifo 3 5 (ring 9 2 64)) o Idle (B.Job 7) pool ∷
    line q o (Pop M.BatchAndPop (P.Shrink 7 (Z.Swap (ring 9 2 64)))) (queue Fifo 3 5 (ring 9 2 64)) o Idle (B.Stolen (Success 7)) pool ∷
    []

pub all_pushes : map stepped pushes ≡ map left pushes
unfolding from step_of gate_of sound_b free_ring all_below any_below first_not allowed_b twice_of ones ones_in spans_b full_b same_b plus_of difference_of wrap cell_of stands_b spot read_of written_of
all_pushes = refl

-- ---- steal from the other queue, and its length

abbrev steal : StealStage → Stage
steal s = Steal 1 s

-- a ring that the other queue has, and two that it has no more: the place of the second is in use again
abbrev pub new : Ring
new = ring 1 1 64

abbrev old : Ring
old = ring 7 2 64

abbrev again : Ring
again = ring 7 1 64

abbrev pub steals : List Line
steals =
    goes q o (steal T.LoadFront) (steal (T.LoadBack (at 3))) ∷
    -- difference <= 0: Empty
    ends q o (steal (T.LoadBack (at 5))) (B.Stolen Empty) ∷
    ends q o (steal (T.LoadBack (at 6))) (B.Stolen Empty) ∷
    goes q o (steal (T.LoadBack (at 4))) (steal (T.LoadRing (at 4))) ∷
    -- load ring, and hold it
    goes q o (steal (T.LoadRing (at 3))) (steal (T.Read (at 3) new)) ∷
    -- read cell f, of the ring that is held
    goes q o (steal (T.Read (at 3) new)) (steal (T.ReloadRing (at 3) new 259)) ∷
    goes q o (steal (T.Read (at 3) old)) (steal (T.ReloadRing (at 3) old 515)) ∷
    -- load ring: another number: Retry
    goes q o (steal (T.ReloadRing (at 3) new 259)) (steal (T.Exchange (at 3) new 259)) ∷
    ends q o (steal (T.ReloadRing (at 3) old 515)) (B.Stolen Retry) ∷
    ends q o (steal (T.ReloadRing (at 3) again 259)) (B.Stolen Retry) ∷
    -- compare-exchange f to f + 1: lost: Retry. Success
    line q o (steal (T.Exchange (at 3) new 259)) q (other Fifo 4 5) Idle (B.Stolen (Success 259)) pool ∷
    ends q o (steal (T.Exchange (at 2) new 258)) (B.Stolen Retry) ∷
    ends q o (steal (T.Exchange (at 4) new 260)) (B.Stolen Retry) ∷
    -- length: load back, load front; the signed difference and the length
    goes q o (Length 1 N.LoadBack) (Length 1 (N.LoadFront (at 5))) ∷
    ends q o (Length 1 (N.LoadFront (at 5))) (B.Length (pos 2) 2) ∷
    ends q o (Length 1 (N.LoadFront (at 2))) (B.Length (negsuc 0) 0) ∷
    ends q o (Length 1 (N.LoadFront (at 303))) (B.Length (pos 300) 300) ∷
    -- a batch from the own queue: load back, load front; Empty or Success
    goes q o (OwnBatch N.LoadBack) (OwnBatch (N.LoadFront (at 5))) ∷
    ends q o (OwnBatch (N.LoadFront (at 4))) B.Moved ∷
    ends q o (OwnBatch (N.LoadFront (at 3))) (B.Stolen Empty) ∷
    ends q o (OwnBatch (N.LoadFront (at 2))) (B.Stolen Empty) ∷
    []

pub all_steals : map stepped steals ≡ map left steals
unfolding from step_of gate_of sound_b free_ring all_below any_below first_not allowed_b ones ones_in spans_b empty_b same_b plus_of difference_of length_of wrap cell_of stands_b spot read_of
all_steals = refl

-- ---- batch from the other queue, up to the hold

abbrev wanted : BatchKind → ℕ → Wanted
wanted k n = record { kind = k; f = at 3; n = n }

abbrev loads : BatchKind → ℕ → Stage
loads k others = BatchSource 1 (S.LoadBack k others (at 3))

abbrev reserve : ℕ → ReserveStage → Stage
reserve n s = BatchOwn 1 (O.Reserve (wanted K.Batch n) s)

abbrev ready : BatchKind → ℕ → Stage
ready k n = BatchOwn 1 (O.LoadBack (wanted k n))

-- with nothing in hand, or with a job
abbrev pub haul : ℕ → Option ℕ → Haul
haul n h = record { ring = new; f = at 3; n = n; b = at 5; in_hand = h }

abbrev hold : BatchKind → ℕ → Stage
hold k n = BatchSource 1 (S.LoadRing (wanted k n) (at 5))

abbrev pub all : Haul → AllStage → Stage
all h s = BatchSource 1 (S.Take h (X.All s))

abbrev pub one : Haul → OneStage → Stage
one h s = BatchSource 1 (S.Take h (X.One s))

abbrev pub put : Haul → PutStage → Stage
put h s = BatchOwn 1 (O.Put h s)

abbrev pub lifo : Queue
lifo = other Lifo 3 8

abbrev pub until_held : List Line
until_held =
    goes q o (BatchSource 1 (S.LoadFront K.Batch 9)) (BatchSource 1 (S.LoadBack K.Batch 9 (at 3))) ∷
    -- difference d <= 0: Empty
    ends q (other Fifo 3 3) (loads K.Batch 9) (B.Stolen Empty) ∷
    ends q (other Lifo 3 2) (loads K.BatchAndPop 9) (B.Stolen Empty) ∷
    -- n = min((d + 1) / 2, limit), of differences 1, 5, 6 and limits 10, 2, 1
    goes q (other Fifo 3 4) (loads K.Batch 9) (reserve 1 Y.LoadBack) ∷
    goes q (other Fifo 3 8) (loads K.Batch 9) (reserve 3 Y.LoadBack) ∷
    goes q (other Fifo 3 9) (loads K.Batch 9) (reserve 3 Y.LoadBack) ∷
    goes q (other Fifo 3 8) (loads K.Batch 1) (reserve 2 Y.LoadBack) ∷
    goes q (other Fifo 3 8) (loads K.Batch 0) (reserve 1 Y.LoadBack) ∷
    -- batch and pop: n = min((d - 1) / 2, limit - 1); with n = 0 reserve takes no step
    goes q (other Fifo 3 4) (loads K.BatchAndPop 9) (ready K.BatchAndPop 0) ∷
    goes q (other Fifo 3 8) (loads K.BatchAndPop 9) (BatchOwn 1 (O.Reserve (wanted K.BatchAndPop 2) Y.LoadBack)) ∷
    goes q (other Fifo 3 9) (loads K.BatchAndPop 9) (BatchOwn 1 (O.Reserve (wanted K.BatchAndPop 2) Y.LoadBack)) ∷
    goes q (other Fifo 3 8) (loads K.BatchAndPop 1) (BatchOwn 1 (O.Reserve (wanted K.BatchAndPop 1) Y.LoadBack)) ∷
    goes q (other Fifo 3 8) (loads K.BatchAndPop 0) (ready K.BatchAndPop 0) ∷
    -- reserve n: load back, load front; capacity less length is below n: the smallest capacity that holds length + n
    goes q o (reserve 3 Y.LoadBack) (reserve 3 (Y.LoadFront (at 5))) ∷
    goes q o (reserve 62 (Y.LoadFront (at 5))) (ready K.Batch 62) ∷
    goes q o (reserve 63 (Y.LoadFront (at 5))) (reserve 63 (Y.Resize (Z.LoadBack 128))) ∷
    goes q o (reserve 126 (Y.LoadFront (at 5))) (reserve 126 (Y.Resize (Z.LoadBack 128))) ∷
    goes q o (reserve 127 (Y.LoadFront (at 5))) (reserve 127 (Y.Resize (Z.LoadBack 256))) ∷
    goes q o (reserve 254 (Y.LoadFront (at 5))) (reserve 254 (Y.Resize (Z.LoadBack 256))) ∷
    -- a length below zero is 0
    goes q o (reserve 64 (Y.LoadFront (at 2))) (ready K.Batch 64) ∷
    -- above 256: answer 8
    ends q o (reserve 255 (Y.LoadFront (at 5))) (B.GaveUp TooLarge) ∷
    -- its resize is the push's; then load own back
    line q o (reserve 63 (Y.Resize (Z.Swap (ring 9 2 128)))) (queue Fifo 3 5 (ring 9 2 128)) o (ready K.Batch 63) B.Working pool ∷
    -- load own back; load source ring and hold
    goes q o (ready K.Batch 3) (hold K.Batch 3) ∷
    goes q o (hold K.Batch 3) (all (haul 3 None) (A.Copy 0)) ∷
    goes q lifo (hold K.Batch 3) (one (haul 3 None) (E.Read 0)) ∷
    goes q o (hold K.BatchAndPop 3) (BatchSource 1 (S.Take (haul 3 None) X.ReadFirst)) ∷
    goes q lifo (hold K.BatchAndPop 3) (BatchSource 1 (S.Take (haul 3 None) X.ReadFirst)) ∷
    []

pub all_until_held : map stepped until_held ≡ map left until_held
unfolding from step_of gate_of sound_b free_ring all_below any_below first_not allowed_b doubled holding_of ones ones_in spans_b empty_b difference_of length_of wrap
all_until_held = refl

-- ---- FIFO source, all at once

abbrev pub into : Queue
into = own Lifo 3 5

abbrev first : Option ℕ
first = Some 259

-- the held ring is one that the other queue has no more
abbrev stale : Option ℕ → Haul
stale h = record { ring = old; f = at 3; n = 3; b = at 5; in_hand = h }

abbrev stale_again : Option ℕ → Haul
stale_again h = record { ring = again; f = at 3; n = 3; b = at 5; in_hand = h }

-- the front that was loaded is another's
abbrev late : Option ℕ → Haul
late h = record { ring = new; f = at 2; n = 3; b = at 5; in_hand = h }

abbrev pub from_fifo : List Line
from_fifo =
    -- batch and pop: read cell f
    goes q o (BatchSource 1 (S.Take (haul 3 None) X.ReadFirst)) (all (haul 3 first) (A.Copy 0)) ∷
    goes q o (BatchSource 1 (S.Take (haul 0 None) X.ReadFirst)) (all (haul 0 first) A.ReloadRing) ∷
    -- for each of n, read source cell, from f on, or from f + 1
    goes q o (all (haul 3 None) (A.Copy 2)) (put (haul 3 None) (W.WriteCopy 2 261)) ∷
    goes q o (all (haul 3 first) (A.Copy 2)) (put (haul 3 first) (W.WriteCopy 2 262)) ∷
    goes q o (all (stale None) (A.Copy 0)) (put (stale None) (W.WriteCopy 0 515)) ∷
    -- write own cell; into LIFO: last first
    writes q o (put (haul 3 None) (W.WriteCopy 0 900)) 5 900 (all (haul 3 None) (A.Copy 1)) ∷
    writes q o (put (haul 3 None) (W.WriteCopy 2 900)) 7 900 (all (haul 3 None) A.ReloadRing) ∷
    writes into o (put (haul 3 None) (W.WriteCopy 0 900)) 7 900 (all (haul 3 None) (A.Copy 1)) ∷
    writes into o (put (haul 3 None) (W.WriteCopy 2 900)) 5 900 (all (haul 3 None) A.ReloadRing) ∷
    -- load ring (changed: Retry)
    goes q o (all (haul 3 None) A.ReloadRing) (all (haul 3 None) A.Exchange) ∷
    ends q o (all (stale None) A.ReloadRing) (B.Stolen Retry) ∷
    ends q o (all (stale first) A.ReloadRing) (B.Stolen Retry) ∷
    ends q o (all (stale_again None) A.ReloadRing) (B.Stolen Retry) ∷
    -- compare-exchange f to f + n, or to f + n + 1 (lost: Retry)
    takes q (other Fifo 3 8) (all (haul 3 None) A.Exchange) (other Fifo 6 8) (put (haul 3 None) W.StoreBack) ∷
    takes q (other Fifo 3 8) (all (haul 3 first) A.Exchange) (other Fifo 7 8) (put (haul 3 first) W.StoreBack) ∷
    ends q o (all (late None) A.Exchange) (B.Stolen Retry) ∷
    ends q o (all (late first) A.Exchange) (B.Stolen Retry) ∷
    -- store own back; Success, or the first
    line q o (put (haul 3 None) W.StoreBack) (own Fifo 3 8) o Idle B.Moved pool ∷
    line q o (put (haul 3 first) W.StoreBack) (own Fifo 3 8) o Idle (B.Stolen (Success 259)) pool ∷
    []

pub all_from_fifo : map stepped from_fifo ≡ map left from_fifo
unfolding from step_of gate_of sound_b free_ring all_below any_below first_not allowed_b ones ones_in spans_b same_b plus_of minus_of difference_of wrap cell_of stands_b spot read_of written_of
all_from_fifo = refl

-- ---- LIFO source, one by one

-- n jobs from this front on
abbrev from_front : ℕ → ℕ → Option ℕ → Haul
from_front f n h = record { ring = new; f = at f; n = n; b = at 5; in_hand = h }

-- stopped with i written; the stale and the late one too
abbrev stopped : ℕ → Option ℕ → Haul
stopped i h = from_front 3 i h

abbrev stale_with : ℕ → Option ℕ → Haul
stale_with i h = record { ring = old; f = at 3; n = i; b = at 5; in_hand = h }

abbrev late_with : ℕ → Option ℕ → Haul
late_with i h = record { ring = new; f = at 2; n = i; b = at 5; in_hand = h }

abbrev pub reversing : PutStage
reversing = W.Swap 0 Q.ReadNear

abbrev pub from_lifo : List Line
from_lifo =
    -- batch and pop: read cell f; compare-exchange f to f + 1 at once (lost: Retry)
    goes q lifo (BatchSource 1 (S.Take (haul 3 None) X.ReadFirst)) (one (haul 3 None) (E.ExchangeFirst 259)) ∷
    takes q lifo (one (haul 3 None) (E.ExchangeFirst 259)) (other Lifo 4 8) (one (from_front 4 3 first) (E.ReloadBack 0)) ∷
    takes q lifo (one (haul 0 None) (E.ExchangeFirst 259)) (other Lifo 4 8) (put (from_front 4 0 first) W.StoreBack) ∷
    ends q lifo (one (late None) (E.ExchangeFirst 258)) (B.Stolen Retry) ∷
    -- load back, and stop if its difference to f <= 0; into FIFO: reverse what was written
    goes q (other Lifo 3 4) (one (haul 3 None) (E.ReloadBack 2)) (one (haul 3 None) (E.Read 2)) ∷
    goes q (other Lifo 3 3) (one (haul 3 None) (E.ReloadBack 2)) (put (stopped 2 None) reversing) ∷
    goes q (other Lifo 3 2) (one (haul 3 None) (E.ReloadBack 2)) (put (stopped 2 None) reversing) ∷
    goes q (other Lifo 3 3) (one (haul 3 None) (E.ReloadBack 1)) (put (stopped 1 None) W.StoreBack) ∷
    goes into (other Lifo 3 3) (one (haul 3 None) (E.ReloadBack 2)) (put (stopped 2 None) W.StoreBack) ∷
    goes q (other Lifo 3 3) (one (haul 3 first) (E.ReloadBack 0)) (put (stopped 0 first) W.StoreBack) ∷
    -- read cell f
    goes q lifo (one (haul 3 None) (E.Read 2)) (one (haul 3 None) (E.ReloadRing 2 259)) ∷
    goes q lifo (one (stale None) (E.Read 2)) (one (stale None) (E.ReloadRing 2 515)) ∷
    -- load ring (changed: stop). None taken: Retry
    goes q lifo (one (haul 3 None) (E.ReloadRing 2 259)) (one (haul 3 None) (E.Exchange 2 259)) ∷
    goes q lifo (one (stale None) (E.ReloadRing 2 515)) (put (stale_with 2 None) reversing) ∷
    ends q lifo (one (stale None) (E.ReloadRing 0 515)) (B.Stolen Retry) ∷
    ends q lifo (one (stale_again None) (E.ReloadRing 0 259)) (B.Stolen Retry) ∷
    goes q lifo (one (stale first) (E.ReloadRing 0 515)) (put (stale_with 0 first) W.StoreBack) ∷
    -- compare-exchange f to f + 1 (lost: stop); f goes up
    takes q lifo (one (haul 3 None) (E.Exchange 2 700)) (other Lifo 4 8) (put (from_front 4 3 None) (W.WriteOne 2 700)) ∷
    goes into lifo (one (late None) (E.Exchange 2 700)) (put (late_with 2 None) W.StoreBack) ∷
    ends q lifo (one (late None) (E.Exchange 0 700)) (B.Stolen Retry) ∷
    goes q lifo (one (late first) (E.Exchange 0 700)) (put (late_with 0 first) W.StoreBack) ∷
    -- of a batch and pop: write the PREVIOUS job, and the one just taken is in hand
    takes q lifo (one (haul 3 first) (E.Exchange 2 700)) (other Lifo 4 8) (put (from_front 4 3 (Some 700)) (W.WriteOne 2 259)) ∷
    -- write own cell; the next, or after n reverse
    writes q lifo (put (haul 3 None) (W.WriteOne 1 700)) 6 700 (one (haul 3 None) (E.ReloadBack 2)) ∷
    writes q lifo (put (haul 3 None) (W.WriteOne 2 700)) 7 700 (put (haul 3 None) reversing) ∷
    writes into lifo (put (haul 3 None) (W.WriteOne 2 700)) 7 700 (put (haul 3 None) W.StoreBack) ∷
    -- a swap: read the nearer, read the other, write the nearer, write the other
    goes q lifo (put (haul 3 None) (W.Swap 0 Q.ReadNear)) (put (haul 3 None) (W.Swap 0 (Q.ReadFar 5))) ∷
    goes q lifo (put (haul 3 None) (W.Swap 0 (Q.ReadFar 5))) (put (haul 3 None) (W.Swap 0 (Q.WriteNear 5 7))) ∷
    writes q lifo (put (haul 3 None) (W.Swap 0 (Q.WriteNear 5 7))) 5 7 (put (haul 3 None) (W.Swap 0 (Q.WriteFar 5))) ∷
    writes q lifo (put (haul 3 None) (W.Swap 0 (Q.WriteFar 5))) 7 5 (put (haul 3 None) W.StoreBack) ∷
    writes q lifo (put (haul 4 None) (W.Swap 0 (Q.WriteFar 5))) 8 5 (put (haul 4 None) (W.Swap 1 Q.ReadNear)) ∷
    writes q lifo (put (haul 4 None) (W.Swap 1 (Q.WriteFar 6))) 7 6 (put (haul 4 None) W.StoreBack) ∷
    -- answer the last job taken
    line q lifo (put (haul 2 (Some 700)) W.StoreBack) (own Fifo 3 7) lifo Idle (B.Stolen (Success 700)) pool ∷
    []

pub all_from_lifo : map stepped from_lifo ≡ map left from_lifo
unfolding from step_of gate_of sound_b free_ring all_below any_below first_not allowed_b ones ones_in spans_b empty_b same_b plus_of minus_of difference_of wrap cell_of stands_b spot read_of written_of
all_from_lifo = refl
