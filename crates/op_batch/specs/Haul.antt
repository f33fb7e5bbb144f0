-- What both halves of a batch share: how many jobs it wants, which stage comes next, which cells it works on.
use Rattle.std.specs.Prelude.{ℕ, ◌+◌, ◌-◌, ◌/◌, ◌%◌, ◌^◌, min, Bool, true, false, ◌&&◌, ◌==◌, nat_le, Option, Some, None}
use Rattle.base.specs.Tests.{pick}
use Rattle.index.specs.declared.Index.{Index}
use Rattle.index.specs.Index.{plus_of, minus_of}
use Rattle.ring.specs.declared.Ring.{Ring}
use Rattle.steal.specs.declared.Steal.TheVariants.{Success, Retry}
use Rattle.parts.specs.declared.queue.Flavor.{Flavor}
use Rattle.parts.specs.declared.queue.Flavor.TheVariants.{Fifo, Lifo}
use Rattle.parts.specs.declared.queue.Queue.{Queue}
use Rattle.parts.specs.declared.stage.BatchKind.{BatchKind}
use Rattle.parts.specs.declared.stage.BatchKind.TheVariants.{Batch, BatchAndPop}
use Rattle.parts.specs.declared.stage.Wanted.{Wanted}
use Rattle.parts.specs.declared.stage.Haul.{Haul}
use Rattle.parts.specs.declared.stage.AllStage.TheVariants as A
use Rattle.parts.specs.declared.stage.OneStage.TheVariants as E
use Rattle.parts.specs.declared.stage.TakeStage.{TakeStage}
use Rattle.parts.specs.declared.stage.TakeStage.TheVariants.{All, One}
use Rattle.parts.specs.declared.stage.ReserveStage.{ReserveStage}
use Rattle.parts.specs.declared.stage.ReserveStage.TheVariants as Y
use Rattle.parts.specs.declared.stage.SwapStage.TheVariants as X
use Rattle.parts.specs.declared.stage.PutStage.{PutStage}
use Rattle.parts.specs.declared.stage.PutStage.TheVariants as W
use Rattle.parts.specs.declared.stage.SourceStage.TheVariants as S
use Rattle.parts.specs.declared.stage.OwnStage.{OwnStage}
use Rattle.parts.specs.declared.stage.OwnStage.TheVariants as O
use Rattle.parts.specs.declared.answer.Answer.{Answer}
use Rattle.parts.specs.declared.answer.Answer.TheVariants.{Stolen, Moved}
use Rattle.parts.specs.declared.out.StepOut.{StepOut}
use Rattle.parts.specs.declared.stage.BatchStage.{BatchStage}
use Rattle.parts.specs.declared.out.StepOut.TheVariants.{Going, Ended}
use Rattle.parts.specs.declared.stage.BatchStage.TheVariants.{Source, Own}

-- on to a stage of a part of the batch
abbrev pub take_at : Queue → Haul → TakeStage → StepOut BatchStage
take_at q h at = Going q (Source (S.Take h at))

abbrev pub put_at : Queue → Haul → PutStage → StepOut BatchStage
put_at q h at = Going q (Own (O.Put h at))

abbrev pub reserve_at : Queue → Wanted → ReserveStage → StepOut BatchStage
reserve_at q w at = Going q (Own (O.Reserve w at))

-- n, of a difference d and a limit, which is others + 1: n = min((d + 1) / 2, limit); of a batch and pop min((d - 1) / 2, limit - 1)
abbrev pub wanted_of : BatchKind → ℕ → ℕ → ℕ
wanted_of Batch d others = min ((d + 1) / 2) (others + 1)
wanted_of BatchAndPop d others = min ((d - 1) / 2) others

-- reserve n in the own queue, if n > 0
abbrev pub reserving : Wanted → OwnStage
reserving w = pick (w.n == 0) (O.LoadBack w) (O.Reserve w Y.LoadBack)

abbrev pub hauling : Ring → Wanted → Index → Haul
hauling ring w b = record { ring = ring; f = w.f; n = w.n; b = b; in_hand = None }

abbrev pub with_job : Haul → ℕ → Haul
with_job h job = record { ring = h.ring; f = h.f; n = h.n; b = h.b; in_hand = Some job }

-- an exchange was won: f goes up
abbrev pub onward : Haul → Option ℕ → Haul
onward h j = record { ring = h.ring; f = plus_of h.f 1; n = h.n; b = h.b; in_hand = j }

abbrev pub with_count : Haul → ℕ → Haul
with_count h i = record { ring = h.ring; f = h.f; n = i; b = h.b; in_hand = h.in_hand }

-- of n, i are done: the next, or none
abbrev pub turn_of : ℕ → ℕ → Option ℕ
turn_of n i = pick (nat_le n i) None (Some i)

-- ---- FIFO source: for each of n, read source cell, write own cell (into LIFO: last first)

-- the first of the n jobs: at f, or at f + 1 where the job at f is in hand
abbrev pub first_of : Option ℕ → Index → Index
first_of None f = f
first_of (Some job) f = plus_of f 1

-- copy the next, or load ring
abbrev pub copying : Option ℕ → TakeStage
copying (Some i) = All (A.Copy i)
copying None = All A.ReloadRing

-- the i-th of n from the other end: own back + n - 1 - i, which wraps
abbrev pub mirror_of : Haul → ℕ → Index
mirror_of h i = minus_of (minus_of (plus_of h.b h.n) 1) i

-- the own index that takes the i-th of n
abbrev pub slot_of : Flavor → Haul → ℕ → Index
slot_of Fifo h i = plus_of h.b i
slot_of Lifo h i = mirror_of h i

-- ---- LIFO source, n times

-- make the next swap, from the outside in, or store own back
abbrev pub swapping : Option ℕ → PutStage
swapping (Some x) = W.Swap x X.ReadNear
swapping None = W.StoreBack

-- n are written. Into FIFO: reverse them
abbrev pub landing : Flavor → ℕ → PutStage
landing Fifo n = swapping (turn_of (n / 2) 0)
landing Lifo n = W.StoreBack

abbrev pub is_nothing : Option ℕ → Bool
is_nothing None = true
is_nothing (Some job) = false

-- stop, with i written. None taken: Retry
abbrev pub stopped : Flavor → Haul → ℕ → Queue → StepOut BatchStage
stopped own h i q = pick (is_nothing h.in_hand && i == 0) (Ended q (Stolen Retry)) (put_at q (with_count h i) (landing own i))

-- i are written: load back for the next, or stop after n
abbrev pub turning : Flavor → Haul → ℕ → Queue → StepOut BatchStage
turning own h i q = pick (nat_le h.n i) (stopped own h i q) (take_at q h (One (E.ReloadBack i)))

-- one more than i are written; a number of 64 bits wraps
abbrev pub written_after : ℕ → ℕ
written_after i = (i + 1) % 2 ^ 64

-- the exchange for a job was won: what to write (of a batch and pop the PREVIOUS job), and what is then in hand
abbrev pub to_write : Option ℕ → ℕ → ℕ
to_write None job = job
to_write (Some previous) job = previous

abbrev pub next_in_hand : Option ℕ → ℕ → Option ℕ
next_in_hand None job = None
next_in_hand (Some previous) job = Some job

abbrev pub answer_of : Option ℕ → Answer
answer_of None = Moved
answer_of (Some job) = Stolen (Success job)
