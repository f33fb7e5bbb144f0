-- The steps of a batch on its source: load front f; load back; difference d <= 0: Empty; n. After the reserve: load source ring and hold.
-- Then by the source's flavour. Batch and pop: first read cell f.
use Rattle.std.specs.Prelude.{ℕ, List, nat_le}
use Rattle.base.specs.Tests.{pick}
use Rattle.index.specs.Index.{empty_b, length_of}
use Rattle.cells.specs.Cells.{read_of}
use Rattle.steal.specs.declared.Steal.TheVariants.{Empty}
use Rattle.parts.specs.declared.queue.Flavor.{Flavor}
use Rattle.parts.specs.declared.queue.Flavor.TheVariants.{Fifo, Lifo}
use Rattle.parts.specs.declared.queue.Queue.{Queue}
use Rattle.parts.specs.declared.stage.BatchKind.{BatchKind}
use Rattle.parts.specs.declared.stage.BatchKind.TheVariants as K
use Rattle.parts.specs.declared.stage.Haul.{Haul}
use Rattle.parts.specs.declared.stage.OneStage.TheVariants as E
use Rattle.parts.specs.declared.stage.TakeStage.{TakeStage}
use Rattle.parts.specs.declared.stage.TakeStage.TheVariants.{ReadFirst, All, One}
use Rattle.parts.specs.declared.stage.SourceStage.{SourceStage}
use Rattle.parts.specs.declared.stage.SourceStage.TheVariants.{LoadFront, LoadBack, LoadRing, Take}
use Rattle.parts.specs.declared.answer.Answer.TheVariants.{Stolen}
use Rattle.parts.specs.declared.out.StepOut.{StepOut}
use Rattle.parts.specs.declared.stage.BatchStage.{BatchStage}
use Rattle.parts.specs.declared.out.StepOut.TheVariants.{Going, Ended}
use Rattle.parts.specs.declared.stage.BatchStage.TheVariants.{Source, Own}
use Rattle.op_batch.specs.Haul.{take_at, wanted_of, reserving, hauling, with_job, turn_of, copying, stopped}
use Rattle.op_batch_all.specs.All.{all_step_of}
use Rattle.op_batch_one.specs.One.{one_step_of}

-- the ring is held: a batch and pop reads its first job; a batch takes by the source's flavour
abbrev pub taking : Flavor → Flavor → Haul → Queue → StepOut BatchStage
taking Fifo own h q = take_at q h (copying (turn_of h.n 0))
taking Lifo own h q = pick (nat_le h.n 0) (stopped own h 0 q) (take_at q h (One (E.Read 0)))

abbrev pub held : BatchKind → Flavor → Haul → Queue → StepOut BatchStage
held K.Batch own h q = taking q.flavor own h q
held K.BatchAndPop own h q = take_at q h ReadFirst

abbrev pub first_read : Flavor → Haul → ℕ → Queue → StepOut BatchStage
first_read Fifo h job q = take_at q (with_job h job) (copying (turn_of h.n 0))
first_read Lifo h job q = take_at q h (One (E.ExchangeFirst job))

-- own is the flavour of the thread's own queue
abbrev pub take_of : Flavor → Haul → TakeStage → Queue → List ℕ → StepOut BatchStage
take_of own h ReadFirst q cells = first_read q.flavor h (read_of cells h.ring h.f) q
take_of own h (All at) q cells = all_step_of h at q cells
take_of own h (One at) q cells = one_step_of own h at q cells

abbrev pub source_of : Flavor → SourceStage → Queue → List ℕ → StepOut BatchStage
source_of own (LoadFront kind others) q cells = Going q (Source (LoadBack kind others q.front))
source_of own (LoadBack kind others f) q cells =
    pick (empty_b q.back f) (Ended q (Stolen Empty))
    (Going q (Own (reserving (record { kind = kind; f = f; n = wanted_of kind (length_of q.back f) others }))))
source_of own (LoadRing w b) q cells = held w.kind own (hauling q.ring w b) q
source_of own (Take h at) q cells = take_of own h at q cells
