-- LIFO source, n times: from the second on, load back, and stop if its difference to f <= 0; read cell f; load ring (changed: stop);
-- compare-exchange f to f + 1 (lost: stop); write own cell; f goes up.
-- Batch and pop: compare-exchange f to f + 1 at once, with no second ring load (lost: Retry); then for each of n: load back first.
use Rattle.std.specs.Prelude.{ℕ, List, ◌==◌, Some}
use Rattle.base.specs.Tests.{pick}
use Rattle.index.specs.Index.{empty_b, same_b, plus_of}
use Rattle.cells.specs.Cells.{read_of}
use Rattle.steal.specs.declared.Steal.TheVariants.{Retry}
use Rattle.parts.specs.declared.queue.Flavor.{Flavor}
use Rattle.parts.specs.declared.queue.Queue.{Queue}
use Rattle.parts.specs.declared.stage.Haul.{Haul}
use Rattle.parts.specs.declared.stage.OneStage.{OneStage}
use Rattle.parts.specs.declared.stage.OneStage.TheVariants.{ExchangeFirst, ReloadBack, Read, ReloadRing, Exchange}
use Rattle.parts.specs.declared.stage.TakeStage.TheVariants.{One}
use Rattle.parts.specs.declared.stage.PutStage.TheVariants.{WriteOne}
use Rattle.parts.specs.declared.answer.Answer.TheVariants.{Stolen}
use Rattle.parts.specs.Out.{with_front}
use Rattle.parts.specs.declared.out.StepOut.{StepOut}
use Rattle.parts.specs.declared.stage.BatchStage.{BatchStage}
use Rattle.parts.specs.declared.out.StepOut.TheVariants.{Ended}
use Rattle.op_batch.specs.Haul.{take_at, put_at, onward, stopped, turning, to_write, next_in_hand}

-- own is the flavour of the thread's own queue
abbrev pub one_step_of : Flavor → Haul → OneStage → Queue → List ℕ → StepOut BatchStage
one_step_of own h (ExchangeFirst job) q cells =
    pick (same_b q.front h.f) (turning own (onward h (Some job)) 0 (with_front q (plus_of h.f 1))) (Ended q (Stolen Retry))
one_step_of own h (ReloadBack i) q cells = pick (empty_b q.back h.f) (stopped own h i q) (take_at q h (One (Read i)))
one_step_of own h (Read i) q cells = take_at q h (One (ReloadRing i (read_of cells h.ring h.f)))
one_step_of own h (ReloadRing i job) q cells =
    pick (q.ring.number.0 == h.ring.number.0) (take_at q h (One (Exchange i job))) (stopped own h i q)
one_step_of own h (Exchange i job) q cells =
    pick (same_b q.front h.f)
    (put_at (with_front q (plus_of h.f 1)) (onward h (next_in_hand h.in_hand job)) (WriteOne i (to_write h.in_hand job)))
    (stopped own h i q)
