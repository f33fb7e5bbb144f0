-- The step at a stage.
use Rattle.std.specs.Prelude.{ℕ, List}
use Rattle.parts.specs.declared.queue.Flavor.{Flavor}
use Rattle.parts.specs.declared.queue.Queue.{Queue}
use Rattle.parts.specs.declared.stage.BatchStage.{BatchStage}
use Rattle.parts.specs.declared.stage.BatchStage.TheVariants as B
use Rattle.parts.specs.declared.stage.Stage.{Stage}
use Rattle.parts.specs.declared.stage.Stage.TheVariants.{Idle, Push, Pop, Steal, Length, OwnBatch, BatchSource, BatchOwn}
use Rattle.parts.specs.declared.answer.Answer.TheVariants.{Refused}
use Rattle.parts.specs.declared.answer.Refusal.TheVariants as R
use Rattle.parts.specs.declared.out.Out.{Out}
use Rattle.parts.specs.Out.{Claim, Left, left, ended, out_of}
use Rattle.op_push.specs.Push.{push_of}
use Rattle.op_pop.specs.Pop.{pop_of}
use Rattle.op_steal.specs.Steal.{steal_of}
use Rattle.op_length.specs.Length.{length_step_of, own_batch_of}
use Rattle.op_batch_source.specs.Source.{source_of}
use Rattle.op_batch_own.specs.Own.{own_of}

-- the thread's stage at a stage of a batch from source k
abbrev pub batch_at : ℕ → BatchStage → Stage
batch_at k (B.Source at) = BatchSource k at
batch_at k (B.Own at) = BatchOwn k at

-- with the cells that the step left
abbrev pub beside : {A : Type 0} → (A → Out) → A × List ℕ → Left
beside f r = left (f r.0) r.1

-- own: the flavour of the thread's own queue; q: the queue touched; g: what a claim found
abbrev pub advance_of : Stage → Flavor → Queue → Claim → List ℕ → Left
advance_of Idle own q g cells = left (ended q (Refused R.Idle)) cells
advance_of (Push job at) own q g cells = beside (out_of (Push job)) (push_of job at q g cells)
advance_of (Pop w at) own q g cells = beside (out_of (Pop w)) (pop_of w at q g cells)
advance_of (Steal k at) own q g cells = left (out_of (Steal k) (steal_of at q cells)) cells
advance_of (Length k at) own q g cells = left (out_of (Length k) (length_step_of at q)) cells
advance_of (OwnBatch at) own q g cells = left (out_of OwnBatch (own_batch_of at q)) cells
advance_of (BatchSource k at) own q g cells = left (out_of (batch_at k) (source_of own at q cells)) cells
advance_of (BatchOwn k at) own q g cells = beside (out_of (batch_at k)) (own_of at q g cells)
