-- The steps of a batch on the thread's own queue: reserve; load own back; then what was taken is put there.
use Rattle.std.specs.Prelude.{ℕ, List}
use Rattle.parts.specs.declared.queue.Queue.{Queue}
use Rattle.parts.specs.declared.stage.SourceStage.TheVariants.{LoadRing}
use Rattle.parts.specs.declared.stage.OwnStage.{OwnStage}
use Rattle.parts.specs.declared.stage.OwnStage.TheVariants.{Reserve, LoadBack, Put}
use Rattle.parts.specs.declared.out.StepOut.{StepOut}
use Rattle.parts.specs.declared.stage.BatchStage.{BatchStage}
use Rattle.parts.specs.declared.out.StepOut.TheVariants.{Going}
use Rattle.parts.specs.declared.stage.BatchStage.TheVariants.{Source}
use Rattle.op_batch_reserve.specs.Reserve.{reserve_of}
use Rattle.op_batch_put.specs.Put.{put_of}
use Rattle.parts.specs.Out.{Claim}

-- with the pool's cells
abbrev pub own_of : OwnStage → Queue → Claim → List ℕ → StepOut BatchStage × List ℕ
own_of (Reserve w at) q g cells = reserve_of w at q g cells
own_of (LoadBack w) q g cells = (Going q (Source (LoadRing w q.back)), cells)
own_of (Put h at) q g cells = put_of h at q cells
