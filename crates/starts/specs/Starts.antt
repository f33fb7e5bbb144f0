-- Where an operation starts: the first line of its table.
use Rattle.std.specs.Prelude.{ℕ, ◌-◌, ◌==◌}
use Rattle.base.specs.Tests.{pick}
use Rattle.parts.specs.declared.queue.Flavor.{Flavor}
use Rattle.parts.specs.declared.queue.Flavor.TheVariants as F
use Rattle.parts.specs.declared.stage.FifoPopStage.TheVariants as D
use Rattle.parts.specs.declared.stage.LifoPopStage.TheVariants as L
use Rattle.parts.specs.declared.stage.PushStage.TheVariants as U
use Rattle.parts.specs.declared.stage.PopStage.{PopStage}
use Rattle.parts.specs.declared.stage.PopStage.TheVariants as P
use Rattle.parts.specs.declared.stage.Popper.TheVariants as W
use Rattle.parts.specs.declared.stage.StealStage.TheVariants as T
use Rattle.parts.specs.declared.stage.LengthStage.TheVariants as N
use Rattle.parts.specs.declared.stage.BatchKind.TheVariants as K
use Rattle.parts.specs.declared.stage.SourceStage.TheVariants as S
use Rattle.parts.specs.declared.stage.Stage.{Stage}
use Rattle.parts.specs.declared.stage.Stage.TheVariants as G
use Rattle.gate.specs.declared.Operation.{Operation}
use Rattle.gate.specs.declared.Operation.TheVariants.{Push, Pop, Length, Steal, Batch, BatchAndPop}

abbrev pub popping : Flavor → PopStage
popping F.Fifo = P.Fifo D.LoadBack
popping F.Lifo = P.Lifo L.LoadBack

-- the first stage, for a thread whose own queue is t. From the own queue a batch looks, and a batch and pop pops
abbrev pub first_stage : Flavor → ℕ → Operation → Stage
first_stage own t (Push job) = G.Push job U.LoadBack
first_stage own t Pop = G.Pop W.Pop (popping own)
first_stage own t (Length q) = G.Length q N.LoadBack
first_stage own t (Steal src) = G.Steal src T.LoadFront
first_stage own t (Batch src limit) = pick (src == t) (G.OwnBatch N.LoadBack) (G.BatchSource src (S.LoadFront K.Batch (limit - 1)))
first_stage own t (BatchAndPop src limit) =
    pick (src == t) (G.Pop W.BatchAndPop (popping own)) (G.BatchSource src (S.LoadFront K.BatchAndPop (limit - 1)))
