-- The ring that a stage keeps: one being built, from the claim to the swap; or one held, from its load until the answer.
use Rattle.parts.specs.declared.stage.ResizeStage.{ResizeStage}
use Rattle.parts.specs.declared.stage.ResizeStage.TheVariants as Z
use Rattle.parts.specs.declared.stage.PushStage.{PushStage}
use Rattle.parts.specs.declared.stage.PushStage.TheVariants as U
use Rattle.parts.specs.declared.stage.PopStage.{PopStage}
use Rattle.parts.specs.declared.stage.PopStage.TheVariants as P
use Rattle.parts.specs.declared.stage.StealStage.{StealStage}
use Rattle.parts.specs.declared.stage.StealStage.TheVariants as T
use Rattle.parts.specs.declared.stage.ReserveStage.{ReserveStage}
use Rattle.parts.specs.declared.stage.ReserveStage.TheVariants as Y
use Rattle.parts.specs.declared.stage.SourceStage.{SourceStage}
use Rattle.parts.specs.declared.stage.SourceStage.TheVariants as S
use Rattle.parts.specs.declared.stage.OwnStage.{OwnStage}
use Rattle.parts.specs.declared.stage.OwnStage.TheVariants as O
use Rattle.parts.specs.declared.stage.Stage.{Stage}
use Rattle.parts.specs.declared.stage.Stage.TheVariants.{Idle, Push, Pop, Steal, Length, OwnBatch, BatchSource, BatchOwn}
use Rattle.keeps.specs.declared.Kept.{Kept}
use Rattle.keeps.specs.declared.Kept.TheVariants.{Nothing, Built, Held}

abbrev pub resize_keeps : ResizeStage → Kept
resize_keeps (Z.LoadBack c) = Nothing
resize_keeps (Z.LoadFront c b) = Nothing
resize_keeps (Z.Copy b i ring) = Built ring
resize_keeps (Z.Swap ring) = Built ring

abbrev pub push_keeps : PushStage → Kept
push_keeps U.LoadBack = Nothing
push_keeps (U.LoadFront b) = Nothing
push_keeps (U.Resize b at) = resize_keeps at
push_keeps (U.Write b) = Nothing
push_keeps (U.StoreBack b) = Nothing

abbrev pub pop_keeps : PopStage → Kept
pop_keeps (P.Fifo at) = Nothing
pop_keeps (P.Lifo at) = Nothing
pop_keeps (P.Shrink job at) = resize_keeps at

abbrev pub steal_keeps : StealStage → Kept
steal_keeps T.LoadFront = Nothing
steal_keeps (T.LoadBack f) = Nothing
steal_keeps (T.LoadRing f) = Nothing
steal_keeps (T.Read f ring) = Held ring
steal_keeps (T.ReloadRing f ring job) = Held ring
steal_keeps (T.Exchange f ring job) = Held ring

abbrev pub source_keeps : SourceStage → Kept
source_keeps (S.LoadFront kind others) = Nothing
source_keeps (S.LoadBack kind others f) = Nothing
source_keeps (S.LoadRing w b) = Nothing
source_keeps (S.Take h at) = Held h.ring

abbrev pub reserve_keeps : ReserveStage → Kept
reserve_keeps Y.LoadBack = Nothing
reserve_keeps (Y.LoadFront b) = Nothing
reserve_keeps (Y.Resize at) = resize_keeps at

abbrev pub own_keeps : OwnStage → Kept
own_keeps (O.Reserve w at) = reserve_keeps at
own_keeps (O.LoadBack w) = Nothing
own_keeps (O.Put h at) = Held h.ring

abbrev pub kept_of : Stage → Kept
kept_of Idle = Nothing
kept_of (Push job at) = push_keeps at
kept_of (Pop w at) = pop_keeps at
kept_of (Steal k at) = steal_keeps at
kept_of (Length k at) = Nothing
kept_of (OwnBatch at) = Nothing
kept_of (BatchSource k at) = source_keeps at
kept_of (BatchOwn k at) = own_keeps at
