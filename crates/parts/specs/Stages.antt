-- The resize that a stage is in.
use Rattle.std.specs.Prelude.{Option, Some, None}
use Rattle.parts.specs.declared.stage.ResizeStage.{ResizeStage}
use Rattle.parts.specs.declared.stage.PushStage.{PushStage}
use Rattle.parts.specs.declared.stage.PushStage.TheVariants as U
use Rattle.parts.specs.declared.stage.PopStage.{PopStage}
use Rattle.parts.specs.declared.stage.PopStage.TheVariants as P
use Rattle.parts.specs.declared.stage.ReserveStage.{ReserveStage}
use Rattle.parts.specs.declared.stage.ReserveStage.TheVariants as Y
use Rattle.parts.specs.declared.stage.OwnStage.{OwnStage}
use Rattle.parts.specs.declared.stage.OwnStage.TheVariants as O
use Rattle.parts.specs.declared.stage.Stage.{Stage}
use Rattle.parts.specs.declared.stage.Stage.TheVariants.{Idle, Push, Pop, Steal, Length, OwnBatch, BatchSource, BatchOwn}

abbrev pub push_resize : PushStage → Option ResizeStage
push_resize U.LoadBack = None
push_resize (U.LoadFront b) = None
push_resize (U.Resize b at) = Some at
push_resize (U.Write b) = None
push_resize (U.StoreBack b) = None

abbrev pub pop_resize : PopStage → Option ResizeStage
pop_resize (P.Fifo at) = None
pop_resize (P.Lifo at) = None
pop_resize (P.Shrink job at) = Some at

abbrev pub reserve_resize : ReserveStage → Option ResizeStage
reserve_resize Y.LoadBack = None
reserve_resize (Y.LoadFront b) = None
reserve_resize (Y.Resize at) = Some at

abbrev pub own_resize : OwnStage → Option ResizeStage
own_resize (O.Reserve w at) = reserve_resize at
own_resize (O.LoadBack w) = None
own_resize (O.Put h at) = None

abbrev pub resize_in : Stage → Option ResizeStage
resize_in Idle = None
resize_in (Push job at) = push_resize at
resize_in (Pop w at) = pop_resize at
resize_in (Steal k at) = None
resize_in (Length k at) = None
resize_in (OwnBatch at) = None
resize_in (BatchSource k at) = None
resize_in (BatchOwn k at) = own_resize at
