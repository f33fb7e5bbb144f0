-- What a stage tells: which queue its step touches, whether the thread is idle, whether the step claims a ring.
use Rattle.std.specs.Prelude.{ℕ, Bool, true, false}
use Rattle.parts.specs.declared.stage.ResizeStage.{ResizeStage}
use Rattle.parts.specs.declared.stage.ResizeStage.TheVariants as Z
use Rattle.parts.specs.declared.stage.PushStage.{PushStage}
use Rattle.parts.specs.declared.stage.PushStage.TheVariants as U
use Rattle.parts.specs.declared.stage.PopStage.{PopStage}
use Rattle.parts.specs.declared.stage.PopStage.TheVariants as P
use Rattle.parts.specs.declared.stage.ReserveStage.{ReserveStage}
use Rattle.parts.specs.declared.stage.ReserveStage.TheVariants as Y
use Rattle.parts.specs.declared.stage.OwnStage.{OwnStage}
use Rattle.parts.specs.declared.stage.OwnStage.TheVariants as O
use Rattle.parts.specs.declared.stage.Stage.{Stage}
use Rattle.parts.specs.declared.stage.Stage.TheVariants.{Idle, Push, Pop, Steal, Length, OwnBatch, BatchSource, BatchOwn}

-- the queue that the next step touches, for a thread whose own queue is t
abbrev pub touched_of : Stage → ℕ → ℕ
touched_of Idle t = t
touched_of (Push job at) t = t
touched_of (Pop w at) t = t
touched_of (Steal k at) t = k
touched_of (Length k at) t = k
touched_of (OwnBatch at) t = t
touched_of (BatchSource k at) t = k
touched_of (BatchOwn k at) t = t

abbrev pub idle_b : Stage → Bool
idle_b Idle = true
idle_b (Push job at) = false
idle_b (Pop w at) = false
idle_b (Steal k at) = false
idle_b (Length k at) = false
idle_b (OwnBatch at) = false
idle_b (BatchSource k at) = false
idle_b (BatchOwn k at) = false

-- a claim belongs to the resize's load of front
abbrev pub resize_claims : ResizeStage → Bool
resize_claims (Z.LoadBack c) = false
resize_claims (Z.LoadFront c b) = true
resize_claims (Z.Copy b i ring) = false
resize_claims (Z.Swap ring) = false

abbrev pub push_claims : PushStage → Bool
push_claims U.LoadBack = false
push_claims (U.LoadFront b) = false
push_claims (U.Resize b at) = resize_claims at
push_claims (U.Write b) = false
push_claims (U.StoreBack b) = false

abbrev pub pop_claims : PopStage → Bool
pop_claims (P.Fifo at) = false
pop_claims (P.Lifo at) = false
pop_claims (P.Shrink job at) = resize_claims at

abbrev pub reserve_claims : ReserveStage → Bool
reserve_claims Y.LoadBack = false
reserve_claims (Y.LoadFront b) = false
reserve_claims (Y.Resize at) = resize_claims at

abbrev pub own_claims : OwnStage → Bool
own_claims (O.Reserve w at) = reserve_claims at
own_claims (O.LoadBack w) = false
own_claims (O.Put h at) = false

abbrev pub claims_b : Stage → Bool
claims_b Idle = false
claims_b (Push job at) = push_claims at
claims_b (Pop w at) = pop_claims at
claims_b (Steal k at) = false
claims_b (Length k at) = false
claims_b (OwnBatch at) = false
claims_b (BatchSource k at) = false
claims_b (BatchOwn k at) = own_claims at
