-- Stages by what they remember, all of each kind: those that hold a ring, build one, resize to a capacity, name a queue, want n jobs, count them.
-- What is not in question is sound: ring 9 in place 2, queue 0, no jobs counted.
use Rattle.std.specs.Prelude.{ℕ, List, [], ◌∷◌, ◌++◌, map, negsuc, None}
use Rattle.index.specs.declared.Index.{Index}
use Rattle.ring.specs.declared.Ring.{Ring}
use Rattle.parts.specs.declared.stage.ResizeStage.{ResizeStage}
use Rattle.parts.specs.declared.stage.ResizeStage.TheVariants as Z
use Rattle.parts.specs.declared.stage.PushStage.TheVariants as U
use Rattle.parts.specs.declared.stage.FifoPopStage.TheVariants as D
use Rattle.parts.specs.declared.stage.LifoPopStage.TheVariants as L
use Rattle.parts.specs.declared.stage.PopStage.TheVariants as P
use Rattle.parts.specs.declared.stage.Popper.TheVariants as M
use Rattle.parts.specs.declared.stage.StealStage.TheVariants as T
use Rattle.parts.specs.declared.stage.LengthStage.TheVariants as N
use Rattle.parts.specs.declared.stage.BatchKind.TheVariants as K
use Rattle.parts.specs.declared.stage.Wanted.{Wanted}
use Rattle.parts.specs.declared.stage.Haul.{Haul}
use Rattle.parts.specs.declared.stage.AllStage.TheVariants as A
use Rattle.parts.specs.declared.stage.OneStage.TheVariants as E
use Rattle.parts.specs.declared.stage.TakeStage.{TakeStage}
use Rattle.parts.specs.declared.stage.TakeStage.TheVariants as X
use Rattle.parts.specs.declared.stage.SwapStage.TheVariants as Q
use Rattle.parts.specs.declared.stage.PutStage.{PutStage}
use Rattle.parts.specs.declared.stage.PutStage.TheVariants as W
use Rattle.parts.specs.declared.stage.ReserveStage.{ReserveStage}
use Rattle.parts.specs.declared.stage.ReserveStage.TheVariants as Y
use Rattle.parts.specs.declared.stage.SourceStage.TheVariants as S
use Rattle.parts.specs.declared.stage.OwnStage.TheVariants as O
use Rattle.parts.specs.declared.stage.Stage.{Stage}
use Rattle.parts.specs.declared.stage.Stage.TheVariants.{Idle, Push, Pop, Steal, Length, OwnBatch, BatchSource, BatchOwn}

-- ring 9, in a place, with a capacity
abbrev pub ring_at : ℕ → ℕ → Ring
ring_at place capacity = record { number = record { 0 = 9 }; place = record { 0 = place }; capacity = capacity }

-- an index that no queue here has: soundness asks nothing of one that is remembered
abbrev far : Index
far = record { 0 = negsuc 1000 }

abbrev wanted : ℕ → Wanted
wanted n = record { kind = K.Batch; f = far; n = n }

abbrev haul : Ring → ℕ → Haul
haul ring n = record { ring = ring; f = far; n = n; b = far; in_hand = None }

-- a haul of three jobs from a ring in the free place
abbrev three : Haul
three = haul (ring_at 2 64) 3

-- ---- parts of a batch

-- with i jobs copied, or written
abbrev takes_with : ℕ → List TakeStage
takes_with i =
    X.All (A.Copy i) ∷ X.One (E.ReloadBack i) ∷ X.One (E.Read i) ∷ X.One (E.ReloadRing i 7) ∷ X.One (E.Exchange i 7) ∷ []

-- with i jobs copied or written, or i swaps made
abbrev puts_with : ℕ → List PutStage
puts_with i =
    W.WriteCopy i 7 ∷
    W.WriteOne i 7 ∷
    W.Swap i Q.ReadNear ∷
    W.Swap i (Q.ReadFar 7) ∷
    W.Swap i (Q.WriteNear 7 8) ∷
    W.Swap i (Q.WriteFar 7) ∷
    []

abbrev takes : List TakeStage
takes = X.ReadFirst ∷ X.All A.ReloadRing ∷ X.All A.Exchange ∷ X.One (E.ExchangeFirst 7) ∷ takes_with 0

abbrev puts : List PutStage
puts = W.StoreBack ∷ puts_with 0

-- with a haul from queue k
abbrev taking : ℕ → Haul → List TakeStage → List Stage
taking k h l = map (λ (at : TakeStage). BatchSource k (S.Take h at)) l

abbrev putting : ℕ → Haul → List PutStage → List Stage
putting k h l = map (λ (at : PutStage). BatchOwn k (O.Put h at)) l

abbrev reserving : ℕ → ℕ → List ReserveStage → List Stage
reserving k n l = map (λ (at : ReserveStage). BatchOwn k (O.Reserve (wanted n) at)) l

-- a resize is part of a push, of a pop, of a batch and pop from the own queue, and of a batch's reserve
abbrev within : List ResizeStage → List Stage
within l =
    map (λ (at : ResizeStage). Push 7 (U.Resize far at)) l ++
    (map (λ (at : ResizeStage). Pop M.Pop (P.Shrink 7 at)) l ++
    (map (λ (at : ResizeStage). Pop M.BatchAndPop (P.Shrink 7 at)) l ++
    reserving 0 3 (map (λ (at : ResizeStage). Y.Resize at) l)))

-- ---- by what is remembered

abbrev pub building : Ring → List Stage
building ring = within (Z.Copy far far ring ∷ Z.Swap ring ∷ [])

abbrev pub holding : Ring → List Stage
holding ring =
    Steal 0 (T.Read far ring) ∷
    Steal 0 (T.ReloadRing far ring 7) ∷
    Steal 0 (T.Exchange far ring 7) ∷
    (taking 0 (haul ring 3) takes ++ putting 0 (haul ring 3) puts)

-- the capacity that is resized to
abbrev pub resizing : ℕ → List Stage
resizing c = within (Z.LoadBack c ∷ Z.LoadFront c far ∷ [])

-- the queue that a steal, a length and both halves of a batch name
abbrev pub naming : ℕ → List Stage
naming k =
    Steal k T.LoadFront ∷
    Steal k (T.LoadBack far) ∷
    Steal k (T.LoadRing far) ∷
    Steal k (T.Read far (ring_at 2 64)) ∷
    Steal k (T.ReloadRing far (ring_at 2 64) 7) ∷
    Steal k (T.Exchange far (ring_at 2 64) 7) ∷
    Length k N.LoadBack ∷
    Length k (N.LoadFront far) ∷
    BatchSource k (S.LoadFront K.Batch 0) ∷
    BatchSource k (S.LoadBack K.Batch 0 far) ∷
    BatchSource k (S.LoadRing (wanted 3) far) ∷
    BatchOwn k (O.LoadBack (wanted 3)) ∷
    (reserving k 3 (Y.LoadBack ∷ Y.LoadFront far ∷ Y.Resize (Z.LoadBack 64) ∷ Y.Resize (Z.Swap (ring_at 2 64)) ∷ []) ++
    (taking k three takes ++ putting k three puts))

-- n before reserve is past, also inside its resize; and the limit less one
abbrev pub before : ℕ → List Stage
before n =
    BatchSource 0 (S.LoadFront K.Batch n) ∷
    BatchSource 0 (S.LoadBack K.BatchAndPop n far) ∷
    reserving 0 n
    (Y.LoadBack ∷
    Y.LoadFront far ∷
    Y.Resize (Z.LoadBack 64) ∷
    Y.Resize (Z.LoadFront 64 far) ∷
    Y.Resize (Z.Copy far far (ring_at 2 64)) ∷
    Y.Resize (Z.Swap (ring_at 2 64)) ∷
    [])

-- n from the load of the own back on
abbrev pub past : ℕ → List Stage
past n =
    BatchOwn 0 (O.LoadBack (wanted n)) ∷
    BatchSource 0 (S.LoadRing (wanted n) far) ∷
    (taking 0 (haul (ring_at 2 64) n) takes ++ putting 0 (haul (ring_at 2 64) n) puts)

-- a counter i, of n
abbrev pub counting : ℕ → ℕ → List Stage
counting n i = taking 0 (haul (ring_at 2 64) n) (takes_with i) ++ putting 0 (haul (ring_at 2 64) n) (puts_with i)

-- nothing that soundness asks about
abbrev pub plain : List Stage
plain =
    Idle ∷
    Push 7 U.LoadBack ∷
    Push 7 (U.LoadFront far) ∷
    Push 7 (U.Write far) ∷
    Push 7 (U.StoreBack far) ∷
    Pop M.Pop (P.Fifo D.LoadBack) ∷
    Pop M.Pop (P.Fifo (D.LoadFront far)) ∷
    Pop M.BatchAndPop (P.Lifo L.LoadBack) ∷
    Pop M.BatchAndPop (P.Lifo (L.LoadFront far)) ∷
    OwnBatch N.LoadBack ∷
    OwnBatch (N.LoadFront far) ∷
    []
