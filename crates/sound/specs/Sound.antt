-- What soundness asks of the counts, of queues and of a stage. In the words of 01: counts in range; capacities allowed; place
-- numbers below the count; each difference from -1 to capacity; each ring a thread remembers has an allowed capacity and a place below the
-- count; a capacity it resizes to is allowed; the source queue it remembers exists; once reserve is past, a batch's n is at most the largest
-- capacity and its counters at most n.
use Rattle.std.specs.Prelude.{ℕ, Bool, true, ◌&&◌, nat_le, nat_lt}
use Rattle.base.specs.Below.{all_below}
use Rattle.index.specs.Index.{spans_b}
use Rattle.ring.specs.declared.Ring.{Ring}
use Rattle.ring.specs.Capacity.{largest, allowed_b}
use Rattle.parts.specs.declared.queue.Queue.{Queue}
use Rattle.parts.specs.declared.stage.ResizeStage.{ResizeStage}
use Rattle.parts.specs.declared.stage.ResizeStage.TheVariants as Z
use Rattle.parts.specs.declared.stage.PushStage.{PushStage}
use Rattle.parts.specs.declared.stage.PushStage.TheVariants as U
use Rattle.parts.specs.declared.stage.PopStage.{PopStage}
use Rattle.parts.specs.declared.stage.PopStage.TheVariants as P
use Rattle.parts.specs.declared.stage.Wanted.{Wanted}
use Rattle.parts.specs.declared.stage.Haul.{Haul}
use Rattle.parts.specs.declared.stage.AllStage.{AllStage}
use Rattle.parts.specs.declared.stage.AllStage.TheVariants as A
use Rattle.parts.specs.declared.stage.OneStage.{OneStage}
use Rattle.parts.specs.declared.stage.OneStage.TheVariants as E
use Rattle.parts.specs.declared.stage.TakeStage.{TakeStage}
use Rattle.parts.specs.declared.stage.TakeStage.TheVariants as X
use Rattle.parts.specs.declared.stage.PutStage.{PutStage}
use Rattle.parts.specs.declared.stage.PutStage.TheVariants as W
use Rattle.parts.specs.declared.stage.ReserveStage.{ReserveStage}
use Rattle.parts.specs.declared.stage.ReserveStage.TheVariants as Y
use Rattle.parts.specs.declared.stage.SourceStage.{SourceStage}
use Rattle.parts.specs.declared.stage.SourceStage.TheVariants as S
use Rattle.parts.specs.declared.stage.OwnStage.{OwnStage}
use Rattle.parts.specs.declared.stage.OwnStage.TheVariants as O
use Rattle.parts.specs.declared.stage.Stage.{Stage}
use Rattle.parts.specs.declared.stage.Stage.TheVariants.{Idle, Push, Pop, Steal, Length, OwnBatch, BatchSource, BatchOwn}
use Rattle.keeps.specs.declared.Kept.{Kept}
use Rattle.keeps.specs.declared.Kept.TheVariants.{Nothing, Built, Held}
use Rattle.keeps.specs.Kept.{kept_of}

-- ---- counts in range

-- queues: 1 to 4; places: at least the queue count, at most 16. The numbers of `MOST_QUEUES` and
-- `MOST_PLACES`
abbrev pub most_queues : ℕ
most_queues = 4

abbrev pub most_places : ℕ
most_places = 16

abbrev pub counts_b : ℕ → ℕ → Bool
counts_b k n = nat_le 1 k && (nat_le k most_queues && (nat_le k n && nat_le n most_places))

-- ---- queues; n is the place count

abbrev pub ring_sound : ℕ → Ring → Bool
ring_sound n r = allowed_b r.capacity && nat_lt r.place.0 n

abbrev pub queue_sound : ℕ → Queue → Bool
queue_sound n q = ring_sound n q.ring && spans_b q.back q.front q.ring.capacity

-- the first k queues, of those that a function gives
abbrev pub queues_sound_of : ℕ → ℕ → (ℕ → Queue) → Bool
queues_sound_of k n queue = all_below k (λ i. queue_sound n (queue i))

-- ---- what a thread remembers; k is the queue count

abbrev pub kept_sound : ℕ → Kept → Bool
kept_sound n Nothing = true
kept_sound n (Built r) = ring_sound n r
kept_sound n (Held r) = ring_sound n r

-- the source queue exists
abbrev pub named_sound : ℕ → Stage → Bool
named_sound k Idle = true
named_sound k (Push job at) = true
named_sound k (Pop w at) = true
named_sound k (Steal src at) = nat_lt src k
named_sound k (Length src at) = nat_lt src k
named_sound k (OwnBatch at) = true
named_sound k (BatchSource src at) = nat_lt src k
named_sound k (BatchOwn src at) = nat_lt src k

-- a capacity that is resized to is allowed
abbrev pub resize_sound : ResizeStage → Bool
resize_sound (Z.LoadBack c) = allowed_b c
resize_sound (Z.LoadFront c b) = allowed_b c
resize_sound (Z.Copy b i ring) = true
resize_sound (Z.Swap ring) = true

abbrev pub push_sound : PushStage → Bool
push_sound U.LoadBack = true
push_sound (U.LoadFront b) = true
push_sound (U.Resize b at) = resize_sound at
push_sound (U.Write b) = true
push_sound (U.StoreBack b) = true

abbrev pub pop_sound : PopStage → Bool
pop_sound (P.Fifo at) = true
pop_sound (P.Lifo at) = true
pop_sound (P.Shrink job at) = resize_sound at

-- once reserve is past: n is at most the largest capacity, and a counter at most n
abbrev pub wanted_sound : Wanted → Bool
wanted_sound w = nat_le w.n largest

abbrev pub haul_sound : Haul → ℕ → Bool
haul_sound h i = nat_le h.n largest && nat_le i h.n

abbrev pub all_sound : Haul → AllStage → Bool
all_sound h (A.Copy i) = haul_sound h i
all_sound h A.ReloadRing = haul_sound h 0
all_sound h A.Exchange = haul_sound h 0

abbrev pub one_sound : Haul → OneStage → Bool
one_sound h (E.ExchangeFirst job) = haul_sound h 0
one_sound h (E.ReloadBack i) = haul_sound h i
one_sound h (E.Read i) = haul_sound h i
one_sound h (E.ReloadRing i job) = haul_sound h i
one_sound h (E.Exchange i job) = haul_sound h i

abbrev pub take_sound : Haul → TakeStage → Bool
take_sound h X.ReadFirst = haul_sound h 0
take_sound h (X.All at) = all_sound h at
take_sound h (X.One at) = one_sound h at

abbrev pub source_sound : SourceStage → Bool
source_sound (S.LoadFront kind others) = true
source_sound (S.LoadBack kind others f) = true
source_sound (S.LoadRing w b) = wanted_sound w
source_sound (S.Take h at) = take_sound h at

abbrev pub reserve_sound : ReserveStage → Bool
reserve_sound Y.LoadBack = true
reserve_sound (Y.LoadFront b) = true
reserve_sound (Y.Resize at) = resize_sound at

abbrev pub put_sound : Haul → PutStage → Bool
put_sound h (W.WriteCopy i job) = haul_sound h i
put_sound h (W.WriteOne i job) = haul_sound h i
put_sound h (W.Swap x at) = haul_sound h x
put_sound h W.StoreBack = haul_sound h 0

abbrev pub own_sound : OwnStage → Bool
own_sound (O.Reserve w at) = reserve_sound at
own_sound (O.LoadBack w) = wanted_sound w
own_sound (O.Put h at) = put_sound h at

abbrev pub numbers_sound : Stage → Bool
numbers_sound Idle = true
numbers_sound (Push job at) = push_sound at
numbers_sound (Pop w at) = pop_sound at
numbers_sound (Steal src at) = true
numbers_sound (Length src at) = true
numbers_sound (OwnBatch at) = true
numbers_sound (BatchSource src at) = source_sound at
numbers_sound (BatchOwn src at) = own_sound at

abbrev pub stage_sound : ℕ → ℕ → Stage → Bool
stage_sound k n s = named_sound k s && (kept_sound n (kept_of s) && numbers_sound s)
