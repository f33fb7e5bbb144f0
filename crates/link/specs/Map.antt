-- A state of the model as a state of the code. The naming of rings is free: `R k r` is the ring that queue k's ring number r is; the ring that a
-- thread builds is named from its claim on.
use Rattle.std.specs.Prelude.{◌≡◌, ℕ, ◌+◌, ◌-◌, ◌/◌, ◌&&◌, List, pos, nat_le, nat_lt, Option, Some, None}
use Rattle.base.specs.Tests.{pick}
use Rattle.index.specs.declared.Index.{Index}
use Rattle.index.specs.Index.{difference_of, length_of}
use Rattle.ring.specs.declared.Ring.{Ring}
use Rattle.ring.specs.Capacity.{smallest, twice_of, holding_of}
use Rattle.cells.specs.Cells.{written_of, copied_of}
use Rattle.steal.specs.declared.Steal.TheVariants as T
use Rattle.parts.specs.declared.queue.Flavor.{Flavor}
use Rattle.parts.specs.declared.queue.Flavor.TheVariants.{Fifo, Lifo}
use Rattle.parts.specs.declared.queue.Queue.{Queue as CodeQueue}
use Rattle.parts.specs.declared.stage.ResizeStage.{ResizeStage as CodeResize}
use Rattle.parts.specs.declared.stage.ResizeStage.TheVariants as Z
use Rattle.parts.specs.declared.stage.PushStage.{PushStage as CodePush}
use Rattle.parts.specs.declared.stage.PushStage.TheVariants as U
use Rattle.parts.specs.declared.stage.FifoPopStage.{FifoPopStage as CodeFifo}
use Rattle.parts.specs.declared.stage.FifoPopStage.TheVariants as D
use Rattle.parts.specs.declared.stage.LifoPopStage.{LifoPopStage as CodeLifo}
use Rattle.parts.specs.declared.stage.LifoPopStage.TheVariants as L
use Rattle.parts.specs.declared.stage.PopStage.TheVariants as P
use Rattle.parts.specs.declared.stage.Popper.{Popper as CodePopper}
use Rattle.parts.specs.declared.stage.Popper.TheVariants as W
use Rattle.parts.specs.declared.stage.StealStage.{StealStage as CodeSteal}
use Rattle.parts.specs.declared.stage.StealStage.TheVariants as S
use Rattle.parts.specs.declared.stage.LengthStage.{LengthStage as CodeLength}
use Rattle.parts.specs.declared.stage.LengthStage.TheVariants as N
use Rattle.parts.specs.declared.stage.BatchKind.{BatchKind as CodeKind}
use Rattle.parts.specs.declared.stage.BatchKind.TheVariants as K
use Rattle.parts.specs.declared.stage.Wanted.{Wanted as CodeWanted}
use Rattle.parts.specs.declared.stage.Haul.{Haul as CodeHaul}
use Rattle.parts.specs.declared.stage.AllStage.TheVariants as A
use Rattle.parts.specs.declared.stage.OneStage.TheVariants as E
use Rattle.parts.specs.declared.stage.TakeStage.TheVariants as Y
use Rattle.parts.specs.declared.stage.ReserveStage.TheVariants as M
use Rattle.parts.specs.declared.stage.PutStage.TheVariants as H
use Rattle.parts.specs.declared.stage.SwapStage.TheVariants as X
use Rattle.parts.specs.declared.stage.SourceStage.{SourceStage as CodeSource}
use Rattle.parts.specs.declared.stage.SourceStage.TheVariants as F
use Rattle.parts.specs.declared.stage.OwnStage.{OwnStage as CodeOwn}
use Rattle.parts.specs.declared.stage.OwnStage.TheVariants as O
use Rattle.parts.specs.declared.stage.Stage.{Stage as CodeStage}
use Rattle.parts.specs.declared.stage.Stage.TheVariants as G
use Rattle.parts.specs.declared.answer.Answer.{Answer as CodeAnswer}
use Rattle.parts.specs.declared.answer.Answer.TheVariants as B
use Rattle.parts.specs.declared.answer.Shortage.TheVariants.{TooLarge, NoRing}
use Rattle.parts.specs.declared.out.Out.{Out as CodeOut}
use Rattle.gate.specs.declared.Operation.{Operation as CodeOperation}
use Rattle.gate.specs.declared.Operation.TheVariants as Q
use Rattle.model.specs.Stage.{Flavour, fifo, lifo, Queue, cap, ResizeStage, resize_back, resize_front, resize_copy, resize_swap, PushStage, push_back}
use Rattle.model.specs.Stage.{push_front, push_resize, push_write, push_store, FifoPopStage, fifo_back, fifo_front, fifo_add, fifo_restore, fifo_read}
use Rattle.model.specs.Stage.{LifoPopStage, lifo_back, lifo_front, lifo_store, lifo_reload, lifo_restore, lifo_last, lifo_exchange, job, lifo_won}
use Rattle.model.specs.Stage.{lifo_read, own, Popper, by_pop, by_batch, StealStage, steal_front, steal_back, steal_ring, steal_read, steal_reload}
use Rattle.model.specs.Stage.{steal_exchange, LengthStage, length_back, length_front, BatchKind, plain, and_pop, Wanted, InHand, none, some, Haul}
use Rattle.model.specs.Stage.{source, SourceStage, source_front, source_back, source_ring, source_first, all_copy, all_reload, all_exchange}
use Rattle.model.specs.Stage.{one_first, one_back, one_read, one_reload, one_exchange, OwnStage, reserve_back, reserve_front, reserve_resize}
use Rattle.model.specs.Stage.{own_back, all_write, one_write, swap_near, swap_far, swap_put, swap_last, own_store, Stage, idle, push, fifo_pop}
use Rattle.model.specs.Stage.{lifo_pop, shrink, steal, len, own_batch, Answer, working, done, nothing, empty, success, retry, moved, two_numbers}
use Rattle.model.specs.Stage.{too_large, no_ring, Out}
use Rattle.model.specs.Tables.{Claim, lost, got, Offer}
use Rattle.model.specs.Machine.{Operation, do_push, do_pop, do_length, do_steal, do_batch}
use Rattle.model.specs.Memory.{Note, kept, wrote, copied, claims, swaps}
use Rattle.parts.specs.Out.{Claim as CodeClaim}

-- ---- small parts

abbrev pub ix : ℕ → Index
ix i = record { 0 = pos i }

abbrev pub flavor_of : Flavour → Flavor
flavor_of fifo = Fifo
flavor_of lifo = Lifo

abbrev pub popper_of : Popper → CodePopper
popper_of by_pop = W.Pop
popper_of by_batch = W.BatchAndPop

abbrev pub kind_of : BatchKind → CodeKind
kind_of plain = K.Batch
kind_of and_pop = K.BatchAndPop

abbrev pub hand_for : InHand → Option ℕ
hand_for none = None
hand_for (some v) = Some v

abbrev pub wanted_for : Wanted → CodeWanted
wanted_for w = record { kind = kind_of w.kind; f = ix w.f; n = w.n }

-- R: the names of the source's rings
abbrev pub haul_for : (ℕ → Ring) → Haul → CodeHaul
haul_for R h = record { ring = R h.ring; f = ix h.f; n = h.n; b = ix h.b; in_hand = hand_for h.hand }

-- ---- stages; new: the ring that the thread builds

abbrev pub resize_at : Ring → ResizeStage → CodeResize
resize_at new (resize_back c) = Z.LoadBack c
resize_at new (resize_front c b) = Z.LoadFront c (ix b)
resize_at new (resize_copy c b i f) = Z.Copy (ix b) (ix i) new
resize_at new (resize_swap c f) = Z.Swap new

abbrev pub push_at : Ring → PushStage → CodePush
push_at new push_back = U.LoadBack
push_at new (push_front b) = U.LoadFront (ix b)
push_at new (push_resize b z) = U.Resize (ix b) (resize_at new z)
push_at new (push_write b) = U.Write (ix b)
push_at new (push_store b) = U.StoreBack (ix b)

abbrev pub fifo_at : FifoPopStage → CodeFifo
fifo_at fifo_back = D.LoadBack
fifo_at (fifo_front b) = D.LoadFront (ix b)
fifo_at (fifo_add b others) = D.FetchAdd (ix b) others
fifo_at (fifo_restore f) = D.RestoreFront (ix f)
fifo_at (fifo_read f others) = D.Read (ix f) others

abbrev pub lifo_at : LifoPopStage → CodeLifo
lifo_at lifo_back = L.LoadBack
lifo_at (lifo_front b) = L.LoadFront (ix b)
lifo_at (lifo_store b) = L.StoreBack (ix b)
lifo_at (lifo_reload b) = L.ReloadFront (ix b)
lifo_at (lifo_restore b) = L.RestoreBack (ix b)
lifo_at (lifo_last b) = L.ReadLast (ix b)
lifo_at (lifo_exchange b v) = L.Exchange (ix b) v
lifo_at (lifo_won b v) = L.RestoreBackWon (ix b) v
lifo_at (lifo_read b others) = L.Read (ix b) others

abbrev pub steal_at : (ℕ → Ring) → StealStage → CodeSteal
steal_at R steal_front = S.LoadFront
steal_at R (steal_back f) = S.LoadBack (ix f)
steal_at R (steal_ring f) = S.LoadRing (ix f)
steal_at R (steal_read r f) = S.Read (ix f) (R r)
steal_at R (steal_reload r f v) = S.ReloadRing (ix f) (R r) v
steal_at R (steal_exchange r f v) = S.Exchange (ix f) (R r) v

abbrev pub length_at : LengthStage → CodeLength
length_at length_back = N.LoadBack
length_at (length_front b) = N.LoadFront (ix b)

abbrev pub source_at : (ℕ → Ring) → SourceStage → CodeSource
source_at R (source_front m others) = F.LoadFront (kind_of m) others
source_at R (source_back m others f) = F.LoadBack (kind_of m) others (ix f)
source_at R (source_ring w b) = F.LoadRing (wanted_for w) (ix b)
source_at R (source_first h) = F.Take (haul_for R h) Y.ReadFirst
source_at R (all_copy h i) = F.Take (haul_for R h) (Y.All (A.Copy i))
source_at R (all_reload h) = F.Take (haul_for R h) (Y.All A.ReloadRing)
source_at R (all_exchange h) = F.Take (haul_for R h) (Y.All A.Exchange)
source_at R (one_first h v) = F.Take (haul_for R h) (Y.One (E.ExchangeFirst v))
source_at R (one_back h i) = F.Take (haul_for R h) (Y.One (E.ReloadBack i))
source_at R (one_read h i) = F.Take (haul_for R h) (Y.One (E.Read i))
source_at R (one_reload h i v) = F.Take (haul_for R h) (Y.One (E.ReloadRing i v))
source_at R (one_exchange h i v) = F.Take (haul_for R h) (Y.One (E.Exchange i v))

abbrev pub own_at : (ℕ → Ring) → Ring → OwnStage → CodeOwn
own_at R new (reserve_back w) = O.Reserve (wanted_for w) M.LoadBack
own_at R new (reserve_front w b) = O.Reserve (wanted_for w) (M.LoadFront (ix b))
own_at R new (reserve_resize w z) = O.Reserve (wanted_for w) (M.Resize (resize_at new z))
own_at R new (own_back w) = O.LoadBack (wanted_for w)
own_at R new (all_write h i v) = O.Put (haul_for R h) (H.WriteCopy i v)
own_at R new (one_write h i v) = O.Put (haul_for R h) (H.WriteOne i v)
own_at R new (swap_near h x) = O.Put (haul_for R h) (H.Swap x X.ReadNear)
own_at R new (swap_far h x near) = O.Put (haul_for R h) (H.Swap x (X.ReadFar near))
own_at R new (swap_put h x near far) = O.Put (haul_for R h) (H.Swap x (X.WriteNear near far))
own_at R new (swap_last h x near) = O.Put (haul_for R h) (H.Swap x (X.WriteFar near))
own_at R new (own_store h) = O.Put (haul_for R h) H.StoreBack

abbrev pub stage_for : (ℕ → ℕ → Ring) → Ring → Stage → CodeStage
stage_for R new idle = G.Idle
stage_for R new (push x p) = G.Push x (push_at new p)
stage_for R new (fifo_pop w p) = G.Pop (popper_of w) (P.Fifo (fifo_at p))
stage_for R new (lifo_pop w p) = G.Pop (popper_of w) (P.Lifo (lifo_at p))
stage_for R new (shrink w v z) = G.Pop (popper_of w) (P.Shrink v (resize_at new z))
stage_for R new (steal k p) = G.Steal k (steal_at (R k) p)
stage_for R new (len k p) = G.Length k (length_at p)
stage_for R new (own_batch p) = G.OwnBatch (length_at p)
stage_for R new (source k p) = G.BatchSource k (source_at (R k) p)
stage_for R new (own k p) = G.BatchOwn k (own_at (R k) new p)

-- ---- queues, answers, what a step leaves

abbrev pub queue_for : Flavour → (ℕ → Ring) → Queue → CodeQueue
queue_for fl R q = record { flavor = flavor_of fl; front = ix q.front; back = ix q.back; ring = R q.ring }

abbrev pub job_for : Popper → ℕ → CodeAnswer
job_for by_pop v = B.Job v
job_for by_batch v = B.Stolen (T.Success v)

abbrev pub nothing_for : Popper → CodeAnswer
nothing_for by_pop = B.Nothing
nothing_for by_batch = B.Stolen T.Empty

abbrev pub answer_for : Answer → CodeAnswer
answer_for working = B.Working
answer_for done = B.Done
answer_for (job w v) = job_for w v
answer_for (nothing w) = nothing_for w
answer_for empty = B.Stolen T.Empty
answer_for (success v) = B.Stolen (T.Success v)
answer_for retry = B.Stolen T.Retry
answer_for moved = B.Moved
answer_for (two_numbers b f) = B.Length (difference_of (ix b) (ix f)) (length_of (ix b) (ix f))
answer_for too_large = B.GaveUp TooLarge
answer_for no_ring = B.GaveUp NoRing

-- fl: the flavour of the queue k that the step touched
abbrev pub out_for : Flavour → (ℕ → ℕ → Ring) → ℕ → Ring → Out → CodeOut
out_for fl R k new o = record { queue = queue_for fl (R k) o.queue; stage = stage_for R new o.stage; answer = answer_for o.answer }

-- the pool's cells after a step, by its note. cur: the touched queue's current ring
abbrev pub noted : Note → Ring → Ring → List ℕ → List ℕ
noted kept cur new cells = cells
noted (wrote i v) cur new cells = written_of cells cur (ix i) v
noted (copied i) cur new cells = copied_of cells cur new (ix i)
noted claims cur new cells = cells
noted swaps cur new cells = cells

-- ---- what the code offers the model's step

abbrev pub size_of : Option ℕ → ℕ
size_of (Some c) = c
size_of None = 0

-- the capacity of a resize that the step at a stage may begin, and 0 where it begins none
abbrev pub offered : Stage → Queue → ℕ
offered idle q = 0
offered (push x push_back) q = 0
offered (push x (push_front b)) q = size_of (twice_of (cap q))
offered (push x (push_resize b z)) q = 0
offered (push x (push_write b)) q = 0
offered (push x (push_store b)) q = 0
offered (fifo_pop w fifo_back) q = 0
offered (fifo_pop w (fifo_front b)) q = 0
offered (fifo_pop w (fifo_add b others)) q = 0
offered (fifo_pop w (fifo_restore f)) q = 0
offered (fifo_pop w (fifo_read f others)) q = pick (nat_lt smallest (cap q) && nat_le (others + 1) (cap q / 4)) (cap q / 2) 0
offered (lifo_pop w lifo_back) q = 0
offered (lifo_pop w (lifo_front b)) q = 0
offered (lifo_pop w (lifo_store b)) q = 0
offered (lifo_pop w (lifo_reload b)) q = 0
offered (lifo_pop w (lifo_restore b)) q = 0
offered (lifo_pop w (lifo_last b)) q = 0
offered (lifo_pop w (lifo_exchange b v)) q = 0
offered (lifo_pop w (lifo_won b v)) q = 0
offered (lifo_pop w (lifo_read b others)) q = pick (nat_lt smallest (cap q) && nat_lt (others + 1) (cap q / 4)) (cap q / 2) 0
offered (shrink w v z) q = 0
offered (steal k p) q = 0
offered (len k p) q = 0
offered (own_batch p) q = 0
offered (source k p) q = 0
offered (own k (reserve_back w)) q = 0
offered (own k (reserve_front w b)) q = size_of (holding_of (b - q.front + w.n))
offered (own k (reserve_resize w z)) q = 0
offered (own k (own_back w)) q = 0
offered (own k (all_write h i v)) q = 0
offered (own k (one_write h i v)) q = 0
offered (own k (swap_near h x)) q = 0
offered (own k (swap_far h x near)) q = 0
offered (own k (swap_put h x near far)) q = 0
offered (own k (swap_last h x near)) q = 0
offered (own k (own_store h)) q = 0

abbrev pub offer_for : Claim → Stage → Queue → Offer
offer_for g x q = record { capacity = offered x q; claim = g }

-- the two sides of a claim: no ring on both, or the ring that is named new
abbrev pub ClaimIs : Ring → ℕ → Claim → CodeClaim → Type 0
ClaimIs new c lost None = Unit
ClaimIs new c lost (Some r) = ⊥
ClaimIs new c (got f) None = ⊥
ClaimIs new c (got f) (Some r) = record { number = r.number; place = r.place; capacity = c } ≡ new

-- what a stage's claim asks of the names
abbrev pub ResizeClaims : Ring → Claim → CodeClaim → ResizeStage → Type 0
ResizeClaims new gm gc (resize_back c) = Unit
ResizeClaims new gm gc (resize_front c b) = ClaimIs new c gm gc
ResizeClaims new gm gc (resize_copy c b i f) = Unit
ResizeClaims new gm gc (resize_swap c f) = Unit

abbrev pub PushClaims : Ring → Claim → CodeClaim → PushStage → Type 0
PushClaims new gm gc push_back = Unit
PushClaims new gm gc (push_front b) = Unit
PushClaims new gm gc (push_resize b z) = ResizeClaims new gm gc z
PushClaims new gm gc (push_write b) = Unit
PushClaims new gm gc (push_store b) = Unit

abbrev pub OwnClaims : Ring → Claim → CodeClaim → OwnStage → Type 0
OwnClaims new gm gc (reserve_back w) = Unit
OwnClaims new gm gc (reserve_front w b) = Unit
OwnClaims new gm gc (reserve_resize w z) = ResizeClaims new gm gc z
OwnClaims new gm gc (own_back w) = Unit
OwnClaims new gm gc (all_write h i v) = Unit
OwnClaims new gm gc (one_write h i v) = Unit
OwnClaims new gm gc (swap_near h x) = Unit
OwnClaims new gm gc (swap_far h x near) = Unit
OwnClaims new gm gc (swap_put h x near far) = Unit
OwnClaims new gm gc (swap_last h x near) = Unit
OwnClaims new gm gc (own_store h) = Unit

abbrev pub StageClaims : Ring → Claim → CodeClaim → Stage → Type 0
StageClaims new gm gc idle = Unit
StageClaims new gm gc (push x p) = PushClaims new gm gc p
StageClaims new gm gc (fifo_pop w p) = Unit
StageClaims new gm gc (lifo_pop w p) = Unit
StageClaims new gm gc (shrink w v z) = ResizeClaims new gm gc z
StageClaims new gm gc (steal k p) = Unit
StageClaims new gm gc (len k p) = Unit
StageClaims new gm gc (own_batch p) = Unit
StageClaims new gm gc (source k p) = Unit
StageClaims new gm gc (own k p) = OwnClaims new gm gc p

-- ---- from the code to the model

abbrev pub flavour_of : Flavor → Flavour
flavour_of Fifo = fifo
flavour_of Lifo = lifo

abbrev pub operation_of : CodeOperation → Operation
operation_of (Q.Push v) = do_push v
operation_of Q.Pop = do_pop
operation_of (Q.Length k) = do_length k
operation_of (Q.Steal k) = do_steal k
operation_of (Q.Batch k limit) = do_batch plain k (limit - 1)
operation_of (Q.BatchAndPop k limit) = do_batch and_pop k (limit - 1)
