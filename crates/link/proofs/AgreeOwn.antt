-- The tables agree: the steps of a batch on the own queue. k is the source, t the own queue.
use Rattle.std.proofs.Common.{◌≡◌, ℕ, suc, ◌+◌, ◌-◌, ◌<◌, ◌≤◌, true, false, leb, List, refl, ap, ◌∙◌, ⊎_elim, mod-eq_of_lt, add-one, arith, le-leb}
use borrow.Author.Tests.{lt-leb}
use Rattle.base.specs.Tests.{le_or_lt}
use Rattle.index.specs.Index.{plus_of}
use Rattle.index.proofs.Laws.{plus_is, minus_is, length_is}
use Rattle.ring.specs.declared.Ring.{Ring}
use Rattle.ring.specs.Capacity.{largest}
use Rattle.ring.proofs.CapacityLaws.{holding_least, holding_over}
use Rattle.op_resize.specs.Resize.{resizing, resize_of}
use Rattle.op_batch.specs.Haul as H
use Rattle.advance.specs.Advance.{batch_at}
use Rattle.model.specs.Stage.{Flavour, fifo, lifo, Queue, cap, set_cell, ResizeStage, own, Wanted, InHand, none, some, Haul, OwnStage, reserve_back}
use Rattle.model.specs.Stage.{reserve_front, reserve_resize, own_back, all_write, one_write, swap_near, swap_far, swap_put, swap_last, own_store}
use Rattle.model.specs.Stage.{no_ring, Out, going, ended}
use Rattle.model.specs.Tables.{Claim, Resized, more, failed, finished, resize_step, resized, slot, turning, own_step}
use Rattle.model.specs.Invariant.{HaulOk, Ok}
use Rattle.model.specs.Memory.{note_resize}
use Rattle.link.specs.Map.{ix, flavor_of, haul_for, resize_at, queue_for, out_for, noted, offer_for}
use Rattle.link.proofs.AgreeResize.{either, Fits, Agrees, resized_for, ResizeNames, resize_agree}
use Rattle.link.proofs.AgreeBatch.{copy_agree, swap_agree, turn_agree}
use Rattle.parts.specs.Out.{Claim as CodeClaim, out_of}

abbrev pub OwnNames : (ℕ → Ring) → Ring → Claim → CodeClaim → OwnStage → Queue → Type 0
OwnNames R new gm gc (reserve_back w) q = Unit
OwnNames R new gm gc (reserve_front w b) q = Unit
OwnNames R new gm gc (reserve_resize w z) q = ResizeNames R new gm gc z q
OwnNames R new gm gc (own_back w) q = Unit
OwnNames R new gm gc (all_write h i v) q = Unit
OwnNames R new gm gc (one_write h i v) q = Unit
OwnNames R new gm gc (swap_near h x) q = Unit
OwnNames R new gm gc (swap_far h x near) q = Unit
OwnNames R new gm gc (swap_put h x near far) q = Unit
OwnNames R new gm gc (swap_last h x near) q = Unit
OwnNames R new gm gc (own_store h) q = Unit

module _ (fl : Flavour) (R : ℕ → ℕ → Ring) (k t : ℕ) (new : Ring) (q : Queue) (cells : List ℕ) (w : Fits (R t) q cells) (gm : Claim) (gc : CodeClaim)
  where
    abbrev Same : OwnStage → Out → Type 0
    Same p o = Agrees fl fl R t new gm gc cells (own k p) q o

    after_resize : (a : Wanted) (z : ResizeStage) (r : Resized) (l : List ℕ)
        → resize_of (resize_at new z) (queue_for fl (R t) q) gc cells ≡ resizing (resized_for fl (R t) new r) l
        → l ≡ noted (note_resize gm z) (R t q.ring) new cells
        → Same (reserve_resize a z) (resized r (λ y. going q (own k (reserve_resize a y))) (ended q no_ring) (λ r. going r (own k (own_back a))))
    after_resize a z (more y) l e f = rw (e, f)
    after_resize a z failed l e f = rw (e, f)
    after_resize a z (finished r) l e f = rw (e, f)

    -- an own index that the batch works on
    own_ix : (h : Haul) (i : ℕ) → HaulOk h q → i ≤ h.n → plus_of (ix h.b) i ≡ ix (h.b + i)
    own_ix h i r l = let f = w.front in let c = w.room in plus_is h.b i (omega arith)

    mirror_ix : (h : Haul) (i : ℕ) → HaulOk h q → i < h.n → H.mirror_of (haul_for (R k) h) i ≡ ix (h.b + (h.n - suc i))
    mirror_ix h i r l =
        let f = w.front in
        let c = w.room in
        rw (plus_is h.b h.n (omega arith), minus_is (h.b + h.n) 1 (omega arith) (omega arith), minus_is (h.b + h.n - 1) i (omega arith) (omega arith))
        (ap ix (omega arith))

    -- a count of jobs that were written does not wrap
    count_is : (h : Haul) (i : ℕ) → HaulOk h q → i < h.n → H.written_after i ≡ suc i
    count_is h i r l = let f = w.front in let c = w.room in mod-eq_of_lt (omega arith) ∙ add-one i

    slot_ix : (fo : Flavour) (h : Haul) (i : ℕ) → HaulOk h q → i < h.n → H.slot_of (flavor_of fo) (haul_for (R k) h) i ≡ ix (slot fo h i)
    slot_ix fifo h i r l = own_ix h i r (omega arith)
    slot_ix lifo h i r l = mirror_ix h i r l

    -- the own queue t is touched, and the haul is from k
    turn_own : (h : Haul) (i : ℕ) (r : Queue)
        → out_of (batch_at k) (H.turning (flavor_of fl) (haul_for (R k) h) i (queue_for fl (R t) r)) ≡ out_for fl R t new (turning fl k h i r)
    turn_own h i r = turn_agree R k new t fl fl h i r

    pub own_agree : (p : OwnStage) → Ok fl (own k p) q → OwnNames (R t) new gm gc p q → Same p (own_step (offer_for gm (own k p) q) fl k p q)
    unfolding own_step
    own_agree (reserve_back a) o h = refl
    own_agree (reserve_front a b) o h =
        let sf = w.front in
        let sb = w.back in
        let e = o.stage in
        let c : ℕ = (R t q.ring).capacity in
        let ca : c ≡ cap q = w.capacity in
        let m = length_is b q.front (omega arith) (omega arith) in
        let x : ℕ = b - q.front + a.n in
        either (leb x c) (λ u. rw (m, ← ca, u))
        (λ u. ⊎_elim
        (λ l. (let y = holding_least x l in
        let z : leb x y.0 ≡ true = le-leb x y.0 y.2.holds in
        rw (m, ← ca, u, y.1, z)))
        (λ l. (let z : leb x 0 ≡ false = lt-leb x 0 (omega arith) in rw (m, ← ca, u, holding_over x l, z)))
        (le_or_lt x largest))
    own_agree (reserve_resize a z) o h =
        after_resize a z (resize_step gm z q) (noted (note_resize gm z) (R t q.ring) new cells)
        (resize_agree fl (R t) new q cells w a.n gm gc z o.stage h) refl
    own_agree (own_back a) o h = refl
    own_agree (all_write j i v) o h =
        rw (slot_ix fl j i o.stage.0 o.stage.1, add-one, copy_agree R k new j (suc i))
    own_agree (one_write j i v) o h =
        let l = o.stage.1 in
        rw (own_ix j i o.stage.0 (omega arith), count_is j i o.stage.0 l, turn_own j (suc i) (set_cell q (j.b + i) v))
    own_agree (swap_near j x) o h = let l = o.stage.1 in rw (own_ix j x o.stage.0 (omega arith), w.reads (j.b + x))
    own_agree (swap_far j x near) o h =
        let l = o.stage.1 in rw (mirror_ix j x o.stage.0 (omega arith), w.reads (j.b + (j.n - suc x)))
    own_agree (swap_put j x near far) o h = let l = o.stage.1 in rw (own_ix j x o.stage.0 (omega arith))
    own_agree (swap_last j x near) o h =
        let l = o.stage.1 in rw (mirror_ix j x o.stage.0 (omega arith), add-one, swap_agree R k new j (suc x))
    own_agree (own_store j) o h = stored j.hand refl (own_ix j j.n o.stage (omega arith))
      where
        stored : (a : InHand) → j.hand ≡ a → plus_of (ix j.b) j.n ≡ ix (j.b + j.n)
            → Same (own_store j) (own_step (offer_for gm (own k (own_store j)) q) fl k (own_store j) q)
        stored none a e = rw (e, a)
        stored (some v) a e = rw (e, a)
