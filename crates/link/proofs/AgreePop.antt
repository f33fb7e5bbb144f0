-- The tables agree: both pops and their shrink.
use Rattle.std.proofs.Common.{◌≡◌, ℕ, suc, ◌+◌, ◌-◌, ◌/◌, Bool, true, false, ◌&&◌, eqb, ltb, leb, List, refl, arith, ltb-true, lt-ltb, le-leb, leb-true}
use Rattle.base.specs.Tests.{both}
use Rattle.index.specs.Index.{minus_of, empty_b}
use Rattle.index.proofs.Laws.{minus_is, empty_is, behind_is, same_is, length_is}
use Rattle.ring.specs.declared.Ring.{Ring}
use Rattle.ring.specs.Capacity.{smallest}
use Rattle.op_resize.specs.Resize.{resizing, resize_of}
use Rattle.model.specs.Stage.{Flavour, Queue, cap, ResizeStage, FifoPopStage, fifo_back, fifo_front, fifo_add, fifo_restore, fifo_read, LifoPopStage}
use Rattle.model.specs.Stage.{lifo_back, lifo_front, lifo_store, lifo_reload, lifo_restore, lifo_last, lifo_exchange, job, lifo_won, lifo_read}
use Rattle.model.specs.Stage.{Popper, by_pop, by_batch, Stage, fifo_pop, lifo_pop, shrink, Out, going, ended}
use Rattle.model.specs.Tables.{Claim, Resized, more, failed, finished, resize_step, resized, shrink_step, fifo_step, lifo_step}
use Rattle.model.specs.Invariant.{Ok}
use Rattle.model.specs.Memory.{note_resize}
use Rattle.link.specs.Map.{ix, resize_at, queue_for, noted, offer_for}
use Rattle.link.proofs.AgreeResize.{either, next_ix, Fits, Agrees, resized_for, ResizeNames, resize_agree}
use Rattle.parts.specs.Out.{Claim as CodeClaim}

module _ (fl : Flavour) (R : ℕ → ℕ → Ring) (k : ℕ) (new : Ring) (q : Queue) (cells : List ℕ) (w : Fits (R k) q cells) (gm : Claim) (gc : CodeClaim)
  where
    abbrev Same : Stage → Out → Type 0
    Same x o = Agrees fl fl R k new gm gc cells x q o

    after_resize : (a : Popper) (v : ℕ) (z : ResizeStage) (r : Resized) (l : List ℕ)
        → resize_of (resize_at new z) (queue_for fl (R k) q) gc cells ≡ resizing (resized_for fl (R k) new r) l
        → l ≡ noted (note_resize gm z) (R k q.ring) new cells
        → Same (shrink a v z) (resized r (λ y. going q (shrink a v y)) (ended q (job a v)) (λ r. ended r (job a v)))
    after_resize by_pop v z (more y) l e f = rw (e, f)
    after_resize by_pop v z failed l e f = rw (e, f)
    after_resize by_pop v z (finished r) l e f = rw (e, f)
    after_resize by_batch v z (more y) l e f = rw (e, f)
    after_resize by_batch v z failed l e f = rw (e, f)
    after_resize by_batch v z (finished r) l e f = rw (e, f)

    pub shrink_agree : (a : Popper) (v : ℕ) (z : ResizeStage) → Ok fl (shrink a v z) q → ResizeNames (R k) new gm gc z q
        → Same (shrink a v z) (shrink_step (offer_for gm (shrink a v z) q) a v z q)
    unfolding shrink_step
    shrink_agree a v z o h =
        after_resize a v z (resize_step gm z q) (noted (note_resize gm z) (R k q.ring) new cells)
        (resize_agree fl (R k) new q cells w 0 gm gc z o.stage h) refl

    -- ---- FIFO

    pub fifo_agree : (a : Popper) (p : FifoPopStage) → Ok fl (fifo_pop a p) q → Same (fifo_pop a p) (fifo_step (offer_for gm (fifo_pop a p) q) a p q)
    unfolding fifo_step
    fifo_agree a fifo_back o = refl
    fifo_agree a (fifo_front b) o =
        let sf = w.front in
        let sb = w.back in
        let e = o.stage.1 in
        let t₁ = empty_is b q.front (omega arith) (omega arith) in
        let t₂ = length_is b q.front (omega arith) (omega arith) in
        either (leb b q.front) (λ t. said a t₁ t) (λ t. rw (t₁, t₂, t))
      where
        said : (a : Popper) → empty_b (ix b) (ix q.front) ≡ leb b q.front → leb b q.front ≡ true
            → Same (fifo_pop a (fifo_front b)) (fifo_step (offer_for gm (fifo_pop a (fifo_front b)) q) a (fifo_front b) q)
        said by_pop e t = rw (e, t)
        said by_batch e t = rw (e, t)
    fifo_agree a (fifo_add b others) o =
        let sf = w.front in
        let sb = w.back in
        let e = o.stage.1.0 in
        let n = next_ix q.front (omega arith) in
        let t₁ = behind_is b (suc q.front) (omega arith) (omega arith) in
        either (ltb b (suc q.front)) (λ t. rw (n, t₁, t)) (λ t. rw (n, t₁, t))
    fifo_agree by_pop (fifo_restore f) o = refl
    fifo_agree by_batch (fifo_restore f) o = refl
    fifo_agree a (fifo_read f others) o =
        let c : ℕ = (R k q.ring).capacity in
        let ca : c ≡ cap q = w.capacity in
        let few : Bool = ltb smallest c && leb (others + 1) (c / 4) in
        either few
        (λ t. (let z = both (ltb smallest c) (leb (others + 1) (c / 4)) t in
        let l = ltb-true smallest c z.0 in
        let m = leb-true (others + 1) (c / 4) z.1 in
        let u : ltb 0 (c / 2) ≡ true = lt-ltb 0 (c / 2) (omega arith) in
        let x : leb (suc others) (c / 2) ≡ true = le-leb (suc others) (c / 2) (omega arith) in
        rw (w.reads f, ← ca, t, u, x)))
        (λ t. done a ca t)
      where
        done : (a : Popper) → (R k q.ring).capacity ≡ cap q → (ltb smallest (R k q.ring).capacity && leb (others + 1) ((R k q.ring).capacity / 4)) ≡ false
            → Same (fifo_pop a (fifo_read f others)) (fifo_step (offer_for gm (fifo_pop a (fifo_read f others)) q) a (fifo_read f others) q)
        done by_pop ca t = rw (w.reads f, ← ca, t)
        done by_batch ca t = rw (w.reads f, ← ca, t)

    -- ---- LIFO

    pub lifo_agree : (a : Popper) (p : LifoPopStage) → Ok fl (lifo_pop a p) q → Same (lifo_pop a p) (lifo_step (offer_for gm (lifo_pop a p) q) a p q)
    unfolding lifo_step
    lifo_agree a lifo_back o = refl
    lifo_agree a (lifo_front b) o =
        let sf = w.front in
        let sb = w.back in
        let e = o.stage.1 in
        let t₁ = empty_is b q.front (omega arith) (omega arith) in
        either (leb b q.front) (λ t. said a t₁ t) (λ t. rw (t₁, t))
      where
        said : (a : Popper) → empty_b (ix b) (ix q.front) ≡ leb b q.front → leb b q.front ≡ true
            → Same (lifo_pop a (lifo_front b)) (lifo_step (offer_for gm (lifo_pop a (lifo_front b)) q) a (lifo_front b) q)
        said by_pop e t = rw (e, t)
        said by_batch e t = rw (e, t)
    lifo_agree a (lifo_store b) o =
        let sb = w.back in let e = o.stage.1 in rw (minus_is b 1 (omega arith) (omega arith))
    lifo_agree a (lifo_reload b) o =
        let sf = w.front in
        let sb = w.back in
        let e = o.stage.1 in
        let m = minus_is b 1 (omega arith) (omega arith) in
        let t₁ = behind_is (b - 1) q.front (omega arith) (omega arith) in
        let t₂ = empty_is (b - 1) q.front (omega arith) (omega arith) in
        let t₃ = length_is (b - 1) q.front (omega arith) (omega arith) in
        either (ltb (b - 1) q.front) (λ t. rw (m, t₁, t))
        (λ t. either (leb (b - 1) q.front) (λ u. rw (m, t₁, t, t₂, u)) (λ u. rw (m, t₁, t, t₂, u, t₃)))
    lifo_agree by_pop (lifo_restore b) o = refl
    lifo_agree by_batch (lifo_restore b) o = refl
    lifo_agree a (lifo_last b) o =
        let sb = w.back in let e = o.stage.1 in rw (minus_is b 1 (omega arith) (omega arith), w.reads (b - 1))
    lifo_agree a (lifo_exchange b v) o =
        let sb = w.back in
        let e = o.stage.1 in
        let m = minus_is b 1 (omega arith) (omega arith) in
        let n = next_ix (b - 1) (omega arith) in
        let s = same_is q.front (b - 1) in
        either (eqb q.front (b - 1)) (λ t. rw (m, n, s, t)) (λ t. rw (m, n, s, t))
    lifo_agree by_pop (lifo_won b v) o = refl
    lifo_agree by_batch (lifo_won b v) o = refl
    lifo_agree a (lifo_read b others) o =
        let sb = w.back in
        let e = o.stage.1 in
        let c : ℕ = (R k q.ring).capacity in
        let ca : c ≡ cap q = w.capacity in
        let m = minus_is b 1 (omega arith) (omega arith) in
        let few : Bool = ltb smallest c && ltb (others + 1) (c / 4) in
        either few
        (λ t. (let z = both (ltb smallest c) (ltb (others + 1) (c / 4)) t in
        let l = ltb-true smallest c z.0 in
        let n = ltb-true (others + 1) (c / 4) z.1 in
        let u : ltb 0 (c / 2) ≡ true = lt-ltb 0 (c / 2) (omega arith) in
        let x : leb (suc others) (c / 2) ≡ true = le-leb (suc others) (c / 2) (omega arith) in
        rw (m, w.reads (b - 1), ← ca, t, u, x)))
        (λ t. done a m ca t)
      where
        done : (a : Popper) → minus_of (ix b) 1 ≡ ix (b - 1) → (R k q.ring).capacity ≡ cap q
            → (ltb smallest (R k q.ring).capacity && ltb (others + 1) ((R k q.ring).capacity / 4)) ≡ false
            → Same (lifo_pop a (lifo_read b others)) (lifo_step (offer_for gm (lifo_pop a (lifo_read b others)) q) a (lifo_read b others) q)
        done by_pop m ca t = rw (m, w.reads (b - 1), ← ca, t)
        done by_batch m ca t = rw (m, w.reads (b - 1), ← ca, t)
