-- The tables agree: push.
use Rattle.std.proofs.Common.{◌≡◌, ℕ, ◌+◌, ◌*◌, true, false, ltb, leb, List, refl, ⊎_elim, arith, le-ltb, lt-ltb}
use Rattle.base.specs.Tests.{le_or_lt}
use Rattle.index.proofs.Laws.{full_is}
use Rattle.ring.specs.declared.Ring.{Ring}
use Rattle.ring.specs.Capacity.{largest}
use Rattle.ring.proofs.CapacityLaws.{twice_below, twice_above}
use Rattle.op_resize.specs.Resize.{resizing, resize_of}
use Rattle.model.specs.Stage.{Flavour, Queue, cap, ResizeStage, PushStage, push_back, push_front, push_resize, push_write, push_store, Stage, push}
use Rattle.model.specs.Stage.{no_ring, Out, going, ended}
use Rattle.model.specs.Tables.{Claim, Resized, more, failed, finished, resize_step, resized, push_step}
use Rattle.model.specs.Invariant.{Ok}
use Rattle.model.specs.Memory.{note_resize}
use Rattle.link.specs.Map.{resize_at, queue_for, noted, offer_for}
use Rattle.link.proofs.AgreeResize.{either, next_ix, Fits, Agrees, resized_for, ResizeNames, resize_agree}
use Rattle.parts.specs.Out.{Claim as CodeClaim}

abbrev pub PushNames : (ℕ → Ring) → Ring → Claim → CodeClaim → PushStage → Queue → Type 0
PushNames R new gm gc push_back q = Unit
PushNames R new gm gc (push_front b) q = Unit
PushNames R new gm gc (push_resize b z) q = ResizeNames R new gm gc z q
PushNames R new gm gc (push_write b) q = Unit
PushNames R new gm gc (push_store b) q = Unit

module _ (fl : Flavour) (R : ℕ → ℕ → Ring) (k : ℕ) (new : Ring) (q : Queue) (cells : List ℕ) (w : Fits (R k) q cells) (gm : Claim) (gc : CodeClaim)
  where
    abbrev SaysSame : Stage → Out → Type 0
    SaysSame x o = Agrees fl fl R k new gm gc cells x q o

    after_resize : (x b : ℕ) (z : ResizeStage) (r : Resized) (l : List ℕ)
        → resize_of (resize_at new z) (queue_for fl (R k) q) gc cells ≡ resizing (resized_for fl (R k) new r) l
        → l ≡ noted (note_resize gm z) (R k q.ring) new cells
        → SaysSame (push x (push_resize b z)) (resized r (λ y. going q (push x (push_resize b y))) (ended q no_ring) (λ r. going r (push x (push_write b))))
    after_resize x b z (more y) l e f = rw (e, f)
    after_resize x b z failed l e f = rw (e, f)
    after_resize x b z (finished r) l e f = rw (e, f)

    pub push_agree : (x : ℕ) (p : PushStage) → Ok fl (push x p) q → PushNames (R k) new gm gc p q
        → SaysSame (push x p) (push_step (offer_for gm (push x p) q) x p q)
    unfolding push_step
    push_agree x push_back o h = refl
    push_agree x (push_front b) o h =
        let sf = w.front in
        let sb = w.back in
        let e : b ≡ q.back = o.stage in
        let c : ℕ = (R k q.ring).capacity in
        let ca : c ≡ cap q = w.capacity in
        let full = full_is b q.front (omega arith) (omega arith) c in
        let or = o.order in
        let fi = o.fits in
        let po = o.some_cap in
        either (leb (q.front + c) b)
        (λ t. ⊎_elim
        (λ l. (let u : ltb b (q.front + 2 * c) ≡ true = lt-ltb b (q.front + 2 * c) (omega arith) in rw (← ca, full, t, twice_below c l, u)))
        (λ l. (let u : ltb b (q.front + 0) ≡ false = le-ltb b (q.front + 0) (omega arith) in rw (← ca, full, t, twice_above c l, u)))
        (le_or_lt (2 * c) largest))
        (λ t. rw (← ca, full, t))
    push_agree x (push_resize b z) o h =
        after_resize x b z (resize_step gm z q) (noted (note_resize gm z) (R k q.ring) new cells)
        (resize_agree fl (R k) new q cells w 1 gm gc z o.stage.1 h) refl
    push_agree x (push_write b) o h = refl
    push_agree x (push_store b) o h = let sb = w.back in let e = o.stage.0.0 in rw (next_ix b (omega arith))
