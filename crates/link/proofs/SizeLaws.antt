-- A resize goes to an allowed capacity, and the ring that is built has it.
use Rattle.std.proofs.Common.{◌≡◌, ℕ, suc, ◌+◌, ◌-◌, ◌*◌, ◌/◌, ◌<◌, ◌≤◌, Bool, true, false, ◌&&◌, T, eqb, ltb, leb, sym, refl, ap, ⊎_elim, arith, ltb-true, Some, None}
use Rattle.base.specs.Tests.{pick, by_test, tests, le_or_lt}
use Rattle.ring.specs.declared.Ring.{Ring}
use Rattle.ring.specs.Capacity.{smallest, largest, allowed_b, twice_of, holding_of}
use Rattle.ring.proofs.CapacityLaws.{twice_below, twice_above, twice_allowed, half_allowed, holding_least, holding_over, holding_allowed}
use Rattle.model.specs.Stage.{Flavour, fifo, lifo, Queue, cell, at, cap, set_front, set_cell, ResizeStage, resize_back, resize_front, resize_copy}
use Rattle.model.specs.Stage.{resize_swap, PushStage, push_back, push_front, push_resize, push_write, push_store, FifoPopStage, fifo_back, fifo_front}
use Rattle.model.specs.Stage.{fifo_add, fifo_restore, fifo_read, LifoPopStage, lifo_back, lifo_front, lifo_store, lifo_reload, lifo_restore}
use Rattle.model.specs.Stage.{lifo_last, lifo_exchange, job, lifo_won, lifo_read, own, Popper, StealStage, steal_front, steal_back, steal_ring}
use Rattle.model.specs.Stage.{steal_read, steal_reload, steal_exchange, LengthStage, length_back, length_front, BatchKind, plain, and_pop, some, Haul}
use Rattle.model.specs.Stage.{source, SourceStage, source_front, source_back, source_ring, source_first, all_copy, all_reload, all_exchange}
use Rattle.model.specs.Stage.{one_first, one_back, one_read, one_reload, one_exchange, OwnStage, reserve_back, reserve_front, reserve_resize}
use Rattle.model.specs.Stage.{own_back, all_write, one_write, swap_near, swap_far, swap_put, swap_last, own_store, Stage, idle, push, fifo_pop}
use Rattle.model.specs.Stage.{lifo_pop, shrink, steal, len, own_batch, no_ring, Out, going, ended}
use Rattle.model.specs.Tables.{Claim, lost, got, Resized, more, failed, finished, claimed, resize_step, resized, push_step, reading, shrink_step}
use Rattle.model.specs.Tables.{fifo_step, lifo_step, steal_step, length_step, own_batch_step, wanted, hauling, with_job, onward, copy_next, stopped, holding}
use Rattle.model.specs.Tables.{first_read, source_step, own_step}
use Rattle.model.specs.Machine.{touched, step_at}
use Rattle.model.specs.Invariant.{PushOk, Ok}
use Rattle.model.proofs.Pops.{both_of}
use Rattle.model.proofs.Batch.{by_swap, by_stopped, by_turning, by_copy}
use Rattle.link.specs.Map.{size_of, offer_for, ClaimIs, ResizeClaims, PushClaims, OwnClaims, StageClaims}
use Rattle.link.specs.Linked.{ResizeFits, PushFits, OwnFits, StageFits}
use Rattle.parts.specs.Out.{Claim as CodeClaim}

-- q: the own queue; new: the ring that a claim made in this step gets; gm: what that claim finds
module _ (new : Ring) (q : Queue) (ca : allowed_b (cap q) ≡ true) (gm : Claim) (gc : CodeClaim) where
  abbrev Fine : Resized → Type 0
  Fine (more z) = ResizeFits new.capacity z
  Fine failed = Unit
  Fine (finished r) = Unit

  resize_fine : (z : ResizeStage) → ResizeFits new.capacity z → ResizeClaims new gm gc z → Fine (resize_step gm z q)
  unfolding resize_step
  resize_fine (resize_back c) h e = h
  resize_fine (resize_front c b) h e = go gm gc e
    where
      go : (g : Claim) (k : CodeClaim) → ClaimIs new c g k → Fine (claimed g c b q.front)
      go lost k e = tt
      go (got f) None e = absurd e
      go (got f) (Some r) e =
          let z : new.capacity ≡ c = ap (λ (r : Ring). r.capacity) (sym e) in by_test Fine (eqb q.front b) _ _ (λ t. z) (λ t. z)
  resize_fine (resize_copy c b i f) h e = by_test Fine (eqb (suc i) b) _ _ (λ t. h) (λ t. h)
  resize_fine (resize_swap c f) h e = tt

  by_fine : (P : Out → Type 0) (res : Resized) (k : ResizeStage → Out) (e : Out) (d : Queue → Out) → Fine res
      → ((z : ResizeStage) → ResizeFits new.capacity z → P (k z)) → P e → ((r : Queue) → P (d r)) → P (resized res k e d)
  by_fine P (more z) k e d h a b c = a z h
  by_fine P failed k e d h a b c = b
  by_fine P (finished r) k e d h a b c = c r

  abbrev Good : Out → Type 0
  Good o = StageFits new.capacity o.stage

  -- a capacity that has room for more than the queue's is allowed
  twice_fine : (b : ℕ) → q.front ≤ b → b < q.front + size_of (twice_of (cap q)) → allowed_b (size_of (twice_of (cap q))) ≡ true
  twice_fine b l h = ⊎_elim below above (le_or_lt (2 * cap q) largest)
    where
      below : 2 * cap q ≤ largest → allowed_b (size_of (twice_of (cap q))) ≡ true
      below u = let p : 0 < cap q = positive (2 * cap q) (rw (twice_below (cap q) u) at h) in
          let a = twice_allowed (cap q) ca (omega arith) in rw a.0 a.1
        where
          positive : (x : ℕ) → b < q.front + (2 * cap q) → 0 < cap q
          positive x y = omega arith

      above : largest < 2 * cap q → allowed_b (size_of (twice_of (cap q))) ≡ true
      above u = let z : b < q.front + 0 = rw (twice_above (cap q) u) at h in absurd (omega arith)

  push_fine : (x : ℕ) (p : PushStage) → q.front ≤ q.back → PushOk x p q → PushFits new.capacity p → PushClaims new gm gc p
      → Good (push_step (offer_for gm (push x p) q) x p q)
  unfolding push_step
  push_fine x push_back o r h e = tt
  push_fine x (push_front b) o r h e =
      by_test Good (leb (q.front + cap q) b) _ _
      (λ t. by_test Good (ltb b (q.front + size_of (twice_of (cap q)))) _ _ (λ u. twice_fine b (omega arith) (omega tests)) (λ u. tt)) (λ t. tt)
  push_fine x (push_resize b z) o r h e =
      by_fine Good (resize_step gm z q)
      (λ y. going q (push x (push_resize b y))) (ended q no_ring) (λ r. going r (push x (push_write b))) (resize_fine z h e)
      (λ y k. k) tt (λ r. tt)
  push_fine x (push_write b) o r h e = tt
  push_fine x (push_store b) o r h e = tt

  shrink_fine : (w : Popper) (v : ℕ) (z : ResizeStage) → ResizeFits new.capacity z → ResizeClaims new gm gc z
      → Good (shrink_step (offer_for gm (shrink w v z) q) w v z q)
  unfolding shrink_step
  shrink_fine w v z h e =
      by_fine Good (resize_step gm z q)
      (λ y. going q (shrink w v y)) (ended q (job w v)) (λ r. ended r (job w v)) (resize_fine z h e) (λ y k. k) tt (λ r. tt)

  -- a capacity that is offered to a pop, if it is not 0
  half_fine : (few : Bool) → ltb smallest (cap q) ≡ true → allowed_b (cap q / 2) ≡ true
  half_fine few h = half_allowed (cap q) ca (ltb-true smallest (cap q) h)

  offer_fine : (a b : Bool) → (a ≡ true → allowed_b (cap q / 2) ≡ true) → T (ltb 0 (pick (a && b) (cap q / 2) 0))
      → allowed_b (pick (a && b) (cap q / 2) 0) ≡ true
  offer_fine true true h t = h refl
  offer_fine true false h t = absurd t
  offer_fine false b h t = absurd t

  reading_fine : (w : Popper) (a b : Bool) (d v : ℕ) → (a ≡ true → allowed_b (cap q / 2) ≡ true)
      → Good (reading (record { capacity = pick (a && b) (cap q / 2) 0; claim = gm }) w d v q)
  reading_fine w a b d v h =
      let c : ℕ = pick (a && b) (cap q / 2) 0 in
      by_test Good (ltb 0 c && leb d c) _ _ (λ t. offer_fine a b h (both_of (ltb 0 c) (leb d c) t).0) (λ t. tt)

  fifo_fine : (w : Popper) (p : FifoPopStage) → Good (fifo_step (offer_for gm (fifo_pop w p) q) w p q)
  unfolding fifo_step
  fifo_fine w fifo_back = tt
  fifo_fine w (fifo_front b) = by_test Good (leb b q.front) _ _ (λ t. tt) (λ t. tt)
  fifo_fine w (fifo_add b others) = by_test (λ (x : Stage). StageFits new.capacity x) (ltb b (suc q.front)) _ _ (λ t. tt) (λ t. tt)
  fifo_fine w (fifo_restore f) = tt
  fifo_fine w (fifo_read f others) = reading_fine w (ltb smallest (cap q)) (leb (others + 1) (cap q / 4)) (suc others) (at q f) (half_fine true)

  lifo_fine : (w : Popper) (p : LifoPopStage) → Good (lifo_step (offer_for gm (lifo_pop w p) q) w p q)
  unfolding lifo_step
  lifo_fine w lifo_back = tt
  lifo_fine w (lifo_front b) = by_test Good (leb b q.front) _ _ (λ t. tt) (λ t. tt)
  lifo_fine w (lifo_store b) = tt
  lifo_fine w (lifo_reload b) =
      by_test (λ (x : Stage). StageFits new.capacity x) (ltb (b - 1) q.front) _ _ (λ t. tt)
      (λ t. by_test (λ (x : Stage). StageFits new.capacity x) (leb (b - 1) q.front) _ _ (λ u. tt) (λ u. tt))
  lifo_fine w (lifo_restore b) = tt
  lifo_fine w (lifo_last b) = tt
  lifo_fine w (lifo_exchange b v) = by_test Good (eqb q.front (b - 1)) _ _ (λ t. tt) (λ t. tt)
  lifo_fine w (lifo_won b v) = tt
  lifo_fine w (lifo_read b others) = reading_fine w (ltb smallest (cap q)) (ltb (others + 1) (cap q / 4)) (suc others) (at q (b - 1)) (half_fine true)

  holding_fine : (x : ℕ) → 0 < x → x ≤ size_of (holding_of x) → allowed_b (size_of (holding_of x)) ≡ true
  holding_fine x p h = ⊎_elim below above (le_or_lt x largest)
    where
      below : x ≤ largest → allowed_b (size_of (holding_of x)) ≡ true
      below u = let y = holding_least x u in rw y.1 (holding_allowed x y.0 y.1).1

      above : largest < x → allowed_b (size_of (holding_of x)) ≡ true
      above u = let z : x ≤ 0 = rw (holding_over x u) at h in absurd (omega arith)

  own_fine : (fo : Flavour) (k : ℕ) (p : OwnStage) → OwnFits new.capacity p → OwnClaims new gm gc p
      → Good (own_step (offer_for gm (own k p) q) fo k p q)
  unfolding own_step
  own_fine fo k (reserve_back w) h e = tt
  own_fine fo k (reserve_front w b) h e =
      let x : ℕ = b - q.front + w.n in
      by_test Good (leb x (cap q)) _ _ (λ t. tt)
      (λ t. by_test Good (leb x (size_of (holding_of x))) _ _ (λ u. holding_fine x (omega tests) (omega tests)) (λ u. tt))
  own_fine fo k (reserve_resize w z) h e =
      by_fine Good (resize_step gm z q)
      (λ y. going q (own k (reserve_resize w y))) (ended q no_ring) (λ r. going r (own k (own_back w))) (resize_fine z h e)
      (λ y k. k) tt (λ r. tt)
  own_fine fo k (own_back w) h e = tt
  own_fine fo k (all_write j i v) h e = by_copy (StageFits new.capacity) k j (suc i) (λ t. tt) (λ t. tt)
  own_fine fo k (one_write j i v) h e =
      by_turning Good fo k j (suc i) (set_cell q (j.b + i) v)
      (λ t. by_stopped Good fo k j (suc i) (set_cell q (j.b + i) v) (λ a z. tt) (λ z. tt) tt) (λ t. tt)
  own_fine fo k (swap_near j x) h e = tt
  own_fine fo k (swap_far j x near) h e = tt
  own_fine fo k (swap_put j x near far) h e = tt
  own_fine fo k (swap_last j x near) h e = by_swap (StageFits new.capacity) k j (suc x) (λ t. tt) tt
  own_fine fo k (own_store j) h e = tt

-- ---- a step on a source begins no resize

module _ (C : ℕ) (q : Queue) where
  abbrev Plain : Out → Type 0
  Plain o = StageFits C o.stage

  stop_plain : (fo : Flavour) (k : ℕ) (h : Haul) (i : ℕ) (r : Queue) → Plain (stopped fo k h i r)
  stop_plain fo k h i r = by_stopped Plain fo k h i r (λ a z. tt) (λ z. tt) tt

  copy_plain : (k : ℕ) (h : Haul) → StageFits C (copy_next k h 0)
  copy_plain k h = by_copy (StageFits C) k h 0 (λ t. tt) (λ t. tt)

  hold_plain : (fs fo : Flavour) (k : ℕ) (m : BatchKind) (h : Haul) → Plain (holding m fs fo k h q)
  hold_plain fifo fo k plain h = copy_plain k h
  hold_plain lifo fo k plain h = by_test Plain (leb h.n 0) _ _ (λ t. stop_plain fo k h 0 q) (λ t. tt)
  hold_plain fifo fo k and_pop h = tt
  hold_plain lifo fo k and_pop h = tt

  first_plain : (fs : Flavour) (k : ℕ) (h : Haul) (v : ℕ) → StageFits C (first_read fs k h v)
  first_plain fifo k h v = copy_plain k (with_job h v)
  first_plain lifo k h v = tt

  source_plain : (fs fo : Flavour) (k : ℕ) (p : SourceStage) → Plain (source_step fs fo k p q)
  unfolding source_step
  source_plain fs fo k (source_front m others) = tt
  source_plain fs fo k (source_back m others f) =
      by_test Plain (leb q.back f) _ _ (λ t. tt) (λ t. by_test (StageFits C) (eqb (wanted m (q.back - f) others) 0) _ _ (λ u. tt) (λ u. tt))
  source_plain fs fo k (source_ring w b) = hold_plain fs fo k w.kind (hauling q.ring w b)
  source_plain fs fo k (source_first h) = first_plain fs k h (cell q h.ring h.f)
  source_plain fs fo k (all_copy h i) = tt
  source_plain fs fo k (all_reload h) = by_test Plain (eqb h.ring q.ring) _ _ (λ t. tt) (λ t. tt)
  source_plain fs fo k (all_exchange h) = by_test Plain (eqb q.front h.f) _ _ (λ t. tt) (λ t. tt)
  source_plain fs fo k (one_first h v) =
      by_test Plain (eqb q.front h.f) _ _
      (λ t. by_turning Plain fo k (onward h (some v)) 0 (set_front q (suc h.f)) (λ u. stop_plain fo k (onward h (some v)) 0 (set_front q (suc h.f))) (λ u. tt)) (λ t. tt)
  source_plain fs fo k (one_back h i) = by_test Plain (leb q.back h.f) _ _ (λ t. stop_plain fo k h i q) (λ t. tt)
  source_plain fs fo k (one_read h i) = tt
  source_plain fs fo k (one_reload h i v) = by_test Plain (eqb h.ring q.ring) _ _ (λ t. tt) (λ t. stop_plain fo k h i q)
  source_plain fs fo k (one_exchange h i v) = by_test Plain (eqb q.front h.f) _ _ (λ t. tt) (λ t. stop_plain fo k h i q)

  steal_plain : (k : ℕ) (p : StealStage) → Plain (steal_step k p q)
  unfolding steal_step
  steal_plain k steal_front = tt
  steal_plain k (steal_back f) = by_test Plain (leb q.back f) _ _ (λ t. tt) (λ t. tt)
  steal_plain k (steal_ring f) = tt
  steal_plain k (steal_read r f) = tt
  steal_plain k (steal_reload r f v) = by_test Plain (eqb r q.ring) _ _ (λ t. tt) (λ t. tt)
  steal_plain k (steal_exchange r f v) = by_test Plain (eqb q.front f) _ _ (λ t. tt) (λ t. tt)

  length_plain : (k : ℕ) (p : LengthStage) → Plain (length_step k p q)
  unfolding length_step
  length_plain k length_back = tt
  length_plain k (length_front b) = tt

  own_batch_plain : (p : LengthStage) → Plain (own_batch_step p q)
  unfolding own_batch_step
  own_batch_plain length_back = tt
  own_batch_plain (length_front b) = tt

-- any step of thread t, at stage x
pub step_fits : (fl : ℕ → Flavour) (t : ℕ) (new : Ring) (x : Stage) (q : Queue) (gm : Claim) (gc : CodeClaim)
    → (touched t x ≡ t → allowed_b (cap q) ≡ true)
    → (touched t x ≡ t → Ok (fl t) x q) → StageFits new.capacity x → StageClaims new gm gc x
    → StageFits new.capacity (step_at (offer_for gm x q) fl t x q).stage
step_fits fl t new idle q gm gc a o h e = tt
step_fits fl t new (push x p) q gm gc a o h e = push_fine new q (a refl) gm gc x p (o refl).order (o refl).stage h e
step_fits fl t new (fifo_pop w p) q gm gc a o h e = fifo_fine new q (a refl) gm gc w p
step_fits fl t new (lifo_pop w p) q gm gc a o h e = lifo_fine new q (a refl) gm gc w p
step_fits fl t new (shrink w v z) q gm gc a o h e = shrink_fine new q (a refl) gm gc w v z h e
step_fits fl t new (steal k p) q gm gc a o h e = steal_plain new.capacity q k p
step_fits fl t new (len k p) q gm gc a o h e = length_plain new.capacity q k p
step_fits fl t new (own_batch p) q gm gc a o h e = own_batch_plain new.capacity q p
step_fits fl t new (source k p) q gm gc a o h e = source_plain new.capacity q (fl k) (fl t) k p
step_fits fl t new (own k p) q gm gc a o h e = own_fine new q (a refl) gm gc (fl t) k p h e
