-- No index passes the number of calls, but for a front that a FIFO pop is about to put back: so fewer than 2^62 calls never wrap a 64-bit index.
use mathlib.Core.Path.{◌≡◌, refl}
use mathlib.Core.Bool.{◌&&◌}
use Prim.Native.Nat.{ℕ, suc, ◌+◌, ◌-◌, ◌≤◌, ◌<◌}
use native.Mathlib.Omega.{arith}
use native.Mathlib.Decide.{ℕ_discrete}
use lib.Dec.{T, leb, ltb, eqb}
use Rattle.base.specs.Tests.{by_test}
use Rattle.model.specs.Count.{upd}
use Rattle.model.specs.Stage.{Flavour, fifo, lifo, Queue, cell, at, cap, set_front, set_cell, ResizeStage, resize_back, resize_front, resize_copy}
use Rattle.model.specs.Stage.{resize_swap, PushStage, push_back, push_front, push_resize, push_write, push_store, FifoPopStage, fifo_back}
use Rattle.model.specs.Stage.{fifo_front, fifo_add, fifo_restore, fifo_read, LifoPopStage, lifo_back, lifo_front, lifo_store, lifo_reload}
use Rattle.model.specs.Stage.{lifo_restore, lifo_last, lifo_exchange, job, lifo_won, lifo_read, own, Popper, by_pop, by_batch, StealStage}
use Rattle.model.specs.Stage.{steal_front, steal_back, steal_ring, steal_read, steal_reload, steal_exchange, LengthStage, length_back}
use Rattle.model.specs.Stage.{length_front, BatchKind, plain, and_pop, some, Haul, source, SourceStage, source_front, source_back, source_ring}
use Rattle.model.specs.Stage.{source_first, all_copy, all_reload, all_exchange, one_first, one_back, one_read, one_reload, one_exchange}
use Rattle.model.specs.Stage.{OwnStage, reserve_back, reserve_front, reserve_resize, own_back, all_write, one_write, swap_near, swap_far}
use Rattle.model.specs.Stage.{swap_put, swap_last, own_store, Stage, idle, push, fifo_pop, lifo_pop, shrink, steal, len, own_batch, no_ring, Out}
use Rattle.model.specs.Stage.{going, ended}
use Rattle.model.specs.Tables.{Claim, lost, got, Offer, Resized, more, failed, finished, resize_step, resized, push_step, reading, shrink_step}
use Rattle.model.specs.Tables.{fifo_step, lifo_step, steal_step, length_step, own_batch_step, wanted, hauling, with_job, onward, copy_next, slot}
use Rattle.model.specs.Tables.{stopped, holding, first_read, source_step, own_step}
use Rattle.model.specs.Machine.{State, busy, stored, stepped, Operation, do_push, do_pop, do_length, do_steal, do_batch, popping, from_own}
use Rattle.model.specs.Machine.{first_stage, begun}
use Rattle.model.specs.Logical.{hi}
use Rattle.model.specs.Invariant.{PushOk, LifoOk, OwnOk, Ok, Aware, Inv}
use Rattle.model.specs.Bound.{earned_own, earned_source, earned, early, Bounded}
use Rattle.model.proofs.CountLaws.{upd_same, upd_other}
use Rattle.model.proofs.Batch.{by_swap, by_stopped, by_turning, by_copy}

-- ---- the front is never more than one past the back, nor the logical back

front_fifo : (fl : Flavour) (w : Popper) (p : FifoPopStage) (q : Queue) → Ok fl (fifo_pop w p) q
    → (q.front ≤ suc q.back) × (hi (fifo_pop w p) q ≤ suc q.back)
front_fifo fl w fifo_back q o = omega (arith, o.order)
front_fifo fl w (fifo_front b) q o = omega (arith, o.order)
front_fifo fl w (fifo_add b others) q o = omega (arith, o.order)
front_fifo fl w (fifo_restore f) q o = omega (arith, o.stage.1.0, o.stage.1.1)
front_fifo fl w (fifo_read f others) q o = omega (arith, o.order)

front_lifo : (fl : Flavour) (w : Popper) (p : LifoPopStage) (q : Queue) → Ok fl (lifo_pop w p) q
    → (q.front ≤ suc q.back) × (hi (lifo_pop w p) q ≤ suc q.back)
front_lifo fl w lifo_back q o = omega (arith, o.order)
front_lifo fl w (lifo_front b) q o = omega (arith, o.order)
front_lifo fl w (lifo_store b) q o = omega (arith, o.order)
front_lifo fl w (lifo_reload b) q o = omega arith
front_lifo fl w (lifo_restore b) q o = omega arith
front_lifo fl w (lifo_last b) q o = omega arith
front_lifo fl w (lifo_exchange b v) q o = omega arith
front_lifo fl w (lifo_won b v) q o = omega arith
front_lifo fl w (lifo_read b others) q o = omega (arith, o.order)

pub front_le : (fl : Flavour) (s : Stage) (q : Queue) → Ok fl s q → (q.front ≤ suc q.back) × (hi s q ≤ suc q.back)
front_le fl idle q o = omega (arith, o.order)
front_le fl (push x p) q o = omega (arith, o.order)
front_le fl (fifo_pop w p) q o = front_fifo fl w p q o
front_le fl (lifo_pop w p) q o = front_lifo fl w p q o
front_le fl (shrink w v z) q o = omega (arith, o.order)
front_le fl (steal k p) q o = omega (arith, o.order)
front_le fl (len k p) q o = omega (arith, o.order)
front_le fl (own_batch p) q o = omega (arith, o.order)
front_le fl (source k p) q o = omega (arith, o.order)
front_le fl (own k p) q o = omega (arith, o.order)

-- ---- a step on the own queue: back and credit grow by one at most; a step on another's: that back stays, and the credit grows by one at most

abbrev Slow : ℕ → Out → Type 0
Slow a o = (o.queue.back + earned o.stage ≤ suc a) × (early o.stage ≤ 0)

abbrev Slowly : (m b a : ℕ) → Out → Type 0
Slowly m b a o = (o.queue.back ≡ b) × (earned o.stage ≤ suc a) × (early o.stage ≤ m)

abbrev SameBack : Queue → Resized → Type 0
SameBack q (more z) = Unit
SameBack q failed = Unit
SameBack q (finished r) = r.back ≡ q.back

same_back : (g : Claim) (z : ResizeStage) (q : Queue) → SameBack q (resize_step g z q)
unfolding resize_step
same_back g (resize_back c) q = tt
same_back lost (resize_front c b) q = tt
same_back (got cells) (resize_front c b) q = by_test (SameBack q) (eqb q.front b) _ _ (λ w. tt) (λ w. tt)
same_back g (resize_copy c b i cells) q = by_test (SameBack q) (eqb (suc i) b) _ _ (λ w. tt) (λ w. tt)
same_back g (resize_swap c cells) q = refl

by_resized : (P : Out → Type 0) (q : Queue) (res : Resized) (k : ResizeStage → Out) (e : Out) (d : Queue → Out) → SameBack q res
    → ((z : ResizeStage) → P (k z)) → P e → ((r : Queue) → r.back ≡ q.back → P (d r)) → P (resized res k e d)
by_resized P q (more z) k e d h a b c = a z
by_resized P q failed k e d h a b c = b
by_resized P q (finished r) k e d h a b c = c r h

slow_push : (g : Offer) (x : ℕ) (p : PushStage) (q : Queue) → PushOk x p q → Slow (q.back + 0) (push_step g x p q)
unfolding push_step
slow_push g x push_back q o = omega arith
slow_push g x (push_front b) q o =
    by_test (Slow (q.back + 0)) (leb (q.front + cap q) b) _ _
    (λ t. by_test (Slow (q.back + 0)) (ltb b (q.front + g.capacity)) _ _ (λ u. omega arith) (λ u. omega arith)) (λ t. omega arith)
slow_push g x (push_resize b z) q o =
    by_resized (Slow (q.back + 0)) q (resize_step g.claim z q)
    (λ y. going q (push x (push_resize b y))) (ended q no_ring) (λ r. going r (push x (push_write b)))
    (same_back g.claim z q) (λ y. omega arith) (omega arith) (λ r e. omega arith)
slow_push g x (push_write b) q o = omega arith
slow_push g x (push_store b) q o = omega arith

slow_shrink : (g : Offer) (w : Popper) (v : ℕ) (z : ResizeStage) (q : Queue) → Slow (q.back + 0) (shrink_step g w v z q)
unfolding shrink_step
slow_shrink g w v z q =
    by_resized (Slow (q.back + 0)) q (resize_step g.claim z q) (λ y. going q (shrink w v y)) (ended q (job w v)) (λ r. ended r (job w v))
    (same_back g.claim z q) (λ y. omega arith) (omega arith) (λ r e. omega arith)

slow_reading : (g : Offer) (w : Popper) (d v : ℕ) (q : Queue) → Slow (q.back + 0) (reading g w d v q)
slow_reading g w d v q = by_test (Slow (q.back + 0)) (ltb 0 g.capacity && leb d g.capacity) _ _ (λ u. omega arith) (λ u. omega arith)

slow_fifo : (g : Offer) (w : Popper) (p : FifoPopStage) (q : Queue) → Slow (q.back + 0) (fifo_step g w p q)
unfolding fifo_step
slow_fifo g w fifo_back q = omega arith
slow_fifo g w (fifo_front b) q = by_test (Slow (q.back + 0)) (leb b q.front) _ _ (λ t. omega arith) (λ t. omega arith)
slow_fifo g w (fifo_add b others) q =
    by_test (λ (x : Stage). Slow (q.back + 0) (going (set_front q (suc q.front)) x)) (ltb b (suc q.front)) _ _ (λ t. omega arith) (λ t. omega arith)
slow_fifo g w (fifo_restore f) q = omega arith
slow_fifo g w (fifo_read f others) q = slow_reading g w (suc others) (at q f) q

slow_lifo : (g : Offer) (w : Popper) (p : LifoPopStage) (q : Queue) → LifoOk p q → Slow (q.back + 0) (lifo_step g w p q)
unfolding lifo_step
slow_lifo g w lifo_back q o = omega arith
slow_lifo g w (lifo_front b) q o = by_test (Slow (q.back + 0)) (leb b q.front) _ _ (λ t. omega arith) (λ t. omega arith)
slow_lifo g w (lifo_store b) q o = omega arith
slow_lifo g w (lifo_reload b) q o =
    let P : Stage → Type 0 = λ x. Slow (q.back + 0) (going q x) in
    by_test P (ltb (b - 1) q.front) _ _ (λ t. omega arith) (λ t. by_test P (leb (b - 1) q.front) _ _ (λ u. omega arith) (λ u. omega arith))
slow_lifo g w (lifo_restore b) q o = omega arith
slow_lifo g w (lifo_last b) q o = omega arith
slow_lifo g w (lifo_exchange b v) q o = by_test (Slow (q.back + 0)) (eqb q.front (b - 1)) _ _ (λ t. omega arith) (λ t. omega arith)
slow_lifo g w (lifo_won b v) q o = omega arith
slow_lifo g w (lifo_read b others) q o = slow_reading g w (suc others) (at q (b - 1)) q

slow_own : (g : Offer) (fo : Flavour) (k : ℕ) (p : OwnStage) (q : Queue) → OwnOk p q → Slow (q.back + earned_own p) (own_step g fo k p q)
unfolding own_step
slow_own g fo k (reserve_back w) q o = omega arith
slow_own g fo k (reserve_front w b) q o =
    by_test (Slow (q.back + 0)) (leb (b - q.front + w.n) (cap q)) _ _ (λ t. omega arith)
    (λ t. by_test (Slow (q.back + 0)) (leb (b - q.front + w.n) g.capacity) _ _ (λ u. omega arith) (λ u. omega arith))
slow_own g fo k (reserve_resize w z) q o =
    by_resized (Slow (q.back + 0)) q (resize_step g.claim z q)
    (λ y. going q (own k (reserve_resize w y))) (ended q no_ring) (λ r. going r (own k (own_back w)))
    (same_back g.claim z q) (λ y. omega arith) (omega arith) (λ r e. omega arith)
slow_own g fo k (own_back w) q o = omega arith
slow_own g fo k (all_write h i x) q o =
    by_copy (λ (s : Stage). Slow (q.back + i) (going (set_cell q (slot fo h i) x) s)) k h (suc i) (λ t. omega arith) (λ t. omega arith)
slow_own g fo k (one_write h i x) q o =
    by_turning (Slow (q.back + i)) fo k h (suc i) (set_cell q (h.b + i) x)
    (λ e. by_stopped (Slow (q.back + i)) fo k h (suc i) (set_cell q (h.b + i) x) (λ a z. omega arith) (λ z. omega arith) (omega arith)) (λ e. omega arith)
slow_own g fo k (swap_near h x) q o = omega arith
slow_own g fo k (swap_far h x near) q o = omega arith
slow_own g fo k (swap_put h x near far) q o = omega arith
slow_own g fo k (swap_last h x near) q o =
    by_swap (λ (s : Stage). Slow (q.back + h.n) (going (set_cell q (h.b + (h.n - suc x)) near) s)) k h (suc x) (λ c. omega arith) (omega arith)
slow_own g fo k (own_store h) q o = omega arith

module _ (m : ℕ) (q : Queue) (fm : q.front ≤ m) (bm : q.back ≤ m) where
  slow_stop : (fo : Flavour) (k : ℕ) (h : Haul) (i : ℕ) (r : Queue) → r.back ≡ q.back → Slowly m q.back i (stopped fo k h i r)
  slow_stop fo k h i r e =
      by_stopped (Slowly m q.back i) fo k h i r (λ a z. omega arith) (λ z. omega arith) omega arith

  slow_copy : (k : ℕ) (h : Haul) → Slowly m q.back 0 (going q (copy_next k h 0))
  slow_copy k h = by_copy (λ (x : Stage). Slowly m q.back 0 (going q x)) k h 0 (λ t. omega arith) (λ t. omega arith)

  slow_held : (fs fo : Flavour) (k : ℕ) (a : BatchKind) (h : Haul) → Slowly m q.back 0 (holding a fs fo k h q)
  slow_held fifo fo k plain h = slow_copy k h
  slow_held lifo fo k plain h =
      by_test (Slowly m q.back 0) (leb h.n 0) _ _ (λ t. slow_stop fo k h 0 q refl) (λ t. omega arith)
  slow_held fifo fo k and_pop h = omega arith
  slow_held lifo fo k and_pop h = omega arith

  slow_first : (fs : Flavour) (k : ℕ) (h : Haul) (v : ℕ) → Slowly m q.back 0 (going q (first_read fs k h v))
  slow_first fifo k h v = slow_copy k (with_job h v)
  slow_first lifo k h v = omega arith

  slow_source : (fs fo : Flavour) (k : ℕ) (p : SourceStage) → Slowly m q.back (earned_source p) (source_step fs fo k p q)
  unfolding source_step
  slow_source fs fo k (source_front a others) = omega arith
  slow_source fs fo k (source_back a others f) =
      by_test (Slowly m q.back 0) (leb q.back f) _ _ (λ t. omega arith)
      (λ t. by_test (λ (x : Stage). Slowly m q.back 0 (going q x)) (eqb (wanted a (q.back - f) others) 0) _ _ (λ u. omega arith) (λ u. omega arith))
  slow_source fs fo k (source_ring w b) = slow_held fs fo k w.kind (hauling q.ring w b)
  slow_source fs fo k (source_first h) = slow_first fs k h (cell q h.ring h.f)
  slow_source fs fo k (all_copy h i) = omega arith
  slow_source fs fo k (all_reload h) =
      by_test (Slowly m q.back h.n) (eqb h.ring q.ring) _ _ (λ t. omega arith) (λ t. omega arith)
  slow_source fs fo k (all_exchange h) =
      by_test (Slowly m q.back h.n) (eqb q.front h.f) _ _ (λ t. omega arith) (λ t. omega arith)
  slow_source fs fo k (one_first h x) =
      by_test (Slowly m q.back 0) (eqb q.front h.f) _ _
      (λ t. by_turning (Slowly m q.back 0) fo k (onward h (some x)) 0 (set_front q (suc h.f))
      (λ z. slow_stop fo k (onward h (some x)) 0 (set_front q (suc h.f)) refl) (λ z. omega arith))
      (λ t. omega arith)
  slow_source fs fo k (one_back h i) =
      by_test (Slowly m q.back i) (leb q.back h.f) _ _ (λ t. slow_stop fo k h i q refl) (λ t. omega arith)
  slow_source fs fo k (one_read h i) = omega arith
  slow_source fs fo k (one_reload h i x) =
      by_test (Slowly m q.back i) (eqb h.ring q.ring) _ _ (λ t. omega arith) (λ t. slow_stop fo k h i q refl)
  slow_source fs fo k (one_exchange h i x) =
      by_test (Slowly m q.back i) (eqb q.front h.f) _ _ (λ t. omega arith) (λ t. slow_stop fo k h i q refl)

  slow_steal : (k : ℕ) (p : StealStage) → Slowly m q.back 0 (steal_step k p q)
  unfolding steal_step
  slow_steal k steal_front = omega arith
  slow_steal k (steal_back f) = by_test (Slowly m q.back 0) (leb q.back f) _ _ (λ t. omega arith) (λ t. omega arith)
  slow_steal k (steal_ring f) = omega arith
  slow_steal k (steal_read r f) = omega arith
  slow_steal k (steal_reload r f v) = by_test (Slowly m q.back 0) (eqb r q.ring) _ _ (λ t. omega arith) (λ t. omega arith)
  slow_steal k (steal_exchange r f v) = by_test (Slowly m q.back 0) (eqb q.front f) _ _ (λ t. omega arith) (λ t. omega arith)

  slow_length : (k : ℕ) (p : LengthStage) → Slowly m q.back 0 (length_step k p q)
  unfolding length_step
  slow_length k length_back = omega arith
  slow_length k (length_front b) = omega arith

  slow_own_batch : (p : LengthStage) → Slowly m q.back 0 (own_batch_step p q)
  unfolding own_batch_step
  slow_own_batch length_back = omega arith
  slow_own_batch (length_front b) = omega arith

-- ---- over the calls

module _ (n : ℕ) (fl : ℕ → Flavour) where
  pub still : (c : ℕ) (s : State) → Bounded n c s → Bounded n (suc c) s
  still c s b = record { backs = λ i m. omega (arith, b.backs i m); fronts = λ i m. omega (arith, b.fronts i m) }

  earlies : (c : ℕ) (s : State) (t : ℕ) (o : Out) → Bounded n c s → early o.stage ≤ suc (suc c) → (i : ℕ) → i < n
      → early (upd s.stages t o.stage i) ≤ suc (suc c)
  earlies c s t o b h i m = go (ℕ_discrete i t)
    where
      go : Dec (i ≡ t) → early (upd s.stages t o.stage i) ≤ suc (suc c)
      go (yes e) = rw (upd_same s.stages t o.stage i e) h
      go (no d) = rw (upd_other s.stages t o.stage i d) (omega (arith, b.fronts i m))

  own_slow : (c : ℕ) (s : State) (t : ℕ) (o : Out) → Bounded n c s → t < n → Slow ((s.queues t).back + earned (s.stages t)) o
      → Bounded n (suc c) (stored s t t o)
  own_slow c s t o b l h = record { backs = λ i m. go i m (ℕ_discrete i t); fronts = earlies c s t o b (omega (arith, h.1)) }
    where
      go : (i : ℕ) → i < n → Dec (i ≡ t) → (upd s.queues t o.queue i).back + earned (upd s.stages t o.stage i) ≤ suc c
      go i m (yes e) = rw (upd_same s.queues t o.queue i e, upd_same s.stages t o.stage i e) (omega (arith, h.0, b.backs t l))
      go i m (no d) = rw (upd_other s.queues t o.queue i d, upd_other s.stages t o.stage i d) (omega (arith, b.backs i m))

  source_slow : (c : ℕ) (s : State) (t k : ℕ) (o : Out) → Bounded n c s → Slowly (suc c) (s.queues k).back (earned (s.stages t)) o
      → Bounded n (suc c) (stored s t k o)
  source_slow c s t k o b h = record {
    backs = λ i m. omega (arith, b.backs i m, backs i (ℕ_discrete i k), creds i (ℕ_discrete i t));
    fronts = earlies c s t o b (omega (arith, h.2));
  }
    where
      backs : (i : ℕ) → Dec (i ≡ k) → (upd s.queues k o.queue i).back ≡ (s.queues i).back
      backs i (yes e) = rw (upd_same s.queues k o.queue i e, e) h.0
      backs i (no d) = rw (upd_other s.queues k o.queue i d)

      creds : (i : ℕ) → Dec (i ≡ t) → earned (upd s.stages t o.stage i) ≤ suc (earned (s.stages i))
      creds i (yes e) = rw (upd_same s.stages t o.stage i e, e) h.1
      creds i (no d) = rw (upd_other s.stages t o.stage i d) (omega arith)

  -- front and back of every queue, after c calls
  pub indices : (c : ℕ) (mem : ℕ → ℕ) (s : State) → Inv n fl mem s → Bounded n c s → (k : ℕ) → k < n
      → ((s.queues k).front ≤ suc c) × ((s.queues k).back ≤ c)
  indices c mem s v b k l = let f = front_le (fl k) (s.stages k) (s.queues k) (v.oks k l) in let g = b.backs k l in (omega arith, omega arith)

  step_from : (c : ℕ) (mem : ℕ → ℕ) (s : State) (t : ℕ) (g : Offer) (x : Stage) → Inv n fl mem s → Bounded n c s → t < n → s.stages t ≡ x
      → T (busy x)
      → Bounded n (suc c) (stepped fl s t g x)
  step_from c mem s t g idle v b l e h = absurd h
  step_from c mem s t g (push x p) v b l e h =
      own_slow c s t (push_step g x p (s.queues t)) b l (rw e (slow_push g x p (s.queues t) (rw e at (v.oks t l)).stage))
  step_from c mem s t g (fifo_pop w p) v b l e h = own_slow c s t (fifo_step g w p (s.queues t)) b l (rw e (slow_fifo g w p (s.queues t)))
  step_from c mem s t g (lifo_pop w p) v b l e h =
      let o : Ok (fl t) (lifo_pop w p) (s.queues t) = rw e at (v.oks t l) in
      own_slow c s t (lifo_step g w p (s.queues t)) b l (rw e (slow_lifo g w p (s.queues t) o.stage.1))
  step_from c mem s t g (shrink w x z) v b l e h = own_slow c s t (shrink_step g w x z (s.queues t)) b l (rw e (slow_shrink g w x z (s.queues t)))
  step_from c mem s t g (steal k p) v b l e h =
      let w : Aware n fl s t (steal k p) = rw e at (v.aware t l) in
      let i = indices c mem s v b k w.0 in
      source_slow c s t k (steal_step k p (s.queues k)) b (rw e (slow_steal (suc c) (s.queues k) i.0 (omega (arith, i.1)) k p))
  step_from c mem s t g (len k p) v b l e h =
      let w : Aware n fl s t (len k p) = rw e at (v.aware t l) in
      let i = indices c mem s v b k w.0 in
      source_slow c s t k (length_step k p (s.queues k)) b (rw e (slow_length (suc c) (s.queues k) i.0 (omega (arith, i.1)) k p))
  step_from c mem s t g (own_batch p) v b l e h =
      let i = indices c mem s v b t l in
      source_slow c s t t (own_batch_step p (s.queues t)) b (rw e (slow_own_batch (suc c) (s.queues t) i.0 (omega (arith, i.1)) p))
  step_from c mem s t g (source k p) v b l e h =
      let w : Aware n fl s t (source k p) = rw e at (v.aware t l) in
      let i = indices c mem s v b k w.0 in
      source_slow c s t k (source_step (fl k) (fl t) k p (s.queues k)) b
      (rw e (slow_source (suc c) (s.queues k) i.0 (omega (arith, i.1)) (fl k) (fl t) k p))
  step_from c mem s t g (own k p) v b l e h =
      let o : Ok (fl t) (own k p) (s.queues t) = rw e at (v.oks t l) in
      own_slow c s t (own_step g (fl t) k p (s.queues t)) b l (rw e (slow_own g (fl t) k p (s.queues t) o.stage))

  pub step_bounded : (c : ℕ) (mem : ℕ → ℕ) (s : State) (t : ℕ) (g : Offer) → Inv n fl mem s → Bounded n c s → t < n → T (busy (s.stages t))
      → Bounded n (suc c) (stepped fl s t g (s.stages t))
  step_bounded c mem s t g v b l h = step_from c mem s t g (s.stages t) v b l refl h

  -- ---- begin

  pop_free : (g : Flavour) (w : Popper) → (earned (popping g w) ≡ 0) × (early (popping g w) ≡ 0)
  pop_free fifo w = (refl, refl)
  pop_free lifo w = (refl, refl)

  own_free : (g : Flavour) (m : BatchKind) → (earned (from_own g m) ≡ 0) × (early (from_own g m) ≡ 0)
  own_free g plain = (refl, refl)
  own_free g and_pop = pop_free g by_batch

  first_free : (g : Flavour) (t : ℕ) (o : Operation) → (earned (first_stage g t o) ≡ 0) × (early (first_stage g t o) ≡ 0)
  first_free g t (do_push x) = (refl, refl)
  first_free g t do_pop = pop_free g by_pop
  first_free g t (do_length k) = (refl, refl)
  first_free g t (do_steal k) = (refl, refl)
  first_free g t (do_batch m k others) = by_test (λ (x : Stage). (earned x ≡ 0) × (early x ≡ 0)) (eqb k t) _ _ (λ z. own_free g m) (λ z. (refl, refl))

  pub begin_bounded : (c : ℕ) (s : State) (t : ℕ) (o : Operation) → Bounded n c s → Bounded n (suc c) (begun fl s t o)
  begin_bounded c s t o b = record { backs = λ i m. backs i m (ℕ_discrete i t); fronts = λ i m. fronts i m (ℕ_discrete i t) }
    where
      x : Stage
      x = first_stage (fl t) t o

      backs : (i : ℕ) → i < n → Dec (i ≡ t) → (s.queues i).back + earned (upd s.stages t x i) ≤ suc c
      backs i m (yes e) = rw (upd_same s.stages t x i e, (first_free (fl t) t o).0) (omega (arith, b.backs i m))
      backs i m (no d) = rw (upd_other s.stages t x i d) (omega (arith, b.backs i m))

      fronts : (i : ℕ) → i < n → Dec (i ≡ t) → early (upd s.stages t x i) ≤ suc (suc c)
      fronts i m (yes e) = rw (upd_same s.stages t x i e, (first_free (fl t) t o).1) (omega arith)
      fronts i m (no d) = rw (upd_other s.stages t x i d) (omega (arith, b.fronts i m))
