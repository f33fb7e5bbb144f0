-- Answer 8 or 9 ends an operation that has moved no job and written no cell: a step that gives it, or that leads to a stage from which it can be
-- given, comes from such a stage, leaves the queue as it was, and writes nothing.
use mathlib.Core.Path.{◌≡◌, refl}
use mathlib.Core.Bool.{◌&&◌}
use Prim.Native.Nat.{ℕ, suc, ◌+◌, ◌-◌, ◌%◌}
use lib.Dec.{T, leb, ltb, eqb}
use Rattle.base.specs.Tests.{by_test}
use Rattle.model.specs.Count.{upd}
use Rattle.model.specs.Stage.{Flavour, fifo, lifo, Queue, cell, at, cap, set_front, set_back, set_cell, swap, ResizeStage, resize_back}
use Rattle.model.specs.Stage.{resize_front, resize_copy, resize_swap, PushStage, push_back, push_front, push_resize, push_write, push_store}
use Rattle.model.specs.Stage.{FifoPopStage, fifo_back, fifo_front, fifo_add, fifo_restore, fifo_read, LifoPopStage, lifo_back, lifo_front}
use Rattle.model.specs.Stage.{lifo_store, lifo_reload, lifo_restore, lifo_last, lifo_exchange, job, lifo_won, lifo_read, own, Popper}
use Rattle.model.specs.Stage.{StealStage, steal_front, steal_back, steal_ring, steal_read, steal_reload, steal_exchange, LengthStage}
use Rattle.model.specs.Stage.{length_back, length_front, BatchKind, plain, and_pop, InHand, none, some, Haul, source, SourceStage, source_front}
use Rattle.model.specs.Stage.{source_back, source_ring, source_first, all_copy, all_reload, all_exchange, one_first, one_back, one_read}
use Rattle.model.specs.Stage.{one_reload, one_exchange, OwnStage, reserve_back, reserve_front, reserve_resize, own_back, all_write, one_write}
use Rattle.model.specs.Stage.{swap_near, swap_far, swap_put, swap_last, own_store, Stage, idle, push, fifo_pop, lifo_pop, shrink, steal, len}
use Rattle.model.specs.Stage.{own_batch, Answer, no_ring, Out, going, ended}
use Rattle.model.specs.Tables.{told, Claim, lost, got, Offer, Resized, more, failed, finished, claimed, resize_step, resized, push_step}
use Rattle.model.specs.Tables.{shrink_step, fifo_step, lifo_step, steal_step, length_step, own_batch_step, wanted, hauling, with_job, onward, copy_next}
use Rattle.model.specs.Tables.{slot, stopped, holding, first_read, source_step, own_step}
use Rattle.model.specs.Machine.{busy, step_at}
use Rattle.model.specs.Memory.{kept, note_claim, note_resize, note}
use Rattle.model.specs.Early.{EarlyResize, Early, StillEarly}
use Rattle.model.proofs.Batch.{by_swap, by_stopped, by_turning, by_copy}

-- of a step at stage x on queue q
abbrev pub Untouched : Claim → Flavour → Stage → Queue → Out → Type 0
Untouched g fo x q o = StillEarly o.answer o.stage → Early x × (o.queue ≡ q) × (note g fo x ≡ kept)

module _ (g : Offer) (fo : Flavour) where
  abbrev U : Stage → Queue → Out → Type 0
  U x q o = Untouched g.claim fo x q o

  -- what a resize leaves, for a stage x whose early resizes are early
  by_resize_early : (x : Stage) (z : ResizeStage) (q : Queue) (k : ResizeStage → Out) (e : Out) (d : Queue → Out)
      → note g.claim fo x ≡ note_resize g.claim z
      → (EarlyResize z → Early x) → ((y : ResizeStage) → StillEarly (k y).answer (k y).stage → EarlyResize y)
      → ((y : ResizeStage) → (k y).queue ≡ q) → e.queue ≡ q
      → ((r : Queue) → StillEarly (d r).answer (d r).stage → ⊥) → U x q (resized (resize_step g.claim z q) k e d)
  unfolding resize_step
  by_resize_early x (resize_back c) q k e d n f a b s r = λ h. (f tt, b (resize_front c q.back), n)
  by_resize_early x (resize_front c i) q k e d n f a b s r = go g.claim n
    where
      go : (cl : Claim) → note g.claim fo x ≡ note_claim cl → U x q (resized (claimed cl c i q.front) k e d)
      go lost m = λ h. (f tt, s, m)
      go (got y) m =
          by_test (λ (w : Resized). U x q (resized w k e d)) (eqb q.front i) _ _ (λ t h. absurd (a (resize_swap c y) h)) (λ t h. absurd (a (resize_copy c i q.front y) h))
  by_resize_early x (resize_copy c i j y) q k e d n f a b s r =
      let y' : ℕ → ℕ = upd y (j % c) (at q j) in
      by_test (λ (w : Resized). U x q (resized w k e d)) (eqb (suc j) i) _ _ (λ t h. absurd (a (resize_swap c y') h)) (λ t h. absurd (a (resize_copy c i (suc j) y') h))
  by_resize_early x (resize_swap c y) q k e d n f a b s r = λ h. absurd (r (swap q c y) h)

  push_gave_up : (x : ℕ) (p : PushStage) (q : Queue) → U (push x p) q (push_step g x p q)
  unfolding push_step
  push_gave_up x push_back q = λ h. (tt, refl, refl)
  push_gave_up x (push_front b) q =
      by_test (U (push x (push_front b)) q) (leb (q.front + cap q) b) _ _
      (λ t. by_test (U (push x (push_front b)) q) (ltb b (q.front + g.capacity)) _ _ (λ u h. (tt, refl, refl)) (λ u h. (tt, refl, refl))) (λ t h. absurd h)
  push_gave_up x (push_resize b z) q =
      by_resize_early (push x (push_resize b z)) z q
      (λ y. going q (push x (push_resize b y))) (ended q no_ring) (λ r. going r (push x (push_write b))) refl
      (λ h. h) (λ y h. h) (λ y. refl) refl (λ r h. h)
  push_gave_up x (push_write b) q = λ h. absurd h
  push_gave_up x (push_store b) q = λ h. absurd h

  shrink_gave_up : (w : Popper) (v : ℕ) (z : ResizeStage) (q : Queue) → StillEarly (shrink_step g w v z q).answer (shrink_step g w v z q).stage → ⊥
  unfolding shrink_step
  shrink_gave_up w v z q h = go (resize_step g.claim z q) h
    where
      go : (r : Resized) → StillEarly (resized r (λ y. going q (shrink w v y)) (ended q (job w v)) (λ r. ended r (job w v))).answer
          (resized r (λ y. going q (shrink w v y)) (ended q (job w v)) (λ r. ended r (job w v))).stage → ⊥
      go (more y) h = h
      go failed h = h
      go (finished r) h = h

  abbrev Never : Out → Type 0
  Never o = StillEarly o.answer o.stage → ⊥

  fifo_gave_up : (w : Popper) (p : FifoPopStage) (q : Queue) → Never (fifo_step g w p q)
  unfolding fifo_step
  fifo_gave_up w fifo_back q = λ h. h
  fifo_gave_up w (fifo_front b) q = by_test Never (leb b q.front) _ _ (λ t h. h) (λ t h. h)
  fifo_gave_up w (fifo_add b others) q =
      by_test (λ (x : Stage). Never (going (set_front q (suc q.front)) x)) (ltb b (suc q.front)) _ _ (λ t h. h) (λ t h. h)
  fifo_gave_up w (fifo_restore f) q = λ h. h
  fifo_gave_up w (fifo_read f others) q = by_test Never (ltb 0 g.capacity && leb (suc others) g.capacity) _ _ (λ t h. h) (λ t h. h)

  lifo_gave_up : (w : Popper) (p : LifoPopStage) (q : Queue) → Never (lifo_step g w p q)
  unfolding lifo_step
  lifo_gave_up w lifo_back q = λ h. h
  lifo_gave_up w (lifo_front b) q = by_test Never (leb b q.front) _ _ (λ t h. h) (λ t h. h)
  lifo_gave_up w (lifo_store b) q = λ h. h
  lifo_gave_up w (lifo_reload b) q =
      by_test (λ (x : Stage). Never (going q x)) (ltb (b - 1) q.front) _ _ (λ t h. h)
      (λ t. by_test (λ (x : Stage). Never (going q x)) (leb (b - 1) q.front) _ _ (λ u h. h) (λ u h. h))
  lifo_gave_up w (lifo_restore b) q = λ h. h
  lifo_gave_up w (lifo_last b) q = λ h. h
  lifo_gave_up w (lifo_exchange b v) q = by_test Never (eqb q.front (b - 1)) _ _ (λ t h. h) (λ t h. h)
  lifo_gave_up w (lifo_won b v) q = λ h. h
  lifo_gave_up w (lifo_read b others) q = by_test Never (ltb 0 g.capacity && leb (suc others) g.capacity) _ _ (λ t h. h) (λ t h. h)

  steal_gave_up : (k : ℕ) (p : StealStage) (q : Queue) → Never (steal_step k p q)
  unfolding steal_step
  steal_gave_up k steal_front q = λ h. h
  steal_gave_up k (steal_back f) q = by_test Never (leb q.back f) _ _ (λ t h. h) (λ t h. h)
  steal_gave_up k (steal_ring f) q = λ h. h
  steal_gave_up k (steal_read r f) q = λ h. h
  steal_gave_up k (steal_reload r f v) q = by_test Never (eqb r q.ring) _ _ (λ t h. h) (λ t h. h)
  steal_gave_up k (steal_exchange r f v) q = by_test Never (eqb q.front f) _ _ (λ t h. h) (λ t h. h)

  length_gave_up : (k : ℕ) (p : LengthStage) (q : Queue) → Never (length_step k p q)
  unfolding length_step
  length_gave_up k length_back q = λ h. h
  length_gave_up k (length_front b) q = λ h. h

  own_batch_gave_up : (p : LengthStage) (q : Queue) → Never (own_batch_step p q)
  unfolding own_batch_step
  own_batch_gave_up length_back q = λ h. h
  own_batch_gave_up (length_front b) q = by_test (λ (a : Answer). StillEarly a idle → ⊥) (leb b q.front) _ _ (λ t h. h) (λ t h. h)

  stop_never : (k : ℕ) (h : Haul) (i : ℕ) (r : Queue) → Never (stopped fo k h i r)
  stop_never k h i r = by_stopped Never fo k h i r (λ a z u. u) (λ z u. u) (λ u. u)

  copy_never : (k : ℕ) (h : Haul) (i : ℕ) (r : Queue) → Never (going r (copy_next k h i))
  copy_never k h i r = by_copy (λ (x : Stage). Never (going r x)) k h i (λ t u. u) (λ t u. u)

  hold_never : (fs : Flavour) (k : ℕ) (m : BatchKind) (h : Haul) (q : Queue) → Never (holding m fs fo k h q)
  hold_never fifo k plain h q = copy_never k h 0 q
  hold_never lifo k plain h q = by_test Never (leb h.n 0) _ _ (λ t. stop_never k h 0 q) (λ t u. u)
  hold_never fifo k and_pop h q = λ u. u
  hold_never lifo k and_pop h q = λ u. u

  first_never : (fs : Flavour) (k : ℕ) (h : Haul) (v : ℕ) (q : Queue) → Never (going q (first_read fs k h v))
  first_never fifo k h v q = copy_never k (with_job h v) 0 q
  first_never lifo k h v q = λ u. u

  source_gave_up : (fs : Flavour) (k : ℕ) (p : SourceStage) (q : Queue) → U (source k p) q (source_step fs fo k p q)
  unfolding source_step
  source_gave_up fs k (source_front m others) q = λ u. (tt, refl, refl)
  source_gave_up fs k (source_back m others f) q =
      by_test (U (source k (source_back m others f)) q) (leb q.back f) _ _ (λ t u. absurd u)
      (λ t. by_test (λ (x : Stage). U (source k (source_back m others f)) q (going q x)) (eqb (wanted m (q.back - f) others) 0) _ _ (λ z u. absurd u) (λ z u. (tt, refl, refl)))
  source_gave_up fs k (source_ring w b) q = λ u. absurd (hold_never fs k w.kind (hauling q.ring w b) q u)
  source_gave_up fs k (source_first h) q = λ u. absurd (first_never fs k h (cell q h.ring h.f) q u)
  source_gave_up fs k (all_copy h i) q = λ u. absurd u
  source_gave_up fs k (all_reload h) q = by_test (U (source k (all_reload h)) q) (eqb h.ring q.ring) _ _ (λ t u. absurd u) (λ t u. absurd u)
  source_gave_up fs k (all_exchange h) q = by_test (U (source k (all_exchange h)) q) (eqb q.front h.f) _ _ (λ t u. absurd u) (λ t u. absurd u)
  source_gave_up fs k (one_first h v) q =
      by_test (U (source k (one_first h v)) q) (eqb q.front h.f) _ _
      (λ t u. absurd (by_turning Never fo k (onward h (some v)) 0 (set_front q (suc h.f)) (λ z. stop_never k (onward h (some v)) 0 (set_front q (suc h.f))) (λ z x. x) u))
      (λ t u. absurd u)
  source_gave_up fs k (one_back h i) q =
      by_test (U (source k (one_back h i)) q) (leb q.back h.f) _ _ (λ t u. absurd (stop_never k h i q u)) (λ t u. absurd u)
  source_gave_up fs k (one_read h i) q = λ u. absurd u
  source_gave_up fs k (one_reload h i v) q =
      by_test (U (source k (one_reload h i v)) q) (eqb h.ring q.ring) _ _ (λ t u. absurd u) (λ t u. absurd (stop_never k h i q u))
  source_gave_up fs k (one_exchange h i v) q =
      by_test (U (source k (one_exchange h i v)) q) (eqb q.front h.f) _ _ (λ t u. absurd u) (λ t u. absurd (stop_never k h i q u))

  told_never : (j : InHand) (q : Queue) → Never (ended q (told j))
  told_never none q u = u
  told_never (some v) q u = u

  own_gave_up : (k : ℕ) (p : OwnStage) (q : Queue) → U (own k p) q (own_step g fo k p q)
  unfolding own_step
  own_gave_up k (reserve_back w) q = λ u. (tt, refl, refl)
  own_gave_up k (reserve_front w b) q =
      by_test (U (own k (reserve_front w b)) q) (leb (b - q.front + w.n) (cap q)) _ _ (λ t u. absurd u)
      (λ t. by_test (U (own k (reserve_front w b)) q) (leb (b - q.front + w.n) g.capacity) _ _ (λ z u. (tt, refl, refl)) (λ z u. (tt, refl, refl)))
  own_gave_up k (reserve_resize w z) q =
      by_resize_early (own k (reserve_resize w z)) z q
      (λ y. going q (own k (reserve_resize w y))) (ended q no_ring) (λ r. going r (own k (own_back w))) refl
      (λ h. h) (λ y h. h) (λ y. refl) refl (λ r h. h)
  own_gave_up k (own_back w) q = λ u. absurd u
  own_gave_up k (all_write h i v) q = λ u. absurd (copy_never k h (suc i) (set_cell q (slot fo h i) v) u)
  own_gave_up k (one_write h i v) q = λ u.
      absurd (by_turning Never fo k h (suc i) (set_cell q (h.b + i) v) (λ z. stop_never k h (suc i) (set_cell q (h.b + i) v)) (λ z x. x) u)
  own_gave_up k (swap_near h x) q = λ u. absurd u
  own_gave_up k (swap_far h x near) q = λ u. absurd u
  own_gave_up k (swap_put h x near far) q = λ u. absurd u
  own_gave_up k (swap_last h x near) q = λ u.
      absurd (by_swap (λ (s : Stage). Never (going (set_cell q (h.b + (h.n - suc x)) near) s)) k h (suc x) (λ z y. y) (λ y. y) u)
  own_gave_up k (own_store h) q = λ u. absurd (told_never h.hand (set_back q (h.b + h.n)) u)

-- any step
pub gave_up : (g : Offer) (fl : ℕ → Flavour) (t : ℕ) (x : Stage) (q : Queue) → T (busy x) → Untouched g.claim (fl t) x q (step_at g fl t x q)
gave_up g fl t idle q b = absurd b
gave_up g fl t (push x p) q b = push_gave_up g (fl t) x p q
gave_up g fl t (fifo_pop w p) q b = λ u. absurd (fifo_gave_up g (fl t) w p q u)
gave_up g fl t (lifo_pop w p) q b = λ u. absurd (lifo_gave_up g (fl t) w p q u)
gave_up g fl t (shrink w v z) q b = λ u. absurd (shrink_gave_up g (fl t) w v z q u)
gave_up g fl t (steal k p) q b = λ u. absurd (steal_gave_up g (fl t) k p q u)
gave_up g fl t (len k p) q b = λ u. absurd (length_gave_up g (fl t) k p q u)
gave_up g fl t (own_batch p) q b = λ u. absurd (own_batch_gave_up g (fl t) p q u)
gave_up g fl t (source k p) q b = source_gave_up g (fl t) (fl k) k p q
gave_up g fl t (own k p) q b = own_gave_up g (fl t) k p q
