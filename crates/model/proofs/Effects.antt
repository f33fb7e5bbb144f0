-- What each step does to cells is what its note says; and what it holds it held before, or it is the touched queue's current ring.
use mathlib.Core.Path.{◌≡◌, refl, sym, subst}
use mathlib.Core.Bool.{◌&&◌}
use mathlib.Core.Logic.{◌⊎◌, inl, inr}
use Prim.Native.Nat.{ℕ, suc, ◌+◌, ◌-◌}
use lib.Dec.{T, leb, ltb, eqb}
use Rattle.base.specs.Tests.{by_test}
use Rattle.model.specs.Stage.{Flavour, fifo, lifo, Queue, cell, cap, set_front, set_cell, ResizeStage, resize_back, resize_front, resize_copy}
use Rattle.model.specs.Stage.{resize_swap, PushStage, push_back, push_front, push_resize, push_write, push_store, FifoPopStage, fifo_back}
use Rattle.model.specs.Stage.{fifo_front, fifo_add, fifo_restore, fifo_read, LifoPopStage, lifo_back, lifo_front, lifo_store, lifo_reload}
use Rattle.model.specs.Stage.{lifo_restore, lifo_last, lifo_exchange, job, lifo_won, lifo_read, own, Popper, StealStage, steal_front}
use Rattle.model.specs.Stage.{steal_back, steal_ring, steal_read, steal_reload, steal_exchange, LengthStage, length_back, length_front}
use Rattle.model.specs.Stage.{BatchKind, plain, and_pop, Wanted, some, Haul, source, SourceStage, source_front, source_back, source_ring}
use Rattle.model.specs.Stage.{source_first, all_copy, all_reload, all_exchange, one_first, one_back, one_read, one_reload, one_exchange}
use Rattle.model.specs.Stage.{OwnStage, reserve_back, reserve_front, reserve_resize, own_back, all_write, one_write, swap_near, swap_far}
use Rattle.model.specs.Stage.{swap_put, swap_last, own_store, Stage, idle, push, fifo_pop, lifo_pop, shrink, steal, len, own_batch, Answer, no_ring}
use Rattle.model.specs.Stage.{Out, out, going, ended}
use Rattle.model.specs.Tables.{Claim, lost, got, Offer, Resized, more, failed, finished, resize_step, resized, push_step, shrink_step, fifo_step}
use Rattle.model.specs.Tables.{lifo_step, steal_step, length_step, own_batch_step, wanted, hauling, with_job, onward, copy_next, slot, stopped}
use Rattle.model.specs.Tables.{holding, first_read, source_step, own_step}
use Rattle.model.specs.Machine.{touched, busy, step_at}
use Rattle.model.specs.Memory.{SourceHolds, Holds, builds, not_building, builds_resize, Note, kept, wrote, note_resize, note, Effect}
use Rattle.model.proofs.Batch.{by_swap, by_stopped, by_turning, by_copy}

pub record Does (g : Claim) (fo : Flavour) (t k : ℕ) (s : Stage) (q : Queue) (o : Out) : Type 0 where
  pub effect : Effect (note g fo s) t k g (builds s) q (builds o.stage) o.queue
  pub holds : (j r : ℕ) → Holds o.stage j r → Holds s j r ⊎ ((j ≡ k) × (r ≡ q.ring))

-- ---- resize

-- what is asked of an operation with a step of its resize
abbrev After : Claim → (t : ℕ) → ResizeStage → Queue → Resized → Type 0
After g t z q (more y) = Effect (note_resize g z) t t g (builds_resize z) q (builds_resize y) q
After g t z q failed = Effect (note_resize g z) t t g (builds_resize z) q not_building q
After g t z q (finished r) = Effect (note_resize g z) t t g (builds_resize z) q not_building r

after_resize : (g : Claim) (t : ℕ) (z : ResizeStage) (q : Queue) → After g t z q (resize_step g z q)
unfolding resize_step
after_resize g t (resize_back c) q = (refl, refl, refl, refl, inl refl)
after_resize lost t (resize_front c b) q = (refl, refl, refl, refl, inl refl)
after_resize (got f) t (resize_front c b) q =
    by_test (After (got f) t (resize_front c b) q) (eqb q.front b) _ _
    (λ w. (refl, refl, refl, (c, f, refl, refl))) (λ w. (refl, refl, refl, (c, f, refl, refl)))
after_resize g t (resize_copy c b i f) q =
    by_test (After g t (resize_copy c b i f) q) (eqb (suc i) b) _ _ (λ w. (refl, refl, (c, f, refl, refl))) (λ w. (refl, refl, (c, f, refl, refl)))
after_resize g t (resize_swap c f) q = (refl, refl, (c, f, refl, refl))

by_after : (P : Out → Type 0) (g : Claim) (t : ℕ) (z : ResizeStage) (q : Queue) (res : Resized) (k : ResizeStage → Out) (e : Out) (d : Queue → Out)
    → After g t z q res
    → ((y : ResizeStage) → Effect (note_resize g z) t t g (builds_resize z) q (builds_resize y) q → P (k y))
    → (Effect (note_resize g z) t t g (builds_resize z) q not_building q → P e)
    → ((r : Queue) → Effect (note_resize g z) t t g (builds_resize z) q not_building r → P (d r)) → P (resized res k e d)
by_after P g t z q (more y) k e d h a b c = a y h
by_after P g t z q failed k e d h a b c = b h
by_after P g t z q (finished r) k e d h a b c = c r h

-- ---- each operation

module _ (g : Offer) (fo : Flavour) (t : ℕ) where
  abbrev D : (k : ℕ) → Stage → Queue → Out → Type 0
  D k s q o = Does g.claim fo t k s q o

  -- nothing is written and nothing built
  still : {k : ℕ} {s x : Stage} {a : Answer} {q r : Queue} → note g.claim fo s ≡ kept → r.rings ≡ q.rings → r.caps ≡ q.caps → r.ring ≡ q.ring
      → r.top ≡ q.top → builds x ≡ not_building → ((j i : ℕ) → Holds x j i → Holds s j i ⊎ ((j ≡ k) × (i ≡ q.ring)))
      → Does g.claim fo t k s q (out r x a)
  still {k} {s} {x} {a} {q} {r} e rings caps ring top b h = record {
    effect = subst (λ (n : Note). Effect n t k g.claim (builds s) q (builds x) r) (sym e) (rings, caps, ring, top, inr b);
    holds = h;
  }

  push_does : (x : ℕ) (p : PushStage) (q : Queue) → D t (push x p) q (push_step g x p q)
  unfolding push_step
  push_does x push_back q = still refl refl refl refl refl refl (λ j r h. absurd h)
  push_does x (push_front b) q =
      by_test (D t (push x (push_front b)) q) (leb (q.front + cap q) b) _ _
      (λ u. by_test (D t (push x (push_front b)) q) (ltb b (q.front + g.capacity)) _ _
      (λ w. still refl refl refl refl refl refl (λ j r h. absurd h))
      (λ w. still refl refl refl refl refl refl (λ j r h. absurd h)))
      (λ u. still refl refl refl refl refl refl (λ j r h. absurd h))
  push_does x (push_resize b z) q =
      by_after (D t (push x (push_resize b z)) q) g.claim t z q (resize_step g.claim z q)
      (λ y. going q (push x (push_resize b y))) (ended q no_ring)
      (λ r. going r (push x (push_write b))) (after_resize g.claim t z q) (λ y e. record { effect = e; holds = λ j r h. absurd h })
      (λ e. record { effect = e; holds = λ j r h. absurd h }) (λ r e. record { effect = e; holds = λ j r h. absurd h })
  push_does x (push_write b) q = record { effect = (refl, refl, refl, refl); holds = λ j r h. absurd h }
  push_does x (push_store b) q = still refl refl refl refl refl refl (λ j r h. absurd h)

  shrink_does : (w : Popper) (v : ℕ) (z : ResizeStage) (q : Queue) → D t (shrink w v z) q (shrink_step g w v z q)
  unfolding shrink_step
  shrink_does w v z q =
      by_after (D t (shrink w v z) q) g.claim t z q (resize_step g.claim z q)
      (λ y. going q (shrink w v y)) (ended q (job w v)) (λ r. ended r (job w v))
      (after_resize g.claim t z q) (λ y e. record { effect = e; holds = λ j r h. absurd h })
      (λ e. record { effect = e; holds = λ j r h. absurd h }) (λ r e. record { effect = e; holds = λ j r h. absurd h })

  fifo_does : (w : Popper) (p : FifoPopStage) (q : Queue) → D t (fifo_pop w p) q (fifo_step g w p q)
  unfolding fifo_step
  fifo_does w fifo_back q = still refl refl refl refl refl refl (λ j r h. absurd h)
  fifo_does w (fifo_front b) q =
      by_test (D t (fifo_pop w (fifo_front b)) q) (leb b q.front) _ _ (λ u. still refl refl refl refl refl refl (λ j r h. absurd h))
      (λ u. still refl refl refl refl refl refl (λ j r h. absurd h))
  fifo_does w (fifo_add b others) q =
      by_test (λ (x : Stage). D t (fifo_pop w (fifo_add b others)) q (going (set_front q (suc q.front)) x)) (ltb b (suc q.front)) _ _
      (λ u. still refl refl refl refl refl refl (λ j r h. absurd h))
      (λ u. still refl refl refl refl refl refl (λ j r h. absurd h))
  fifo_does w (fifo_restore f) q = still refl refl refl refl refl refl (λ j r h. absurd h)
  fifo_does w (fifo_read f others) q =
      by_test (D t (fifo_pop w (fifo_read f others)) q) (ltb 0 g.capacity && leb (suc others) g.capacity) _ _
      (λ u. still refl refl refl refl refl refl (λ j r h. absurd h))
      (λ u. still refl refl refl refl refl refl (λ j r h. absurd h))

  lifo_does : (w : Popper) (p : LifoPopStage) (q : Queue) → D t (lifo_pop w p) q (lifo_step g w p q)
  unfolding lifo_step
  lifo_does w lifo_back q = still refl refl refl refl refl refl (λ j r h. absurd h)
  lifo_does w (lifo_front b) q =
      by_test (D t (lifo_pop w (lifo_front b)) q) (leb b q.front) _ _ (λ u. still refl refl refl refl refl refl (λ j r h. absurd h))
      (λ u. still refl refl refl refl refl refl (λ j r h. absurd h))
  lifo_does w (lifo_store b) q = still refl refl refl refl refl refl (λ j r h. absurd h)
  lifo_does w (lifo_reload b) q =
      let P : Stage → Type 0 = λ x. D t (lifo_pop w (lifo_reload b)) q (going q x) in
      by_test P (ltb (b - 1) q.front) _ _ (λ u. still refl refl refl refl refl refl (λ j r h. absurd h))
      (λ u. by_test P (leb (b - 1) q.front) _ _ (λ y. still refl refl refl refl refl refl (λ j r h. absurd h))
      (λ y. still refl refl refl refl refl refl (λ j r h. absurd h)))
  lifo_does w (lifo_restore b) q = still refl refl refl refl refl refl (λ j r h. absurd h)
  lifo_does w (lifo_last b) q = still refl refl refl refl refl refl (λ j r h. absurd h)
  lifo_does w (lifo_exchange b v) q =
      by_test (D t (lifo_pop w (lifo_exchange b v)) q) (eqb q.front (b - 1)) _ _
      (λ u. still refl refl refl refl refl refl (λ j r h. absurd h))
      (λ u. still refl refl refl refl refl refl (λ j r h. absurd h))
  lifo_does w (lifo_won b v) q = still refl refl refl refl refl refl (λ j r h. absurd h)
  lifo_does w (lifo_read b others) q =
      by_test (D t (lifo_pop w (lifo_read b others)) q) (ltb 0 g.capacity && leb (suc others) g.capacity) _ _
      (λ u. still refl refl refl refl refl refl (λ j r h. absurd h))
      (λ u. still refl refl refl refl refl refl (λ j r h. absurd h))

  steal_does : (k : ℕ) (p : StealStage) (q : Queue) → D k (steal k p) q (steal_step k p q)
  unfolding steal_step
  steal_does k steal_front q = still refl refl refl refl refl refl (λ j i h. inl h)
  steal_does k (steal_back f) q =
      by_test (D k (steal k (steal_back f)) q) (leb q.back f) _ _ (λ u. still refl refl refl refl refl refl (λ j i h. absurd h))
      (λ u. still refl refl refl refl refl refl (λ j i h. inl h))
  steal_does k (steal_ring f) q = still refl refl refl refl refl refl (λ j i h. inr h)
  steal_does k (steal_read r f) q = still refl refl refl refl refl refl (λ j i h. inl h)
  steal_does k (steal_reload r f v) q =
      by_test (D k (steal k (steal_reload r f v)) q) (eqb r q.ring) _ _ (λ u. still refl refl refl refl refl refl (λ j i h. inl h))
      (λ u. still refl refl refl refl refl refl (λ j i h. absurd h))
  steal_does k (steal_exchange r f v) q =
      by_test (D k (steal k (steal_exchange r f v)) q) (eqb q.front f) _ _ (λ u. still refl refl refl refl refl refl (λ j i h. absurd h))
      (λ u. still refl refl refl refl refl refl (λ j i h. absurd h))

  length_does : (k : ℕ) (p : LengthStage) (q : Queue) → D k (len k p) q (length_step k p q)
  unfolding length_step
  length_does k length_back q = still refl refl refl refl refl refl (λ j i h. absurd h)
  length_does k (length_front b) q = still refl refl refl refl refl refl (λ j i h. absurd h)

  own_batch_does : (p : LengthStage) (q : Queue) → D t (own_batch p) q (own_batch_step p q)
  unfolding own_batch_step
  own_batch_does length_back q = still refl refl refl refl refl refl (λ j i h. absurd h)
  own_batch_does (length_front b) q = still refl refl refl refl refl refl (λ j i h. absurd h)

  -- ---- batch

  -- from a stage that holds the haul's ring to another that does, or to the answer
  stop_does : (k : ℕ) (p : SourceStage) (h : Haul) (i : ℕ) (q r : Queue) → ((i : ℕ) → i ≡ h.ring → SourceHolds p i) → r.rings ≡ q.rings
      → r.caps ≡ q.caps
      → r.ring ≡ q.ring → r.top ≡ q.top → D k (source k p) q (stopped fo k h i r)
  stop_does k p h i q r o a b c d =
      by_stopped (D k (source k p) q) fo k h i r (λ e z. still refl a b c d refl (λ j i h. absurd h))
      (λ z. still refl a b c d refl (λ j i w. inl (w.0, o i w.1))) (still refl a b c d refl (λ j i w. inl (w.0, o i w.1)))

  copy_does : (k : ℕ) (p : SourceStage) (h : Haul) (q : Queue)
      → ((j i : ℕ) → (j ≡ k) × (i ≡ h.ring) → Holds (source k p) j i ⊎ ((j ≡ k) × (i ≡ q.ring)))
      → D k (source k p) q (going q (copy_next k h 0))
  copy_does k p h q o =
      by_copy (λ (x : Stage). D k (source k p) q (going q x)) k h 0 (λ u. still refl refl refl refl refl refl o) (λ u. still refl refl refl refl refl refl o)

  hold_does : (fs : Flavour) (k : ℕ) (m : BatchKind) (w : Wanted) (b : ℕ) (q : Queue)
      → D k (source k (source_ring w b)) q (holding m fs fo k (hauling q.ring w b) q)
  hold_does fifo k plain w b q = copy_does k (source_ring w b) (hauling q.ring w b) q (λ j i h. inr h)
  hold_does lifo k plain w b q =
      by_test (D k (source k (source_ring w b)) q) (leb w.n 0) _ _
      (λ u. by_stopped (D k (source k (source_ring w b)) q) fo k (hauling q.ring w b) 0 q (λ e z. still refl refl refl refl refl refl (λ j i h. absurd h))
      (λ z. still refl refl refl refl refl refl (λ j i h. inr h)) (still refl refl refl refl refl refl (λ j i h. inr h)))
      (λ u. still refl refl refl refl refl refl (λ j i h. inr h))
  hold_does fifo k and_pop w b q = still refl refl refl refl refl refl (λ j i h. inr h)
  hold_does lifo k and_pop w b q = still refl refl refl refl refl refl (λ j i h. inr h)

  first_does : (fs : Flavour) (k : ℕ) (h : Haul) (v : ℕ) (q : Queue) → D k (source k (source_first h)) q (going q (first_read fs k h v))
  first_does fifo k h v q = copy_does k (source_first h) (with_job h v) q (λ j i w. inl w)
  first_does lifo k h v q = still refl refl refl refl refl refl (λ j i w. inl w)

  source_does : (fs : Flavour) (k : ℕ) (p : SourceStage) (q : Queue) → D k (source k p) q (source_step fs fo k p q)
  unfolding source_step
  source_does fs k (source_front m others) q = still refl refl refl refl refl refl (λ j i h. inl h)
  source_does fs k (source_back m others f) q =
      by_test (D k (source k (source_back m others f)) q) (leb q.back f) _ _ (λ u. still refl refl refl refl refl refl (λ j i h. absurd h))
      (λ u. by_test (λ (x : Stage). D k (source k (source_back m others f)) q (going q x)) (eqb (wanted m (q.back - f) others) 0) _ _
      (λ w. still refl refl refl refl refl refl (λ j i h. inl h)) (λ w. still refl refl refl refl refl refl (λ j i h. inl h)))
  source_does fs k (source_ring w b) q = hold_does fs k w.kind w b q
  source_does fs k (source_first h) q = first_does fs k h (cell q h.ring h.f) q
  source_does fs k (all_copy h i) q = still refl refl refl refl refl refl (λ j i h. inl h)
  source_does fs k (all_reload h) q =
      by_test (D k (source k (all_reload h)) q) (eqb h.ring q.ring) _ _ (λ u. still refl refl refl refl refl refl (λ j i h. inl h))
      (λ u. still refl refl refl refl refl refl (λ j i h. absurd h))
  source_does fs k (all_exchange h) q =
      by_test (D k (source k (all_exchange h)) q) (eqb q.front h.f) _ _ (λ u. still refl refl refl refl refl refl (λ j i h. inl h))
      (λ u. still refl refl refl refl refl refl (λ j i h. absurd h))
  source_does fs k (one_first h x) q =
      by_test (D k (source k (one_first h x)) q) (eqb q.front h.f) _ _
      (λ u. by_turning (D k (source k (one_first h x)) q) fo k (onward h (some x)) 0 (set_front q (suc h.f))
      (λ e. stop_does k (one_first h x) (onward h (some x)) 0 q (set_front q (suc h.f)) (λ i w. w) refl refl refl refl)
      (λ e. still refl refl refl refl refl refl (λ j i h. inl h)))
      (λ u. still refl refl refl refl refl refl (λ j i h. absurd h))
  source_does fs k (one_back h i) q =
      by_test (D k (source k (one_back h i)) q) (leb q.back h.f) _ _ (λ u. stop_does k (one_back h i) h i q q (λ i w. w) refl refl refl refl)
      (λ u. still refl refl refl refl refl refl (λ j i h. inl h))
  source_does fs k (one_read h i) q = still refl refl refl refl refl refl (λ j i h. inl h)
  source_does fs k (one_reload h i x) q =
      by_test (D k (source k (one_reload h i x)) q) (eqb h.ring q.ring) _ _ (λ u. still refl refl refl refl refl refl (λ j i h. inl h))
      (λ u. stop_does k (one_reload h i x) h i q q (λ i w. w) refl refl refl refl)
  source_does fs k (one_exchange h i x) q =
      by_test (D k (source k (one_exchange h i x)) q) (eqb q.front h.f) _ _ (λ u. still refl refl refl refl refl refl (λ j i h. inl h))
      (λ u. stop_does k (one_exchange h i x) h i q q (λ i w. w) refl refl refl refl)

  -- a job into the own current ring
  writes : {s x : Stage} {y : Answer} {q : Queue} {i v : ℕ} → note g.claim fo s ≡ wrote i v → builds s ≡ not_building → builds x ≡ not_building
      → ((j i : ℕ) → Holds x j i → Holds s j i) → Does g.claim fo t t s q (out (set_cell q i v) x y)
  writes {s} {x} {y} {q} {i} {v} e a b h = record {
    effect = subst (λ (n : Note). Effect n t t g.claim (builds s) q (builds x) (set_cell q i v)) (sym e) (refl, refl, a, b);
    holds = λ j i w. inl (h j i w);
  }

  own_does : (k : ℕ) (p : OwnStage) (q : Queue) → D t (own k p) q (own_step g fo k p q)
  unfolding own_step
  own_does k (reserve_back w) q = still refl refl refl refl refl refl (λ j i h. inl h)
  own_does k (reserve_front w b) q =
      by_test (D t (own k (reserve_front w b)) q) (leb (b - q.front + w.n) (cap q)) _ _ (λ u. still refl refl refl refl refl refl (λ j i h. inl h))
      (λ u. by_test (D t (own k (reserve_front w b)) q) (leb (b - q.front + w.n) g.capacity) _ _
      (λ y. still refl refl refl refl refl refl (λ j i h. inl h)) (λ y. still refl refl refl refl refl refl (λ j i h. absurd h)))
  own_does k (reserve_resize w z) q =
      by_after (D t (own k (reserve_resize w z)) q) g.claim t z q (resize_step g.claim z q)
      (λ y. going q (own k (reserve_resize w y))) (ended q no_ring)
      (λ r. going r (own k (own_back w))) (after_resize g.claim t z q) (λ y e. record { effect = e; holds = λ j r h. inl h })
      (λ e. record { effect = e; holds = λ j r h. absurd h }) (λ r e. record { effect = e; holds = λ j r h. inl h })
  own_does k (own_back w) q = still refl refl refl refl refl refl (λ j i h. inl h)
  own_does k (all_write h i v) q =
      by_copy (λ (x : Stage). D t (own k (all_write h i v)) q (going (set_cell q (slot fo h i) v) x)) k h (suc i)
      (λ u. writes refl refl refl (λ j i h. h)) (λ u. writes refl refl refl (λ j i h. h))
  own_does k (one_write h i v) q =
      by_turning (D t (own k (one_write h i v)) q) fo k h (suc i) (set_cell q (h.b + i) v)
      (λ e. by_stopped (D t (own k (one_write h i v)) q) fo k h (suc i) (set_cell q (h.b + i) v)
      (λ a z. writes refl refl refl (λ j i h. absurd h)) (λ z. writes refl refl refl (λ j i h. h)) (writes refl refl refl (λ j i h. h)))
      (λ e. writes refl refl refl (λ j i h. h))
  own_does k (swap_near h x) q = still refl refl refl refl refl refl (λ j i h. inl h)
  own_does k (swap_far h x near) q = still refl refl refl refl refl refl (λ j i h. inl h)
  own_does k (swap_put h x near far) q = writes refl refl refl (λ j i h. h)
  own_does k (swap_last h x near) q =
      by_swap (λ (s : Stage). D t (own k (swap_last h x near)) q (going (set_cell q (h.b + (h.n - suc x)) near) s)) k h (suc x)
      (λ u. writes refl refl refl (λ j i h. h)) (writes refl refl refl (λ j i h. h))
  own_does k (own_store h) q = still refl refl refl refl refl refl (λ j i h. absurd h)

-- any step
pub step_does : (g : Offer) (fl : ℕ → Flavour) (t : ℕ) (x : Stage) (q : Queue) → T (busy x)
    → Does g.claim (fl t) t (touched t x) x q (step_at g fl t x q)
step_does g fl t idle q b = absurd b
step_does g fl t (push x p) q b = push_does g (fl t) t x p q
step_does g fl t (fifo_pop w p) q b = fifo_does g (fl t) t w p q
step_does g fl t (lifo_pop w p) q b = lifo_does g (fl t) t w p q
step_does g fl t (shrink w v z) q b = shrink_does g (fl t) t w v z q
step_does g fl t (steal k p) q b = steal_does g (fl t) t k p q
step_does g fl t (len k p) q b = length_does g (fl t) t k p q
step_does g fl t (own_batch p) q b = own_batch_does g (fl t) t p q
step_does g fl t (source k p) q b = source_does g (fl t) t (fl k) k p q
step_does g fl t (own k p) q b = own_does g (fl t) t k p q
