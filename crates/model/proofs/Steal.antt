-- A single steal, a length, a batch from the own queue: whatever the queue's owner is doing.
use mathlib.Core.Path.{◌≡◌, refl}
use Prim.Native.Nat.{ℕ, suc, ◌+◌, ◌<◌}
use native.Mathlib.Omega.{arith}
use native.Mathlib.Nat.{le_refl}
use lib.Dec.{leb, eqb}
use Rattle.base.specs.Tests.{by_test, tests}
use Rattle.model.specs.Stage.{Flavour, fifo, lifo, Queue, cell, at, set_front, own, StealStage, steal_front, steal_back, steal_ring, steal_read}
use Rattle.model.specs.Stage.{steal_reload, steal_exchange, LengthStage, length_back, length_front, source, Stage, idle, push, fifo_pop, lifo_pop}
use Rattle.model.specs.Stage.{shrink, steal, len, own_batch, Answer, working, empty, success, retry, moved, two_numbers, Out, out, ended}
use Rattle.model.specs.Tables.{steal_step, length_step, own_batch_step}
use Rattle.model.specs.Logical.{amount, accepts, gives}
use Rattle.model.specs.Invariant.{Ok, View, view, Ev, wide, StealKnows, LengthKnows}
use Rattle.model.proofs.Stable.{ev_refl, span_of}
use Rattle.model.proofs.Exchange.{won}

-- the thread looks at k, or is idle
abbrev pub From : ℕ → Stage → Type 0
From k idle = Unit
From k (push x p) = ⊥
From k (fifo_pop w p) = ⊥
From k (lifo_pop w p) = ⊥
From k (shrink w v z) = ⊥
From k (steal i p) = i ≡ k
From k (len i p) = i ≡ k
From k (own_batch p) = Unit
From k (source i p) = ⊥
From k (own i p) = ⊥

-- back: the queue's
abbrev pub Knows : Flavour → Stage → View → (back : ℕ) → Type 0
Knows fl idle v back = Unit
Knows fl (push x p) v back = ⊥
Knows fl (fifo_pop w p) v back = ⊥
Knows fl (lifo_pop w p) v back = ⊥
Knows fl (shrink w x z) v back = ⊥
Knows fl (steal k p) v back = StealKnows fl p v
Knows fl (len k p) v back = LengthKnows p back
Knows fl (own_batch p) v back = Unit
Knows fl (source k p) v back = ⊥
Knows fl (own k p) v back = ⊥

-- s, q: the queue's owner and the queue
pub record Fair (fl : Flavour) (k : ℕ) (s : Stage) (q : Queue) (o : Out) : Type 0 where
  pub ok : Ok fl s o.queue
  pub ev : Ev fl (view s q) (view s o.queue)
  pub cells : at o.queue ≡ at q
  pub bal : (m j : ℕ) → accepts m o.answer j + amount s q j ≡ gives o.answer j + amount s o.queue j
  pub from : From k o.stage
  pub backs : o.queue.back ≡ q.back
  pub knows : Knows fl o.stage (view s o.queue) o.queue.back

module _ (fl : Flavour) (k : ℕ) (s : Stage) (q : Queue) (o : Ok fl s q) where
  look : (x : Stage) (a : Answer) → ((m j : ℕ) → accepts m a j ≡ gives a j) → From k x → Knows fl x (view s q) q.back → Fair fl k s q (out q x a)
  look x a h f w = record { ok = o; ev = ev_refl fl (view s q); cells = refl; bal = λ m j. omega (arith, h m j); from = f; backs = refl; knows = w }

  steal_won : (r f v : ℕ) → StealKnows fl (steal_exchange r f v) (view s q) → q.front ≡ f → Fair fl k s q (ended (set_front q (suc f)) (success v))
  steal_won r f v w e =
      let g = won fl s q f v o w.0 w.1 e in
      record { ok = g.ok; ev = g.ev; cells = refl; bal = λ m j. omega (arith, g.bal j); from = tt; backs = refl; knows = tt }

  pub steal_fair : (p : StealStage) → StealKnows fl p (view s q) → Fair fl k s q (steal_step k p q)
  unfolding steal_step
  steal_fair steal_front w = look (steal k (steal_back q.front)) working (λ m j. refl) refl o.reach
  steal_fair (steal_back f) w =
      let bk = o.backs in
      by_test (Fair fl k s q) (leb q.back f) _ _ (λ t. look idle empty (λ m j. refl) tt tt)
      (λ t. look (steal k (steal_ring f)) working (λ m j. refl) refl (span_of fl (view s q) f 1 w (omega arith) (omega tests)))
  steal_fair (steal_ring f) w = look (steal k (steal_read q.ring f)) working (λ m j. refl) refl (w, (o.ring_top, λ x a b c. refl))
  steal_fair (steal_read r f) w =
      look (steal k (steal_reload r f (cell q r f))) working (λ m j. refl) refl (w.0, λ l. w.1.1 f l (le_refl f) (one_wide fl), w.1.0)
    where
      one_wide : (fl : Flavour) → f < f + wide fl 1
      one_wide fifo = omega arith
      one_wide lifo = omega arith
  steal_fair (steal_reload r f v) w =
      by_test (Fair fl k s q) (eqb r q.ring) _ _ (λ t. look (steal k (steal_exchange r f v)) working (λ m j. refl) refl w)
      (λ t. look idle retry (λ m j. refl) tt tt)
  steal_fair (steal_exchange r f v) w =
      by_test (Fair fl k s q) (eqb q.front f) _ _ (λ t. steal_won r f v w (omega tests))
      (λ t. look idle retry (λ m j. refl) tt tt)

  pub length_fair : (p : LengthStage) → Fair fl k s q (length_step k p q)
  unfolding length_step
  length_fair length_back = look (len k (length_front q.back)) working (λ m j. refl) refl refl
  length_fair (length_front b) = look idle (two_numbers b q.front) (λ m j. refl) tt tt

  pub own_batch_fair : (p : LengthStage) → Fair fl k s q (own_batch_step p q)
  unfolding own_batch_step
  own_batch_fair length_back = look (own_batch (length_front q.back)) working (λ m j. refl) tt tt
  own_batch_fair (length_front b) =
      by_test (λ (a : Answer). Fair fl k s q (ended q a)) (leb b q.front) _ _ (λ t. look idle empty (λ m j. refl) tt tt)
      (λ t. look idle moved (λ m j. refl) tt tt)
