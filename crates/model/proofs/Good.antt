-- What is proved of a step of a thread on its own queue, and the two commonest shapes of such a step.
use mathlib.Core.Path.{◌≡◌}
use Prim.Native.Nat.{ℕ, ◌+◌, ◌≤◌, ◌<◌}
use native.Mathlib.Omega.{arith}
use native.Mathlib.Nat.{le_refl}
use Rattle.model.specs.Stage.{Flavour, Queue, cap, own, source, Stage, idle, push, fifo_pop, lifo_pop, shrink, steal, len, own_batch, Answer, Out}
use Rattle.model.specs.Stage.{out}
use Rattle.model.specs.Logical.{lo, hi, held, amount, accepts, gives, Says}
use Rattle.model.specs.Invariant.{StageOk, Ok, view, Ev}
use Rattle.model.proofs.Stable.{ev_refl, reach_le}

-- P: what else the next stage is to satisfy
pub record Good (P : Stage → Queue → Type 0) (fl : Flavour) (s : Stage) (q : Queue) (o : Out) : Type 0 where
  pub ok : Ok fl o.stage o.queue
  pub ev : Ev fl (view s q) (view o.stage o.queue)
  pub bal : (m j : ℕ) → Says m s → accepts m o.answer j + amount s q j ≡ gives o.answer j + amount o.stage o.queue j
  pub says : (m : ℕ) → Says m s → Says m o.stage
  pub after : P o.stage o.queue

-- no source
abbrev pub Calm : Stage → Queue → Type 0
Calm idle q = Unit
Calm (push x p) q = Unit
Calm (fifo_pop w p) q = Unit
Calm (lifo_pop w p) q = Unit
Calm (shrink w v z) q = Unit
Calm (steal k p) q = ⊥
Calm (len k p) q = ⊥
Calm (own_batch p) q = Unit
Calm (source k p) q = ⊥
Calm (own k p) q = ⊥

-- another stage with the same logical queue
pub ok_as : (fl : Flavour) (s s' : Stage) (q : Queue) → Ok fl s q → lo s' q ≡ lo s q → hi s' q ≡ hi s q → StageOk fl s' q → Ok fl s' q
ok_as fl s s' q o e f p = record {
  order = rw (e, f) o.order;
  fits = rw (e, f) o.fits;
  some_cap = o.some_cap;
  ring_top = o.ring_top;
  backs = rw f o.backs;
  fronts = rw e o.fronts;
  exact = rw (e, f) o.exact;
  reach = rw e o.reach;
  stage = p;
}

-- the queue is left as it was, and the logical queue too
pub quiet : (P : Stage → Queue → Type 0) (fl : Flavour) (s s' : Stage) (a : Answer) (q : Queue) → Ok fl s q → lo s' q ≡ lo s q → hi s' q ≡ hi s q
    → ((m j : ℕ) → accepts m a j + held s q j ≡ gives a j + held s' q j) → ((m : ℕ) → Says m s → Says m s') → P s' q → StageOk fl s' q
    → Good P fl s q (out q s' a)
quiet P fl s s' a q o e f h w c p = record {
  ok = ok_as fl s s' q o e f p;
  ev = rw (e, f) (ev_refl fl (view s q));
  bal = λ m j u. rw (e, f) (omega (arith, h m j));
  says = w;
  after = c;
}

-- a stage with the physical queue for logical one
pub ok_rest : (fl : Flavour) (s : Stage) (q : Queue) → lo s q ≡ q.front → hi s q ≡ q.back → q.front ≤ q.back → q.back ≤ q.front + cap q
    → 0 < cap q
    → q.ring < q.top → StageOk fl s q → Ok fl s q
ok_rest fl s q e f a b c d p = record {
  order = rw (e, f) a;
  fits = rw (e, f) b;
  some_cap = c;
  ring_top = d;
  backs = rw f (omega arith);
  fronts = rw e (omega arith);
  exact = λ h. e;
  reach = rw e (reach_le fl q.front q.front (le_refl q.front));
  stage = p;
}
