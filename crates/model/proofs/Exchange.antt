-- What a thief's exchange does to the source: its front goes from where it is to m. Whatever the owner is doing, the owner's stage stays true,
-- other thieves know what they knew, and the jobs up to m have left the queue.
use mathlib.Core.Path.{◌≡◌, refl, sym, ap, ◌∙◌}
use Prim.Native.Nat.{ℕ, suc, ◌+◌, ◌≤◌, ◌<◌}
use native.Mathlib.Omega.{arith}
use Rattle.model.specs.Count.{one, stand}
use Rattle.model.specs.Stage.{Flavour, Queue, at, set_front, ResizeStage, resize_back, resize_front, resize_copy, resize_swap, PushStage}
use Rattle.model.specs.Stage.{push_back, push_front, push_resize, push_write, push_store, FifoPopStage, fifo_back, fifo_front, fifo_add}
use Rattle.model.specs.Stage.{fifo_restore, fifo_read, LifoPopStage, lifo_back, lifo_front, lifo_store, lifo_reload, lifo_restore, lifo_last}
use Rattle.model.specs.Stage.{lifo_exchange, lifo_won, lifo_read, own, Popper, source, SourceStage, source_front, source_back, source_ring}
use Rattle.model.specs.Stage.{source_first, all_copy, all_reload, all_exchange, one_first, one_back, one_read, one_reload, one_exchange}
use Rattle.model.specs.Stage.{OwnStage, reserve_back, reserve_front, reserve_resize, own_back, all_write, one_write, swap_near, swap_far}
use Rattle.model.specs.Stage.{swap_put, swap_last, own_store, Stage, idle, push, fifo_pop, lifo_pop, shrink, steal, len, own_batch}
use Rattle.model.specs.Logical.{lo, hi, held_own, held_source, held, amount}
use Rattle.model.specs.Invariant.{ResizeOk, OwnOk, SourceOk, StageOk, Ok, view, Ev, Span, Has}
use Rattle.model.proofs.CountLaws.{stand_empty, stand_front, stand_split}
use Rattle.model.proofs.Stable.{ev_ends, reach_le, span_hi}

pub record Jump (fl : Flavour) (s : Stage) (q : Queue) (m : ℕ) : Type 0 where
  pub ok : Ok fl s (set_front q m)
  pub ev : Ev fl (view s q) (view s (set_front q m))
  pub bal : (j : ℕ) → amount s q j ≡ stand (at q) q.front m j + amount s (set_front q m) j

jump_of : (fl : Flavour) (s : Stage) (q : Queue) (m : ℕ) → Ok fl s q → q.front ≤ m → m ≤ hi s q → lo s q ≡ q.front → lo s (set_front q m) ≡ m
    → hi s (set_front q m) ≡ hi s q → ((j : ℕ) → held s (set_front q m) j ≡ held s q j) → StageOk fl s (set_front q m) → Jump fl s q m
jump_of fl s q m o a b e f g h p = record {
  ok = record {
    order = rw (f, g) b;
    fits = rw (f, g) (omega arith);
    some_cap = o.some_cap;
    ring_top = o.ring_top;
    backs = rw g o.backs;
    fronts = rw f (omega arith);
    exact = λ k. f;
    reach = rw f (reach_le fl m m (omega arith));
    stage = p;
  };
  ev = rw (f, g) (ev_ends fl (view s q) m (hi s q) (rw e a) (λ i r k. k));
  bal = λ j. rw (f, g, e, h j) (omega (arith, stand_split (at q) q.front m (hi s q) j a b));
}

-- ---- what the owner knows stays true

jump_resize : (need : ℕ) (z : ResizeStage) (q : Queue) (m : ℕ) → q.front < m → m ≤ q.back → ResizeOk need z q → ResizeOk need z (set_front q m)
jump_resize need (resize_back c) q m a b o = (o.0, omega arith)
jump_resize need (resize_front c i) q m a b o = (o.0, omega arith, o.2)
jump_resize need (resize_copy c i x cells) q m a b o = (o.0, omega arith, o.2, o.3, λ y l u. o.4 y (omega arith) u)
jump_resize need (resize_swap c cells) q m a b o = (o.0, omega arith, λ y l u. o.2 y (omega arith) u)

jump_push : (fl : Flavour) (x : ℕ) (p : PushStage) (q : Queue) (m : ℕ) → Ok fl (push x p) q → q.front < m → m ≤ q.back
    → StageOk fl (push x p) (set_front q m)
jump_push fl x push_back q m o a b = tt
jump_push fl x (push_front i) q m o a b = o.stage
jump_push fl x (push_resize i z) q m o a b = (o.stage.0, jump_resize 1 z q m a b o.stage.1)
jump_push fl x (push_write i) q m o a b = omega arith
jump_push fl x (push_store i) q m o a b = (omega arith, o.stage.1)

jump_fifo : (fl : Flavour) (w : Popper) (p : FifoPopStage) (q : Queue) (m : ℕ) → Ok fl (fifo_pop w p) q → q.front < m → m ≤ hi (fifo_pop w p) q
    → Jump fl (fifo_pop w p) q m
jump_fifo fl w fifo_back q m o a b = jump_of fl (fifo_pop w fifo_back) q m o (omega arith) b refl refl refl (λ j. refl) o.stage
jump_fifo fl w (fifo_front i) q m o a b = jump_of fl (fifo_pop w (fifo_front i)) q m o (omega arith) b refl refl refl (λ j. refl) o.stage
jump_fifo fl w (fifo_add i others) q m o a b =
    jump_of fl (fifo_pop w (fifo_add i others)) q m o (omega arith) b refl refl refl (λ j. refl) (o.stage.0, omega arith)
jump_fifo fl w (fifo_restore i) q m o a b = absurd (omega arith)
jump_fifo fl w (fifo_read i others) q m o a b =
    jump_of fl (fifo_pop w (fifo_read i others)) q m o (omega arith) b refl refl refl (λ j. refl) (o.stage.0, omega arith)

jump_lifo : (fl : Flavour) (w : Popper) (p : LifoPopStage) (q : Queue) (m : ℕ) → Ok fl (lifo_pop w p) q → q.front < m → m ≤ hi (lifo_pop w p) q
    → Jump fl (lifo_pop w p) q m
jump_lifo fl w lifo_back q m o a b = jump_of fl (lifo_pop w lifo_back) q m o (omega arith) b refl refl refl (λ j. refl) o.stage
jump_lifo fl w (lifo_front i) q m o a b = jump_of fl (lifo_pop w (lifo_front i)) q m o (omega arith) b refl refl refl (λ j. refl) o.stage
jump_lifo fl w (lifo_store i) q m o a b = jump_of fl (lifo_pop w (lifo_store i)) q m o (omega arith) b refl refl refl (λ j. refl) o.stage
jump_lifo fl w (lifo_reload i) q m o a b = jump_of fl (lifo_pop w (lifo_reload i)) q m o (omega arith) b refl refl refl (λ j. refl) o.stage
jump_lifo fl w (lifo_restore i) q m o a b = absurd (omega arith)
jump_lifo fl w (lifo_last i) q m o a b =
    jump_of fl (lifo_pop w (lifo_last i)) q m o (omega arith) b refl refl refl
    (λ j. refl) (o.stage.0, (o.stage.1.0, omega arith))
jump_lifo fl w (lifo_exchange i v) q m o a b =
    jump_of fl (lifo_pop w (lifo_exchange i v)) q m o (omega arith) b refl refl refl (λ j. refl)
    (o.stage.0, (o.stage.1.0, omega arith, λ e. absurd (omega arith)))
jump_lifo fl w (lifo_won i v) q m o a b = absurd (omega arith)
jump_lifo fl w (lifo_read i others) q m o a b =
    jump_of fl (lifo_pop w (lifo_read i others)) q m o (omega arith) b refl refl refl (λ j. refl) (o.stage.0, (o.stage.1.0, omega arith))

jump_own : (p : OwnStage) (q : Queue) (m : ℕ) → OwnOk p q → q.front < m → m ≤ q.back → OwnOk p (set_front q m)
jump_own (reserve_back w) q m o a b = tt
jump_own (reserve_front w i) q m o a b = o
jump_own (reserve_resize w z) q m o a b = jump_resize w.n z q m a b o
jump_own (own_back w) q m o a b = omega arith
jump_own (all_write h i v) q m o a b = omega arith
jump_own (one_write h i v) q m o a b = omega arith
jump_own (swap_near h x) q m o a b = omega arith
jump_own (swap_far h x near) q m o a b = (omega arith, o.1, o.2)
jump_own (swap_put h x near far) q m o a b = (omega arith, o.1, o.2, o.3)
jump_own (swap_last h x near) q m o a b = omega arith
jump_own (own_store h) q m o a b = omega arith

jump_source : (p : SourceStage) (q : Queue) (m : ℕ) → SourceOk p q → q.front < m → SourceOk p (set_front q m)
jump_source (source_front e others) q m o a = tt
jump_source (source_back e others f) q m o a = tt
jump_source (source_ring w i) q m o a = omega arith
jump_source (source_first h) q m o a = omega arith
jump_source (all_copy h i) q m o a = omega arith
jump_source (all_reload h) q m o a = omega arith
jump_source (all_exchange h) q m o a = omega arith
jump_source (one_first h v) q m o a = omega arith
jump_source (one_back h i) q m o a = omega arith
jump_source (one_read h i) q m o a = omega arith
jump_source (one_reload h i v) q m o a = omega arith
jump_source (one_exchange h i v) q m o a = omega arith

-- ---- what the owner holds stays what it was

kept_own : (p : OwnStage) (q : Queue) (m j : ℕ) → held_own p (set_front q m) j ≡ held_own p q j
kept_own (reserve_back w) q m j = refl
kept_own (reserve_front w i) q m j = refl
kept_own (reserve_resize w z) q m j = refl
kept_own (own_back w) q m j = refl
kept_own (all_write h i v) q m j = refl
kept_own (one_write h i v) q m j = refl
kept_own (swap_near h x) q m j = refl
kept_own (swap_far h x near) q m j = refl
kept_own (swap_put h x near far) q m j = refl
kept_own (swap_last h x near) q m j = refl
kept_own (own_store h) q m j = refl

kept_source : (p : SourceStage) (q : Queue) (m j : ℕ) → held_source p (set_front q m) j ≡ held_source p q j
kept_source (source_front e others) q m j = refl
kept_source (source_back e others f) q m j = refl
kept_source (source_ring w i) q m j = refl
kept_source (source_first h) q m j = refl
kept_source (all_copy h i) q m j = refl
kept_source (all_reload h) q m j = refl
kept_source (all_exchange h) q m j = refl
kept_source (one_first h v) q m j = refl
kept_source (one_back h i) q m j = refl
kept_source (one_read h i) q m j = refl
kept_source (one_reload h i v) q m j = refl
kept_source (one_exchange h i v) q m j = refl

-- ---- any stage

pub jump : (fl : Flavour) (s : Stage) (q : Queue) (m : ℕ) → Ok fl s q → q.front < m → m ≤ hi s q → Jump fl s q m
jump fl idle q m o a b = jump_of fl idle q m o (omega arith) b refl refl refl (λ j. refl) tt
jump fl (push x p) q m o a b = jump_of fl (push x p) q m o (omega arith) b refl refl refl (λ j. refl) (jump_push fl x p q m o a b)
jump fl (fifo_pop w p) q m o a b = jump_fifo fl w p q m o a b
jump fl (lifo_pop w p) q m o a b = jump_lifo fl w p q m o a b
jump fl (shrink w v z) q m o a b = jump_of fl (shrink w v z) q m o (omega arith) b refl refl refl (λ j. refl) (jump_resize 0 z q m a b o.stage)
jump fl (steal k p) q m o a b = jump_of fl (steal k p) q m o (omega arith) b refl refl refl (λ j. refl) tt
jump fl (len k p) q m o a b = jump_of fl (len k p) q m o (omega arith) b refl refl refl (λ j. refl) tt
jump fl (own_batch p) q m o a b = jump_of fl (own_batch p) q m o (omega arith) b refl refl refl (λ j. refl) tt
jump fl (source k p) q m o a b =
    jump_of fl (source k p) q m o (omega arith) b refl refl refl (λ j. kept_source p q m j) (jump_source p q m o.stage a)
jump fl (own k p) q m o a b = jump_of fl (own k p) q m o (omega arith) b refl refl refl (λ j. kept_own p q m j) (jump_own p q m o.stage a b)

-- an exchange won for one job, of which the thief knows
pub record Won (fl : Flavour) (s : Stage) (q : Queue) (f v : ℕ) : Type 0 where
  pub ok : Ok fl s (set_front q (suc f))
  pub ev : Ev fl (view s q) (view s (set_front q (suc f)))
  pub bal : (j : ℕ) → amount s q j ≡ one v j + amount s (set_front q (suc f)) j

pub won : (fl : Flavour) (s : Stage) (q : Queue) (f v : ℕ) → Ok fl s q → Span fl (view s q) f 1 → Has (view s q) f v → q.front ≡ f → Won fl s q f v
won fl s q f v o k w e =
    let l : q.front < suc f = omega arith in
    let h : suc f ≤ hi s q = span_hi fl (view s q) f 1 k in
    let x : lo s q ≡ q.front = o.exact (omega arith) in
    let y : v ≡ at q q.front = w (omega arith) ∙ ap (at q) (sym e) in
    let g = jump fl s q (suc f) o l h in
    record {
      ok = g.ok;
      ev = g.ev;
      bal = λ j. omega (
        arith,
        g.bal j,
        stand_front (at q) q.front (suc f) j l,
        stand_empty (at q) (suc q.front) (suc f) j (omega arith),
        ap (λ (u : ℕ). one u j) y,
      );
    }
