-- The two pops, and their shrink.
use mathlib.Core.Path.{◌≡◌, refl, sym}
use mathlib.Core.Bool.{Bool, true, false, ◌&&◌}
use Prim.Native.Nat.{ℕ, suc, ◌+◌, ◌-◌, ◌≤◌, ◌<◌}
use native.Mathlib.Omega.{arith}
use lib.Dec.{T, leb, ltb, eqb}
use Rattle.base.specs.Tests.{by_test, tests}
use Rattle.model.specs.Count.{one}
use Rattle.model.specs.Stage.{Flavour, Queue, cell, at, set_front, set_back, ResizeStage, resize_back, FifoPopStage, fifo_back, fifo_front}
use Rattle.model.specs.Stage.{fifo_add, fifo_restore, fifo_read, LifoPopStage, lifo_back, lifo_front, lifo_store, lifo_reload, lifo_restore}
use Rattle.model.specs.Stage.{lifo_last, lifo_exchange, job, lifo_won, lifo_read, Popper, Stage, idle, fifo_pop, lifo_pop, shrink, Answer}
use Rattle.model.specs.Stage.{working, nothing, going, ended}
use Rattle.model.specs.Tables.{Offer, resize_step, reading, shrink_step, fifo_step, lifo_step}
use Rattle.model.specs.Logical.{lo, hi, held, accepts, gives}
use Rattle.model.specs.Invariant.{Ok, view}
use Rattle.model.proofs.CountLaws.{stand_front, stand_back}
use Rattle.model.proofs.Stable.{ev_ends, ev_refl, reach_le, reach_fifo, le_reach}
use Rattle.model.proofs.Good.{Good, Calm, quiet, ok_rest}
use Rattle.model.proofs.Resize.{by_resize, resize_good}

pub shrink_good : (g : Offer) (fl : Flavour) (p : Popper) (v : ℕ) (z : ResizeStage) (q : Queue) → Ok fl (shrink p v z) q
    → Good Calm fl (shrink p v z) q (shrink_step g p v z q)
unfolding shrink_step
shrink_good g fl p v z q o =
    by_resize (Good Calm fl (shrink p v z) q) 0 fl q (resize_step g.claim z q)
    (λ y. going q (shrink p v y)) (ended q (job p v)) (λ r. ended r (job p v))
    (resize_good 0 fl g.claim z q o.ring_top o.order o.stage)
    (λ y k. quiet Calm fl (shrink p v z) (shrink p v y) working q o refl refl (λ m j. refl) (λ m h. tt) tt k)
    (quiet Calm fl (shrink p v z) idle (job p v) q o refl refl (λ m j. omega arith) (λ m h. tt) tt tt)
    (λ r k. record {
      ok = ok_rest fl idle r refl refl (omega arith) (omega arith) k.some_cap k.ring_top tt;
      ev = k.ev;
      bal = λ m j w. rw (k.stands j) (omega arith);
      says = λ m h. tt;
      after = tt;
    })

pub both_of : (a b : Bool) → T (a && b) → T a × T b
both_of true true t = (tt, tt)
both_of true false t = absurd t
both_of false true t = absurd t
both_of false false t = absurd t

-- the last step, or the shrink: from a stage that holds v and nothing else, with d at least the difference
reading_good : (g : Offer) (fl : Flavour) (s : Stage) (p : Popper) (d v : ℕ) (q : Queue) → Ok fl s q → lo s q ≡ q.front → hi s q ≡ q.back
    → ((j : ℕ) → held s q j ≡ one v j) → q.back ≤ q.front + d → Good Calm fl s q (reading g p d v q)
reading_good g fl s p d v q o e f h r =
    by_test (Good Calm fl s q) (ltb 0 g.capacity && leb d g.capacity) _ _
    (λ u. (let w = both_of (ltb 0 g.capacity) (leb d g.capacity) u in let w₀ = w.0 in let w₁ = w.1 in
    quiet Calm fl s (shrink p v (resize_back g.capacity)) working q o (sym e) (sym f)
    (λ m j. omega (arith, h j)) (λ m h. tt) tt (omega tests, omega tests)))
    (λ u. quiet Calm fl s idle (job p v) q o (sym e) (sym f) (λ m j. omega (arith, h j)) (λ m h. tt) tt tt)

-- ---- FIFO

fifo_lost : (fl : Flavour) (w : Popper) (b others : ℕ) (q : Queue) → Ok fl (fifo_pop w (fifo_add b others)) q → b ≤ q.front
    → Good Calm fl (fifo_pop w (fifo_add b others)) q (going (set_front q (suc q.front)) (fifo_pop w (fifo_restore q.front)))
fifo_lost fl w b others q o h = record {
  ok = record {
    order = o.order;
    fits = o.fits;
    some_cap = o.some_cap;
    ring_top = o.ring_top;
    backs = o.backs;
    fronts = omega arith;
    exact = λ k. omega arith;
    reach = reach_fifo fl q.front (suc q.front) o.stage.0;
    stage = (o.stage.0, (refl, omega arith));
  };
  ev = ev_refl fl (view (fifo_pop w (fifo_add b others)) q);
  bal = λ m j w. refl;
  says = λ m h. tt;
  after = tt;
}

fifo_got : (fl : Flavour) (w : Popper) (b others : ℕ) (q : Queue) → Ok fl (fifo_pop w (fifo_add b others)) q → q.front < b
    → Good Calm fl (fifo_pop w (fifo_add b others)) q (going (set_front q (suc q.front)) (fifo_pop w (fifo_read q.front others)))
fifo_got fl w b others q o h = record {
  ok = ok_rest fl (fifo_pop w (fifo_read q.front others)) (set_front q (suc q.front)) refl refl (omega arith) (omega arith) o.some_cap o.ring_top
      (o.stage.0, omega arith);
  ev = ev_ends fl (view (fifo_pop w (fifo_add b others)) q) (suc q.front) q.back (omega arith) (λ f r k. k);
  bal = λ m j w. omega (arith, stand_front (at q) q.front q.back j (omega arith));
  says = λ m h. tt;
  after = tt;
}

fifo_restored : (g : Offer) (fl : Flavour) (w : Popper) (f : ℕ) (q : Queue) → Ok fl (fifo_pop w (fifo_restore f)) q
    → Good Calm fl (fifo_pop w (fifo_restore f)) q (fifo_step g w (fifo_restore f) q)
unfolding fifo_step
fifo_restored g fl w f q o = record {
  ok = ok_rest fl idle _ refl refl (omega (arith, o.order)) (omega (arith, o.fits)) o.some_cap o.ring_top tt;
  ev = ev_refl fl (view (fifo_pop w (fifo_restore f)) q);
  bal = λ m j w. refl;
  says = λ m h. tt;
  after = tt;
}

pub fifo_good : (g : Offer) (fl : Flavour) (w : Popper) (p : FifoPopStage) (q : Queue) → Ok fl (fifo_pop w p) q
    → Good Calm fl (fifo_pop w p) q (fifo_step g w p q)
unfolding fifo_step
fifo_good g fl w fifo_back q o =
    quiet Calm fl (fifo_pop w fifo_back) (fifo_pop w (fifo_front q.back)) working q o refl refl (λ m j. refl) (λ m h. tt) tt (o.stage.0, refl)
fifo_good g fl w (fifo_front b) q o =
    by_test (Good Calm fl (fifo_pop w (fifo_front b)) q) (leb b q.front) _ _
    (λ t. quiet Calm fl (fifo_pop w (fifo_front b)) idle (nothing w) q o refl refl (λ m j. refl) (λ m h. tt) tt tt)
    (λ t. quiet Calm fl (fifo_pop w (fifo_front b)) (fifo_pop w (fifo_add b (b - q.front - 1))) working q o refl refl (λ m j. refl) (λ m h. tt) tt
    (o.stage.0, (o.stage.1, omega arith)))
fifo_good g fl w (fifo_add b others) q o =
    by_test (λ (x : Stage). Good Calm fl (fifo_pop w (fifo_add b others)) q (going (set_front q (suc q.front)) x)) (ltb b (suc q.front)) _ _
    (λ t. fifo_lost fl w b others q o (omega tests)) (λ t. fifo_got fl w b others q o (omega tests))
fifo_good g fl w (fifo_restore f) q o = fifo_restored g fl w f q o
fifo_good g fl w (fifo_read f others) q o = reading_good g fl (fifo_pop w (fifo_read f others)) w (suc others) (at q f) q o refl refl (λ j. refl) o.stage.1

-- ---- LIFO

lifo_stored : (fl : Flavour) (w : Popper) (b : ℕ) (q : Queue) → Ok fl (lifo_pop w (lifo_store b)) q
    → Good Calm fl (lifo_pop w (lifo_store b)) q (going (set_back q (b - 1)) (lifo_pop w (lifo_reload b)))
lifo_stored fl w b q o = record {
  ok = record {
    order = omega arith;
    fits = omega arith;
    some_cap = o.some_cap;
    ring_top = o.ring_top;
    backs = omega arith;
    fronts = o.fronts;
    exact = λ k. refl;
    reach = o.reach;
    stage = (o.stage.0, omega arith);
  };
  ev = ev_ends fl (view (lifo_pop w (lifo_store b)) q) q.front b (omega arith) (λ f r k. omega arith);
  bal = λ m j w. (let e = o.stage.1.0 in rw e);
  says = λ m h. tt;
  after = tt;
}

-- d > 0: the job at b - 1 is the owner's from the load of front on
lifo_taken : (fl : Flavour) (w : Popper) (b : ℕ) (q : Queue) → Ok fl (lifo_pop w (lifo_reload b)) q → suc q.front < b
    → Good Calm fl (lifo_pop w (lifo_reload b)) q (going q (lifo_pop w (lifo_read b (b - 1 - q.front - 1))))
lifo_taken fl w b q o h = record {
  ok = ok_rest fl (lifo_pop w (lifo_read b (b - 1 - q.front - 1))) q refl refl (omega arith) (omega arith) o.some_cap o.ring_top
      (o.stage.0, (o.stage.1, omega arith));
  ev = ev_ends fl (view (lifo_pop w (lifo_reload b)) q) q.front q.back (omega arith)
      (λ f r k. omega (arith, le_reach fl q.front f o.stage.0 r));
  bal = λ m j w. (let e = o.stage.1 in rw (← e) (omega (arith, stand_back (at q) q.front q.back j (omega arith))));
  says = λ m h. tt;
  after = tt;
}

lifo_exchanged : (fl : Flavour) (w : Popper) (b v : ℕ) (q : Queue) → Ok fl (lifo_pop w (lifo_exchange b v)) q → q.front ≡ b - 1
    → Good Calm fl (lifo_pop w (lifo_exchange b v)) q (going (set_front q (suc (b - 1))) (lifo_pop w (lifo_won b v)))
lifo_exchanged fl w b v q o h = record {
  ok = record {
    order = omega arith;
    fits = omega arith;
    some_cap = o.some_cap;
    ring_top = o.ring_top;
    backs = omega arith;
    fronts = omega arith;
    exact = λ k. refl;
    reach = reach_le fl (suc (b - 1)) (suc (b - 1)) (omega arith);
    stage = (o.stage.0, (o.stage.1.0, omega arith));
  };
  ev = ev_ends fl (view (lifo_pop w (lifo_exchange b v)) q) (suc (b - 1)) b (omega arith) (λ g r k. k);
  bal = λ m j w. (let e : q.front ≡ q.back = omega arith in
      let f : b - 1 ≡ q.back = omega arith in
      rw (e, f, o.stage.1.2 e) (omega (arith, stand_front (at q) q.back b j (omega arith))));
  says = λ m h. tt;
  after = tt;
}

-- the back is put where the logical back stood; the queue is empty
lifo_reset : (fl : Flavour) (w : Popper) (p : LifoPopStage) (b : ℕ) (a : Answer) (q : Queue) → Ok fl (lifo_pop w p) q → hi (lifo_pop w p) q ≡ b
    → ((m j : ℕ) → accepts m a j + held (lifo_pop w p) q j ≡ gives a j + 0) → q.front ≡ b → Good Calm fl (lifo_pop w p) q (ended (set_back q b) a)
lifo_reset fl w p b a q o e h k = record {
  ok = ok_rest fl idle (set_back q b) refl refl (omega arith) (omega arith) o.some_cap o.ring_top tt;
  ev = rw e (ev_refl fl (record { lo = q.front; hi = b; ring = q.ring; top = q.top; content = at q; cell = cell q }));
  bal = λ m j w. rw e (omega (arith, h m j));
  says = λ m h. tt;
  after = tt;
}

pub lifo_good : (g : Offer) (fl : Flavour) (w : Popper) (p : LifoPopStage) (q : Queue) → Ok fl (lifo_pop w p) q
    → Good Calm fl (lifo_pop w p) q (lifo_step g w p q)
unfolding lifo_step
lifo_good g fl w lifo_back q o =
    quiet Calm fl (lifo_pop w lifo_back) (lifo_pop w (lifo_front q.back)) working q o refl refl (λ m j. refl) (λ m h. tt) tt (o.stage.0, refl)
lifo_good g fl w (lifo_front b) q o =
    by_test (Good Calm fl (lifo_pop w (lifo_front b)) q) (leb b q.front) _ _
    (λ t. quiet Calm fl (lifo_pop w (lifo_front b)) idle (nothing w) q o refl refl (λ m j. refl) (λ m h. tt) tt tt)
    (λ t. quiet Calm fl (lifo_pop w (lifo_front b)) (lifo_pop w (lifo_store b)) working q o refl refl (λ m j. refl) (λ m h. tt) tt
    (o.stage.0, (o.stage.1, omega tests)))
lifo_good g fl w (lifo_store b) q o = lifo_stored fl w b q o
lifo_good g fl w (lifo_reload b) q o =
    let P : Stage → Type 0 = λ x. Good Calm fl (lifo_pop w (lifo_reload b)) q (going q x) in
    by_test P (ltb (b - 1) q.front) _ _
    (λ t. quiet Calm fl (lifo_pop w (lifo_reload b)) (lifo_pop w (lifo_restore b)) working q o refl refl (λ m j. refl) (λ m h. tt) tt
    (o.stage.0, (o.stage.1, omega tests)))
    (λ t. by_test P (leb (b - 1) q.front) _ _
    (λ u. quiet Calm fl (lifo_pop w (lifo_reload b)) (lifo_pop w (lifo_last b)) working q o refl refl (λ m j. refl) (λ m h. tt) tt
    (o.stage.0, (o.stage.1, omega tests)))
    (λ u. lifo_taken fl w b q o (omega tests)))
lifo_good g fl w (lifo_restore b) q o = lifo_reset fl w (lifo_restore b) b (nothing w) q o refl (λ m j. refl) (omega arith)
lifo_good g fl w (lifo_last b) q o =
    quiet Calm fl (lifo_pop w (lifo_last b)) _ working q o refl refl (λ m j. refl) (λ m h. tt) tt
    (o.stage.0, (o.stage.1.0, o.stage.1.1, λ e. (let g : b - 1 ≡ q.back = omega arith in rw g)))
lifo_good g fl w (lifo_exchange b v) q o =
    by_test (Good Calm fl (lifo_pop w (lifo_exchange b v)) q) (eqb q.front (b - 1)) _ _ (λ t. lifo_exchanged fl w b v q o (omega tests))
    (λ t. quiet Calm fl (lifo_pop w (lifo_exchange b v)) (lifo_pop w (lifo_restore b)) working q o refl refl (λ m j. refl) (λ m h. tt) tt
    (o.stage.0, (o.stage.1.0, omega tests)))
lifo_good g fl w (lifo_won b v) q o = lifo_reset fl w (lifo_won b v) b (job w v) q o refl (λ m j. omega arith) (omega arith)
lifo_good g fl w (lifo_read b others) q o =
    reading_good g fl (lifo_pop w (lifo_read b others)) w (suc others) (at q (b - 1)) q o refl refl (λ j. (let g : b - 1 ≡ q.back =
    omega arith in rw g)) o.stage.1.1
