-- Push.
use mathlib.Core.Path.{refl, sym, ◌∙◌}
use Prim.Native.Nat.{ℕ, suc, ◌+◌}
use native.Mathlib.Omega.{arith}
use native.Mathlib.Nat.{le_refl}
use lib.Dec.{leb, ltb}
use Rattle.base.specs.Tests.{by_test, tests}
use Rattle.model.specs.Stage.{Flavour, Queue, at, cap, set_back, set_cell, ResizeStage, resize_back, PushStage, push_back, push_front}
use Rattle.model.specs.Stage.{push_resize, push_write, push_store, idle, push, working, done, too_large, no_ring, Out, going, ended}
use Rattle.model.specs.Tables.{Offer, resize_step, push_step}
use Rattle.model.specs.Invariant.{Ok, view}
use Rattle.model.proofs.CountLaws.{stand_back, stand_cong}
use Rattle.model.proofs.CellLaws.{cell_same, cell_other, ring_other}
use Rattle.model.proofs.Stable.{ev_ends}
use Rattle.model.proofs.Good.{Good, Calm, quiet, ok_rest}
use Rattle.model.proofs.Resize.{by_resize, resize_good}

push_written : (fl : Flavour) (x b : ℕ) (q : Queue) → Ok fl (push x (push_write b)) q
    → Good Calm fl (push x (push_write b)) q (going (set_cell q b x) (push x (push_store b)))
push_written fl x b q o = record {
  ok = ok_rest fl (push x (push_store b)) (set_cell q b x) refl refl o.order o.fits o.some_cap o.ring_top (o.stage, cell_same q b x);
  ev = record {
    grows = omega arith;
    stays = λ f r h. h;
    keeps = λ i l u w. cell_other q b x i (omega arith) (omega arith);
    tops = le_refl q.top;
    same_ring = λ r h e. e;
    old_rings = λ r i h l u w. ring_other q b x r i (omega arith) (omega arith);
  };
  bal = λ m j w. rw (stand_cong (at (set_cell q b x)) (at q) q.front q.back j (λ i l u. cell_other q b x i (omega arith) (omega arith)));
  says = λ m h. h;
  after = tt;
}

push_stored : (fl : Flavour) (x b : ℕ) (q : Queue) → Ok fl (push x (push_store b)) q
    → Good Calm fl (push x (push_store b)) q (ended (set_back q (suc b)) done)
push_stored fl x b q o = record {
  ok = ok_rest fl idle (set_back q (suc b)) refl refl (omega arith) (omega arith) o.some_cap o.ring_top tt;
  ev = ev_ends fl (view (push x (push_store b)) q) q.front (suc b) (omega arith) (λ f r h. omega arith);
  bal = λ m j w. (let e = o.stage.0.0 in let v = w ∙ sym o.stage.1 in
      rw (v, e) (omega (arith, stand_back (at q) q.front q.back j o.order)));
  says = λ m h. tt;
  after = tt;
}

push_resized : (g : Offer) (fl : Flavour) (x b : ℕ) (z : ResizeStage) (q : Queue) → Ok fl (push x (push_resize b z)) q
    → Good Calm fl (push x (push_resize b z)) q (push_step g x (push_resize b z) q)
unfolding push_step
push_resized g fl x b z q o =
    by_resize (Good Calm fl (push x (push_resize b z)) q) 1 fl q (resize_step g.claim z q)
    (λ y. going q (push x (push_resize b y))) (ended q no_ring)
    (λ r. going r (push x (push_write b))) (resize_good 1 fl g.claim z q o.ring_top o.order o.stage.1)
    (λ y k. quiet Calm fl (push x (push_resize b z)) (push x (push_resize b y)) working q o refl refl (λ m j. refl) (λ m h. h) tt (o.stage.0, k))
    (quiet Calm fl (push x (push_resize b z)) idle no_ring q o refl refl (λ m j. refl) (λ m h. tt) tt tt)
    (λ r k. record {
      ok = ok_rest fl (push x (push_write b)) r refl refl (omega arith) (omega arith) k.some_cap k.ring_top (omega arith);
      ev = k.ev;
      bal = λ m j w. rw (k.stands j);
      says = λ m h. h;
      after = tt;
    })

pub push_good : (g : Offer) (fl : Flavour) (x : ℕ) (p : PushStage) (q : Queue) → Ok fl (push x p) q → Good Calm fl (push x p) q (push_step g x p q)
unfolding push_step
push_good g fl x push_back q o =
    quiet Calm fl (push x push_back) (push x (push_front q.back)) working q o refl refl (λ m j. refl) (λ m h. h) tt refl
push_good g fl x (push_front b) q o =
    let P : Out → Type 0 = Good Calm fl (push x (push_front b)) q in
    by_test P (leb (q.front + cap q) b) _ _
    (λ t. by_test P (ltb b (q.front + g.capacity)) _ _
    (λ u. quiet Calm fl (push x (push_front b)) (push x (push_resize b (resize_back g.capacity))) working q o refl refl (λ m j. refl) (λ m h. h) tt
    (o.stage, (omega tests, omega tests)))
    (λ u. quiet Calm fl (push x (push_front b)) idle too_large q o refl refl (λ m j. refl) (λ m h. tt) tt tt))
    (λ t. quiet Calm fl (push x (push_front b)) (push x (push_write b)) working q o refl refl (λ m j. refl) (λ m h. h) tt (o.stage, omega tests))
push_good g fl x (push_resize b z) q o = push_resized g fl x b z q o
push_good g fl x (push_write b) q o = push_written fl x b q o
push_good g fl x (push_store b) q o = push_stored fl x b q o
