-- The steps of a batch on the thread's own queue.
use mathlib.Core.Path.{◌≡◌, refl, sym, ap, ◌∙◌, subst}
use Prim.Native.Nat.{ℕ, suc, ◌+◌, ◌-◌, ◌≤◌, ◌<◌}
use native.Mathlib.Omega.{arith}
use lib.Dec.{leb}
use Rattle.base.specs.Tests.{by_test, tests}
use Rattle.model.specs.Count.{one, upd, stand}
use Rattle.model.specs.Stage.{Flavour, fifo, lifo, Queue, at, cap, set_back, set_cell, ResizeStage, resize_back, own, Wanted, Haul, source}
use Rattle.model.specs.Stage.{source_ring, all_copy, all_reload, one_back, OwnStage, reserve_back, reserve_front, reserve_resize, own_back}
use Rattle.model.specs.Stage.{all_write, one_write, swap_near, swap_far, swap_put, swap_last, own_store, Stage, idle, Answer, working, too_large}
use Rattle.model.specs.Stage.{no_ring, Out, out, going, ended}
use Rattle.model.specs.Tables.{told, Offer, resize_step, with_count, in_hand, slot, own_step}
use Rattle.model.specs.Logical.{lo, hi, hand_of, hauled, held, accepts, gives, Says}
use Rattle.model.specs.Invariant.{ResizeOk, StageOk, Ok, View, view, part, Bulk, Before, WantedSpan, OwnKnows}
use Rattle.model.proofs.CountLaws.{stand_back, stand_cong, stand_split, stand_upd}
use Rattle.model.proofs.CellLaws.{cell_later}
use Rattle.model.proofs.Stable.{ev_ends}
use Rattle.model.proofs.Good.{Good, quiet, ok_rest}
use Rattle.model.proofs.Resize.{by_resize, resize_good}
use Rattle.model.proofs.Batch.{Aft, by_swap, by_stopped, by_turning, by_copy, told_gives, told_accepts, write_upd, stand_write, write_own}
use Rattle.model.proofs.Batch.{part_write}

module _ (fs fo : Flavour) (k : ℕ) (v : View) where
  abbrev Fine : OwnStage → Queue → Out → Type 0
  Fine p q o = Good (Aft k fs fo v) fo (own k p) q o

  -- a step that changes nothing shared
  go_on : (p : OwnStage) (s : Stage) (q : Queue) (a : Answer) → Ok fo (own k p) q → lo s q ≡ q.front → hi s q ≡ q.back
      → ((m j : ℕ) → accepts m a j + held (own k p) q j ≡ gives a j + held s q j) → ((m : ℕ) → Says m s) → Aft k fs fo v s q → StageOk fo s q
      → Fine p q (out q s a)
  go_on p s q a o e f h w c l = quiet (Aft k fs fo v) fo (own k p) s a q o e f h (λ m z. w m) c l

  -- a write beyond the own back
  wrote : (p : OwnStage) (s : Stage) (q : Queue) (x u : ℕ) → Ok fo (own k p) q → lo s (set_cell q x u) ≡ q.front → hi s (set_cell q x u) ≡ q.back
      → q.back ≤ x → x < q.front + cap q → ((j : ℕ) → held (own k p) q j ≡ held s (set_cell q x u) j) → ((m : ℕ) → Says m s)
      → Aft k fs fo v s (set_cell q x u) → StageOk fo s (set_cell q x u) → Fine p q (going (set_cell q x u) s)
  wrote p s q x u o e f a b h w c l = write_own (Aft k fs fo v) fo (own k p) s q x u o refl refl e f a b h w c l

  -- ---- reserve

  room_for : (w : Wanted) (b : ℕ) (q : Queue) → Ok fo (own k (reserve_front w b)) q → (c : ℕ) → 0 < b - q.front + w.n → b - q.front + w.n ≤ c
      → ResizeOk w.n (resize_back c) q
  room_for w b q o c y z = omega arith

  reserve_looked : (w : Wanted) (b : ℕ) (g : Offer) (q : Queue) → Ok fo (own k (reserve_front w b)) q → WantedSpan fs v w
      → Fine (reserve_front w b) q (own_step g fo k (reserve_front w b) q)
  unfolding own_step
  reserve_looked w b g q o a =
      let p : OwnStage = reserve_front w b in
      let x : ℕ = b - q.front + w.n in
      by_test (Fine p q) (leb x (cap q)) _ _ (λ t. go_on p (own k (own_back w)) q working o refl refl (λ m j. refl) (λ m. tt) (refl, a) (omega tests))
      (λ t. by_test (Fine p q) (leb x g.capacity) _ _
      (λ u. go_on p (own k (reserve_resize w (resize_back g.capacity))) q working o refl refl (λ m j. refl) (λ m. tt) (refl, a)
      (room_for w b q o g.capacity (omega tests) (omega tests)))
      (λ u. go_on p idle q too_large o refl refl (λ m j. refl) (λ m. tt) tt tt))

  reserve_resized : (w : Wanted) (z : ResizeStage) (g : Offer) (q : Queue) → Ok fo (own k (reserve_resize w z)) q → WantedSpan fs v w
      → Fine (reserve_resize w z) q (own_step g fo k (reserve_resize w z) q)
  unfolding own_step
  reserve_resized w z g q o a =
      let p : OwnStage = reserve_resize w z in
      by_resize (Fine p q) w.n fo q (resize_step g.claim z q) (λ y. going q (own k (reserve_resize w y))) (ended q no_ring)
      (λ r. going r (own k (own_back w))) (resize_good w.n fo g.claim z q o.ring_top o.order o.stage)
      (λ y l. go_on p (own k (reserve_resize w y)) q working o refl refl (λ m j. refl) (λ m. tt) (refl, a) l)
      (go_on p idle q no_ring o refl refl (λ m j. refl) (λ m. tt) tt tt)
      (λ r l. record {
        ok = ok_rest fo (own k (own_back w)) r refl refl (omega arith) (omega arith) l.some_cap l.ring_top l.room;
        ev = l.ev;
        bal = λ m j w. rw (l.stands j);
        says = λ m h. tt;
        after = (refl, a);
      })

  -- ---- all at once: one more copied

  all_copied : (h : Haul) (i x : ℕ) (q : Queue) → Ok fo (own k (all_write h i x)) q → OwnKnows fs fo (all_write h i x) (at q) v
      → Bulk fs fo (at (set_cell q (slot fo h i) x)) v h (suc i)
  all_copied h i x q o w = (w.0.0, w.0.1, w.2, λ l j. count l j)
    where
      count : v.lo ≤ h.f
          → (j : ℕ) → hand_of h.hand j + part fo (at (set_cell q (slot fo h i) x)) h.n h.b (suc i) j ≡ stand v.content h.f (h.f + in_hand h.hand + suc i) j
      count l j =
          let m : ℕ = h.f + in_hand h.hand in
          let e : m + suc i ≡ suc (m + i) = omega arith in
          let a = part_write fo q h i x j w.2 (omega arith) in
          let b = ap (λ (u : ℕ). one u j) (w.3 (omega arith)) in
          rw e (omega (arith, a, b, w.0.3 l j, stand_back v.content h.f (m + i) j (omega arith)))

  slot_in : (fo : Flavour) (h : Haul) (i : ℕ) → i < h.n → (h.b ≤ slot fo h i) × (slot fo h i < h.b + h.n)
  slot_in fifo h i l = omega arith
  slot_in lifo h i l = omega arith

  all_written : (h : Haul) (i x : ℕ) (g : Offer) (q : Queue) → Ok fo (own k (all_write h i x)) q → OwnKnows fs fo (all_write h i x) (at q) v
      → Fine (all_write h i x) q (own_step g fo k (all_write h i x) q)
  unfolding own_step
  all_written h i x g q o w =
      let p : OwnStage = all_write h i x in
      let y : ℕ = slot fo h i in
      let z = slot_in fo h i w.2 in
      let c = all_copied h i x q o w in
      let q' : Queue = set_cell q y x in
      by_copy (λ (s : Stage). Fine p q (going q' s)) k h (suc i)
      (λ t. wrote p (source k (all_reload h)) q y x o refl refl (omega arith) (omega arith) (λ j. refl) (λ m. tt)
      (refl, ((let i<n = w.2 in let e : suc i ≡ h.n = omega arith in subst (λ (u : ℕ). Bulk fs fo (at q') v h u) e c), w.1.0)) o.stage.0)
      (λ t. wrote p (source k (all_copy h (suc i))) q y x o refl refl (omega arith) (omega arith) (λ j. refl) (λ m. tt) (refl, (c, w.1, t)) (o.stage.0, t))

  -- ---- one by one: a job taken is written at b + i

  one_written : (h : Haul) (i x : ℕ) (g : Offer) (q : Queue) → Ok fo (own k (one_write h i x)) q → Before fs v h
      → Fine (one_write h i x) q (own_step g fo k (one_write h i x) q)
  unfolding own_step
  one_written h i x g q o w =
      let p : OwnStage = one_write h i x in
      let q' : Queue = set_cell q (h.b + i) x in
      let c : (j : ℕ) → held (own k p) q j ≡ hand_of h.hand j + stand (at q') h.b (h.b + suc i) j = λ j.
      omega (arith, part_write fifo q h i x j o.stage.1 (omega arith)) in
      let i<n = o.stage.1 in
      by_turning (Fine p q) fo k h (suc i) q'
      (λ e. by_stopped (Fine p q) fo k h (suc i) q' (λ a z. absurd (omega arith))
      (λ l. wrote p (own k (swap_near (with_count h (suc i)) 0)) q (h.b + i) x o refl refl (omega arith) (omega arith) c (λ m. tt) (refl, w.2) ((o.stage.0.0, omega arith), omega arith))
      (wrote p (own k (own_store (with_count h (suc i)))) q (h.b + i) x o refl refl (omega arith) (omega arith) c (λ m. tt) (refl, w.2) (o.stage.0.0, omega arith)))
      (λ e. wrote p (source k (one_back h (suc i))) q (h.b + i) x o refl refl (omega arith) (omega arith) c (λ m. tt) (refl, w) (o.stage.0, e))

  -- ---- reversal

  -- after the first write of a swap, with the second taken as done, the count is what it was
  swapped : (h : Haul) (x near far : ℕ) (q : Queue) (j : ℕ) → h.n ≤ cap q → suc (x + x) < h.n → near ≡ at q (h.b + x)
      → far ≡ at q (h.b + (h.n - suc x))
      → stand (at q) h.b (h.b + h.n) j ≡ stand (upd (at (set_cell q (h.b + x) far)) (h.b + (h.n - suc x)) near) h.b (h.b + h.n) j
  swapped h x near far q j c l e f =
      let b : ℕ = h.b in
      let m : ℕ = h.n in
      let q' : Queue = set_cell q (b + x) far in
      let y : ℕ = b + (m - suc x) in
      let a₁ = stand_write q (b + x) far b (b + m) j (omega arith) (omega arith) (omega arith) in
      let a₂ = stand_upd (at q') b (b + m) y near j (omega arith) (omega arith) in
      let a₃ : at q' y ≡ far = cell_later q (b + x) far y (omega arith) (omega arith) ∙ sym f in
      omega (arith, a₁, a₂, ap (λ (z : ℕ). one z j) a₃, ap (λ (z : ℕ). one z j) e)

  swap_putted : (h : Haul) (x near far : ℕ) (q : Queue) → Ok fo (own k (swap_put h x near far)) q → h.ring < v.top
      → Fine (swap_put h x near far) q (going (set_cell q (h.b + x) far) (own k (swap_last h x near)))
  swap_putted h x near far q o w =
      wrote (swap_put h x near far) (own k (swap_last h x near)) q (h.b + x) far o refl refl (omega arith) (omega arith)
      (λ j. omega (arith, swapped h x near far q j (omega arith) o.stage.1 o.stage.2 o.stage.3)) (λ m. tt) (refl, w) (o.stage.0, o.stage.1)

  swap_done : (h : Haul) (x near : ℕ) (g : Offer) (q : Queue) → Ok fo (own k (swap_last h x near)) q → h.ring < v.top
      → Fine (swap_last h x near) q (own_step g fo k (swap_last h x near) q)
  unfolding own_step
  swap_done h x near g q o w =
      let p : OwnStage = swap_last h x near in
      let y : ℕ = h.b + (h.n - suc x) in
      let c : (j : ℕ) → held (own k p) q j ≡ hauled h h.n (set_cell q y near) j = λ j.
      ap (λ (z : ℕ). hand_of h.hand j + z)
      (sym (stand_cong (at (set_cell q y near)) (upd (at q) y near) h.b (h.b + h.n) j
      (λ i l u. write_upd q y near h.b (h.b + h.n) i (omega arith) (omega arith) (omega arith) l u))) in
      by_swap (λ (s : Stage). Fine p q (going (set_cell q y near) s)) k h (suc x)
      (λ l. wrote p (own k (swap_near h (suc x))) q y near o refl refl (omega arith) (omega arith) c (λ m. tt) (refl, w) (o.stage.0, l))
      (wrote p (own k (own_store h)) q y near o refl refl (omega arith) (omega arith) c (λ m. tt) (refl, w) o.stage.0)

  back_stored : (h : Haul) (q : Queue) → Ok fo (own k (own_store h)) q → Fine (own_store h) q (ended (set_back q (h.b + h.n)) (told h.hand))
  back_stored h q o = record {
    ok = ok_rest fo idle (set_back q (h.b + h.n)) refl refl (omega arith) (omega arith) o.some_cap o.ring_top tt;
    ev = ev_ends fo (view (own k (own_store h)) q) q.front (h.b + h.n) (omega arith) (λ f r l. omega arith);
    bal = λ i j w. omega (
      arith,
      told_gives h.hand j,
      told_accepts h.hand i j,
      ap (λ (b : ℕ). stand (at q) q.front b j) o.stage.0,
      stand_split (at q) q.front h.b (h.b + h.n) j (omega arith) (omega arith),
    );
    says = λ m h. tt;
    after = tt;
  }

  pub own_good : (g : Offer) (p : OwnStage) (q : Queue) → Ok fo (own k p) q → OwnKnows fs fo p (at q) v → Fine p q (own_step g fo k p q)
  unfolding own_step
  own_good g (reserve_back a) q o w =
      go_on (reserve_back a) (own k (reserve_front a q.back)) q working o refl refl (λ m j. refl) (λ m. tt) (refl, w) refl
  own_good g (reserve_front a b) q o w = reserve_looked a b g q o w
  own_good g (reserve_resize a z) q o w = reserve_resized a z g q o w
  own_good g (own_back a) q o w =
      go_on (own_back a) (source k (source_ring a q.back)) q working o refl refl (λ m j. refl) (λ m. tt) (refl, w) (refl, o.stage)
  own_good g (all_write h i x) q o w = all_written h i x g q o w
  own_good g (one_write h i x) q o w = one_written h i x g q o w
  own_good g (swap_near h x) q o w =
      go_on (swap_near h x) (own k (swap_far h x (at q (h.b + x)))) q working o refl refl
      (λ m j. refl) (λ m. tt) (refl, w) (o.stage.0, o.stage.1, refl)
  own_good g (swap_far h x near) q o w =
      go_on (swap_far h x near) (own k (swap_put h x near (at q (h.b + (h.n - suc x))))) q working o refl refl (λ m j. refl) (λ m. tt) (refl, w)
      (o.stage.0, o.stage.1, o.stage.2, refl)
  own_good g (swap_put h x near far) q o w = swap_putted h x near far q o w
  own_good g (swap_last h x near) q o w = swap_done h x near g q o w
  own_good g (own_store h) q o w = back_stored h q o
