-- The steps of a batch on the source, whatever the source's owner is doing.
use mathlib.Core.Path.{◌≡◌, refl, sym, ap, ap₂, subst}
use Prim.Native.Nat.{ℕ, suc, ◌+◌, ◌-◌, ◌≤◌, ◌<◌}
use native.Mathlib.Omega.{arith}
use native.Mathlib.Nat.{le_refl}
use lib.Dec.{leb, eqb}
use Rattle.base.specs.Tests.{by_test, tests}
use Rattle.model.specs.Count.{one, stand}
use Rattle.model.specs.Stage.{Flavour, fifo, lifo, Queue, cell, at, cap, set_front, own, BatchKind, plain, and_pop, Wanted, none, some, Haul}
use Rattle.model.specs.Stage.{source, SourceStage, source_front, source_back, source_ring, source_first, all_copy, all_reload, all_exchange}
use Rattle.model.specs.Stage.{one_first, one_back, one_read, one_reload, one_exchange, reserve_back, own_back, all_write, one_write, swap_near}
use Rattle.model.specs.Stage.{own_store, Stage, idle, Answer, working, empty, retry, Out, out, going}
use Rattle.model.specs.Tables.{wanted, hauling, with_job, onward, with_count, in_hand, to_hand, copy_next, stopped, turning, to_write, next_in_hand}
use Rattle.model.specs.Tables.{holding, first_read, source_step}
use Rattle.model.specs.Logical.{lo, hi, hauled, held, amount, accepts, gives, Says}
use Rattle.model.specs.Invariant.{is_fifo, Reach, HaulOk, StageOk, Ok, view, Ev, Span, Has, Copied, BulkRing, SourceKnows}
use Rattle.model.proofs.CountLaws.{stand_empty, stand_front}
use Rattle.model.proofs.Stable.{ev_refl, reach_le, le_reach, fifo_hi, span_of}
use Rattle.model.proofs.Good.{ok_as}
use Rattle.model.proofs.Exchange.{jump, won, Won}
use Rattle.model.proofs.Batch.{Aft, by_stopped, by_turning, by_copy, wanted_fits, in_hand_lem, part_zero, part_full}

-- s, q: the source's owner and the source; mq: the thread's own queue
pub record Rob (fs fo : Flavour) (k : ℕ) (s : Stage) (q : Queue) (p : SourceStage) (mq : Queue) (o : Out) : Type 0 where
  pub ok : Ok fs s o.queue
  pub ev : Ev fs (view s q) (view s o.queue)
  pub cells : at o.queue ≡ at q
  pub backs : o.queue.back ≡ q.back
  pub own_ok : Ok fo o.stage mq
  pub own_lo : lo o.stage mq ≡ mq.front
  pub own_hi : hi o.stage mq ≡ mq.back
  pub bal : (m j : ℕ)
      → accepts m o.answer j + (amount s q j + held (source k p) mq j) ≡ gives o.answer j + (amount s o.queue j + held o.stage mq j)
  pub says : (m : ℕ) → Says m o.stage
  pub after : Aft k fs fo (view s o.queue) o.stage mq

module _ (fs fo : Flavour) (k : ℕ) (s : Stage) (q : Queue) (o : Ok fs s q) (mq : Queue) where
  abbrev Robs : SourceStage → Out → Type 0
  Robs p = Rob fs fo k s q p mq

  -- a step that changes nothing shared
  look : (p : SourceStage) (x : Stage) (a : Answer) → Ok fo (source k p) mq → lo x mq ≡ mq.front → hi x mq ≡ mq.back
      → ((m j : ℕ) → accepts m a j + held (source k p) mq j ≡ gives a j + held x mq j) → ((m : ℕ) → Says m x) → Aft k fs fo (view s q) x mq
      → StageOk fo x mq
      → Robs p (out q x a)
  look p x a mo e f h w c l = record {
    ok = o;
    ev = ev_refl fs (view s q);
    cells = refl;
    backs = refl;
    own_ok = ok_as fo (source k p) x mq mo e f l;
    own_lo = e;
    own_hi = f;
    bal = λ m j. omega (arith, h m j);
    says = w;
    after = c;
  }

  -- an exchange won for v
  taken : (p : SourceStage) (x : Stage) (f v : ℕ) → Ok fo (source k p) mq → Won fs s q f v → lo x mq ≡ mq.front → hi x mq ≡ mq.back
      → ((j : ℕ) → one v j + held (source k p) mq j ≡ held x mq j) → ((m : ℕ) → Says m x) → Aft k fs fo (view s (set_front q (suc f))) x mq
      → StageOk fo x mq
      → Robs p (going (set_front q (suc f)) x)
  taken p x f v mo g e h b w c l = record {
    ok = g.ok;
    ev = g.ev;
    cells = refl;
    backs = refl;
    own_ok = ok_as fo (source k p) x mq mo e h l;
    own_lo = e;
    own_hi = h;
    bal = λ m j. omega (arith, b j, g.bal j);
    says = w;
    after = c;
  }

  -- taking one by one is over
  stop : (p : SourceStage) (h : Haul) (i : ℕ) → Ok fo (source k p) mq → ((j : ℕ) → held (source k p) mq j ≡ hauled h i mq j) → HaulOk h mq → i ≤ h.n
      → h.ring < q.top → Robs p (stopped fo k h i q)
  stop p h i mo c r l t =
      by_stopped (Robs p) fo k h i q
      (λ e z. look p idle retry mo refl refl (λ m j. rw (c j, e, z) (omega (arith, stand_empty (at mq) h.b (h.b + 0) j (omega arith)))) (λ m. tt) tt tt)
      (λ z. look p (own k (swap_near (with_count h i) 0)) working mo refl refl (λ m j. omega (arith, c j)) (λ m. tt) (refl, t) (omega arith))
      (look p (own k (own_store (with_count h i))) working mo refl refl (λ m j. omega (arith, c j)) (λ m. tt) (refl, t) (omega arith))

  looked_back : (m : BatchKind) (others f : ℕ) → Ok fo (source k (source_back m others f)) mq → Reach fs (lo s q) f
      → Robs (source_back m others f) (source_step fs fo k (source_back m others f) q)
  unfolding source_step
  looked_back m others f mo w =
      let p : SourceStage = source_back m others f in
      let d : ℕ = q.back - f in
      let n : ℕ = wanted m d others in
      let a : Wanted = record { kind = m; f = f; n = n } in
      let bk = o.backs in
      by_test (Robs p) (leb q.back f) _ _ (λ t. look p idle empty mo refl refl (λ m j. refl) (λ m. tt) tt tt)
      (λ t. (let z = wanted_fits m d others (omega tests) in
      let y = span_of fs (view s q) f (to_hand m + n) w z.0 (omega tests) in
      by_test (λ (x : Stage). Robs p (going q x)) (eqb n 0) _ _
      (λ u. look p (own k (own_back a)) working mo refl refl (λ m j. refl) (λ m. tt) (refl, y) (no_room n (omega tests)))
      (λ u. look p (own k (reserve_back a)) working mo refl refl (λ m j. refl) (λ m. tt) (refl, y) tt)))
    where
      no_room : (n : ℕ) → n ≡ 0 → mq.back + n ≤ mq.front + cap mq
      no_room n e = let f = mo.fits in omega arith

  -- ---- the ring is held

  all_begun : (p : SourceStage) (h : Haul) → is_fifo fs → Ok fo (source k p) mq → ((j : ℕ) → held (source k p) mq j ≡ 0) → HaulOk h mq
      → Span fs (view s q) h.f (in_hand h.hand + h.n) → BulkRing (view s q) h → Copied fo (at mq) (view s q) h 0
      → Robs p (going q (copy_next k h 0))
  all_begun p h i mo c r sp rg cp =
      by_copy (λ (x : Stage). Robs p (going q x)) k h 0
      (λ t. (let e : 0 ≡ h.n = omega arith in
      look p (source k (all_reload h)) working mo refl refl (λ m j. omega (arith, c j)) (λ m. tt)
      (refl, ((i, sp, le_refl h.n, subst (λ (n : ℕ). Copied fo (at mq) (view s q) h n) e cp), rg.0)) r))
      (λ t. look p (source k (all_copy h 0)) working mo refl refl (λ m j. omega (arith, c j)) (λ m. tt) (refl, ((i, sp, omega arith, cp), rg, t)) (r, t))

  -- ---- exchanges

  -- m: the front that it leaves
  all_exchanged : (h : Haul) (m : ℕ) → m ≡ h.f + in_hand h.hand + h.n → Ok fo (source k (all_exchange h)) mq
      → SourceKnows fs fo (all_exchange h) (at mq) (view s q) → q.front ≡ h.f → Robs (all_exchange h) (going (set_front q m) (own k (own_store h)))
  all_exchanged h m is mo w e =
      let y = fifo_hi fs (view s q) h.f (in_hand h.hand + h.n) w.0.0 w.0.1 in
      let z = w.0.1.1 in
      let a : m ≤ hi s q = omega arith in
      let l : q.front < m = omega arith in
      let x : lo s q ≡ q.front = o.exact (omega arith) in
      let g = jump fs s q m o l a in
      record {
        ok = g.ok;
        ev = g.ev;
        cells = refl;
        backs = refl;
        own_ok = ok_as fo (source k (all_exchange h)) (own k (own_store h)) mq mo refl refl mo.stage;
        own_lo = refl;
        own_hi = refl;
        bal = λ i j. omega (
          arith,
          g.bal j,
          w.0.3 (omega arith) j,
          part_full fo (at mq) h.n h.b j,
          ap₂ (λ (u v : ℕ). stand (at q) u v j) e is,
        );
        says = λ i. tt;
        after = (refl, w.1);
      }

  first_exchanged : (h : Haul) (x : ℕ) → Ok fo (source k (one_first h x)) mq → SourceKnows fs fo (one_first h x) (at mq) (view s q) → q.front ≡ h.f
      → Robs (one_first h x) (turning fo k (onward h (some x)) 0 (set_front q (suc h.f)))
  first_exchanged h x mo w e =
      let p : SourceStage = one_first h x in
      let h' : Haul = onward h (some x) in
      let q' : Queue = set_front q (suc h.f) in
      let g = won fs s q h.f x o w.0.1 w.1 e in
      let c : (j : ℕ) → one x j + 0 ≡ one x j + stand (at mq) h.b (h.b + 0) j = λ j. omega (arith, stand_empty (at mq) h.b (h.b + 0) j (omega arith)) in
      let u = le_reach fs (lo s q') (suc h.f) w.0.0 g.ok.reach in
      by_turning (Robs p) fo k h' 0 q'
      (λ i. by_stopped (Robs p) fo k h' 0 q' (λ a b. absurd (not_none x a)) (λ b. absurd (omega arith))
      (taken p (own k (own_store (with_count h' 0))) h.f x mo g refl refl c (λ m. tt) (refl, w.0.2) (mo.stage.0, omega arith)))
      (λ i. taken p (source k (one_back h' 0)) h.f x mo g refl refl c (λ m. tt) (refl, (w.0.0, u, w.0.2)) (mo.stage, i))
    where
      not_none : (x : ℕ) → some x ≡ none → ⊥
      not_none x a = let z : ◌≡◌ {A = ℕ} 0 1 = cc in omega arith

  one_exchanged : (h : Haul) (i x : ℕ) → Ok fo (source k (one_exchange h i x)) mq → SourceKnows fs fo (one_exchange h i x) (at mq) (view s q)
      → q.front ≡ h.f
      → Robs (one_exchange h i x) (going (set_front q (suc h.f)) (own k (one_write (onward h (next_in_hand h.hand x)) i (to_write h.hand x))))
  one_exchanged h i x mo w e =
      let g = won fs s q h.f x o w.0.1 w.1 e in
      let u = le_reach fs (lo s (set_front q (suc h.f))) (suc h.f) w.0.0 g.ok.reach in
      taken (one_exchange h i x) (own k (one_write (onward h (next_in_hand h.hand x)) i (to_write h.hand x))) h.f x mo g refl refl
      (λ j. omega (arith, in_hand_lem h.hand x j)) (λ m. tt) (refl, (w.0.0, u, w.0.2)) mo.stage

-- the ring is loaded, and held: by kind and flavour
ring_held : (fs fo : Flavour) (k : ℕ) (s : Stage) (q : Queue) (o : Ok fs s q) (mq : Queue) (a : Wanted) (b : ℕ) (m : BatchKind)
    → Ok fo (source k (source_ring a b)) mq
    → Span fs (view s q) a.f (to_hand m + a.n) → Rob fs fo k s q (source_ring a b) mq (holding m fs fo k (hauling q.ring a b) q)
ring_held fifo fo k s q o mq a b plain mo w =
    let h : Haul = hauling q.ring a b in
    all_begun fifo fo k s q o mq (source_ring a b) h tt mo (λ j. refl) mo.stage w (o.ring_top, λ x a c d. refl)
    (λ l j. omega (arith, part_zero fo (at mq) a.n b j, stand_empty (at q) a.f (a.f + 0 + 0) j (omega arith)))
ring_held lifo fo k s q o mq a b plain mo w =
    let h : Haul = hauling q.ring a b in
    by_test (Rob lifo fo k s q (source_ring a b) mq) (leb a.n 0) _ _ (λ t. absurd (let z = w.1 in let e : ⊥ = omega tests in e))
    (λ t. look lifo fo k s q o mq (source_ring a b) (source k (one_read h 0)) working mo refl refl
    (λ m j. omega (arith, stand_empty (at mq) b (b + 0) j (omega arith))) (λ m. tt) (refl, (tt, (w.0, omega arith, w.2), o.ring_top)) (mo.stage, omega tests))
ring_held fifo fo k s q o mq a b and_pop mo w =
    look fifo fo k s q o mq (source_ring a b) (source k (source_first (hauling q.ring a b))) working mo refl refl (λ m j. refl) (λ m. tt)
    (refl, ((tt, omega arith, omega arith), (o.ring_top, λ x a c d. refl))) mo.stage
ring_held lifo fo k s q o mq a b and_pop mo w =
    look lifo fo k s q o mq (source_ring a b) (source k (source_first (hauling q.ring a b))) working mo refl refl (λ m j. refl) (λ m. tt)
    (refl, ((w.0, omega arith, w.2), (o.ring_top, λ x a c d. refl))) mo.stage

first_held : (fs fo : Flavour) (k : ℕ) (s : Stage) (q : Queue) (o : Ok fs s q) (mq : Queue) (h : Haul) → Ok fo (source k (source_first h)) mq
    → SourceKnows fs fo (source_first h) (at mq) (view s q)
    → Rob fs fo k s q (source_first h) mq (going q (first_read fs k h (cell q h.ring h.f)))
first_held fifo fo k s q o mq h mo w =
    let x : ℕ = cell q h.ring h.f in
    let has : Has (view s q) h.f x = λ l. w.1.1 h.f l (le_refl h.f) (omega arith) in
    let sp : Span fifo (view s q) h.f (1 + h.n) = (tt, omega arith, omega arith) in
    let cp : Copied fo (at mq) (view s q) (with_job h x) 0 =
    λ l j. omega (
      arith,
      part_zero fo (at mq) h.n h.b j,
      stand_front (at q) h.f (h.f + 1 + 0) j (omega arith),
      stand_empty (at q) (suc h.f) (h.f + 1 + 0) j (omega arith),
      ap (λ (u : ℕ). one u j) (has l),
    ) in
    all_begun fifo fo k s q o mq (source_first h) (with_job h x) tt mo (λ j. refl) mo.stage sp (w.1.0, λ y a c d. w.1.1 y a c (omega arith)) cp
first_held lifo fo k s q o mq h mo w =
    look lifo fo k s q o mq (source_first h) (source k (one_first h (cell q h.ring h.f))) working mo refl refl (λ m j. refl) (λ m. tt)
    (refl, ((tt, (w.0.0, omega arith, w.0.2), w.1.0), λ l. w.1.1 h.f l (le_refl h.f) (omega arith))) mo.stage

pub source_rob : (fs fo : Flavour) (k : ℕ) (s : Stage) (q : Queue) → Ok fs s q → (mq : Queue) (p : SourceStage) → Ok fo (source k p) mq
    → SourceKnows fs fo p (at mq) (view s q) → Rob fs fo k s q p mq (source_step fs fo k p q)
unfolding source_step
source_rob fs fo k s q o mq (source_front m others) mo w =
    look fs fo k s q o mq (source_front m others) (source k (source_back m others q.front)) working mo refl refl
    (λ m j. refl) (λ m. tt) (refl, o.reach) tt
source_rob fs fo k s q o mq (source_back m others f) mo w = looked_back fs fo k s q o mq m others f mo w
source_rob fs fo k s q o mq (source_ring a b) mo w = ring_held fs fo k s q o mq a b a.kind mo w
source_rob fs fo k s q o mq (source_first h) mo w = first_held fs fo k s q o mq h mo w
source_rob fs fo k s q o mq (all_copy h i) mo w =
    let m : ℕ = h.f + in_hand h.hand in
    look fs fo k s q o mq (all_copy h i) (own k (all_write h i (cell q h.ring (m + i)))) working mo refl refl (λ m j. refl) (λ m. tt)
    (refl, (w.0, w.1, w.2, λ l. w.1.1 (m + i) l (omega arith) (omega arith))) mo.stage
source_rob fs fo k s q o mq (all_reload h) mo w =
    by_test (Rob fs fo k s q (all_reload h) mq) (eqb h.ring q.ring) _ _
    (λ t. look fs fo k s q o mq (all_reload h) _ working mo refl refl (λ m j. refl) (λ m. tt) (refl, w) mo.stage)
    (λ t. look fs fo k s q o mq (all_reload h) idle retry mo refl refl (λ m j. refl) (λ m. tt) tt tt)
source_rob fs fo k s q o mq (all_exchange h) mo w =
    by_test (Rob fs fo k s q (all_exchange h) mq) (eqb q.front h.f) _ _
    (λ t. all_exchanged fs fo k s q o mq h _ (omega arith) mo w (omega tests))
    (λ t. look fs fo k s q o mq (all_exchange h) idle retry mo refl refl (λ m j. refl) (λ m. tt) tt tt)
source_rob fs fo k s q o mq (one_first h x) mo w =
    by_test (Rob fs fo k s q (one_first h x) mq) (eqb q.front h.f) _ _ (λ t. first_exchanged fs fo k s q o mq h x mo w (omega tests))
    (λ t. look fs fo k s q o mq (one_first h x) idle retry mo refl refl (λ m j. refl) (λ m. tt) tt tt)
source_rob fs fo k s q o mq (one_back h i) mo w =
    let bk = o.backs in
    let i<n = mo.stage.1 in
    by_test (Rob fs fo k s q (one_back h i) mq) (leb q.back h.f) _ _
    (λ t. stop fs fo k s q o mq (one_back h i) h i mo (λ j. refl) mo.stage.0 (omega arith) w.2)
    (λ t. look fs fo k s q o mq (one_back h i) (source k (one_read h i)) working mo refl refl (λ m j. refl) (λ m. tt)
    (refl, (w.0, span_of fs (view s q) h.f 1 (reach_le fs (lo s q) h.f w.1) (omega arith) (omega tests), w.2)) mo.stage)
source_rob fs fo k s q o mq (one_read h i) mo w =
    look fs fo k s q o mq (one_read h i) _ working mo refl refl (λ m j. refl) (λ m. tt)
    (refl, (w, λ e l. ap (λ (z : ℕ). cell q z h.f) (sym e))) mo.stage
source_rob fs fo k s q o mq (one_reload h i x) mo w =
    let i<n = mo.stage.1 in
    by_test (Rob fs fo k s q (one_reload h i x) mq) (eqb h.ring q.ring) _ _
    (λ t. look fs fo k s q o mq (one_reload h i x) (source k (one_exchange h i x)) working mo refl refl (λ m j. refl) (λ m. tt)
    (refl, (w.0, w.1 (omega tests))) mo.stage)
    (λ t. stop fs fo k s q o mq (one_reload h i x) h i mo (λ j. refl) mo.stage.0 (omega arith) w.0.2)
source_rob fs fo k s q o mq (one_exchange h i x) mo w =
    let i<n = mo.stage.1 in
    by_test (Rob fs fo k s q (one_exchange h i x) mq) (eqb q.front h.f) _ _ (λ t. one_exchanged fs fo k s q o mq h i x mo w (omega tests))
    (λ t. stop fs fo k s q o mq (one_exchange h i x) h i mo (λ j. refl) mo.stage.0 (omega arith) w.0.2)
