-- A linked state within the model's invariant is sound: so no call on it is turned away with refusal 3.
use Rattle.std.proofs.Common.{◌≡◌, ℕ, zero, suc, ◌+◌, ◌^◌, ◌<◌, ◌≤◌, Bool, true, false, eqb, List, sym, refl, ap, ◌∙◌, inl, inr, arith, lt-ltb, eq-eqb, ne_eqb, le-leb}
use native.Mathlib.Decide.{ℕ_discrete}
use Rattle.base.specs.Tests.{and_both}
use Rattle.base.specs.Below.{all_below}
use Rattle.index.proofs.Laws.{spans_is}
use Rattle.ring.specs.declared.Ring.{Ring}
use Rattle.ring.specs.Capacity.{largest}
use Rattle.keeps.specs.Kept.{kept_of}
use Rattle.sound.specs.Sound.{queue_sound, kept_sound, named_sound, resize_sound, push_sound, source_sound, own_sound, numbers_sound, stage_sound, haul_sound}
use Rattle.places.specs.Places.{builds_in, both_build}
use Rattle.machine.specs.declared.state.Machine.{Machine}
use Rattle.machine.specs.State.{queue_at, stage_at}
use Rattle.machine.specs.Sound.{apart_b, sound_b}
use Rattle.model.specs.Stage.{Flavour, Queue, cap, ResizeStage, resize_back, resize_front, resize_copy, resize_swap, PushStage, push_back}
use Rattle.model.specs.Stage.{push_front, push_resize, push_write, push_store, own, Haul, source, SourceStage, source_front, source_back, source_ring}
use Rattle.model.specs.Stage.{source_first, all_copy, all_reload, all_exchange, one_first, one_back, one_read, one_reload, one_exchange, OwnStage}
use Rattle.model.specs.Stage.{reserve_back, reserve_front, reserve_resize, own_back, all_write, one_write, swap_near, swap_far, swap_put, swap_last}
use Rattle.model.specs.Stage.{own_store, Stage, idle, push, fifo_pop, lifo_pop, shrink, steal, len, own_batch}
use Rattle.model.specs.Machine.{State}
use Rattle.model.specs.Invariant.{Room, HaulOk, OwnOk, SourceOk, Ok, Aware, Inv}
use Rattle.model.proofs.Indices.{front_le}
use Rattle.model.proofs.Places.{held_named}
use Rattle.link.specs.Map.{haul_for, resize_at, push_at, source_at, own_at, stage_for}
use Rattle.link.specs.Linked.{ResizeFits, PushFits, OwnFits, StageFits, Linked}
use Rattle.link.proofs.PoolLaws.{sound_cap}
use Rattle.link.proofs.KeptLaws.{holds_kept, Keeping, keeps_nothing, keeps_held, keeps_built, keeping}

all_of : (n : ℕ) (f : ℕ → Bool) → ((i : ℕ) → i < n → f i ≡ true) → all_below n f ≡ true
unfolding all_below
all_of zero f h = refl
all_of (suc n) f h = rw (all_of n f (λ i l. h i (omega arith)), h n (omega arith))

module _ (n : ℕ) (fl : ℕ → Flavour) (R : ℕ → ℕ → Ring) (s : State) (m : Machine) (cells : List ℕ) (w : Linked n fl R s m cells) (mem : ℕ → ℕ)
    (v : Inv n fl mem s)
    (small : (k : ℕ) → k < n → ((s.queues k).front < 2 ^ 63) × ((s.queues k).back < 2 ^ 63)) where
  abbrev places : ℕ
  places = m.place_count

  -- ---- queues

  cap_at : (k : ℕ) → k < n → (R k (s.queues k).ring).capacity ≡ cap (s.queues k)
  cap_at k l = w.caps k (s.queues k).ring l (v.oks k l).ring_top

  cap_most : (k : ℕ) → k < n → cap (s.queues k) ≤ largest
  cap_most k l =
      let c = cap_at k l in
      let h = sound_cap places (R k (s.queues k).ring) (w.rings k (s.queues k).ring l (inl (v.oks k l).ring_top)) in
      omega (arith, h.1)

  queue_sound_lem : (k : ℕ) → k < n → queue_sound places (queue_at m k) ≡ true
  queue_sound_lem k l =
      let q : Queue = s.queues k in
      let o = v.oks k l in
      let f = front_le (fl k) (s.stages k) q o in
      let c = cap_at k l in
      let sm = small k l in
      let a = o.backs in
      let b = o.fits in
      let d = o.fronts in
      let f₀ = f.0 in
      rw (w.queues k l)
      (and_both _ _ (w.rings k q.ring l (inl o.ring_top))
      (spans_is q.back q.front sm.1 sm.0 (R k q.ring).capacity
      ∙ and_both _ _ (le-leb q.front (q.back + 1) (omega arith)) (le-leb q.back (q.front + (R k q.ring).capacity) (omega arith))))

  -- ---- stages

  kept_sound_lem : (t : ℕ) → t < n → kept_sound places (kept_of (stage_for R (R t (s.queues t).top) (s.stages t))) ≡ true
  kept_sound_lem t l = go (keeping R (R t (s.queues t).top) (s.stages t))
    where
      go : Keeping R (R t (s.queues t).top) (s.stages t) → kept_sound places (kept_of (stage_for R (R t (s.queues t).top) (s.stages t))) ≡ true
      go (keeps_nothing e) = rw e
      go (keeps_held k r h) =
          let a = held_named n fl mem s v k r (t, l, h) in rw (holds_kept R (R t (s.queues t).top) (s.stages t) k r h) (w.rings k r a.0 (inl a.1))
      go (keeps_built b e) = rw e (w.rings t (s.queues t).top l (inr (refl, b)))

  named_sound_lem : (t : ℕ) (x : Stage) → Aware n fl s t x → named_sound n (stage_for R (R t (s.queues t).top) x) ≡ true
  named_sound_lem t idle a = refl
  named_sound_lem t (push x p) a = refl
  named_sound_lem t (fifo_pop b p) a = refl
  named_sound_lem t (lifo_pop b p) a = refl
  named_sound_lem t (shrink b x z) a = refl
  named_sound_lem t (steal k p) a = lt-ltb k n a.0
  named_sound_lem t (len k p) a = lt-ltb k n a.0
  named_sound_lem t (own_batch p) a = refl
  named_sound_lem t (source k p) a = lt-ltb k n a.0
  named_sound_lem t (own k p) a = lt-ltb k n a.0

  resize_sound_lem : (new : Ring) (z : ResizeStage) → ResizeFits new.capacity z → resize_sound (resize_at new z) ≡ true
  resize_sound_lem new (resize_back c) h = h
  resize_sound_lem new (resize_front c b) h = h
  resize_sound_lem new (resize_copy c b i f) h = refl
  resize_sound_lem new (resize_swap c f) h = refl

  push_sound_lem : (new : Ring) (p : PushStage) → PushFits new.capacity p → push_sound (push_at new p) ≡ true
  push_sound_lem new push_back h = refl
  push_sound_lem new (push_front b) h = refl
  push_sound_lem new (push_resize b z) h = resize_sound_lem new z h
  push_sound_lem new (push_write b) h = refl
  push_sound_lem new (push_store b) h = refl

  -- of thread t's own queue: n more fit, so n is at most the largest capacity
  module _ (t : ℕ) (l : t < n) where
    room_most : (b i : ℕ) → (s.queues t).front ≤ (s.queues t).back → Room (s.queues t) b i → i ≤ largest
    room_most b i o r = let c = cap_most t l in omega arith

    haul_sound_lem : (P : ℕ → Ring) (h : Haul) (i : ℕ) → (s.queues t).front ≤ (s.queues t).back → HaulOk h (s.queues t) → i ≤ h.n
        → haul_sound (haul_for P h) i ≡ true
    haul_sound_lem P h i o r a = and_both _ _ (le-leb h.n largest (room_most h.b h.n o r)) (le-leb i h.n a)

    source_sound_lem : (P : ℕ → Ring) (p : SourceStage) → (s.queues t).front ≤ (s.queues t).back → SourceOk p (s.queues t)
        → source_sound (source_at P p) ≡ true
    source_sound_lem P (source_front a others) o r = refl
    source_sound_lem P (source_back a others f) o r = refl
    source_sound_lem P (source_ring a b) o r = le-leb a.n largest (room_most b a.n o r)
    source_sound_lem P (source_first h) o r = haul_sound_lem P h 0 o r (omega arith)
    source_sound_lem P (all_copy h i) o r = haul_sound_lem P h i o r.0 (omega (arith, r.1))
    source_sound_lem P (all_reload h) o r = haul_sound_lem P h 0 o r (omega arith)
    source_sound_lem P (all_exchange h) o r = haul_sound_lem P h 0 o r (omega arith)
    source_sound_lem P (one_first h x) o r = haul_sound_lem P h 0 o r (omega arith)
    source_sound_lem P (one_back h i) o r = haul_sound_lem P h i o r.0 (omega (arith, r.1))
    source_sound_lem P (one_read h i) o r = haul_sound_lem P h i o r.0 (omega (arith, r.1))
    source_sound_lem P (one_reload h i x) o r = haul_sound_lem P h i o r.0 (omega (arith, r.1))
    source_sound_lem P (one_exchange h i x) o r = haul_sound_lem P h i o r.0 (omega (arith, r.1))

    own_sound_lem : (P : ℕ → Ring) (new : Ring) (p : OwnStage) → (s.queues t).front ≤ (s.queues t).back → OwnOk p (s.queues t)
        → OwnFits new.capacity p
        → own_sound (own_at P new p) ≡ true
    own_sound_lem P new (reserve_back a) o r h = refl
    own_sound_lem P new (reserve_front a b) o r h = refl
    own_sound_lem P new (reserve_resize a z) o r h = resize_sound_lem new z h
    own_sound_lem P new (own_back a) o r h = let c = cap_most t l in le-leb a.n largest (omega arith)
    own_sound_lem P new (all_write j i x) o r h = haul_sound_lem P j i o r.0 (omega (arith, r.1))
    own_sound_lem P new (one_write j i x) o r h = haul_sound_lem P j i o r.0 (omega (arith, r.1))
    own_sound_lem P new (swap_near j x) o r h = haul_sound_lem P j x o r.0 (omega (arith, r.1))
    own_sound_lem P new (swap_far j x near) o r h = haul_sound_lem P j x o r.0 (omega (arith, r.1))
    own_sound_lem P new (swap_put j x near far) o r h = haul_sound_lem P j x o r.0 (omega (arith, r.1))
    own_sound_lem P new (swap_last j x near) o r h = haul_sound_lem P j x o r.0 (omega (arith, r.1))
    own_sound_lem P new (own_store j) o r h = haul_sound_lem P j 0 o r (omega arith)

    numbers_sound_lem : (new : Ring) (x : Stage) → s.stages t ≡ x → StageFits new.capacity x → numbers_sound (stage_for R new x) ≡ true
    numbers_sound_lem new idle e h = refl
    numbers_sound_lem new (push x p) e h = push_sound_lem new p h
    numbers_sound_lem new (fifo_pop a p) e h = refl
    numbers_sound_lem new (lifo_pop a p) e h = refl
    numbers_sound_lem new (shrink a x z) e h = resize_sound_lem new z h
    numbers_sound_lem new (steal k p) e h = refl
    numbers_sound_lem new (len k p) e h = refl
    numbers_sound_lem new (own_batch p) e h = refl
    numbers_sound_lem new (source k p) e h =
        let o : Ok (fl t) (source k p) (s.queues t) = rw e at (v.oks t l) in source_sound_lem (R k) p o.order o.stage
    numbers_sound_lem new (own k p) e h =
        let o : Ok (fl t) (own k p) (s.queues t) = rw e at (v.oks t l) in own_sound_lem (R k) new p o.order o.stage h

    stage_sound_lem : stage_sound n places (stage_at m t) ≡ true
    stage_sound_lem =
        rw (w.stages t l)
        (and_both _ _ (named_sound_lem t (s.stages t) (v.aware t l))
        (and_both _ _ (kept_sound_lem t l) (numbers_sound_lem (R t (s.queues t).top) (s.stages t) refl (w.sizes t l))))

  -- ---- places

  -- queue i's ring is not in a place where thread j builds
  not_built : (i j : ℕ) → i < n → j < n → builds_in (kept_of (stage_for R (R j (s.queues j).top) (s.stages j))) (R i (s.queues i).ring).place.0 ≡ false
  not_built i j a b = go (keeping R (R j (s.queues j).top) (s.stages j))
    where
      go : Keeping R (R j (s.queues j).top) (s.stages j)
          → builds_in (kept_of (stage_for R (R j (s.queues j).top) (s.stages j))) (R i (s.queues i).ring).place.0 ≡ false
      go (keeps_nothing e) = rw e
      go (keeps_held k r h) = rw (holds_kept R (R j (s.queues j).top) (s.stages j) k r h)
      go (keeps_built x e) =
          rw e
          (ne_eqb (R j (s.queues j).top).place.0 (R i (s.queues i).ring).place.0
          (λ z. (let y = w.keeps.apart j (s.queues j).top i (s.queues i).ring (b, inr (inr (refl, x))) (a, inl refl) z in
          let c = (v.oks i a).ring_top in
          let d : (s.queues j).top ≡ (s.queues i).top = ap (λ (k : ℕ). (s.queues k).top) y.0 in
          let f = y.1 in
          omega arith)))

  rings_apart : (i j : ℕ) → i < n → j < n → (i ≡ j → ⊥) → eqb (R i (s.queues i).ring).place.0 (R j (s.queues j).ring).place.0 ≡ false
  rings_apart i j a b d =
      ne_eqb (R i (s.queues i).ring).place.0 (R j (s.queues j).ring).place.0
      (λ z. d (w.keeps.apart i (s.queues i).ring j (s.queues j).ring (a, inl refl) (b, inl refl) z).0)

  built_apart : (i j : ℕ) → i < n → j < n → (i ≡ j → ⊥)
      → both_build (kept_of (stage_for R (R i (s.queues i).top) (s.stages i))) (kept_of (stage_for R (R j (s.queues j).top) (s.stages j))) ≡ false
  built_apart i j a b d = go (keeping R (R i (s.queues i).top) (s.stages i)) (keeping R (R j (s.queues j).top) (s.stages j))
    where
      go : Keeping R (R i (s.queues i).top) (s.stages i) → Keeping R (R j (s.queues j).top) (s.stages j)
          → both_build (kept_of (stage_for R (R i (s.queues i).top) (s.stages i))) (kept_of (stage_for R (R j (s.queues j).top) (s.stages j))) ≡ false
      go (keeps_nothing e) y = rw e
      go (keeps_held k r h) y = rw (holds_kept R (R i (s.queues i).top) (s.stages i) k r h)
      go (keeps_built x e) (keeps_nothing f) = rw (e, f)
      go (keeps_built x e) (keeps_held k r h) = rw (e, holds_kept R (R j (s.queues j).top) (s.stages j) k r h)
      go (keeps_built x e) (keeps_built y f) =
          rw (e, f)
          (ne_eqb (R j (s.queues j).top).place.0 (R i (s.queues i).top).place.0
          (λ z. d (sym (w.keeps.apart j (s.queues j).top i (s.queues i).top (b, inr (inr (refl, y))) (a, inr (inr (refl, x))) z).0)))

  apart_at : (i j : ℕ) → i < n → j < n → apart_b m i j ≡ true
  apart_at i j a b = go (ℕ_discrete i j)
    where
      go : Dec (i ≡ j) → apart_b m i j ≡ true
      go (yes e) = rw (w.queues i a, w.stages j b, not_built i j a b, eq-eqb i j e)
      go (no d) = rw (w.queues i a, w.queues j b, w.stages i a, w.stages j b, not_built i j a b, ne_eqb i j d, rings_apart i j a b d, built_apart i j a b d)

  pub linked_sound : sound_b m ≡ true
  unfolding sound_b
  linked_sound =
      rw w.count
      (and_both _ _ w.counts
      (and_both _ _ (all_of n (λ i. queue_sound places (queue_at m i)) queue_sound_lem)
      (and_both _ _ (all_of n (λ t. stage_sound n places (stage_at m t)) stage_sound_lem)
      (all_of n (λ i. all_below n (λ j. apart_b m i j)) (λ i a. all_of n (λ j. apart_b m i j) (λ j b. apart_at i j a b))))))
