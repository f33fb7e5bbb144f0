-- Whatever a thief knows of its source stays true when the source evolves: each thing known once, then each stage in a line.
use mathlib.Core.Path.{refl, sym, ◌∙◌}
use Prim.Native.Nat.{ℕ, suc, ◌+◌, ◌-◌, ◌≤◌, ◌<◌}
use native.Mathlib.Omega.{arith}
use native.Mathlib.Nat.{le_refl}
use Rattle.model.specs.Stage.{Flavour, fifo, lifo, StealStage, steal_front, steal_back, steal_ring, steal_read, steal_reload}
use Rattle.model.specs.Stage.{steal_exchange, Wanted, Haul, SourceStage, source_front, source_back, source_ring, source_first, all_copy}
use Rattle.model.specs.Stage.{all_reload, all_exchange, one_first, one_back, one_read, one_reload, one_exchange, OwnStage, reserve_back}
use Rattle.model.specs.Stage.{reserve_front, reserve_resize, own_back, all_write, one_write, swap_near, swap_far, swap_put, swap_last}
use Rattle.model.specs.Stage.{own_store}
use Rattle.model.specs.Tables.{in_hand, to_hand}
use Rattle.model.specs.Invariant.{is_fifo, is_lifo, Reach, View, Ev, wide, Span, Ring, Has, StealKnows, Copied, Bulk, BulkRing, Before, Single}
use Rattle.model.specs.Invariant.{WantedSpan, OwnKnows, SourceKnows}
use Rattle.model.proofs.CountLaws.{stand_cong}

-- ---- evolving

-- only the ends of the queue changed
pub ev_ends : (fl : Flavour) (v : View) (a b : ℕ) → v.lo ≤ a → ((f : ℕ) → Reach fl v.lo f → f < v.hi → f < b)
    → Ev fl v (record { lo = a; hi = b; ring = v.ring; top = v.top; content = v.content; cell = v.cell })
ev_ends fl v a b h k = record {
  grows = h;
  stays = k;
  keeps = λ i l u w. refl;
  tops = le_refl v.top;
  same_ring = λ r h e. e;
  old_rings = λ r i h l u w. refl;
}

pub ev_refl : (fl : Flavour) (v : View) → Ev fl v v
ev_refl fl v = ev_ends fl v v.lo v.hi (le_refl v.lo) (λ f r h. h)

pub reach_up : (fl : Flavour) (a b f : ℕ) → a ≤ b → Reach fl a f → Reach fl b f
reach_up fifo a b f h r = tt
reach_up lifo a b f h r = omega arith

pub reach_le : (fl : Flavour) (a f : ℕ) → f ≤ a → Reach fl a f
reach_le fifo a f h = tt
reach_le lifo a f h = h

pub reach_fifo : (fl : Flavour) (a f : ℕ) → is_fifo fl → Reach fl a f
reach_fifo fifo a f i = tt
reach_fifo lifo a f i = absurd i

pub le_reach : (fl : Flavour) (a f : ℕ) → is_lifo fl → Reach fl a f → f ≤ a
le_reach fifo a f i r = absurd i
le_reach lifo a f i r = r

-- ---- each thing known

pub span_on : (fl : Flavour) (v w : View) (f m : ℕ) → Ev fl v w → Span fl v f m → Span fl w f m
span_on fifo v w f m e k = let h = e.stays (f + (m - 1)) tt (omega arith) in (tt, k.1, omega arith)
span_on lifo v w f m e k = let h = e.stays f k.0 (omega arith) in let g = e.grows in (omega arith, k.1, omega arith)

pub fifo_hi : (fl : Flavour) (v : View) (f m : ℕ) → is_fifo fl → Span fl v f m → f + m ≤ v.hi
fifo_hi fifo v f m i k = k.2
fifo_hi lifo v f m i k = absurd i

pub span_hi : (fl : Flavour) (v : View) (f m : ℕ) → Span fl v f m → f < v.hi
span_hi fifo v f m k = omega arith
span_hi lifo v f m k = omega arith

pub span_of : (fs : Flavour) (v : View) (f m : ℕ) → Reach fs v.lo f → 0 < m → f + m ≤ v.hi → Span fs v f m
span_of fifo v f m r a b = (r, a, b)
span_of lifo v f m r a b = (r, a, omega arith)

ring_on : (fl : Flavour) (v w : View) (r f m : ℕ) → Ev fl v w → f + m ≤ v.hi → f + m ≤ w.hi → Ring v r f m → Ring w r f m
ring_on fl v w r f m e a b k =
    let g = e.grows in
    let t = e.tops in
    let h = k.0 in (
      omega arith,
      λ x l u z. e.old_rings r x h l (omega arith) (omega arith) ∙ k.1 x (omega arith) u z ∙ sym (e.keeps x l (omega arith) (omega arith)),
    )

has_on : (fl : Flavour) (v w : View) (f x : ℕ) → Ev fl v w → f < v.hi → f < w.hi → Has v f x → Has w f x
has_on fl v w f x e a b k l = let g = e.grows in k (omega arith) ∙ sym (e.keeps f l a b)

-- of one job at f
one_has : (fl : Flavour) (v w : View) (f x : ℕ) → Ev fl v w → Span fl v f 1 → Has v f x → Has w f x
one_has fl v w f x e k h = has_on fl v w f x e (span_hi fl v f 1 k) (span_hi fl w f 1 (span_on fl v w f 1 e k)) h

pub stable_steal : (fl : Flavour) (p : StealStage) (v w : View) → Ev fl v w → StealKnows fl p v → StealKnows fl p w
stable_steal fl steal_front v w e k = tt
stable_steal fl (steal_back f) v w e k = reach_up fl v.lo w.lo f e.grows k
stable_steal fl (steal_ring f) v w e k = span_on fl v w f 1 e k
stable_steal fl (steal_read r f) v w e k =
    let s = span_on fl v w f 1 e k.0 in (s, ring_on fl v w r f (wide fl 1) e k.0.2 s.2 k.1)
stable_steal fl (steal_reload r f x) v w e k =
    let t = e.tops in (span_on fl v w f 1 e k.0, one_has fl v w f x e k.0 k.1, omega arith)
stable_steal fl (steal_exchange r f x) v w e k =
    let t = e.tops in (span_on fl v w f 1 e k.0, one_has fl v w f x e k.0 k.1, omega arith)

module _ (fl fo : Flavour) (mine : ℕ → ℕ) (v w : View) (e : Ev fl v w) where
  copied_on : (h : Haul) (i : ℕ) → h.f + in_hand h.hand + i ≤ v.hi → h.f + in_hand h.hand + i ≤ w.hi → Copied fo mine v h i
      → Copied fo mine w h i
  copied_on h i p q k l j =
      let g = e.grows in
      k (omega arith) j
      ∙ sym (stand_cong w.content v.content h.f (h.f + in_hand h.hand + i) j (λ x m u. e.keeps x (omega arith) (omega arith) (omega arith)))

  bulk_on : (h : Haul) (i : ℕ) → Bulk fl fo mine v h i → Bulk fl fo mine w h i
  bulk_on h i k =
      let s = span_on fl v w h.f (in_hand h.hand + h.n) e k.1 in
      let x = fifo_hi fl v h.f (in_hand h.hand + h.n) k.0 k.1 in
      let y = fifo_hi fl w h.f (in_hand h.hand + h.n) k.0 s in
      let l = k.2 in
      (k.0, s, l, copied_on h i (omega arith) (omega arith) k.3)

  bulk_ring_on : (h : Haul) (i : ℕ) → Bulk fl fo mine v h i → BulkRing v h → BulkRing w h
  bulk_ring_on h i k =
      ring_on fl v w h.ring h.f (in_hand h.hand + h.n) e (fifo_hi fl v h.f (in_hand h.hand + h.n) k.0 k.1)
      (fifo_hi fl w h.f (in_hand h.hand + h.n) k.0 (bulk_on h i k).1)

  named_on : (h : Haul) → h.ring < v.top → h.ring < w.top
  named_on h k = let t = e.tops in omega arith

  wanted_on : (a : Wanted) → WantedSpan fl v a → WantedSpan fl w a
  wanted_on a k = span_on fl v w a.f (to_hand a.kind + a.n) e k

  before_on : (h : Haul) → Before fl v h → Before fl w h
  before_on h k = let g = e.grows in (k.0, omega arith, named_on h k.2)

  single_on : (h : Haul) → Single fl v h → Single fl w h
  single_on h k = (k.0, span_on fl v w h.f 1 e k.1, named_on h k.2)

  -- ---- each stage of a batch

  pub stable_own : (p : OwnStage) → OwnKnows fl fo p mine v → OwnKnows fl fo p mine w
  stable_own (reserve_back a) k = wanted_on a k
  stable_own (reserve_front a b) k = wanted_on a k
  stable_own (reserve_resize a z) k = wanted_on a k
  stable_own (own_back a) k = wanted_on a k
  stable_own (all_write h i x) k =
      let s = bulk_on h i k.0 in
      let y = fifo_hi fl v h.f (in_hand h.hand + h.n) k.0.0 k.0.1 in
      let z = fifo_hi fl w h.f (in_hand h.hand + h.n) k.0.0 s.1 in
      let l = k.2 in
      (s, bulk_ring_on h i k.0 k.1, l, has_on fl v w (h.f + in_hand h.hand + i) x e (omega arith) (omega arith) k.3)
  stable_own (one_write h i x) k = before_on h k
  stable_own (swap_near h x) k = named_on h k
  stable_own (swap_far h x near) k = named_on h k
  stable_own (swap_put h x near far) k = named_on h k
  stable_own (swap_last h x near) k = named_on h k
  stable_own (own_store h) k = named_on h k

  pub stable_source : (p : SourceStage) → SourceKnows fl fo p mine v → SourceKnows fl fo p mine w
  stable_source (source_front m others) k = tt
  stable_source (source_back m others f) k = reach_up fl v.lo w.lo f e.grows k
  stable_source (source_ring a b) k = wanted_on a k
  stable_source (source_first h) k =
      let s = span_on fl v w h.f (suc h.n) e k.0 in
      (s, ring_on fl v w h.ring h.f (wide fl (suc h.n)) e k.0.2 s.2 k.1)
  stable_source (all_copy h i) k = (bulk_on h i k.0, bulk_ring_on h i k.0 k.1, k.2)
  stable_source (all_reload h) k = (bulk_on h h.n k.0, named_on h k.1)
  stable_source (all_exchange h) k = (bulk_on h h.n k.0, named_on h k.1)
  stable_source (one_first h x) k = (single_on h k.0, one_has fl v w h.f x e k.0.1 k.1)
  stable_source (one_back h i) k = before_on h k
  stable_source (one_read h i) k = single_on h k
  stable_source (one_reload h i x) k =
      (single_on h k.0, λ g. one_has fl v w h.f x e k.0.1 (k.1 (e.same_ring h.ring k.0.2 g)))
  stable_source (one_exchange h i x) k = (single_on h k.0, one_has fl v w h.f x e k.0.1 k.1)
