-- The ring that a thread keeps, in the model and in the code: one at most, held or built.
use Rattle.std.proofs.Common.{◌≡◌, ℕ, refl, arith}
use Rattle.ring.specs.declared.Ring.{Ring}
use Rattle.keeps.specs.declared.Kept.TheVariants as Q
use Rattle.keeps.specs.Kept.{resize_keeps, push_keeps, steal_keeps, source_keeps, own_keeps, kept_of}
use Rattle.model.specs.Stage.{ResizeStage, resize_back, resize_front, resize_copy, resize_swap, PushStage, push_back, push_front, push_resize}
use Rattle.model.specs.Stage.{push_write, push_store, own, Popper, StealStage, steal_front, steal_back, steal_ring, steal_read, steal_reload}
use Rattle.model.specs.Stage.{steal_exchange, source, SourceStage, source_front, source_back, source_ring, source_first, all_copy, all_reload}
use Rattle.model.specs.Stage.{all_exchange, one_first, one_back, one_read, one_reload, one_exchange, OwnStage, reserve_back, reserve_front}
use Rattle.model.specs.Stage.{reserve_resize, own_back, all_write, one_write, swap_near, swap_far, swap_put, swap_last, own_store, Stage, idle, push}
use Rattle.model.specs.Stage.{fifo_pop, lifo_pop, shrink, steal, len, own_batch}
use Rattle.model.specs.Memory.{StealHolds, OwnHolds, SourceHolds, Holds, builds, not_building, building, builds_resize, builds_push, builds_own}
use Rattle.link.specs.Map.{resize_at, push_at, steal_at, source_at, own_at, stage_for}

-- ---- a ring that is held

steal_held : (R : ℕ → Ring) (p : StealStage) (r : ℕ) → StealHolds p r → steal_keeps (steal_at R p) ≡ Q.Held (R r)
steal_held R steal_front r h = absurd h
steal_held R (steal_back f) r h = absurd h
steal_held R (steal_ring f) r h = absurd h
steal_held R (steal_read i f) r h = rw h
steal_held R (steal_reload i f v) r h = rw h
steal_held R (steal_exchange i f v) r h = rw h

source_held : (R : ℕ → Ring) (p : SourceStage) (r : ℕ) → SourceHolds p r → source_keeps (source_at R p) ≡ Q.Held (R r)
source_held R (source_front m others) r h = absurd h
source_held R (source_back m others f) r h = absurd h
source_held R (source_ring w b) r h = absurd h
source_held R (source_first j) r h = rw h
source_held R (all_copy j i) r h = rw h
source_held R (all_reload j) r h = rw h
source_held R (all_exchange j) r h = rw h
source_held R (one_first j v) r h = rw h
source_held R (one_back j i) r h = rw h
source_held R (one_read j i) r h = rw h
source_held R (one_reload j i v) r h = rw h
source_held R (one_exchange j i v) r h = rw h

own_held : (R : ℕ → Ring) (new : Ring) (p : OwnStage) (r : ℕ) → OwnHolds p r → own_keeps (own_at R new p) ≡ Q.Held (R r)
own_held R new (reserve_back w) r h = absurd h
own_held R new (reserve_front w b) r h = absurd h
own_held R new (reserve_resize w z) r h = absurd h
own_held R new (own_back w) r h = absurd h
own_held R new (all_write j i v) r h = rw h
own_held R new (one_write j i v) r h = rw h
own_held R new (swap_near j x) r h = rw h
own_held R new (swap_far j x near) r h = rw h
own_held R new (swap_put j x near far) r h = rw h
own_held R new (swap_last j x near) r h = rw h
own_held R new (own_store j) r h = rw h

pub holds_kept : (R : ℕ → ℕ → Ring) (new : Ring) (x : Stage) (k r : ℕ) → Holds x k r → kept_of (stage_for R new x) ≡ Q.Held (R k r)
holds_kept R new idle k r h = absurd h
holds_kept R new (push x p) k r h = absurd h
holds_kept R new (fifo_pop w p) k r h = absurd h
holds_kept R new (lifo_pop w p) k r h = absurd h
holds_kept R new (shrink w v z) k r h = absurd h
holds_kept R new (steal i p) k r h = rw h.0 (steal_held (R i) p r h.1)
holds_kept R new (len i p) k r h = absurd h
holds_kept R new (own_batch p) k r h = absurd h
holds_kept R new (source i p) k r h = rw h.0 (source_held (R i) p r h.1)
holds_kept R new (own i p) k r h = rw h.0 (own_held (R i) new p r h.1)

-- ---- a ring that is built

resize_built : (new : Ring) (z : ResizeStage) → (builds_resize z ≡ not_building → ⊥) → resize_keeps (resize_at new z) ≡ Q.Built new
resize_built new (resize_back c) b = absurd (b refl)
resize_built new (resize_front c i) b = absurd (b refl)
resize_built new (resize_copy c i j f) b = refl
resize_built new (resize_swap c f) b = refl

push_built : (new : Ring) (p : PushStage) → (builds_push p ≡ not_building → ⊥) → push_keeps (push_at new p) ≡ Q.Built new
push_built new push_back b = absurd (b refl)
push_built new (push_front i) b = absurd (b refl)
push_built new (push_resize i z) b = resize_built new z b
push_built new (push_write i) b = absurd (b refl)
push_built new (push_store i) b = absurd (b refl)

own_built : (R : ℕ → Ring) (new : Ring) (p : OwnStage) → (builds_own p ≡ not_building → ⊥) → own_keeps (own_at R new p) ≡ Q.Built new
own_built R new (reserve_back w) b = absurd (b refl)
own_built R new (reserve_front w i) b = absurd (b refl)
own_built R new (reserve_resize w z) b = resize_built new z b
own_built R new (own_back w) b = absurd (b refl)
own_built R new (all_write h i v) b = absurd (b refl)
own_built R new (one_write h i v) b = absurd (b refl)
own_built R new (swap_near h x) b = absurd (b refl)
own_built R new (swap_far h x near) b = absurd (b refl)
own_built R new (swap_put h x near far) b = absurd (b refl)
own_built R new (swap_last h x near) b = absurd (b refl)
own_built R new (own_store h) b = absurd (b refl)

pub builds_kept : (R : ℕ → ℕ → Ring) (new : Ring) (x : Stage) → (builds x ≡ not_building → ⊥) → kept_of (stage_for R new x) ≡ Q.Built new
builds_kept R new idle b = absurd (b refl)
builds_kept R new (push x p) b = push_built new p b
builds_kept R new (fifo_pop w p) b = absurd (b refl)
builds_kept R new (lifo_pop w p) b = absurd (b refl)
builds_kept R new (shrink w v z) b = resize_built new z b
builds_kept R new (steal i p) b = absurd (b refl)
builds_kept R new (len i p) b = absurd (b refl)
builds_kept R new (own_batch p) b = absurd (b refl)
builds_kept R new (source i p) b = absurd (b refl)
builds_kept R new (own i p) b = own_built (R i) new p b

-- ---- what a stage keeps: nothing, a ring held, or a ring built

pub data Keeping (R : ℕ → ℕ → Ring) (new : Ring) (x : Stage) : Type 0 where
  keeps_nothing : kept_of (stage_for R new x) ≡ Q.Nothing → Keeping R new x
  keeps_held : (k r : ℕ) → Holds x k r → Keeping R new x
  keeps_built : (builds x ≡ not_building → ⊥) → kept_of (stage_for R new x) ≡ Q.Built new → Keeping R new x

pub builds_one : (c : ℕ) (f : ℕ → ℕ) → building c f ≡ not_building → ⊥
builds_one c f e = let z : ◌≡◌ {A = ℕ} 0 1 = cc in omega arith

module _ (R : ℕ → ℕ → Ring) (new : Ring) where
  push_keeping : (x : ℕ) (p : PushStage) → Keeping R new (push x p)
  push_keeping x push_back = keeps_nothing refl
  push_keeping x (push_front b) = keeps_nothing refl
  push_keeping x (push_resize b (resize_back c)) = keeps_nothing refl
  push_keeping x (push_resize b (resize_front c i)) = keeps_nothing refl
  push_keeping x (push_resize b (resize_copy c i j f)) = keeps_built (builds_one c f) refl
  push_keeping x (push_resize b (resize_swap c f)) = keeps_built (builds_one c f) refl
  push_keeping x (push_write b) = keeps_nothing refl
  push_keeping x (push_store b) = keeps_nothing refl

  shrink_keeping : (w : Popper) (v : ℕ) (z : ResizeStage) → Keeping R new (shrink w v z)
  shrink_keeping w v (resize_back c) = keeps_nothing refl
  shrink_keeping w v (resize_front c i) = keeps_nothing refl
  shrink_keeping w v (resize_copy c i j f) = keeps_built (builds_one c f) refl
  shrink_keeping w v (resize_swap c f) = keeps_built (builds_one c f) refl

  steal_keeping : (k : ℕ) (p : StealStage) → Keeping R new (steal k p)
  steal_keeping k steal_front = keeps_nothing refl
  steal_keeping k (steal_back f) = keeps_nothing refl
  steal_keeping k (steal_ring f) = keeps_nothing refl
  steal_keeping k (steal_read r f) = keeps_held k r (refl, refl)
  steal_keeping k (steal_reload r f v) = keeps_held k r (refl, refl)
  steal_keeping k (steal_exchange r f v) = keeps_held k r (refl, refl)

  source_keeping : (k : ℕ) (p : SourceStage) → Keeping R new (source k p)
  source_keeping k (source_front m others) = keeps_nothing refl
  source_keeping k (source_back m others f) = keeps_nothing refl
  source_keeping k (source_ring w b) = keeps_nothing refl
  source_keeping k (source_first h) = keeps_held k h.ring (refl, refl)
  source_keeping k (all_copy h i) = keeps_held k h.ring (refl, refl)
  source_keeping k (all_reload h) = keeps_held k h.ring (refl, refl)
  source_keeping k (all_exchange h) = keeps_held k h.ring (refl, refl)
  source_keeping k (one_first h v) = keeps_held k h.ring (refl, refl)
  source_keeping k (one_back h i) = keeps_held k h.ring (refl, refl)
  source_keeping k (one_read h i) = keeps_held k h.ring (refl, refl)
  source_keeping k (one_reload h i v) = keeps_held k h.ring (refl, refl)
  source_keeping k (one_exchange h i v) = keeps_held k h.ring (refl, refl)

  own_keeping : (k : ℕ) (p : OwnStage) → Keeping R new (own k p)
  own_keeping k (reserve_back w) = keeps_nothing refl
  own_keeping k (reserve_front w b) = keeps_nothing refl
  own_keeping k (reserve_resize w (resize_back c)) = keeps_nothing refl
  own_keeping k (reserve_resize w (resize_front c i)) = keeps_nothing refl
  own_keeping k (reserve_resize w (resize_copy c i j f)) = keeps_built (builds_one c f) refl
  own_keeping k (reserve_resize w (resize_swap c f)) = keeps_built (builds_one c f) refl
  own_keeping k (own_back w) = keeps_nothing refl
  own_keeping k (all_write h i v) = keeps_held k h.ring (refl, refl)
  own_keeping k (one_write h i v) = keeps_held k h.ring (refl, refl)
  own_keeping k (swap_near h x) = keeps_held k h.ring (refl, refl)
  own_keeping k (swap_far h x near) = keeps_held k h.ring (refl, refl)
  own_keeping k (swap_put h x near far) = keeps_held k h.ring (refl, refl)
  own_keeping k (swap_last h x near) = keeps_held k h.ring (refl, refl)
  own_keeping k (own_store h) = keeps_held k h.ring (refl, refl)

  pub keeping : (x : Stage) → Keeping R new x
  keeping idle = keeps_nothing refl
  keeping (push x p) = push_keeping x p
  keeping (fifo_pop w p) = keeps_nothing refl
  keeping (lifo_pop w p) = keeps_nothing refl
  keeping (shrink w v z) = shrink_keeping w v z
  keeping (steal k p) = steal_keeping k p
  keeping (len k p) = keeps_nothing refl
  keeping (own_batch p) = keeps_nothing refl
  keeping (source k p) = source_keeping k p
  keeping (own k p) = own_keeping k p
