-- What a step does to cells, which rings are live, and what it means that a pool keeps the live rings, each in a place of its own.
-- A ring is named by its queue and its number in it; a ring being built has the number that it will have.
use Rattle.std.specs.Prelude.{◌≡◌, ◌⊎◌, ℕ, suc, ◌+◌, ◌-◌, ◌%◌, ◌<◌}
use Rattle.model.specs.Count.{upd}
use Rattle.model.specs.Stage.{Flavour, Queue, at, cap, set_cell, swap, ResizeStage, resize_back, resize_front, resize_copy, resize_swap}
use Rattle.model.specs.Stage.{PushStage, push_back, push_front, push_resize, push_write, push_store, own, StealStage, steal_front, steal_back}
use Rattle.model.specs.Stage.{steal_ring, steal_read, steal_reload, steal_exchange, source, SourceStage, source_front, source_back, source_ring}
use Rattle.model.specs.Stage.{source_first, all_copy, all_reload, all_exchange, one_first, one_back, one_read, one_reload, one_exchange}
use Rattle.model.specs.Stage.{OwnStage, reserve_back, reserve_front, reserve_resize, own_back, all_write, one_write, swap_near, swap_far}
use Rattle.model.specs.Stage.{swap_put, swap_last, own_store, Stage, idle, push, fifo_pop, lifo_pop, shrink, steal, len, own_batch}
use Rattle.model.specs.Tables.{Claim, lost, got, slot}
use Rattle.model.specs.Machine.{owner, State}

-- ---- which ring of its source a stage holds

abbrev pub StealHolds : StealStage → ℕ → Type 0
StealHolds steal_front r = ⊥
StealHolds (steal_back f) r = ⊥
StealHolds (steal_ring f) r = ⊥
StealHolds (steal_read i f) r = r ≡ i
StealHolds (steal_reload i f v) r = r ≡ i
StealHolds (steal_exchange i f v) r = r ≡ i

abbrev pub OwnHolds : OwnStage → ℕ → Type 0
OwnHolds (reserve_back w) r = ⊥
OwnHolds (reserve_front w b) r = ⊥
OwnHolds (reserve_resize w z) r = ⊥
OwnHolds (own_back w) r = ⊥
OwnHolds (all_write h i v) r = r ≡ h.ring
OwnHolds (one_write h i v) r = r ≡ h.ring
OwnHolds (swap_near h x) r = r ≡ h.ring
OwnHolds (swap_far h x near) r = r ≡ h.ring
OwnHolds (swap_put h x near far) r = r ≡ h.ring
OwnHolds (swap_last h x near) r = r ≡ h.ring
OwnHolds (own_store h) r = r ≡ h.ring

abbrev pub SourceHolds : SourceStage → ℕ → Type 0
SourceHolds (source_front m others) r = ⊥
SourceHolds (source_back m others f) r = ⊥
SourceHolds (source_ring w b) r = ⊥
SourceHolds (source_first h) r = r ≡ h.ring
SourceHolds (all_copy h i) r = r ≡ h.ring
SourceHolds (all_reload h) r = r ≡ h.ring
SourceHolds (all_exchange h) r = r ≡ h.ring
SourceHolds (one_first h v) r = r ≡ h.ring
SourceHolds (one_back h i) r = r ≡ h.ring
SourceHolds (one_read h i) r = r ≡ h.ring
SourceHolds (one_reload h i v) r = r ≡ h.ring
SourceHolds (one_exchange h i v) r = r ≡ h.ring

-- ring r of queue k
abbrev pub Holds : Stage → ℕ → ℕ → Type 0
Holds idle k r = ⊥
Holds (push x p) k r = ⊥
Holds (fifo_pop w p) k r = ⊥
Holds (lifo_pop w p) k r = ⊥
Holds (shrink w v z) k r = ⊥
Holds (steal i p) k r = (k ≡ i) × StealHolds p r
Holds (len i p) k r = ⊥
Holds (own_batch p) k r = ⊥
Holds (source i p) k r = (k ≡ i) × SourceHolds p r
Holds (own i p) k r = (k ≡ i) × OwnHolds p r

-- ---- the ring that a stage builds: its capacity and its cells

pub data Building : Type 0 where
  not_building : Building
  building : (c : ℕ) → (ℕ → ℕ) → Building

abbrev pub builds_resize : ResizeStage → Building
builds_resize (resize_back c) = not_building
builds_resize (resize_front c b) = not_building
builds_resize (resize_copy c b i f) = building c f
builds_resize (resize_swap c f) = building c f

abbrev pub builds_push : PushStage → Building
builds_push push_back = not_building
builds_push (push_front b) = not_building
builds_push (push_resize b z) = builds_resize z
builds_push (push_write b) = not_building
builds_push (push_store b) = not_building

abbrev pub builds_own : OwnStage → Building
builds_own (reserve_back w) = not_building
builds_own (reserve_front w b) = not_building
builds_own (reserve_resize w z) = builds_resize z
builds_own (own_back w) = not_building
builds_own (all_write h i v) = not_building
builds_own (one_write h i v) = not_building
builds_own (swap_near h x) = not_building
builds_own (swap_far h x near) = not_building
builds_own (swap_put h x near far) = not_building
builds_own (swap_last h x near) = not_building
builds_own (own_store h) = not_building

abbrev pub builds : Stage → Building
builds idle = not_building
builds (push x p) = builds_push p
builds (fifo_pop w p) = not_building
builds (lifo_pop w p) = not_building
builds (shrink w v z) = builds_resize z
builds (steal i p) = not_building
builds (len i p) = not_building
builds (own_batch p) = not_building
builds (source i p) = not_building
builds (own i p) = builds_own p

abbrev pub cells_of : Building → ℕ → ℕ
cells_of not_building x = 0
cells_of (building c f) x = f x

-- ---- what a step does to cells

-- nothing; a job into the own current ring at index i; a copy of index i into the ring being built; a claim; a swap
pub data Note : Type 0 where
  kept : Note
  wrote : (i v : ℕ) → Note
  copied : (i : ℕ) → Note
  claims : Note
  swaps : Note

abbrev pub note_claim : Claim → Note
note_claim lost = kept
note_claim (got f) = claims

abbrev pub note_resize : Claim → ResizeStage → Note
note_resize g (resize_back c) = kept
note_resize g (resize_front c b) = note_claim g
note_resize g (resize_copy c b i f) = copied i
note_resize g (resize_swap c f) = swaps

abbrev pub note_push : Claim → ℕ → PushStage → Note
note_push g x push_back = kept
note_push g x (push_front b) = kept
note_push g x (push_resize b z) = note_resize g z
note_push g x (push_write b) = wrote b x
note_push g x (push_store b) = kept

abbrev pub note_own : Claim → Flavour → OwnStage → Note
note_own g fo (reserve_back w) = kept
note_own g fo (reserve_front w b) = kept
note_own g fo (reserve_resize w z) = note_resize g z
note_own g fo (own_back w) = kept
note_own g fo (all_write h i v) = wrote (slot fo h i) v
note_own g fo (one_write h i v) = wrote (h.b + i) v
note_own g fo (swap_near h x) = kept
note_own g fo (swap_far h x near) = kept
note_own g fo (swap_put h x near far) = wrote (h.b + x) far
note_own g fo (swap_last h x near) = wrote (h.b + (h.n - suc x)) near
note_own g fo (own_store h) = kept

-- fo: the flavour of the own queue
abbrev pub note : Claim → Flavour → Stage → Note
note g fo idle = kept
note g fo (push x p) = note_push g x p
note g fo (fifo_pop w p) = kept
note g fo (lifo_pop w p) = kept
note g fo (shrink w v z) = note_resize g z
note g fo (steal k p) = kept
note g fo (len k p) = kept
note g fo (own_batch p) = kept
note g fo (source k p) = kept
note g fo (own k p) = note_own g fo p

-- thread t's step, on queue k, from q to r, with the ring that it built and builds
abbrev pub Effect : Note → (t k : ℕ) → Claim → Building → Queue → Building → Queue → Type 0
Effect kept t k g was q is r =
    (r.rings ≡ q.rings) × (r.caps ≡ q.caps) × (r.ring ≡ q.ring) × (r.top ≡ q.top) × ((is ≡ was) ⊎ (is ≡ not_building))
Effect (wrote i v) t k g was q is r = (k ≡ t) × (r ≡ set_cell q i v) × (was ≡ not_building) × (is ≡ not_building)
Effect (copied i) t k g was q is r =
    (k ≡ t) × (r ≡ q) × ((c : ℕ) × (f : ℕ → ℕ) × (was ≡ building c f) × (is ≡ building c (upd f (i % c) (at q i))))
Effect claims t k g was q is r = (k ≡ t) × (r ≡ q) × (was ≡ not_building) × ((c : ℕ) × (f : ℕ → ℕ) × (g ≡ got f) × (is ≡ building c f))
Effect swaps t k g was q is r = (k ≡ t) × (is ≡ not_building) × ((c : ℕ) × (f : ℕ → ℕ) × (was ≡ building c f) × (r ≡ swap q c f))

-- ---- live rings

module _ (n : ℕ) where
  -- some operation in flight holds ring r of queue k
  abbrev pub Held : State → ℕ → ℕ → Type 0
  Held s k r = (u : ℕ) × (u < n) × Holds (s.stages u) k r

  -- queue k's owner builds ring r
  abbrev pub Built : State → ℕ → ℕ → Type 0
  Built s k r = (r ≡ (s.queues k).top) × (builds (s.stages (owner k)) ≡ not_building → ⊥)

  abbrev pub Live : State → ℕ → ℕ → Type 0
  Live s k r = (k < n) × ((r ≡ (s.queues k).ring) ⊎ Held s k r ⊎ Built s k r)

  -- a ring that queue k has or had, or that its owner builds
  abbrev pub Named : State → ℕ → ℕ → Type 0
  Named s k r = (r < (s.queues k).top) ⊎ Built s k r

abbrev pub content : State → ℕ → ℕ → ℕ → ℕ
content s k = upd (s.queues k).rings (s.queues k).top (cells_of (builds (s.stages (owner k))))

-- a pool, by place and cell, keeps the live rings of n queues, ring r of queue k in the place `place k r`
pub record Keeps (n : ℕ) (s : State) (place : ℕ → ℕ → ℕ) (pool : ℕ → ℕ → ℕ) : Type 0 where
  pub agree : (k r : ℕ) → Live n s k r → (x : ℕ) → pool (place k r) x ≡ content s k r x
  pub apart : (k r j i : ℕ) → Live n s k r → Live n s j i → place k r ≡ place j i → (k ≡ j) × (r ≡ i)

-- no live ring is in the place p
abbrev pub Free : (n : ℕ) → State → (ℕ → ℕ → ℕ) → ℕ → Type 0
Free n s place p = (k r : ℕ) → Live n s k r → place k r ≡ p → ⊥

abbrev pub put : (ℕ → ℕ → ℕ) → (p x v : ℕ) → ℕ → ℕ → ℕ
put pool p x v = upd pool p (upd (pool p) x v)

-- the pool after thread t's step on its own queue q, by the step's note; c: the capacity of the ring that it builds
abbrev pub pooled : Note → (ℕ → ℕ → ℕ) → (ℕ → ℕ → ℕ) → (t c : ℕ) → Queue → ℕ → ℕ → ℕ
pooled kept place pool t c q = pool
pooled (wrote i v) place pool t c q = put pool (place t q.ring) (i % cap q) v
pooled (copied i) place pool t c q = put pool (place t q.top) (i % c) (at q i)
pooled claims place pool t c q = pool
pooled swaps place pool t c q = pool
