-- What it means that a machine with its pool is a state of the model, its rings named by R.
use Rattle.std.specs.Prelude.{◌≡◌, ℕ, ◌+◌, ◌*◌, ◌<◌, true, List, length, nat_lt, slice_index}
use Rattle.base.specs.Tests.{pick}
use Rattle.ring.specs.declared.Ring.{Ring}
use Rattle.ring.specs.Capacity.{allowed_b}
use Rattle.cells.specs.Cells.{place_cells}
use Rattle.sound.specs.Sound.{most_queues, counts_b, ring_sound}
use Rattle.machine.specs.declared.state.Machine.{Machine}
use Rattle.machine.specs.State.{queue_at, stage_at}
use Rattle.model.specs.Stage.{Flavour, ResizeStage, resize_back, resize_front, resize_copy, resize_swap, PushStage, push_back, push_front}
use Rattle.model.specs.Stage.{push_resize, push_write, push_store, own, source, OwnStage, reserve_back, reserve_front, reserve_resize, own_back}
use Rattle.model.specs.Stage.{all_write, one_write, swap_near, swap_far, swap_put, swap_last, own_store, Stage, idle, push, fifo_pop, lifo_pop, shrink}
use Rattle.model.specs.Stage.{steal, len, own_batch}
use Rattle.model.specs.Machine.{State}
use Rattle.model.specs.Invariant.{Inv}
use Rattle.model.specs.Bound.{Bounded}
use Rattle.model.specs.Memory.{Named, Keeps}
use Rattle.link.specs.Map.{stage_for, queue_for}

-- the lent pool, by place and cell; beyond a place's cells there is nothing
abbrev pub pool_of : List ℕ → ℕ → ℕ → ℕ
pool_of cells p x = pick (nat_lt x place_cells) (slice_index cells (p * place_cells + x)) 0

abbrev pub places_of : (ℕ → ℕ → Ring) → ℕ → ℕ → ℕ
places_of R k r = (R k r).place.0

-- a capacity that is resized to is allowed; from the claim on it is C, that of the ring being built
abbrev pub ResizeFits : ℕ → ResizeStage → Type 0
ResizeFits C (resize_back c) = allowed_b c ≡ true
ResizeFits C (resize_front c b) = allowed_b c ≡ true
ResizeFits C (resize_copy c b i f) = C ≡ c
ResizeFits C (resize_swap c f) = C ≡ c

abbrev pub PushFits : ℕ → PushStage → Type 0
PushFits C push_back = Unit
PushFits C (push_front b) = Unit
PushFits C (push_resize b z) = ResizeFits C z
PushFits C (push_write b) = Unit
PushFits C (push_store b) = Unit

abbrev pub OwnFits : ℕ → OwnStage → Type 0
OwnFits C (reserve_back w) = Unit
OwnFits C (reserve_front w b) = Unit
OwnFits C (reserve_resize w z) = ResizeFits C z
OwnFits C (own_back w) = Unit
OwnFits C (all_write h i v) = Unit
OwnFits C (one_write h i v) = Unit
OwnFits C (swap_near h x) = Unit
OwnFits C (swap_far h x near) = Unit
OwnFits C (swap_put h x near far) = Unit
OwnFits C (swap_last h x near) = Unit
OwnFits C (own_store h) = Unit

abbrev pub StageFits : ℕ → Stage → Type 0
StageFits C idle = Unit
StageFits C (push x p) = PushFits C p
StageFits C (fifo_pop w p) = Unit
StageFits C (lifo_pop w p) = Unit
StageFits C (shrink w v z) = ResizeFits C z
StageFits C (steal k p) = Unit
StageFits C (len k p) = Unit
StageFits C (own_batch p) = Unit
StageFits C (source k p) = Unit
StageFits C (own k p) = OwnFits C p

-- n queues of these flavours
pub record Linked (n : ℕ) (fl : ℕ → Flavour) (R : ℕ → ℕ → Ring) (s : State) (m : Machine) (cells : List ℕ) : Type 0 where
  pub counts : counts_b n m.place_count ≡ true
  pub count : m.queue_count ≡ n
  pub queue_list : length m.queues ≡ most_queues
  pub thread_list : length m.threads ≡ most_queues
  pub pool_length : length cells ≡ m.place_count * place_cells
  pub queues : (k : ℕ) → k < n → queue_at m k ≡ queue_for (fl k) (R k) (s.queues k)
  pub stages : (t : ℕ) → t < n → stage_at m t ≡ stage_for R (R t (s.queues t).top) (s.stages t)
  pub caps : (k r : ℕ) → k < n → r < (s.queues k).top → (R k r).capacity ≡ (s.queues k).caps r
  pub sizes : (t : ℕ) → t < n → StageFits (R t (s.queues t).top).capacity (s.stages t)
  pub rings : (k r : ℕ) → k < n → Named n s k r → ring_sound m.place_count (R k r) ≡ true
  pub numbers : (k r j i : ℕ) → k < n → j < n → Named n s k r → Named n s j i → (R k r).number.0 ≡ (R j i).number.0 → (k ≡ j) × (r ≡ i)
  pub next : (k r : ℕ) → k < n → Named n s k r → (R k r).number.0 < m.next_ring.0
  pub keeps : Keeps n s (places_of R) (pool_of cells)

-- a state of the model stands behind the machine: linked, within the invariant, after c calls; mem: what each thread last began to push
pub record Behind (n : ℕ) (fl : ℕ → Flavour) (mem : ℕ → ℕ) (c : ℕ) (m : Machine) (cells : List ℕ) : Type 0 where
  pub names : ℕ → ℕ → Ring
  pub state : State
  pub linked : Linked n fl names state m cells
  pub inv : Inv n fl mem state
  pub bounded : Bounded n c state
