-- How far an index can be after so many calls. A batch of n makes n writes before it moves the back by n: `earned` is what a thread has to its
-- credit so far in its operation. An index that a thread loaded before any test of it is `early`.
use Rattle.std.specs.Prelude.{ℕ, suc, ◌+◌, ◌≤◌, ◌<◌}
use Rattle.model.specs.Stage.{own, StealStage, steal_front, steal_back, steal_ring, steal_read, steal_reload, steal_exchange, LengthStage}
use Rattle.model.specs.Stage.{length_back, length_front, source, SourceStage, source_front, source_back, source_ring, source_first, all_copy}
use Rattle.model.specs.Stage.{all_reload, all_exchange, one_first, one_back, one_read, one_reload, one_exchange, OwnStage, reserve_back}
use Rattle.model.specs.Stage.{reserve_front, reserve_resize, own_back, all_write, one_write, swap_near, swap_far, swap_put, swap_last}
use Rattle.model.specs.Stage.{own_store, Stage, idle, push, fifo_pop, lifo_pop, shrink, steal, len, own_batch}
use Rattle.model.specs.Machine.{owner, State}

abbrev pub earned_own : OwnStage → ℕ
earned_own (reserve_back w) = 0
earned_own (reserve_front w b) = 0
earned_own (reserve_resize w z) = 0
earned_own (own_back w) = 0
earned_own (all_write h i v) = i
earned_own (one_write h i v) = i
earned_own (swap_near h x) = h.n
earned_own (swap_far h x near) = h.n
earned_own (swap_put h x near far) = h.n
earned_own (swap_last h x near) = h.n
earned_own (own_store h) = h.n

abbrev pub earned_source : SourceStage → ℕ
earned_source (source_front m others) = 0
earned_source (source_back m others f) = 0
earned_source (source_ring w b) = 0
earned_source (source_first h) = 0
earned_source (all_copy h i) = i
earned_source (all_reload h) = h.n
earned_source (all_exchange h) = h.n
earned_source (one_first h v) = 0
earned_source (one_back h i) = i
earned_source (one_read h i) = i
earned_source (one_reload h i v) = i
earned_source (one_exchange h i v) = i

abbrev pub earned : Stage → ℕ
earned idle = 0
earned (push x p) = 0
earned (fifo_pop w p) = 0
earned (lifo_pop w p) = 0
earned (shrink w v z) = 0
earned (steal k p) = 0
earned (len k p) = 0
earned (own_batch p) = 0
earned (source k p) = earned_source p
earned (own k p) = earned_own p

abbrev pub early_length : LengthStage → ℕ
early_length length_back = 0
early_length (length_front b) = b

abbrev pub early_steal : StealStage → ℕ
early_steal steal_front = 0
early_steal (steal_back f) = f
early_steal (steal_ring f) = 0
early_steal (steal_read r f) = 0
early_steal (steal_reload r f v) = 0
early_steal (steal_exchange r f v) = 0

abbrev pub early_source : SourceStage → ℕ
early_source (source_front m others) = 0
early_source (source_back m others f) = f
early_source (source_ring w b) = 0
early_source (source_first h) = 0
early_source (all_copy h i) = 0
early_source (all_reload h) = 0
early_source (all_exchange h) = 0
early_source (one_first h v) = 0
early_source (one_back h i) = 0
early_source (one_read h i) = 0
early_source (one_reload h i v) = 0
early_source (one_exchange h i v) = 0

abbrev pub early : Stage → ℕ
early idle = 0
early (push x p) = 0
early (fifo_pop w p) = 0
early (lifo_pop w p) = 0
early (shrink w v z) = 0
early (steal k p) = early_steal p
early (len k p) = early_length p
early (own_batch p) = early_length p
early (source k p) = early_source p
early (own k p) = 0

-- of n queues, after c calls
pub record Bounded (n c : ℕ) (s : State) : Type 0 where
  pub backs : (k : ℕ) → k < n → (s.queues k).back + earned (s.stages (owner k)) ≤ c
  pub fronts : (t : ℕ) → t < n → early (s.stages t) ≤ suc c
