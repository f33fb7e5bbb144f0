-- The logical queue, what each stage holds, and what an answer says: each as a count of job j.
use Rattle.std.specs.Prelude.{◌≡◌, ℕ, suc, ◌+◌, ◌-◌}
use Rattle.model.specs.Count.{one, upd, stand}
use Rattle.model.specs.Stage.{Queue, at, FifoPopStage, fifo_back, fifo_front, fifo_add, fifo_restore, fifo_read, LifoPopStage, lifo_back}
use Rattle.model.specs.Stage.{lifo_front, lifo_store, lifo_reload, lifo_restore, lifo_last, lifo_exchange, job, lifo_won, lifo_read, own}
use Rattle.model.specs.Stage.{InHand, none, some, Haul, source, SourceStage, source_front, source_back, source_ring, source_first, all_copy}
use Rattle.model.specs.Stage.{all_reload, all_exchange, one_first, one_back, one_read, one_reload, one_exchange, OwnStage, reserve_back}
use Rattle.model.specs.Stage.{reserve_front, reserve_resize, own_back, all_write, one_write, swap_near, swap_far, swap_put, swap_last}
use Rattle.model.specs.Stage.{own_store, Stage, idle, push, fifo_pop, lifo_pop, shrink, steal, len, own_batch, Answer, working, done, nothing}
use Rattle.model.specs.Stage.{empty, success, retry, moved, two_numbers, too_large, no_ring}

-- ---- the logical queue: front and back lie for a moment, and the owner's stage says when

abbrev pub lo_fifo : FifoPopStage → Queue → ℕ
lo_fifo fifo_back q = q.front
lo_fifo (fifo_front b) q = q.front
lo_fifo (fifo_add b others) q = q.front
lo_fifo (fifo_restore f) q = f
lo_fifo (fifo_read f others) q = q.front

-- the logical front: one less while a FIFO pop is about to put front back
abbrev pub lo : Stage → Queue → ℕ
lo idle q = q.front
lo (push x p) q = q.front
lo (fifo_pop w p) q = lo_fifo p q
lo (lifo_pop w p) q = q.front
lo (shrink w v z) q = q.front
lo (steal k p) q = q.front
lo (len k p) q = q.front
lo (own_batch p) q = q.front
lo (source k p) q = q.front
lo (own k p) q = q.front

abbrev pub hi_lifo : LifoPopStage → Queue → ℕ
hi_lifo lifo_back q = q.back
hi_lifo (lifo_front b) q = q.back
hi_lifo (lifo_store b) q = q.back
hi_lifo (lifo_reload b) q = b
hi_lifo (lifo_restore b) q = b
hi_lifo (lifo_last b) q = b
hi_lifo (lifo_exchange b v) q = b
hi_lifo (lifo_won b v) q = b
hi_lifo (lifo_read b others) q = q.back

-- the logical back: one more from a LIFO pop's store until its decision
abbrev pub hi : Stage → Queue → ℕ
hi idle q = q.back
hi (push x p) q = q.back
hi (fifo_pop w p) q = q.back
hi (lifo_pop w p) q = hi_lifo p q
hi (shrink w v z) q = q.back
hi (steal k p) q = q.back
hi (len k p) q = q.back
hi (own_batch p) q = q.back
hi (source k p) q = q.back
hi (own k p) q = q.back

-- ---- what a thread holds; q is its own queue

abbrev pub hand_of : InHand → ℕ → ℕ
hand_of none j = 0
hand_of (some v) j = one v j

-- of a haul: the job in hand, and i own cells from b on
abbrev pub hauled : Haul → ℕ → Queue → ℕ → ℕ
hauled h i q j = hand_of h.hand j + stand (at q) h.b (h.b + i) j

abbrev pub held_fifo : FifoPopStage → Queue → ℕ → ℕ
held_fifo fifo_back q j = 0
held_fifo (fifo_front b) q j = 0
held_fifo (fifo_add b others) q j = 0
held_fifo (fifo_restore f) q j = 0
held_fifo (fifo_read f others) q j = one (at q f) j

abbrev pub held_lifo : LifoPopStage → Queue → ℕ → ℕ
held_lifo lifo_back q j = 0
held_lifo (lifo_front b) q j = 0
held_lifo (lifo_store b) q j = 0
held_lifo (lifo_reload b) q j = 0
held_lifo (lifo_restore b) q j = 0
held_lifo (lifo_last b) q j = 0
held_lifo (lifo_exchange b v) q j = 0
held_lifo (lifo_won b v) q j = one v j
held_lifo (lifo_read b others) q j = one (at q q.back) j

-- between the two writes of a swap the far cell counts as if the second were done
abbrev pub held_own : OwnStage → Queue → ℕ → ℕ
held_own (reserve_back w) q j = 0
held_own (reserve_front w b) q j = 0
held_own (reserve_resize w z) q j = 0
held_own (own_back w) q j = 0
held_own (all_write h i v) q j = 0
held_own (one_write h i v) q j = one v j + hauled h i q j
held_own (swap_near h x) q j = hauled h h.n q j
held_own (swap_far h x near) q j = hauled h h.n q j
held_own (swap_put h x near far) q j = hauled h h.n q j
held_own (swap_last h x near) q j = hand_of h.hand j + stand (upd (at q) (h.b + (h.n - suc x)) near) h.b (h.b + h.n) j
held_own (own_store h) q j = hauled h h.n q j

abbrev pub held_source : SourceStage → Queue → ℕ → ℕ
held_source (source_front m others) q j = 0
held_source (source_back m others f) q j = 0
held_source (source_ring w b) q j = 0
held_source (source_first h) q j = 0
held_source (all_copy h i) q j = 0
held_source (all_reload h) q j = 0
held_source (all_exchange h) q j = 0
held_source (one_first h v) q j = 0
held_source (one_back h i) q j = hauled h i q j
held_source (one_read h i) q j = hauled h i q j
held_source (one_reload h i v) q j = hauled h i q j
held_source (one_exchange h i v) q j = hauled h i q j

abbrev pub held : Stage → Queue → ℕ → ℕ
held idle q j = 0
held (push x p) q j = 0
held (fifo_pop w p) q j = held_fifo p q j
held (lifo_pop w p) q j = held_lifo p q j
held (shrink w v z) q j = one v j
held (steal k p) q j = 0
held (len k p) q j = 0
held (own_batch p) q j = 0
held (source k p) q j = held_source p q j
held (own k p) q j = held_own p q j

-- in the queue and with its owner
abbrev pub amount : Stage → Queue → ℕ → ℕ
amount s q j = stand (at q) (lo s q) (hi s q) j + held s q j

-- ---- what an answer says; m is the number that the thread last began to push

abbrev pub accepts : ℕ → Answer → ℕ → ℕ
accepts m working j = 0
accepts m done j = one m j
accepts m (job w v) j = 0
accepts m (nothing w) j = 0
accepts m empty j = 0
accepts m (success v) j = 0
accepts m retry j = 0
accepts m moved j = 0
accepts m (two_numbers b f) j = 0
accepts m too_large j = 0
accepts m no_ring j = 0

abbrev pub gives : Answer → ℕ → ℕ
gives working j = 0
gives done j = 0
gives (job w v) j = one v j
gives (nothing w) j = 0
gives empty j = 0
gives (success v) j = one v j
gives retry j = 0
gives moved j = 0
gives (two_numbers b f) j = 0
gives too_large j = 0
gives no_ring j = 0

-- a thread that pushes, pushes what it began to push
abbrev pub Says : ℕ → Stage → Type 0
Says m idle = Unit
Says m (push x p) = m ≡ x
Says m (fifo_pop w p) = Unit
Says m (lifo_pop w p) = Unit
Says m (shrink w v z) = Unit
Says m (steal k p) = Unit
Says m (len k p) = Unit
Says m (own_batch p) = Unit
Says m (source k p) = Unit
Says m (own k p) = Unit
