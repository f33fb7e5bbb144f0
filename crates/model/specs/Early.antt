-- The stages of a push or a batch in which it has moved no job and written no cell.
use Rattle.model.specs.Stage.{ResizeStage, resize_back, resize_front, resize_copy, resize_swap, PushStage, push_back, push_front, push_resize}
use Rattle.model.specs.Stage.{push_write, push_store, job, own, source, SourceStage, source_front, source_back, source_ring, source_first}
use Rattle.model.specs.Stage.{all_copy, all_reload, all_exchange, one_first, one_back, one_read, one_reload, one_exchange, OwnStage}
use Rattle.model.specs.Stage.{reserve_back, reserve_front, reserve_resize, own_back, all_write, one_write, swap_near, swap_far, swap_put}
use Rattle.model.specs.Stage.{swap_last, own_store, Stage, idle, push, fifo_pop, lifo_pop, shrink, steal, len, own_batch, Answer, working, done}
use Rattle.model.specs.Stage.{nothing, empty, success, retry, moved, two_numbers, too_large, no_ring}

abbrev pub EarlyResize : ResizeStage → Type 0
EarlyResize (resize_back c) = Unit
EarlyResize (resize_front c b) = Unit
EarlyResize (resize_copy c b i f) = ⊥
EarlyResize (resize_swap c f) = ⊥

abbrev pub EarlyPush : PushStage → Type 0
EarlyPush push_back = Unit
EarlyPush (push_front b) = Unit
EarlyPush (push_resize b z) = EarlyResize z
EarlyPush (push_write b) = ⊥
EarlyPush (push_store b) = ⊥

abbrev pub EarlySource : SourceStage → Type 0
EarlySource (source_front m others) = Unit
EarlySource (source_back m others f) = Unit
EarlySource (source_ring w b) = ⊥
EarlySource (source_first h) = ⊥
EarlySource (all_copy h i) = ⊥
EarlySource (all_reload h) = ⊥
EarlySource (all_exchange h) = ⊥
EarlySource (one_first h v) = ⊥
EarlySource (one_back h i) = ⊥
EarlySource (one_read h i) = ⊥
EarlySource (one_reload h i v) = ⊥
EarlySource (one_exchange h i v) = ⊥

abbrev pub EarlyOwn : OwnStage → Type 0
EarlyOwn (reserve_back w) = Unit
EarlyOwn (reserve_front w b) = Unit
EarlyOwn (reserve_resize w z) = EarlyResize z
EarlyOwn (own_back w) = ⊥
EarlyOwn (all_write h i v) = ⊥
EarlyOwn (one_write h i v) = ⊥
EarlyOwn (swap_near h x) = ⊥
EarlyOwn (swap_far h x near) = ⊥
EarlyOwn (swap_put h x near far) = ⊥
EarlyOwn (swap_last h x near) = ⊥
EarlyOwn (own_store h) = ⊥

abbrev pub Early : Stage → Type 0
Early idle = ⊥
Early (push x p) = EarlyPush p
Early (fifo_pop w p) = ⊥
Early (lifo_pop w p) = ⊥
Early (shrink w v z) = ⊥
Early (steal k p) = ⊥
Early (len k p) = ⊥
Early (own_batch p) = ⊥
Early (source k p) = EarlySource p
Early (own k p) = EarlyOwn p

-- what a step leaves of an operation that has written nothing so far: a further such stage, or answer 8 or 9
abbrev pub StillEarly : Answer → Stage → Type 0
StillEarly working x = Early x
StillEarly done x = ⊥
StillEarly (job w v) x = ⊥
StillEarly (nothing w) x = ⊥
StillEarly empty x = ⊥
StillEarly (success v) x = ⊥
StillEarly retry x = ⊥
StillEarly moved x = ⊥
StillEarly (two_numbers b f) x = ⊥
StillEarly too_large x = Unit
StillEarly no_ring x = Unit
