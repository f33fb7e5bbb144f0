-- A part that is shown is one of the pool, and is lent from its start to its end.
use Rattle.std.proofs.Common.{arith}
use Rattle.machine.proofs.ShownLaws.{fits}
use Rattle.machine.proofs.state.Machine.shown.Goals as goal

pub overflow_add-end : goal.overflow_add-end
overflow_add-end c = let h = fits _ _ _ _ c.shown_part-part.ensures in omega arith

pub offset_bounds-pool-start : goal.offset_bounds-pool-start
offset_bounds-pool-start c = let h = fits _ _ _ _ c.shown_part-part.ensures in omega arith

pub slice_bounds-result-end : goal.slice_bounds-result-end
slice_bounds-result-end c = let h = fits _ _ _ _ c.shown_part-part.ensures in omega arith
