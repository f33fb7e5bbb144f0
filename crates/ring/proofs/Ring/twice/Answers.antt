-- Twice the capacity is above the largest exactly where the capacity is above half the largest, which is even.
use Rattle.std.proofs.Common.{sym, arith}
use Rattle.ring.proofs.CapacityLaws.{twice_below, twice_above}
use Rattle.ring.proofs.Ring.twice.Goals as goal

pub returns-then-capacity : goal.returns-then-capacity
returns-then-capacity c = sym (twice_above _ (omega arith))

pub returns : goal.returns
returns c = sym (twice_below _ (omega arith))
