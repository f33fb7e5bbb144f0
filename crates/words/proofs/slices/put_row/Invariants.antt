-- The invariant: the first k words are put.
use Rattle.std.proofs.Common.{◌≡◌, ◌≤◌, length}
use Rattle.words.specs.Slices.{put_first}
use Rattle.words.proofs.slices.put_row.Given as goal

abbrev pub invariant-loop-k : goal.invariant-loop-k
invariant-loop-k l = (l.words ≡ put_first l.k l.fn.words l.fn.at l.row) × (l.k ≤ length l.row)
