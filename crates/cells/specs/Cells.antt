-- The cells of a ring in the pool, which is one list.
use Rattle.std.specs.Prelude.{Bool, ◌&&◌, List, ℕ, ◌+◌, ◌*◌, ◌/◌, ltb, length, get_or, set, Option, Some, None}
use Rattle.std.specs.declared.ops.Range.{Range}
use Rattle.base.specs.Tests.{pick}
use Rattle.index.specs.declared.Index.{Index}
use Rattle.index.specs.Index.{cell_of}
use Rattle.ring.specs.declared.Ring.{Ring}
use Rattle.ring.specs.Capacity.{largest, allowed_b}

-- the cells of a place: as many as the largest ring has
abbrev pub place_cells : ℕ
place_cells = largest

-- the pool has the ring's place, and a ring may have its capacity
unfoldable pub stands_b : List ℕ → Ring → Bool
stands_b cells r = ltb r.place.0 (length cells / place_cells) && allowed_b r.capacity

-- the cells of a ring that the pool has: from its place's first on, as many as its capacity
abbrev pub stretch_of : List ℕ → Ring → Option (Range ℕ)
stretch_of cells r = pick (stands_b cells r) (Some (record { start = r.place.0 * place_cells; end = r.place.0 * place_cells + r.capacity })) None

-- where in the pool index i of a ring lies
unfoldable pub spot : Ring → Index → ℕ
spot r i = r.place.0 * place_cells + cell_of i r.capacity

-- the job in the cell of index i; 0 where the ring does not lie in the pool
unfoldable pub read_of : List ℕ → Ring → Index → ℕ
read_of cells r i = pick (stands_b cells r) (get_or cells (spot r i) 0) 0

-- the pool with a job in the cell of index i; as it was where the ring does not lie in it
unfoldable pub written_of : List ℕ → Ring → Index → ℕ → List ℕ
written_of cells r i job = pick (stands_b cells r) (set cells (spot r i) job) cells

-- the cell of index i copied from one ring to another
abbrev pub copied_of : List ℕ → Ring → Ring → Index → List ℕ
copied_of cells from to i = written_of cells to i (read_of cells from i)
