-- A queue's ring, shown to the board engineer as the caller's own cells: where it starts in the lent pool, and how many cells it has. An unsound
-- state, a wrong pool length or a queue that is not there shows an empty part.
use Rattle.std.specs.Prelude.{ℕ, ◌*◌, Bool, ◌&&◌, List, take, drop, ◌==◌, nat_lt}
use Rattle.base.specs.Tests.{pick}
use Rattle.ring.specs.declared.Ring.{Ring}
use Rattle.cells.specs.Cells.{place_cells}
use Rattle.machine.specs.declared.state.Machine.{Machine}
use Rattle.machine.specs.declared.shown.Part.{Part}
use Rattle.machine.specs.State.{queue_at}
use Rattle.machine.specs.Sound.{sound_b}

abbrev pub part : ℕ → ℕ → Part
part start count = record { start = start; count = count }

-- the first cells of a ring's place, as many as its capacity
abbrev pub ring_part : Ring → Part
ring_part r = part (r.place.0 * place_cells) r.capacity

-- len is the pool's length
abbrev pub shows_b : Machine → ℕ → ℕ → Bool
shows_b m len q = sound_b m && (len == m.place_count * place_cells && nat_lt q m.queue_count)

unfoldable pub shown_part : Machine → ℕ → ℕ → Part
shown_part m len q = pick (shows_b m len q) (ring_part (queue_at m q).ring) (part 0 0)

-- the cells of a part
abbrev pub shown_of : Part → List ℕ → List ℕ
shown_of p cells = take p.count (drop p.start cells)
