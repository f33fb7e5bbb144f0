-- Which places are in use. A place is in use while it holds a queue's current ring, a ring being built, or a ring that an operation in flight
-- holds. Otherwise it is free. Queue i and what thread i keeps are those that the functions give.
use Rattle.std.specs.Prelude.{ℕ, Bool, false, not, ◌&&◌, ◌||◌, List, ◌==◌, slice_index_or}
use Rattle.base.specs.Below.{all_below, any_below, first_not}
use Rattle.parts.specs.declared.queue.Queue.{Queue}
use Rattle.keeps.specs.declared.Kept.{Kept}
use Rattle.keeps.specs.declared.Kept.TheVariants.{Nothing, Built, Held}

-- ---- a ring that is kept, and a place

abbrev pub builds_in : Kept → ℕ → Bool
builds_in Nothing p = false
builds_in (Built r) p = r.place.0 == p
builds_in (Held r) p = false

abbrev pub both_build : Kept → Kept → Bool
both_build Nothing b = false
both_build (Built r) b = builds_in b r.place.0
both_build (Held r) b = false

-- a ring that is kept, built or held, is in place p
abbrev pub keeps_in : Kept → ℕ → Bool
keeps_in Nothing p = false
keeps_in (Built r) p = r.place.0 == p
keeps_in (Held r) p = r.place.0 == p

-- what thread t keeps, of these
abbrev pub kept_in : List Kept → ℕ → Kept
kept_in l t = slice_index_or l t Nothing

-- ---- current and built rings in different places; n is the queue count

-- queue i's ring and what thread j builds; and, of two, the queues' rings and what the threads build
abbrev pub apart_of : (ℕ → Queue) → (ℕ → Kept) → ℕ → ℕ → Bool
apart_of queue kept i j =
    not (builds_in (kept j) (queue i).ring.place.0) &&
    (i == j || (not ((queue i).ring.place.0 == (queue j).ring.place.0) && not (both_build (kept i) (kept j))))

abbrev pub all_apart_of : (ℕ → Queue) → (ℕ → Kept) → ℕ → Bool
all_apart_of queue kept n = all_below n (λ i. all_below n (λ j. apart_of queue kept i j))

-- ---- places in use

abbrev pub used_by_of : (ℕ → Queue) → (ℕ → Kept) → ℕ → ℕ → Bool
used_by_of queue kept p i = (queue i).ring.place.0 == p || keeps_in (kept i) p

abbrev pub used_of : (ℕ → Queue) → (ℕ → Kept) → ℕ → ℕ → Bool
used_of queue kept n p = any_below n (used_by_of queue kept p)

-- the lowest-numbered free one of so many places, and their count where none is free
abbrev pub free_place_of : (ℕ → Queue) → (ℕ → Kept) → ℕ → ℕ → ℕ
free_place_of queue kept n places = first_not (used_of queue kept n) places 0
