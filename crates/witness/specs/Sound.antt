-- Sound means this and no more: each clause by machines just outside it, which are refused with 3, and machines at its limit, which are not. The calls
-- are over a pool of one cell, so where the machine is sound they are refused with 1, which is tested next. All is as it was.
use Rattle.std.specs.Prelude.{◌≡◌, ℕ, ◌-◌, ◌^◌, List, [], ◌∷◌, ◌++◌, map, ℤ, pos, negsuc, refl}
use Rattle.std.specs.Int.Count.{ones, ones_in}
use Rattle.base.specs.Below.{all_below}
use Rattle.index.specs.Index.{wrap, difference_of, spans_b}
use Rattle.ring.specs.declared.Ring.{Ring}
use Rattle.ring.specs.Capacity.{allowed_b}
use Rattle.parts.specs.declared.answer.Refusal.{Refusal}
use Rattle.parts.specs.declared.answer.Refusal.TheVariants.{PoolLength, Unsound}
use Rattle.parts.specs.declared.queue.Flavor.TheVariants.{Fifo, Lifo}
use Rattle.parts.specs.declared.queue.Queue.{Queue}
use Rattle.parts.specs.declared.stage.ResizeStage.TheVariants.{Swap}
use Rattle.parts.specs.declared.stage.PushStage.TheVariants.{Resize}
use Rattle.parts.specs.declared.stage.StealStage.TheVariants.{Read}
use Rattle.parts.specs.declared.stage.LengthStage.TheVariants.{LoadBack}
use Rattle.parts.specs.declared.stage.Stage.{Stage}
use Rattle.parts.specs.declared.stage.Stage.TheVariants as G
use Rattle.parts.specs.Queues.{zero_index}
use Rattle.gate.specs.declared.Operation.TheVariants.{Pop}
use Rattle.machine.specs.declared.state.Machine.{Machine}
use Rattle.machine.specs.State.{After, refused, with_queue, with_stage}
use Rattle.machine.specs.Sound.{sound_b}
use Rattle.machine.specs.Setup.{idle_threads, zero_machine, fresh_machine}
use Rattle.machine.specs.Step.{gate_of, step_of}
use Rattle.machine.specs.Begin.{begin_of}
use Rattle.witness.specs.Stages.{ring_at, building, holding, resizing, naming, before, past, counting, plain}

-- ---- a machine, and what calls of it are refused with

pub record Row : Type 0 where
  pub machine : Machine
  pub refusal : Refusal

abbrev sound : Machine → Row
sound m = record { machine = m; refusal = PoolLength }

abbrev unsound : Machine → Row
unsound m = record { machine = m; refusal = Unsound }

abbrev one_cell : List ℕ
one_cell = 9 ∷ []

abbrev begun : Row → After
begun r = begin_of r.machine one_cell 0 Pop

abbrev stepped : Row → After
stepped r = step_of r.machine one_cell 0

abbrev as_it_was : Row → After
as_it_was r = refused r.machine r.refusal one_cell

-- a step is refused as the rows say, and leaves all as it was
abbrev pub Judged : List Row → Type 0
Judged rows = map stepped rows ≡ map as_it_was rows

-- ---- machines with one part changed

-- k queues, n places: ring q in place q, and the other places are free
abbrev fresh : ℕ → ℕ → Machine
fresh k n = fresh_machine k (Fifo ∷ Lifo ∷ Fifo ∷ Lifo ∷ []) n

abbrev spanning : ℤ → ℤ → Ring → Queue
spanning f b ring = record { flavor = Fifo; front = record { 0 = f }; back = record { 0 = b }; ring = ring }

abbrev empty : Ring → Queue
empty ring = spanning (pos 0) (pos 0) ring

-- five queues in five places, one queue more than a machine's arrays have
abbrev five : Machine
five = record {
  queues = empty (ring_at 0 64) ∷ empty (ring_at 1 64) ∷ empty (ring_at 2 64) ∷ empty (ring_at 3 64) ∷ empty (ring_at 4 64) ∷ [];
  threads = idle_threads;
  queue_count = 5;
  place_count = 5;
  next_ring = record { 0 = 5 };
}

-- two queues, three places; the first or the last queue has a ring of this capacity
abbrev first : ℕ → Machine
first capacity = with_queue (fresh 2 3) 0 (empty (ring_at 0 capacity))

abbrev last : ℕ → Machine
last capacity = with_queue (fresh 2 3) 1 (empty (ring_at 1 capacity))

-- the last has this front and this back, in a ring of a capacity
abbrev differing : ℕ → ℤ → ℤ → Machine
differing capacity f b = with_queue (fresh 2 3) 1 (spanning f b (ring_at 1 capacity))

-- four queues, six places, and queue k's ring is in place p
abbrev lying : ℕ → ℕ → Machine
lying k p = with_queue (fresh 4 6) k (empty (ring_at p 64))

-- thread s builds a ring in place p
abbrev builds : ℕ → Machine → ℕ → Machine
builds s m p = with_stage m s (G.Push 7 (Resize zero_index (Swap (ring_at p 64))))

-- or holds one
abbrev holds : ℕ → Machine → ℕ → Machine
holds s m p = with_stage m s (G.Steal 0 (Read zero_index (ring_at p 64)))

-- ---- counts and queues

abbrev pub counts : List Row
counts =
    -- counts in range: queues 1 to 4
    unsound zero_machine ∷
    unsound (fresh 0 1) ∷
    sound (fresh 1 1) ∷
    sound (fresh 4 4) ∷
    unsound five ∷
    -- places: at least the queue count, at most 16
    unsound (fresh 2 1) ∷
    sound (fresh 2 2) ∷
    sound (fresh 2 16) ∷
    unsound (fresh 2 17) ∷
    []

abbrev pub capacities : List Row
capacities =
    -- capacities allowed
    sound (last 64) ∷
    sound (last 128) ∷
    sound (last 256) ∷
    unsound (last 0) ∷
    unsound (last 1) ∷
    unsound (last 32) ∷
    unsound (last 63) ∷
    unsound (last 65) ∷
    unsound (last 96) ∷
    unsound (last 192) ∷
    unsound (last 257) ∷
    unsound (last 512) ∷
    sound (first 256) ∷
    unsound (first 96) ∷
    []

abbrev pub places : List Row
places =
    -- place numbers below the count
    sound (lying 3 5) ∷
    unsound (lying 3 6) ∷
    sound (lying 0 5) ∷
    unsound (lying 0 6) ∷
    unsound (lying 0 (2 ^ 64 - 1)) ∷
    -- current rings in different places
    unsound (lying 1 0) ∷
    unsound (lying 2 0) ∷
    unsound (lying 2 1) ∷
    unsound (lying 0 3) ∷
    unsound (lying 1 3) ∷
    unsound (lying 2 3) ∷
    sound (lying 2 4) ∷
    []

abbrev pub built_rings : List Row
built_rings =
    -- a built ring, against the own queue's and against another's
    unsound (builds 0 (fresh 4 6) 0) ∷
    unsound (builds 3 (fresh 4 6) 3) ∷
    unsound (builds 0 (fresh 4 6) 3) ∷
    unsound (builds 3 (fresh 4 6) 0) ∷
    unsound (builds 2 (fresh 4 6) 1) ∷
    sound (builds 2 (fresh 4 6) 4) ∷
    sound (builds 0 (fresh 4 6) 5) ∷
    unsound (builds 0 (fresh 4 6) 6) ∷
    -- and against another built one
    unsound (builds 0 (builds 1 (fresh 4 6) 4) 4) ∷
    unsound (builds 0 (builds 3 (fresh 4 6) 4) 4) ∷
    unsound (builds 2 (builds 3 (fresh 4 6) 5) 5) ∷
    sound (builds 0 (builds 3 (fresh 4 6) 4) 5) ∷
    -- a held one may be anywhere
    sound (holds 0 (fresh 4 6) 0) ∷
    sound (holds 0 (fresh 4 6) 3) ∷
    sound (holds 0 (holds 1 (fresh 4 6) 4) 4) ∷
    sound (holds 0 (builds 1 (fresh 4 6) 4) 4) ∷
    unsound (holds 0 (fresh 4 6) 6) ∷
    []

abbrev pub differences : List Row
differences =
    -- each difference from -1 to capacity
    unsound (differing 64 (pos 2) (pos 0)) ∷
    sound (differing 64 (pos 2) (pos 1)) ∷
    sound (differing 64 (pos 2) (pos 2)) ∷
    sound (differing 64 (pos 2) (pos 66)) ∷
    unsound (differing 64 (pos 2) (pos 67)) ∷
    sound (differing 256 (pos 0) (pos 256)) ∷
    unsound (differing 256 (pos 0) (pos 257)) ∷
    -- also across the wrap: from 2^63 - 1 to -2^63 is 1
    unsound (differing 64 (negsuc (2 ^ 63 - 1)) (pos (2 ^ 63 - 2))) ∷
    sound (differing 64 (negsuc (2 ^ 63 - 1)) (pos (2 ^ 63 - 1))) ∷
    sound (differing 64 (pos (2 ^ 63 - 1)) (negsuc (2 ^ 63 - 1))) ∷
    sound (differing 64 (pos (2 ^ 63 - 1)) (negsuc (2 ^ 63 - 64))) ∷
    unsound (differing 64 (pos (2 ^ 63 - 1)) (negsuc (2 ^ 63 - 65))) ∷
    []

abbrev pub above : List Row
above =
    -- queues and threads above the count are not looked at
    sound (with_queue (fresh 2 3) 2 (empty (ring_at 0 65))) ∷
    sound (with_queue (fresh 2 3) 3 (spanning (pos 9) (pos 0) (ring_at 9 0))) ∷
    sound (builds 2 (fresh 2 3) 0) ∷
    sound (builds 2 (builds 0 (fresh 2 3) 2) 2) ∷
    sound (holds 3 (fresh 2 3) 3) ∷
    sound (with_stage (fresh 2 3) 2 (G.Length 7 LoadBack)) ∷
    []

pub counts_judged : Judged counts
unfolding step_of gate_of sound_b all_below allowed_b ones ones_in spans_b difference_of wrap
counts_judged = refl

pub capacities_judged : Judged capacities
unfolding step_of gate_of sound_b all_below allowed_b ones ones_in spans_b difference_of wrap
capacities_judged = refl

pub places_judged : Judged places
unfolding step_of gate_of sound_b all_below allowed_b ones ones_in spans_b difference_of wrap
places_judged = refl

pub built_judged : Judged built_rings
unfolding step_of gate_of sound_b all_below allowed_b ones ones_in spans_b difference_of wrap
built_judged = refl

pub differences_judged : Judged differences
unfolding step_of gate_of sound_b all_below allowed_b ones ones_in spans_b difference_of wrap
differences_judged = refl

pub above_judged : Judged above
unfolding step_of gate_of sound_b all_below allowed_b ones ones_in spans_b difference_of wrap
above_judged = refl

-- a begin is judged as a step is
pub begins_judged : map begun (counts ++ (capacities ++ (places ++ (built_rings ++ (differences ++ (above)))))) ≡ map as_it_was (counts ++ (capacities ++ (places ++ (built_rings ++ (differences ++ (above))))))
unfolding begin_of gate_of sound_b all_below allowed_b ones ones_in spans_b difference_of wrap
begins_judged = refl

-- ---- what a thread remembers, in two queues and three places: place 2 is free

-- by the first of the threads, and by the last
abbrev remembered : (Machine → Row) → List Stage → List Row
remembered row l = map (λ (s : Stage). row (with_stage (fresh 2 3) 0 s)) l ++ map (λ (s : Stage). row (with_stage (fresh 2 3) 1 s)) l

abbrev every : (Machine → Row) → List (List Stage) → List Row
every row [] = []
every row (l ∷ ls) = remembered row l ++ every row ls

-- stages that are sound, and stages that are not
abbrev memories : List (List Stage) → List (List Stage) → List Row
memories ls ls' = every sound ls ++ every unsound ls'

-- nothing that soundness asks about
pub plain_judged : Judged (remembered sound plain)
unfolding step_of gate_of sound_b all_below allowed_b ones ones_in spans_b difference_of wrap
plain_judged = refl

-- a ring that is built: an allowed capacity, a place below the count, and no current ring's
pub building_judged : Judged
    (memories (building (ring_at 2 64) ∷ building (ring_at 2 256) ∷ [])
    (building (ring_at 2 32) ∷
    building (ring_at 2 96) ∷
    building (ring_at 2 512) ∷
    building (ring_at 3 64) ∷
    building (ring_at 0 64) ∷
    building (ring_at 1 64) ∷
    []))
unfolding step_of gate_of sound_b all_below allowed_b ones ones_in spans_b difference_of wrap
building_judged = refl

-- a ring that is held: the same, but it may be in a current ring's place
pub holding_judged : Judged
    (memories (holding (ring_at 2 256) ∷ holding (ring_at 0 64) ∷ holding (ring_at 1 64) ∷ [])
    (holding (ring_at 2 32) ∷ holding (ring_at 2 96) ∷ holding (ring_at 2 512) ∷ holding (ring_at 3 64) ∷ []))
unfolding step_of gate_of sound_b all_below allowed_b ones ones_in spans_b difference_of wrap
holding_judged = refl

-- a capacity it resizes to is allowed
pub resizing_judged : Judged (memories (resizing 64 ∷ resizing 256 ∷ []) (resizing 0 ∷ resizing 32 ∷ resizing 96 ∷ resizing 512 ∷ []))
unfolding step_of gate_of sound_b all_below allowed_b ones ones_in spans_b difference_of wrap
resizing_judged = refl

-- the source queue it remembers exists
pub naming_judged : Judged (memories (naming 1 ∷ []) (naming 2 ∷ []))
unfolding step_of gate_of sound_b all_below allowed_b ones ones_in spans_b difference_of wrap
naming_judged = refl

-- once reserve is past, a batch's n is at most the largest capacity
pub wanting_judged : Judged (memories (before 257 ∷ before (2 ^ 64 - 1) ∷ past 0 ∷ past 256 ∷ []) (past 257 ∷ []))
unfolding step_of gate_of sound_b all_below allowed_b ones ones_in spans_b difference_of wrap
wanting_judged = refl

-- and its counters at most n
pub counting_judged : Judged
    (memories (counting 3 3 ∷ counting 256 256 ∷ counting 0 0 ∷ []) (counting 3 4 ∷ counting 256 257 ∷ counting 0 1 ∷ []))
unfolding step_of gate_of sound_b all_below allowed_b ones ones_in spans_b difference_of wrap
counting_judged = refl
