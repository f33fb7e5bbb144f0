-- Games C11 and C12 of 01: growing and shrinking, on queues that were filled by pushing.
use Rattle.std.specs.Prelude.{◌≡◌, ℕ, [], ◌∷◌, refl}
use Rattle.std.specs.Int.Count.{ones, ones_in}
use Rattle.base.specs.Below.{all_below, any_below, first_not}
use Rattle.index.specs.Index.{wrap, plus_of, minus_of, difference_of, length_of, behind_b, empty_b, full_b, spans_b, same_b, cell_of}
use Rattle.ring.specs.Capacity.{allowed_b, twice_of, doubled, holding_of}
use Rattle.cells.specs.Cells.{stands_b, spot, read_of, written_of}
use Rattle.parts.specs.declared.queue.Flavor.{Flavor}
use Rattle.parts.specs.declared.queue.Flavor.TheVariants.{Fifo, Lifo}
use Rattle.parts.specs.declared.answer.Answer.TheVariants as A
use Rattle.parts.specs.declared.answer.Shortage.TheVariants.{NoRing}
use Rattle.gate.specs.declared.Operation.TheVariants.{Push, Pop, Steal}
use Rattle.machine.specs.State.{After}
use Rattle.machine.specs.Sound.{sound_b}
use Rattle.machine.specs.Claim.{free_ring}
use Rattle.machine.specs.Setup.{setup_of}
use Rattle.machine.specs.Step.{gate_of, step_of}
use Rattle.machine.specs.Begin.{begin_of}
use Rattle.games.specs.Play.{sized, sized_by, setup, repeated, finish}

-- jobs 0, 1, .. pushed into queue 0
abbrev filled : ℕ → After → After
filled jobs a = repeated jobs 0 Push 0 a

-- 65 jobs, so capacity 128; and then so many popped by the owner
abbrev popped : Flavor → ℕ → After
popped f n = repeated n 0 (λ i. Pop) 0 (filled 65 (setup (f ∷ []) 2))

-- or all but one stolen by thread 1
abbrev robbed : Flavor → After
robbed f = repeated 64 1 (λ i. Steal 0) 0 (filled 65 (setup (f ∷ Fifo ∷ []) 3))

-- C11 push on 64 of 64: 71 steps, capacity 128; if no place is free, 9 at the fourth step
pub c11 : sized_by 0 (Push 900) (filled 64 (setup (Fifo ∷ []) 2)) ≡ sized A.Done 71 128
unfolding repeated finish all_below any_below first_not wrap plus_of minus_of difference_of length_of behind_b empty_b full_b spans_b same_b cell_of allowed_b twice_of doubled holding_of stands_b spot read_of written_of sound_b free_ring setup_of gate_of step_of begin_of ones ones_in
c11 = refl

pub c11_lifo : sized_by 0 (Push 900) (filled 64 (setup (Lifo ∷ []) 2)) ≡ sized A.Done 71 128
unfolding repeated finish all_below any_below first_not wrap plus_of minus_of difference_of length_of behind_b empty_b full_b spans_b same_b cell_of allowed_b twice_of doubled holding_of stands_b spot read_of written_of sound_b free_ring setup_of gate_of step_of begin_of ones ones_in
c11_lifo = refl

pub c11_no_place : sized_by 0 (Push 900) (filled 64 (setup (Fifo ∷ []) 1)) ≡ sized (A.GaveUp NoRing) 4 64
unfolding repeated finish all_below any_below first_not wrap plus_of minus_of difference_of length_of behind_b empty_b full_b spans_b same_b cell_of allowed_b twice_of doubled holding_of stands_b spot read_of written_of sound_b free_ring setup_of gate_of step_of begin_of ones ones_in
c11_no_place = refl

-- C12 capacity 128: pop on 32 shrinks, on 33 does not, in both flavours
pub c12_fifo_32 : sized_by 0 Pop (popped Fifo 33) ≡ sized (A.Job 33) 38 64
unfolding repeated finish all_below any_below first_not wrap plus_of minus_of difference_of length_of behind_b empty_b full_b spans_b same_b cell_of allowed_b twice_of doubled holding_of stands_b spot read_of written_of sound_b free_ring setup_of gate_of step_of begin_of ones ones_in
c12_fifo_32 = refl

pub c12_fifo_33 : sized_by 0 Pop (popped Fifo 32) ≡ sized (A.Job 32) 4 128
unfolding repeated finish all_below any_below first_not wrap plus_of minus_of difference_of length_of behind_b empty_b full_b spans_b same_b cell_of allowed_b twice_of doubled holding_of stands_b spot read_of written_of sound_b free_ring setup_of gate_of step_of begin_of ones ones_in
c12_fifo_33 = refl

pub c12_lifo_32 : sized_by 0 Pop (popped Lifo 33) ≡ sized (A.Job 31) 39 64
unfolding repeated finish all_below any_below first_not wrap plus_of minus_of difference_of length_of behind_b empty_b full_b spans_b same_b cell_of allowed_b twice_of doubled holding_of stands_b spot read_of written_of sound_b free_ring setup_of gate_of step_of begin_of ones ones_in
c12_lifo_32 = refl

pub c12_lifo_33 : sized_by 0 Pop (popped Lifo 32) ≡ sized (A.Job 32) 5 128
unfolding repeated finish all_below any_below first_not wrap plus_of minus_of difference_of length_of behind_b empty_b full_b spans_b same_b cell_of allowed_b twice_of doubled holding_of stands_b spot read_of written_of sound_b free_ring setup_of gate_of step_of begin_of ones ones_in
c12_lifo_33 = refl

-- on 1, FIFO shrinks and LIFO does not
pub c12_fifo_1 : sized_by 0 Pop (robbed Fifo) ≡ sized (A.Job 64) 7 64
unfolding repeated finish all_below any_below first_not wrap plus_of minus_of difference_of length_of behind_b empty_b full_b spans_b same_b cell_of allowed_b twice_of doubled holding_of stands_b spot read_of written_of sound_b free_ring setup_of gate_of step_of begin_of ones ones_in
c12_fifo_1 = refl

pub c12_lifo_1 : sized_by 0 Pop (robbed Lifo) ≡ sized (A.Job 64) 7 128
unfolding repeated finish all_below any_below first_not wrap plus_of minus_of difference_of length_of behind_b empty_b full_b spans_b same_b cell_of allowed_b twice_of doubled holding_of stands_b spot read_of written_of sound_b free_ring setup_of gate_of step_of begin_of ones ones_in
c12_lifo_1 = refl
