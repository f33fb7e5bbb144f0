-- What is claimed of 01's games, by their names: C1 to C10 in their own words, operations run alone on fresh queues, and C11 to C13. An operation is its
-- thread, its answer and its steps; what the queues then hold stands front to back.
use Rattle.std.proofs.Common.{◌≡◌, ℕ, List, [], ◌∷◌, pos, negsuc, refl}
use lib.Count.{ones, ones_in}
use Rattle.base.specs.Below.{all_below, any_below, first_not}
use Rattle.index.specs.Index.{wrap, plus_of, minus_of, difference_of, length_of, behind_b, empty_b, full_b, spans_b, same_b, cell_of}
use Rattle.ring.specs.Capacity.{allowed_b, twice_of, doubled, holding_of}
use Rattle.cells.specs.Cells.{stands_b, spot, read_of, written_of}
use Rattle.steal.specs.declared.Steal.TheVariants.{Success}
use Rattle.parts.specs.declared.queue.Flavor.{Flavor}
use Rattle.parts.specs.declared.queue.Flavor.TheVariants.{Fifo, Lifo}
use Rattle.parts.specs.declared.answer.Answer.TheVariants as A
use Rattle.parts.specs.declared.answer.Shortage.TheVariants.{NoRing}
use Rattle.gate.specs.declared.Operation.TheVariants.{Push, Pop, Length, Steal, Batch, BatchAndPop}
use Rattle.machine.specs.Sound.{sound_b}
use Rattle.machine.specs.Claim.{free_ring}
use Rattle.machine.specs.Setup.{setup_of}
use Rattle.machine.specs.Step.{gate_of, step_of}
use Rattle.machine.specs.Begin.{begin_of}
use Rattle.machine.specs.State.{After}
use Rattle.games.specs.Play.{Did, does, Game, played, playing, finish, cells_from, contents_up_to, begin, steps, alone, setup, repeated, sized, sized_by}
use Rattle.games.specs.Sizes as Z
use Rattle.games.specs.Race as R

abbrev Plays : List Flavor → List Did → List (List ℕ) → Type 0
Plays flavors operations contents =
    let g : Game = record { flavors = flavors; operations = operations; contents = contents } in played g ≡ g

abbrev pushed : ℕ → Did
pushed job = does 0 (Push job) A.Done 4

-- 1..5 stand in queue 0, and then thread 1 does this
abbrev then : List Did → List Did
then d = pushed 1 ∷ pushed 2 ∷ pushed 3 ∷ pushed 4 ∷ pushed 5 ∷ d

abbrev moved : ℕ → Did
moved n = does 1 (Batch 0 10) A.Moved n

abbrev took : ℕ → ℕ → Did
took job n = does 1 (BatchAndPop 0 10) (A.Stolen (Success job)) n

-- C1 pop of an empty queue: nothing, 2 steps. C2 push: 4 steps
pub c1_c2 : Plays (Fifo ∷ Lifo ∷ []) (does 0 Pop A.Nothing 2 ∷ does 1 Pop A.Nothing 2 ∷ pushed 9 ∷ does 1 (Push 9) A.Done 4 ∷ []) ((9 ∷ []) ∷ (9 ∷ []) ∷ [])
unfolding playing finish cells_from contents_up_to all_below any_below first_not wrap plus_of minus_of difference_of length_of behind_b empty_b full_b spans_b same_b cell_of allowed_b twice_of doubled holding_of stands_b spot read_of written_of sound_b free_ring setup_of gate_of step_of begin_of ones ones_in
c1_c2 = refl

-- C3 batch into FIFO: own 1,2,3, source 4,5, 15 steps. C4 into LIFO: own 3,2,1 front to back; pop answers 1
pub c3_c4 : Plays (Fifo ∷ Fifo ∷ []) (then (moved 15 ∷ [])) ((4 ∷ 5 ∷ []) ∷ (1 ∷ 2 ∷ 3 ∷ []) ∷ [])
    × Plays (Fifo ∷ Lifo ∷ []) (then (moved 15 ∷ [])) ((4 ∷ 5 ∷ []) ∷ (3 ∷ 2 ∷ 1 ∷ []) ∷ [])
    × Plays (Fifo ∷ Lifo ∷ []) (then (moved 15 ∷ does 1 Pop (A.Job 1) 5 ∷ [])) ((4 ∷ 5 ∷ []) ∷ (3 ∷ 2 ∷ []) ∷ [])
unfolding playing finish cells_from contents_up_to all_below any_below first_not wrap plus_of minus_of difference_of length_of behind_b empty_b full_b spans_b same_b cell_of allowed_b twice_of doubled holding_of stands_b spot read_of written_of sound_b free_ring setup_of gate_of step_of begin_of ones ones_in
c3_c4 = (refl, refl, refl)

-- C5 into LIFO: 1,2,3; pop answers 3. C6 into FIFO: 3,2,1, 25 steps
pub c5_c6 : Plays (Lifo ∷ Lifo ∷ []) (then (moved 21 ∷ [])) ((4 ∷ 5 ∷ []) ∷ (1 ∷ 2 ∷ 3 ∷ []) ∷ [])
    × Plays (Lifo ∷ Lifo ∷ []) (then (moved 21 ∷ does 1 Pop (A.Job 3) 5 ∷ [])) ((4 ∷ 5 ∷ []) ∷ (1 ∷ 2 ∷ []) ∷ [])
    × Plays (Lifo ∷ Fifo ∷ []) (then (moved 25 ∷ [])) ((4 ∷ 5 ∷ []) ∷ (3 ∷ 2 ∷ 1 ∷ []) ∷ [])
unfolding playing finish cells_from contents_up_to all_below any_below first_not wrap plus_of minus_of difference_of length_of behind_b empty_b full_b spans_b same_b cell_of allowed_b twice_of doubled holding_of stands_b spot read_of written_of sound_b free_ring setup_of gate_of step_of begin_of ones ones_in
c5_c6 = (refl, refl, refl)

-- C7 FIFO to FIFO: answer 1, own 2,3. C8 LIFO to LIFO: answer 3, own 1,2
pub c7_c8 : Plays (Fifo ∷ Fifo ∷ []) (then (took 1 14 ∷ [])) ((4 ∷ 5 ∷ []) ∷ (2 ∷ 3 ∷ []) ∷ [])
    × Plays (Lifo ∷ Lifo ∷ []) (then (took 3 19 ∷ [])) ((4 ∷ 5 ∷ []) ∷ (1 ∷ 2 ∷ []) ∷ [])
unfolding playing finish cells_from contents_up_to all_below any_below first_not wrap plus_of minus_of difference_of length_of behind_b empty_b full_b spans_b same_b cell_of allowed_b twice_of doubled holding_of stands_b spot read_of written_of sound_b free_ring setup_of gate_of step_of begin_of ones ones_in
c7_c8 = (refl, refl)

-- C9 one job: batch takes 1; batch and pop answers it and moves 0. C10 two jobs: batch takes 1
pub c9_c10 : Plays (Fifo ∷ Fifo ∷ []) (pushed 8 ∷ moved 11 ∷ []) ([] ∷ (8 ∷ []) ∷ [])
    × Plays (Fifo ∷ Fifo ∷ []) (pushed 8 ∷ took 8 8 ∷ []) ([] ∷ [] ∷ [])
    × Plays (Lifo ∷ Lifo ∷ []) (pushed 6 ∷ pushed 7 ∷ moved 11 ∷ []) ((7 ∷ []) ∷ (6 ∷ []) ∷ [])
unfolding playing finish cells_from contents_up_to all_below any_below first_not wrap plus_of minus_of difference_of length_of behind_b empty_b full_b spans_b same_b cell_of allowed_b twice_of doubled holding_of stands_b spot read_of written_of sound_b free_ring setup_of gate_of step_of begin_of ones ones_in
c9_c10 = (refl, refl, refl)

-- jobs 0, 1, .. stand in queue 0
abbrev filled : ℕ → After → After
filled n a = repeated n 0 Push 0 a

-- C11 push on 64 of 64: 71 steps, capacity 128; if no place is free, 9 at the fourth step
pub c11 : (sized_by 0 (Push 900) (filled 64 (setup (Fifo ∷ []) 2)) ≡ sized A.Done 71 128)
    × (sized_by 0 (Push 900) (filled 64 (setup (Fifo ∷ []) 1)) ≡ sized (A.GaveUp NoRing) 4 64)
c11 = (Z.c11, Z.c11_no_place)

-- so many popped of 65; and all but one of 65 stolen
abbrev popped : Flavor → ℕ → After
popped f n = repeated n 0 (λ i. Pop) 0 (filled 65 (setup (f ∷ []) 2))

abbrev robbed : Flavor → After
robbed f = repeated 64 1 (λ i. Steal 0) 0 (filled 65 (setup (f ∷ Fifo ∷ []) 3))

-- C12 capacity 128: pop on 32 shrinks, on 33 does not, in both flavours. On 1, FIFO shrinks and LIFO does not
pub c12 : (sized_by 0 Pop (popped Fifo 33) ≡ sized (A.Job 33) 38 64) × (sized_by 0 Pop (popped Fifo 32) ≡ sized (A.Job 32) 4 128)
    × (sized_by 0 Pop (popped Lifo 33) ≡ sized (A.Job 31) 39 64) × (sized_by 0 Pop (popped Lifo 32) ≡ sized (A.Job 32) 5 128)
    × (sized_by 0 Pop (robbed Fifo) ≡ sized (A.Job 64) 7 64) × (sized_by 0 Pop (robbed Lifo) ≡ sized (A.Job 64) 7 128)
c12 = (Z.c12_fifo_32, Z.c12_fifo_33, Z.c12_lifo_32, Z.c12_lifo_33, Z.c12_fifo_1, Z.c12_lifo_1)

-- C13 FIFO holds job 7. Owner does two steps of pop; a thief steals 7; the owner's third step leaves front 2, back 1, difference -1, length 0; its
-- fourth stores 1 and answers nothing
abbrev two : After
two = steps 0 2 (begin 0 Pop (alone 0 (Push 7) (setup (Fifo ∷ Fifo ∷ []) 2)).left)

abbrev third : After
third = steps 0 1 (alone 1 (Steal 0) two).left

pub c13 :
    R.look two ∷ R.look (alone 1 (Steal 0) two).left ∷ R.look third ∷ R.look (alone 1 (Length 0) third).left ∷ R.look (steps 0 1 third) ∷ [] ≡
    R.seen A.Working (pos 0) (pos 1) ∷
    R.seen (A.Stolen (Success 7)) (pos 1) (pos 1) ∷
    R.seen A.Working (pos 2) (pos 1) ∷
    R.seen (A.Length (negsuc 0) 0) (pos 2) (pos 1) ∷
    R.seen A.Nothing (pos 1) (pos 1) ∷
    []
c13 = R.c13
