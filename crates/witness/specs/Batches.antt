-- Batches step by step: the whole pool, the source's front and the own back after each step, for 01's games C3 to C8 and the two other pairs of
-- flavours; and batches of few jobs and small limits, run alone.
use Rattle.std.specs.Prelude.{◌≡◌, ℕ, zero, suc, ◌-◌, List, [], ◌∷◌, ◌++◌, length, drop, replicate, ℤ, pos, refl}
use Rattle.std.specs.Int.Count.{ones, ones_in}
use Rattle.base.specs.Below.{all_below, any_below, first_not}
use Rattle.index.specs.Index.{wrap, plus_of, minus_of, difference_of, length_of, behind_b, empty_b, full_b, spans_b, same_b, cell_of}
use Rattle.ring.specs.Capacity.{allowed_b, twice_of, doubled, holding_of}
use Rattle.cells.specs.Cells.{stands_b, spot, read_of, written_of}
use Rattle.steal.specs.declared.Steal.TheVariants as T
use Rattle.parts.specs.declared.queue.Flavor.{Flavor}
use Rattle.parts.specs.declared.queue.Flavor.TheVariants.{Fifo, Lifo}
use Rattle.parts.specs.declared.answer.Answer.{Answer}
use Rattle.parts.specs.declared.answer.Answer.TheVariants as A
use Rattle.gate.specs.declared.Operation.{Operation}
use Rattle.gate.specs.declared.Operation.TheVariants.{Push, Steal, Batch, BatchAndPop}
use Rattle.machine.specs.State.{After, queue_at}
use Rattle.machine.specs.Sound.{sound_b}
use Rattle.machine.specs.Claim.{free_ring}
use Rattle.machine.specs.Setup.{setup_of}
use Rattle.machine.specs.Step.{gate_of, step_of}
use Rattle.machine.specs.Begin.{begin_of}
use Rattle.games.specs.Play.{Did, does, Game, begin, step, setup, repeated, all_played, playing, finish, cells_from, contents_up_to}

-- ---- after a step: the pool, the front of the source, queue 0, and the back of the own queue, queue 1

pub record Frame : Type 0 where
  pub cells : List ℕ
  pub front : ℤ
  pub back : ℤ

abbrev look : After → Frame
look a = record {
  cells = a.cells;
  front = (queue_at a.called.machine 0).front.0;
  back = (queue_at a.called.machine 1).back.0;
}

-- a pool of two places: the source's jobs in the one, these in the own queue's, and zeros
abbrev frame : List ℕ → List ℕ → ℕ → ℕ → Frame
frame jobs own f b = record {
  cells = (jobs ++ replicate (256 - length jobs) 0) ++ (own ++ replicate (256 - length own) 0);
  front = pos f;
  back = pos b;
}

-- thread t's next n steps
unfoldable pub film : ℕ → ℕ → After → List Frame
film zero t a = []
film (suc n) t a = let b : After = step t a in look b ∷ film n t b

-- jobs 1, 2, .. in queue 0, and thread 1 begins
abbrev begun : List Flavor → ℕ → Operation → After
begun flavors jobs o = begin 1 o (repeated jobs 0 Push 1 (setup flavors 2))

abbrev shot : List ℕ → ℕ → ℕ → Frame
shot own f b = frame (1 ∷ 2 ∷ 3 ∷ 4 ∷ 5 ∷ []) own f b

-- so many steps that write nothing: the loads of source and own queue, and the reads before the first write
abbrev loads : ℕ → List Frame
loads n = replicate n (shot [] 0 0)

-- ---- FIFO source 1..5, limit 10: read source cell, write own cell; load ring; compare-exchange; store own back

abbrev pub c3 : List Frame
c3 =
    loads 7 ++
    shot (1 ∷ []) 0 0 ∷
    shot (1 ∷ []) 0 0 ∷
    shot (1 ∷ 2 ∷ []) 0 0 ∷
    shot (1 ∷ 2 ∷ []) 0 0 ∷
    shot (1 ∷ 2 ∷ 3 ∷ []) 0 0 ∷
    shot (1 ∷ 2 ∷ 3 ∷ []) 0 0 ∷
    shot (1 ∷ 2 ∷ 3 ∷ []) 3 0 ∷
    shot (1 ∷ 2 ∷ 3 ∷ []) 3 3 ∷
    []

-- into LIFO: last first
abbrev pub c4 : List Frame
c4 =
    loads 7 ++
    shot (0 ∷ 0 ∷ 1 ∷ []) 0 0 ∷
    shot (0 ∷ 0 ∷ 1 ∷ []) 0 0 ∷
    shot (0 ∷ 2 ∷ 1 ∷ []) 0 0 ∷
    shot (0 ∷ 2 ∷ 1 ∷ []) 0 0 ∷
    shot (3 ∷ 2 ∷ 1 ∷ []) 0 0 ∷
    shot (3 ∷ 2 ∷ 1 ∷ []) 0 0 ∷
    shot (3 ∷ 2 ∷ 1 ∷ []) 3 0 ∷
    shot (3 ∷ 2 ∷ 1 ∷ []) 3 3 ∷
    []

-- batch and pop: read cell f, then as batch from f + 1
abbrev pub c7 : List Frame
c7 =
    loads 8 ++
    shot (2 ∷ []) 0 0 ∷
    shot (2 ∷ []) 0 0 ∷
    shot (2 ∷ 3 ∷ []) 0 0 ∷
    shot (2 ∷ 3 ∷ []) 0 0 ∷
    shot (2 ∷ 3 ∷ []) 3 0 ∷
    shot (2 ∷ 3 ∷ []) 3 2 ∷
    []

abbrev pub c7_lifo : List Frame
c7_lifo =
    loads 8 ++
    shot (0 ∷ 2 ∷ []) 0 0 ∷
    shot (0 ∷ 2 ∷ []) 0 0 ∷
    shot (3 ∷ 2 ∷ []) 0 0 ∷
    shot (3 ∷ 2 ∷ []) 0 0 ∷
    shot (3 ∷ 2 ∷ []) 3 0 ∷
    shot (3 ∷ 2 ∷ []) 3 2 ∷
    []

pub from_fifo :
    film 15 1 (begun (Fifo ∷ Fifo ∷ []) 5 (Batch 0 10)) ∷
    film 15 1 (begun (Fifo ∷ Lifo ∷ []) 5 (Batch 0 10)) ∷
    film 14 1 (begun (Fifo ∷ Fifo ∷ []) 5 (BatchAndPop 0 10)) ∷
    film 14 1 (begun (Fifo ∷ Lifo ∷ []) 5 (BatchAndPop 0 10)) ∷
    [] ≡
    c3 ∷ c4 ∷ c7 ∷ c7_lifo ∷ []
unfolding film repeated finish all_below any_below first_not wrap plus_of minus_of difference_of length_of behind_b empty_b full_b spans_b same_b cell_of allowed_b twice_of doubled holding_of stands_b spot read_of written_of sound_b free_ring setup_of gate_of step_of begin_of ones ones_in
from_fifo = refl

-- ---- LIFO source 1..5, limit 10: read cell f; load ring; compare-exchange f to f + 1; write own cell; from the second on, load back first

abbrev one_by_one : List Frame
one_by_one =
    loads 8 ++
    shot [] 1 0 ∷
    shot (1 ∷ []) 1 0 ∷
    shot (1 ∷ []) 1 0 ∷
    shot (1 ∷ []) 1 0 ∷
    shot (1 ∷ []) 1 0 ∷
    shot (1 ∷ []) 2 0 ∷
    shot (1 ∷ 2 ∷ []) 2 0 ∷
    shot (1 ∷ 2 ∷ []) 2 0 ∷
    shot (1 ∷ 2 ∷ []) 2 0 ∷
    shot (1 ∷ 2 ∷ []) 2 0 ∷
    shot (1 ∷ 2 ∷ []) 3 0 ∷
    shot (1 ∷ 2 ∷ 3 ∷ []) 3 0 ∷
    []

abbrev pub c5 : List Frame
c5 = one_by_one ++ shot (1 ∷ 2 ∷ 3 ∷ []) 3 3 ∷ []

-- into FIFO: a swap is two reads, then two writes, the cell nearer the front first
abbrev pub c6 : List Frame
c6 =
    one_by_one ++
    shot (1 ∷ 2 ∷ 3 ∷ []) 3 0 ∷
    shot (1 ∷ 2 ∷ 3 ∷ []) 3 0 ∷
    shot (3 ∷ 2 ∷ 3 ∷ []) 3 0 ∷
    shot (3 ∷ 2 ∷ 1 ∷ []) 3 0 ∷
    shot (3 ∷ 2 ∷ 1 ∷ []) 3 3 ∷
    []

-- batch and pop: compare-exchange at once, with no second ring load; then write the PREVIOUS job
abbrev previous : List Frame
previous =
    loads 7 ++
    shot [] 1 0 ∷
    shot [] 1 0 ∷
    shot [] 1 0 ∷
    shot [] 1 0 ∷
    shot [] 2 0 ∷
    shot (1 ∷ []) 2 0 ∷
    shot (1 ∷ []) 2 0 ∷
    shot (1 ∷ []) 2 0 ∷
    shot (1 ∷ []) 2 0 ∷
    shot (1 ∷ []) 3 0 ∷
    shot (1 ∷ 2 ∷ []) 3 0 ∷
    []

abbrev pub c8 : List Frame
c8 = previous ++ shot (1 ∷ 2 ∷ []) 3 2 ∷ []

abbrev pub c8_fifo : List Frame
c8_fifo =
    previous ++
    shot (1 ∷ 2 ∷ []) 3 0 ∷
    shot (1 ∷ 2 ∷ []) 3 0 ∷
    shot (2 ∷ 2 ∷ []) 3 0 ∷
    shot (2 ∷ 1 ∷ []) 3 0 ∷
    shot (2 ∷ 1 ∷ []) 3 2 ∷
    []

-- of 1..7 a batch takes four: when they are written, two swaps from the outside in
abbrev shot7 : List ℕ → ℕ → Frame
shot7 own b = frame (1 ∷ 2 ∷ 3 ∷ 4 ∷ 5 ∷ 6 ∷ 7 ∷ []) own 4 b

abbrev pub two_swaps : List Frame
two_swaps =
    shot7 (1 ∷ 2 ∷ 3 ∷ 4 ∷ []) 0 ∷
    shot7 (1 ∷ 2 ∷ 3 ∷ 4 ∷ []) 0 ∷
    shot7 (4 ∷ 2 ∷ 3 ∷ 4 ∷ []) 0 ∷
    shot7 (4 ∷ 2 ∷ 3 ∷ 1 ∷ []) 0 ∷
    shot7 (4 ∷ 2 ∷ 3 ∷ 1 ∷ []) 0 ∷
    shot7 (4 ∷ 2 ∷ 3 ∷ 1 ∷ []) 0 ∷
    shot7 (4 ∷ 3 ∷ 3 ∷ 1 ∷ []) 0 ∷
    shot7 (4 ∷ 3 ∷ 2 ∷ 1 ∷ []) 0 ∷
    shot7 (4 ∷ 3 ∷ 2 ∷ 1 ∷ []) 4 ∷
    []

pub from_lifo :
    film 21 1 (begun (Lifo ∷ Lifo ∷ []) 5 (Batch 0 10)) ∷
    film 25 1 (begun (Lifo ∷ Fifo ∷ []) 5 (Batch 0 10)) ∷
    film 19 1 (begun (Lifo ∷ Lifo ∷ []) 5 (BatchAndPop 0 10)) ∷
    film 23 1 (begun (Lifo ∷ Fifo ∷ []) 5 (BatchAndPop 0 10)) ∷
    drop 25 (film 34 1 (begun (Lifo ∷ Fifo ∷ []) 7 (Batch 0 10))) ∷
    [] ≡
    c5 ∷ c6 ∷ c8 ∷ c8_fifo ∷ two_swaps ∷ []
unfolding film repeated finish all_below any_below first_not wrap plus_of minus_of difference_of length_of behind_b empty_b full_b spans_b same_b cell_of allowed_b twice_of doubled holding_of stands_b spot read_of written_of sound_b free_ring setup_of gate_of step_of begin_of ones ones_in
from_lifo = refl

-- ---- few jobs and small limits, run alone: what thread 1 answers, in how many steps, and what the queues then hold

abbrev pushed : ℕ → Did
pushed job = does 0 (Push job) A.Done 4

abbrev two : List Did
two = pushed 1 ∷ pushed 2 ∷ []

abbrev three : List Did
three = pushed 1 ∷ pushed 2 ∷ pushed 3 ∷ []

abbrev game : Flavor → Flavor → List Did → Operation → Answer → ℕ → List ℕ → List ℕ → Game
game f own jobs o a n left right = record {
  flavors = f ∷ own ∷ [];
  operations = jobs ++ does 1 o a n ∷ [];
  contents = left ∷ right ∷ [];
}

abbrev took : ℕ → Answer
took job = A.Stolen (T.Success job)

abbrev pub games : List Game
games =
    -- two jobs, batch and pop: n = min((2 - 1) / 2, limit - 1) = 0, so the first is answered and none moved
    game Fifo Fifo two (BatchAndPop 0 10) (took 1) 8 (2 ∷ []) [] ∷
    game Fifo Lifo two (BatchAndPop 0 10) (took 1) 8 (2 ∷ []) [] ∷
    game Lifo Fifo two (BatchAndPop 0 10) (took 1) 7 (2 ∷ []) [] ∷
    game Lifo Lifo two (BatchAndPop 0 10) (took 1) 7 (2 ∷ []) [] ∷
    -- three jobs: n = 1; from a LIFO source the last taken is answered
    game Fifo Fifo three (BatchAndPop 0 10) (took 1) 12 (3 ∷ []) (2 ∷ []) ∷
    game Fifo Lifo three (BatchAndPop 0 10) (took 1) 12 (3 ∷ []) (2 ∷ []) ∷
    game Lifo Fifo three (BatchAndPop 0 10) (took 2) 14 (3 ∷ []) (1 ∷ []) ∷
    game Lifo Lifo three (BatchAndPop 0 10) (took 2) 14 (3 ∷ []) (1 ∷ []) ∷
    -- three jobs, batch: n = 2, and by a limit of 1 it is 1; batch and pop by a limit of 1 moves none
    game Fifo Fifo three (Batch 0 2) A.Moved 13 (3 ∷ []) (1 ∷ 2 ∷ []) ∷
    game Fifo Fifo three (Batch 0 1) A.Moved 11 (2 ∷ 3 ∷ []) (1 ∷ []) ∷
    game Lifo Fifo three (Batch 0 1) A.Moved 11 (2 ∷ 3 ∷ []) (1 ∷ []) ∷
    game Fifo Fifo three (BatchAndPop 0 1) (took 1) 8 (2 ∷ 3 ∷ []) [] ∷
    game Lifo Fifo three (BatchAndPop 0 1) (took 1) 7 (2 ∷ 3 ∷ []) [] ∷
    -- difference 0: Empty, at the second step
    game Fifo Fifo [] (Steal 0) (A.Stolen T.Empty) 2 [] [] ∷
    game Lifo Fifo [] (Batch 0 10) (A.Stolen T.Empty) 2 [] [] ∷
    game Fifo Lifo [] (BatchAndPop 0 10) (A.Stolen T.Empty) 2 [] [] ∷
    []

pub all_games : all_played games ≡ games
unfolding all_played playing finish cells_from contents_up_to all_below any_below first_not wrap plus_of minus_of difference_of length_of behind_b empty_b full_b spans_b same_b cell_of allowed_b twice_of doubled holding_of stands_b spot read_of written_of sound_b free_ring setup_of gate_of step_of begin_of ones ones_in
all_games = refl
