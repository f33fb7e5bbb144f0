-- Games C1 to C10 of 01, and its step counts, operations run alone on fresh queues. A row: the flavours; each operation with its thread, its
-- answer and its steps; what the queues then hold, front to back.
use Rattle.std.specs.Prelude.{◌≡◌, ℕ, List, [], ◌∷◌, ◌++◌, pos, refl}
use Rattle.parts.specs.declared.queue.Flavor.{Flavor}
use Rattle.parts.specs.declared.queue.Flavor.TheVariants.{Fifo, Lifo}
use Rattle.parts.specs.declared.answer.Answer.TheVariants as A
use Rattle.steal.specs.declared.Steal.TheVariants as T
use Rattle.gate.specs.declared.Operation.TheVariants.{Push, Pop, Length, Steal, Batch, BatchAndPop}
use Rattle.games.specs.Play.{Did, does, Game, all_played, playing, finish, cells_from, contents_up_to}
use Rattle.base.specs.Below.{all_below, any_below, first_not}
use Rattle.index.specs.Index.{wrap, plus_of, minus_of, difference_of, length_of, behind_b, empty_b, full_b, spans_b, same_b, cell_of}
use Rattle.ring.specs.Capacity.{allowed_b, twice_of, doubled, holding_of}
use Rattle.cells.specs.Cells.{stands_b, spot, read_of, written_of}
use Rattle.machine.specs.Sound.{sound_b}
use Rattle.machine.specs.Claim.{free_ring}
use Rattle.machine.specs.Setup.{setup_of}
use Rattle.machine.specs.Step.{gate_of, step_of}
use Rattle.machine.specs.Begin.{begin_of}
use Rattle.std.specs.Int.Count.{ones, ones_in}

abbrev pushed : ℕ → Did
pushed job = does 0 (Push job) A.Done 4

abbrev five_jobs : List Did
five_jobs = pushed 1 ∷ pushed 2 ∷ pushed 3 ∷ pushed 4 ∷ pushed 5 ∷ []

abbrev game : List Flavor → List Did → List (List ℕ) → Game
game f d c = record { flavors = f; operations = d; contents = c }

-- thread 1 moves jobs from queue 0, limit 10
abbrev moved : ℕ → Did
moved n = does 1 (Batch 0 10) A.Moved n

abbrev took : ℕ → ℕ → Did
took job n = does 1 (BatchAndPop 0 10) (A.Stolen (T.Success job)) n

abbrev popped : ℕ → ℕ → ℕ → Did
popped t job n = does t Pop (A.Job job) n

abbrev pub games : List Game
games =
    -- C1 pop of an empty queue: nothing, 2 steps. C2 push: 4 steps
    game (Fifo ∷ Lifo ∷ []) (does 0 Pop A.Nothing 2 ∷ does 1 Pop A.Nothing 2 ∷ []) ([] ∷ [] ∷ []) ∷
    game (Fifo ∷ Lifo ∷ []) (pushed 9 ∷ does 1 (Push 9) A.Done 4 ∷ []) ((9 ∷ []) ∷ (9 ∷ []) ∷ []) ∷
    -- FIFO source 1..5, limit 10. C3 batch into FIFO: own 1,2,3, source 4,5, 15 steps
    game (Fifo ∷ Fifo ∷ []) (five_jobs ++ moved 15 ∷ []) ((4 ∷ 5 ∷ []) ∷ (1 ∷ 2 ∷ 3 ∷ []) ∷ []) ∷
    -- C4 into LIFO: own 3,2,1 front to back; pop answers 1
    game (Fifo ∷ Lifo ∷ []) (five_jobs ++ moved 15 ∷ []) ((4 ∷ 5 ∷ []) ∷ (3 ∷ 2 ∷ 1 ∷ []) ∷ []) ∷
    game (Fifo ∷ Lifo ∷ []) (five_jobs ++ moved 15 ∷ popped 1 1 5 ∷ []) ((4 ∷ 5 ∷ []) ∷ (3 ∷ 2 ∷ []) ∷ []) ∷
    -- LIFO source 1..5, limit 10. C5 into LIFO: 1,2,3; pop answers 3
    game (Lifo ∷ Lifo ∷ []) (five_jobs ++ moved 21 ∷ []) ((4 ∷ 5 ∷ []) ∷ (1 ∷ 2 ∷ 3 ∷ []) ∷ []) ∷
    game (Lifo ∷ Lifo ∷ []) (five_jobs ++ moved 21 ∷ popped 1 3 5 ∷ []) ((4 ∷ 5 ∷ []) ∷ (1 ∷ 2 ∷ []) ∷ []) ∷
    -- C6 into FIFO: 3,2,1, 25 steps
    game (Lifo ∷ Fifo ∷ []) (five_jobs ++ moved 25 ∷ []) ((4 ∷ 5 ∷ []) ∷ (3 ∷ 2 ∷ 1 ∷ []) ∷ []) ∷
    -- Batch and pop, limit 10, from 1..5. C7 FIFO to FIFO: answer 1, own 2,3. C8 LIFO to LIFO: answer 3, own 1,2
    game (Fifo ∷ Fifo ∷ []) (five_jobs ++ took 1 14 ∷ []) ((4 ∷ 5 ∷ []) ∷ (2 ∷ 3 ∷ []) ∷ []) ∷
    game (Lifo ∷ Lifo ∷ []) (five_jobs ++ took 3 19 ∷ []) ((4 ∷ 5 ∷ []) ∷ (1 ∷ 2 ∷ []) ∷ []) ∷
    -- the other two pairs: FIFO to LIFO own 3,2; LIFO to FIFO own 2,1
    game (Fifo ∷ Lifo ∷ []) (five_jobs ++ took 1 14 ∷ []) ((4 ∷ 5 ∷ []) ∷ (3 ∷ 2 ∷ []) ∷ []) ∷
    game (Lifo ∷ Fifo ∷ []) (five_jobs ++ took 3 23 ∷ []) ((4 ∷ 5 ∷ []) ∷ (2 ∷ 1 ∷ []) ∷ []) ∷
    -- C9 one job: batch takes 1; batch and pop answers it and moves 0
    game (Fifo ∷ Fifo ∷ []) (pushed 8 ∷ moved 11 ∷ []) ([] ∷ (8 ∷ []) ∷ []) ∷
    game (Lifo ∷ Fifo ∷ []) (pushed 8 ∷ moved 11 ∷ []) ([] ∷ (8 ∷ []) ∷ []) ∷
    game (Fifo ∷ Fifo ∷ []) (pushed 8 ∷ took 8 8 ∷ []) ([] ∷ [] ∷ []) ∷
    game (Lifo ∷ Fifo ∷ []) (pushed 8 ∷ took 8 7 ∷ []) ([] ∷ [] ∷ []) ∷
    -- C10 two jobs: batch takes 1
    game (Fifo ∷ Lifo ∷ []) (pushed 6 ∷ pushed 7 ∷ moved 11 ∷ []) ((7 ∷ []) ∷ (6 ∷ []) ∷ []) ∷
    game (Lifo ∷ Lifo ∷ []) (pushed 6 ∷ pushed 7 ∷ moved 11 ∷ []) ((7 ∷ []) ∷ (6 ∷ []) ∷ []) ∷
    -- steal 6 steps; FIFO pop of a job 4; LIFO pop 5, of the last job 7; a batch from the own queue 2
    game (Fifo ∷ Fifo ∷ []) (five_jobs ++ does 1 (Steal 0) (A.Stolen (T.Success 1)) 6 ∷ popped 0 2 4 ∷ []) ((3 ∷ 4 ∷ 5 ∷ []) ∷ [] ∷ []) ∷
    game (Lifo ∷ Fifo ∷ []) (pushed 1 ∷ pushed 2 ∷ popped 0 2 5 ∷ popped 0 1 7 ∷ []) ([] ∷ [] ∷ []) ∷
    game (Lifo ∷ Fifo ∷ [])
    (pushed 1 ∷ does 0 (Batch 0 1) A.Moved 2 ∷ does 1 (Batch 1 1) (A.Stolen T.Empty) 2 ∷ does 1 (BatchAndPop 1 1) (A.Stolen T.Empty) 2 ∷ does 0 (BatchAndPop 0 1) (A.Stolen (T.Success 1)) 7 ∷ [])
    ([] ∷ [] ∷ []) ∷
    -- a length: the signed difference and the length
    game (Fifo ∷ Fifo ∷ []) (five_jobs ++ does 1 (Length 0) (A.Length (pos 5) 5) 2 ∷ []) ((1 ∷ 2 ∷ 3 ∷ 4 ∷ 5 ∷ []) ∷ [] ∷ []) ∷
    []

-- played on the definitions, every game comes out as its row says
pub all_games : all_played games ≡ games
unfolding all_played playing finish cells_from contents_up_to all_below any_below first_not wrap plus_of minus_of difference_of length_of behind_b empty_b full_b spans_b same_b cell_of allowed_b twice_of doubled holding_of stands_b spot read_of written_of sound_b free_ring setup_of gate_of step_of begin_of ones ones_in
all_games = refl
