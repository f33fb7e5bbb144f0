-- Game C13 of 01: FIFO holds job 7. Owner does two steps of pop; a thief steals 7; the owner's third step leaves front 2, back 1, difference
-- -1, length 0; its fourth stores 1 and answers nothing.
use Rattle.std.specs.Prelude.{◌≡◌, [], ◌∷◌, ℤ, pos, negsuc, refl}
use Rattle.std.specs.Int.Count.{ones, ones_in}
use Rattle.base.specs.Below.{all_below, any_below, first_not}
use Rattle.index.specs.Index.{wrap, plus_of, difference_of, length_of, behind_b, empty_b, full_b, spans_b, same_b, cell_of}
use Rattle.ring.specs.Capacity.{allowed_b}
use Rattle.cells.specs.Cells.{stands_b, spot, read_of, written_of}
use Rattle.steal.specs.declared.Steal.TheVariants.{Success}
use Rattle.parts.specs.declared.queue.Flavor.TheVariants.{Fifo}
use Rattle.parts.specs.declared.answer.Answer.{Answer}
use Rattle.parts.specs.declared.answer.Answer.TheVariants as A
use Rattle.gate.specs.declared.Operation.TheVariants.{Push, Pop, Length, Steal}
use Rattle.machine.specs.State.{After, queue_at}
use Rattle.machine.specs.Sound.{sound_b}
use Rattle.machine.specs.Claim.{free_ring}
use Rattle.machine.specs.Setup.{setup_of}
use Rattle.machine.specs.Step.{gate_of, step_of}
use Rattle.machine.specs.Begin.{begin_of}
use Rattle.games.specs.Play.{setup, begin, steps, alone, answer_of, finish}

pub record Seen : Type 0 where
  pub answer : Answer
  pub front : ℤ
  pub back : ℤ

abbrev pub seen : Answer → ℤ → ℤ → Seen
seen a f b = record { answer = a; front = f; back = b }

abbrev pub look : After → Seen
look a = seen (answer_of a) (queue_at a.called.machine 0).front.0 (queue_at a.called.machine 0).back.0

-- the owner's two steps; the thief's steal; the owner's third and fourth step
abbrev two : After
two = steps 0 2 (begin 0 Pop (alone 0 (Push 7) (setup (Fifo ∷ Fifo ∷ []) 2)).left)

abbrev stolen : After
stolen = (alone 1 (Steal 0) two).left

abbrev third : After
third = steps 0 1 stolen

pub c13 :
    look two ∷ look stolen ∷ look third ∷ look (alone 1 (Length 0) third).left ∷ look (steps 0 1 third) ∷ [] ≡
    seen A.Working (pos 0) (pos 1) ∷
    seen (A.Stolen (Success 7)) (pos 1) (pos 1) ∷
    seen A.Working (pos 2) (pos 1) ∷
    seen (A.Length (negsuc 0) 0) (pos 2) (pos 1) ∷
    seen A.Nothing (pos 1) (pos 1) ∷
    []
unfolding steps finish all_below any_below first_not wrap plus_of difference_of length_of behind_b empty_b full_b spans_b same_b cell_of allowed_b stands_b spot read_of written_of sound_b free_ring setup_of gate_of step_of begin_of ones ones_in
c13 = refl
