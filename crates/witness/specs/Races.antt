-- A pop and a thief at one queue, step by step: who gets the last job, and which difference a shrink goes by. Cell i holds job i.
use Rattle.std.specs.Prelude.{◌≡◌, ℕ, true, List, [], ◌∷◌, ◌++◌, replicate, ℤ, pos, refl}
use Rattle.std.specs.Int.Count.{ones, ones_in}
use Rattle.base.specs.Below.{all_below, any_below, first_not}
use Rattle.index.specs.Index.{wrap, plus_of, minus_of, difference_of, length_of, behind_b, empty_b, full_b, spans_b, same_b, cell_of}
use Rattle.ring.specs.Capacity.{allowed_b, twice_of}
use Rattle.cells.specs.Cells.{stands_b, spot, read_of, written_of}
use Rattle.steal.specs.declared.Steal.TheVariants.{Success, Retry}
use Rattle.parts.specs.declared.queue.Flavor.{Flavor}
use Rattle.parts.specs.declared.queue.Flavor.TheVariants.{Fifo, Lifo}
use Rattle.parts.specs.declared.queue.Queue.{Queue}
use Rattle.parts.specs.declared.answer.Answer.{Answer}
use Rattle.parts.specs.declared.answer.Answer.TheVariants as A
use Rattle.gate.specs.declared.Operation.TheVariants.{Push, Pop, Steal}
use Rattle.machine.specs.State.{After, after, queue_at, with_queue}
use Rattle.machine.specs.Sound.{sound_b}
use Rattle.machine.specs.Claim.{free_ring}
use Rattle.machine.specs.Setup.{fresh_machine}
use Rattle.machine.specs.Step.{gate_of, step_of}
use Rattle.machine.specs.Begin.{begin_of}
use Rattle.games.specs.Play.{Alone, Sized, sized, begin, step, steps, alone, repeated, finish, fuel_for, answer_of}
use Rattle.witness.specs.Lines.{from}

abbrev queue : Flavor → ℕ → ℕ → ℕ → Queue
queue fl f b c = record {
  flavor = fl;
  front = record { 0 = pos f };
  back = record { 0 = pos b };
  ring = record { number = record { 0 = 0 }; place = record { 0 = 0 }; capacity = c };
}

-- two queues, three places; queue 0 has this flavour, front, back and capacity
abbrev with : Flavor → ℕ → ℕ → ℕ → After
with fl f b c = after (with_queue (fresh_machine 2 (Fifo ∷ Fifo ∷ []) 3) 0 (queue fl f b c)) A.Done (from 0 768)

-- ---- after a step: its answer, and front and back of queue 0

pub record Seen : Type 0 where
  pub answer : Answer
  pub front : ℤ
  pub back : ℤ

abbrev seen : Answer → ℕ → ℕ → Seen
seen a f b = record { answer = a; front = pos f; back = pos b }

abbrev look : After → Seen
look a = record {
  answer = answer_of a;
  front = (queue_at a.called.machine 0).front.0;
  back = (queue_at a.called.machine 0).back.0;
}

-- steps of these threads, in this order
unfoldable pub played : List ℕ → After → List Seen
played [] a = []
played (t ∷ ts) a = let b : After = step t a in look b ∷ played ts b

-- LIFO holds job 7 alone; the owner has begun a pop, and thread 1 a steal
abbrev both : After
both = begin 1 (Steal 0) (begin 0 Pop (with Lifo 7 8 64))

abbrev working : ℕ → ℕ → ℕ → List Seen
working n f b = replicate n (seen A.Working f b)

-- the owner saw one job; the thief takes it: d < 0, store back b, nothing
abbrev taken : List Seen
taken =
    working 7 7 8 ++
    seen (A.Stolen (Success 7)) 8 8 ∷
    seen A.Working 8 7 ∷
    seen A.Working 8 7 ∷
    seen A.Nothing 8 8 ∷
    []

-- the thief has loaded the back; the owner stores b - 1, finds d = 0 and reads; the thief's exchange comes first: the owner's is lost
abbrev lost : List Seen
lost =
    working 4 7 8 ++
    (working 6 7 7 ++ seen (A.Stolen (Success 7)) 8 7 ∷ seen A.Working 8 7 ∷ seen A.Nothing 8 8 ∷ [])

-- the owner's exchange comes first: Retry for the thief
abbrev won : List Seen
won =
    working 7 7 8 ++
    (working 3 7 7 ++ seen A.Working 8 7 ∷ seen (A.Stolen Retry) 8 7 ∷ seen (A.Job 7) 8 8 ∷ [])

pub last_job :
    played (0 ∷ 0 ∷ 1 ∷ 1 ∷ 1 ∷ 1 ∷ 1 ∷ 1 ∷ 0 ∷ 0 ∷ 0 ∷ []) both ∷
    played (1 ∷ 1 ∷ 0 ∷ 0 ∷ 0 ∷ 0 ∷ 0 ∷ 1 ∷ 1 ∷ 1 ∷ 1 ∷ 0 ∷ 0 ∷ []) both ∷
    played (1 ∷ 1 ∷ 1 ∷ 1 ∷ 1 ∷ 0 ∷ 0 ∷ 0 ∷ 0 ∷ 0 ∷ 0 ∷ 1 ∷ 0 ∷ []) both ∷
    [] ≡
    taken ∷ lost ∷ won ∷ []
unfolding from played all_below any_below first_not wrap plus_of minus_of difference_of length_of behind_b empty_b spans_b same_b cell_of allowed_b stands_b spot read_of sound_b free_ring gate_of step_of begin_of ones ones_in
last_job = refl

-- ---- capacity 128: the owner does two steps of a pop, a thief takes so many jobs, and the owner goes on: its answer, its steps, and the capacity

abbrev after_thief : Flavor → ℕ → ℕ → Sized
after_thief fl jobs stolen =
    let r : Alone = finish fuel_for 0 true 2 (repeated stolen 1 (λ (i : ℕ). Steal 0) 0 (steps 0 2 (begin 0 Pop (with fl 0 jobs 128)))) in
    sized (answer_of r.left) r.steps (queue_at r.left.called.machine 0).ring.capacity

pub shrinks :
    after_thief Fifo 33 5 ∷ after_thief Fifo 32 5 ∷ after_thief Lifo 40 7 ∷ after_thief Lifo 40 8 ∷ [] ≡
    -- FIFO: the difference first seen, 33, is above a quarter; 32 is not, and the 26 that are left are copied
    sized (A.Job 5) 4 128 ∷
    sized (A.Job 5) 33 64 ∷
    -- LIFO: d, after the thief: 32 is not below a quarter; 31 is
    sized (A.Job 39) 5 128 ∷
    sized (A.Job 39) 39 64 ∷
    []
unfolding from steps repeated finish all_below any_below first_not wrap plus_of minus_of difference_of length_of behind_b empty_b spans_b same_b cell_of allowed_b stands_b spot read_of written_of sound_b free_ring gate_of step_of begin_of ones ones_in
shrinks = refl

-- ---- a thief has read job 0 when the owner pushes on 64 of 64 and grows: the ring has another number, and the thief answers Retry

abbrev read : After
read = steps 1 4 (begin 1 (Steal 0) (with Fifo 0 64 64))

pub grown : played (1 ∷ []) (alone 0 (Push 900) read).left ≡ seen (A.Stolen Retry) 0 65 ∷ []
unfolding from played steps finish all_below any_below first_not wrap plus_of difference_of length_of empty_b full_b spans_b same_b cell_of allowed_b twice_of stands_b spot read_of written_of sound_b free_ring gate_of step_of begin_of ones ones_in
grown = refl
