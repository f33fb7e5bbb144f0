-- When a call is turned away: refusals 1 to 7, and which of two is given where both would be. Setup tests 2, then 1. Begin tests 3, 1, 4 (thread,
-- then source), 5, 7. Step tests 3, 1, 4, 6. All is as it was; a refused setup gives the machine of zeros.
use Rattle.std.specs.Prelude.{◌≡◌, ℕ, ◌-◌, ◌^◌, List, [], ◌∷◌, map, replicate, pos, refl}
use Rattle.std.specs.Int.Count.{ones, ones_in}
use Rattle.base.specs.Below.{all_below}
use Rattle.index.specs.Index.{wrap, difference_of, spans_b}
use Rattle.ring.specs.Capacity.{allowed_b}
use Rattle.parts.specs.declared.answer.Answer.{Answer}
use Rattle.parts.specs.declared.answer.Answer.TheVariants as A
use Rattle.parts.specs.declared.answer.Refusal.{Refusal}
use Rattle.parts.specs.declared.answer.Refusal.TheVariants as R
use Rattle.parts.specs.declared.answer.Shortage.TheVariants as H
use Rattle.steal.specs.declared.Steal.TheVariants as T
use Rattle.parts.specs.Answers.{told, says, Told}
use Rattle.parts.specs.declared.queue.Flavor.{Flavor}
use Rattle.parts.specs.declared.queue.Flavor.TheVariants.{Fifo, Lifo}
use Rattle.parts.specs.declared.queue.Queue.{Queue}
use Rattle.parts.specs.declared.stage.FifoPopStage.TheVariants as D
use Rattle.parts.specs.declared.stage.LifoPopStage.TheVariants as L
use Rattle.parts.specs.declared.stage.PushStage.TheVariants as U
use Rattle.parts.specs.declared.stage.PopStage.TheVariants as P
use Rattle.parts.specs.declared.stage.Popper.TheVariants as W
use Rattle.parts.specs.declared.stage.StealStage.TheVariants as E
use Rattle.parts.specs.declared.stage.LengthStage.TheVariants as N
use Rattle.parts.specs.declared.stage.BatchKind.TheVariants as K
use Rattle.parts.specs.declared.stage.SourceStage.TheVariants as S
use Rattle.parts.specs.declared.stage.Stage.{Stage}
use Rattle.parts.specs.declared.stage.Stage.TheVariants as G
use Rattle.gate.specs.declared.Operation.{Operation}
use Rattle.gate.specs.declared.Operation.TheVariants.{Push, Pop, Length, Steal, Batch, BatchAndPop}
use Rattle.machine.specs.declared.state.Machine.{Machine}
use Rattle.machine.specs.State.{After, after, refused, with_queue, with_stage}
use Rattle.machine.specs.Sound.{sound_b}
use Rattle.machine.specs.Setup.{zero_machine, setup_of}
use Rattle.machine.specs.Step.{gate_of, step_of}
use Rattle.machine.specs.Begin.{begin_of}
use Rattle.witness.specs.Stages.{ring_at}

abbrev pool : ℕ → List ℕ
pool n = replicate n 5

abbrev four : List Flavor
four = Fifo ∷ Lifo ∷ Fifo ∷ Lifo ∷ []

-- ---- setup: so many queues, places and cells

pub record Setup : Type 0 where
  pub queues : ℕ
  pub places : ℕ
  pub cells : ℕ
  pub answer : Answer

abbrev setup : ℕ → ℕ → ℕ → Answer → Setup
setup k n len a = record { queues = k; places = n; cells = len; answer = a }

abbrev set_up : Setup → After
set_up s = setup_of s.queues four s.places (pool s.cells)

abbrev two : ℕ → ℕ → ℕ → Setup
two k n len = setup k n len (A.Refused R.Counts)

abbrev one : ℕ → ℕ → ℕ → Setup
one k n len = setup k n len (A.Refused R.PoolLength)

abbrev pub setups : List Setup
setups =
    -- 2, queues or places out of range
    two 0 1 256 ∷
    two 5 5 1280 ∷
    two 2 1 256 ∷
    two 1 17 4352 ∷
    two (2 ^ 64 - 1) (2 ^ 64 - 1) 0 ∷
    -- and the pool's length is not places x 256: still 2
    two 0 0 1 ∷
    two 5 5 1 ∷
    two 2 1 512 ∷
    two 1 17 4096 ∷
    -- 1 alone
    one 1 1 0 ∷
    one 1 1 255 ∷
    one 1 1 257 ∷
    one 1 2 256 ∷
    one 2 2 128 ∷
    one 4 16 4095 ∷
    []

-- the machine given is all zeros, and the pool is as it was
abbrev zeroed : Setup → After
zeroed s = after zero_machine s.answer (pool s.cells)

pub all_setups : map set_up setups ≡ map zeroed setups
unfolding setup_of
all_setups = refl

abbrev answer_of : Setup → Setup
answer_of s = setup s.queues s.places s.cells (set_up s).called.answer

abbrev pub accepted : List Setup
accepted = setup 1 1 256 A.Done ∷ setup 4 4 1024 A.Done ∷ setup 1 16 4096 A.Done ∷ setup 4 16 4096 A.Done ∷ []

pub all_accepted : map answer_of accepted ≡ accepted
unfolding setup_of
all_accepted = refl

-- at setup queue q has ring q in place q, capacity 64, front and back 0; setup writes no cell
abbrev started : Flavor → ℕ → Queue
started f q = record {
  flavor = f;
  front = record { 0 = pos 0 };
  back = record { 0 = pos 0 };
  ring = record { number = record { 0 = q }; place = record { 0 = q }; capacity = 64 };
}

-- where there is no queue: zeros
abbrev none : Queue
none = record {
  flavor = Fifo;
  front = record { 0 = pos 0 };
  back = record { 0 = pos 0 };
  ring = record { number = record { 0 = 0 }; place = record { 0 = 0 }; capacity = 0 };
}

abbrev pub at_start : Machine
at_start = record {
  queues = started Fifo 0 ∷ started Lifo 1 ∷ none ∷ none ∷ [];
  threads = record { stage = G.Idle } ∷ record { stage = G.Idle } ∷ record { stage = G.Idle } ∷ record { stage = G.Idle } ∷ [];
  queue_count = 2;
  place_count = 2;
  next_ring = record { 0 = 2 };
}

pub the_start : setup_of 2 four 2 (pool 512) ≡ after at_start A.Done (pool 512)
unfolding setup_of
the_start = refl

-- ---- begin and step

-- thread 0 is busy; queue 1 has a capacity that is not allowed; both
abbrev busy : Machine
busy = with_stage at_start 0 (G.Push 7 U.LoadBack)

abbrev broken : Machine → Machine
broken m = with_queue m 1 (record {
  flavor = Lifo;
  front = record { 0 = pos 0 };
  back = record { 0 = pos 0 };
  ring = ring_at 1 65;
})

-- thread 2, which is not there, is busy
abbrev busy_two : Machine
busy_two = with_stage at_start 2 (G.Push 7 U.LoadBack)

-- a machine, a pool of so many cells, a thread, and what it is to begin
pub record Begin : Type 0 where
  pub machine : Machine
  pub cells : ℕ
  pub thread : ℕ
  pub operation : Operation
  pub refusal : Refusal

abbrev begin : Machine → ℕ → ℕ → Operation → Refusal → Begin
begin m len t o r = record { machine = m; cells = len; thread = t; operation = o; refusal = r }

abbrev begun : Begin → After
begun b = begin_of b.machine (pool b.cells) b.thread b.operation

abbrev as_it_was : Begin → After
as_it_was b = refused b.machine b.refusal (pool b.cells)

abbrev pub begins : List Begin
begins =
    -- 3 alone, and before 1, 4, 5, 7
    begin (broken at_start) 512 0 Pop R.Unsound ∷
    begin (broken at_start) 511 0 Pop R.Unsound ∷
    begin (broken at_start) 512 2 Pop R.Unsound ∷
    begin (broken at_start) 512 0 (Steal 2) R.Unsound ∷
    begin (broken busy) 512 0 Pop R.Unsound ∷
    begin (broken at_start) 512 0 (Batch 1 0) R.Unsound ∷
    -- 1 alone, and before 4, 5, 7
    begin at_start 511 0 Pop R.PoolLength ∷
    begin at_start 513 0 Pop R.PoolLength ∷
    begin at_start 256 2 Pop R.PoolLength ∷
    begin at_start 0 0 (Steal 2) R.PoolLength ∷
    begin busy 511 0 Pop R.PoolLength ∷
    begin at_start 511 0 (Batch 1 0) R.PoolLength ∷
    -- 4, no such thread: alone, and before 4 for the source, 5, 7
    begin at_start 512 2 Pop R.NoSuch ∷
    begin at_start 512 (2 ^ 64 - 1) (Push 7) R.NoSuch ∷
    begin at_start 512 2 (Steal 2) R.NoSuch ∷
    begin busy_two 512 2 Pop R.NoSuch ∷
    begin at_start 512 2 (Batch 1 0) R.NoSuch ∷
    -- 4, no such source queue, for each operation that names one; and before 5, 7
    begin at_start 512 0 (Length 2) R.NoSuch ∷
    begin at_start 512 0 (Steal 2) R.NoSuch ∷
    begin at_start 512 0 (Batch 2 1) R.NoSuch ∷
    begin at_start 512 0 (BatchAndPop 2 1) R.NoSuch ∷
    begin busy 512 0 (Steal 2) R.NoSuch ∷
    begin at_start 512 0 (Batch 2 0) R.NoSuch ∷
    begin at_start 512 0 (BatchAndPop 2 0) R.NoSuch ∷
    -- 5 alone, and before 7
    begin busy 512 0 Pop R.Busy ∷
    begin busy 512 0 (Push 7) R.Busy ∷
    begin busy 512 0 (Batch 1 0) R.Busy ∷
    begin busy 512 0 (BatchAndPop 1 0) R.Busy ∷
    -- 7, also from the own queue
    begin at_start 512 0 (Batch 1 0) R.NoLimit ∷
    begin at_start 512 0 (BatchAndPop 1 0) R.NoLimit ∷
    begin at_start 512 0 (Batch 0 0) R.NoLimit ∷
    begin at_start 512 0 (BatchAndPop 0 0) R.NoLimit ∷
    []

pub all_begins : map begun begins ≡ map as_it_was begins
unfolding begin_of gate_of sound_b all_below allowed_b ones ones_in spans_b difference_of wrap
all_begins = refl

-- begin stores the operation and touches nothing shared: a thread, what it begins, and its stage then
pub record Start : Type 0 where
  pub thread : ℕ
  pub operation : Operation
  pub stage : Stage

abbrev start : ℕ → Operation → Stage → Start
start t o s = record { thread = t; operation = o; stage = s }

abbrev starting : Start → After
starting s = begin_of at_start (pool 512) s.thread s.operation

abbrev stored : Start → After
stored s = after (with_stage at_start s.thread s.stage) A.Working (pool 512)

abbrev pub starts : List Start
starts =
    -- queue 0 is FIFO, queue 1 LIFO
    start 0 (Push 7) (G.Push 7 U.LoadBack) ∷
    start 0 Pop (G.Pop W.Pop (P.Fifo D.LoadBack)) ∷
    start 1 Pop (G.Pop W.Pop (P.Lifo L.LoadBack)) ∷
    -- of any queue, for owner and thief alike
    start 0 (Length 0) (G.Length 0 N.LoadBack) ∷
    start 0 (Length 1) (G.Length 1 N.LoadBack) ∷
    start 0 (Steal 1) (G.Steal 1 E.LoadFront) ∷
    start 0 (Steal 0) (G.Steal 0 E.LoadFront) ∷
    -- the limit less one
    start 0 (Batch 1 1) (G.BatchSource 1 (S.LoadFront K.Batch 0)) ∷
    start 0 (Batch 1 (2 ^ 64 - 1)) (G.BatchSource 1 (S.LoadFront K.Batch (2 ^ 64 - 2))) ∷
    start 1 (BatchAndPop 0 10) (G.BatchSource 0 (S.LoadFront K.BatchAndPop 9)) ∷
    -- source is the thread's own queue: load back, load front; or a pop
    start 0 (Batch 0 1) (G.OwnBatch N.LoadBack) ∷
    start 0 (BatchAndPop 0 1) (G.Pop W.BatchAndPop (P.Fifo D.LoadBack)) ∷
    start 1 (BatchAndPop 1 9) (G.Pop W.BatchAndPop (P.Lifo L.LoadBack)) ∷
    []

pub all_starts : map starting starts ≡ map stored starts
unfolding begin_of gate_of sound_b all_below allowed_b ones ones_in spans_b difference_of wrap
all_starts = refl

-- a step
pub record Step : Type 0 where
  pub machine : Machine
  pub cells : ℕ
  pub thread : ℕ
  pub refusal : Refusal

abbrev step : Machine → ℕ → ℕ → Refusal → Step
step m len t r = record { machine = m; cells = len; thread = t; refusal = r }

abbrev stepped : Step → After
stepped s = step_of s.machine (pool s.cells) s.thread

abbrev as_before : Step → After
as_before s = refused s.machine s.refusal (pool s.cells)

abbrev pub steps : List Step
steps =
    -- 3 alone, and before 1, 4, 6
    step (broken busy) 512 0 R.Unsound ∷
    step (broken busy) 511 0 R.Unsound ∷
    step (broken busy) 512 2 R.Unsound ∷
    step (broken busy) 512 1 R.Unsound ∷
    -- 1 alone, and before 4, 6
    step busy 511 0 R.PoolLength ∷
    step busy 768 0 R.PoolLength ∷
    step busy 511 2 R.PoolLength ∷
    step busy 511 1 R.PoolLength ∷
    -- 4 alone, of a thread that is not there and has an operation, and before 6
    step busy_two 512 2 R.NoSuch ∷
    step busy 512 2 R.NoSuch ∷
    step at_start 512 (2 ^ 64 - 1) R.NoSuch ∷
    -- 6
    step busy 512 1 R.Idle ∷
    step at_start 512 0 R.Idle ∷
    []

pub all_steps : map stepped steps ≡ map as_before steps
unfolding step_of gate_of sound_b all_below allowed_b ones ones_in spans_b difference_of wrap
all_steps = refl

-- ---- the numbers of the table, and what each answer says: its kind, its number, its job or a length's difference, a length

pub record Word : Type 0 where
  pub answer : Answer
  pub told : Told

abbrev word : Answer → ℕ → ℕ → ℕ → ℕ → Word
word a k r v l = record { answer = a; told = says k r v l }

abbrev saying : Word → Word
saying w = record { answer = w.answer; told = told w.answer }

abbrev pub words : List Word
words =
    word A.Working 0 0 0 0 ∷
    word A.Done 1 0 0 0 ∷
    word (A.Job 7) 2 0 7 0 ∷
    word A.Nothing 3 0 0 0 ∷
    word (A.Stolen T.Empty) 4 0 0 0 ∷
    word (A.Stolen (T.Success 7)) 5 0 7 0 ∷
    word (A.Stolen T.Retry) 6 0 0 0 ∷
    word A.Moved 7 0 0 0 ∷
    word (A.Length (pos 3) 3) 8 0 3 3 ∷
    word (A.GaveUp H.TooLarge) 9 8 0 0 ∷
    word (A.GaveUp H.NoRing) 9 9 0 0 ∷
    word (A.Refused R.PoolLength) 10 1 0 0 ∷
    word (A.Refused R.Counts) 10 2 0 0 ∷
    word (A.Refused R.Unsound) 10 3 0 0 ∷
    word (A.Refused R.NoSuch) 10 4 0 0 ∷
    word (A.Refused R.Busy) 10 5 0 0 ∷
    word (A.Refused R.Idle) 10 6 0 0 ∷
    word (A.Refused R.NoLimit) 10 7 0 0 ∷
    []

pub all_words : map saying words ≡ words
all_words = refl
