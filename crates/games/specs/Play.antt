-- Playing: operations run alone, one after the other, each with its answer and its number of steps; and what the queues hold.
use Rattle.std.specs.Prelude.{ℕ, zero, suc, ◌+◌, ◌*◌, Bool, true, false, List, [], ◌∷◌, length, replicate}
use Rattle.index.specs.declared.Index.{Index}
use Rattle.index.specs.Index.{length_of, plus_of}
use Rattle.cells.specs.Cells.{place_cells, read_of}
use Rattle.parts.specs.declared.queue.Flavor.{Flavor}
use Rattle.parts.specs.declared.queue.Queue.{Queue}
use Rattle.parts.specs.declared.answer.Answer.{Answer}
use Rattle.parts.specs.declared.answer.Answer.TheVariants.{Working, Done, Job, Nothing, Stolen, Moved, Length, GaveUp, Refused}
use Rattle.gate.specs.declared.Operation.{Operation}
use Rattle.machine.specs.State.{After, queue_at}
use Rattle.machine.specs.Setup.{setup_of}
use Rattle.machine.specs.Step.{step_of}
use Rattle.machine.specs.Begin.{begin_of}

abbrev pub answer_of : After → Answer
answer_of a = a.called.answer

abbrev pub begin : ℕ → Operation → After → After
begin t o a = begin_of a.called.machine a.cells t o

abbrev pub step : ℕ → After → After
step t a = step_of a.called.machine a.cells t

unfoldable pub steps : ℕ → ℕ → After → After
steps t zero a = a
steps t (suc n) a = steps t n (step t a)

-- a setup of these flavours with n places, over a cleared pool
abbrev pub setup : List Flavor → ℕ → After
setup flavors n = setup_of (length flavors) flavors n (replicate (n * place_cells) 0)

-- ---- an operation run alone

abbrev pub working : Answer → Bool
working Working = true
working Done = false
working (Job job) = false
working Nothing = false
working (Stolen s) = false
working Moved = false
working (Length d n) = false
working (GaveUp s) = false
working (Refused r) = false

-- an operation's answer, and the number of its steps
pub record Did : Type 0 where
  pub thread : ℕ
  pub operation : Operation
  pub answer : Answer
  pub steps : ℕ

abbrev pub does : ℕ → Operation → Answer → ℕ → Did
does t o a n = record { thread = t; operation = o; answer = a; steps = n }

pub record Alone : Type 0 where
  pub steps : ℕ
  pub left : After

-- at most fuel steps
unfoldable pub finish : ℕ → ℕ → Bool → ℕ → After → Alone
finish zero t w n a = record { steps = n; left = a }
finish (suc fuel) t false n a = record { steps = n; left = a }
finish (suc fuel) t true n a = let b : After = step t a in finish fuel t (working (answer_of b)) (n + 1) b

-- more than any game's operation takes
abbrev pub fuel_for : ℕ
fuel_for = 200

abbrev pub alone : ℕ → Operation → After → Alone
alone t o a = let b : After = begin t o a in finish fuel_for t (working (answer_of b)) 0 b

-- n operations alone, one after the other, made from numbers that count up from i
unfoldable pub repeated : ℕ → ℕ → (ℕ → Operation) → ℕ → After → After
repeated zero t o i a = a
repeated (suc n) t o i a = repeated n t o (i + 1) (alone t (o i) a).left

-- an operation's answer, its steps, and the capacity of queue 0 then
pub record Sized : Type 0 where
  pub answer : Answer
  pub steps : ℕ
  pub capacity : ℕ

abbrev pub sized : Answer → ℕ → ℕ → Sized
sized a n c = record { answer = a; steps = n; capacity = c }

abbrev pub sized_by : ℕ → Operation → After → Sized
sized_by t o a =
    let r : Alone = alone t o a in sized (answer_of r.left) r.steps (queue_at r.left.called.machine 0).ring.capacity

-- ---- contents, front to back

unfoldable pub cells_from : ℕ → List ℕ → Queue → Index → List ℕ
cells_from zero cells q i = []
cells_from (suc n) cells q i = read_of cells q.ring i ∷ cells_from n cells q (plus_of i 1)

abbrev pub contents_of : After → ℕ → List ℕ
contents_of a k =
    let q : Queue = queue_at a.called.machine k in
    cells_from (length_of q.back q.front) a.cells q q.front

unfoldable pub contents_up_to : ℕ → ℕ → After → List (List ℕ)
contents_up_to zero k a = []
contents_up_to (suc n) k a = contents_of a k ∷ contents_up_to n (k + 1) a

-- ---- a game: a setup, operations run alone, and what the queues then hold

pub record Game : Type 0 where
  pub flavors : List Flavor
  pub operations : List Did
  pub contents : List (List ℕ)

pub record Played : Type 0 where
  pub did : List Did
  pub left : After

unfoldable pub playing : List Did → After → Played
playing [] a = record { did = []; left = a }
playing (d ∷ ds) a =
    let r : Alone = alone d.thread d.operation a in
    let p : Played = playing ds r.left in
    record { did = does d.thread d.operation (answer_of r.left) r.steps ∷ p.did; left = p.left }

-- two places a queue
abbrev pub played : Game → Game
played g =
    let p : Played = playing g.operations (setup g.flavors (2 * length g.flavors)) in
    record { flavors = g.flavors; operations = p.did; contents = contents_up_to (length g.flavors) 0 p.left }

unfoldable pub all_played : List Game → List Game
all_played [] = []
all_played (g ∷ gs) = played g ∷ all_played gs
