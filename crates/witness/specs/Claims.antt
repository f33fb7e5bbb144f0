-- A claim takes the lowest-numbered free place. A place is in use while it holds a queue's current ring, a ring being built, or a ring that an operation
-- in flight holds. Ring numbers count up; 2^64 - 2 is the last that is given. No place or no number left: push and batch answer 9; a shrinking pop skips
-- the shrink and answers its job.
use Rattle.std.specs.Prelude.{◌≡◌, ℕ, ◌-◌, ◌*◌, ◌^◌, List, [], ◌∷◌, map, replicate, pos, refl, Some, None}
use Rattle.std.specs.Int.Count.{ones, ones_in}
use Rattle.base.specs.Below.{all_below, any_below, first_not}
use Rattle.index.specs.declared.Index.{Index}
use Rattle.index.specs.Index.{wrap, difference_of, spans_b, same_b}
use Rattle.ring.specs.declared.Ring.{Ring}
use Rattle.ring.specs.Capacity.{allowed_b}
use Rattle.steal.specs.declared.Steal.TheVariants.{Success}
use Rattle.parts.specs.declared.queue.Flavor.TheVariants.{Fifo, Lifo}
use Rattle.parts.specs.declared.queue.Queue.{Queue}
use Rattle.parts.specs.declared.answer.Answer.{Answer}
use Rattle.parts.specs.declared.answer.Answer.TheVariants as A
use Rattle.parts.specs.declared.answer.Shortage.TheVariants.{NoRing}
use Rattle.parts.specs.declared.stage.ResizeStage.{ResizeStage}
use Rattle.parts.specs.declared.stage.ResizeStage.TheVariants as Z
use Rattle.parts.specs.declared.stage.PushStage.TheVariants as U
use Rattle.parts.specs.declared.stage.PopStage.TheVariants as P
use Rattle.parts.specs.declared.stage.Popper.TheVariants as W
use Rattle.parts.specs.declared.stage.StealStage.TheVariants as T
use Rattle.parts.specs.declared.stage.BatchKind.TheVariants as K
use Rattle.parts.specs.declared.stage.ReserveStage.TheVariants as Y
use Rattle.parts.specs.declared.stage.OwnStage.TheVariants as O
use Rattle.parts.specs.declared.stage.Stage.{Stage}
use Rattle.parts.specs.declared.stage.Stage.TheVariants as G
use Rattle.machine.specs.declared.state.Machine.{Machine}
use Rattle.machine.specs.State.{After, after, with_queue, with_stage}
use Rattle.machine.specs.Sound.{sound_b}
use Rattle.machine.specs.Claim.{free_ring}
use Rattle.machine.specs.Setup.{fresh_machine}
use Rattle.machine.specs.Step.{gate_of, step_of}
use Rattle.parts.specs.Out.{Claim}

abbrev at : ℕ → Index
at n = record { 0 = pos n }

abbrev ring : ℕ → ℕ → ℕ → Ring
ring number place capacity = record { number = record { 0 = number }; place = record { 0 = place }; capacity = capacity }

-- k queues, n places: ring q in place q, and ring k comes next
abbrev fresh : ℕ → ℕ → Machine
fresh k n = fresh_machine k (Fifo ∷ Lifo ∷ Fifo ∷ Lifo ∷ []) n

-- with another number to come next
abbrev numbered : ℕ → Machine → Machine
numbered next m = record {
  queues = m.queues;
  threads = m.threads;
  queue_count = m.queue_count;
  place_count = m.place_count;
  next_ring = record { 0 = next };
}

-- a queue of these indices
abbrev queue : ℕ → ℕ → Ring → Queue
queue f b r = record { flavor = Fifo; front = at f; back = at b; ring = r }

-- ---- what a claim takes, of a machine

pub record Row : Type 0 where
  pub machine : Machine
  pub claim : Claim

abbrev got : Machine → ℕ → ℕ → Row
got m number place = record { machine = m; claim = Some (record { number = record { 0 = number }; place = record { 0 = place } }) }

abbrev nothing : Machine → Row
nothing m = record { machine = m; claim = None }

abbrev claimed : Row → Row
claimed r = record { machine = r.machine; claim = free_ring r.machine }

-- queue k has its ring in place p
abbrev lying : ℕ → ℕ → Machine → Machine
lying k p m = with_queue m k (queue 0 0 (ring 7 p 64))

-- thread t builds a ring in place p; holds one that is retired
abbrev builds : ℕ → ℕ → Machine → Machine
builds t p m = with_stage m t (G.Push 7 (U.Resize (at 0) (Z.Swap (ring 8 p 128))))

abbrev holds : ℕ → ℕ → Machine → Machine
holds t p m = with_stage m t (G.Steal 0 (T.Read (at 0) (ring 7 p 64)))

abbrev pub claims : List Row
claims =
    -- a queue's current ring
    got (fresh 2 3) 2 2 ∷
    got (fresh 4 16) 4 4 ∷
    nothing (fresh 2 2) ∷
    nothing (fresh 4 4) ∷
    -- the lowest: what the queue left is used again
    got (lying 0 2 (fresh 2 4)) 2 0 ∷
    got (lying 1 2 (fresh 2 4)) 2 1 ∷
    -- a ring being built, and one that is held, by any thread
    got (builds 0 2 (fresh 2 4)) 2 3 ∷
    got (builds 1 2 (fresh 2 4)) 2 3 ∷
    got (builds 1 3 (fresh 2 4)) 2 2 ∷
    nothing (builds 0 2 (fresh 2 3)) ∷
    got (holds 0 2 (fresh 2 4)) 2 3 ∷
    got (holds 1 2 (fresh 2 4)) 2 3 ∷
    nothing (holds 1 2 (fresh 2 3)) ∷
    got (holds 0 0 (lying 0 2 (fresh 2 4))) 2 3 ∷
    nothing (holds 1 0 (lying 0 2 (fresh 2 3))) ∷
    nothing (builds 1 3 (holds 0 2 (fresh 2 4))) ∷
    -- 2^64 - 2 is given, 2^64 - 1 never
    got (numbered (2 ^ 64 - 3) (fresh 2 3)) (2 ^ 64 - 3) 2 ∷
    got (numbered (2 ^ 64 - 2) (fresh 2 3)) (2 ^ 64 - 2) 2 ∷
    nothing (numbered (2 ^ 64 - 1) (fresh 2 3)) ∷
    []

pub all_claims : map claimed claims ≡ claims
unfolding free_ring any_below first_not
all_claims = refl

-- ---- the step that claims: the resize's load of front. Queue 0 holds jobs 1 to 10, and thread 0 resizes to a capacity

-- in a ring of this capacity
abbrev held : ℕ → Machine → Machine
held capacity m = with_queue m 0 (queue 1 11 (ring 0 0 capacity))

abbrev loads_front : ℕ → ResizeStage
loads_front capacity = Z.LoadFront capacity (at 11)

abbrev pushing : ResizeStage → Stage
pushing z = G.Push 900 (U.Resize (at 11) z)

abbrev popping : ResizeStage → Stage
popping z = G.Pop W.Pop (P.Shrink 900 z)

abbrev taking : ResizeStage → Stage
taking z = G.Pop W.BatchAndPop (P.Shrink 900 z)

abbrev batching : ResizeStage → Stage
batching z = G.BatchOwn 1 (O.Reserve (record { kind = K.Batch; f = at 5; n = 60 }) (Y.Resize z))

abbrev cells : ℕ → List ℕ
cells places = replicate (places * 256) 5

-- a machine whose thread 0 is idle, the stage that it is at, how many places there are, and what its step leaves
pub record Step : Type 0 where
  pub machine : Machine
  pub places : ℕ
  pub stage : Stage
  pub leaves : Machine
  pub answer : Answer

abbrev stepped : Step → After
stepped s = step_of (with_stage s.machine 0 s.stage) (cells s.places) 0

abbrev left : Step → After
left s = after s.leaves s.answer (cells s.places)

-- the operation ended, no cell written, and the machine is as it was
abbrev ends : Machine → ℕ → Stage → Answer → Step
ends m n s a = record { machine = m; places = n; stage = s; leaves = m; answer = a }

-- ring 2^64 - 2 is claimed in place 2, 2^64 - 1 comes next, and index 1 is to be copied first
abbrev goes : ℕ → ℕ → (ResizeStage → Stage) → Step
goes from to operation = record {
  machine = numbered (2 ^ 64 - 2) (held from (fresh 2 3));
  places = 3;
  stage = operation (loads_front to);
  leaves = with_stage (numbered (2 ^ 64 - 1) (held from (fresh 2 3))) 0 (operation (Z.Copy (at 11) (at 1) (ring (2 ^ 64 - 2) 2 to)));
  answer = A.Working;
}

-- no number left; no place left
abbrev no_number : ℕ → Machine
no_number capacity = numbered (2 ^ 64 - 1) (held capacity (fresh 2 3))

abbrev no_place : ℕ → Machine
no_place capacity = held capacity (fresh 2 2)

abbrev pub steps : List Step
steps =
    goes 64 128 pushing ∷
    goes 128 64 popping ∷
    goes 128 64 taking ∷
    goes 64 128 batching ∷
    -- push and batch answer 9
    ends (no_number 64) 3 (pushing (loads_front 128)) (A.GaveUp NoRing) ∷
    ends (no_number 64) 3 (batching (loads_front 128)) (A.GaveUp NoRing) ∷
    ends (no_place 64) 2 (pushing (loads_front 128)) (A.GaveUp NoRing) ∷
    ends (no_place 64) 2 (batching (loads_front 128)) (A.GaveUp NoRing) ∷
    -- a shrinking pop skips the shrink and answers its job
    ends (no_number 128) 3 (popping (loads_front 64)) (A.Job 900) ∷
    ends (no_number 128) 3 (taking (loads_front 64)) (A.Stolen (Success 900)) ∷
    ends (no_place 128) 2 (popping (loads_front 64)) (A.Job 900) ∷
    ends (no_place 128) 2 (taking (loads_front 64)) (A.Stolen (Success 900)) ∷
    []

pub all_steps : map stepped steps ≡ map left steps
unfolding step_of gate_of sound_b free_ring all_below any_below first_not allowed_b ones ones_in spans_b same_b difference_of wrap
all_steps = refl
