-- An operation that gives up: from its begin on its thread's own calls, up to the step that answers 8 or 9, and what each of them leaves. Calls of other
-- threads stand between them.
use Rattle.std.specs.Prelude.{◌≡◌, ℕ, ◌<◌, List, [], ◌∷◌}
use Rattle.parts.specs.declared.answer.Answer.{Answer}
use Rattle.parts.specs.declared.answer.Answer.TheVariants.{Working, Done, Job, Nothing, Stolen, Moved, Length, GaveUp, Refused}
use Rattle.parts.specs.declared.answer.Shortage.{Shortage}
use Rattle.gate.specs.declared.Request.{Request}
use Rattle.gate.specs.declared.Request.TheVariants.{Step, Begin}
use Rattle.machine.specs.declared.state.Machine.{Machine}
use Rattle.machine.specs.State.{After, queue_at}
use Rattle.machine.specs.Step.{step_of}
use Rattle.theorem.specs.History.{Call, asks, lent_by, thread_of, lent, pool_after, called_of}

abbrev pub request_in : Call → Request
request_in (asks p t r) = r

-- a call leaves every queue as it was, and the cells that it was lent
abbrev pub Leaves : Machine → List ℕ → After → Type 0
Leaves m cells a = ((k : ℕ) → k < m.queue_count → queue_at a.called.machine k ≡ queue_at m k) × (a.cells ≡ cells)

abbrev pub IsStep : Request → Type 0
IsStep Step = Unit
IsStep (Begin o) = ⊥

-- a call with which an operation in flight goes on: a step that answers Working, or a call that is refused
abbrev pub GoesOn : Request → Answer → Type 0
GoesOn r Working = IsStep r
GoesOn r Done = ⊥
GoesOn r (Job v) = ⊥
GoesOn r Nothing = ⊥
GoesOn r (Stolen s) = ⊥
GoesOn r Moved = ⊥
GoesOn r (Length d n) = ⊥
GoesOn r (GaveUp s) = ⊥
GoesOn r (Refused e) = Unit

-- thread t's operation goes on with each of its calls among these, and then its step answers 8 or 9
unfoldable pub GivesUp : ℕ → Machine → List ℕ → List Call → Type 0
GivesUp t m cells [] = (e : Shortage) × ((step_of m cells t).called.answer ≡ GaveUp e)
GivesUp t m cells (c ∷ cs) =
    let a : After = called_of m cells c in
    (thread_of c ≡ t → GoesOn (request_in c) a.called.answer) × GivesUp t a.called.machine (pool_after (lent_by c) cells a.cells) cs

-- each of these calls that is thread t's, and then its step, leaves queues and cells as they were
unfoldable pub Untouched : ℕ → Machine → List ℕ → List Call → Type 0
Untouched t m cells [] = Leaves m cells (step_of m cells t)
Untouched t m cells (c ∷ cs) =
    let a : After = called_of m cells c in
    (thread_of c ≡ t → Leaves m (lent (lent_by c) cells) a) × Untouched t a.called.machine (pool_after (lent_by c) cells a.cells) cs
