-- Wrong machines, and the machine that the promise of `step` is tried on.
use Rattle.std.specs.Prelude.{ℕ, Bool, true, false, List, pos, ◌==◌, slice_set}
use Rattle.base.specs.Tests.{pick}
use Rattle.index.specs.Index.{length_of}
use Rattle.steal.specs.declared.Steal.TheVariants as T
use Rattle.parts.specs.declared.answer.Answer.TheVariants as A
use Rattle.parts.specs.declared.answer.Refusal.TheVariants.{NoSuch}
use Rattle.keeps.specs.declared.Kept.{Kept}
use Rattle.keeps.specs.declared.Kept.TheVariants as K
use Rattle.machine.specs.declared.state.Machine.{Machine}
use Rattle.machine.specs.State.{After, after, refused, queue_at, kept_at}
use Rattle.machine.specs.Step.{step_of}
use Rattle.games.specs.Play.{steps}

abbrev pub Steps : Type 0
Steps = Machine → List ℕ → ℕ → After

abbrev pub refuses : Steps
refuses m cells t = refused m NoSuch cells

abbrev pub says_empty : Steps
says_empty m cells t = after m (A.Stolen T.Empty) cells

abbrev pub says_retry : Steps
says_retry m cells t = after m (A.Stolen T.Retry) cells

-- it answers as it should and leaves all as it was: a push that is done stores nothing
abbrev pub stands_still : Steps
stands_still m cells t = after m (step_of m cells t).called.answer cells

-- it answers a stolen job and leaves the queue as it was: the job is there to be taken again
abbrev pub leaves_stolen : Steps
leaves_stolen m cells t =
    let a : After = step_of m cells t in
    after (pick (a.tells.kind == 5) m a.called.machine) a.called.answer a.cells

-- it does a whole push at its first step, and then idles
abbrev pub does_all : Steps
does_all m cells t = steps t 4 (after m A.Working cells)

-- it answers as it should, but for a length, which it makes up
abbrev pub makes_up : Steps
makes_up m cells t =
    let a : After = step_of m cells t in
    after a.called.machine (pick (a.tells.kind == 8) (A.Length (pos 7) 7) a.called.answer) a.cells

-- it does as it should, but for a resize: once a ring is being built, all jobs of the queue are copied at one step
abbrev pub builds_b : Kept → Bool
builds_b K.Nothing = false
builds_b (K.Built r) = true
builds_b (K.Held r) = false

abbrev pub copies_all : Steps
copies_all m cells t =
    pick (builds_b (kept_at m t)) (steps t (length_of (queue_at m t).back (queue_at m t).front) (after m A.Working cells)) (step_of m cells t)

-- it answers as it should, and a refused call writes the first cell
abbrev pub writes_refused : Steps
writes_refused m cells t =
    let a : After = step_of m cells t in
    after a.called.machine a.called.answer (pick (a.tells.kind == 10) (slice_set a.cells 0 7) a.cells)

-- each must-fail edit puts a wrong machine here
abbrev pub tested : Steps
tested = step_of
