-- A call asks a thread for a step, or for an operation's begin.
use Rattle.std.specs.Prelude.{ℕ, List}
use Rattle.gate.specs.declared.Request.{Request}
use Rattle.gate.specs.declared.Request.TheVariants.{Step, Begin}
use Rattle.machine.specs.declared.state.Machine.{Machine}
use Rattle.machine.specs.State.{After}
use Rattle.machine.specs.Begin.{begin_of}
use Rattle.machine.specs.Step.{step_of}

abbrev pub call_of : Machine → List ℕ → ℕ → Request → After
call_of m cells t Step = step_of m cells t
call_of m cells t (Begin o) = begin_of m cells t o
