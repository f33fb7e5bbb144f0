-- Begin stores the operation and touches nothing shared. It tests 3, 1, 4 (thread, then source), 5, 7.
use Rattle.std.specs.Prelude.{ℕ, List, length}
use Rattle.parts.specs.declared.answer.Answer.TheVariants.{Working}
use Rattle.stages.specs.Stages.{idle_b}
use Rattle.starts.specs.Starts.{first_stage}
use Rattle.gate.specs.declared.Operation.{Operation}
use Rattle.gate.specs.Gate.{own_queue, begin_tests, then_gate}
use Rattle.machine.specs.declared.state.Machine.{Machine}
use Rattle.machine.specs.State.{After, after, queue_at, stage_at, with_stage}
use Rattle.machine.specs.Step.{gate_of, passing}

abbrev pub begun : Machine → List ℕ → ℕ → Operation → After
begun m cells t o = after (with_stage m t (first_stage (queue_at m (own_queue t)).flavor (own_queue t) o)) Working cells

unfoldable pub begin_of : Machine → List ℕ → ℕ → Operation → After
begin_of m cells t o =
    passing (then_gate (gate_of m (length cells) t) (begin_tests m.queue_count (idle_b (stage_at m t)) o)) m cells (begun m cells t o)
