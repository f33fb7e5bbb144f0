-- Step tests 3, 1, 4, 6. Then it looks up the stage, claims a ring if the stage wants one, makes the step on the one queue that it touches,
-- and stores queue and stage back.
use Rattle.std.specs.Prelude.{ℕ, List, length, Result, Ok, Err}
use Rattle.parts.specs.declared.answer.Refusal.{Refusal}
use Rattle.parts.specs.declared.stage.Stage.{Stage}
use Rattle.parts.specs.Out.{Claim, Left}
use Rattle.stages.specs.Stages.{touched_of, idle_b}
use Rattle.advance.specs.Advance.{advance_of}
use Rattle.gate.specs.Gate.{own_queue, call_tests, step_tests, then_gate}
use Rattle.machine.specs.declared.state.Machine.{Machine}
use Rattle.machine.specs.State.{After, after, refused, queue_at, stage_at, with_queue, with_stage, counted}
use Rattle.machine.specs.Sound.{sound_b}
use Rattle.machine.specs.Claim.{claim_of}

-- what begin and step share; len is the pool's length
unfoldable pub gate_of : Machine → ℕ → ℕ → Result Unit Refusal
gate_of m len t = call_tests (sound_b m) m.place_count len m.queue_count t

-- all as it was where a test found something
abbrev pub passing : Result Unit Refusal → Machine → List ℕ → After → After
passing (Ok x) m cells a = a
passing (Err r) m cells a = refused m r cells

-- what the step of thread t at stage s leaves, of the queue that it touches; g: what a claim found
abbrev pub advanced : Machine → List ℕ → ℕ → Stage → Claim → Left
advanced m cells t s g = advance_of s (queue_at m (own_queue t)).flavor (queue_at m (touched_of s (own_queue t))) g cells

-- the machine with what thread t's step left of queue k
abbrev pub stored : Machine → ℕ → ℕ → Left → After
stored m t k l = after (with_stage (with_queue m k l.out.queue) t l.out.stage) l.out.answer l.cells

abbrev pub ran : Machine → List ℕ → ℕ → Stage → After
ran m cells t s = stored (counted m (claim_of m s)) t (touched_of s (own_queue t)) (advanced m cells t s (claim_of m s))

unfoldable pub step_of : Machine → List ℕ → ℕ → After
step_of m cells t = passing (then_gate (gate_of m (length cells) t) (step_tests (idle_b (stage_at m t)))) m cells (ran m cells t (stage_at m t))
