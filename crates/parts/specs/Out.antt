-- What a step leaves, and a queue with one part changed.
use Rattle.std.specs.Prelude.{ℕ, List, Option}
use Rattle.index.specs.declared.Index.{Index}
use Rattle.ring.specs.declared.Ring.{Ring}
use Rattle.parts.specs.declared.queue.Queue.{Queue}
use Rattle.parts.specs.declared.stage.Stage.{Stage}
use Rattle.parts.specs.declared.stage.Stage.TheVariants.{Idle}
use Rattle.parts.specs.declared.answer.Answer.{Answer}
use Rattle.parts.specs.declared.answer.Answer.TheVariants.{Working}
use Rattle.parts.specs.declared.out.Claimed.{Claimed}
use Rattle.parts.specs.declared.out.StepOut.{StepOut}
use Rattle.parts.specs.declared.out.StepOut.TheVariants.{Going, Ended}
use Rattle.parts.specs.declared.out.Out.{Out}

-- what a claim found
abbrev pub Claim : Type 0
Claim = Option Claimed

-- what a step leaves of its queue and its thread, and the pool's cells
pub record Left : Type 0 where
  pub out : Out
  pub cells : List ℕ

abbrev pub left : Out → List ℕ → Left
left o cells = record { out = o; cells = cells }

-- the operation goes on at a stage; it ends with an answer, and the thread is idle
abbrev pub going : Queue → Stage → Out
going q s = record { queue = q; stage = s; answer = Working }

abbrev pub ended : Queue → Answer → Out
ended q a = record { queue = q; stage = Idle; answer = a }

-- what an operation's step left, as the thread's: at makes the thread's stage of the operation's
abbrev pub out_of : {S : Type 0} → (S → Stage) → StepOut S → Out
out_of at (Going q s) = going q (at s)
out_of at (Ended q a) = ended q a

abbrev pub with_front : Queue → Index → Queue
with_front q f = record { flavor = q.flavor; front = f; back = q.back; ring = q.ring }

abbrev pub with_back : Queue → Index → Queue
with_back q b = record { flavor = q.flavor; front = q.front; back = b; ring = q.ring }

abbrev pub with_ring : Queue → Ring → Queue
with_ring q r = record { flavor = q.flavor; front = q.front; back = q.back; ring = r }
