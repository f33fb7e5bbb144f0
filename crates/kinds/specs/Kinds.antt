-- The kinds of calls, by their numbers, and what a call of a kind asks for.
use Rattle.std.specs.Prelude.{ℕ, Bool, true, false, eqb, Result, Ok, Err}
use Rattle.base.specs.Tests.{pick}
use Rattle.gate.specs.Gate.{own_queue}
use Rattle.gate.specs.declared.Operation.TheVariants as O
use Rattle.gate.specs.declared.Request.{Request}
use Rattle.gate.specs.declared.Request.TheVariants as R
use Rattle.kinds.specs.declared.Kind.{Kind}
use Rattle.kinds.specs.declared.Kind.TheVariants.{Step, Push, Pop, OwnLength, Length, Steal, Batch, BatchAndPop}
use Rattle.kinds.specs.declared.UnknownKind.{UnknownKind}

-- the kinds, 0 to 7
unfoldable pub kind_of : ℕ → Result Kind UnknownKind
kind_of n =
    pick (eqb n 0) (Ok Step)
    (pick (eqb n 1) (Ok Push)
    (pick (eqb n 2) (Ok Pop)
    (pick (eqb n 3) (Ok OwnLength)
    (pick (eqb n 4) (Ok Length)
    (pick (eqb n 5) (Ok Steal) (pick (eqb n 6) (Ok Batch) (pick (eqb n 7) (Ok BatchAndPop) (Err (record { 0 = n })))))))))

-- the kind names a source queue; has an operand
abbrev pub source_b : Kind → Bool
source_b Step = false
source_b Push = false
source_b Pop = false
source_b OwnLength = false
source_b Length = true
source_b Steal = true
source_b Batch = true
source_b BatchAndPop = true

abbrev pub operand_b : Kind → Bool
operand_b Step = false
operand_b Push = true
operand_b Pop = false
operand_b OwnLength = false
operand_b Length = false
operand_b Steal = false
operand_b Batch = true
operand_b BatchAndPop = true

-- thread t asks for this, with this source and operand
abbrev pub request_of : ℕ → Kind → ℕ → ℕ → Request
request_of t Step src n = R.Step
request_of t Push src n = R.Begin (O.Push n)
request_of t Pop src n = R.Begin O.Pop
request_of t OwnLength src n = R.Begin (O.Length (own_queue t))
request_of t Length src n = R.Begin (O.Length src)
request_of t Steal src n = R.Begin (O.Steal src)
request_of t Batch src n = R.Begin (O.Batch src n)
request_of t BatchAndPop src n = R.Begin (O.BatchAndPop src n)
