-- When a call is turned away. Setup tests 2, then 1. Begin tests 3, 1, 4 (thread, then source), 5, 7. Step tests 3, 1, 4, 6.
use Rattle.std.specs.Prelude.{ℕ, ◌*◌, Bool, true, not, ◌==◌, nat_lt, Result, Ok, Err}
use Rattle.base.specs.Tests.{pick}
use Rattle.cells.specs.Cells.{place_cells}
use Rattle.sound.specs.Sound.{counts_b}
use Rattle.parts.specs.declared.answer.Refusal.{Refusal}
use Rattle.parts.specs.declared.answer.Refusal.TheVariants.{PoolLength, Counts, Unsound, NoSuch, Busy, Idle, NoLimit}
use Rattle.gate.specs.declared.Operation.{Operation}
use Rattle.gate.specs.declared.Operation.TheVariants.{Push, Pop, Length, Steal, Batch, BatchAndPop}

-- thread t owns queue t
abbrev pub own_queue : ℕ → ℕ
own_queue t = t

-- k queues, n places, a pool of len cells
abbrev pub setup_tests : ℕ → ℕ → ℕ → Result Unit Refusal
setup_tests k n len = pick (counts_b k n) (pick (len == n * place_cells) (Ok tt) (Err PoolLength)) (Err Counts)

-- begin and step alike, for thread t: 3, 1, 4
abbrev pub call_tests : Bool → ℕ → ℕ → ℕ → ℕ → Result Unit Refusal
call_tests sound n len k t =
    pick sound (pick (len == n * place_cells) (pick (nat_lt t k) (Ok tt) (Err NoSuch)) (Err PoolLength)) (Err Unsound)

-- the queue that the operation names exists
abbrev pub names_b : ℕ → Operation → Bool
names_b k (Push job) = true
names_b k Pop = true
names_b k (Length q) = nat_lt q k
names_b k (Steal src) = nat_lt src k
names_b k (Batch src limit) = nat_lt src k
names_b k (BatchAndPop src limit) = nat_lt src k

-- the limit, if there is one, is not 0
abbrev pub limit_b : Operation → Bool
limit_b (Push job) = true
limit_b Pop = true
limit_b (Length q) = true
limit_b (Steal src) = true
limit_b (Batch src limit) = not (limit == 0)
limit_b (BatchAndPop src limit) = not (limit == 0)

-- of a begin then
abbrev pub begin_tests : ℕ → Bool → Operation → Result Unit Refusal
begin_tests k idle o = pick (names_b k o) (pick idle (pick (limit_b o) (Ok tt) (Err NoLimit)) (Err Busy)) (Err NoSuch)

-- of a step then
abbrev pub step_tests : Bool → Result Unit Refusal
step_tests idle = pick idle (Err Idle) (Ok tt)

-- the second tests, where the first found nothing
abbrev pub then_gate : Result Unit Refusal → Result Unit Refusal → Result Unit Refusal
then_gate (Ok x) g = g
then_gate (Err r) g = Err r
