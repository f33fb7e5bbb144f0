-- Sessions: a setup and a list of calls, with any arguments, refused ones included. Each call is given the machine and the pool that the last one
-- left. What was accepted and what was answered is counted from the calls and their answers alone.
use Rattle.std.specs.Prelude.{◌≡◌, ℕ, ◌+◌, ◌*◌, ◌<◌, true, List, [], ◌∷◌, length, ◌≢◌}
use Rattle.index.specs.Index.{plus_of, length_of}
use Rattle.cells.specs.Cells.{place_cells, read_of}
use Rattle.steal.specs.declared.Steal.TheVariants as T
use Rattle.parts.specs.declared.queue.Flavor.{Flavor}
use Rattle.parts.specs.declared.queue.Queue.{Queue}
use Rattle.parts.specs.declared.stage.Stage.TheVariants.{Idle}
use Rattle.parts.specs.declared.answer.Answer.{Answer}
use Rattle.parts.specs.declared.answer.Answer.TheVariants.{Working, Done, Job, Nothing, Stolen, Moved, Length, GaveUp, Refused}
use Rattle.parts.specs.declared.answer.Refusal.TheVariants as R
use Rattle.gate.specs.declared.Operation.{Operation}
use Rattle.gate.specs.declared.Operation.TheVariants as O
use Rattle.gate.specs.declared.Request.{Request}
use Rattle.gate.specs.declared.Request.TheVariants.{Step, Begin}
use Rattle.machine.specs.declared.state.Machine.{Machine}
use Rattle.machine.specs.State.{After, queue_at, stage_at}
use Rattle.machine.specs.Setup.{zero_machine, setup_of}
use Rattle.machine.specs.Sound.{sound_b}
use Rattle.machine.specs.Call.{call_of}
use Rattle.model.specs.Count.{one, upd, stand, sum_to}

-- ---- calls

-- the session's pool, or some other list of cells
pub data Lent : Type 0 where
  pool : Lent
  other : List ℕ → Lent

pub data Call : Type 0 where
  asks : Lent → (t : ℕ) → Request → Call

abbrev pub lent_by : Call → Lent
lent_by (asks p t r) = p

abbrev pub thread_of : Call → ℕ
thread_of (asks p t r) = t

abbrev pub lent : Lent → List ℕ → List ℕ
lent pool cells = cells
lent (other l) cells = l

-- the session's pool after a call that left these cells of what it was lent
abbrev pub pool_after : Lent → List ℕ → List ℕ → List ℕ
pool_after pool cells after = after
pool_after (other l) cells after = cells

unfoldable pub called_of : Machine → List ℕ → Call → After
called_of m cells (asks p t r) = call_of m (lent p cells) t r

-- no call lends another list of the length that the pool must have
unfoldable pub Lends : ℕ → List Call → Type 0
Lends places [] = Unit
Lends places (c ∷ cs) = ((l : List ℕ) → lent_by c ≡ other l → length l ≢ places * place_cells) × Lends places cs

-- ---- sessions

pub record Event : Type 0 where
  pub call : Call
  pub answer : Answer

pub record Session : Type 0 where
  pub machine : Machine
  pub cells : List ℕ
  pub history : List Event

-- by what a call leaves
unfoldable pub run_by : (Machine → List ℕ → Call → After) → Machine → List ℕ → List Call → Session
run_by calls m cells [] = record { machine = m; cells = cells; history = [] }
run_by calls m cells (c ∷ cs) =
    let a : After = calls m cells c in
    let r : Session = run_by calls a.called.machine (pool_after (lent_by c) cells a.cells) cs in
    record { machine = r.machine; cells = r.cells; history = record { call = c; answer = a.called.answer } ∷ r.history }

abbrev pub run : Machine → List ℕ → List Call → Session
run = run_by called_of

-- k queues of these flavours, n places, the cells whatever they are
abbrev pub session : ℕ → List Flavor → ℕ → List ℕ → List Call → Session
session k flavors n cells calls = run (setup_of k flavors n cells).called.machine (setup_of k flavors n cells).cells calls

-- ---- counts, of job number j

-- x is what the thread last began to push
abbrev pub accepted_by : ℕ → Answer → ℕ → ℕ
accepted_by x Working j = 0
accepted_by x Done j = one x j
accepted_by x (Job v) j = 0
accepted_by x Nothing j = 0
accepted_by x (Stolen s) j = 0
accepted_by x Moved j = 0
accepted_by x (Length d n) j = 0
accepted_by x (GaveUp s) j = 0
accepted_by x (Refused r) j = 0

abbrev pub answered_by : Answer → ℕ → ℕ
answered_by Working j = 0
answered_by Done j = 0
answered_by (Job v) j = one v j
answered_by Nothing j = 0
answered_by (Stolen T.Empty) j = 0
answered_by (Stolen (T.Success v)) j = one v j
answered_by (Stolen T.Retry) j = 0
answered_by Moved j = 0
answered_by (Length d n) j = 0
answered_by (GaveUp s) j = 0
answered_by (Refused r) j = 0

-- what each thread last began to push, after a begin
abbrev pub wished : (ℕ → ℕ) → ℕ → Operation → ℕ → ℕ
wished jobs t (O.Push v) = upd jobs t v
wished jobs t O.Pop = jobs
wished jobs t (O.Length k) = jobs
wished jobs t (O.Steal k) = jobs
wished jobs t (O.Batch k limit) = jobs
wished jobs t (O.BatchAndPop k limit) = jobs

-- a begin that is not refused answers Working
abbrev pub begun_by : Answer → (ℕ → ℕ) → (ℕ → ℕ) → ℕ → ℕ
begun_by Working new old = new
begun_by Done new old = old
begun_by (Job v) new old = old
begun_by Nothing new old = old
begun_by (Stolen s) new old = old
begun_by Moved new old = old
begun_by (Length d n) new old = old
begun_by (GaveUp s) new old = old
begun_by (Refused r) new old = old

abbrev pub jobs_after : (ℕ → ℕ) → Call → Answer → ℕ → ℕ
jobs_after jobs (asks p t (Begin o)) a = begun_by a (wished jobs t o) jobs
jobs_after jobs (asks p t Step) a = jobs

unfoldable pub accepted_from : (ℕ → ℕ) → List Event → ℕ → ℕ
accepted_from jobs [] j = 0
accepted_from jobs (e ∷ h) j = accepted_by (jobs (thread_of e.call)) e.answer j + accepted_from (jobs_after jobs e.call e.answer) h j

abbrev pub accepted : List Event → ℕ → ℕ
accepted h j = accepted_from (λ t. 0) h j

unfoldable pub answered : List Event → ℕ → ℕ
answered [] j = 0
answered (e ∷ h) j = answered_by e.answer j + answered h j

-- ---- what stands in the queues

-- the plain reading of a queue: its jobs front to back, by number
abbrev pub job_at : List ℕ → Queue → ℕ → ℕ
job_at cells q i = read_of cells q.ring (plus_of q.front i)

abbrev pub stands_in : List ℕ → Queue → ℕ → ℕ
stands_in cells q j = stand (job_at cells q) 0 (length_of q.back q.front) j

unfoldable pub standing : Machine → List ℕ → ℕ → ℕ
standing m cells j = sum_to m.queue_count (λ (k : ℕ). stands_in cells (queue_at m k) j)

-- no operation is in flight
abbrev pub AtRest : Machine → Type 0
AtRest m = (t : ℕ) → t < m.queue_count → stage_at m t ≡ Idle

-- ---- refusals

-- over the session's pool neither 3 nor 1; over another list 1
abbrev pub Allowed : Lent → Answer → Type 0
Allowed pool Working = Unit
Allowed pool Done = Unit
Allowed pool (Job v) = Unit
Allowed pool Nothing = Unit
Allowed pool (Stolen s) = Unit
Allowed pool Moved = Unit
Allowed pool (Length d n) = Unit
Allowed pool (GaveUp s) = Unit
Allowed pool (Refused R.PoolLength) = ⊥
Allowed pool (Refused R.Counts) = ⊥
Allowed pool (Refused R.Unsound) = ⊥
Allowed pool (Refused R.NoSuch) = Unit
Allowed pool (Refused R.Busy) = Unit
Allowed pool (Refused R.Idle) = Unit
Allowed pool (Refused R.NoLimit) = Unit
Allowed (other l) a = a ≡ Refused R.PoolLength

unfoldable pub AllAllowed : List Event → Type 0
AllAllowed [] = Unit
AllAllowed (e ∷ h) = Allowed (lent_by e.call) e.answer × AllAllowed h

-- every call is refused with 3
unfoldable pub AllUnsound : List Event → Type 0
AllUnsound [] = Unit
AllUnsound (e ∷ h) = (e.answer ≡ Refused R.Unsound) × AllUnsound h

-- what a session is, by its setup's answer: the machine is sound, and no call was refused but as allowed; or, where the setup was refused, all is as
-- it left it, and every call is refused with 3. A setup has no other answer
abbrev pub Reached : Answer → List ℕ → Session → Type 0
Reached Working cells s = ⊥
Reached Done cells s = (sound_b s.machine ≡ true) × AllAllowed s.history
Reached (Job v) cells s = ⊥
Reached Nothing cells s = ⊥
Reached (Stolen a) cells s = ⊥
Reached Moved cells s = ⊥
Reached (Length d n) cells s = ⊥
Reached (GaveUp a) cells s = ⊥
Reached (Refused r) cells s = (s.machine ≡ zero_machine) × (s.cells ≡ cells) × AllUnsound s.history
