-- A row of exported calls, as firmware makes them after a setup: with any arguments, each on the machine's words that the last one left, and lent the
-- pool as it is then or some other list. Of a call nothing is known but what `hub_queues_call` promises. Counts are made from the numbers that cross the
-- interface alone.
use Rattle.std.specs.Prelude.{◌≡◌, ℕ, ◌+◌, ◌||◌, List, [], ◌∷◌, ◌==◌, slice_index, Result, Ok, Err}
use Rattle.base.specs.Tests.{pick}
use Rattle.kinds.specs.declared.Kind.{Kind}
use Rattle.kinds.specs.declared.Kind.TheVariants.{Step, Push, Pop, OwnLength, Length, Steal, Batch, BatchAndPop}
use Rattle.kinds.specs.declared.UnknownKind.{UnknownKind}
use Rattle.kinds.specs.Kinds.{kind_of, request_of}
use Rattle.model.specs.Count.{one, upd}
use Rattle.theorem.specs.History.{Lent, Call, asks, lent, pool_after}
use Rattle.export.specs.Exported.{call_words, CallTold}

-- ---- rows

-- a call: what it is given beside the words, and what it leaves of words, of the list that it is lent, and as its answer
pub record Entry : Type 0 where
  pub lends : Lent
  pub thread : ℕ
  pub kind : ℕ
  pub source : ℕ
  pub operand : ℕ
  pub words : List ℕ
  pub cells : List ℕ
  pub answer : List ℕ

-- made on these words while the pool is this; r: the kind that its number is read as
abbrev pub Promised : List ℕ → List ℕ → Entry → Result Kind UnknownKind → Type 0
Promised w pool e r =
    ((e.words, e.cells, e.answer) ≡ call_words w (lent e.lends pool) e.thread r e.source e.operand)
    × CallTold w (lent e.lends pool) e.thread r e.source e.operand e.words

unfoldable pub Row : List ℕ → List ℕ → List Entry → Type 0
Row w pool [] = Unit
Row w pool (e ∷ es) = Promised w pool e (kind_of e.kind) × Row e.words (pool_after e.lends pool e.cells) es

-- the words and the pool at a row's end
unfoldable pub words_at : List ℕ → List Entry → List ℕ
words_at w [] = w
words_at w (e ∷ es) = words_at e.words es

unfoldable pub pool_at : List ℕ → List Entry → List ℕ
pool_at pool [] = pool
pool_at pool (e ∷ es) = pool_at (pool_after e.lends pool e.cells) es

-- ---- the session's calls: kinds that are no call's ask for nothing

abbrev pub asked : Entry → Result Kind UnknownKind → List Call → List Call
asked e (Ok k) cs = asks e.lends e.thread (request_of e.thread k e.source e.operand) ∷ cs
asked e (Err x) cs = cs

unfoldable pub calls_in : List Entry → List Call
calls_in [] = []
calls_in (e ∷ es) = asked e (kind_of e.kind) (calls_in es)

-- ---- counts, of job number j

-- an answer's words are its kind, a number, a value and a length; 0 is Working, 1 Done, 2 a pop's job, 5 a thief's
abbrev pub answer_kind : List ℕ → ℕ
answer_kind a = slice_index a 0

abbrev pub answer_value : List ℕ → ℕ
answer_value a = slice_index a 2

-- x is what the thread last began to push
abbrev pub accepted_as : ℕ → List ℕ → ℕ → ℕ
accepted_as x a j = pick (answer_kind a == 1) (one x j) 0

abbrev pub answered_as : List ℕ → ℕ → ℕ
answered_as a j = pick (answer_kind a == 2 || answer_kind a == 5) (one (answer_value a) j) 0

-- what each thread last began to push, after a call of thread t that was not refused
abbrev pub wished_as : Result Kind UnknownKind → (ℕ → ℕ) → ℕ → ℕ → ℕ → ℕ
wished_as (Ok Step) jobs t n = jobs
wished_as (Ok Push) jobs t n = upd jobs t n
wished_as (Ok Pop) jobs t n = jobs
wished_as (Ok OwnLength) jobs t n = jobs
wished_as (Ok Length) jobs t n = jobs
wished_as (Ok Steal) jobs t n = jobs
wished_as (Ok Batch) jobs t n = jobs
wished_as (Ok BatchAndPop) jobs t n = jobs
wished_as (Err x) jobs t n = jobs

abbrev pub jobs_in : (ℕ → ℕ) → Entry → Result Kind UnknownKind → ℕ → ℕ
jobs_in jobs e r = pick (answer_kind e.answer == 0) (wished_as r jobs e.thread e.operand) jobs

unfoldable pub accepted_in : (ℕ → ℕ) → List Entry → ℕ → ℕ
accepted_in jobs [] j = 0
accepted_in jobs (e ∷ es) j = accepted_as (jobs e.thread) e.answer j + accepted_in (jobs_in jobs e (kind_of e.kind)) es j

unfoldable pub answered_in : List Entry → ℕ → ℕ
answered_in [] j = 0
answered_in (e ∷ es) j = answered_as e.answer j + answered_in es j
