-- Threads and queues: whose queue is whose, which queue a step touches, and what a begin and a step leave.
use Rattle.std.specs.Prelude.{Bool, true, false, ℕ, ◌<◌, eqb}
use Rattle.base.specs.Tests.{pick}
use Rattle.model.specs.Count.{upd}
use Rattle.model.specs.Stage.{Flavour, fifo, lifo, Queue, push_back, fifo_back, lifo_back, own, Popper, by_pop, by_batch, steal_front}
use Rattle.model.specs.Stage.{length_back, BatchKind, plain, and_pop, source, source_front, Stage, idle, push, fifo_pop, lifo_pop, shrink, steal}
use Rattle.model.specs.Stage.{len, own_batch, working, Out}
use Rattle.model.specs.Tables.{Offer, push_step, shrink_step, fifo_step, lifo_step, steal_step, length_step, own_batch_step, source_step, own_step}

-- thread t owns queue t: the only two lines that say so
abbrev pub own_queue : ℕ → ℕ
own_queue t = t

abbrev pub owner : ℕ → ℕ
owner k = k

pub record State : Type 0 where
  pub stages : ℕ → Stage
  pub queues : ℕ → Queue

-- the queue that the next step touches, for a thread whose own queue is t
abbrev pub touched : ℕ → Stage → ℕ
touched t idle = t
touched t (push x p) = t
touched t (fifo_pop w p) = t
touched t (lifo_pop w p) = t
touched t (shrink w v z) = t
touched t (steal k p) = k
touched t (len k p) = k
touched t (own_batch p) = t
touched t (source k p) = k
touched t (own k p) = t

abbrev pub busy : Stage → Bool
busy idle = false
busy (push x p) = true
busy (fifo_pop w p) = true
busy (lifo_pop w p) = true
busy (shrink w v z) = true
busy (steal k p) = true
busy (len k p) = true
busy (own_batch p) = true
busy (source k p) = true
busy (own k p) = true

-- fl: the flavours, by queue
abbrev pub step_at : Offer → (ℕ → Flavour) → ℕ → Stage → Queue → Out
step_at g fl t idle q = record { queue = q; stage = idle; answer = working }
step_at g fl t (push x p) q = push_step g x p q
step_at g fl t (fifo_pop w p) q = fifo_step g w p q
step_at g fl t (lifo_pop w p) q = lifo_step g w p q
step_at g fl t (shrink w v z) q = shrink_step g w v z q
step_at g fl t (steal k p) q = steal_step k p q
step_at g fl t (len k p) q = length_step k p q
step_at g fl t (own_batch p) q = own_batch_step p q
step_at g fl t (source k p) q = source_step (fl k) (fl t) k p q
step_at g fl t (own k p) q = own_step g (fl t) k p q

-- the state with what thread t's step left of queue k
abbrev pub stored : State → ℕ → ℕ → Out → State
stored s t k o = record { stages = upd s.stages t o.stage; queues = upd s.queues k o.queue }

-- thread t's step at a stage
abbrev pub step_out : (ℕ → Flavour) → State → ℕ → Offer → Stage → Out
step_out fl s t g x = step_at g fl (own_queue t) x (s.queues (touched (own_queue t) x))

abbrev pub stepped : (ℕ → Flavour) → State → ℕ → Offer → Stage → State
stepped fl s t g x = stored s t (touched (own_queue t) x) (step_out fl s t g x)

-- ---- begin

pub data Operation : Type 0 where
  do_push : (job : ℕ) → Operation
  do_pop : Operation
  do_length : (k : ℕ) → Operation
  do_steal : (k : ℕ) → Operation
  do_batch : (m : BatchKind) (k others : ℕ) → Operation

abbrev pub popping : Flavour → Popper → Stage
popping fifo w = fifo_pop w fifo_back
popping lifo w = lifo_pop w lifo_back

-- from the own queue a batch looks, and a batch and pop pops
abbrev pub from_own : Flavour → BatchKind → Stage
from_own fl plain = own_batch length_back
from_own fl and_pop = popping fl by_batch

abbrev pub first_stage : Flavour → ℕ → Operation → Stage
first_stage fl t (do_push x) = push x push_back
first_stage fl t do_pop = popping fl by_pop
first_stage fl t (do_length k) = len k length_back
first_stage fl t (do_steal k) = steal k steal_front
first_stage fl t (do_batch m k others) = pick (eqb k t) (from_own fl m) (source k (source_front m others))

abbrev pub begun : (ℕ → Flavour) → State → ℕ → Operation → State
begun fl s t o = record { stages = upd s.stages t (first_stage (fl (own_queue t)) (own_queue t) o); queues = s.queues }

-- what each thread last began to push, after a begin that is not refused
abbrev pub wish : (ℕ → ℕ) → ℕ → Operation → ℕ → ℕ
wish mem t (do_push x) = upd mem t x
wish mem t do_pop = mem
wish mem t (do_length k) = mem
wish mem t (do_steal k) = mem
wish mem t (do_batch m k others) = mem

-- the queue that an operation names is one of the n
abbrev pub Exists : ℕ → Operation → Type 0
Exists n (do_push x) = Unit
Exists n do_pop = Unit
Exists n (do_length k) = k < n
Exists n (do_steal k) = k < n
Exists n (do_batch m k others) = k < n
