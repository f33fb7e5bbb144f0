-- The machine's parts, and the machine with one part changed.
use Rattle.std.specs.Prelude.{ℕ, List, slice_index_or, slice_set, Some, None}
use Rattle.ring.specs.declared.RingNumber.{RingNumber}
use Rattle.ring.specs.Number.{next_number}
use Rattle.parts.specs.declared.queue.Queue.{Queue}
use Rattle.parts.specs.Queues.{queue_in}
use Rattle.parts.specs.declared.stage.Stage.{Stage}
use Rattle.parts.specs.declared.stage.Stage.TheVariants.{Idle}
use Rattle.keeps.specs.declared.Kept.{Kept}
use Rattle.keeps.specs.Kept.{kept_of}
use Rattle.parts.specs.declared.answer.Answer.{Answer}
use Rattle.parts.specs.declared.answer.Answer.TheVariants.{Refused}
use Rattle.parts.specs.declared.answer.Refusal.{Refusal}
use Rattle.parts.specs.Answers.{Told, told}
use Rattle.machine.specs.declared.state.Thread.{Thread}
use Rattle.machine.specs.declared.state.Machine.{Machine}
use Rattle.machine.specs.declared.state.Called.{Called}
use Rattle.parts.specs.Out.{Claim}

-- what a call leaves: the machine with the answer, the pool's cells, and what the answer tells, by its numbers
pub record After : Type 0 where
  pub called : Called
  pub cells : List ℕ
  pub tells : Told

abbrev pub leaves : Called → List ℕ → After
leaves c cells = record { called = c; cells = cells; tells = told c.answer }

abbrev pub after : Machine → Answer → List ℕ → After
after m a cells = leaves (record { machine = m; answer = a }) cells

-- all as it was
abbrev pub refused_of : Machine → Refusal → Called
refused_of m r = record { machine = m; answer = Refused r }

abbrev pub refused : Machine → Refusal → List ℕ → After
refused m r cells = leaves (refused_of m r) cells

abbrev pub idle_thread : Thread
idle_thread = record { stage = Idle }

abbrev pub queue_at : Machine → ℕ → Queue
queue_at m k = queue_in m.queues k

abbrev pub stage_at : Machine → ℕ → Stage
stage_at m t = (slice_index_or m.threads t idle_thread).stage

-- the ring that thread t keeps
abbrev pub kept_at : Machine → ℕ → Kept
kept_at m t = kept_of (stage_at m t)

abbrev pub with_queue : Machine → ℕ → Queue → Machine
with_queue m k q = record {
  queues = slice_set m.queues k q;
  threads = m.threads;
  queue_count = m.queue_count;
  place_count = m.place_count;
  next_ring = m.next_ring;
}

abbrev pub with_stage : Machine → ℕ → Stage → Machine
with_stage m t s = record {
  queues = m.queues;
  threads = slice_set m.threads t (record { stage = s });
  queue_count = m.queue_count;
  place_count = m.place_count;
  next_ring = m.next_ring;
}

-- ring numbers count up: the next, after a claim
abbrev pub number_after : RingNumber → Claim → RingNumber
number_after n None = n
number_after n (Some r) = next_number r.number

abbrev pub counted : Machine → Claim → Machine
counted m g = record {
  queues = m.queues;
  threads = m.threads;
  queue_count = m.queue_count;
  place_count = m.place_count;
  next_ring = number_after m.next_ring g;
}
