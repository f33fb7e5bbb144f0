-- A machine as words: three counts, six words for each queue, sixteen for each thread.
use Rattle.std.specs.Prelude.{◌≡◌, ℕ, true, List, [], ◌∷◌, length, get_or, ◌==◌, slice_index, slice_index_or, slice_set}
use Rattle.base.specs.Tests.{pick}
use Rattle.parts.specs.declared.queue.Queue.{Queue}
use Rattle.parts.specs.declared.stage.Stage.{Stage}
use Rattle.parts.specs.Queues.{zero_queue}
use Rattle.machine.specs.declared.state.Thread.{Thread}
use Rattle.machine.specs.declared.state.Machine.{Machine}
use Rattle.machine.specs.State.{idle_thread}
use Rattle.slots.specs.Queue.{queue_words, queue_of}
use Rattle.words.specs.Stage.{stage_words, stage_of}
use Rattle.words.specs.Slices.{queue_in, stage_in, put_queue, put_stage, machine_size, machine_b}

-- ---- read

abbrev pub queues_in : List ℕ → List Queue
queues_in l = queue_of (queue_in l 3) ∷ queue_of (queue_in l 9) ∷ queue_of (queue_in l 15) ∷ queue_of (queue_in l 21) ∷ []

abbrev pub thread_in : List ℕ → ℕ → Thread
thread_in l at = record { stage = stage_of (stage_in l at) }

abbrev pub threads_in : List ℕ → List Thread
threads_in l = thread_in l 27 ∷ thread_in l 43 ∷ thread_in l 59 ∷ thread_in l 75 ∷ []

unfoldable pub machine_in : List ℕ → Machine
machine_in l = record {
  queues = queues_in l;
  threads = threads_in l;
  queue_count = slice_index l 0;
  place_count = slice_index l 1;
  next_ring = record { 0 = slice_index l 2 };
}

-- ---- written

abbrev pub put_counts : List ℕ → ℕ → ℕ → ℕ → List ℕ
put_counts l k n next = slice_set (slice_set (slice_set l 0 k) 1 n) 2 next

abbrev pub put_queues : List ℕ → List Queue → List ℕ
put_queues l queues =
    put_queue (put_queue (put_queue (put_queue l 3 (queue_words (slice_index_or queues 0 zero_queue))) 9 (queue_words (slice_index_or queues 1 zero_queue))) 15
    (queue_words (slice_index_or queues 2 zero_queue))) 21
    (queue_words (slice_index_or queues 3 zero_queue))

abbrev pub thread_at : List Thread → ℕ → Stage
thread_at threads t = (get_or threads t idle_thread).stage

abbrev pub put_threads : List ℕ → List Thread → List ℕ
put_threads l threads =
    put_stage (put_stage (put_stage (put_stage l 27 (stage_words (thread_at threads 0))) 43 (stage_words (thread_at threads 1))) 59 (stage_words (thread_at threads 2))) 75
    (stage_words (thread_at threads 3))

unfoldable pub machine_put : List ℕ → Machine → List ℕ
machine_put l m = put_threads (put_queues (put_counts l m.queue_count m.place_count m.next_ring.0) m.queues) m.threads

-- into words that are as many as a machine has
abbrev pub stored_of : List ℕ → Machine → List ℕ
stored_of l m = pick (length l == machine_size) (machine_put l m) l

-- ---- read again

abbrev pub QueuesTold : List Queue → Type 0
QueuesTold queues =
    (length queues ≡ 4) × (queue_of (queue_words (slice_index_or queues 0 zero_queue)) ≡ slice_index_or queues 0 zero_queue)
    × (queue_of (queue_words (slice_index_or queues 1 zero_queue)) ≡ slice_index_or queues 1 zero_queue) × (queue_of (queue_words (slice_index_or queues 2 zero_queue)) ≡ slice_index_or queues 2 zero_queue)
    × (queue_of (queue_words (slice_index_or queues 3 zero_queue)) ≡ slice_index_or queues 3 zero_queue)

abbrev pub ThreadsTold : List Thread → Type 0
ThreadsTold threads =
    (length threads ≡ 4) × (stage_of (stage_words (thread_at threads 0)) ≡ thread_at threads 0) × (stage_of (stage_words (thread_at threads 1)) ≡ thread_at threads 1)
    × (stage_of (stage_words (thread_at threads 2)) ≡ thread_at threads 2) × (stage_of (stage_words (thread_at threads 3)) ≡ thread_at threads 3)

-- they are the words of a machine, and of this one
abbrev pub Told : List ℕ → Machine → Type 0
Told l m = (machine_b l ≡ true) × (machine_in l ≡ m)
