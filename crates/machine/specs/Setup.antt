-- At setup queue q has ring q in place q, capacity 64; setup writes no cell. Setup tests 2, then 1; a refused one gives the machine of zeros.
use Rattle.std.specs.Prelude.{ℕ, List, [], ◌∷◌, length, nat_lt, slice_index_or, Result, Ok, Err}
use Rattle.base.specs.Tests.{pick}
use Rattle.ring.specs.Capacity.{smallest}
use Rattle.parts.specs.declared.queue.Flavor.{Flavor}
use Rattle.parts.specs.declared.queue.Flavor.TheVariants.{Fifo}
use Rattle.parts.specs.declared.queue.Queue.{Queue}
use Rattle.parts.specs.Queues.{zero_index, zero_queue}
use Rattle.parts.specs.declared.answer.Refusal.{Refusal}
use Rattle.parts.specs.declared.answer.Answer.TheVariants.{Done}
use Rattle.gate.specs.Gate.{setup_tests}
use Rattle.machine.specs.declared.state.Thread.{Thread}
use Rattle.machine.specs.declared.state.Machine.{Machine}
use Rattle.machine.specs.State.{After, after, refused, idle_thread}

abbrev pub idle_threads : List Thread
idle_threads = idle_thread ∷ idle_thread ∷ idle_thread ∷ idle_thread ∷ []

abbrev pub zero_machine : Machine
zero_machine = record {
  queues = zero_queue ∷ zero_queue ∷ zero_queue ∷ zero_queue ∷ [];
  threads = idle_threads;
  queue_count = 0;
  place_count = 0;
  next_ring = record { 0 = 0 };
}

abbrev pub fresh_queue : ℕ → List Flavor → ℕ → Queue
fresh_queue k flavors q =
    pick (nat_lt q k)
    (record {
      flavor = slice_index_or flavors q Fifo;
      front = zero_index;
      back = zero_index;
      ring = record { number = record { 0 = q }; place = record { 0 = q }; capacity = smallest };
    })
    zero_queue

abbrev pub fresh_queues : ℕ → List Flavor → List Queue
fresh_queues k flavors = fresh_queue k flavors 0 ∷ fresh_queue k flavors 1 ∷ fresh_queue k flavors 2 ∷ fresh_queue k flavors 3 ∷ []

abbrev pub fresh_machine : ℕ → List Flavor → ℕ → Machine
fresh_machine k flavors n = record {
  queues = fresh_queues k flavors;
  threads = idle_threads;
  queue_count = k;
  place_count = n;
  next_ring = record { 0 = k };
}

abbrev pub setting_up : Result Unit Refusal → ℕ → List Flavor → ℕ → List ℕ → After
setting_up (Ok x) k flavors n cells = after (fresh_machine k flavors n) Done cells
setting_up (Err r) k flavors n cells = refused zero_machine r cells

-- k queues of these flavours, n places
unfoldable pub setup_of : ℕ → List Flavor → ℕ → List ℕ → After
setup_of k flavors n cells = setting_up (setup_tests k n (length cells)) k flavors n cells
