-- A queue as words.
use Rattle.std.specs.Prelude.{ℕ, ◌/◌, ◌%◌, Bool, ◌&&◌, List, [], ◌∷◌, ◌==◌}
use Rattle.parts.specs.declared.queue.Flavor.{Flavor}
use Rattle.parts.specs.declared.queue.Flavor.TheVariants.{Fifo, Lifo}
use Rattle.parts.specs.declared.queue.Queue.{Queue}
use Rattle.parts.specs.Queues.{flavor_of}
use Rattle.slots.specs.declared.queue.QueueWords.{QueueWords}
use Rattle.slots.specs.Slots.{index_word, index_of}

abbrev pub flavor_word : Flavor → ℕ
flavor_word Fifo = 0
flavor_word Lifo = 1

-- queue q is LIFO where bit q is set
abbrev pub flavors_of : ℕ → List Flavor
flavors_of bits = flavor_of (bits % 2) ∷ flavor_of (bits / 2 % 2) ∷ flavor_of (bits / 4 % 2) ∷ flavor_of (bits / 8 % 2) ∷ []

abbrev pub queue_words : Queue → QueueWords
queue_words q = record {
  flavor = flavor_word q.flavor;
  front = index_word q.front;
  back = index_word q.back;
  number = q.ring.number.0;
  place = q.ring.place.0;
  capacity = q.ring.capacity;
}

abbrev pub queue_of : QueueWords → Queue
queue_of w = record {
  flavor = flavor_of w.flavor;
  front = index_of w.front;
  back = index_of w.back;
  ring = record { number = record { 0 = w.number }; place = record { 0 = w.place }; capacity = w.capacity };
}

abbrev pub same_queue_b : QueueWords → QueueWords → Bool
same_queue_b v w =
    (v.flavor == w.flavor) &&
    (v.front == w.front &&
    (v.back == w.back &&
    (v.number == w.number && (v.place == w.place && v.capacity == w.capacity))))
