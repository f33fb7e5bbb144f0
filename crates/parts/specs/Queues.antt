-- A flavour by its number, the queue of zeros, and a queue of several.
use Rattle.std.specs.Prelude.{ℕ, List, pos, ◌==◌, slice_index_or}
use Rattle.base.specs.Tests.{pick}
use Rattle.index.specs.declared.Index.{Index}
use Rattle.parts.specs.declared.queue.Flavor.{Flavor}
use Rattle.parts.specs.declared.queue.Flavor.TheVariants.{Fifo, Lifo}
use Rattle.parts.specs.declared.queue.Queue.{Queue}

-- 0 FIFO, otherwise LIFO
abbrev pub flavor_of : ℕ → Flavor
flavor_of n = pick (n == 0) Fifo Lifo

abbrev pub zero_index : Index
zero_index = record { 0 = pos 0 }

abbrev pub zero_queue : Queue
zero_queue = record {
  flavor = Fifo;
  front = zero_index;
  back = zero_index;
  ring = record { number = record { 0 = 0 }; place = record { 0 = 0 }; capacity = 0 };
}

-- queue k of these, and zeros where there is none
abbrev pub queue_in : List Queue → ℕ → Queue
queue_in queues k = slice_index_or queues k zero_queue
