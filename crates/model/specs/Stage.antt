-- A queue with all the rings it ever had, by number; where a thread stands in its operation; the answers. The stages are those of the code,
-- one for one: b and f are a back and a front that were loaded, and a ring is its number in its queue.
use Rattle.std.specs.Prelude.{ℕ, suc, ◌%◌}
use Rattle.model.specs.Count.{upd}

pub data Flavour : Type 0 where
  fifo lifo : Flavour

-- ---- a queue

-- ring: the current one; top: the number of the next ring; rings and caps: every ring's cells and capacity
pub record Queue : Type 0 where
  pub front : ℕ
  pub back : ℕ
  pub ring : ℕ
  pub top : ℕ
  pub rings : ℕ → ℕ → ℕ
  pub caps : ℕ → ℕ

-- index i in the ring r; in the current ring
abbrev pub cell : Queue → ℕ → ℕ → ℕ
cell q r i = q.rings r (i % q.caps r)

abbrev pub at : Queue → ℕ → ℕ
at q i = cell q q.ring i

abbrev pub cap : Queue → ℕ
cap q = q.caps q.ring

abbrev pub set_front : Queue → ℕ → Queue
set_front q v = record { front = v; back = q.back; ring = q.ring; top = q.top; rings = q.rings; caps = q.caps }

abbrev pub set_back : Queue → ℕ → Queue
set_back q v = record { front = q.front; back = v; ring = q.ring; top = q.top; rings = q.rings; caps = q.caps }

abbrev pub set_cell : Queue → ℕ → ℕ → Queue
set_cell q i v = record {
  front = q.front;
  back = q.back;
  ring = q.ring;
  top = q.top;
  rings = upd q.rings q.ring (upd (q.rings q.ring) (i % cap q) v);
  caps = q.caps;
}

-- a ring of capacity c with these cells becomes the current one
abbrev pub swap : Queue → ℕ → (ℕ → ℕ) → Queue
swap q c cells = record {
  front = q.front;
  back = q.back;
  ring = q.top;
  top = suc q.top;
  rings = upd q.rings q.top cells;
  caps = upd q.caps q.top c;
}

-- ---- stages

-- to a capacity c; from the claim on with the new ring's cells
pub data ResizeStage : Type 0 where
  resize_back : (c : ℕ) → ResizeStage
  resize_front : (c b : ℕ) → ResizeStage
  resize_copy : (c b i : ℕ) → (ℕ → ℕ) → ResizeStage
  resize_swap : (c : ℕ) → (ℕ → ℕ) → ResizeStage

pub data PushStage : Type 0 where
  push_back : PushStage
  push_front : (b : ℕ) → PushStage
  push_resize : (b : ℕ) → ResizeStage → PushStage
  push_write : (b : ℕ) → PushStage
  push_store : (b : ℕ) → PushStage

-- others: the difference first seen, less one
pub data FifoPopStage : Type 0 where
  fifo_back : FifoPopStage
  fifo_front : (b : ℕ) → FifoPopStage
  fifo_add : (b others : ℕ) → FifoPopStage
  fifo_restore : (f : ℕ) → FifoPopStage
  fifo_read : (f others : ℕ) → FifoPopStage

-- others: the difference b - 1 - f, less one; the last job is at b - 1
pub data LifoPopStage : Type 0 where
  lifo_back : LifoPopStage
  lifo_front : (b : ℕ) → LifoPopStage
  lifo_store : (b : ℕ) → LifoPopStage
  lifo_reload : (b : ℕ) → LifoPopStage
  lifo_restore : (b : ℕ) → LifoPopStage
  lifo_last : (b : ℕ) → LifoPopStage
  lifo_exchange : (b job : ℕ) → LifoPopStage
  lifo_won : (b job : ℕ) → LifoPopStage
  lifo_read : (b others : ℕ) → LifoPopStage

-- who pops: a pop, or a batch and pop from the own queue
pub data Popper : Type 0 where
  by_pop by_batch : Popper

pub data StealStage : Type 0 where
  steal_front : StealStage
  steal_back : (f : ℕ) → StealStage
  steal_ring : (f : ℕ) → StealStage
  steal_read : (r f : ℕ) → StealStage
  steal_reload : (r f job : ℕ) → StealStage
  steal_exchange : (r f job : ℕ) → StealStage

pub data LengthStage : Type 0 where
  length_back : LengthStage
  length_front : (b : ℕ) → LengthStage

pub data BatchKind : Type 0 where
  plain and_pop : BatchKind

-- n jobs from f on are wanted
pub record Wanted : Type 0 where
  pub kind : BatchKind
  pub f : ℕ
  pub n : ℕ

-- the job that a batch and pop is to answer
pub data InHand : Type 0 where
  none : InHand
  some : ℕ → InHand

-- the source's ring, held until the answer; its front; how many jobs go to the own queue, from its back b on
pub record Haul : Type 0 where
  pub ring : ℕ
  pub f : ℕ
  pub n : ℕ
  pub b : ℕ
  pub hand : InHand

-- the steps of a batch on its source: all at once from a FIFO queue, one by one from a LIFO queue. others: the limit less one
pub data SourceStage : Type 0 where
  source_front : (kind : BatchKind) (others : ℕ) → SourceStage
  source_back : (kind : BatchKind) (others f : ℕ) → SourceStage
  source_ring : (w : Wanted) (b : ℕ) → SourceStage
  source_first : (h : Haul) → SourceStage
  all_copy : (h : Haul) (i : ℕ) → SourceStage
  all_reload : (h : Haul) → SourceStage
  all_exchange : (h : Haul) → SourceStage
  one_first : (h : Haul) (job : ℕ) → SourceStage
  one_back : (h : Haul) (i : ℕ) → SourceStage
  one_read : (h : Haul) (i : ℕ) → SourceStage
  one_reload : (h : Haul) (i job : ℕ) → SourceStage
  one_exchange : (h : Haul) (i job : ℕ) → SourceStage

-- the steps of a batch on the thread's own queue: reserve, writes, reversal, store
pub data OwnStage : Type 0 where
  reserve_back : (w : Wanted) → OwnStage
  reserve_front : (w : Wanted) (b : ℕ) → OwnStage
  reserve_resize : (w : Wanted) → ResizeStage → OwnStage
  own_back : (w : Wanted) → OwnStage
  all_write : (h : Haul) (i job : ℕ) → OwnStage
  one_write : (h : Haul) (i job : ℕ) → OwnStage
  swap_near : (h : Haul) (x : ℕ) → OwnStage
  swap_far : (h : Haul) (x near : ℕ) → OwnStage
  swap_put : (h : Haul) (x near far : ℕ) → OwnStage
  swap_last : (h : Haul) (x near : ℕ) → OwnStage
  own_store : (h : Haul) → OwnStage

-- of a steal, a length and a batch the first number is the queue that it names
pub data Stage : Type 0 where
  idle : Stage
  push : (job : ℕ) → PushStage → Stage
  fifo_pop : Popper → FifoPopStage → Stage
  lifo_pop : Popper → LifoPopStage → Stage
  shrink : Popper → (job : ℕ) → ResizeStage → Stage
  steal : (k : ℕ) → StealStage → Stage
  len : (k : ℕ) → LengthStage → Stage
  own_batch : LengthStage → Stage
  source : (k : ℕ) → SourceStage → Stage
  own : (k : ℕ) → OwnStage → Stage

-- ---- answers

pub data Answer : Type 0 where
  working : Answer
  done : Answer
  job : Popper → ℕ → Answer
  nothing : Popper → Answer
  empty : Answer
  success : ℕ → Answer
  retry : Answer
  moved : Answer
  two_numbers : (b f : ℕ) → Answer
  too_large : Answer
  no_ring : Answer

-- what a step leaves: the one queue that it touched, the thread's stage, the answer
pub record Out : Type 0 where
  pub queue : Queue
  pub stage : Stage
  pub answer : Answer

abbrev pub out : Queue → Stage → Answer → Out
out q s a = record { queue = q; stage = s; answer = a }

abbrev pub going : Queue → Stage → Out
going q s = out q s working

abbrev pub ended : Queue → Answer → Out
ended q a = out q idle a
