-- The words of queues and stages in a longer row of words: three counts, six words for each queue, sixteen for each thread.
use Rattle.std.specs.Prelude.{ℕ, zero, suc, ◌+◌, Bool, false, ◌&&◌, List, [], ◌∷◌, length, ◌==◌, slice_index, slice_set}
use Rattle.std.specs.List.{list_all}
use Rattle.base.specs.Tests.{pick}
use Rattle.slots.specs.declared.queue.QueueWords.{QueueWords}
use Rattle.slots.specs.declared.StageWords.{StageWords}
use Rattle.slots.specs.Queue.{queue_words, queue_of, same_queue_b}
use Rattle.slots.specs.Slots.{same_stage_b}
use Rattle.words.specs.Stage.{stage_words, stage_of}

-- the number of `MACHINE_WORDS`
abbrev pub machine_size : ℕ
machine_size = 91

abbrev pub queue_in : List ℕ → ℕ → QueueWords
queue_in l at = record {
  flavor = slice_index l (at + 0);
  front = slice_index l (at + 1);
  back = slice_index l (at + 2);
  number = slice_index l (at + 3);
  place = slice_index l (at + 4);
  capacity = slice_index l (at + 5);
}

abbrev pub stage_in : List ℕ → ℕ → StageWords
stage_in l at = record {
  operation = slice_index l (at + 0);
  number = slice_index l (at + 1);
  kind = slice_index l (at + 2);
  step = slice_index l (at + 3);
  f = slice_index l (at + 4);
  b = slice_index l (at + 5);
  n = slice_index l (at + 6);
  i = slice_index l (at + 7);
  end = slice_index l (at + 8);
  job = slice_index l (at + 9);
  far = slice_index l (at + 10);
  hand = slice_index l (at + 11);
  held = slice_index l (at + 12);
  ring = slice_index l (at + 13);
  place = slice_index l (at + 14);
  capacity = slice_index l (at + 15);
}

-- the first k words of a row, put from one place on
abbrev pub put_first : ℕ → List ℕ → ℕ → List ℕ → List ℕ
put_first zero l at row = l
put_first (suc k) l at row = slice_set (put_first k l at row) (at + k) (slice_index row k)

abbrev pub put_row : List ℕ → ℕ → List ℕ → List ℕ
put_row l at row = put_first (length row) l at row

abbrev pub put_queue : List ℕ → ℕ → QueueWords → List ℕ
put_queue l at w = put_row l at (w.flavor ∷ w.front ∷ w.back ∷ w.number ∷ w.place ∷ w.capacity ∷ [])

abbrev pub put_stage : List ℕ → ℕ → StageWords → List ℕ
put_stage l at w =
    put_row l at
    (w.operation ∷ w.number ∷ w.kind ∷ w.step ∷ w.f ∷ w.b ∷ w.n ∷ w.i ∷ w.end ∷ w.job ∷ w.far ∷ w.hand ∷ w.held ∷ w.ring ∷ w.place ∷ w.capacity ∷ [])

-- words that are read as a queue whose words they are; and so of a stage
abbrev pub queue_b : QueueWords → Bool
queue_b w = same_queue_b w (queue_words (queue_of w))

abbrev pub stage_b : StageWords → Bool
stage_b w = same_stage_b w (stage_words (stage_of w))

-- of each queue and of each thread of a machine
abbrev pub queues_b : List ℕ → Bool
queues_b l = list_all (λ at. queue_b (queue_in l at)) (3 ∷ 9 ∷ 15 ∷ 21 ∷ [])

abbrev pub stages_b : List ℕ → Bool
stages_b l = list_all (λ at. stage_b (stage_in l at)) (27 ∷ 43 ∷ 59 ∷ 75 ∷ [])

-- words that a machine has, sound or not
unfoldable pub machine_b : List ℕ → Bool
machine_b l = pick (length l == machine_size) (queues_b l && stages_b l) false
