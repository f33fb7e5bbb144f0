-- The slots of a stage's words: an index is its two's complement bits, a ring its number, its place and its capacity. A slot that a stage
-- does not use is 0.
use Rattle.std.specs.Prelude.{ℕ, ◌^◌, Bool, ◌&&◌, ◌==◌}
use Rattle.std.specs.Int.{w64}
use Rattle.std.proofs.Common.{to_z}
use Rattle.index.specs.declared.Index.{Index}
use Rattle.index.specs.Index.{mod_z}
use Rattle.ring.specs.declared.Ring.{Ring}
use Rattle.slots.specs.declared.StageWords.{StageWords}

unfoldable pub index_word : Index → ℕ
index_word i = mod_z i.0 (2 ^ 64)

unfoldable pub index_of : ℕ → Index
index_of u = record { 0 = to_z w64 u }

-- all of them, in order
abbrev pub slots : ℕ → ℕ → ℕ → ℕ → ℕ → ℕ → ℕ → ℕ → ℕ → ℕ → ℕ → ℕ → ℕ → ℕ → ℕ → ℕ → StageWords
slots o x k s f b n i e j far hand held ring place c = record {
  operation = o;
  number = x;
  kind = k;
  step = s;
  f = f;
  b = b;
  n = n;
  i = i;
  end = e;
  job = j;
  far = far;
  hand = hand;
  held = held;
  ring = ring;
  place = place;
  capacity = c;
}

-- a step that remembers nothing
abbrev pub bare : ℕ → StageWords
bare s = slots 0 0 0 s 0 0 0 0 0 0 0 0 0 0 0 0

-- ---- what a step remembers

abbrev pub with_f : Index → StageWords → StageWords
with_f j w = slots w.operation w.number w.kind w.step (index_word j) w.b w.n w.i w.end w.job w.far w.hand w.held w.ring w.place w.capacity

abbrev pub with_b : Index → StageWords → StageWords
with_b j w = slots w.operation w.number w.kind w.step w.f (index_word j) w.n w.i w.end w.job w.far w.hand w.held w.ring w.place w.capacity

abbrev pub with_i : Index → StageWords → StageWords
with_i j w = slots w.operation w.number w.kind w.step w.f w.b w.n (index_word j) w.end w.job w.far w.hand w.held w.ring w.place w.capacity

abbrev pub with_end : Index → StageWords → StageWords
with_end j w = slots w.operation w.number w.kind w.step w.f w.b w.n w.i (index_word j) w.job w.far w.hand w.held w.ring w.place w.capacity

abbrev pub with_n : ℕ → StageWords → StageWords
with_n x w = slots w.operation w.number w.kind w.step w.f w.b x w.i w.end w.job w.far w.hand w.held w.ring w.place w.capacity

abbrev pub with_count : ℕ → StageWords → StageWords
with_count x w = slots w.operation w.number w.kind w.step w.f w.b w.n x w.end w.job w.far w.hand w.held w.ring w.place w.capacity

abbrev pub with_job : ℕ → StageWords → StageWords
with_job x w = slots w.operation w.number w.kind w.step w.f w.b w.n w.i w.end x w.far w.hand w.held w.ring w.place w.capacity

abbrev pub with_far : ℕ → StageWords → StageWords
with_far x w = slots w.operation w.number w.kind w.step w.f w.b w.n w.i w.end w.job x w.hand w.held w.ring w.place w.capacity

abbrev pub with_capacity : ℕ → StageWords → StageWords
with_capacity x w = slots w.operation w.number w.kind w.step w.f w.b w.n w.i w.end w.job w.far w.hand w.held w.ring w.place x

abbrev pub with_ring : Ring → StageWords → StageWords
with_ring r w = slots w.operation w.number w.kind w.step w.f w.b w.n w.i w.end w.job w.far w.hand w.held r.number.0 r.place.0 r.capacity

abbrev pub ring_of : StageWords → Ring
ring_of w = record { number = record { 0 = w.ring }; place = record { 0 = w.place }; capacity = w.capacity }

-- the operation of a step, and the number that it carries: a job, who pops, or a queue
abbrev pub with_operation : ℕ → ℕ → StageWords → StageWords
with_operation o x w = slots o x w.kind w.step w.f w.b w.n w.i w.end w.job w.far w.hand w.held w.ring w.place w.capacity

-- ---- the same words

abbrev pub same_stage_b : StageWords → StageWords → Bool
same_stage_b v w =
    (v.operation == w.operation) &&
    ((v.number == w.number) &&
    ((v.kind == w.kind) &&
    ((v.step == w.step) &&
    ((v.f == w.f) &&
    ((v.b == w.b) &&
    ((v.n == w.n) &&
    ((v.i == w.i) &&
    ((v.end == w.end) &&
    ((v.job == w.job) &&
    ((v.far == w.far) &&
    ((v.hand == w.hand) &&
    ((v.held == w.held) &&
    ((v.ring == w.ring) &&
    ((v.place == w.place) &&
    v.capacity == w.capacity))))))))))))))
