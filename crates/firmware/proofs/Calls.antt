-- The exported functions on 91 words, with numbers alone: soundness, the refusals and their order, and what a call leaves.
use Rattle.std.proofs.Common.{◌≡◌, ℕ, ◌-◌, ◌^◌, List, [], ◌∷◌, ◌++◌, map, replicate, refl}
use lib.Count.{ones, ones_in}
use Rattle.base.specs.Below.{all_below}
use Rattle.index.specs.Index.{wrap, plus_of, difference_of, length_of, full_b, spans_b, cell_of}
use Rattle.ring.specs.Capacity.{allowed_b}
use Rattle.cells.specs.Cells.{stands_b, spot, read_of, written_of}
use Rattle.kinds.specs.Kinds.{kind_of}
use Rattle.slots.specs.Slots.{index_word, index_of}
use Rattle.words.specs.Slices.{machine_b}
use Rattle.machine.specs.Sound.{sound_b}
use Rattle.machine.specs.Setup.{setup_of}
use Rattle.machine.specs.Step.{gate_of, step_of}
use Rattle.machine.specs.Begin.{begin_of}
use Rattle.export.specs.Words.{machine_in, machine_put}
use Rattle.export.specs.Exported.{setup_words, asked_words, call_words}

-- queues, places, and the ring number that comes next; of a queue its flavour, front, back, ring number, place and capacity; four queues, four threads.
-- Queue 0 is FIFO in place 0; queue 1 and thread 0 are given
abbrev words : List ℕ → List ℕ → List ℕ
words queue thread =
    2 ∷ 2 ∷ 2 ∷ 0 ∷ 0 ∷ 0 ∷ 0 ∷ 0 ∷ 64 ∷ (queue ++ (replicate 12 0 ++ (thread ++ replicate 48 0)))

-- queue 1 is LIFO, with this front and this back, in ring 1 in a place, with a capacity
abbrev queue : ℕ → ℕ → ℕ → ℕ → List ℕ
queue front back place capacity = 1 ∷ front ∷ back ∷ 1 ∷ place ∷ capacity ∷ []

abbrev fresh : List ℕ
fresh = queue 0 0 1 64

-- an idle thread; one with a job that it pushes, at a step; one that asks for the length of a queue, which loaded a back
abbrev idle : List ℕ
idle = replicate 16 0

abbrev pushing : ℕ → ℕ → List ℕ
pushing job at = 1 ∷ job ∷ 0 ∷ at ∷ replicate 12 0

abbrev asking : ℕ → ℕ → List ℕ
asking k b = 4 ∷ k ∷ 0 ∷ 1 ∷ 0 ∷ b ∷ replicate 10 0

-- one whose batch takes n jobs from queue k, holds the ring in place 1, and has copied i of them; and with a job to be written
abbrev copying : ℕ → ℕ → ℕ → List ℕ
copying k n i = 6 ∷ k ∷ 0 ∷ 30 ∷ 0 ∷ 0 ∷ n ∷ i ∷ 0 ∷ 0 ∷ 0 ∷ 0 ∷ 0 ∷ 1 ∷ 1 ∷ 64 ∷ []

abbrev writing : ℕ → ℕ → ℕ → ℕ → List ℕ
writing k n i job = 7 ∷ k ∷ 0 ∷ 30 ∷ 0 ∷ 0 ∷ n ∷ i ∷ 0 ∷ job ∷ 0 ∷ 0 ∷ 0 ∷ 1 ∷ 1 ∷ 64 ∷ []

abbrev pool : List ℕ
pool = replicate 512 5

-- ---- a call: words, cells, thread, kind, source, operand; and what it leaves of words and cells, and its answer

pub record Row : Type 0 where
  pub words : List ℕ
  pub cells : List ℕ
  pub thread : ℕ
  pub kind : ℕ
  pub source : ℕ
  pub operand : ℕ
  pub leaves : List ℕ × List ℕ × List ℕ

abbrev row : List ℕ → List ℕ → ℕ → ℕ → ℕ → ℕ → List ℕ × List ℕ × List ℕ → Row
row w c t k src n l = record {
  words = w;
  cells = c;
  thread = t;
  kind = k;
  source = src;
  operand = n;
  leaves = l;
}

abbrev called : Row → Row
called r =
    row r.words r.cells r.thread r.kind r.source r.operand (call_words r.words r.cells r.thread (kind_of r.kind) r.source r.operand)

-- refused with a number: all as it was
abbrev refused : ℕ → List ℕ → List ℕ → ℕ → ℕ → ℕ → ℕ → Row
refused number w c t k src n = row w c t k src n (w, c, 10 ∷ number ∷ 0 ∷ 0 ∷ [])

-- a step of thread 0 that is refused with 3
abbrev unsound : List ℕ → Row
unsound w = refused 3 w pool 0 0 0 0

-- a step of thread 0 that goes on, with its next words
abbrev goes : List ℕ → List ℕ → Row
goes w after = row w pool 0 0 0 0 (after, pool, 0 ∷ 0 ∷ 0 ∷ 0 ∷ [])

abbrev pub rows : List Row
rows =
    -- a push of 7: begun, and then its write of cell 0; the source is not looked at
    row (words fresh idle) pool 0 1 9 7 (words fresh (pushing 7 0), pool, 0 ∷ 0 ∷ 0 ∷ 0 ∷ []) ∷
    row (words fresh (pushing 7 2)) pool 0 0 9 0 (words fresh (pushing 7 3), 7 ∷ replicate 511 5, 0 ∷ 0 ∷ 0 ∷ 0 ∷ []) ∷
    -- a length that is -1: the difference in two's complement, and 0
    row (words (queue 0 (2 ^ 64 - 1) 1 64) (asking 1 (2 ^ 64 - 1))) pool 0 0 0 0
    (words (queue 0 (2 ^ 64 - 1) 1 64) idle, pool, 8 ∷ 0 ∷ (2 ^ 64 - 1) ∷ 0 ∷ []) ∷
    -- each difference from -1 to capacity
    unsound (words (queue 0 (2 ^ 64 - 2) 1 64) (asking 1 0)) ∷
    row (words (queue 0 64 1 64) (asking 1 64)) pool 0 0 0 0 (words (queue 0 64 1 64) idle, pool, 8 ∷ 0 ∷ 64 ∷ 64 ∷ []) ∷
    unsound (words (queue 0 65 1 64) (asking 1 65)) ∷
    -- capacities, places
    unsound (words (queue 0 0 1 65) (pushing 7 0)) ∷
    unsound (words (queue 0 0 1 512) (pushing 7 0)) ∷
    unsound (words (queue 0 0 0 64) (pushing 7 0)) ∷
    unsound (words (queue 0 0 2 64) (pushing 7 0)) ∷
    -- the source queue it remembers exists
    unsound (words fresh (asking 2 0)) ∷
    unsound (words fresh (copying 2 3 0)) ∷
    unsound (words fresh (writing 2 3 0 5)) ∷
    -- n is at most 256, and the counter at most n
    goes (words fresh (copying 1 256 256)) (words fresh (writing 1 256 256 5)) ∷
    unsound (words fresh (copying 1 257 0)) ∷
    unsound (words fresh (writing 1 257 0 5)) ∷
    goes (words fresh (copying 1 3 3)) (words fresh (writing 1 3 3 5)) ∷
    unsound (words fresh (copying 1 3 4)) ∷
    unsound (words fresh (writing 1 3 4 5)) ∷
    -- words that no machine has: too few, too many, a flavour of 2, an idle thread with a number, an operation 8
    unsound (replicate 90 0) ∷
    unsound (words fresh (pushing 7 0) ++ 0 ∷ []) ∷
    unsound (words (2 ∷ 0 ∷ 0 ∷ 1 ∷ 1 ∷ 64 ∷ []) (pushing 7 0)) ∷
    unsound (words fresh (0 ∷ 7 ∷ replicate 14 0)) ∷
    unsound (words fresh (8 ∷ replicate 15 0)) ∷
    -- begin: 3, 1, 4 (thread, then source), 5, 7, each before the next
    refused 3 (words (queue 0 0 1 65) idle) (5 ∷ []) 0 2 0 0 ∷
    refused 1 (words fresh idle) (5 ∷ []) 2 2 0 0 ∷
    refused 4 (words fresh idle) pool 2 2 0 0 ∷
    refused 4 (words fresh idle) pool 0 4 2 0 ∷
    refused 4 (words fresh idle) pool 0 5 2 0 ∷
    refused 4 (words fresh idle) pool 0 6 2 0 ∷
    refused 4 (words fresh (pushing 7 0)) pool 0 7 2 0 ∷
    refused 5 (words fresh (pushing 7 0)) pool 0 6 1 0 ∷
    refused 5 (words fresh (pushing 7 0)) pool 0 3 9 0 ∷
    refused 7 (words fresh idle) pool 0 6 1 0 ∷
    refused 7 (words fresh idle) pool 0 7 1 0 ∷
    -- step: 3, 1, 4, 6
    refused 3 (words (queue 0 0 1 65) idle) (5 ∷ []) 2 0 0 0 ∷
    refused 1 (words fresh idle) (5 ∷ []) 2 0 0 0 ∷
    refused 4 (words fresh idle) pool 2 0 0 0 ∷
    refused 6 (words fresh idle) pool 0 0 9 9 ∷
    -- a kind above 7 is no call's
    row (words fresh idle) pool 0 8 0 0 (words fresh idle, pool, 11 ∷ 0 ∷ 0 ∷ 0 ∷ []) ∷
    []

pub all_rows : map called rows ≡ rows
unfolding asked_words kind_of machine_b machine_in machine_put index_word index_of gate_of step_of begin_of sound_b all_below allowed_b ones ones_in spans_b full_b difference_of length_of plus_of wrap cell_of stands_b spot read_of written_of
all_rows = refl

-- ---- a setup: words, cells, queues, flavours as bits, places; and what it leaves of the words, and its answer

pub record Setup : Type 0 where
  pub words : List ℕ
  pub cells : List ℕ
  pub queues : ℕ
  pub flavors : ℕ
  pub places : ℕ
  pub leaves : List ℕ × List ℕ

abbrev setup : List ℕ → List ℕ → ℕ → ℕ → ℕ → List ℕ × List ℕ → Setup
setup w c k bits n l = record { words = w; cells = c; queues = k; flavors = bits; places = n; leaves = l }

abbrev set_up : Setup → Setup
set_up s =
    setup s.words s.cells s.queues s.flavors s.places (setup_words s.words s.cells s.queues s.flavors s.places)

abbrev zeros : List ℕ
zeros = replicate 91 0

abbrev pub setups : List Setup
setups =
    setup (replicate 91 7) pool 2 2 2 (words fresh idle, 1 ∷ 0 ∷ 0 ∷ 0 ∷ []) ∷
    -- refused with 2 before 1: the machine given is all zeros
    setup (replicate 91 7) pool 3 0 2 (zeros, 10 ∷ 2 ∷ 0 ∷ 0 ∷ []) ∷
    setup (replicate 91 7) (5 ∷ []) 5 0 5 (zeros, 10 ∷ 2 ∷ 0 ∷ 0 ∷ []) ∷
    setup (replicate 91 7) (5 ∷ []) 2 0 2 (zeros, 10 ∷ 1 ∷ 0 ∷ 0 ∷ []) ∷
    -- no room for a machine
    setup (replicate 90 7) pool 2 2 2 (replicate 90 7, 10 ∷ 3 ∷ 0 ∷ 0 ∷ []) ∷
    []

pub all_setups : map set_up setups ≡ setups
unfolding setup_words setup_of machine_put index_word
all_setups = refl

-- which is never sound
pub zeros_refused : called (refused 3 zeros [] 0 0 0 0) ≡ refused 3 zeros [] 0 0 0 0
unfolding asked_words kind_of machine_b machine_in machine_put index_word index_of gate_of step_of sound_b all_below
zeros_refused = refl
