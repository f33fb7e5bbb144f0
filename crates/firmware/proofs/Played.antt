-- A row that meets the theorem's premises: 91 words of zeros and one cleared place, a setup of one queue, and thread 0 pushes job 7, in five calls. The
-- job is accepted once, and stands in the queue.
use Rattle.std.proofs.Common.{◌≡◌, ℕ, zero, suc, ◌+◌, ◌-◌, List, [], ◌∷◌, replicate, refl, arith}
use lib.Count.{ones, ones_in}
use Rattle.base.specs.Below.{all_below}
use Rattle.index.specs.Index.{wrap, plus_of, difference_of, full_b, spans_b, cell_of}
use Rattle.ring.specs.Capacity.{allowed_b}
use Rattle.cells.specs.Cells.{place_cells, stands_b, spot, written_of}
use Rattle.kinds.specs.Kinds.{kind_of}
use Rattle.machine.specs.Sound.{sound_b}
use Rattle.machine.specs.Setup.{setup_of}
use Rattle.machine.specs.Begin.{begin_of}
use Rattle.machine.specs.Step.{gate_of, step_of}
use Rattle.slots.specs.Slots.{index_word, index_of}
use Rattle.words.specs.Slices.{machine_b}
use Rattle.model.specs.Count.{one, upd}
use Rattle.theorem.specs.History.{pool, Lends, standing, AtRest}
use Rattle.theorem.proofs.Runs.{own_pool}
use Rattle.export.specs.Words.{machine_in, machine_put}
use Rattle.export.specs.Exported.{setup_words, SetupTold, asked_words}
use Rattle.firmware.specs.Rows.{Entry, Promised, Row, words_at, pool_at, calls_in, accepted_in, answered_in}
use Rattle.firmware.proofs.Rows.{conserved_in_words}

-- a FIFO queue with ring 0 in place 0, front 0 and this back; thread 0 at a step of an operation that has a number, and at back 0
abbrev words : ℕ → ℕ → ℕ → ℕ → List ℕ
words back operation number step =
    1 ∷ 1 ∷ 1 ∷ 0 ∷ 0 ∷ back ∷ 0 ∷ 0 ∷ 64 ∷ 0 ∷ 0 ∷ 0 ∷ 0 ∷ 0 ∷ 0 ∷ 0 ∷ 0 ∷ 0 ∷ 0 ∷ 0 ∷ 0 ∷ 0 ∷ 0 ∷ 0 ∷ 0 ∷ 0 ∷ 0 ∷ operation ∷ number ∷ 0 ∷ step ∷ replicate 60 0

-- a place with this in its first cell
abbrev cells : ℕ → List ℕ
cells v = v ∷ replicate (place_cells - 1) 0

abbrev working : List ℕ
working = 0 ∷ 0 ∷ 0 ∷ 0 ∷ []

abbrev done : List ℕ
done = 1 ∷ 0 ∷ 0 ∷ 0 ∷ []

-- a call of thread 0, and what it leaves
abbrev makes : ℕ → ℕ → List ℕ → List ℕ → List ℕ → Entry
makes kind operand w c answer = record {
  lends = pool;
  thread = 0;
  kind = kind;
  source = 0;
  operand = operand;
  words = w;
  cells = c;
  answer = answer;
}

abbrev begins : Entry
begins = makes 1 7 (words 0 1 7 0) (cells 0) working

abbrev loads_back : Entry
loads_back = makes 0 0 (words 0 1 7 1) (cells 0) working

abbrev loads_front : Entry
loads_front = makes 0 0 (words 0 1 7 2) (cells 0) working

abbrev writes : Entry
writes = makes 0 0 (words 0 1 7 3) (cells 7) working

abbrev stores_back : Entry
stores_back = makes 0 0 (words 1 0 0 0) (cells 7) done

abbrev pub a_push : List Entry
a_push = begins ∷ loads_back ∷ loads_front ∷ writes ∷ stores_back ∷ []

pub set_up : ((words 0 0 0 0, done) ≡ setup_words (replicate 91 0) (cells 0) 1 0 1) × SetupTold (replicate 91 0) (cells 0) 1 0 1 (words 0 0 0 0)
unfolding setup_words setup_of machine_b machine_in machine_put index_word index_of
set_up = (refl, λ h. (refl, refl))

begins_so : Promised (words 0 0 0 0) (cells 0) begins (kind_of 1)
unfolding asked_words kind_of machine_b machine_in machine_put gate_of sound_b all_below allowed_b ones ones_in spans_b difference_of wrap index_word index_of begin_of
begins_so = (refl, λ h. (refl, refl))

loads_back_so : Promised (words 0 1 7 0) (cells 0) loads_back (kind_of 0)
unfolding asked_words kind_of machine_b machine_in machine_put gate_of sound_b all_below allowed_b ones ones_in spans_b difference_of wrap index_word index_of step_of
loads_back_so = (refl, λ h. (refl, refl))

loads_front_so : Promised (words 0 1 7 1) (cells 0) loads_front (kind_of 0)
unfolding asked_words kind_of machine_b machine_in machine_put gate_of sound_b all_below allowed_b ones ones_in spans_b difference_of wrap index_word index_of step_of full_b
loads_front_so = (refl, λ h. (refl, refl))

writes_so : Promised (words 0 1 7 2) (cells 0) writes (kind_of 0)
unfolding asked_words kind_of machine_b machine_in machine_put gate_of sound_b all_below allowed_b ones ones_in spans_b difference_of wrap index_word index_of step_of stands_b spot written_of cell_of
writes_so = (refl, λ h. (refl, refl))

stores_back_so : Promised (words 0 1 7 3) (cells 7) stores_back (kind_of 0)
unfolding asked_words kind_of machine_b machine_in machine_put gate_of sound_b all_below allowed_b ones ones_in spans_b difference_of wrap index_word index_of step_of plus_of
stores_back_so = (refl, λ h. (refl, refl))

pub a_push_is_a_row : Row (words 0 0 0 0) (cells 0) a_push
unfolding Row
a_push_is_a_row = (begins_so, (loads_back_so, (loads_front_so, (writes_so, (stores_back_so, tt)))))

lends : Lends 1 (calls_in a_push)
unfolding Lends calls_in kind_of
lends = (λ l e h. own_pool l e, (λ l e h. own_pool l e, (λ l e h. own_pool l e, (λ l e h. own_pool l e, (λ l e h. own_pool l e, tt)))))

-- no operation is in flight
at_rest : AtRest (machine_in (words 1 0 0 0))
unfolding machine_in index_of
at_rest zero h = refl
at_rest (suc t) h = absurd (omega arith)

-- so the theorem speaks of it
pub holds_of_it : accepted_in (λ t. 0) a_push 7 ≡ answered_in a_push 7 + standing (machine_in (words 1 0 0 0)) (cells 7) 7
unfolding words_at pool_at
holds_of_it =
    (conserved_in_words (replicate 91 0) (cells 0) 1 0 1 refl (words 0 0 0 0) done set_up.0 set_up.1 a_push a_push_is_a_row (omega arith) lends 7).1 at_rest

pub accepted_once : (accepted_in (λ t. 0) a_push 7 ≡ 1) × (answered_in a_push 7 ≡ 0)
unfolding accepted_in answered_in kind_of one upd
accepted_once = (refl, refl)
