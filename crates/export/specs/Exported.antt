-- What the exported functions leave: the machine's words, the pool's cells, the answer's four words, a part's two.
use Rattle.std.specs.Prelude.{◌≡◌, ℕ, true, List, [], ◌∷◌, length, ◌==◌, Result, Ok, Err}
use Rattle.base.specs.Tests.{pick}
use Rattle.parts.specs.declared.answer.Answer.TheVariants.{Refused}
use Rattle.parts.specs.declared.answer.Refusal.TheVariants.{Unsound}
use Rattle.gate.specs.declared.Request.{Request}
use Rattle.machine.specs.declared.state.Called.{Called}
use Rattle.machine.specs.State.{After}
use Rattle.machine.specs.Setup.{setup_of}
use Rattle.machine.specs.Call.{call_of}
use Rattle.machine.specs.declared.shown.Part.{Part}
use Rattle.machine.specs.Shown.{part, shown_part}
use Rattle.kinds.specs.declared.Kind.{Kind}
use Rattle.kinds.specs.declared.UnknownKind.{UnknownKind}
use Rattle.kinds.specs.Kinds.{request_of}
use Rattle.slots.specs.Queue.{flavors_of}
use Rattle.slots.specs.Answer.{answer_words}
use Rattle.words.specs.Slices.{machine_size, machine_b}
use Rattle.export.specs.Words.{machine_in, machine_put, stored_of, Told}

-- words that are no machine are refused
abbrev pub unsound_words : List ℕ
unsound_words = answer_words (Refused Unsound)

-- what a call left of the machine, and its answer
abbrev pub left_words : List ℕ → Called → List ℕ × List ℕ
left_words w c = (stored_of w c.machine, answer_words c.answer)

abbrev pub set_words : List ℕ → After → List ℕ × List ℕ
set_words w a = (machine_put w a.called.machine, answer_words a.called.answer)

unfoldable pub setup_words : List ℕ → List ℕ → ℕ → ℕ → ℕ → List ℕ × List ℕ
setup_words w cells k bits n =
    pick (length w == machine_size) (set_words w (setup_of k (flavors_of bits) n cells)) (w, unsound_words)

-- the words that it leaves are the new machine's
abbrev pub SetupTold : List ℕ → List ℕ → ℕ → ℕ → ℕ → List ℕ → Type 0
SetupTold w cells k bits n after = length w ≡ machine_size → Told after (setup_of k (flavors_of bits) n cells).called.machine

abbrev pub called_words : List ℕ → After → List ℕ × List ℕ × List ℕ
called_words w a = (machine_put w a.called.machine, a.cells, answer_words a.called.answer)

unfoldable pub asked_words : List ℕ → List ℕ → ℕ → Request → List ℕ × List ℕ × List ℕ
asked_words w cells t r = pick (machine_b w) (called_words w (call_of (machine_in w) cells t r)) (w, cells, unsound_words)

-- a kind that is no call's changes nothing
abbrev pub call_words : List ℕ → List ℕ → ℕ → Result Kind UnknownKind → ℕ → ℕ → List ℕ × List ℕ × List ℕ
call_words w cells t (Ok k) src n = asked_words w cells t (request_of t k src n)
call_words w cells t (Err e) src n = (w, cells, 11 ∷ 0 ∷ 0 ∷ 0 ∷ [])

-- words of a machine are left as words of a machine: of the one that the call leaves
abbrev pub AskedTold : List ℕ → List ℕ → ℕ → Request → List ℕ → Type 0
AskedTold w cells t r after = machine_b w ≡ true → Told after (call_of (machine_in w) cells t r).called.machine

abbrev pub CallTold : List ℕ → List ℕ → ℕ → Result Kind UnknownKind → ℕ → ℕ → List ℕ → Type 0
CallTold w cells t (Ok k) src n after = AskedTold w cells t (request_of t k src n) after
CallTold w cells t (Err e) src n after = Unit

-- a part of the pool: its first cell, and how many cells it has
abbrev pub part_words : Part → List ℕ
part_words p = p.start ∷ p.count ∷ []

-- len is the pool's length
unfoldable pub shown_words : List ℕ → ℕ → ℕ → List ℕ
shown_words w len q = part_words (pick (machine_b w) (shown_part (machine_in w) len q) (part 0 0))
