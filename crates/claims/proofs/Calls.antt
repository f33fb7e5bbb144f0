-- What is claimed of each public call: no second answer satisfies its promise.
use Rattle.std.proofs.Common.{◌≡◌, ℕ, Bool, List, length}
use Rattle.parts.specs.declared.queue.Flavor.{Flavor}
use Rattle.parts.specs.declared.queue.Queue.{Queue}
use Rattle.parts.specs.declared.stage.Stage.{Stage}
use Rattle.gate.specs.declared.Operation.{Operation}
use Rattle.gate.specs.declared.Request.{Request}
use Rattle.kinds.specs.Kinds.{kind_of}
use Rattle.machine.specs.declared.state.Machine.{Machine}
use Rattle.machine.specs.declared.state.Called.{Called}
use Rattle.machine.specs.declared.shown.Part.{Part}
use Rattle.machine.specs.State.{leaves, queue_at, stage_at}
use Rattle.machine.specs.Sound.{sound_b}
use Rattle.machine.specs.Setup.{setup_of}
use Rattle.machine.specs.Begin.{begin_of}
use Rattle.machine.specs.Step.{step_of}
use Rattle.machine.specs.Call.{call_of}
use Rattle.machine.specs.Shown.{shown_part, shown_of}
use Rattle.export.specs.Exported.{setup_words, call_words, shown_words}
use Rattle.pinned.proofs.Calls as P

-- ---- the machine

-- a setup and a begin are lent the pool for reading alone
pub setup_pinned : (k : ℕ) (flavors : List Flavor) (n : ℕ) (cells : List ℕ) (r s : Called) → leaves r cells ≡ setup_of k flavors n cells
    → leaves s cells ≡ setup_of k flavors n cells → r ≡ s
setup_pinned = P.setup_pinned

pub begin_pinned : (m : Machine) (cells : List ℕ) (t : ℕ) (o : Operation) (r s : Called) → leaves r cells ≡ begin_of m cells t o
    → leaves s cells ≡ begin_of m cells t o → r ≡ s
begin_pinned = P.begin_pinned

pub step_pinned : (m : Machine) (cells : List ℕ) (t : ℕ) (r s : Called) (c d : List ℕ) → leaves r c ≡ step_of m cells t → leaves s d ≡ step_of m cells t
    → (r ≡ s) × (c ≡ d)
step_pinned = P.step_pinned

pub call_pinned : (m : Machine) (cells : List ℕ) (t : ℕ) (a : Request) (r s : Called) (c d : List ℕ) → leaves r c ≡ call_of m cells t a
    → leaves s d ≡ call_of m cells t a → (r ≡ s) × (c ≡ d)
call_pinned = P.call_pinned

-- where the shown ring starts and how many cells it has; and the cells
pub shown_part_pinned : (m : Machine) (cells q : ℕ) (r s : Part) → r ≡ shown_part m cells q → s ≡ shown_part m cells q → r ≡ s
shown_part_pinned = P.shown_part_pinned

pub shown_pinned : (m : Machine) (cells : List ℕ) (q : ℕ) (r s : List ℕ) → r ≡ shown_of (shown_part m (length cells) q) cells
    → s ≡ shown_of (shown_part m (length cells) q) cells → r ≡ s
shown_pinned = P.shown_pinned

pub is_sound_pinned : (m : Machine) (r s : Bool) → r ≡ sound_b m → s ≡ sound_b m → r ≡ s
is_sound_pinned = P.is_sound_pinned

pub queue_pinned : (m : Machine) (k : ℕ) (r s : Queue) → r ≡ queue_at m k → s ≡ queue_at m k → r ≡ s
queue_pinned = P.queue_pinned

pub stage_pinned : (m : Machine) (t : ℕ) (r s : Stage) → r ≡ stage_at m t → s ≡ stage_at m t → r ≡ s
stage_pinned = P.stage_pinned

-- ---- as words: the machine's, the pool's cells, the answer's

pub setup_words_pinned : (w cells : List ℕ) (k bits n : ℕ) (c d : List ℕ × List ℕ) → c ≡ setup_words w cells k bits n → d ≡ setup_words w cells k bits n → c ≡ d
setup_words_pinned = P.setup_words_pinned

pub call_words_pinned : (w cells : List ℕ) (t kind source operand : ℕ) (c d : List ℕ × List ℕ × List ℕ)
    → c ≡ call_words w cells t (kind_of kind) source operand → d ≡ call_words w cells t (kind_of kind) source operand → c ≡ d
call_words_pinned = P.call_words_pinned

pub shown_words_pinned : (w : List ℕ) (cells q : ℕ) (c d : List ℕ) → c ≡ shown_words w cells q → d ≡ shown_words w cells q → c ≡ d
shown_words_pinned = P.shown_words_pinned
