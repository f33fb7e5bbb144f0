-- No second answer satisfies the promise of a public call: each of the machine's, and of the exported ones, by `pinned` at the promise's form. r and s are
-- the results of two calls with the same arguments, c and d what they left of what they were lent.
use Rattle.std.proofs.Common.{◌≡◌, ℕ, Bool, List, length}
use Rattle.parts.specs.declared.queue.Flavor.{Flavor}
use Rattle.parts.specs.declared.queue.Queue.{Queue}
use Rattle.parts.specs.declared.stage.Stage.{Stage}
use Rattle.gate.specs.declared.Operation.{Operation}
use Rattle.gate.specs.declared.Request.{Request}
use Rattle.kinds.specs.Kinds.{kind_of}
use Rattle.machine.specs.declared.state.Machine.{Machine}
use Rattle.machine.specs.declared.state.Called.{Called}
use Rattle.machine.specs.declared.shown.Part.{Part}
use Rattle.machine.specs.State.{leaves, queue_at, stage_at}
use Rattle.machine.specs.Sound.{sound_b}
use Rattle.machine.specs.Setup.{setup_of}
use Rattle.machine.specs.Begin.{begin_of}
use Rattle.machine.specs.Step.{step_of}
use Rattle.machine.specs.Call.{call_of}
use Rattle.machine.specs.Shown.{shown_part, shown_of}
use Rattle.export.specs.Exported.{setup_words, call_words, shown_words}
use Rattle.pinned.specs.Forms.{plain, called, shown, lent, lent_two, lent_three}
use Rattle.pinned.proofs.Pinned.{pinned}

-- ---- the machine

-- a setup and a begin are lent the pool for reading alone
pub setup_pinned : (k : ℕ) (flavors : List Flavor) (n : ℕ) (cells : List ℕ) (r s : Called) → leaves r cells ≡ setup_of k flavors n cells
    → leaves s cells ≡ setup_of k flavors n cells → r ≡ s
setup_pinned k flavors n cells r s p q = (pinned called (setup_of k flavors n cells) r s cells cells p q).0

pub begin_pinned : (m : Machine) (cells : List ℕ) (t : ℕ) (o : Operation) (r s : Called) → leaves r cells ≡ begin_of m cells t o
    → leaves s cells ≡ begin_of m cells t o → r ≡ s
begin_pinned m cells t o r s p q = (pinned called (begin_of m cells t o) r s cells cells p q).0

pub step_pinned : (m : Machine) (cells : List ℕ) (t : ℕ) (r s : Called) (c d : List ℕ) → leaves r c ≡ step_of m cells t → leaves s d ≡ step_of m cells t
    → (r ≡ s) × (c ≡ d)
step_pinned m cells t = pinned called (step_of m cells t)

pub call_pinned : (m : Machine) (cells : List ℕ) (t : ℕ) (a : Request) (r s : Called) (c d : List ℕ) → leaves r c ≡ call_of m cells t a
    → leaves s d ≡ call_of m cells t a → (r ≡ s) × (c ≡ d)
call_pinned m cells t a = pinned called (call_of m cells t a)

-- where the shown ring starts and how many cells it has; and the cells
pub shown_part_pinned : (m : Machine) (cells q : ℕ) (r s : Part) → r ≡ shown_part m cells q → s ≡ shown_part m cells q → r ≡ s
shown_part_pinned m cells q r s x y = (pinned plain (shown_part m cells q) r s tt tt x y).0

pub shown_pinned : (m : Machine) (cells : List ℕ) (q : ℕ) (r s : List ℕ) → r ≡ shown_of (shown_part m (length cells) q) cells
    → s ≡ shown_of (shown_part m (length cells) q) cells → r ≡ s
shown_pinned m cells q r s x y = (pinned shown (shown_of (shown_part m (length cells) q) cells) r s tt tt x y).0

pub is_sound_pinned : (m : Machine) (r s : Bool) → r ≡ sound_b m → s ≡ sound_b m → r ≡ s
is_sound_pinned m r s x y = (pinned plain (sound_b m) r s tt tt x y).0

pub queue_pinned : (m : Machine) (k : ℕ) (r s : Queue) → r ≡ queue_at m k → s ≡ queue_at m k → r ≡ s
queue_pinned m k r s x y = (pinned plain (queue_at m k) r s tt tt x y).0

pub stage_pinned : (m : Machine) (t : ℕ) (r s : Stage) → r ≡ stage_at m t → s ≡ stage_at m t → r ≡ s
stage_pinned m t r s x y = (pinned plain (stage_at m t) r s tt tt x y).0

-- ---- as words: the machine's, the pool's cells, the answer's

pub setup_words_pinned : (w cells : List ℕ) (k bits n : ℕ) (c d : List ℕ × List ℕ) → c ≡ setup_words w cells k bits n → d ≡ setup_words w cells k bits n → c ≡ d
setup_words_pinned w cells k bits n c d p q = (pinned lent_two (setup_words w cells k bits n) tt tt c d p q).1

pub call_words_pinned : (w cells : List ℕ) (t kind source operand : ℕ) (c d : List ℕ × List ℕ × List ℕ)
    → c ≡ call_words w cells t (kind_of kind) source operand → d ≡ call_words w cells t (kind_of kind) source operand → c ≡ d
call_words_pinned w cells t kind source operand c d p q = (pinned lent_three (call_words w cells t (kind_of kind) source operand) tt tt c d p q).1

pub shown_words_pinned : (w : List ℕ) (cells q : ℕ) (c d : List ℕ) → c ≡ shown_words w cells q → d ≡ shown_words w cells q → c ≡ d
shown_words_pinned w cells q c d x y = (pinned lent (shown_words w cells q) tt tt c d x y).1
