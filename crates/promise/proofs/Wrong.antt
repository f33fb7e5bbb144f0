-- Wrong machines, each shut out by the promise of `step`: it would have to leave what `step_of` gives, and at one state it does not. All states but that of
-- a resize, which is written down, are reached by playing from setup.
use Rattle.std.proofs.Common.{◌≡◌, ℕ, ◌+◌, ◌-◌, List, [], ◌∷◌, get_or, replicate, pos, sym, refl, ap, ◌∙◌, arith}
use lib.Count.{ones, ones_in}
use Rattle.base.specs.Below.{all_below, any_below, first_not}
use Rattle.index.specs.Index.{mod_z, wrap, plus_of, difference_of, length_of, behind_b, empty_b, full_b, spans_b, same_b, cell_of}
use Rattle.ring.specs.Capacity.{allowed_b}
use Rattle.cells.specs.Cells.{place_cells, stands_b, spot, read_of, written_of}
use Rattle.ring.specs.declared.Ring.{Ring}
use Rattle.parts.specs.declared.queue.Flavor.TheVariants.{Fifo}
use Rattle.parts.specs.declared.queue.Queue.{Queue}
use Rattle.parts.specs.declared.stage.ResizeStage.TheVariants as Z
use Rattle.parts.specs.declared.stage.PushStage.TheVariants as U
use Rattle.parts.specs.declared.stage.Stage.TheVariants as S
use Rattle.parts.specs.declared.answer.Answer.TheVariants.{Working}
use Rattle.parts.specs.Queues.{zero_index}
use Rattle.gate.specs.declared.Operation.TheVariants.{Push, Length, Steal}
use Rattle.machine.specs.declared.state.Machine.{Machine}
use Rattle.machine.specs.State.{After, after, queue_at, with_queue, with_stage}
use Rattle.machine.specs.Sound.{sound_b}
use Rattle.machine.specs.Claim.{free_ring}
use Rattle.machine.specs.Setup.{fresh_machine, setup_of}
use Rattle.machine.specs.Step.{gate_of, step_of}
use Rattle.machine.specs.Begin.{begin_of}
use Rattle.games.specs.Play.{setup, begin, steps, alone, finish}
use Rattle.promise.specs.Machines.{Steps, refuses, says_empty, says_retry, stands_still, leaves_stolen, does_all, makes_up, copies_all, writes_refused, tested}

abbrev at : Steps → After → After
at w s = w s.called.machine s.cells 0

-- it keeps the promise of `step`
abbrev Keeps : Steps → Type 0
Keeps w = (m : Machine) (cells : List ℕ) (t : ℕ) → w m cells t ≡ step_of m cells t

-- it does not where something that can be looked at is another
shut_out : (w : Steps) (look : After → ℕ) (s : After) (a b : ℕ) → look (at w s) ≡ a → look (at step_of s) ≡ b → (a ≡ b → ⊥) → Keeps w → ⊥
shut_out w look s a b x y differ same = differ (sym x ∙ ap look (same s.called.machine s.cells 0) ∙ y)

-- ---- what to look at

abbrev kind : After → ℕ
kind a = a.tells.kind

abbrev length : After → ℕ
length a = a.tells.length

abbrev first_cell : After → ℕ
first_cell a = get_or a.cells 0 0

-- of the place behind the first
abbrev second_copy : After → ℕ
second_copy a = get_or a.cells (place_cells + 1) 0

abbrev front : After → ℕ
front a = mod_z (queue_at a.called.machine 0).front.0 64

abbrev back : After → ℕ
back a = mod_z (queue_at a.called.machine 0).back.0 64

-- ---- states: a thread that is idle; a push begun; about to store its back; a length about to be answered; a steal about to exchange for job 7

abbrev idling : After
idling = setup (Fifo ∷ []) 1

abbrev begun : After
begun = begin 0 (Push 7) (setup (Fifo ∷ []) 1)

abbrev written : After
written = steps 0 3 begun

abbrev asked : After
asked = steps 0 1 (begin 0 (Length 0) (setup (Fifo ∷ []) 1))

abbrev stealing : After
stealing = steps 0 5 (begin 0 (Steal 0) (alone 0 (Push 7) (setup (Fifo ∷ []) 1)).left)

-- jobs 5 and 6 stand in a ring of 64 cells; a push has begun to copy them into one of 128
abbrev resizing : After
resizing =
    let q : Queue = record { flavor = Fifo; front = zero_index; back = record { 0 = pos 2 }; ring = (queue_at (fresh_machine 1 (Fifo ∷ []) 2) 0).ring } in
    let ring : Ring = record { number = record { 0 = 1 }; place = record { 0 = 1 }; capacity = 128 } in
    after (with_stage (with_queue (fresh_machine 1 (Fifo ∷ []) 2) 0 q) 0 (S.Push 7 (U.Resize q.back (Z.Copy q.back zero_index ring)))) Working
    (5 ∷ 6 ∷ replicate (place_cells + place_cells - 2) 0)

-- ---- what is promised there, and what those machines show that play on

pub promised : (kind (at tested begun) ≡ 0) × (back (at tested written) ≡ 1) × (front (at tested stealing) ≡ 1) × (length (at tested asked) ≡ 0) × (first_cell (at tested idling) ≡ 0)
    × (second_copy (at tested resizing) ≡ 0)
unfolding steps finish all_below any_below first_not wrap plus_of difference_of length_of behind_b empty_b full_b spans_b same_b cell_of allowed_b stands_b spot read_of written_of sound_b free_ring setup_of gate_of step_of begin_of ones ones_in
promised = (refl, refl, refl, refl, refl, refl)

pub shown : (back (at stands_still written) ≡ 0) × (front (at leaves_stolen stealing) ≡ 0) × (kind (at does_all begun) ≡ 1) × (first_cell (at writes_refused idling) ≡ 7)
    × (length (at makes_up asked) ≡ 7) × (second_copy (at copies_all resizing) ≡ 6)
unfolding steps finish all_below any_below first_not wrap plus_of difference_of length_of behind_b empty_b full_b spans_b same_b cell_of allowed_b stands_b spot read_of written_of sound_b free_ring setup_of gate_of step_of begin_of ones ones_in
shown = (refl, refl, refl, refl, refl, refl)

-- ---- each is shut out

pub always_refuses : Keeps refuses → ⊥
always_refuses = shut_out refuses kind begun 10 0 refl promised.0 (λ e. omega arith)

pub always_empty : Keeps says_empty → ⊥
always_empty = shut_out says_empty kind begun 4 0 refl promised.0 (λ e. omega arith)

pub always_retry : Keeps says_retry → ⊥
always_retry = shut_out says_retry kind begun 6 0 refl promised.0 (λ e. omega arith)

pub never_moves : Keeps stands_still → ⊥
never_moves = shut_out stands_still back written 0 1 shown.0 promised.1 (λ e. omega arith)

pub copies_jobs : Keeps leaves_stolen → ⊥
copies_jobs = shut_out leaves_stolen front stealing 0 1 shown.1 promised.2 (λ e. omega arith)

pub all_at_once : Keeps does_all → ⊥
all_at_once = shut_out does_all kind begun 1 0 shown.2 promised.0 (λ e. omega arith)

pub makes_up_lengths : Keeps makes_up → ⊥
makes_up_lengths = shut_out makes_up length asked 7 0 shown.4 promised.3 (λ e. omega arith)

pub changes_refused : Keeps writes_refused → ⊥
changes_refused = shut_out writes_refused first_cell idling 7 0 shown.3 promised.4 (λ e. omega arith)

pub copies_whole_rings : Keeps copies_all → ⊥
copies_whole_rings = shut_out copies_all second_copy resizing 6 0 shown.5 promised.5 (λ e. omega arith)
