-- A session that demand 3 speaks of, with counts above 0: thread 0 pushes 7, 8 and 7; thread 1 steals the first; thread 0 pops the second. Two calls are
-- refused. At its end no operation is in flight, and of job 7 two were accepted, one answered, and one stands.
use Rattle.std.proofs.Common.{◌≡◌, ℕ, zero, suc, ◌+◌, ◌^◌, ◌<◌, List, [], ◌∷◌, map, length, replicate, refl, arith}
use lib.Count.{ones, ones_in}
use Rattle.base.specs.Below.{all_below, any_below, first_not}
use Rattle.index.specs.Index.{wrap, plus_of, difference_of, length_of, behind_b, empty_b, full_b, spans_b, same_b, cell_of}
use Rattle.ring.specs.Capacity.{allowed_b, twice_of, doubled, holding_of}
use Rattle.cells.specs.Cells.{stands_b, spot, read_of, written_of}
use Rattle.steal.specs.declared.Steal.TheVariants as T
use Rattle.parts.specs.declared.queue.Flavor.{Flavor}
use Rattle.parts.specs.declared.queue.Flavor.TheVariants.{Fifo}
use Rattle.parts.specs.declared.answer.Answer.{Answer}
use Rattle.parts.specs.declared.answer.Answer.TheVariants as B
use Rattle.parts.specs.declared.answer.Refusal.TheVariants as R
use Rattle.parts.specs.declared.answer.Shortage.TheVariants.{NoRing}
use Rattle.gate.specs.declared.Operation.{Operation}
use Rattle.gate.specs.declared.Operation.TheVariants as O
use Rattle.gate.specs.declared.Request.TheVariants.{Step, Begin}
use Rattle.machine.specs.State.{After}
use Rattle.machine.specs.Sound.{sound_b}
use Rattle.machine.specs.Claim.{free_ring}
use Rattle.machine.specs.Setup.{setup_of}
use Rattle.machine.specs.Step.{gate_of, step_of}
use Rattle.machine.specs.Begin.{begin_of}
use Rattle.model.specs.Count.{one, upd, cnt, stand, sum_to}
use Rattle.theorem.specs.History.{Lent, pool, other, Call, asks, Lends, Event, Session, session, run_by, called_of, accepted, accepted_from, answered, standing, AtRest, AllAllowed}
use Rattle.theorem.specs.GaveUp.{GivesUp, Leaves, Untouched}
use Rattle.theorem.proofs.Runs.{own_pool}
use Rattle.theorem.proofs.Theorem.{conserved}
use Rattle.theorem.proofs.GaveUp.{gave_up_untouched}

-- ---- the session

-- so many steps of thread t, and then these calls; an operation begun, and so many steps
unfoldable pub steps : ℕ → ℕ → List Call → List Call
steps t zero cs = cs
steps t (suc n) cs = asks pool t Step ∷ steps t n cs

abbrev does : ℕ → Operation → ℕ → List Call → List Call
does t o n cs = asks pool t (Begin o) ∷ steps t n cs

-- a call over another list than the pool
abbrev a_cell : List ℕ
a_cell = 9 ∷ []

abbrev astray : List Call
astray = asks (other a_cell) 1 Step ∷ []

-- within the push of 8 another push is begun, and refused; the last call is refused too
abbrev pub calls : List Call
calls =
    does 0 (O.Push 7) 4
    (does 0 (O.Push 8) 2
    (does 0 (O.Push 7) 2
    (does 0 (O.Push 7) 4
    (does 1 (O.Steal 0) 6
    (does 0 O.Pop 4 astray)))))

abbrev both : List Flavor
both = Fifo ∷ Fifo ∷ []

abbrev cells : List ℕ
cells = replicate 512 0

abbrev pub s : Session
s = session 2 both 2 cells calls

-- what each call answered
pub answers : map (λ (e : Event). e.answer) s.history ≡
    B.Working ∷ B.Working ∷ B.Working ∷ B.Working ∷ B.Done ∷
    (B.Working ∷ B.Working ∷ B.Working ∷ B.Refused R.Busy ∷ B.Working ∷ B.Done ∷
    (B.Working ∷ B.Working ∷ B.Working ∷ B.Working ∷ B.Done ∷
    (B.Working ∷ B.Working ∷ B.Working ∷ B.Working ∷ B.Working ∷ B.Working ∷ B.Stolen (T.Success 7) ∷
    (B.Working ∷ B.Working ∷ B.Working ∷ B.Working ∷ B.Job 8 ∷
    (B.Refused R.PoolLength ∷ [])))))
unfolding steps run_by called_of all_below any_below first_not wrap plus_of difference_of length_of behind_b empty_b full_b spans_b same_b cell_of allowed_b stands_b spot read_of written_of sound_b free_ring setup_of gate_of step_of begin_of ones ones_in
answers = refl

-- ---- its counts, by computation: of jobs 7, 8 and 9 how many were accepted, answered, and stand

abbrev counts : ℕ → ℕ × ℕ × ℕ
counts j = (accepted s.history j, answered s.history j, standing s.machine s.cells j)

pub counted : (counts 7 ≡ (2, 1, 1)) × (counts 8 ≡ (1, 1, 0)) × (counts 9 ≡ (0, 0, 0))
unfolding steps run_by called_of accepted_from answered standing one upd cnt stand sum_to all_below any_below first_not wrap plus_of difference_of length_of behind_b empty_b full_b spans_b same_b cell_of allowed_b stands_b spot read_of written_of sound_b free_ring setup_of gate_of step_of begin_of ones ones_in
counted = (refl, refl, refl)

-- ---- the theorem speaks of it

pub set_up : (setup_of 2 both 2 cells).called.answer ≡ B.Done
unfolding setup_of
set_up = refl

module _ (places : ℕ) where
  steps_lend : (t n : ℕ) (cs : List Call) → Lends places cs → Lends places (steps t n cs)
  unfolding steps Lends
  steps_lend t zero cs h = h
  steps_lend t (suc n) cs h = (λ l e f. own_pool l e, steps_lend t n cs h)

  does_lend : (t : ℕ) (o : Operation) (n : ℕ) (cs : List Call) → Lends places cs → Lends places (does t o n cs)
  unfolding Lends
  does_lend t o n cs h = (λ l e f. own_pool l e, steps_lend t n cs h)

-- the other list has one cell
astray_lends : Lends 2 astray
unfolding Lends
astray_lends = (λ l e h. let f : length a_cell ≡ length l = cc in omega arith, tt)

lends : Lends 2 calls
lends =
    does_lend 2 0 (O.Push 7) 4 _
    (does_lend 2 0 (O.Push 8) 2 _
    (does_lend 2 0 (O.Push 7) 2 _
    (does_lend 2 0 (O.Push 7) 4 _ (does_lend 2 1 (O.Steal 0) 6 _ (does_lend 2 0 O.Pop 4 _ astray_lends)))))

-- no operation is in flight
pub at_rest : AtRest s.machine
unfolding steps run_by called_of all_below any_below first_not wrap plus_of difference_of length_of behind_b empty_b full_b spans_b same_b cell_of allowed_b stands_b spot read_of written_of sound_b free_ring setup_of gate_of step_of begin_of ones ones_in
at_rest zero h = refl
at_rest (suc zero) h = refl
at_rest (suc (suc t)) h = absurd (omega arith)

pub holds_of_it : (j : ℕ) → accepted s.history j ≡ answered s.history j + standing s.machine s.cells j
unfolding steps
holds_of_it j = (conserved 2 both 2 cells calls (omega arith) lends j).1 at_rest

-- ---- a session that ends in answer 9: one queue, one place, 64 jobs pushed, and one more

unfoldable pub pushes : ℕ → List Call
pushes zero = []
pushes (suc n) = does 0 (O.Push n) 4 (pushes n)

abbrev full : Session
full = session 1 both 1 (replicate 256 0) (pushes 64)

abbrev begun : After
begun = begin_of full.machine full.cells 0 (O.Push 900)

-- its steps load back, load front, and load back for the resize; the fourth finds no place
gives_up : (begun.called.answer ≡ B.Working) × GivesUp 0 begun.called.machine begun.cells (steps 0 3 [])
unfolding pushes GivesUp steps run_by called_of all_below any_below first_not wrap plus_of difference_of length_of behind_b empty_b full_b spans_b same_b cell_of allowed_b twice_of doubled holding_of stands_b spot read_of written_of sound_b free_ring setup_of gate_of step_of begin_of ones ones_in
gives_up = (refl, (λ e. tt, (λ e. tt, (λ e. tt, (NoRing, refl)))))

pushes_lend : (n : ℕ) → Lends 1 (pushes n)
unfolding pushes Lends
pushes_lend zero = tt
pushes_lend (suc n) = does_lend 1 0 (O.Push n) 4 (pushes n) (pushes_lend n)

push_count : length (pushes 64) ≡ 320
unfolding pushes steps
push_count = refl

pub left_alone : Leaves full.machine full.cells begun × Untouched 0 begun.called.machine begun.cells (steps 0 3 [])
unfolding steps Lends
left_alone = gave_up_untouched 1 both 1 (replicate 256 0) (pushes 64) few (pushes_lend 64) 0 (O.Push 900) (steps 0 3 []) more (steps_lend 1 0 3 [] tt) gives_up.0 gives_up.1
  where
    few : length (pushes 64) < 2 ^ 62
    few = omega (arith, push_count)

    more : suc (length (pushes 64)) + length (steps 0 3 []) < 2 ^ 62
    more = omega (arith, push_count)

-- ---- histories that no session has

abbrev event : Lent → Answer → Event
event p a = record { call = asks p 0 Step; answer = a }

-- refusal 3, wherever it stands; refusal 1 over the session's pool; another answer than 1 over another list
pub three_denied : AllAllowed (event pool B.Working ∷ event pool (B.Refused R.Unsound) ∷ event pool B.Done ∷ []) → ⊥
unfolding AllAllowed
three_denied h = h.1.0

pub one_denied : AllAllowed (event pool (B.Refused R.PoolLength) ∷ []) → ⊥
unfolding AllAllowed
one_denied h = h.0

pub other_denied : AllAllowed (event (other a_cell) B.Working ∷ []) → ⊥
unfolding AllAllowed
other_denied h = let z : ◌≡◌ {A = ℕ} 0 1 = cc h.0 in omega arith

-- and one that a session may have
pub allowed : AllAllowed
    (event pool (B.Refused R.NoSuch) ∷
    event pool (B.Refused R.Busy) ∷
    event pool (B.Refused R.Idle) ∷
    event pool (B.Refused R.NoLimit) ∷
    event (other a_cell) (B.Refused R.PoolLength) ∷
    [])
unfolding AllAllowed
allowed = (tt, (tt, (tt, (tt, (refl, tt)))))
