-- What the statement shuts out, and what it does not: a machine that copies jobs fails it; one that always says Empty passes it, and is shut out
-- by the step tables.
use Rattle.std.proofs.Common.{◌≡◌, ℕ, zero, suc, List, [], ◌∷◌, refl, arith}
use Rattle.steal.specs.declared.Steal.TheVariants as T
use Rattle.parts.specs.declared.answer.Answer.TheVariants as B
use Rattle.gate.specs.declared.Operation.TheVariants as O
use Rattle.gate.specs.declared.Request.TheVariants.{Step, Begin}
use Rattle.machine.specs.declared.state.Machine.{Machine}
use Rattle.machine.specs.State.{After, after}
use Rattle.model.specs.Count.{one, upd}
use Rattle.theorem.specs.History.{pool, accepted, answered, other, Call, asks, lent_by, lent, run_by, accepted_from, standing}

-- thread 0 pushes, and every step of another thread answers the same job
abbrev pub copies : Machine → List ℕ → Call → After
copies m cells (asks p t (Begin o)) = after m B.Working cells
copies m cells (asks p zero Step) = after m B.Done cells
copies m cells (asks p (suc t) Step) = after m (B.Job 7) cells

-- one job is accepted, and it is answered twice
abbrev pub twice : List Call
twice = asks pool 0 (Begin (O.Push 7)) ∷ asks pool 0 Step ∷ asks pool 1 Step ∷ asks pool 1 Step ∷ []

pub copies_fails : (m : Machine) (cells : List ℕ)
    → (accepted (run_by copies m cells twice).history 7 ≡ 1) × (answered (run_by copies m cells twice).history 7 ≡ 2)
unfolding run_by accepted_from answered upd one
copies_fails m cells = (refl, refl)

abbrev pub says_empty : Machine → List ℕ → Call → After
says_empty m cells c = after m (B.Stolen T.Empty) (lent (lent_by c) cells)

-- nothing is accepted, nothing answered, and what stood in the queues stands there
pub empty_passes : (m : Machine) (cells : List ℕ) (calls : List Call) (jobs : ℕ → ℕ) (j : ℕ)
    → (accepted_from jobs (run_by says_empty m cells calls).history j ≡ 0) × (answered (run_by says_empty m cells calls).history j ≡ 0)
    × (standing (run_by says_empty m cells calls).machine (run_by says_empty m cells calls).cells j ≡ standing m cells j)
unfolding run_by accepted_from answered
empty_passes m cells [] jobs j = (refl, refl, refl)
empty_passes m cells (asks pool t (Begin o) ∷ calls) jobs j =
    let r = empty_passes m cells calls jobs j in (omega (arith, r.0), omega (arith, r.1), r.2)
empty_passes m cells (asks (other l) t (Begin o) ∷ calls) jobs j =
    let r = empty_passes m cells calls jobs j in (omega (arith, r.0), omega (arith, r.1), r.2)
empty_passes m cells (asks pool t Step ∷ calls) jobs j =
    let r = empty_passes m cells calls jobs j in (omega (arith, r.0), omega (arith, r.1), r.2)
empty_passes m cells (asks (other l) t Step ∷ calls) jobs j =
    let r = empty_passes m cells calls jobs j in (omega (arith, r.0), omega (arith, r.1), r.2)
