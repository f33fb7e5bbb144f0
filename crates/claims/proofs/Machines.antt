-- What is claimed of wrong machines: none keeps the promise of `step`. And of demand 3: a machine that copies jobs fails it, one that always says Empty passes.
use Rattle.std.proofs.Common.{◌≡◌, ℕ, List}
use Rattle.machine.specs.declared.state.Machine.{Machine}
use Rattle.machine.specs.Step.{step_of}
use Rattle.theorem.specs.History.{Call, run_by, accepted, accepted_from, answered, standing}
use Rattle.theorem.proofs.Wrong as T
use Rattle.promise.specs.Machines.{Steps, refuses, says_empty, says_retry, stands_still, leaves_stolen, does_all, makes_up, copies_all, writes_refused}
use Rattle.promise.proofs.Wrong as W

abbrev ShutOut : Steps → Type 0
ShutOut w = ((m : Machine) (cells : List ℕ) (t : ℕ) → w m cells t ≡ step_of m cells t) → ⊥

pub always_refuses : ShutOut refuses
always_refuses = W.always_refuses

pub always_empty : ShutOut says_empty
always_empty = W.always_empty

pub always_retry : ShutOut says_retry
always_retry = W.always_retry

pub never_moves : ShutOut stands_still
never_moves = W.never_moves

pub copies_jobs : ShutOut leaves_stolen
copies_jobs = W.copies_jobs

pub all_at_once : ShutOut does_all
all_at_once = W.all_at_once

pub makes_up_lengths : ShutOut makes_up
makes_up_lengths = W.makes_up_lengths

pub copies_whole_rings : ShutOut copies_all
copies_whole_rings = W.copies_whole_rings

pub changes_refused : ShutOut writes_refused
changes_refused = W.changes_refused

pub copies_fails : (m : Machine) (cells : List ℕ)
    → (accepted (run_by T.copies m cells T.twice).history 7 ≡ 1) × (answered (run_by T.copies m cells T.twice).history 7 ≡ 2)
copies_fails = T.copies_fails

pub empty_passes : (m : Machine) (cells : List ℕ) (calls : List Call) (jobs : ℕ → ℕ) (j : ℕ)
    → (accepted_from jobs (run_by T.says_empty m cells calls).history j ≡ 0) × (answered (run_by T.says_empty m cells calls).history j ≡ 0)
    × (standing (run_by T.says_empty m cells calls).machine (run_by T.says_empty m cells calls).cells j ≡ standing m cells j)
empty_passes = T.empty_passes
