-- After a refused setup: the machine of zeros is not sound, so that every call is refused with 3 and all stays as it was.
use Rattle.std.proofs.Common.{◌≡◌, ℕ, List, [], ◌∷◌, refl, arith}
use Rattle.parts.specs.declared.answer.Answer.TheVariants.{Refused}
use Rattle.parts.specs.declared.answer.Refusal.TheVariants as K
use Rattle.gate.specs.declared.Request.{Request}
use Rattle.gate.specs.declared.Request.TheVariants.{Step, Begin}
use Rattle.machine.specs.State.{refused}
use Rattle.machine.specs.Sound.{sound_b}
use Rattle.machine.specs.Setup.{zero_machine}
use Rattle.machine.specs.Step.{gate_of, step_of}
use Rattle.machine.specs.Begin.{begin_of}
use Rattle.machine.specs.Call.{call_of}
use Rattle.model.specs.Count.{sum_to}
use Rattle.theorem.specs.History.{pool, answered, other, Lent, Call, asks, lent, pool_after, called_of, Session, run_by, run, jobs_after}
use Rattle.theorem.specs.History.{accepted_from, standing, AllUnsound}

-- a list that is lent and comes back as it was leaves the pool as it was
pub lent_back : (l : Lent) (cells : List ℕ) → pool_after l cells (lent l cells) ≡ cells
lent_back pool cells = refl
lent_back (other x) cells = refl

unsound : (cells : List ℕ) (t : ℕ) (r : Request) → call_of zero_machine cells t r ≡ refused zero_machine K.Unsound cells
unfolding step_of begin_of gate_of sound_b
unsound cells t Step = refl
unsound cells t (Begin o) = refl

-- what is left of a session on the machine of zeros
pub record AsItWas (cells : List ℕ) (s : Session) : Type 0 where
  pub machine : s.machine ≡ zero_machine
  pub same_cells : s.cells ≡ cells
  pub refusals : AllUnsound s.history
  pub accepts : (jobs : ℕ → ℕ) (j : ℕ) → accepted_from jobs s.history j ≡ 0
  pub answers : (j : ℕ) → answered s.history j ≡ 0

pub zero_run : (cells : List ℕ) (calls : List Call) → AsItWas cells (run zero_machine cells calls)
unfolding run_by AllUnsound accepted_from answered called_of
zero_run cells [] = record { machine = refl; same_cells = refl; refusals = tt; accepts = λ jobs j. refl; answers = λ j. refl }
zero_run cells (asks p t r ∷ calls) =
    rw (unsound (lent p cells) t r, lent_back p cells)
    (let i = zero_run cells calls in
    record {
      machine = i.machine;
      same_cells = i.same_cells;
      refusals = (refl, i.refusals);
      accepts = λ jobs j. omega (arith, i.accepts (jobs_after jobs (asks p t r) (Refused K.Unsound)) j);
      answers = λ j. omega (arith, i.answers j);
    })

pub zero_stands : (cells : List ℕ) (j : ℕ) → standing zero_machine cells j ≡ 0
unfolding standing sum_to
zero_stands cells j = refl
