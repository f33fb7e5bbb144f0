-- The row of what the four threads keep gives what each thread keeps, and so what is asked of the row is asked of the threads.
use Rattle.std.proofs.Common.{◌≡◌, ℕ, ◌<◌, ◌≤◌, List, length, sym, ap, ◌∙◌, ⊎_elim}
use Rattle.base.specs.Tests.{le_or_lt}
use Rattle.keeps.specs.declared.Kept.{Kept}
use Rattle.keeps.specs.declared.Kept.TheVariants.{Nothing}
use Rattle.keeps.specs.Kept.{kept_of}
use Rattle.places.specs.Places.{kept_in}
use Rattle.machine.specs.declared.state.Machine.{Machine}
use Rattle.machine.specs.State.{idle_thread, kept_at}
use Rattle.machine.proofs.StateLaws.{none_at}

-- past the end there is no thread, and nothing is kept
pub row_kept : (m : Machine) (row : List Kept) → length m.threads ≡ 4 → length row ≡ 4
    → ((t : ℕ) → t < 4 → kept_in row t ≡ kept_at m t) → kept_in row ≡ kept_at m
row_kept m row size long each i t =
    ⊎_elim (λ (past : 4 ≤ t). none_at row long past Nothing ∙ sym (ap (λ x. kept_of x.stage) (none_at m.threads size past idle_thread))) (each t)
    (le_or_lt 4 t) i
