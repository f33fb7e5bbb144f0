-- Words that are no machine are refused; otherwise by what the calls ensure.
use Rattle.std.proofs.Common.{◌≡◌, true, sym, ap, ◌∙◌, eqb-true}
use Rattle.words.specs.Slices.{machine_b}
use Rattle.export.specs.Exported.{asked_words}
use Rattle.export.proofs.WordsLaws.{as_many}
use Rattle.export.proofs.exported.ask.Goals as goal

pub returns-clause-result_after : goal.returns-clause-result_after
unfolding asked_words
returns-clause-result_after c =
    let is : machine_b c.args.machine.now ≡ true = sym c.is_machine.ensures ∙ c.if-not-is_machine.false in
    let left = c.leave.ensures.result_after in
    rw (ap (λ x. x.0) left, ap (λ x. x.1) left, as_many _ is, is, ← c.machine_in.ensures, ← c.call-called.ensures)

pub returns-clause-asked_told : goal.returns-clause-asked_told
returns-clause-asked_told c =
    λ h. rw (← c.machine_in.ensures, ← c.call-called.ensures) (c.leave.ensures.told (eqb-true _ _ (as_many _ h)))
