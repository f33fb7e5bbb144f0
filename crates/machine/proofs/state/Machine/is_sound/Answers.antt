-- The places are those of the machine's queues and of what its threads keep.
use Rattle.std.proofs.Common.{rules, ◌≡◌, refl, ap, ◌∙◌}
use Rattle.parts.specs.Queues.{queue_in}
use Rattle.places.specs.Places.{all_apart_of}
use Rattle.machine.specs.Sound.{all_apart, sound_b}
use Rattle.machine.proofs.state.Machine.is_sound.Goals as goal

pub returns-then-stages_sound : goal.returns-then-stages_sound
unfolding sound_b
returns-then-stages_sound c =
    let r = c.rings.result in
    let e = c.rings.ensures in
    let as_kept = c.all_apart.ensures ∙ ap (λ kept. all_apart_of (queue_in r.queues) kept r.count) e.kept in
    let apart : c.all_apart.result ≡ all_apart c.args.self.now = rw (as_kept, e.queues, e.count) refl in
    search rules
