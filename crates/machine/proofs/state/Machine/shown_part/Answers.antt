-- What is not shown is an empty part; the place of a ring that is shown starts within the pool, so its first cell has a number.
use Rattle.std.proofs.Common.{sym, ap, ◌∙◌, arith}
use Rattle.parts.specs.declared.queue.Queue.{Queue}
use Rattle.machine.proofs.ShownLaws.{shown_room}
use Rattle.machine.proofs.state.Machine.shown_part.Goals as goal

pub overflow_mul-result : goal.overflow_mul-result
overflow_mul-result c =
    let a = c.args in
    let p = ap (λ (q : Queue). q.ring.place.0) c.queue-q.ensures in
    let h = shown_room a.self a.length a.queue (sym c.shows.ensures ∙ c.if-not-shows.false) in
    omega arith
