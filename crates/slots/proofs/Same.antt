-- Words are the same words exactly where each of their numbers is the same number.
use Rattle.std.proofs.Common.{◌≡◌, true, rules, tests}
use Rattle.slots.specs.declared.queue.QueueWords.{QueueWords}
use Rattle.slots.specs.declared.StageWords.{StageWords}
use Rattle.slots.specs.Queue.{same_queue_b}
use Rattle.slots.specs.Slots.{same_stage_b}

pub same_queue_self : (w : QueueWords) → same_queue_b w w ≡ true
same_queue_self w = search (rules, tests)

pub same_queue : (v w : QueueWords) → same_queue_b v w ≡ true → v ≡ w
same_queue v w e = search (rules, tests)

pub same_stage_self : (w : StageWords) → same_stage_b w w ≡ true
same_stage_self w = search (rules, tests)

pub same_stage : (v w : StageWords) → same_stage_b v w ≡ true → v ≡ w
same_stage v w e = search (rules, tests)
