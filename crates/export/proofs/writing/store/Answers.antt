-- The parts are put one after the other, and the machine is read from them again.
use Rattle.export.specs.Words.{machine_put}
use Rattle.export.proofs.WordsLaws.{stored_told}
use Rattle.export.proofs.writing.store.Goals as goal

pub returns-clause-told : goal.returns-clause-told
unfolding machine_put
returns-clause-told c =
    λ h. rw (c.put_threads.ensures.words_after, c.put_queues.ensures.words_after, c.put_counts.ensures)
    (stored_told c.args.words.now c.args.machine h c.put_queues.ensures.queues_told c.put_threads.ensures.threads_told)
