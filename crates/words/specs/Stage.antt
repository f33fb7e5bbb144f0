-- A stage as words: the operation, the number that it carries, and the words of its step. Words of no operation are an idle stage.
use Rattle.std.specs.Prelude.{◌==◌}
use Rattle.base.specs.Tests.{pick}
use Rattle.parts.specs.declared.stage.Stage.{Stage}
use Rattle.parts.specs.declared.stage.Stage.TheVariants.{Idle, Push, Pop, Steal, Length, OwnBatch, BatchSource, BatchOwn}
use Rattle.slots.specs.declared.StageWords.{StageWords}
use Rattle.slots.specs.Slots.{bare, with_operation}
use Rattle.words.specs.Push.{push_words, push_of}
use Rattle.words.specs.Pop.{popper_word, popper_of, pop_words, pop_of}
use Rattle.words.specs.Stealing.{steal_words, steal_of}
use Rattle.words.specs.Length.{length_words, length_of}
use Rattle.words.specs.BatchSource.{source_words, source_of}
use Rattle.words.specs.BatchOwn.{own_words, own_of}

abbrev pub stage_words : Stage → StageWords
stage_words Idle = bare 0
stage_words (Push job at) = with_operation 1 job (push_words at)
stage_words (Pop by at) = with_operation 2 (popper_word by) (pop_words at)
stage_words (Steal src at) = with_operation 3 src (steal_words at)
stage_words (Length queue at) = with_operation 4 queue (length_words at)
stage_words (OwnBatch at) = with_operation 5 0 (length_words at)
stage_words (BatchSource src at) = with_operation 6 src (source_words at)
stage_words (BatchOwn src at) = with_operation 7 src (own_words at)

abbrev pub stage_of : StageWords → Stage
stage_of w =
    pick (w.operation == 1) (Push w.number (push_of w))
    (pick (w.operation == 2) (Pop (popper_of w.number) (pop_of w))
    (pick (w.operation == 3) (Steal w.number (steal_of w))
    (pick (w.operation == 4) (Length w.number (length_of w))
    (pick (w.operation == 5) (OwnBatch (length_of w))
    (pick (w.operation == 6) (BatchSource w.number (source_of w))
    (pick (w.operation == 7) (BatchOwn w.number (own_of w))
    Idle))))))
