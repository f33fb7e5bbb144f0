-- A push as words: steps 0 to 3, and those of its resize.
use Rattle.std.specs.Prelude.{◌==◌}
use Rattle.base.specs.Tests.{pick}
use Rattle.parts.specs.declared.stage.PushStage.{PushStage}
use Rattle.parts.specs.declared.stage.PushStage.TheVariants.{LoadBack, LoadFront, Resize, Write, StoreBack}
use Rattle.slots.specs.declared.StageWords.{StageWords}
use Rattle.slots.specs.Slots.{index_of, bare, with_b}
use Rattle.words.specs.Resize.{resize_words, resize_of}

abbrev pub push_words : PushStage → StageWords
push_words LoadBack = bare 0
push_words (LoadFront b) = with_b b (bare 1)
push_words (Resize b at) = with_b b (resize_words at)
push_words (Write b) = with_b b (bare 2)
push_words (StoreBack b) = with_b b (bare 3)

abbrev pub push_of : StageWords → PushStage
push_of w =
    pick (w.step == 0) LoadBack
    (pick (w.step == 1) (LoadFront (index_of w.b))
    (pick (w.step == 2) (Write (index_of w.b))
    (pick (w.step == 3) (StoreBack (index_of w.b))
    (Resize (index_of w.b) (resize_of w)))))
