-- A length, and a batch from the own queue, as words: steps 0 and 1.
use Rattle.std.specs.Prelude.{◌==◌}
use Rattle.base.specs.Tests.{pick}
use Rattle.parts.specs.declared.stage.LengthStage.{LengthStage}
use Rattle.parts.specs.declared.stage.LengthStage.TheVariants.{LoadBack, LoadFront}
use Rattle.slots.specs.declared.StageWords.{StageWords}
use Rattle.slots.specs.Slots.{index_of, bare, with_b}

abbrev pub length_words : LengthStage → StageWords
length_words LoadBack = bare 0
length_words (LoadFront b) = with_b b (bare 1)

abbrev pub length_of : StageWords → LengthStage
length_of w = pick (w.step == 0) LoadBack (LoadFront (index_of w.b))
