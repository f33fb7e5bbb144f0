-- A resize as words: steps 10 to 13 of a push, a pop and a batch.
use Rattle.std.specs.Prelude.{◌==◌}
use Rattle.base.specs.Tests.{pick}
use Rattle.parts.specs.declared.stage.ResizeStage.{ResizeStage}
use Rattle.parts.specs.declared.stage.ResizeStage.TheVariants.{LoadBack, LoadFront, Copy, Swap}
use Rattle.slots.specs.declared.StageWords.{StageWords}
use Rattle.slots.specs.Slots.{index_of, bare, with_i, with_end, with_capacity, with_ring, ring_of}

abbrev pub resize_words : ResizeStage → StageWords
resize_words (LoadBack c) = with_capacity c (bare 10)
resize_words (LoadFront c b) = with_capacity c (with_end b (bare 11))
resize_words (Copy b i ring) = with_ring ring (with_i i (with_end b (bare 12)))
resize_words (Swap ring) = with_ring ring (bare 13)

abbrev pub resize_of : StageWords → ResizeStage
resize_of w =
    pick (w.step == 10) (LoadBack w.capacity)
    (pick (w.step == 11) (LoadFront w.capacity (index_of w.end))
    (pick (w.step == 12) (Copy (index_of w.end) (index_of w.i) (ring_of w))
    (Swap (ring_of w))))
