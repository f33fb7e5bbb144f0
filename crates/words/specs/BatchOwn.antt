-- The steps of a batch on the own queue as words: a reserve is 0, 1 and a resize; then 20; 30 to 32, and 40 to 43 for a swap.
use Rattle.std.specs.Prelude.{◌==◌, nat_lt}
use Rattle.base.specs.Tests.{pick}
use Rattle.parts.specs.declared.stage.ReserveStage.{ReserveStage}
use Rattle.parts.specs.declared.stage.ReserveStage.TheVariants as Y
use Rattle.parts.specs.declared.stage.SwapStage.{SwapStage}
use Rattle.parts.specs.declared.stage.SwapStage.TheVariants as X
use Rattle.parts.specs.declared.stage.PutStage.{PutStage}
use Rattle.parts.specs.declared.stage.PutStage.TheVariants as W
use Rattle.parts.specs.declared.stage.OwnStage.{OwnStage}
use Rattle.parts.specs.declared.stage.OwnStage.TheVariants.{Reserve, LoadBack, Put}
use Rattle.slots.specs.declared.StageWords.{StageWords}
use Rattle.slots.specs.Slots.{index_of, bare, with_b, with_count, with_job, with_far}
use Rattle.words.specs.Resize.{resize_words, resize_of}
use Rattle.words.specs.Batch.{with_wanted, wanted_of, with_haul, haul_of}

abbrev pub reserve_words : ReserveStage → StageWords
reserve_words Y.LoadBack = bare 0
reserve_words (Y.LoadFront b) = with_b b (bare 1)
reserve_words (Y.Resize at) = resize_words at

abbrev pub reserve_of : StageWords → ReserveStage
reserve_of w = pick (w.step == 0) Y.LoadBack (pick (w.step == 1) (Y.LoadFront (index_of w.b)) (Y.Resize (resize_of w)))

abbrev pub swap_words : SwapStage → StageWords
swap_words X.ReadNear = bare 40
swap_words (X.ReadFar near) = with_job near (bare 41)
swap_words (X.WriteNear near far) = with_far far (with_job near (bare 42))
swap_words (X.WriteFar near) = with_job near (bare 43)

abbrev pub swap_of : StageWords → SwapStage
swap_of w =
    pick (w.step == 40) X.ReadNear
    (pick (w.step == 41) (X.ReadFar w.job)
    (pick (w.step == 42) (X.WriteNear w.job w.far)
    (X.WriteFar w.job)))

abbrev pub put_words : PutStage → StageWords
put_words (W.WriteCopy i job) = with_job job (with_count i (bare 30))
put_words (W.WriteOne i job) = with_job job (with_count i (bare 31))
put_words (W.Swap x at) = with_count x (swap_words at)
put_words W.StoreBack = bare 32

abbrev pub put_of : StageWords → PutStage
put_of w =
    pick (w.step == 30) (W.WriteCopy w.i w.job)
    (pick (w.step == 31) (W.WriteOne w.i w.job)
    (pick (w.step == 32) W.StoreBack
    (W.Swap w.i (swap_of w))))

abbrev pub own_words : OwnStage → StageWords
own_words (Reserve wanted at) = with_wanted wanted (reserve_words at)
own_words (LoadBack wanted) = with_wanted wanted (bare 20)
own_words (Put haul at) = with_haul haul (put_words at)

abbrev pub own_of : StageWords → OwnStage
own_of w =
    pick (nat_lt w.step 20) (Reserve (wanted_of w) (reserve_of w))
    (pick (w.step == 20) (LoadBack (wanted_of w))
    (Put (haul_of w) (put_of w)))
