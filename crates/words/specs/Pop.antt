-- A pop as words: from a FIFO queue steps 0 to 4, a shrink those of a resize, from a LIFO queue steps 20 to 28.
use Rattle.std.specs.Prelude.{ℕ, ◌==◌, nat_lt}
use Rattle.base.specs.Tests.{pick}
use Rattle.parts.specs.declared.stage.FifoPopStage.{FifoPopStage}
use Rattle.parts.specs.declared.stage.FifoPopStage.TheVariants as D
use Rattle.parts.specs.declared.stage.LifoPopStage.{LifoPopStage}
use Rattle.parts.specs.declared.stage.LifoPopStage.TheVariants as L
use Rattle.parts.specs.declared.stage.PopStage.{PopStage}
use Rattle.parts.specs.declared.stage.PopStage.TheVariants.{Fifo, Lifo, Shrink}
use Rattle.parts.specs.declared.stage.Popper.{Popper}
use Rattle.parts.specs.declared.stage.Popper.TheVariants.{Pop, BatchAndPop}
use Rattle.slots.specs.declared.StageWords.{StageWords}
use Rattle.slots.specs.Slots.{index_of, bare, with_f, with_b, with_n, with_job}
use Rattle.words.specs.Resize.{resize_words, resize_of}

abbrev pub popper_word : Popper → ℕ
popper_word Pop = 0
popper_word BatchAndPop = 1

abbrev pub popper_of : ℕ → Popper
popper_of u = pick (u == 0) Pop BatchAndPop

abbrev pub fifo_words : FifoPopStage → StageWords
fifo_words D.LoadBack = bare 0
fifo_words (D.LoadFront b) = with_b b (bare 1)
fifo_words (D.FetchAdd b others) = with_n others (with_b b (bare 2))
fifo_words (D.RestoreFront f) = with_f f (bare 3)
fifo_words (D.Read f others) = with_n others (with_f f (bare 4))

abbrev pub fifo_of : StageWords → FifoPopStage
fifo_of w =
    pick (w.step == 0) D.LoadBack
    (pick (w.step == 1) (D.LoadFront (index_of w.b))
    (pick (w.step == 2) (D.FetchAdd (index_of w.b) w.n)
    (pick (w.step == 3) (D.RestoreFront (index_of w.f))
    (D.Read (index_of w.f) w.n))))

abbrev pub lifo_words : LifoPopStage → StageWords
lifo_words L.LoadBack = bare 20
lifo_words (L.LoadFront b) = with_b b (bare 21)
lifo_words (L.StoreBack b) = with_b b (bare 22)
lifo_words (L.ReloadFront b) = with_b b (bare 23)
lifo_words (L.RestoreBack b) = with_b b (bare 24)
lifo_words (L.ReadLast b) = with_b b (bare 25)
lifo_words (L.Exchange b job) = with_job job (with_b b (bare 26))
lifo_words (L.RestoreBackWon b job) = with_job job (with_b b (bare 27))
lifo_words (L.Read b others) = with_n others (with_b b (bare 28))

abbrev pub lifo_of : StageWords → LifoPopStage
lifo_of w =
    pick (w.step == 20) L.LoadBack
    (pick (w.step == 21) (L.LoadFront (index_of w.b))
    (pick (w.step == 22) (L.StoreBack (index_of w.b))
    (pick (w.step == 23) (L.ReloadFront (index_of w.b))
    (pick (w.step == 24) (L.RestoreBack (index_of w.b))
    (pick (w.step == 25) (L.ReadLast (index_of w.b))
    (pick (w.step == 26) (L.Exchange (index_of w.b) w.job)
    (pick (w.step == 27) (L.RestoreBackWon (index_of w.b) w.job)
    (L.Read (index_of w.b) w.n))))))))

abbrev pub pop_words : PopStage → StageWords
pop_words (Fifo at) = fifo_words at
pop_words (Lifo at) = lifo_words at
pop_words (Shrink job at) = with_job job (resize_words at)

abbrev pub pop_of : StageWords → PopStage
pop_of w =
    pick (nat_lt w.step 10) (Fifo (fifo_of w))
    (pick (nat_lt w.step 20) (Shrink w.job (resize_of w))
    (Lifo (lifo_of w)))
