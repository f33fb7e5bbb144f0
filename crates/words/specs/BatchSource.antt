-- The steps of a batch on its source as words: 0 to 2, and while the ring is held 20, 30 to 32 for all at once, 40 to 44 for one by one.
use Rattle.std.specs.Prelude.{◌==◌, nat_lt}
use Rattle.base.specs.Tests.{pick}
use Rattle.parts.specs.declared.stage.AllStage.{AllStage}
use Rattle.parts.specs.declared.stage.AllStage.TheVariants as M
use Rattle.parts.specs.declared.stage.OneStage.{OneStage}
use Rattle.parts.specs.declared.stage.OneStage.TheVariants as E
use Rattle.parts.specs.declared.stage.TakeStage.{TakeStage}
use Rattle.parts.specs.declared.stage.TakeStage.TheVariants.{ReadFirst, All, One}
use Rattle.parts.specs.declared.stage.SourceStage.{SourceStage}
use Rattle.parts.specs.declared.stage.SourceStage.TheVariants.{LoadFront, LoadBack, LoadRing, Take}
use Rattle.slots.specs.declared.StageWords.{StageWords}
use Rattle.slots.specs.Slots.{index_of, bare, with_f, with_b, with_n, with_count, with_job}
use Rattle.words.specs.Batch.{kind_of, with_kind, with_wanted, wanted_of, with_haul, haul_of}

-- all at once
abbrev pub all_words : AllStage → StageWords
all_words (M.Copy i) = with_count i (bare 30)
all_words M.ReloadRing = bare 31
all_words M.Exchange = bare 32

abbrev pub all_of : StageWords → AllStage
all_of w = pick (w.step == 30) (M.Copy w.i) (pick (w.step == 31) M.ReloadRing M.Exchange)

-- one by one
abbrev pub one_words : OneStage → StageWords
one_words (E.ExchangeFirst job) = with_job job (bare 40)
one_words (E.ReloadBack i) = with_count i (bare 41)
one_words (E.Read i) = with_count i (bare 42)
one_words (E.ReloadRing i job) = with_job job (with_count i (bare 43))
one_words (E.Exchange i job) = with_job job (with_count i (bare 44))

abbrev pub one_of : StageWords → OneStage
one_of w =
    pick (w.step == 40) (E.ExchangeFirst w.job)
    (pick (w.step == 41) (E.ReloadBack w.i)
    (pick (w.step == 42) (E.Read w.i)
    (pick (w.step == 43) (E.ReloadRing w.i w.job)
    (E.Exchange w.i w.job))))

abbrev pub take_words : TakeStage → StageWords
take_words ReadFirst = bare 20
take_words (All at) = all_words at
take_words (One at) = one_words at

abbrev pub take_of : StageWords → TakeStage
take_of w = pick (w.step == 20) ReadFirst (pick (nat_lt w.step 40) (All (all_of w)) (One (one_of w)))

abbrev pub source_words : SourceStage → StageWords
source_words (LoadFront kind others) = with_n others (with_kind kind (bare 0))
source_words (LoadBack kind others f) = with_f f (with_n others (with_kind kind (bare 1)))
source_words (LoadRing wanted b) = with_b b (with_wanted wanted (bare 2))
source_words (Take haul at) = with_haul haul (take_words at)

abbrev pub source_of : StageWords → SourceStage
source_of w =
    pick (w.step == 0) (LoadFront (kind_of w.kind) w.n)
    (pick (w.step == 1) (LoadBack (kind_of w.kind) w.n (index_of w.f))
    (pick (w.step == 2) (LoadRing (wanted_of w) (index_of w.b))
    (Take (haul_of w) (take_of w))))
