-- A steal as words: steps 0 to 5.
use Rattle.std.specs.Prelude.{◌==◌}
use Rattle.base.specs.Tests.{pick}
use Rattle.parts.specs.declared.stage.StealStage.{StealStage}
use Rattle.parts.specs.declared.stage.StealStage.TheVariants.{LoadFront, LoadBack, LoadRing, Read, ReloadRing, Exchange}
use Rattle.slots.specs.declared.StageWords.{StageWords}
use Rattle.slots.specs.Slots.{index_of, bare, with_f, with_job, with_ring, ring_of}

abbrev pub steal_words : StealStage → StageWords
steal_words LoadFront = bare 0
steal_words (LoadBack f) = with_f f (bare 1)
steal_words (LoadRing f) = with_f f (bare 2)
steal_words (Read f ring) = with_ring ring (with_f f (bare 3))
steal_words (ReloadRing f ring job) = with_ring ring (with_job job (with_f f (bare 4)))
steal_words (Exchange f ring job) = with_ring ring (with_job job (with_f f (bare 5)))

abbrev pub steal_of : StageWords → StealStage
steal_of w =
    pick (w.step == 0) LoadFront
    (pick (w.step == 1) (LoadBack (index_of w.f))
    (pick (w.step == 2) (LoadRing (index_of w.f))
    (pick (w.step == 3) (Read (index_of w.f) (ring_of w))
    (pick (w.step == 4) (ReloadRing (index_of w.f) (ring_of w) w.job)
    (Exchange (index_of w.f) (ring_of w) w.job)))))
