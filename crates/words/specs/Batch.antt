-- What a batch remembers as words: its kind, what it wants, what it hauls.
use Rattle.std.specs.Prelude.{ℕ, ◌==◌, Option, Some, None}
use Rattle.base.specs.Tests.{pick}
use Rattle.parts.specs.declared.stage.BatchKind.{BatchKind}
use Rattle.parts.specs.declared.stage.BatchKind.TheVariants.{Batch, BatchAndPop}
use Rattle.parts.specs.declared.stage.Wanted.{Wanted}
use Rattle.parts.specs.declared.stage.Haul.{Haul}
use Rattle.slots.specs.declared.StageWords.{StageWords}
use Rattle.slots.specs.Slots.{slots, index_word, index_of, ring_of}

abbrev pub kind_word : BatchKind → ℕ
kind_word Batch = 0
kind_word BatchAndPop = 1

abbrev pub kind_of : ℕ → BatchKind
kind_of u = pick (u == 0) Batch BatchAndPop

abbrev pub with_kind : BatchKind → StageWords → StageWords
with_kind k w = slots w.operation w.number (kind_word k) w.step w.f w.b w.n w.i w.end w.job w.far w.hand w.held w.ring w.place w.capacity

-- whether a job is in hand, and that job
abbrev pub hand_word : Option ℕ → ℕ
hand_word None = 0
hand_word (Some job) = 1

abbrev pub held_word : Option ℕ → ℕ
held_word None = 0
held_word (Some job) = job

abbrev pub hand_of : ℕ → ℕ → Option ℕ
hand_of hand held = pick (hand == 0) None (Some held)

abbrev pub with_wanted : Wanted → StageWords → StageWords
with_wanted h w = slots w.operation w.number (kind_word h.kind) w.step (index_word h.f) w.b h.n w.i w.end w.job w.far w.hand w.held w.ring w.place w.capacity

abbrev pub wanted_of : StageWords → Wanted
wanted_of w = record { kind = kind_of w.kind; f = index_of w.f; n = w.n }

abbrev pub with_haul : Haul → StageWords → StageWords
with_haul h w = slots w.operation w.number w.kind w.step (index_word h.f) (index_word h.b) h.n w.i w.end w.job w.far (hand_word h.in_hand) (held_word h.in_hand) h.ring.number.0 h.ring.place.0 h.ring.capacity

abbrev pub haul_of : StageWords → Haul
haul_of w = record {
  ring = ring_of w;
  f = index_of w.f;
  n = w.n;
  b = index_of w.b;
  in_hand = hand_of w.hand w.held;
}
