-- Sound means this and no more: counts, queues and stages as `sound` asks, and current and built rings in different places.
use Rattle.std.specs.Prelude.{ℕ, Bool, ◌&&◌}
use Rattle.base.specs.Below.{all_below}
use Rattle.sound.specs.Sound.{counts_b, queues_sound_of, stage_sound}
use Rattle.places.specs.Places.{apart_of, all_apart_of}
use Rattle.machine.specs.declared.state.Machine.{Machine}
use Rattle.machine.specs.State.{queue_at, stage_at, kept_at}

-- queue i's ring and what thread j builds; and, of two, the queues' rings and what the threads build
abbrev pub apart_b : Machine → ℕ → ℕ → Bool
apart_b m i j = apart_of (queue_at m) (kept_at m) i j

abbrev pub queues_sound : Machine → Bool
queues_sound m = queues_sound_of m.queue_count m.place_count (queue_at m)

abbrev pub stages_sound : Machine → Bool
stages_sound m = all_below m.queue_count (λ t. stage_sound m.queue_count m.place_count (stage_at m t))

abbrev pub all_apart : Machine → Bool
all_apart m = all_apart_of (queue_at m) (kept_at m) m.queue_count

unfoldable pub sound_b : Machine → Bool
sound_b m = counts_b m.queue_count m.place_count && (queues_sound m && (stages_sound m && all_apart m))
