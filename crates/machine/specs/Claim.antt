-- A claim takes the lowest-numbered free place. Ring numbers count up; 2^64 - 1 is never given.
use Rattle.std.specs.Prelude.{ℕ, Bool, None}
use Rattle.base.specs.Tests.{pick}
use Rattle.parts.specs.declared.stage.Stage.{Stage}
use Rattle.stages.specs.Stages.{claims_b}
use Rattle.op_resize.specs.Resize.{found_of}
use Rattle.places.specs.Places.{used_by_of, used_of, free_place_of}
use Rattle.machine.specs.declared.state.Machine.{Machine}
use Rattle.machine.specs.State.{queue_at, kept_at}
use Rattle.parts.specs.Out.{Claim}

abbrev pub used_by : Machine → ℕ → ℕ → Bool
used_by m p i = used_by_of (queue_at m) (kept_at m) p i

abbrev pub used_b : Machine → ℕ → Bool
used_b m p = used_of (queue_at m) (kept_at m) m.queue_count p

-- the lowest-numbered free place, and the place count where none is free
abbrev pub free_place : Machine → ℕ
free_place m = free_place_of (queue_at m) (kept_at m) m.queue_count m.place_count

unfoldable pub free_ring : Machine → Claim
free_ring m = found_of (free_place m) m.place_count m.next_ring

-- what the step at a stage claims
abbrev pub claim_of : Machine → Stage → Claim
claim_of m s = pick (claims_b s) (free_ring m) None
