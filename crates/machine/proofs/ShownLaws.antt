-- A ring that is shown lies in the pool: a sound machine has an allowed capacity and a place below the count for each of its queues.
use Rattle.std.proofs.Common.{◌≡◌, ℕ, ◌+◌, ◌*◌, ◌<◌, ◌≤◌, Bool, true, false, ◌&&◌, eqb, ltb, refl, arith, ltb-true, eqb-true}
use Rattle.base.specs.Tests.{pick, both}
use Rattle.base.specs.Below.{all_below}
use Rattle.base.proofs.BelowLaws.{all_not}
use Rattle.index.specs.Index.{spans_b}
use Rattle.ring.specs.Capacity.{allowed_b}
use Rattle.ring.proofs.CapacityLaws.{allowed_is}
use Rattle.cells.specs.Cells.{place_cells}
use Rattle.sound.specs.Sound.{counts_b, ring_sound, queue_sound}
use Rattle.machine.specs.declared.state.Machine.{Machine}
use Rattle.machine.specs.declared.shown.Part.{Part}
use Rattle.machine.specs.State.{queue_at}
use Rattle.machine.specs.Sound.{queues_sound, stages_sound, all_apart, sound_b}
use Rattle.machine.specs.Shown.{part, ring_part, shows_b, shown_part}

all_at : (n i : ℕ) (f : ℕ → Bool) → i < n → all_below n f ≡ true → f i ≡ true
all_at n i f l e = go (f i) refl
  where
    go : (b : Bool) → f i ≡ b → f i ≡ true
    go true p = p
    go false p =
        let w = all_not n i f l p in
        let z : ◌≡◌ {A = Bool} true false = cc in
        cc

module _ (m : Machine) (len q : ℕ) where
  pub shown_room : shows_b m len q ≡ true → (queue_at m q).ring.place.0 * place_cells + (queue_at m q).ring.capacity ≤ len
  unfolding sound_b
  shown_room e =
      let a = both (sound_b m) (eqb len (m.place_count * place_cells) && ltb q m.queue_count) e in
      let b = both (eqb len (m.place_count * place_cells)) (ltb q m.queue_count) a.1 in
      let s = both (counts_b m.queue_count m.place_count) (queues_sound m && (stages_sound m && all_apart m)) a.0 in
      let u = both (queues_sound m) (stages_sound m && all_apart m) s.1 in
      let below = ltb-true q m.queue_count b.1 in
      let w = all_at m.queue_count q (λ i. queue_sound m.place_count (queue_at m i)) below u.0 in
      let r = both (ring_sound m.place_count (queue_at m q).ring) (spans_b (queue_at m q).back (queue_at m q).front (queue_at m q).ring.capacity) w in
      let t = both (allowed_b (queue_at m q).ring.capacity) (ltb (queue_at m q).ring.place.0 m.place_count) r.0 in
      let high = (allowed_is (queue_at m q).ring.capacity t.0).high in
      let place = ltb-true (queue_at m q).ring.place.0 m.place_count t.1 in
      let long = eqb-true len (m.place_count * place_cells) b.0 in
      omega arith

  -- a part that is shown is one of the pool
  pub part_fits : (shown_part m len q).start + (shown_part m len q).count ≤ len
  unfolding shown_part
  part_fits = go (shows_b m len q) refl
    where
      go : (b : Bool) → shows_b m len q ≡ b
          → (pick b (ring_part (queue_at m q).ring) (part 0 0)).start + (pick b (ring_part (queue_at m q).ring) (part 0 0)).count ≤ len
      go true e = shown_room e
      go false e = omega arith

  -- as the code has it
  pub fits : (p : Part) → p ≡ shown_part m len q → p.start + p.count ≤ len
  fits p e = rw e part_fits
