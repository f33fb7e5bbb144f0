-- A queue's ring is shown as the caller's own cells: where it starts in the pool, how many cells it has, and these. An unsound state, a wrong pool length or
-- a queue that is not there shows an empty part.
use Rattle.std.specs.Prelude.{◌≡◌, ℕ, ◌-◌, ◌^◌, List, [], ◌∷◌, map, pos, refl}
use Rattle.std.specs.Int.Count.{ones, ones_in}
use Rattle.base.specs.Below.{all_below}
use Rattle.index.specs.Index.{wrap, difference_of, spans_b}
use Rattle.ring.specs.Capacity.{allowed_b}
use Rattle.parts.specs.declared.queue.Flavor.TheVariants.{Fifo, Lifo}
use Rattle.machine.specs.declared.state.Machine.{Machine}
use Rattle.machine.specs.State.{with_queue}
use Rattle.machine.specs.Sound.{sound_b}
use Rattle.machine.specs.Setup.{zero_machine, fresh_machine}
use Rattle.machine.specs.declared.shown.Part.{Part}
use Rattle.machine.specs.Shown.{shown_part, shown_of}
use Rattle.witness.specs.Stages.{ring_at}
use Rattle.witness.specs.Lines.{from}

-- a machine, a pool of so many cells, a queue; the first cell that is shown, how many, and the cells
pub record Row : Type 0 where
  pub machine : Machine
  pub cells : ℕ
  pub queue : ℕ
  pub start : ℕ
  pub count : ℕ
  pub shown : List ℕ

abbrev row : Machine → ℕ → ℕ → ℕ → ℕ → List ℕ → Row
row m len q a n l = record { machine = m; cells = len; queue = q; start = a; count = n; shown = l }

abbrev showing : Row → Row
showing r =
    let p : Part = shown_part r.machine r.cells r.queue in row r.machine r.cells r.queue p.start p.count (shown_of p (from 0 r.cells))

-- two queues, three places
abbrev two : Machine
two = fresh_machine 2 (Fifo ∷ Lifo ∷ []) 3

-- queue 1 in another ring
abbrev ringed : ℕ → ℕ → Machine
ringed place capacity = with_queue two 1 (record {
  flavor = Lifo;
  front = record { 0 = pos 70 };
  back = record { 0 = pos 71 };
  ring = ring_at place capacity;
})

abbrev pub rows : List Row
rows =
    -- the whole ring, capacity cells, whatever front and back are
    row two 768 0 0 64 (from 0 64) ∷
    row two 768 1 256 64 (from 256 64) ∷
    row (ringed 2 64) 768 1 512 64 (from 512 64) ∷
    row (ringed 2 128) 768 1 512 128 (from 512 128) ∷
    row (ringed 1 256) 768 1 256 256 (from 256 256) ∷
    -- an unsound state
    row zero_machine 0 0 0 0 [] ∷
    row (ringed 1 65) 768 1 0 0 [] ∷
    row (ringed 1 65) 768 0 0 0 [] ∷
    row (ringed 0 64) 768 0 0 0 [] ∷
    -- a wrong pool length
    row two 767 0 0 0 [] ∷
    row two 769 0 0 0 [] ∷
    row two 512 1 0 0 [] ∷
    row two 0 0 0 0 [] ∷
    -- a queue that is not there
    row two 768 2 0 0 [] ∷
    row two 768 3 0 0 [] ∷
    row two 768 (2 ^ 64 - 1) 0 0 [] ∷
    []

pub all_rows : map showing rows ≡ rows
unfolding from shown_part sound_b all_below allowed_b ones ones_in spans_b difference_of wrap
all_rows = refl
