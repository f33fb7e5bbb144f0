-- Resize. Load back; load front and claim a ring. Copy cells from front on, one step each, until the next index equals the back just loaded.
-- Swap the current ring.
use Rattle.std.specs.Prelude.{ℕ, ◌-◌, ◌^◌, List, nat_lt, Some, None}
use Rattle.base.specs.Tests.{pick}
use Rattle.index.specs.declared.Index.{Index}
use Rattle.index.specs.Index.{same_b, plus_of}
use Rattle.ring.specs.declared.RingNumber.{RingNumber}
use Rattle.ring.specs.declared.Ring.{Ring}
use Rattle.cells.specs.Cells.{copied_of}
use Rattle.parts.specs.declared.queue.Queue.{Queue}
use Rattle.parts.specs.declared.stage.ResizeStage.{ResizeStage}
use Rattle.parts.specs.declared.stage.ResizeStage.TheVariants.{LoadBack, LoadFront, Copy, Swap}
use Rattle.parts.specs.declared.out.Resized.{Resized}
use Rattle.parts.specs.declared.out.Resized.TheVariants.{Stage, NoRing, Done}
use Rattle.parts.specs.Out.{Claim, with_ring}

pub record Resizing : Type 0 where
  pub resized : Resized
  pub cells : List ℕ

abbrev pub resizing : Resized → List ℕ → Resizing
resizing r cells = record { resized = r; cells = cells }

-- the next index is i: copy it, or swap where it is the back just loaded
abbrev pub copying : Index → Index → Ring → Resized
copying b i ring = pick (same_b i b) (Stage (Swap ring)) (Stage (Copy b i ring))

-- what a claim finds: p is the lowest-numbered free place, or the place count n with none free; 2^64 - 1 is never given
abbrev pub found_of : ℕ → ℕ → RingNumber → Claim
found_of p n number = pick (nat_lt p n) (pick (nat_lt number.0 (2 ^ 64 - 1)) (Some (record { number = number; place = record { 0 = p } })) None) None

abbrev pub claimed : ℕ → Index → Queue → Claim → Resized
claimed c b q None = NoRing
claimed c b q (Some r) = copying b q.front (record { number = r.number; place = r.place; capacity = c })

abbrev pub resize_of : ResizeStage → Queue → Claim → List ℕ → Resizing
resize_of (LoadBack c) q g cells = resizing (Stage (LoadFront c q.back)) cells
resize_of (LoadFront c b) q g cells = resizing (claimed c b q g) cells
resize_of (Copy b i ring) q g cells = resizing (copying b (plus_of i 1) ring) (copied_of cells q.ring ring i)
resize_of (Swap ring) q g cells = resizing (Done (with_ring q ring)) cells
