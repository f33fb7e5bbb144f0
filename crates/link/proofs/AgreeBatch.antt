-- The tables agree: what both halves of a batch share.
use Rattle.std.proofs.Common.{◌≡◌, ℕ, ◌+◌, ◌/◌, ◌^◌, ◌<◌, eqb, leb, refl, ap, ◌∙◌, arith}
use Rattle.index.specs.Index.{plus_of}
use Rattle.index.proofs.Laws.{plus_is}
use Rattle.ring.specs.declared.Ring.{Ring}
use Rattle.parts.specs.declared.stage.SourceStage.TheVariants.{Take}
use Rattle.parts.specs.declared.stage.OwnStage.TheVariants.{Put}
use Rattle.parts.specs.declared.stage.Stage.TheVariants.{BatchSource, BatchOwn}
use Rattle.op_batch.specs.Haul as H
use Rattle.parts.specs.Out.{out_of}
use Rattle.advance.specs.Advance.{batch_at}
use Rattle.model.specs.Stage.{Flavour, fifo, lifo, Queue, InHand, none, some, Haul}
use Rattle.model.specs.Tables.{with_count, in_hand, copy_next, swap_next, landing, stopped, turning}
use Rattle.link.specs.Map.{ix, flavor_of, hand_for, haul_for, stage_for, queue_for, out_for}
use Rattle.link.proofs.AgreeResize.{either}

abbrev with_hand : Haul → InHand → Haul
with_hand h a = record { ring = h.ring; f = h.f; n = h.n; b = h.b; hand = a }

module _ (R : ℕ → ℕ → Ring) (k : ℕ) (new : Ring) where
  pub copy_agree : (h : Haul) (i : ℕ) → BatchSource k (Take (haul_for (R k) h) (H.copying (H.turn_of h.n i))) ≡ stage_for R new (copy_next k h i)
  copy_agree h i = either (leb h.n i) (λ t. rw t) (λ t. rw t)

  pub swap_agree : (h : Haul) (x : ℕ) → BatchOwn k (Put (haul_for (R k) h) (H.swapping (H.turn_of (h.n / 2) x))) ≡ stage_for R new (swap_next k h x)
  swap_agree h x = either (leb (h.n / 2) x) (λ t. rw t) (λ t. rw t)

  landing_agree : (fo : Flavour) (h : Haul) → BatchOwn k (Put (haul_for (R k) h) (H.landing (flavor_of fo) h.n)) ≡ stage_for R new (landing fo k h)
  landing_agree fifo h = swap_agree h 0
  landing_agree lifo h = refl

  -- the queue that the step touched is j, of flavour fl
  module _ (j : ℕ) (fo fl : Flavour) where
    pub stop_agree : (h : Haul) (i : ℕ) (q : Queue)
        → out_of (batch_at k) (H.stopped (flavor_of fo) (haul_for (R k) h) i (queue_for fl (R j) q)) ≡ out_for fl R j new (stopped fo k h i q)
    stop_agree h i q = go h.hand
      where
        go : (a : InHand) → out_of (batch_at k) (H.stopped (flavor_of fo) (haul_for (R k) (with_hand h a)) i (queue_for fl (R j) q)) ≡ out_for fl R j new (stopped fo k (with_hand h a) i q)
        go none = either (eqb i 0) (λ t. rw t) (λ t. rw (t, landing_agree fo (with_count (with_hand h none) i)))
        go (some v) = rw (landing_agree fo (with_count (with_hand h (some v)) i))

    pub turn_agree : (h : Haul) (i : ℕ) (q : Queue)
        → out_of (batch_at k) (H.turning (flavor_of fo) (haul_for (R k) h) i (queue_for fl (R j) q)) ≡ out_for fl R j new (turning fo k h i q)
    turn_agree h i q = either (leb h.n i) (λ t. rw (t, stop_agree h i q)) (λ t. rw t)

-- the first of the n jobs
pub first_ix : (j : InHand) (f i : ℕ) → f + in_hand j + i < 2 ^ 62 + 2 → plus_of (H.first_of (hand_for j) (ix f)) i ≡ ix (f + in_hand j + i)
first_ix none f i h = let e : f + 0 + i ≡ f + i = omega arith in plus_is f i (omega arith) ∙ ap ix (omega arith)
first_ix (some v) f i h = rw (plus_is f 1 (omega arith)) (plus_is (f + 1) i (omega arith))
