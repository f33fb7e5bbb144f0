-- The tables agree: the steps of a batch on its source.
use Rattle.std.proofs.Common.{◌≡◌, ℕ, suc, ◌+◌, ◌-◌, ◌^◌, ◌≤◌, true, eqb, leb, List, refl, arith}
use Rattle.index.specs.Index.{plus_of, same_b}
use Rattle.index.proofs.Laws.{empty_is, same_is, length_is}
use Rattle.ring.specs.declared.Ring.{Ring}
use Rattle.cells.specs.Cells.{read_of}
use Rattle.op_batch.specs.Haul as H
use Rattle.model.specs.Stage.{Flavour, fifo, lifo, Queue, cell, set_front, BatchKind, plain, and_pop, InHand, none, some, Haul, source, SourceStage}
use Rattle.model.specs.Stage.{source_front, source_back, source_ring, source_first, all_copy, all_reload, all_exchange, one_first, one_back, one_read}
use Rattle.model.specs.Stage.{one_reload, one_exchange, Stage, Out, going}
use Rattle.model.specs.Tables.{Claim, wanted, hauling, with_job, onward, in_hand, holding, first_read, source_step}
use Rattle.model.specs.Logical.{lo, hi}
use Rattle.model.specs.Invariant.{view, Bulk, Single, SourceKnows}
use Rattle.model.specs.Bound.{early_source}
use Rattle.model.specs.Memory.{SourceHolds}
use Rattle.model.proofs.Stable.{fifo_hi, span_hi}
use Rattle.link.specs.Map.{ix, kind_of}
use Rattle.link.proofs.AgreeResize.{either, next_ix, Fits, Agrees}
use Rattle.link.proofs.AgreeSteal.{HeldRing}
use Rattle.link.proofs.AgreeBatch.{copy_agree, stop_agree, turn_agree, first_ix}
use Rattle.parts.specs.Out.{Claim as CodeClaim}

wanted_agree : (m : BatchKind) (d others : ℕ) → H.wanted_of (kind_of m) d others ≡ wanted m d others
wanted_agree plain d others = refl
wanted_agree and_pop d others = refl

module _ (fo : Flavour) (R : ℕ → ℕ → Ring) (k : ℕ) (new : Ring) (q : Queue) (cells : List ℕ) (gm : Claim) (gc : CodeClaim) where
  abbrev Same : (fl : Flavour) → SourceStage → Out → Type 0
  Same fl p o = Agrees fo fl R k new gm gc cells (source k p) q o

  ring_agree : (fl : Flavour) (m : BatchKind) (f n b : ℕ)
      → Same fl (source_ring (record { kind = m; f = f; n = n }) b) (holding m fl fo k (hauling q.ring (record { kind = m; f = f; n = n }) b) q)
  ring_agree fifo plain f n b = rw (copy_agree R k new (hauling q.ring (record { kind = plain; f = f; n = n }) b) 0)
  ring_agree lifo plain f n b =
      either (leb n 0) (λ t. rw (t, stop_agree R k new k fo lifo (hauling q.ring (record { kind = plain; f = f; n = n }) b) 0 q)) (λ t. rw t)
  ring_agree fifo and_pop f n b = refl
  ring_agree lifo and_pop f n b = refl

  first_agree : (fl : Flavour) (h : Haul) → read_of cells (R k h.ring) (ix h.f) ≡ cell q h.ring h.f
      → Same fl (source_first h) (going q (first_read fl k h (cell q h.ring h.f)))
  first_agree fifo h e = rw (e, copy_agree R k new (with_job h (cell q h.ring h.f)) 0)
  first_agree lifo h e = rw e

  back_agree : (fl : Flavour) (m : BatchKind) (others f : ℕ) → q.back ≤ 2 ^ 62 → f ≤ 2 ^ 62
      → Same fl (source_back m others f) (source_step fl fo k (source_back m others f) q)
  unfolding source_step
  back_agree fl m others f b s =
      let t₁ = empty_is q.back f (omega arith) (omega arith) in
      let t₂ = length_is q.back f (omega arith) (omega arith) in
      let d : ℕ = q.back - f in
      let e = wanted_agree m d others in
      either (leb q.back f) (λ t. rw (t₁, t))
      (λ t. either (eqb (wanted m d others) 0) (λ u. rw (t₁, t, t₂, e, u)) (λ u. rw (t₁, t, t₂, e, u)))

module _ (fo fl : Flavour) (R : ℕ → ℕ → Ring) (k : ℕ) (new : Ring) (q : Queue) (cells : List ℕ) (w : Fits (R k) q cells) (gm : Claim) (gc : CodeClaim)
    (sk : Stage)
    (top : hi sk q ≤ suc q.back) (mine : ℕ → ℕ) where
  abbrev Agree : SourceStage → Type 0
  Agree p = Agrees fo fl R k new gm gc cells (source k p) q (source_step fl fo k p q)

  -- f and what is taken from f on
  bulk_small : (h : Haul) (i : ℕ) → Bulk fl fo mine (view sk q) h i → h.f + in_hand h.hand + h.n ≤ 2 ^ 62 + 1
  bulk_small h i s = let l = fifo_hi fl (view sk q) h.f (in_hand h.hand + h.n) s.0 s.1 in let b = w.back in omega arith

  one_small : (h : Haul) → Single fl (view sk q) h → h.f ≤ 2 ^ 62
  one_small h s = let l = span_hi fl (view sk q) h.f 1 s.1 in let b = w.back in omega arith

  front_small : (f : ℕ) → f ≤ lo sk q → lo sk q ≤ q.front → f ≤ 2 ^ 62
  front_small f a b = let c = w.front in omega arith

  pub source_agree : (p : SourceStage) → SourceKnows fl fo p mine (view sk q) → lo sk q ≤ q.front → early_source p ≤ 2 ^ 62
      → ((r : ℕ) → SourceHolds p r → HeldRing (R k) q cells r) → Agree p
  unfolding source_step
  source_agree (source_front m others) s o e h = refl
  source_agree (source_back m others f) s o e h = back_agree fo R k new q cells gm gc fl m others f w.back e
  source_agree (source_ring a b) s o e h = ring_agree fo R k new q cells gm gc fl a.kind a.f a.n b
  source_agree (source_first j) s o e h = first_agree fo R k new q cells gm gc fl j ((h j.ring refl).reads j.f)
  source_agree (all_copy j i) s o e h =
      let b = bulk_small j i s.0 in
      let l = s.2 in
      rw (first_ix j.hand j.f i (omega arith), (h j.ring refl).reads (j.f + in_hand j.hand + i))
  source_agree (all_reload j) s o e h = let t₁ = (h j.ring refl).tells in either (eqb j.ring q.ring) (λ t. rw (t₁, t)) (λ t. rw (t₁, t))
  source_agree (all_exchange j) s o e h =
      let b = bulk_small j j.n s.0 in
      let n = first_ix j.hand j.f j.n (omega arith) in
      let t₁ = same_is q.front j.f in
      either (eqb q.front j.f) (λ t. rw (n, t₁, t)) (λ t. rw (n, t₁, t))
  source_agree (one_first j v) s o e h =
      let b = one_small j s.0 in
      let n = next_ix j.f (omega arith) in
      let t₁ = same_is q.front j.f in
      either (eqb q.front j.f) (λ t. rw (n, t₁, t, turn_agree R k new k fo fl (onward j (some v)) 0 (set_front q (suc j.f)))) (λ t. rw (n, t₁, t))
  source_agree (one_back j i) s o e h =
      let b = w.back in
      let f = front_small j.f s.1 o in
      let t₁ = empty_is q.back j.f (omega arith) (omega arith) in
      either (leb q.back j.f) (λ t. rw (t₁, t, stop_agree R k new k fo fl j i q)) (λ t. rw (t₁, t))
  source_agree (one_read j i) s o e h = rw ((h j.ring refl).reads j.f)
  source_agree (one_reload j i v) s o e h =
      let t₁ = (h j.ring refl).tells in
      either (eqb j.ring q.ring) (λ t. rw (t₁, t)) (λ t. rw (t₁, t, stop_agree R k new k fo fl j i q))
  source_agree (one_exchange j i v) s o e h =
      let b = one_small j s.0 in
      let n = next_ix j.f (omega arith) in
      let t₁ = same_is q.front j.f in
      either (eqb q.front j.f) (λ t. taken j.hand refl n t₁ t) (λ t. rw (n, t₁, t, stop_agree R k new k fo fl j i q))
    where
      taken : (a : InHand) → j.hand ≡ a → plus_of (ix j.f) 1 ≡ ix (suc j.f) → same_b (ix q.front) (ix j.f) ≡ eqb q.front j.f
          → eqb q.front j.f ≡ true
          → Agree (one_exchange j i v)
      taken none a n s t = rw (n, s, t, a)
      taken (some x) a n s t = rw (n, s, t, a)
