-- The tables agree: steal, length, and a batch from the own queue.
use Rattle.std.proofs.Common.{◌≡◌, ℕ, suc, ◌^◌, ◌≤◌, eqb, leb, List, refl, arith}
use Rattle.index.proofs.Laws.{empty_is, same_is}
use Rattle.ring.specs.declared.Ring.{Ring}
use Rattle.cells.specs.Cells.{read_of}
use Rattle.model.specs.Stage.{Flavour, Queue, cell, StealStage, steal_front, steal_back, steal_ring, steal_read, steal_reload, steal_exchange}
use Rattle.model.specs.Stage.{LengthStage, length_back, length_front, Stage, steal, len, own_batch, Out}
use Rattle.model.specs.Tables.{Claim, steal_step, length_step, own_batch_step}
use Rattle.model.specs.Logical.{hi}
use Rattle.model.specs.Invariant.{view, Span, StealKnows}
use Rattle.model.specs.Bound.{early_length, early_steal}
use Rattle.model.specs.Memory.{StealHolds}
use Rattle.model.proofs.Stable.{span_hi}
use Rattle.link.specs.Map.{ix}
use Rattle.link.proofs.AgreeResize.{either, next_ix, Fits, Agrees}
use Rattle.parts.specs.Out.{Claim as CodeClaim}

-- what is known of a ring of the touched queue that the thread holds: its cells, and its number against the current one's
pub record HeldRing (R : ℕ → Ring) (q : Queue) (cells : List ℕ) (r : ℕ) : Type 0 where
  pub reads : (i : ℕ) → read_of cells (R r) (ix i) ≡ cell q r i
  pub tells : eqb (R q.ring).number.0 (R r).number.0 ≡ eqb r q.ring

-- sk: the stage of the touched queue's owner
module _ (fo fl : Flavour) (R : ℕ → ℕ → Ring) (k : ℕ) (new : Ring) (q : Queue) (cells : List ℕ) (w : Fits (R k) q cells) (gm : Claim) (gc : CodeClaim)
    (sk : Stage)
    (top : hi sk q ≤ suc q.back) where
  abbrev Same : Stage → Out → Type 0
  Same x o = Agrees fo fl R k new gm gc cells x q o

  small : (f : ℕ) → Span fl (view sk q) f 1 → f ≤ 2 ^ 62
  small f s = let h = span_hi fl (view sk q) f 1 s in let b = w.back in omega arith

  pub steal_agree : (p : StealStage) → StealKnows fl p (view sk q) → early_steal p ≤ 2 ^ 62 → ((r : ℕ) → StealHolds p r → HeldRing (R k) q cells r)
      → Same (steal k p) (steal_step k p q)
  unfolding steal_step
  steal_agree steal_front s e h = refl
  steal_agree (steal_back f) s e h =
      let b = w.back in
      let t₁ = empty_is q.back f (omega arith) (omega arith) in
      either (leb q.back f) (λ t. rw (t₁, t)) (λ t. rw (t₁, t))
  steal_agree (steal_ring f) s e h = refl
  steal_agree (steal_read r f) s e h = rw ((h r refl).reads f)
  steal_agree (steal_reload r f v) s e h = let t₁ = (h r refl).tells in either (eqb r q.ring) (λ t. rw (t₁, t)) (λ t. rw (t₁, t))
  steal_agree (steal_exchange r f v) s e h =
      let i = small f s.0 in
      let n = next_ix f (omega arith) in
      let t₁ = same_is q.front f in
      either (eqb q.front f) (λ t. rw (n, t₁, t)) (λ t. rw (n, t₁, t))

  pub length_agree : (p : LengthStage) → Same (len k p) (length_step k p q)
  unfolding length_step
  length_agree length_back = refl
  length_agree (length_front b) = refl

  pub own_batch_agree : (p : LengthStage) → early_length p ≤ 2 ^ 62 → Same (own_batch p) (own_batch_step p q)
  unfolding own_batch_step
  own_batch_agree length_back e = refl
  own_batch_agree (length_front b) e =
      let f = w.front in
      let t₁ = empty_is b q.front (omega arith) (omega arith) in
      either (leb b q.front) (λ t. rw (t₁, t)) (λ t. rw (t₁, t))
