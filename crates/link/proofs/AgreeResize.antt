-- The tables agree: a step of the code's tables at a state of the model is the model's step. Here what every operation's agreement needs, and the
-- resize.
use Rattle.std.proofs.Common.{◌≡◌, ℕ, suc, ◌+◌, ◌^◌, ◌<◌, ◌≤◌, Bool, true, false, eqb, List, refl, ap, ◌∙◌, arith, Some, None}
use Rattle.index.specs.Index.{plus_of}
use Rattle.index.proofs.Laws.{plus_is, same_is}
use Rattle.ring.specs.declared.Ring.{Ring}
use Rattle.cells.specs.Cells.{read_of}
use Rattle.parts.specs.declared.out.Resized.{Resized as CodeResized}
use Rattle.parts.specs.declared.out.Resized.TheVariants as M
use Rattle.op_resize.specs.Resize.{resizing, resize_of}
use Rattle.parts.specs.Out.{Claim as CodeClaim, left}
use Rattle.advance.specs.Advance.{advance_of}
use Rattle.model.specs.Stage.{Flavour, Queue, at, cap, ResizeStage, resize_back, resize_front, resize_copy, resize_swap, Stage, Out}
use Rattle.model.specs.Tables.{Claim, lost, got, Resized, more, failed, finished, resize_step}
use Rattle.model.specs.Invariant.{ResizeOk}
use Rattle.model.specs.Memory.{note_resize, note}
use Rattle.link.specs.Map.{ix, flavor_of, resize_at, stage_for, queue_for, out_for, noted, ClaimIs}

-- a test does not find both
pub true_false : true ≡ false → ⊥
true_false e = let z : ◌≡◌ {A = ℕ} 0 1 = cc in omega arith

-- by cases on a test
pub either : {G : Type 0} (b : Bool) → (b ≡ true → G) → (b ≡ false → G) → G
either true x y = x refl
either false x y = y refl

-- the next index
pub next_ix : (i : ℕ) → i < 2 ^ 62 + 2 → plus_of (ix i) 1 ≡ ix (suc i)
next_ix i h = let e : i + 1 ≡ suc i = omega arith in plus_is i 1 (omega arith) ∙ ap ix e

-- what is known of the queue that a step touches: R names its rings
pub record Fits (R : ℕ → Ring) (q : Queue) (cells : List ℕ) : Type 0 where
  pub front : q.front ≤ 2 ^ 62
  pub back : q.back ≤ 2 ^ 62
  pub room : cap q ≤ 2 ^ 61
  pub capacity : (R q.ring).capacity ≡ cap q
  pub reads : (i : ℕ) → read_of cells (R q.ring) (ix i) ≡ at q i

-- thread's stage x, own flavour fo; queue k touched, of flavour fk; gm, gc: what a claim finds, in the model and in the code
abbrev pub Agrees : (fo fk : Flavour) → (ℕ → ℕ → Ring) → (k : ℕ) → Ring → Claim → CodeClaim → List ℕ → Stage → Queue → Out → Type 0
Agrees fo fk R k new gm gc cells x q o =
    advance_of (stage_for R new x) (flavor_of fo) (queue_for fk (R k) q) gc cells ≡ left (out_for fk R k new o)
    (noted (note gm fo x) (R k q.ring) new cells)

abbrev pub resized_for : Flavour → (ℕ → Ring) → Ring → Resized → CodeResized
resized_for fl R new (more z) = M.Stage (resize_at new z)
resized_for fl R new failed = M.NoRing
resized_for fl R new (finished q) = M.Done (queue_for fl R q)

-- what a step of a resize asks of the names
abbrev pub ResizeNames : (ℕ → Ring) → Ring → Claim → CodeClaim → ResizeStage → Queue → Type 0
ResizeNames R new gm gc (resize_back c) q = Unit
ResizeNames R new gm gc (resize_front c b) q = ClaimIs new c gm gc
ResizeNames R new gm gc (resize_copy c b i f) q = Unit
ResizeNames R new gm gc (resize_swap c f) q = R q.top ≡ new

module _ (fl : Flavour) (R : ℕ → Ring) (new : Ring) (q : Queue) (cells : List ℕ) (w : Fits R q cells) where
  pub resize_agree : (need : ℕ) (gm : Claim) (gc : CodeClaim) (z : ResizeStage) → ResizeOk need z q → ResizeNames R new gm gc z q
      → resize_of (resize_at new z) (queue_for fl R q) gc cells ≡ resizing (resized_for fl R new (resize_step gm z q)) (noted (note_resize gm z) (R q.ring) new cells)
  unfolding resize_step
  resize_agree need gm gc (resize_back c) o h = refl
  resize_agree need lost None (resize_front c b) o h = refl
  resize_agree need lost (Some r) (resize_front c b) o h = absurd h
  resize_agree need (got f) None (resize_front c b) o h = absurd h
  resize_agree need (got f) (Some r) (resize_front c b) o h =
      either (eqb q.front b) (λ e. rw (h, same_is q.front b, e)) (λ e. rw (h, same_is q.front b, e))
  resize_agree need gm gc (resize_copy c b i f) o h =
      let s = w.back in
      let l = o.3 in
      let n = next_ix i (omega arith) in
      either (eqb (suc i) b) (λ e. rw (n, same_is (suc i) b, e)) (λ e. rw (n, same_is (suc i) b, e))
  resize_agree need gm gc (resize_swap c f) o h = rw h
