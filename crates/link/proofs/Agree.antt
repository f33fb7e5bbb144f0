-- The tables agree at every stage of a linked state: one line an operation.
use Rattle.std.proofs.Common.{◌≡◌, ℕ, suc, ◌^◌, ◌<◌, ◌≤◌, T, List, refl, arith}
use Rattle.ring.specs.declared.Ring.{Ring}
use Rattle.machine.specs.declared.state.Machine.{Machine}
use Rattle.model.specs.Stage.{Flavour, at, ResizeStage, resize_back, resize_front, resize_copy, resize_swap, PushStage, push_back, push_front}
use Rattle.model.specs.Stage.{push_resize, push_write, push_store, own, source, OwnStage, reserve_back, reserve_front, reserve_resize, own_back}
use Rattle.model.specs.Stage.{all_write, one_write, swap_near, swap_far, swap_put, swap_last, own_store, Stage, idle, push, fifo_pop, lifo_pop, shrink}
use Rattle.model.specs.Stage.{steal, len, own_batch}
use Rattle.model.specs.Tables.{Claim}
use Rattle.model.specs.Machine.{State, touched, busy, step_at}
use Rattle.model.specs.Logical.{hi}
use Rattle.model.specs.Invariant.{Aware, Inv}
use Rattle.model.specs.Bound.{early, Bounded}
use Rattle.model.specs.Memory.{Holds}
use Rattle.model.proofs.Indices.{front_le}
use Rattle.link.specs.Map.{offer_for, ResizeClaims, PushClaims, OwnClaims, StageClaims}
use Rattle.link.specs.Linked.{Linked}
use Rattle.link.proofs.AgreeResize.{Fits, Agrees, ResizeNames}
use Rattle.link.proofs.AgreePush.{PushNames, push_agree}
use Rattle.link.proofs.AgreePop.{shrink_agree, fifo_agree, lifo_agree}
use Rattle.link.proofs.AgreeSteal.{HeldRing, steal_agree, length_agree, own_batch_agree}
use Rattle.link.proofs.AgreeSource.{source_agree}
use Rattle.link.proofs.AgreeOwn.{OwnNames, own_agree}
use Rattle.link.proofs.LinkedLaws.{held_ring, fits}
use Rattle.parts.specs.Out.{Claim as CodeClaim}

module _ (n : ℕ) (fl : ℕ → Flavour) (R : ℕ → ℕ → Ring) (s : State) (m : Machine) (cells : List ℕ) (w : Linked n fl R s m cells) (mem : ℕ → ℕ)
    (v : Inv n fl mem s) (c : ℕ)
    (b : Bounded n c s) (lc : c < 2 ^ 62) (t : ℕ) (lt : t < n) (gm : Claim) (gc : CodeClaim) where
  abbrev W : Ring
  W = R t (s.queues t).top

  resize_names : (z : ResizeStage) → ResizeClaims W gm gc z → ResizeNames (R t) W gm gc z (s.queues t)
  resize_names (resize_back c) h = tt
  resize_names (resize_front c i) h = h
  resize_names (resize_copy c i j f) h = tt
  resize_names (resize_swap c f) h = refl

  push_names : (p : PushStage) → PushClaims W gm gc p → PushNames (R t) W gm gc p (s.queues t)
  push_names push_back h = tt
  push_names (push_front i) h = tt
  push_names (push_resize i z) h = resize_names z h
  push_names (push_write i) h = tt
  push_names (push_store i) h = tt

  own_names : (p : OwnStage) → OwnClaims W gm gc p → OwnNames (R t) W gm gc p (s.queues t)
  own_names (reserve_back a) h = tt
  own_names (reserve_front a i) h = tt
  own_names (reserve_resize a z) h = resize_names z h
  own_names (own_back a) h = tt
  own_names (all_write j i x) h = tt
  own_names (one_write j i x) h = tt
  own_names (swap_near j x) h = tt
  own_names (swap_far j x near) h = tt
  own_names (swap_put j x near far) h = tt
  own_names (swap_last j x near) h = tt
  own_names (own_store j) h = tt

  fit : (k : ℕ) → k < n → Fits (R k) (s.queues k) cells
  fit = fits n fl R s m cells w mem v c b lc

  high : (k : ℕ) (l : k < n) → hi (s.stages k) (s.queues k) ≤ suc (s.queues k).back
  high k l = (front_le (fl k) (s.stages k) (s.queues k) (v.oks k l)).1

  soon : (x : Stage) → s.stages t ≡ x → early x ≤ 2 ^ 62
  soon x e = let h : early x ≤ suc c = rw e at (b.fronts t lt) in omega arith

  ring_of_lem : (x : Stage) → s.stages t ≡ x → (k r : ℕ) → Holds x k r → HeldRing (R k) (s.queues k) cells r
  ring_of_lem x e k r h = held_ring n fl R s m cells w mem v k r (t, lt, rw e h)

  pub touched_in : (x : Stage) → s.stages t ≡ x → touched t x < n
  touched_in idle e = lt
  touched_in (push x p) e = lt
  touched_in (fifo_pop a p) e = lt
  touched_in (lifo_pop a p) e = lt
  touched_in (shrink a x z) e = lt
  touched_in (steal k p) e = let a : Aware n fl s t (steal k p) = rw e at (v.aware t lt) in a.0
  touched_in (len k p) e = let a : Aware n fl s t (len k p) = rw e at (v.aware t lt) in a.0
  touched_in (own_batch p) e = lt
  touched_in (source k p) e = let a : Aware n fl s t (source k p) = rw e at (v.aware t lt) in a.0
  touched_in (own k p) e = lt

  pub agree : (x : Stage) → s.stages t ≡ x → T (busy x) → StageClaims W gm gc x
      → Agrees (fl t) (fl (touched t x)) R (touched t x) W gm gc cells x (s.queues (touched t x)) (step_at (offer_for gm x (s.queues (touched t x))) fl t x (s.queues (touched t x)))
  agree idle e i h = absurd i
  agree (push x p) e i h = push_agree (fl t) R t W (s.queues t) cells (fit t lt) gm gc x p (rw e at (v.oks t lt)) (push_names p h)
  agree (fifo_pop a p) e i h = fifo_agree (fl t) R t W (s.queues t) cells (fit t lt) gm gc a p (rw e at (v.oks t lt))
  agree (lifo_pop a p) e i h = lifo_agree (fl t) R t W (s.queues t) cells (fit t lt) gm gc a p (rw e at (v.oks t lt))
  agree (shrink a x z) e i h = shrink_agree (fl t) R t W (s.queues t) cells (fit t lt) gm gc a x z (rw e at (v.oks t lt)) (resize_names z h)
  agree (steal k p) e i h =
      let a : Aware n fl s t (steal k p) = rw e at (v.aware t lt) in
      steal_agree (fl t) (fl k) R k W (s.queues k) cells (fit k a.0) gm gc (s.stages k) (high k a.0) p a.1 (soon (steal k p) e)
      (λ r j. ring_of_lem (steal k p) e k r (refl, j))
  agree (len k p) e i h =
      let a : Aware n fl s t (len k p) = rw e at (v.aware t lt) in
      length_agree (fl t) (fl k) R k W (s.queues k) cells (fit k a.0) gm gc (s.stages k) (high k a.0) p
  agree (own_batch p) e i h =
      own_batch_agree (fl t) (fl t) R t W (s.queues t) cells (fit t lt) gm gc (s.stages t) (high t lt) p (soon (own_batch p) e)
  agree (source k p) e i h =
      let a : Aware n fl s t (source k p) = rw e at (v.aware t lt) in
      source_agree (fl t) (fl k) R k W (s.queues k) cells (fit k a.0) gm gc (s.stages k) (high k a.0) (at (s.queues t)) p a.2
      (v.oks k a.0).fronts
      (soon (source k p) e) (λ r j. ring_of_lem (source k p) e k r (refl, j))
  agree (own k p) e i h = own_agree (fl t) R k t W (s.queues t) cells (fit t lt) gm gc p (rw e at (v.oks t lt)) (own_names p h)
