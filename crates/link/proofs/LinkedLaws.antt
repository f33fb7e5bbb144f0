-- What a linked state gives a step: reads give the model's cells, ring numbers tell a queue's rings apart, indices are small, and the lowest
-- free place is free.
use Rattle.std.proofs.Common.{◌≡◌, ℕ, ◌%◌, ◌^◌, ◌<◌, eqb, List, sym, refl, ap, ◌∙◌, inl, inr, arith, eq-eqb, ne_eqb}
use native.Mathlib.Decide.{ℕ_discrete}
use Rattle.ring.specs.declared.Ring.{Ring}
use Rattle.cells.specs.Cells.{read_of}
use Rattle.machine.specs.declared.state.Machine.{Machine}
use Rattle.model.specs.Stage.{Flavour, cell}
use Rattle.model.specs.Machine.{State}
use Rattle.model.specs.Invariant.{Inv}
use Rattle.model.specs.Bound.{Bounded}
use Rattle.model.specs.Memory.{Held, Live}
use Rattle.model.proofs.Indices.{indices}
use Rattle.model.proofs.Places.{held_named, content_old}
use Rattle.link.specs.Map.{ix}
use Rattle.link.specs.Linked.{Linked}
use Rattle.link.proofs.AgreeResize.{Fits}
use Rattle.link.proofs.AgreeSteal.{HeldRing}
use Rattle.link.proofs.PoolLaws.{sound_cap, pool_read}

module _ (n : ℕ) (fl : ℕ → Flavour) (R : ℕ → ℕ → Ring) (s : State) (m : Machine) (cells : List ℕ) (w : Linked n fl R s m cells) (mem : ℕ → ℕ)
    (v : Inv n fl mem s) where
  -- a read of a ring that the queue has or had, and that is live
  pub reads : (k r : ℕ) → Live n s k r → r < (s.queues k).top → (i : ℕ) → read_of cells (R k r) (ix i) ≡ cell (s.queues k) r i
  reads k r l t i =
      pool_read cells m.place_count (R k r) w.pool_length (w.rings k r l.0 (inl t)) i
      ∙ w.keeps.agree k r l (i % (R k r).capacity) ∙ ap (λ (f : ℕ → ℕ). f (i % (R k r).capacity)) (content_old n fl mem s v k r t)
      ∙ ap (λ (c : ℕ). (s.queues k).rings r (i % c)) (w.caps k r l.0 t)

  pub tells : (k r : ℕ) → k < n → r < (s.queues k).top → eqb (R k (s.queues k).ring).number.0 (R k r).number.0 ≡ eqb r (s.queues k).ring
  tells k r l t = go (ℕ_discrete r (s.queues k).ring)
    where
      go : Dec (r ≡ (s.queues k).ring) → eqb (R k (s.queues k).ring).number.0 (R k r).number.0 ≡ eqb r (s.queues k).ring
      go (yes e) = eq-eqb _ _ (ap (λ (r : ℕ). (R k r).number.0) (sym e)) ∙ sym (eq-eqb r (s.queues k).ring e)
      go (no d) =
          ne_eqb (R k (s.queues k).ring).number.0 (R k r).number.0
          (λ e. d (sym (w.numbers k (s.queues k).ring k r l l (inl (v.oks k l).ring_top) (inl t) e).1))
          ∙ sym (ne_eqb r (s.queues k).ring d)

  pub held_ring : (k r : ℕ) → Held n s k r → HeldRing (R k) (s.queues k) cells r
  held_ring k r h =
      let a = held_named n fl mem s v k r h in
      record { reads = reads k r (a.0, inr (inl h)) a.1; tells = tells k r a.0 a.1 }

  pub fits : (c : ℕ) → Bounded n c s → c < 2 ^ 62 → (k : ℕ) → k < n → Fits (R k) (s.queues k) cells
  fits c b lc k l =
      let i = indices n fl c mem s v b k l in
      let rt = (v.oks k l).ring_top in
      let ca = w.caps k (s.queues k).ring l rt in
      let so = sound_cap m.place_count (R k (s.queues k).ring) (w.rings k (s.queues k).ring l (inl rt)) in
      record {
        front = omega (arith, i.0);
        back = omega (arith, i.1);
        room = omega (arith, so.1);
        capacity = ca;
        reads = reads k (s.queues k).ring (l, inl refl) rt;
      }
