-- A claim's place is free: no live ring has it. The one law that the proofs above use of the claim's rule.
use Rattle.std.proofs.Common.{◌≡◌, ℕ, zero, suc, ◌+◌, ◌<◌, Bool, true, false, ◌||◌, eqb, ◌⊎◌, List, sym, refl, ap, ◌∙◌, inl, inr, arith, eq-eqb}
use Rattle.base.specs.Tests.{pick}
use Rattle.base.specs.Below.{any_below, first_not}
use Rattle.base.proofs.BelowLaws.{any_at}
use Rattle.ring.specs.declared.Ring.{Ring}
use Rattle.keeps.specs.Kept.{kept_of}
use Rattle.places.specs.Places.{keeps_in}
use Rattle.machine.specs.declared.state.Machine.{Machine}
use Rattle.machine.specs.State.{queue_at}
use Rattle.machine.specs.Claim.{used_by, used_b, free_place}
use Rattle.model.specs.Stage.{Flavour}
use Rattle.model.specs.Machine.{State}
use Rattle.model.specs.Memory.{Held, Built, Live, Free}
use Rattle.link.specs.Map.{stage_for}
use Rattle.link.specs.Linked.{places_of, Linked}
use Rattle.link.proofs.AgreeResize.{true_false}
use Rattle.link.proofs.KeptLaws.{holds_kept, builds_kept}

no_both : (b : Bool) → b ≡ true → b ≡ false → ⊥
no_both b e f = true_false (sym e ∙ f)

-- the first of which f does not hold, where there is one
first_free : (f : ℕ → Bool) (n i : ℕ) → first_not f n i < i + n → f (first_not f n i) ≡ false
unfolding first_not
first_free f zero i h = absurd (omega arith)
first_free f (suc n) i h = go (f i) refl (first_free f n (i + 1)) h
  where
    go : (b : Bool) → f i ≡ b → (first_not f n (i + 1) < i + 1 + n → f (first_not f n (i + 1)) ≡ false) → pick b (first_not f n (i + 1)) i < i + suc n
        → f (pick b (first_not f n (i + 1)) i) ≡ false
    go true e r h = r (omega arith)
    go false e r h = e

none_of : (n : ℕ) (f : ℕ → Bool) → any_below n f ≡ false → (i : ℕ) → i < n → f i ≡ false
none_of n f e i l = go (f i) refl
  where
    go : (b : Bool) → f i ≡ b → f i ≡ false
    go true h = absurd (no_both (any_below n f) (any_at n i f l h) e)
    go false h = h

or_left : (a b : Bool) → (a || b) ≡ false → a ≡ false
or_left true b h = h
or_left false b h = refl

or_right : (a b : Bool) → (a || b) ≡ false → b ≡ false
or_right true b h = absurd (no_both true refl h)
or_right false b h = h

not_there : (a p : ℕ) → eqb a p ≡ false → a ≡ p → ⊥
not_there a p h e = no_both (eqb a p) (eq-eqb a p e) h

module _ (n : ℕ) (fl : ℕ → Flavour) (R : ℕ → ℕ → Ring) (s : State) (m : Machine) (cells : List ℕ) (w : Linked n fl R s m cells) where
  -- a place that the test finds unused
  unused : (p : ℕ) → used_b m p ≡ false → (k r : ℕ) → Live n s k r → (R k r).place.0 ≡ p → ⊥
  unused p e k r l h = go l.1
    where
      free : (i : ℕ) → i < n → used_by m p i ≡ false
      free i a = none_of m.queue_count (used_by m p) e i (rw w.count a)

      no_ring : (i : ℕ) → i < n → eqb (R i (s.queues i).ring).place.0 p ≡ false
      no_ring i a = ap (λ q. eqb q.ring.place.0 p) (sym (w.queues i a)) ∙ or_left _ _ (free i a)

      not_kept : (i : ℕ) → i < n → keeps_in (kept_of (stage_for R (R i (s.queues i).top) (s.stages i))) p ≡ false
      not_kept i a =
          ap (λ x. keeps_in (kept_of x) p) (sym (w.stages i a)) ∙ or_right (eqb (queue_at m i).ring.place.0 p) _ (free i a)

      go : (r ≡ (s.queues k).ring) ⊎ Held n s k r ⊎ Built n s k r → ⊥
      go (inl z) = not_there (R k (s.queues k).ring).place.0 p (no_ring k l.0) (ap (λ (r : ℕ). (R k r).place.0) (sym z) ∙ h)
      go (inr (inl z)) =
          not_there (R k r).place.0 p
          (ap (λ x. keeps_in x p) (sym (holds_kept R (R z.0 (s.queues z.0).top) (s.stages z.0) k r z.2)) ∙ not_kept z.0 z.1) h
      go (inr (inr z)) =
          not_there (R k (s.queues k).top).place.0 p
          (ap (λ x. keeps_in x p) (sym (builds_kept R (R k (s.queues k).top) (s.stages k) z.1)) ∙ not_kept k l.0)
          (ap (λ (r : ℕ). (R k r).place.0) (sym z.0) ∙ h)

  -- the claimed place is free
  pub place_free : free_place m < m.place_count → Free n s (places_of R) (free_place m)
  place_free h = unused (free_place m) (first_free (used_b m) m.place_count 0 (omega arith))
