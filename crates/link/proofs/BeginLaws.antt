-- The machine's begin, from a linked state within the invariant: it is the model's begin, and leaves a linked state.
use Rattle.std.proofs.Common.{◌≡◌, ℕ, ◌^◌, ◌<◌, ◌≤◌, true, eqb, ◌⊎◌, List, get_or, set, sym, refl, ap, ◌∙◌, subst, inl, inr, arith, length-set, get_or-set_other, get_or-set_same, ltb-true}
use native.Mathlib.Decide.{ℕ_discrete}
use Rattle.base.specs.Tests.{by_test}
use Rattle.ring.specs.declared.Ring.{Ring}
use Rattle.parts.specs.declared.stage.Stage.TheVariants as G
use Rattle.parts.specs.declared.answer.Answer.TheVariants as B
use Rattle.sound.specs.Sound.{most_queues}
use Rattle.gate.specs.declared.Operation.{Operation as CodeOperation}
use Rattle.gate.specs.declared.Operation.TheVariants as Q
use Rattle.machine.specs.declared.state.Thread.{Thread}
use Rattle.machine.specs.declared.state.Machine.{Machine}
use Rattle.machine.specs.State.{after, idle_thread, with_stage}
use Rattle.gate.specs.Gate.{names_b, limit_b}
use Rattle.machine.specs.Begin.{begin_of}
use Rattle.starts.specs.Starts as H
use Rattle.model.specs.Count.{upd}
use Rattle.model.specs.Stage.{Flavour, fifo, lifo, Popper, by_pop, by_batch, BatchKind, plain, and_pop, Stage, idle}
use Rattle.model.specs.Machine.{State, Operation, do_push, do_pop, do_length, do_steal, do_batch, popping, from_own, first_stage, begun, Exists}
use Rattle.model.specs.Invariant.{Inv}
use Rattle.model.specs.Bound.{Bounded}
use Rattle.model.specs.Memory.{Holds, builds, not_building, cells_of, Held, Built, Live, Named, content}
use Rattle.model.proofs.CountLaws.{upd_same, upd_other}
use Rattle.model.proofs.Places.{live_named, content_old}
use Rattle.link.specs.Map.{flavor_of, popper_of, stage_for, operation_of}
use Rattle.link.specs.Linked.{StageFits, Linked}
use Rattle.link.proofs.AgreeResize.{either}
use Rattle.link.proofs.StoreLaws.{few_queues}
use Rattle.link.proofs.TurnLaws.{gate_open}

-- the first stage, in the model and in the code
popping_is : (fl : Flavour) (w : Popper) (R : ℕ → ℕ → Ring) (new : Ring)
    → stage_for R new (popping fl w) ≡ G.Pop (popper_of w) (H.popping (flavor_of fl))
popping_is fifo w R new = refl
popping_is lifo w R new = refl

first_is : (R : ℕ → ℕ → Ring) (new : Ring) (fl : Flavour) (t : ℕ) (o : CodeOperation)
    → H.first_stage (flavor_of fl) t o ≡ stage_for R new (first_stage fl t (operation_of o))
first_is R new fl t (Q.Push v) = refl
first_is R new fl t Q.Pop = sym (popping_is fl by_pop R new)
first_is R new fl t (Q.Length k) = refl
first_is R new fl t (Q.Steal k) = refl
first_is R new fl t (Q.Batch k limit) = either (eqb k t) (λ e. rw e) (λ e. rw e)
first_is R new fl t (Q.BatchAndPop k limit) = either (eqb k t) (λ e. rw e (sym (popping_is fl by_batch R new))) (λ e. rw e)

pub exists : (n : ℕ) (o : CodeOperation) → names_b n o ≡ true → Exists n (operation_of o)
exists n (Q.Push v) h = tt
exists n Q.Pop h = tt
exists n (Q.Length k) h = ltb-true k n h
exists n (Q.Steal k) h = ltb-true k n h
exists n (Q.Batch k limit) h = ltb-true k n h
exists n (Q.BatchAndPop k limit) h = ltb-true k n h

-- a first stage keeps no ring and resizes to nothing
pop_calm : (fl : Flavour) (w : Popper) (C : ℕ) → (builds (popping fl w) ≡ not_building) × StageFits C (popping fl w)
pop_calm fifo w C = (refl, tt)
pop_calm lifo w C = (refl, tt)

pop_free : (fl : Flavour) (w : Popper) (k r : ℕ) → Holds (popping fl w) k r → ⊥
pop_free fifo w k r h = h
pop_free lifo w k r h = h

record Fresh (x : Stage) : Type 0 where
  none : builds x ≡ not_building
  fits : (C : ℕ) → StageFits C x
  free : (k r : ℕ) → Holds x k r → ⊥

first_calm : (fl : Flavour) (t : ℕ) (o : Operation) → Fresh (first_stage fl t o)
first_calm fl t (do_push x) = record { none = refl; fits = λ C. tt; free = λ k r h. h }
first_calm fl t do_pop = record { none = (pop_calm fl by_pop 0).0; fits = λ C. (pop_calm fl by_pop C).1; free = pop_free fl by_pop }
first_calm fl t (do_length k) = record { none = refl; fits = λ C. tt; free = λ k r h. h }
first_calm fl t (do_steal k) = record { none = refl; fits = λ C. tt; free = λ k r h. h.1 }
first_calm fl t (do_batch m k others) = by_test Fresh (eqb k t) _ _ (λ e. from m) (λ e. record { none = refl; fits = λ C. tt; free = λ k r h. h.1 })
  where
    from : (m : BatchKind) → Fresh (from_own fl m)
    from plain = record { none = refl; fits = λ C. tt; free = λ k r h. h }
    from and_pop = record { none = (pop_calm fl by_batch 0).0; fits = λ C. (pop_calm fl by_batch C).1; free = pop_free fl by_batch }

module _ (n : ℕ) (fl : ℕ → Flavour) (R : ℕ → ℕ → Ring) (s : State) (m : Machine) (cells : List ℕ) (w : Linked n fl R s m cells) (mem : ℕ → ℕ)
    (v : Inv n fl mem s) (c : ℕ)
    (b : Bounded n c s) (lc : c < 2 ^ 62) (t : ℕ) (lt : t < n) (o : CodeOperation) (idle_t : s.stages t ≡ idle) where
  abbrev x : Stage
  x = first_stage (fl t) t (operation_of o)

  abbrev s' : State
  s' = begun fl s t (operation_of o)

  abbrev machine' : Machine
  machine' = with_stage m t (stage_for R (R t (s.queues t).top) x)

  calm : Fresh x
  calm = first_calm (fl t) t (operation_of o)

  pub begin_is : names_b n o ≡ true → limit_b o ≡ true → begin_of m cells t o ≡ after machine' B.Working cells
  unfolding begin_of
  begin_is e h =
      rw (gate_open n fl s m cells mem v c b lc R w t lt, w.count, e, w.stages t lt, idle_t, h, w.queues t lt, first_is R (R t (s.queues t).top) (fl t) t o)

  building_was : (j : ℕ) → (builds (s'.stages j) ≡ not_building → ⊥) → builds (s.stages j) ≡ not_building → ⊥
  building_was j h = go (ℕ_discrete j t)
    where
      go : Dec (j ≡ t) → builds (s.stages j) ≡ not_building → ⊥
      go (yes p) y = h (ap builds (upd_same s.stages t x j p) ∙ calm.none)
      go (no p) y = h (ap builds (upd_other s.stages t x j p) ∙ y)

  names_were : (j r : ℕ) → Named n s' j r → Named n s j r
  names_were j r (inl z) = inl z
  names_were j r (inr z) = inr (z.0, building_was j z.1)

  held_was : (j r : ℕ) → Held n s' j r → Held n s j r
  held_was j r h = go (ℕ_discrete h.0 t)
    where
      go : Dec (h.0 ≡ t) → Held n s j r
      go (yes p) = absurd (calm.free j r (subst (λ (y : Stage). Holds y j r) (upd_same s.stages t x h.0 p) h.2))
      go (no p) = (h.0, h.1, subst (λ (y : Stage). Holds y j r) (upd_other s.stages t x h.0 p) h.2)

  live_was : (j r : ℕ) → Live n s' j r → Live n s j r
  live_was j r l = (l.0, go l.1)
    where
      go : (r ≡ (s.queues j).ring) ⊎ Held n s' j r ⊎ Built n s' j r → (r ≡ (s.queues j).ring) ⊎ Held n s j r ⊎ Built n s j r
      go (inl z) = inl z
      go (inr (inl z)) = inr (inl (held_was j r z))
      go (inr (inr z)) = inr (inr (z.0, building_was j z.1))

  content_was : (j r y : ℕ) → Live n s' j r → content s' j r y ≡ content s j r y
  content_was j r y l = go (live_named n fl mem s v j r (live_was j r l))
    where
      same : Dec (j ≡ t) → (builds (s.stages j) ≡ not_building → ⊥) → builds (s'.stages j) ≡ builds (s.stages j)
      same (yes p) h = absurd (h (ap (λ (i : ℕ). builds (s.stages i)) p ∙ ap builds idle_t))
      same (no p) h = ap builds (upd_other s.stages t x j p)

      go : Named n s j r → content s' j r y ≡ content s j r y
      go (inl z) =
          ap (λ (f : ℕ → ℕ). f y)
          (upd_other (s.queues j).rings (s.queues j).top (cells_of (builds (s'.stages j))) r (λ e. omega arith) ∙ sym (content_old n fl mem s v j r z))
      go (inr z) = rw (same (ℕ_discrete j t) z.1)

  pub begin_linked : Linked n fl R s' machine' cells
  begin_linked = record {
    counts = w.counts;
    count = w.count;
    queue_list = w.queue_list;
    thread_list = length-set m.threads t (record { stage = stage_for R (R t (s.queues t).top) x }) ∙ w.thread_list;
    pool_length = w.pool_length;
    queues = w.queues;
    stages = λ u l. to_stage u l (ℕ_discrete u t);
    caps = w.caps;
    sizes = λ u l. to_size u l (ℕ_discrete u t);
    rings = λ j r l h. w.rings j r l (names_were j r h);
    numbers = λ j r i u l h p q. w.numbers j r i u l h (names_were j r p) (names_were i u q);
    next = λ j r l h. w.next j r l (names_were j r h);
    keeps = record {
      agree = λ j r l y. w.keeps.agree j r (live_was j r l) y ∙ sym (content_was j r y l);
      apart = λ j r i u l h e. w.keeps.apart j r i u (live_was j r l) (live_was i u h) e;
    };
  }
    where
      few : n ≤ most_queues
      few = few_queues n m.place_count w.counts

      to_stage : (u : ℕ) → u < n → Dec (u ≡ t)
          → (get_or (set m.threads t (record { stage = stage_for R (R t (s.queues t).top) x })) u idle_thread).stage ≡ stage_for R (R u (s.queues u).top) (upd s.stages t x u)
      to_stage u l (yes e) =
          let a = w.thread_list in
          let b = few in
          rw (e, upd_same s.stages t x t refl)
          (ap (λ (z : Thread). z.stage) (get_or-set_same m.threads t (record { stage = stage_for R (R t (s.queues t).top) x }) idle_thread (omega arith)))
      to_stage u l (no d) =
          rw (upd_other s.stages t x u d)
          (ap (λ (z : Thread). z.stage) (get_or-set_other m.threads t u (record { stage = stage_for R (R t (s.queues t).top) x }) idle_thread d) ∙ w.stages u l)

      to_size : (u : ℕ) → u < n → Dec (u ≡ t) → StageFits (R u (s.queues u).top).capacity (upd s.stages t x u)
      to_size u l (yes e) = rw (upd_same s.stages t x u e) (calm.fits (R u (s.queues u).top).capacity)
      to_size u l (no d) = rw (upd_other s.stages t x u d) (w.sizes u l)
