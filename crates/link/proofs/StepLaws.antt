-- A step of the code's tables from a linked state leaves a linked state: by what the step does to cells, once for every operation.
use Rattle.std.proofs.Common.{◌≡◌, ℕ, suc, ◌%◌, ◌<◌, ◌≤◌, true, ◌⊎◌, List, length, sym, refl, ap, ◌∙◌, subst, ap₂, inl, inr, ⊎_elim, arith}
use native.Mathlib.Decide.{ℕ_discrete}
use Rattle.ring.specs.declared.Ring.{Ring}
use Rattle.ring.specs.declared.RingNumber.{RingNumber}
use Rattle.cells.specs.Cells.{read_of, written_of, copied_of}
use Rattle.cells.proofs.StandLaws.{written_length}
use Rattle.sound.specs.Sound.{ring_sound}
use Rattle.machine.specs.declared.state.Machine.{Machine}
use Rattle.model.specs.Count.{upd}
use Rattle.model.specs.Stage.{Flavour, Queue, at, cap, set_cell, swap, Out}
use Rattle.model.specs.Tables.{Claim, got}
use Rattle.model.specs.Machine.{State, stored}
use Rattle.model.specs.Invariant.{Inv}
use Rattle.model.specs.Memory.{builds, not_building, building, Note, kept, wrote, copied, claims, swaps, note, Effect, Named, Keeps, Free, put}
use Rattle.model.proofs.CountLaws.{upd_same, upd_other}
use Rattle.model.proofs.Effects.{Does}
use Rattle.model.proofs.Places.{top_at, builds_on, kept_keeps, wrote_keeps, copied_keeps, claims_keeps, swaps_keeps}
use Rattle.link.specs.Map.{ix, stage_for, queue_for, noted}
use Rattle.link.specs.Linked.{pool_of, places_of, StageFits, Linked}
use Rattle.link.proofs.PoolLaws.{pool_write, keeps_as}
use Rattle.link.proofs.KeptLaws.{builds_one}
use Rattle.link.proofs.NameLaws.{stage_as, stage_fits}
use Rattle.link.proofs.StoreLaws.{Stored}

module _ (n : ℕ) (fl : ℕ → Flavour) (R : ℕ → ℕ → Ring) (s : State) (m : Machine) (cells : List ℕ) (w : Linked n fl R s m cells) (mem : ℕ → ℕ)
    (v : Inv n fl mem s)
    (t k : ℕ) (lt : t < n) (lk : k < n) (gm : Claim) (o : Out) (d : Does gm (fl t) t k (s.stages t) (s.queues k) o)
    (v' : Inv n fl mem (stored s t k o))
    (next : RingNumber) where
  abbrev s' : State
  s' = stored s t k o

  abbrev W : Ring
  W = R t (s.queues t).top

  abbrev cur : Ring
  cur = R k (s.queues k).ring

  -- what a claim that finds a ring gives: its name is W, in a place that no live ring has
  pub record Found (f : ℕ → ℕ) : Type 0 where
    pub number : W.number.0 ≡ m.next_ring.0
    pub counted : suc m.next_ring.0 ≡ next.0
    pub sound : ring_sound m.place_count W ≡ true
    pub free : Free n s (places_of R) W.place.0
    pub cells_were : (y : ℕ) → f y ≡ pool_of cells W.place.0 y

  abbrev Is : List ℕ → Type 0
  Is l = Stored n fl R s m cells w t k lt lk o next (queue_for (fl k) (R k) o.queue) (stage_for R W o.stage) l

  was_built : (c : ℕ) (f : ℕ → ℕ) → builds (s.stages t) ≡ building c f → builds (s.stages t) ≡ not_building → ⊥
  was_built c f e h = builds_one c f (sym e ∙ h)

  module _ (up : m.next_ring.0 ≤ next.0) (fits : StageFits W.capacity o.stage) where
    -- ---- the tops, the capacities and the names stay
    module _ (tops : (u : ℕ) → (s'.queues u).top ≡ (s.queues u).top) (caps : (u : ℕ) → (s'.queues u).caps ≡ (s.queues u).caps)
        (names : (j r : ℕ) → Named n s' j r → Named n s j r) where
      same_stored : (l : List ℕ) → length l ≡ length cells → Keeps n s' (places_of R) (pool_of l) → Is l
      same_stored l e h = record {
        queue = refl;
        stage = ap (λ (r : ℕ). stage_for R (R t r) o.stage) (sym (tops t));
        tops = λ u p. tops u;
        size = subst (λ (r : ℕ). StageFits (R t r).capacity o.stage) (sym (tops t)) fits;
        caps = λ j r a z. (let y = tops j in w.caps j r a (omega arith) ∙ sym (ap (λ (f : ℕ → ℕ). f r) (caps j)));
        rings = λ j r a z. w.rings j r a (names j r z);
        numbers = λ j r i u a z x y. w.numbers j r i u a z (names j r x) (names i u y);
        next_is = λ j r a z. (let y = w.next j r a (names j r z) in omega arith);
        same_length = e;
        keeps = h;
      }

    -- names, where the tops stay and t builds only what it built
    names_stay : ((u : ℕ) → (s'.queues u).top ≡ (s.queues u).top) → ((builds o.stage ≡ not_building → ⊥) → builds (s.stages t) ≡ not_building → ⊥)
        → (j r : ℕ) → Named n s' j r → Named n s j r
    names_stay tops b j r (inl z) = let y = tops j in inl (omega arith)
    names_stay tops b j r (inr z) = inr (z.0 ∙ tops j, go (ℕ_discrete j t))
      where
        go : Dec (j ≡ t) → builds (s.stages j) ≡ not_building → ⊥
        go (yes p) y =
            b (λ x. z.1 (ap builds (upd_same s.stages t o.stage j p) ∙ x)) (ap (λ (i : ℕ). builds (s.stages i)) (sym p) ∙ y)
        go (no p) y = z.1 (ap builds (upd_other s.stages t o.stage j p) ∙ y)

    -- ---- nothing is written

    kept_stored : Effect kept t k gm (builds (s.stages t)) (s.queues k) (builds o.stage) o.queue → Is cells
    kept_stored e =
        same_stored (top_at n fl mem s v t k lt gm o d v' e) caps
        (names_stay (top_at n fl mem s v t k lt gm o d v' e) (λ h y. h (builds_on n fl mem s v t k lt gm o d v' e h ∙ y))) cells refl
        (kept_keeps n fl mem s v t k lt gm o d v' e (places_of R) (pool_of cells) w.keeps)
      where
        caps : (u : ℕ) → (s'.queues u).caps ≡ (s.queues u).caps
        caps u = go (ℕ_discrete u k)
          where
            go : Dec (u ≡ k) → (s'.queues u).caps ≡ (s.queues u).caps
            go (yes p) = ap (λ (q : Queue). q.caps) (upd_same s.queues k o.queue u p) ∙ e.1 ∙ ap (λ (i : ℕ). (s.queues i).caps) (sym p)
            go (no p) = ap (λ (q : Queue). q.caps) (upd_other s.queues k o.queue u p)

    -- ---- on the own queue

    module _ (kt : k ≡ t) where
      all_queues : (P : Queue → Queue → Type 0) → ((q : Queue) → P q q) → P o.queue (s.queues t) → (u : ℕ) → P (s'.queues u) (s.queues u)
      all_queues P r h u = go (ℕ_discrete u t)
        where
          go : Dec (u ≡ t) → P (s'.queues u) (s.queues u)
          go (yes p) =
              subst (λ (q : Queue). P q (s.queues u)) (sym (upd_same s.queues k o.queue u (p ∙ sym kt)))
              (subst (λ (i : ℕ). P o.queue (s.queues i)) (sym p) h)
          go (no p) = subst (λ (q : Queue). P q (s.queues u)) (sym (upd_other s.queues k o.queue u (λ y. p (y ∙ kt)))) (r (s.queues u))

      same_tops : o.queue.top ≡ (s.queues t).top → (u : ℕ) → (s'.queues u).top ≡ (s.queues u).top
      same_tops = all_queues (λ a b. a.top ≡ b.top) (λ q. refl)

      same_caps : o.queue.caps ≡ (s.queues t).caps → (u : ℕ) → (s'.queues u).caps ≡ (s.queues u).caps
      same_caps = all_queues (λ a b. a.caps ≡ b.caps) (λ q. refl)

      ring_sound_lem : ring_sound m.place_count cur ≡ true
      ring_sound_lem = w.rings k (s.queues k).ring lk (inl (v.oks k lk).ring_top)

      cur_cap : cur.capacity ≡ cap (s.queues k)
      cur_cap = w.caps k (s.queues k).ring lk (v.oks k lk).ring_top

      wrote_stored : (i x : ℕ) → o.queue ≡ set_cell (s.queues t) i x → builds (s.stages t) ≡ not_building → builds o.stage ≡ not_building
          → Is (written_of cells cur (ix i) x)
      wrote_stored i x e a b =
          let top : o.queue.top ≡ (s.queues t).top = ap (λ (q : Queue). q.top) e in
          let tops = same_tops top in
          same_stored tops (same_caps (ap (λ (q : Queue). q.caps) e)) (names_stay tops (λ h y. h b)) (written_of cells cur (ix i) x) (written_length cells cur (ix i) x)
          (keeps_as n s' (places_of R) (put (pool_of cells) (R t (s.queues t).ring).place.0 (i % cap (s.queues t)) x) (pool_of (written_of cells cur (ix i) x)) pools
          (wrote_keeps n fl mem s v t k lt gm o d v' kt i x e a b (places_of R) (pool_of cells) w.keeps))
        where
          pools : (p y : ℕ) → pool_of (written_of cells cur (ix i) x) p y ≡ put (pool_of cells) (R t (s.queues t).ring).place.0 (i % cap (s.queues t)) x p y
          pools p y =
              pool_write cells m.place_count cur w.pool_length ring_sound_lem i x p y
              ∙ ap₂ (λ (a b : ℕ). put (pool_of cells) a (i % b) x p y) (ap (λ (j : ℕ). (R j (s.queues j).ring).place.0) kt) (cur_cap ∙ ap (λ (j : ℕ). cap (s.queues j)) kt)

      copied_stored : (i c : ℕ) (f : ℕ → ℕ) → o.queue ≡ s.queues t → builds (s.stages t) ≡ building c f
          → builds o.stage ≡ building c (upd f (i % c) (at (s.queues t) i))
          → W.capacity ≡ c → read_of cells cur (ix i) ≡ at (s.queues k) i → Is (copied_of cells cur W (ix i))
      copied_stored i c f e a b z rd =
          let top : o.queue.top ≡ (s.queues t).top = ap (λ (q : Queue). q.top) e in
          let tops = same_tops top in
          let val : ℕ = read_of cells cur (ix i) in
          same_stored tops (same_caps (ap (λ (q : Queue). q.caps) e)) (names_stay tops (λ h. was_built c f a)) (written_of cells W (ix i) val) (written_length cells W (ix i) val)
          (keeps_as n s' (places_of R) (put (pool_of cells) W.place.0 (i % c) (at (s.queues t) i)) (pool_of (written_of cells W (ix i) val)) pools
          (copied_keeps n fl mem s v t k lt gm o d v' kt e c (upd f (i % c) (at (s.queues t) i)) b i f a refl (places_of R) (pool_of cells) w.keeps))
        where
          pools : (p y : ℕ) → pool_of (written_of cells W (ix i) (read_of cells cur (ix i))) p y ≡ put (pool_of cells) W.place.0 (i % c) (at (s.queues t) i) p y
          pools p y =
              pool_write cells m.place_count W w.pool_length (w.rings t (s.queues t).top lt (inr (refl, was_built c f a))) i
              (read_of cells cur (ix i)) p y
              ∙ ap₂ (λ (a b : ℕ). put (pool_of cells) W.place.0 (i % a) b p y) z (rd ∙ ap (λ (j : ℕ). at (s.queues j) i) kt)

      -- a claim: one more name
      claims_stored : (c : ℕ) (f : ℕ → ℕ) → o.queue ≡ s.queues t → builds (s.stages t) ≡ not_building → builds o.stage ≡ building c f
          → Found f → Is cells
      claims_stored c f e a b z = record {
        queue = refl;
        stage = ap (λ (r : ℕ). stage_for R (R t r) o.stage) (sym (tops t));
        tops = λ u p. tops u;
        size = subst (λ (r : ℕ). StageFits (R t r).capacity o.stage) (sym (tops t)) fits;
        caps = λ j r l y. (let x = tops j in w.caps j r l (omega arith) ∙ sym (ap (λ (h : ℕ → ℕ). h r) (same_caps (ap (λ (q : Queue). q.caps) e) j)));
        rings = λ j r l y. ⊎_elim (λ p. w.rings j r l p) (λ p. (let p₀ = p.0 in let p₁ = p.1 in rw (p₀, p₁) z.sound)) (old j r y);
        numbers = λ j r i u l y p q h. two j r i u l y (old j r p) (old i u q) h;
        next_is = λ j r l y. ⊎_elim (λ p. (let x = w.next j r l p in omega arith)) (λ p. new_low j r p) (old j r y);
        same_length = refl;
        keeps = claims_keeps n fl mem s v t k lt gm o d v' kt e c f b a (places_of R) (pool_of cells) z.free z.cells_were w.keeps;
      }
        where
          tops : (u : ℕ) → (s'.queues u).top ≡ (s.queues u).top
          tops = same_tops (ap (λ (q : Queue). q.top) e)

          New : ℕ → ℕ → Type 0
          New j r = (j ≡ t) × (r ≡ (s.queues t).top)

          old : (j r : ℕ) → Named n s' j r → Named n s j r ⊎ New j r
          old j r (inl y) = let x = tops j in inl (inl (omega arith))
          old j r (inr y) = go (ℕ_discrete j t)
            where
              go : Dec (j ≡ t) → Named n s j r ⊎ New j r
              go (yes p) = inr (p, y.0 ∙ tops j ∙ ap (λ (i : ℕ). (s.queues i).top) p)
              go (no p) = inl (inr (y.0 ∙ tops j, λ x. y.1 (ap builds (upd_other s.stages t o.stage j p) ∙ x)))

          number_at : (j r : ℕ) → New j r → (R j r).number.0 ≡ m.next_ring.0
          number_at j r p = ap₂ (λ (a b : ℕ). (R a b).number.0) p.0 p.1 ∙ z.number

          new_low : (j r : ℕ) → New j r → (R j r).number.0 < next.0
          new_low j r p = let x = number_at j r p in let y = z.counted in omega arith

          two : (j r i u : ℕ) → j < n → i < n → Named n s j r ⊎ New j r → Named n s i u ⊎ New i u → (R j r).number.0 ≡ (R i u).number.0
              → (j ≡ i) × (r ≡ u)
          two j r i u l y (inl p) (inl q) h = w.numbers j r i u l y p q h
          two j r i u l y (inl p) (inr q) h = let x = w.next j r l p in let g = number_at i u q in absurd (omega arith)
          two j r i u l y (inr p) (inl q) h = let x = w.next i u y q in let g = number_at j r p in absurd (omega arith)
          two j r i u l y (inr p) (inr q) h = (p.0 ∙ sym q.0, p.1 ∙ sym q.1)

      -- a swap: the ring that was built is the queue's
      swaps_stored : (c : ℕ) (f : ℕ → ℕ) → builds (s.stages t) ≡ building c f → o.queue ≡ swap (s.queues t) c f
          → builds o.stage ≡ not_building → W.capacity ≡ c → Is cells
      swaps_stored c f a e b z = record {
        queue = refl;
        stage = stage_as R R W (R t (s'.queues t).top) o.stage (λ j r h. refl) (λ h. absurd (h b));
        tops = λ u p. ap (λ (q : Queue). q.top) (upd_other s.queues k o.queue u (λ y. p (y ∙ kt)));
        size = stage_fits W.capacity (R t (s'.queues t).top).capacity o.stage (λ h. absurd (h b)) fits;
        caps = λ j r l y. cap_at j r l y (ℕ_discrete j t);
        rings = λ j r l y. w.rings j r l (names j r y);
        numbers = λ j r i u l y p q. w.numbers j r i u l y (names j r p) (names i u q);
        next_is = λ j r l y. (let x = w.next j r l (names j r y) in omega arith);
        same_length = refl;
        keeps = swaps_keeps n fl mem s v t k lt gm o d v' kt c f a e b (places_of R) (pool_of cells) w.keeps;
      }
        where
          q : Queue
          q = s.queues t

          qt : s'.queues t ≡ swap q c f
          qt = upd_same s.queues k o.queue t (sym kt) ∙ e

          other : (j : ℕ) → (j ≡ t → ⊥) → s'.queues j ≡ s.queues j
          other j p = upd_other s.queues k o.queue j (λ y. p (y ∙ kt))

          top_t : (s'.queues t).top ≡ suc q.top
          top_t = ap (λ (q : Queue). q.top) qt

          mine : (r : ℕ) → r < suc q.top → Dec (r ≡ q.top) → Named n s t r
          mine r y (yes p) = inr (p, was_built c f a)
          mine r y (no p) = inl (omega arith)

          names : (j r : ℕ) → Named n s' j r → Named n s j r
          names j r y = go (ℕ_discrete j t) y
            where
              go : Dec (j ≡ t) → Named n s' j r → Named n s j r
              go (yes p) (inl x) =
                  let h : (s'.queues j).top ≡ suc q.top = ap (λ (i : ℕ). (s'.queues i).top) p ∙ top_t in
                  subst (λ (i : ℕ). Named n s i r) (sym p) (mine r (omega arith) (ℕ_discrete r q.top))
              go (yes p) (inr x) = absurd (x.1 (ap builds (upd_same s.stages t o.stage j p) ∙ b))
              go (no p) (inl x) = let h : (s'.queues j).top ≡ (s.queues j).top = ap (λ (q : Queue). q.top) (other j p) in inl (omega arith)
              go (no p) (inr x) =
                  inr (x.0 ∙ ap (λ (q : Queue). q.top) (other j p), λ y. x.1 (ap builds (upd_other s.stages t o.stage j p) ∙ y))

          own_cap : (r : ℕ) → r < suc q.top → Dec (r ≡ q.top) → (R t r).capacity ≡ upd q.caps q.top c r
          own_cap r y (yes p) = ap (λ (r : ℕ). (R t r).capacity) p ∙ z ∙ sym (upd_same q.caps q.top c r p)
          own_cap r y (no p) = w.caps t r lt (omega arith) ∙ sym (upd_other q.caps q.top c r p)

          cap_at : (j r : ℕ) → j < n → r < (s'.queues j).top → Dec (j ≡ t) → (R j r).capacity ≡ (s'.queues j).caps r
          cap_at j r l y (yes p) =
              let h : (s'.queues j).top ≡ suc q.top = ap (λ (i : ℕ). (s'.queues i).top) p ∙ top_t in
              rw (p, qt) (own_cap r (omega arith) (ℕ_discrete r q.top))
          cap_at j r l y (no p) =
              let h : (s'.queues j).top ≡ (s.queues j).top = ap (λ (q : Queue). q.top) (other j p) in
              w.caps j r l (omega arith) ∙ sym (ap (λ (q : Queue). q.caps r) (other j p))

    -- ---- any step

    -- the capacity of the ring being built
    abbrev Sized : Type 0
    Sized = (c : ℕ) (f : ℕ → ℕ) → builds (s.stages t) ≡ building c f → W.capacity ≡ c

    abbrev Claimed : Type 0
    Claimed = (f : ℕ → ℕ) → gm ≡ got f → Found f

    pub step_stored : Sized → Claimed → ((i : ℕ) → read_of cells cur (ix i) ≡ at (s.queues k) i)
        → Is (noted (note gm (fl t) (s.stages t)) cur W cells)
    step_stored z h rd = go (note gm (fl t) (s.stages t)) d.effect
      where
        go : (nt : Note) → Effect nt t k gm (builds (s.stages t)) (s.queues k) (builds o.stage) o.queue → Is (noted nt cur W cells)
        go kept e = kept_stored e
        go (wrote i x) e = wrote_stored e.0 i x (e.1 ∙ ap (λ (j : ℕ). set_cell (s.queues j) i x) e.0) e.2 e.3
        go (copied i) e =
            let y = e.2 in
            copied_stored e.0 i y.0 y.1 (e.1 ∙ ap s.queues e.0) y.2
            (y.3 ∙ ap (λ (j : ℕ). building y.0 (upd y.1 (i % y.0) (at (s.queues j) i))) e.0) (z y.0 y.1 y.2) (rd i)
        go claims e =
            let y = e.3 in claims_stored e.0 y.0 y.1 (e.1 ∙ ap s.queues e.0) e.2 y.3 (h y.1 y.2)
        go swaps e =
            let y = e.2 in
            swaps_stored e.0 y.0 y.1 y.2 (y.3 ∙ ap (λ (j : ℕ). swap (s.queues j) y.0 y.1) e.0) e.1 (z y.0 y.1 y.2)
