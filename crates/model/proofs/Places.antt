-- Along any step a pool keeps the live rings, each in a place of its own, if a claim takes a place that no live ring has. So a place is used
-- again and no ring that anybody reads is disturbed: the current rings, the rings being built, the retired rings that are held.
use mathlib.Core.Path.{◌≡◌, refl, sym, ap, ap₂, ◌∙◌, subst}
use mathlib.Core.Logic.{◌⊎◌, inl, inr}
use Prim.Native.Nat.{ℕ, suc, ◌%◌, ◌<◌}
use native.Mathlib.Omega.{arith}
use native.Mathlib.Decide.{ℕ_discrete}
use Rattle.model.specs.Count.{upd}
use Rattle.model.specs.Stage.{Flavour, Queue, at, cap, set_cell, swap, own, StealStage, steal_front, steal_back, steal_ring, steal_read}
use Rattle.model.specs.Stage.{steal_reload, steal_exchange, source, SourceStage, source_front, source_back, source_ring, source_first, all_copy}
use Rattle.model.specs.Stage.{all_reload, all_exchange, one_first, one_back, one_read, one_reload, one_exchange, OwnStage, reserve_back}
use Rattle.model.specs.Stage.{reserve_front, reserve_resize, own_back, all_write, one_write, swap_near, swap_far, swap_put, swap_last}
use Rattle.model.specs.Stage.{own_store, Stage, idle, push, fifo_pop, lifo_pop, shrink, steal, len, own_batch, Out}
use Rattle.model.specs.Tables.{Claim}
use Rattle.model.specs.Machine.{State, stored}
use Rattle.model.specs.Invariant.{StealKnows, OwnKnows, SourceKnows, seen, Aware, Inv}
use Rattle.model.specs.Memory.{StealHolds, OwnHolds, SourceHolds, Holds, builds, Building, not_building, building, cells_of, kept, Effect, Held}
use Rattle.model.specs.Memory.{Built, Live, Named, content, Keeps, Free, put}
use Rattle.model.proofs.CountLaws.{upd_same, upd_other}
use Rattle.model.proofs.Effects.{Does}

-- ---- what a step may do to memory

module _ (n : ℕ) (s s' : State) (place : ℕ → ℕ → ℕ) (pool : ℕ → ℕ → ℕ) (v : Keeps n s place pool) where
  -- rings are let go, or held by one more
  letting : ((k r : ℕ) → Live n s' k r → Live n s k r) → ((k r : ℕ) → Live n s' k r → (x : ℕ) → content s' k r x ≡ content s k r x)
      → Keeps n s' place pool
  letting f c = record {
    agree = λ k r l x. v.agree k r (f k r l) x ∙ sym (c k r l x);
    apart = λ k r j i l m e. v.apart k r j i (f k r l) (f j i m) e;
  }

  -- one cell of a live ring is written
  writing : (a b x y : ℕ) → Live n s a b → ((k r : ℕ) → Live n s' k r → Live n s k r) → ((z : ℕ) → content s' a b z ≡ upd (content s a b) x y z)
      → ((k r : ℕ) → Live n s' k r → ((k ≡ a) × (r ≡ b) → ⊥) → (z : ℕ) → content s' k r z ≡ content s k r z)
      → Keeps n s' place (put pool (place a b) x y)
  writing a b x y l f g h = record {
    agree = λ k r m z. go k r m z (ℕ_discrete k a) (ℕ_discrete r b);
    apart = λ k r j i m o e. v.apart k r j i (f k r m) (f j i o) e;
  }
    where
      cells : (z : ℕ) → Dec (z ≡ x) → upd (pool (place a b)) x y z ≡ upd (content s a b) x y z
      cells z (yes p) = upd_same (pool (place a b)) x y z p ∙ sym (upd_same (content s a b) x y z p)
      cells z (no d) = upd_other (pool (place a b)) x y z d ∙ v.agree a b l z ∙ sym (upd_other (content s a b) x y z d)

      away : (k r : ℕ) → Live n s' k r → (z : ℕ) → ((k ≡ a) × (r ≡ b) → ⊥) → put pool (place a b) x y (place k r) z ≡ content s' k r z
      away k r m z d =
          rw (upd_other pool (place a b) (upd (pool (place a b)) x y) (place k r) (λ q. d (v.apart k r a b (f k r m) l q)))
          (v.agree k r (f k r m) z ∙ sym (h k r m d z))

      go : (k r : ℕ) → Live n s' k r → (z : ℕ) → Dec (k ≡ a) → Dec (r ≡ b) → put pool (place a b) x y (place k r) z ≡ content s' k r z
      go k r m z (yes p) (yes q) =
          rw (p, q, upd_same pool (place a b) (upd (pool (place a b)) x y) (place a b) refl) (cells z (ℕ_discrete z x) ∙ sym (g z))
      go k r m z (yes p) (no q) = away k r m z (λ w. q w.1)
      go k r m z (no p) q = away k r m z (λ w. p w.0)

  -- ring b of queue a is claimed, in a place that no live ring has; its cells are what they were
  claiming : (a b : ℕ) → Free n s place (place a b) → ((x : ℕ) → content s' a b x ≡ pool (place a b) x)
      → ((k r : ℕ) → Live n s' k r → ((k ≡ a) × (r ≡ b) → ⊥) → Live n s k r)
      → ((k r : ℕ) → Live n s' k r → ((k ≡ a) × (r ≡ b) → ⊥) → (x : ℕ) → content s' k r x ≡ content s k r x) → Keeps n s' place pool
  claiming a b free was live same = record {
    agree = λ k r m x. agree' k r m x (new? k r);
    apart = λ k r j i m o e. apart' k r j i m o e (new? k r) (new? j i);
  }
    where
      new? : (k r : ℕ) → Dec ((k ≡ a) × (r ≡ b))
      new? k r = go (ℕ_discrete k a) (ℕ_discrete r b)
        where
          go : Dec (k ≡ a) → Dec (r ≡ b) → Dec ((k ≡ a) × (r ≡ b))
          go (yes p) (yes q) = yes (p, q)
          go (yes p) (no q) = no (λ w. q w.1)
          go (no p) q = no (λ w. p w.0)

      agree' : (k r : ℕ) → Live n s' k r → (x : ℕ) → Dec ((k ≡ a) × (r ≡ b)) → pool (place k r) x ≡ content s' k r x
      agree' k r m x (yes p) = rw (p.0, p.1) (sym (was x))
      agree' k r m x (no d) = v.agree k r (live k r m d) x ∙ sym (same k r m d x)

      apart' : (k r j i : ℕ) → Live n s' k r → Live n s' j i → place k r ≡ place j i → Dec ((k ≡ a) × (r ≡ b)) → Dec ((j ≡ a) × (i ≡ b))
          → (k ≡ j) × (r ≡ i)
      apart' k r j i m o e (yes p) (yes q) = (p.0 ∙ sym q.0, p.1 ∙ sym q.1)
      apart' k r j i m o e (yes p) (no q) = absurd (free j i (live j i o q) (sym e ∙ ap₂ place p.0 p.1))
      apart' k r j i m o e (no p) (yes q) = absurd (free k r (live k r m p) (e ∙ ap₂ place q.0 q.1))
      apart' k r j i m o e (no p) (no q) = v.apart k r j i (live k r m p) (live j i o q) e

-- ---- a live ring has a name

module _ (n : ℕ) (fl : ℕ → Flavour) (mem : ℕ → ℕ) (s : State) (v : Inv n fl mem s) where
  steal_named : (k : ℕ) (p : StealStage) (r : ℕ) → StealKnows (fl k) p (seen n fl s k) → StealHolds p r → r < (s.queues k).top
  steal_named k steal_front r w h = absurd h
  steal_named k (steal_back f) r w h = absurd h
  steal_named k (steal_ring f) r w h = absurd h
  steal_named k (steal_read i f) r w h = rw h w.1.0
  steal_named k (steal_reload i f x) r w h = rw h w.2
  steal_named k (steal_exchange i f x) r w h = rw h w.2

  source_named : (k t : ℕ) (p : SourceStage) (r : ℕ) → SourceKnows (fl k) (fl t) p (at (s.queues t)) (seen n fl s k) → SourceHolds p r
      → r < (s.queues k).top
  source_named k t (source_front m others) r w h = absurd h
  source_named k t (source_back m others f) r w h = absurd h
  source_named k t (source_ring a b) r w h = absurd h
  source_named k t (source_first i) r w h = rw h w.1.0
  source_named k t (all_copy i x) r w h = rw h w.1.0
  source_named k t (all_reload i) r w h = rw h w.1
  source_named k t (all_exchange i) r w h = rw h w.1
  source_named k t (one_first i x) r w h = rw h w.0.2
  source_named k t (one_back i x) r w h = rw h w.2
  source_named k t (one_read i x) r w h = rw h w.2
  source_named k t (one_reload i x y) r w h = rw h w.0.2
  source_named k t (one_exchange i x y) r w h = rw h w.0.2

  own_named : (k t : ℕ) (p : OwnStage) (r : ℕ) → OwnKnows (fl k) (fl t) p (at (s.queues t)) (seen n fl s k) → OwnHolds p r → r < (s.queues k).top
  own_named k t (reserve_back a) r w h = absurd h
  own_named k t (reserve_front a b) r w h = absurd h
  own_named k t (reserve_resize a z) r w h = absurd h
  own_named k t (own_back a) r w h = absurd h
  own_named k t (all_write i x y) r w h = rw h w.1.0
  own_named k t (one_write i x y) r w h = rw h w.2
  own_named k t (swap_near i x) r w h = rw h w
  own_named k t (swap_far i x y) r w h = rw h w
  own_named k t (swap_put i x y z) r w h = rw h w
  own_named k t (swap_last i x y) r w h = rw h w
  own_named k t (own_store i) r w h = rw h w

  holds_named : (t : ℕ) → t < n → (x : Stage) → Aware n fl s t x → (k r : ℕ) → Holds x k r → (k < n) × (r < (s.queues k).top)
  holds_named t l idle w k r h = absurd h
  holds_named t l (push x p) w k r h = absurd h
  holds_named t l (fifo_pop a p) w k r h = absurd h
  holds_named t l (lifo_pop a p) w k r h = absurd h
  holds_named t l (shrink a x z) w k r h = absurd h
  holds_named t l (steal i p) w k r h = rw h.0 (w.0, steal_named i p r w.1 h.1)
  holds_named t l (len i p) w k r h = absurd h
  holds_named t l (own_batch p) w k r h = absurd h
  holds_named t l (source i p) w k r h = rw h.0 (w.0, source_named i t p r w.2 h.1)
  holds_named t l (own i p) w k r h = rw h.0 (w.0, own_named i t p r w.2 h.1)

  -- a ring that an operation in flight holds
  pub held_named : (k r : ℕ) → Held n s k r → (k < n) × (r < (s.queues k).top)
  held_named k r h = holds_named h.0 h.1 (s.stages h.0) (v.aware h.0 h.1) k r h.2

  pub live_named : (k r : ℕ) → Live n s k r → Named n s k r
  live_named k r l = go l.1
    where
      go : (r ≡ (s.queues k).ring) ⊎ Held n s k r ⊎ Built n s k r → Named n s k r
      go (inl e) = let h = (v.oks k l.0).ring_top in inl (omega arith)
      go (inr (inl h)) = inl (held_named k r h).1
      go (inr (inr h)) = inr h

  -- the cells of a ring that the queue has or had
  pub content_old : (k r : ℕ) → r < (s.queues k).top → content s k r ≡ (s.queues k).rings r
  content_old k r l = upd_other (s.queues k).rings (s.queues k).top (cells_of (builds (s.stages k))) r (λ e. omega arith)

pub content_new : (s : State) (k : ℕ) → content s k (s.queues k).top ≡ cells_of (builds (s.stages k))
content_new s k = upd_same (s.queues k).rings (s.queues k).top (cells_of (builds (s.stages k))) (s.queues k).top refl

-- ---- any step: thread t's, on queue k

module _ (n : ℕ) (fl : ℕ → Flavour) (mem : ℕ → ℕ) (s : State) (v : Inv n fl mem s) (t k : ℕ) (lt : t < n) (g : Claim) (o : Out)
    (d : Does g (fl t) t k (s.stages t) (s.queues k) o) (v' : Inv n fl mem (stored s t k o)) where
  abbrev s' : State
  s' = stored s t k o

  abbrev Left : ℕ → ℕ → Type 0
  Left j r = (r ≡ (s.queues j).ring) ⊎ Held n s j r ⊎ Built n s j r

  stage_t : s'.stages t ≡ o.stage
  stage_t = upd_same s.stages t o.stage t refl

  stage_other : (u : ℕ) → (u ≡ t → ⊥) → s'.stages u ≡ s.stages u
  stage_other u e = upd_other s.stages t o.stage u e

  queue_other : (j : ℕ) → (j ≡ k → ⊥) → s'.queues j ≡ s.queues j
  queue_other j e = upd_other s.queues k o.queue j e

  -- what is held was live
  held_left : (j r : ℕ) → Held n s' j r → Left j r
  held_left j r h = go (ℕ_discrete h.0 t)
    where
      back : Holds (s.stages t) j r ⊎ ((j ≡ k) × (r ≡ (s.queues k).ring)) → Left j r
      back (inl z) = inr (inl (t, lt, z))
      back (inr z) = inl (z.1 ∙ ap (λ (i : ℕ). (s.queues i).ring) (sym z.0))

      go : Dec (h.0 ≡ t) → Left j r
      go (yes p) = back (d.holds j r (subst (λ (x : Stage). Holds x j r) (ap s'.stages p ∙ stage_t) h.2))
      go (no p) = inr (inl (h.0, h.1, subst (λ (x : Stage). Holds x j r) (stage_other h.0 p) h.2))

  -- the rings of another thread's queue, where that queue is not the one that t touched
  live_other : (j r : ℕ) → (j ≡ t → ⊥) → (s'.queues j).ring ≡ (s.queues j).ring → (s'.queues j).top ≡ (s.queues j).top → Live n s' j r → Live n s j r
  live_other j r e a b m = (m.0, go m.1)
    where
      go : (r ≡ (s'.queues j).ring) ⊎ Held n s' j r ⊎ Built n s' j r → Left j r
      go (inl z) = inl (z ∙ a)
      go (inr (inl z)) = held_left j r z
      go (inr (inr z)) = inr (inr (z.0 ∙ b, λ y. z.1 (ap builds (stage_other j e) ∙ y)))

  content_other : (j r x : ℕ) → (j ≡ t → ⊥) → (s'.queues j).rings ≡ (s.queues j).rings → (s'.queues j).top ≡ (s.queues j).top
      → content s' j r x ≡ content s j r x
  content_other j r x e a b = rw (a, b, stage_other j e)

  -- the rings of t's own queue, by what the step did
  live_own : (r : ℕ) → ((s'.queues t).ring ≡ (s.queues t).ring) → ((s'.queues t).top ≡ (s.queues t).top)
      → ((builds o.stage ≡ not_building → ⊥) → builds (s.stages t) ≡ not_building → ⊥) → Live n s' t r → Live n s t r
  live_own r a b c m = (m.0, go m.1)
    where
      go : (r ≡ (s'.queues t).ring) ⊎ Held n s' t r ⊎ Built n s' t r → Left t r
      go (inl z) = inl (z ∙ a)
      go (inr (inl z)) = held_left t r z
      go (inr (inr z)) = inr (inr (z.0 ∙ b, c (λ y. z.1 (ap builds stage_t ∙ y))))

  -- ---- nothing written

  module _ (e : Effect kept t k g (builds (s.stages t)) (s.queues k) (builds o.stage) o.queue) where
    ring_at : (j : ℕ) → (s'.queues j).ring ≡ (s.queues j).ring
    ring_at j = go (ℕ_discrete j k)
      where
        go : Dec (j ≡ k) → (s'.queues j).ring ≡ (s.queues j).ring
        go (yes p) = ap (λ (q : Queue). q.ring) (upd_same s.queues k o.queue j p) ∙ e.2 ∙ ap (λ (i : ℕ). (s.queues i).ring) (sym p)
        go (no p) = ap (λ (q : Queue). q.ring) (queue_other j p)

    pub top_at : (j : ℕ) → (s'.queues j).top ≡ (s.queues j).top
    top_at j = go (ℕ_discrete j k)
      where
        go : Dec (j ≡ k) → (s'.queues j).top ≡ (s.queues j).top
        go (yes p) = ap (λ (q : Queue). q.top) (upd_same s.queues k o.queue j p) ∙ e.3 ∙ ap (λ (i : ℕ). (s.queues i).top) (sym p)
        go (no p) = ap (λ (q : Queue). q.top) (queue_other j p)

    rings_at : (j : ℕ) → (s'.queues j).rings ≡ (s.queues j).rings
    rings_at j = go (ℕ_discrete j k)
      where
        go : Dec (j ≡ k) → (s'.queues j).rings ≡ (s.queues j).rings
        go (yes p) = ap (λ (q : Queue). q.rings) (upd_same s.queues k o.queue j p) ∙ e.0 ∙ ap (λ (i : ℕ). (s.queues i).rings) (sym p)
        go (no p) = ap (λ (q : Queue). q.rings) (queue_other j p)

    pub builds_on : (builds o.stage ≡ not_building → ⊥) → builds o.stage ≡ builds (s.stages t)
    builds_on h = go e.4
      where
        go : (builds o.stage ≡ builds (s.stages t)) ⊎ (builds o.stage ≡ not_building) → builds o.stage ≡ builds (s.stages t)
        go (inl z) = z
        go (inr z) = absurd (h z)

    kept_live : (j r : ℕ) → Live n s' j r → Live n s j r
    kept_live j r m = go (ℕ_discrete j t)
      where
        go : Dec (j ≡ t) → Live n s j r
        go (yes p) =
            subst (λ (i : ℕ). Live n s i r) (sym p)
            (live_own r (ring_at t) (top_at t) (λ h y. h (builds_on h ∙ y)) (subst (λ (i : ℕ). Live n s' i r) p m))
        go (no p) = live_other j r p (ring_at j) (top_at j) m

    kept_content : (j r : ℕ) → Live n s' j r → (x : ℕ) → content s' j r x ≡ content s j r x
    kept_content j r m x = go (live_named n fl mem s' v' j r m)
      where
        same : Dec (j ≡ t) → (builds (s'.stages j) ≡ not_building → ⊥) → builds (s'.stages j) ≡ builds (s.stages j)
        same (yes p) h =
            ap (λ (i : ℕ). builds (s'.stages i)) p ∙ ap builds stage_t
            ∙ builds_on (λ y. h (ap (λ (i : ℕ). builds (s'.stages i)) p ∙ ap builds stage_t ∙ y)) ∙ ap (λ (i : ℕ). builds (s.stages i)) (sym p)
        same (no p) h = ap builds (stage_other j p)

        go : Named n s' j r → content s' j r x ≡ content s j r x
        go (inl z) = let b = top_at j in rw (content_old n fl mem s' v' j r z, content_old n fl mem s v j r (omega arith), rings_at j)
        go (inr z) = rw (rings_at j, top_at j, same (ℕ_discrete j t) z.1)

    pub kept_keeps : (place pool : ℕ → ℕ → ℕ) → Keeps n s place pool → Keeps n s' place pool
    kept_keeps place pool w = letting n s s' place pool w kept_live kept_content

  -- ---- on the own queue

  module _ (kt : k ≡ t) where
    queue_t : s'.queues t ≡ o.queue
    queue_t = upd_same s.queues k o.queue t (sym kt)

    other : (j : ℕ) → (j ≡ t → ⊥) → s'.queues j ≡ s.queues j
    other j p = queue_other j (λ e. p (e ∙ kt))

    live_away : (j r : ℕ) → (j ≡ t → ⊥) → Live n s' j r → Live n s j r
    live_away j r p = live_other j r p (ap (λ (q : Queue). q.ring) (other j p)) (ap (λ (q : Queue). q.top) (other j p))

    content_away : (j r x : ℕ) → (j ≡ t → ⊥) → content s' j r x ≡ content s j r x
    content_away j r x p = content_other j r x p (ap (λ (q : Queue). q.rings) (other j p)) (ap (λ (q : Queue). q.top) (other j p))

    -- a property of every ring, from t's and the others'
    by_queue : (P : ℕ → Type 0) → P t → ((j : ℕ) → (j ≡ t → ⊥) → P j) → (j : ℕ) → P j
    by_queue P a b j = go (ℕ_discrete j t)
      where
        go : Dec (j ≡ t) → P j
        go (yes p) = subst P (sym p) a
        go (no p) = b j p

    pub wrote_keeps : (i x : ℕ) → o.queue ≡ set_cell (s.queues t) i x → builds (s.stages t) ≡ not_building → builds o.stage ≡ not_building
        → (place pool : ℕ → ℕ → ℕ) → Keeps n s place pool → Keeps n s' place (put pool (place t (s.queues t).ring) (i % cap (s.queues t)) x)
    wrote_keeps i x e a b place pool w =
        writing n s s' place pool w t (s.queues t).ring (i % cap (s.queues t)) x (lt, inl refl) live here away
      where
        q : Queue
        q = s.queues t

        qt : s'.queues t ≡ set_cell q i x
        qt = queue_t ∙ e

        live : (j r : ℕ) → Live n s' j r → Live n s j r
        live j r = by_queue (λ (j : ℕ). Live n s' j r → Live n s j r)
            (live_own r (ap (λ (q : Queue). q.ring) qt) (ap (λ (q : Queue). q.top) qt) (λ h y. h b)) (λ j p. live_away j r p) j

        cur : (s.queues t).ring < (s.queues t).top
        cur = (v.oks t lt).ring_top

        here : (z : ℕ) → content s' t q.ring z ≡ upd (content s t q.ring) (i % cap q) x z
        here z =
            let top : (s'.queues t).top ≡ q.top = ap (λ (q : Queue). q.top) qt in
            let c = cur in
            rw (content_old n fl mem s' v' t q.ring (omega arith), content_old n fl mem s v t q.ring c, qt)
            (ap (λ (f : ℕ → ℕ). f z) (upd_same q.rings q.ring (upd (q.rings q.ring) (i % cap q) x) q.ring refl))

        mine : (r : ℕ) → Live n s' t r → (r ≡ q.ring → ⊥) → (z : ℕ) → content s' t r z ≡ content s t r z
        mine r m p z = go (live_named n fl mem s' v' t r m)
          where
            go : Named n s' t r → content s' t r z ≡ content s t r z
            go (inl y) =
                let top : (s'.queues t).top ≡ q.top = ap (λ (q : Queue). q.top) qt in
                rw (content_old n fl mem s' v' t r y, content_old n fl mem s v t r (omega arith), qt)
                (ap (λ (f : ℕ → ℕ). f z) (upd_other q.rings q.ring (upd (q.rings q.ring) (i % cap q) x) r p))
            go (inr y) = absurd (y.1 (ap builds stage_t ∙ b))

        away : (j r : ℕ) → Live n s' j r → ((j ≡ t) × (r ≡ q.ring) → ⊥) → (z : ℕ) → content s' j r z ≡ content s j r z
        away j r m p z = by_queue (λ (j : ℕ). Live n s' j r → ((j ≡ t) × (r ≡ q.ring) → ⊥) → content s' j r z ≡ content s j r z)
            (λ m p. mine r m (λ y. p (refl, y)) z) (λ j p m y. content_away j r z p) j m p

    -- the queue stays, and thread t builds
    module _ (e : o.queue ≡ s.queues t) (c : ℕ) (f : ℕ → ℕ) (is : builds o.stage ≡ building c f) where
      same_queue : (j : ℕ) → s'.queues j ≡ s.queues j
      same_queue = by_queue (λ (j : ℕ). s'.queues j ≡ s.queues j) (queue_t ∙ e) other

      new_cells : (x : ℕ) → content s' t (s.queues t).top x ≡ f x
      new_cells x =
          ap (λ (r : ℕ). content s' t r x) (sym (ap (λ (q : Queue). q.top) (same_queue t))) ∙ ap (λ (h : ℕ → ℕ). h x) (content_new s' t)
          ∙ ap (λ (b : Building). cells_of b x) (ap builds stage_t ∙ is)

      -- every other ring is as it was
      old_cells : (j r : ℕ) → ((j ≡ t) × (r ≡ (s.queues t).top) → ⊥) → (x : ℕ) → content s' j r x ≡ content s j r x
      old_cells j r p x =
          by_queue (λ (j : ℕ). ((j ≡ t) × (r ≡ (s.queues t).top) → ⊥) → content s' j r x ≡ content s j r x) mine (λ j p y. content_away j r x p) j p
        where
          mine : ((t ≡ t) × (r ≡ (s.queues t).top) → ⊥) → content s' t r x ≡ content s t r x
          mine p =
              rw (same_queue t)
              (ap (λ (h : ℕ → ℕ). h x) (upd_other (s.queues t).rings (s.queues t).top (cells_of (builds (s'.stages t))) r (λ y. p (refl, y)))
              ∙ sym (ap (λ (h : ℕ → ℕ). h x) (upd_other (s.queues t).rings (s.queues t).top (cells_of (builds (s.stages t))) r (λ y. p (refl, y)))))

      pub copied_keeps : (i : ℕ) (h : ℕ → ℕ) → builds (s.stages t) ≡ building c h → f ≡ upd h (i % c) (at (s.queues t) i)
          → (place pool : ℕ → ℕ → ℕ) → Keeps n s place pool → Keeps n s' place (put pool (place t (s.queues t).top) (i % c) (at (s.queues t) i))
      copied_keeps i h was step place pool w =
          writing n s s' place pool w t (s.queues t).top (i % c) (at (s.queues t) i) (lt, inr (inr (refl, full)))
          (λ j r. by_queue (λ (j : ℕ). Live n s' j r → Live n s j r)
          (live_own r (ap (λ (q : Queue). q.ring) (same_queue t)) (ap (λ (q : Queue). q.top) (same_queue t)) (λ y. full)) (λ j p. live_away j r p) j)
          here (λ j r m p x. old_cells j r p x)
        where
          full : builds (s.stages t) ≡ not_building → ⊥
          full y = let z : building c h ≡ not_building = sym was ∙ y in let u : ◌≡◌ {A = ℕ} 0 1 = cc in omega arith

          here : (x : ℕ) → content s' t (s.queues t).top x ≡ upd (content s t (s.queues t).top) (i % c) (at (s.queues t) i) x
          here x =
              new_cells x ∙ ap (λ (h : ℕ → ℕ). h x) step
              ∙ ap (λ (y : ℕ → ℕ). upd y (i % c) (at (s.queues t) i) x) (sym (content_new s t ∙ ap cells_of was))

      -- a claim: of a place that no live ring has
      pub claims_keeps : builds (s.stages t) ≡ not_building → (place pool : ℕ → ℕ → ℕ)
          → Free n s place (place t (s.queues t).top) → ((x : ℕ) → f x ≡ pool (place t (s.queues t).top) x)
          → Keeps n s place pool → Keeps n s' place pool
      claims_keeps was place pool free found w =
          claiming n s s' place pool w t (s.queues t).top free (λ x. new_cells x ∙ found x) live (λ j r m p x. old_cells j r p x)
        where
          mine : (r : ℕ) → Live n s' t r → ((t ≡ t) × (r ≡ (s.queues t).top) → ⊥) → Live n s t r
          mine r m p = (m.0, go m.1)
            where
              go : (r ≡ (s'.queues t).ring) ⊎ Held n s' t r ⊎ Built n s' t r → Left t r
              go (inl z) = inl (z ∙ ap (λ (q : Queue). q.ring) (same_queue t))
              go (inr (inl z)) = held_left t r z
              go (inr (inr z)) = absurd (p (refl, z.0 ∙ ap (λ (q : Queue). q.top) (same_queue t)))

          live : (j r : ℕ) → Live n s' j r → ((j ≡ t) × (r ≡ (s.queues t).top) → ⊥) → Live n s j r
          live j r m p = by_queue (λ (j : ℕ). Live n s' j r → ((j ≡ t) × (r ≡ (s.queues t).top) → ⊥) → Live n s j r) (mine r) (λ j p m y. live_away j r p m) j m p

    -- a swap: the ring that was built has its name already
    pub swaps_keeps : (c : ℕ) (f : ℕ → ℕ) → builds (s.stages t) ≡ building c f → o.queue ≡ swap (s.queues t) c f → builds o.stage ≡ not_building
        → (place pool : ℕ → ℕ → ℕ) → Keeps n s place pool → Keeps n s' place pool
    swaps_keeps c f was e is place pool w =
        letting n s s' place pool w (λ j r. by_queue (λ (j : ℕ). Live n s' j r → Live n s j r) (mine r) (λ j p. live_away j r p) j)
        (λ j r m x. by_queue (λ (j : ℕ). Live n s' j r → content s' j r x ≡ content s j r x) (λ m. cells r x m) (λ j p m. content_away j r x p) j m)
      where
        q : Queue
        q = s.queues t

        qt : s'.queues t ≡ swap q c f
        qt = queue_t ∙ e

        full : builds (s.stages t) ≡ not_building → ⊥
        full y = let z : building c f ≡ not_building = sym was ∙ y in let u : ◌≡◌ {A = ℕ} 0 1 = cc in omega arith

        mine : (r : ℕ) → Live n s' t r → Live n s t r
        mine r m = (m.0, go m.1)
          where
            go : (r ≡ (s'.queues t).ring) ⊎ Held n s' t r ⊎ Built n s' t r → Left t r
            go (inl z) = inr (inr (z ∙ ap (λ (q : Queue). q.ring) qt, full))
            go (inr (inl z)) = held_left t r z
            go (inr (inr z)) = absurd (z.1 (ap builds stage_t ∙ is))

        cells : (r x : ℕ) → Live n s' t r → content s' t r x ≡ content s t r x
        cells r x m = go (live_named n fl mem s' v' t r m)
          where
            to : r < suc q.top → Dec (r ≡ q.top) → upd q.rings q.top f r x ≡ content s t r x
            to y (yes p) =
                rw p
                (ap (λ (h : ℕ → ℕ). h x) (upd_same q.rings q.top f q.top refl)
                ∙ sym (ap (λ (h : ℕ → ℕ). h x) (content_new s t) ∙ ap (λ (b : Building). cells_of b x) was))
            to y (no p) = ap (λ (h : ℕ → ℕ). h x) (upd_other q.rings q.top f r p ∙ sym (content_old n fl mem s v t r (omega arith)))

            go : Named n s' t r → content s' t r x ≡ content s t r x
            go (inl y) =
                let top : (s'.queues t).top ≡ suc q.top = ap (λ (q : Queue). q.top) qt in
                rw (content_old n fl mem s' v' t r y, qt) (to (omega arith) (ℕ_discrete r q.top))
            go (inr y) = absurd (y.1 (ap builds stage_t ∙ is))
