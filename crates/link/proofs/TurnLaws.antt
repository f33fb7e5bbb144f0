-- The machine's step, from a linked state within the invariant: it is the model's step, with the model's answer, and leaves a linked state.
use Rattle.std.proofs.Common.{◌≡◌, ℕ, suc, ◌+◌, ◌-◌, ◌*◌, ◌%◌, ◌^◌, ◌<◌, ◌≤◌, Bool, true, false, not, T, ltb, List, length, sym, refl, ap, ◌∙◌, subst, inl, inr, mod-eq_of_lt, arith, get_or-set_other, get_or-set_same, ltb-true, lt-ltb, eq-eqb, Ok as CodeOk, Some, None}
use native.Mathlib.Decide.{ℕ_discrete}
use Rattle.base.specs.Tests.{and_both}
use Rattle.ring.specs.declared.Ring.{Ring}
use Rattle.ring.specs.Capacity.{allowed_b}
use Rattle.cells.specs.Cells.{place_cells}
use Rattle.parts.specs.Out.{Claim as CodeClaim, left}
use Rattle.stages.specs.Stages.{touched_of, idle_b, claims_b}
use Rattle.advance.specs.Advance.{advance_of}
use Rattle.machine.specs.declared.state.Machine.{Machine}
use Rattle.parts.specs.Queues.{zero_queue}
use Rattle.machine.specs.State.{after, queue_at}
use Rattle.machine.specs.Claim.{free_place, free_ring, claim_of}
use Rattle.machine.specs.Step.{gate_of, ran, step_of}
use Rattle.model.specs.Stage.{Flavour, Queue, cap, ResizeStage, resize_back, resize_front, resize_copy, resize_swap, PushStage, push_back, push_front}
use Rattle.model.specs.Stage.{push_resize, push_write, push_store, own, Popper, source, OwnStage, reserve_back, reserve_front, reserve_resize}
use Rattle.model.specs.Stage.{own_back, all_write, one_write, swap_near, swap_far, swap_put, swap_last, own_store, Stage, idle, push, fifo_pop}
use Rattle.model.specs.Stage.{lifo_pop, shrink, steal, len, own_batch, Out}
use Rattle.model.specs.Tables.{Claim, lost, got, Offer}
use Rattle.model.specs.Machine.{State, touched, busy, step_at, stored, step_out, stepped}
use Rattle.model.specs.Invariant.{Ok, Inv}
use Rattle.model.specs.Bound.{Bounded}
use Rattle.model.specs.Memory.{builds, not_building, building, builds_resize, Note, kept, note, Named}
use Rattle.model.proofs.Calls.{step_kept}
use Rattle.model.proofs.Indices.{indices}
use Rattle.model.proofs.Effects.{Does, step_does}
use Rattle.link.specs.Map.{flavor_of, stage_for, queue_for, answer_for, out_for, noted, offer_for, ClaimIs, StageClaims}
use Rattle.link.specs.Linked.{pool_of, ResizeFits, StageFits, Linked}
use Rattle.link.proofs.PoolLaws.{sound_allowed}
use Rattle.link.proofs.LinkedLaws.{reads}
use Rattle.link.proofs.KeptLaws.{builds_one}
use Rattle.link.proofs.FreeLaws.{place_free}
use Rattle.link.proofs.SoundLaws.{linked_sound}
use Rattle.link.proofs.NameLaws.{extend, extend_same, extend_other, renamed}
use Rattle.link.proofs.StoreLaws.{put_back, next_after, put_back_lem, few_queues, stored_linked}
use Rattle.link.proofs.SizeLaws.{step_fits}
use Rattle.link.proofs.Agree.{agree, touched_in}
use Rattle.link.proofs.StepLaws.{Found, step_stored}

-- ---- what a stage tells, in the model and in the code

touched_is : (R : ℕ → ℕ → Ring) (new : Ring) (t : ℕ) (x : Stage) → touched_of (stage_for R new x) t ≡ touched t x
touched_is R new t idle = refl
touched_is R new t (push x p) = refl
touched_is R new t (fifo_pop w p) = refl
touched_is R new t (lifo_pop w p) = refl
touched_is R new t (shrink w v z) = refl
touched_is R new t (steal k p) = refl
touched_is R new t (len k p) = refl
touched_is R new t (own_batch p) = refl
touched_is R new t (source k p) = refl
touched_is R new t (own k p) = refl

pub idle_is : (R : ℕ → ℕ → Ring) (new : Ring) (x : Stage) → idle_b (stage_for R new x) ≡ not (busy x)
idle_is R new idle = refl
idle_is R new (push x p) = refl
idle_is R new (fifo_pop w p) = refl
idle_is R new (lifo_pop w p) = refl
idle_is R new (shrink w v z) = refl
idle_is R new (steal k p) = refl
idle_is R new (len k p) = refl
idle_is R new (own_batch p) = refl
idle_is R new (source k p) = refl
idle_is R new (own k p) = refl

-- a stage's step claims no ring; or it claims one of an allowed capacity, and builds none yet
data ClaimAt (x : Stage) : Type 0 where
  no_claim : ((R : ℕ → ℕ → Ring) (new : Ring) → claims_b (stage_for R new x) ≡ false) → ((new : Ring) → StageClaims new lost None x) → ClaimAt x
  a_claim : (c : ℕ) → ((R : ℕ → ℕ → Ring) (new : Ring) → claims_b (stage_for R new x) ≡ true)
      → ((new : Ring) (gm : Claim) (gc : CodeClaim) → ClaimIs new c gm gc → StageClaims new gm gc x) → builds x ≡ not_building
      → ((C : ℕ) → StageFits C x → allowed_b c ≡ true) → ClaimAt x

push_claim : (x : ℕ) (p : PushStage) → ClaimAt (push x p)
push_claim x push_back = no_claim (λ R new. refl) (λ new. tt)
push_claim x (push_front b) = no_claim (λ R new. refl) (λ new. tt)
push_claim x (push_resize b (resize_back c)) = no_claim (λ R new. refl) (λ new. tt)
push_claim x (push_resize b (resize_front c i)) = a_claim c (λ R new. refl) (λ new gm gc h. h) refl (λ C h. h)
push_claim x (push_resize b (resize_copy c i j f)) = no_claim (λ R new. refl) (λ new. tt)
push_claim x (push_resize b (resize_swap c f)) = no_claim (λ R new. refl) (λ new. tt)
push_claim x (push_write b) = no_claim (λ R new. refl) (λ new. tt)
push_claim x (push_store b) = no_claim (λ R new. refl) (λ new. tt)

shrink_claim : (w : Popper) (v : ℕ) (z : ResizeStage) → ClaimAt (shrink w v z)
shrink_claim w v (resize_back c) = no_claim (λ R new. refl) (λ new. tt)
shrink_claim w v (resize_front c i) = a_claim c (λ R new. refl) (λ new gm gc h. h) refl (λ C h. h)
shrink_claim w v (resize_copy c i j f) = no_claim (λ R new. refl) (λ new. tt)
shrink_claim w v (resize_swap c f) = no_claim (λ R new. refl) (λ new. tt)

own_claim : (k : ℕ) (p : OwnStage) → ClaimAt (own k p)
own_claim k (reserve_back w) = no_claim (λ R new. refl) (λ new. tt)
own_claim k (reserve_front w b) = no_claim (λ R new. refl) (λ new. tt)
own_claim k (reserve_resize w (resize_back c)) = no_claim (λ R new. refl) (λ new. tt)
own_claim k (reserve_resize w (resize_front c i)) = a_claim c (λ R new. refl) (λ new gm gc h. h) refl (λ C h. h)
own_claim k (reserve_resize w (resize_copy c i j f)) = no_claim (λ R new. refl) (λ new. tt)
own_claim k (reserve_resize w (resize_swap c f)) = no_claim (λ R new. refl) (λ new. tt)
own_claim k (own_back w) = no_claim (λ R new. refl) (λ new. tt)
own_claim k (all_write h i v) = no_claim (λ R new. refl) (λ new. tt)
own_claim k (one_write h i v) = no_claim (λ R new. refl) (λ new. tt)
own_claim k (swap_near h x) = no_claim (λ R new. refl) (λ new. tt)
own_claim k (swap_far h x near) = no_claim (λ R new. refl) (λ new. tt)
own_claim k (swap_put h x near far) = no_claim (λ R new. refl) (λ new. tt)
own_claim k (swap_last h x near) = no_claim (λ R new. refl) (λ new. tt)
own_claim k (own_store h) = no_claim (λ R new. refl) (λ new. tt)

claim_at : (x : Stage) → ClaimAt x
claim_at idle = no_claim (λ R new. refl) (λ new. tt)
claim_at (push x p) = push_claim x p
claim_at (fifo_pop w p) = no_claim (λ R new. refl) (λ new. tt)
claim_at (lifo_pop w p) = no_claim (λ R new. refl) (λ new. tt)
claim_at (shrink w v z) = shrink_claim w v z
claim_at (steal k p) = no_claim (λ R new. refl) (λ new. tt)
claim_at (len k p) = no_claim (λ R new. refl) (λ new. tt)
claim_at (own_batch p) = no_claim (λ R new. refl) (λ new. tt)
claim_at (source k p) = no_claim (λ R new. refl) (λ new. tt)
claim_at (own k p) = own_claim k p

-- the ring being built has the capacity that is resized to
resize_sized : (C : ℕ) (z : ResizeStage) (c : ℕ) (f : ℕ → ℕ) → ResizeFits C z → builds_resize z ≡ building c f → C ≡ c
resize_sized C (resize_back d) c f h e = absurd (builds_one c f (sym e))
resize_sized C (resize_front d b) c f h e = absurd (builds_one c f (sym e))
resize_sized C (resize_copy d b i g) c f h e = let z : d ≡ c = cc in h ∙ z
resize_sized C (resize_swap d g) c f h e = let z : d ≡ c = cc in h ∙ z

stage_sized : (C : ℕ) (x : Stage) (c : ℕ) (f : ℕ → ℕ) → StageFits C x → builds x ≡ building c f → C ≡ c
stage_sized C idle c f h e = absurd (builds_one c f (sym e))
stage_sized C (push x push_back) c f h e = absurd (builds_one c f (sym e))
stage_sized C (push x (push_front b)) c f h e = absurd (builds_one c f (sym e))
stage_sized C (push x (push_resize b z)) c f h e = resize_sized C z c f h e
stage_sized C (push x (push_write b)) c f h e = absurd (builds_one c f (sym e))
stage_sized C (push x (push_store b)) c f h e = absurd (builds_one c f (sym e))
stage_sized C (fifo_pop w p) c f h e = absurd (builds_one c f (sym e))
stage_sized C (lifo_pop w p) c f h e = absurd (builds_one c f (sym e))
stage_sized C (shrink w v z) c f h e = resize_sized C z c f h e
stage_sized C (steal k p) c f h e = absurd (builds_one c f (sym e))
stage_sized C (len k p) c f h e = absurd (builds_one c f (sym e))
stage_sized C (own_batch p) c f h e = absurd (builds_one c f (sym e))
stage_sized C (source k p) c f h e = absurd (builds_one c f (sym e))
stage_sized C (own k (reserve_back w)) c f h e = absurd (builds_one c f (sym e))
stage_sized C (own k (reserve_front w b)) c f h e = absurd (builds_one c f (sym e))
stage_sized C (own k (reserve_resize w z)) c f h e = resize_sized C z c f h e
stage_sized C (own k (own_back w)) c f h e = absurd (builds_one c f (sym e))
stage_sized C (own k (all_write j i v)) c f h e = absurd (builds_one c f (sym e))
stage_sized C (own k (one_write j i v)) c f h e = absurd (builds_one c f (sym e))
stage_sized C (own k (swap_near j x)) c f h e = absurd (builds_one c f (sym e))
stage_sized C (own k (swap_far j x near)) c f h e = absurd (builds_one c f (sym e))
stage_sized C (own k (swap_put j x near far)) c f h e = absurd (builds_one c f (sym e))
stage_sized C (own k (swap_last j x near)) c f h e = absurd (builds_one c f (sym e))
stage_sized C (own k (own_store j)) c f h e = absurd (builds_one c f (sym e))

not_true : (b : Bool) → T b → not b ≡ false
not_true true t = refl
not_true false t = absurd t

module _ (n : ℕ) (fl : ℕ → Flavour) (s : State) (m : Machine) (cells : List ℕ) (mem : ℕ → ℕ) (v : Inv n fl mem s) (c : ℕ) (b : Bounded n c s)
    (lc : c < 2 ^ 62) where
  pub small : (k : ℕ) → k < n → ((s.queues k).front < 2 ^ 63) × ((s.queues k).back < 2 ^ 63)
  small k l = let i = indices n fl c mem s v b k l in (omega (arith, i.0), omega (arith, i.1))

  -- the first tests find nothing
  pub gate_open : (R : ℕ → ℕ → Ring) → Linked n fl R s m cells → (t : ℕ) → t < n → gate_of m (length cells) t ≡ CodeOk tt
  unfolding gate_of
  gate_open R w t lt =
      rw (linked_sound n fl R s m cells w mem v small, eq-eqb (length cells) (m.place_count * place_cells) w.pool_length, w.count, lt-ltb t n lt)

  module _ (t : ℕ) (lt : t < n) (bx : T (busy (s.stages t))) where
    abbrev x : Stage
    x = s.stages t

    abbrev k : ℕ
    k = touched t x

    abbrev q : Queue
    q = s.queues k

    -- the machine's step, and the model's with this claim, from s to the same state
    pub record Turned : Type 0 where
      pub names : ℕ → ℕ → Ring
      pub claim : Claim
      pub machine : Machine
      pub after_cells : List ℕ
      pub linked : Linked n fl names (stepped fl s t (offer_for claim x q) x) machine after_cells
      pub step : step_of m cells t ≡ after machine (answer_for (step_out fl s t (offer_for claim x q) x).answer) after_cells
      pub unchanged : (step_out fl s t (offer_for claim x q) x).queue ≡ q → note claim (fl t) x ≡ kept
          → (after_cells ≡ cells) × ((j : ℕ) → j < n → queue_at machine j ≡ queue_at m j)

    module _ (R : ℕ → ℕ → Ring) (w : Linked n fl R s m cells) (gm : Claim) (gc : CodeClaim) where
      abbrev W : Ring
      W = R t (s.queues t).top

      abbrev g : Offer
      g = offer_for gm x q

      abbrev o : Out
      o = step_at g fl t x q

      lk : k < n
      lk = touched_in n fl R s m cells w mem v c b lc t lt gm gc x refl

      v' : Inv n fl mem (stored s t k o)
      v' = (step_kept n fl mem s t g v lt bx).inv

      d : Does gm (fl t) t k x q o
      d = step_does g fl t x q bx

      abbrev cells' : List ℕ
      cells' = noted (note gm (fl t) x) (R k q.ring) W cells

      abbrev machine' : Machine
      machine' = put_back m t k (next_after m gc) (queue_for (fl k) (R k) o.queue) (stage_for R W o.stage)

      tables : StageClaims W gm gc x → advance_of (stage_for R W x) (flavor_of (fl t)) (queue_for (fl k) (R k) q) gc cells ≡ left (out_for (fl k) R k W o) cells'
      tables cl = agree n fl R s m cells w mem v c b lc t lt gm gc x refl bx cl

      ran_is : claim_of m (stage_for R W x) ≡ gc → StageClaims W gm gc x
          → ran m cells t (stage_for R W x) ≡ after machine' (answer_for o.answer) cells'
      ran_is e cl =
          rw (touched_is R W t x, e, w.queues t lt, w.queues k lk, tables cl)
          (ap (λ (z : Machine). after z (answer_for o.answer) cells') (put_back_lem m t k gc (queue_for (fl k) (R k) o.queue) (stage_for R W o.stage)))

      step_is : claim_of m (stage_for R W x) ≡ gc → StageClaims W gm gc x → step_of m cells t ≡ after machine' (answer_for o.answer) cells'
      unfolding step_of
      step_is e cl = rw (gate_open R w t lt, w.stages t lt, idle_is R W x, not_true (busy x) bx) (ran_is e cl)

      cap_allowed : allowed_b (cap q) ≡ true
      cap_allowed =
          subst (λ (c : ℕ). allowed_b c ≡ true) (w.caps k q.ring lk (v.oks k lk).ring_top)
          (sound_allowed m.place_count (R k q.ring) (w.rings k q.ring lk (inl (v.oks k lk).ring_top)))

      own_ok : k ≡ t → Ok (fl t) x q
      own_ok e = subst (λ (j : ℕ). Ok (fl t) x (s.queues j)) (sym e) (v.oks t lt)

      turned : claim_of m (stage_for R W x) ≡ gc → StageClaims W gm gc x → m.next_ring.0 ≤ (next_after m gc).0
          → ((f : ℕ → ℕ) → gm ≡ got f → Found n fl R s m cells w mem v t k lt lk gm o d v' (next_after m gc) f) → Turned
      turned e cl up found = record {
        names = R;
        claim = gm;
        machine = machine';
        after_cells = cells';
        linked = stored_linked n fl R s m cells w t k lt lk o (next_after m gc) (queue_for (fl k) (R k) o.queue) (stage_for R W o.stage) cells'
            (step_stored n fl R s m cells w mem v t k lt lk gm o d v' (next_after m gc) up
            (step_fits fl t W x q gm gc (λ e. cap_allowed) own_ok (w.sizes t lt) cl)
            (λ c f e. stage_sized W.capacity x c f (w.sizes t lt) e) found
            (reads n fl R s m cells w mem v k q.ring (lk, inl refl) (v.oks k lk).ring_top));
        step = step_is e cl;
        unchanged = λ h i. (ap (λ (a : Note). noted a (R k q.ring) W cells) i, λ j l. same h j l (ℕ_discrete j k));
      }
        where
          same : o.queue ≡ q → (j : ℕ) → j < n → Dec (j ≡ k) → queue_at machine' j ≡ queue_at m j
          same h j l (yes p) =
              let a = w.queue_list in
              let b = few_queues n m.place_count w.counts in
              let c = lk in
              rw p
              (get_or-set_same m.queues k (queue_for (fl k) (R k) o.queue) zero_queue (omega arith) ∙ ap (queue_for (fl k) (R k)) h ∙ sym (w.queues k lk))
          same h j l (no p) = get_or-set_other m.queues k j (queue_for (fl k) (R k) o.queue) zero_queue p

    not_got : (f : ℕ → ℕ) → lost ≡ got f → ⊥
    not_got f e = let z : ◌≡◌ {A = ℕ} 0 1 = cc in omega arith

    -- no ring to be had, or none wanted
    without : (R : ℕ → ℕ → Ring) (w : Linked n fl R s m cells) → claim_of m (stage_for R (R t (s.queues t).top) x) ≡ None
        → StageClaims (R t (s.queues t).top) lost None x → Turned
    without R w e cl = turned R w lost None e cl (omega arith) (λ f z. absurd (not_got f z))

    -- the ring that the claim finds is named first
    with_ring : (R : ℕ → ℕ → Ring) (w : Linked n fl R s m cells) (a : ℕ) → ((R : ℕ → ℕ → Ring) (new : Ring) → claims_b (stage_for R new x) ≡ true)
        → ((new : Ring) (gm : Claim) (gc : CodeClaim) → ClaimIs new a gm gc → StageClaims new gm gc x) → builds x ≡ not_building → allowed_b a ≡ true
        → free_place m < m.place_count → m.next_ring.0 < 2 ^ 64 - 1 → Turned
    unfolding free_ring
    with_ring R w a cb cl nb al fp nr =
        let e : R' t (s.queues t).top ≡ new = extend_same R t (s.queues t).top new in
        let gc : CodeClaim = Some (record { number = m.next_ring; place = record { 0 = free_place m } }) in
        let f : ℕ → ℕ = pool_of cells (free_place m) in
        let up : suc m.next_ring.0 ≡ (m.next_ring.0 + 1) % 2 ^ 64 = sym (mod-eq_of_lt (omega arith) ∙ omega arith) in
        turned R' w' (got f) gc
        (rw (cb R' (R' t (s.queues t).top), lt-ltb (free_place m) m.place_count fp, lt-ltb m.next_ring.0 (2 ^ 64 - 1) nr))
        (cl (R' t (s.queues t).top) (got f) gc (sym e)) (omega arith)
        (λ h z. record {
          number = ap (λ (r : Ring). r.number.0) e;
          counted = up;
          sound = rw e (and_both _ _ al (lt-ltb (free_place m) m.place_count fp));
          free = λ j r l y. place_free n fl R' s m cells w' fp j r l (y ∙ ap (λ (r : Ring). r.place.0) e);
          cells_were = λ y. (let u : h ≡ f = same_got h f z in ap (λ (g : ℕ → ℕ). g y) u ∙ ap (λ (r : Ring). pool_of cells r.place.0 y) (sym e));
        })
      where
        new : Ring
        new = record { number = m.next_ring; place = record { 0 = free_place m }; capacity = a }

        R' : ℕ → ℕ → Ring
        R' = extend R t (s.queues t).top new

        unnamed : (j r : ℕ) → Named n s j r → (j ≡ t) × (r ≡ (s.queues t).top) → ⊥
        unnamed j r (inl z) p = let y : (s.queues j).top ≡ (s.queues t).top = ap (λ (i : ℕ). (s.queues i).top) p.0 in let u = p.1 in omega arith
        unnamed j r (inr z) p = z.1 (ap (λ (i : ℕ). builds (s.stages i)) p.0 ∙ nb)

        w' : Linked n fl R' s m cells
        w' = renamed n fl R R' s m cells w mem v (λ j r l h. extend_other R t (s.queues t).top new j r (unnamed j r h))

        same_got : (h f : ℕ → ℕ) → got f ≡ got h → h ≡ f
        same_got h f z = cc

    pub turn : (R : ℕ → ℕ → Ring) → Linked n fl R s m cells → Turned
    unfolding free_ring
    turn R w = go (claim_at x)
      where
        tests : (a : ℕ) → ((R : ℕ → ℕ → Ring) (new : Ring) → claims_b (stage_for R new x) ≡ true)
            → ((new : Ring) (gm : Claim) (gc : CodeClaim) → ClaimIs new a gm gc → StageClaims new gm gc x) → builds x ≡ not_building
            → allowed_b a ≡ true
            → (p : Bool) → ltb (free_place m) m.place_count ≡ p → (r : Bool) → ltb m.next_ring.0 (2 ^ 64 - 1) ≡ r → Turned
        tests a cb cl nb al true e true h =
            with_ring R w a cb cl nb al (ltb-true (free_place m) m.place_count e) (ltb-true m.next_ring.0 (2 ^ 64 - 1) h)
        tests a cb cl nb al true e false h = without R w (rw (cb R (R t (s.queues t).top), e, h)) (cl (R t (s.queues t).top) lost None tt)
        tests a cb cl nb al false e r h = without R w (rw (cb R (R t (s.queues t).top), e)) (cl (R t (s.queues t).top) lost None tt)

        go : ClaimAt x → Turned
        go (no_claim f cl) = without R w (rw (f R (R t (s.queues t).top))) (cl (R t (s.queues t).top))
        go (a_claim a cb cl nb al) =
            tests a cb cl nb (al (R t (s.queues t).top).capacity (w.sizes t lt)) (ltb (free_place m) m.place_count) refl
            (ltb m.next_ring.0 (2 ^ 64 - 1)) refl
