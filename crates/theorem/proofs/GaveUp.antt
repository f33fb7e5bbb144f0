-- An operation that answers 8 or 9 has moved no job and written no cell since its begin: a stage from which such an answer can be given comes from such
-- a stage (`early`), by a step that leaves every queue and every cell. So the calls are gone through from the last to the first.
use Rattle.std.proofs.Common.{◌≡◌, ℕ, suc, ◌+◌, ◌*◌, ◌^◌, ◌<◌, ◌≤◌, Bool, true, false, T, List, [], ◌∷◌, length, sym, refl, ap, ◌∙◌, subst, ⊎_elim, arith, get_or-set_other, Result, Ok, Err}
use native.Mathlib.Decide.{ℕ_discrete}
use Rattle.base.specs.Tests.{le_or_lt}
use Rattle.cells.specs.Cells.{place_cells}
use Rattle.ring.specs.declared.Ring.{Ring}
use Rattle.parts.specs.declared.queue.Flavor.{Flavor}
use Rattle.parts.specs.declared.stage.ResizeStage.{ResizeStage as CodeResize}
use Rattle.parts.specs.declared.stage.ResizeStage.TheVariants as Z
use Rattle.parts.specs.declared.stage.PushStage.{PushStage as CodePush}
use Rattle.parts.specs.declared.stage.PushStage.TheVariants as U
use Rattle.parts.specs.declared.stage.SourceStage.{SourceStage as CodeSource}
use Rattle.parts.specs.declared.stage.SourceStage.TheVariants as F
use Rattle.parts.specs.declared.stage.ReserveStage.{ReserveStage as CodeReserve}
use Rattle.parts.specs.declared.stage.ReserveStage.TheVariants as M
use Rattle.parts.specs.declared.stage.OwnStage.{OwnStage as CodeOwn}
use Rattle.parts.specs.declared.stage.OwnStage.TheVariants as O
use Rattle.parts.specs.declared.stage.Stage.{Stage as CodeStage}
use Rattle.parts.specs.declared.stage.Stage.TheVariants as G
use Rattle.parts.specs.declared.answer.Answer.{Answer as CodeAnswer}
use Rattle.parts.specs.declared.answer.Answer.TheVariants as B
use Rattle.parts.specs.declared.answer.Refusal.{Refusal}
use Rattle.parts.specs.declared.answer.Refusal.TheVariants as K
use Rattle.stages.specs.Stages.{idle_b}
use Rattle.gate.specs.declared.Operation.{Operation as CodeOperation}
use Rattle.gate.specs.declared.Request.{Request}
use Rattle.gate.specs.declared.Request.TheVariants.{Step, Begin}
use Rattle.gate.specs.Gate.{begin_tests, step_tests, then_gate}
use Rattle.machine.specs.declared.state.Machine.{Machine}
use Rattle.machine.specs.State.{After, refused, idle_thread, stage_at}
use Rattle.machine.specs.Sound.{sound_b}
use Rattle.machine.specs.Setup.{zero_machine, setup_of}
use Rattle.machine.specs.Step.{gate_of, passing, ran, step_of}
use Rattle.machine.specs.Begin.{begin_of}
use Rattle.machine.specs.Begin as H
use Rattle.model.specs.Stage.{Flavour, Queue, ResizeStage, resize_back, resize_front, resize_copy, resize_swap, PushStage, push_back, push_front}
use Rattle.model.specs.Stage.{push_resize, push_write, push_store, job, own, by_pop, by_batch, source, SourceStage, source_front, source_back, source_ring}
use Rattle.model.specs.Stage.{source_first, all_copy, all_reload, all_exchange, one_first, one_back, one_read, one_reload, one_exchange, OwnStage}
use Rattle.model.specs.Stage.{reserve_back, reserve_front, reserve_resize, own_back, all_write, one_write, swap_near, swap_far, swap_put, swap_last}
use Rattle.model.specs.Stage.{own_store, Stage, idle, push, fifo_pop, lifo_pop, shrink, steal, len, own_batch, Answer, working, done, nothing, empty}
use Rattle.model.specs.Stage.{success, retry, moved, two_numbers, too_large, no_ring, Out}
use Rattle.model.specs.Tables.{Offer}
use Rattle.model.specs.Machine.{State, touched, busy, step_at}
use Rattle.model.specs.Early.{EarlyResize, EarlyPush, EarlySource, EarlyOwn, Early, StillEarly}
use Rattle.model.proofs.CountLaws.{upd_same}
use Rattle.model.proofs.GaveUp.{gave_up}
use Rattle.link.specs.Map.{resize_at, push_at, source_at, own_at, stage_for, answer_for, offer_for}
use Rattle.link.specs.Linked.{Behind}
use Rattle.link.proofs.SetupLaws.{flavours}
use Rattle.link.proofs.TurnLaws.{idle_is, Turned, turn}
use Rattle.theorem.specs.History.{pool, other, Lent, Call, asks, lent_by, thread_of, lent, pool_after, called_of, Lends, Session, run_by, run, session}
use Rattle.theorem.specs.History.{jobs_after}
use Rattle.theorem.specs.GaveUp.{request_in, Leaves, GoesOn, GivesUp, Untouched}
use Rattle.theorem.proofs.OneCall.{to_T, gate_none, gate_in, gate_other, Goes, one_call}
use Rattle.theorem.proofs.Runs.{own_pool, call_places, SetUp, set_up, turned_away, setting_up}
use Rattle.theorem.proofs.Theorem.{reached, as_it_was}

-- ---- the code's stages of a push or a batch in which it has moved no job and written no cell

abbrev early_resize : CodeResize → Type 0
early_resize (Z.LoadBack c) = Unit
early_resize (Z.LoadFront c b) = Unit
early_resize (Z.Copy b i ring) = ⊥
early_resize (Z.Swap ring) = ⊥

abbrev early_push : CodePush → Type 0
early_push U.LoadBack = Unit
early_push (U.LoadFront b) = Unit
early_push (U.Resize b z) = early_resize z
early_push (U.Write b) = ⊥
early_push (U.StoreBack b) = ⊥

abbrev early_source : CodeSource → Type 0
early_source (F.LoadFront k others) = Unit
early_source (F.LoadBack k others f) = Unit
early_source (F.LoadRing w b) = ⊥
early_source (F.Take h at) = ⊥

abbrev early_reserve : CodeReserve → Type 0
early_reserve M.LoadBack = Unit
early_reserve (M.LoadFront b) = Unit
early_reserve (M.Resize z) = early_resize z

abbrev early_own : CodeOwn → Type 0
early_own (O.Reserve w at) = early_reserve at
early_own (O.LoadBack w) = ⊥
early_own (O.Put h at) = ⊥

abbrev early : CodeStage → Type 0
early G.Idle = ⊥
early (G.Push x at) = early_push at
early (G.Pop w at) = ⊥
early (G.Steal k at) = ⊥
early (G.Length k at) = ⊥
early (G.OwnBatch at) = ⊥
early (G.BatchSource k at) = early_source at
early (G.BatchOwn k at) = early_own at

-- what a step leaves of such an operation: a further such stage, or answer 8 or 9
abbrev still_early : CodeAnswer → CodeStage → Type 0
still_early B.Working x = early x
still_early B.Done x = ⊥
still_early (B.Job v) x = ⊥
still_early B.Nothing x = ⊥
still_early (B.Stolen s) x = ⊥
still_early B.Moved x = ⊥
still_early (B.Length d n) x = ⊥
still_early (B.GaveUp s) x = Unit
still_early (B.Refused r) x = ⊥

-- ---- they are the model's

module _ (R : ℕ → ℕ → Ring) (new : Ring) where
  resize_is : (z : ResizeStage) → early_resize (resize_at new z) ≡ EarlyResize z
  resize_is (resize_back c) = refl
  resize_is (resize_front c b) = refl
  resize_is (resize_copy c b i f) = refl
  resize_is (resize_swap c f) = refl

  push_is : (p : PushStage) → early_push (push_at new p) ≡ EarlyPush p
  push_is push_back = refl
  push_is (push_front b) = refl
  push_is (push_resize b z) = resize_is z
  push_is (push_write b) = refl
  push_is (push_store b) = refl

  source_is : (k : ℕ) (p : SourceStage) → early_source (source_at (R k) p) ≡ EarlySource p
  source_is k (source_front m others) = refl
  source_is k (source_back m others f) = refl
  source_is k (source_ring w b) = refl
  source_is k (source_first h) = refl
  source_is k (all_copy h i) = refl
  source_is k (all_reload h) = refl
  source_is k (all_exchange h) = refl
  source_is k (one_first h v) = refl
  source_is k (one_back h i) = refl
  source_is k (one_read h i) = refl
  source_is k (one_reload h i v) = refl
  source_is k (one_exchange h i v) = refl

  own_is : (k : ℕ) (p : OwnStage) → early_own (own_at (R k) new p) ≡ EarlyOwn p
  own_is k (reserve_back w) = refl
  own_is k (reserve_front w b) = refl
  own_is k (reserve_resize w z) = resize_is z
  own_is k (own_back w) = refl
  own_is k (all_write h i v) = refl
  own_is k (one_write h i v) = refl
  own_is k (swap_near h x) = refl
  own_is k (swap_far h x near) = refl
  own_is k (swap_put h x near far) = refl
  own_is k (swap_last h x near) = refl
  own_is k (own_store h) = refl

  early_is : (x : Stage) → early (stage_for R new x) ≡ Early x
  early_is idle = refl
  early_is (push x p) = push_is p
  early_is (fifo_pop w p) = refl
  early_is (lifo_pop w p) = refl
  early_is (shrink w v z) = refl
  early_is (steal k p) = refl
  early_is (len k p) = refl
  early_is (own_batch p) = refl
  early_is (source k p) = source_is k p
  early_is (own k p) = own_is k p

  still_is : (a : Answer) (x : Stage) → still_early (answer_for a) (stage_for R new x) → StillEarly a x
  still_is working x h = subst (λ (A : Type 0). A) (early_is x) h
  still_is done x h = h
  still_is (job by_pop v) x h = h
  still_is (job by_batch v) x h = h
  still_is (nothing by_pop) x h = h
  still_is (nothing by_batch) x h = h
  still_is empty x h = h
  still_is (success v) x h = h
  still_is retry x h = h
  still_is moved x h = h
  still_is (two_numbers b f) x h = h
  still_is too_large x h = tt
  still_is no_ring x h = tt

-- an answer of the model is no refusal
goes_on : (a : Answer) (x : CodeStage) → GoesOn Step (answer_for a) → early x → still_early (answer_for a) x
goes_on working x g h = h
goes_on done x g h = g
goes_on (job by_pop v) x g h = g
goes_on (job by_batch v) x g h = g
goes_on (nothing by_pop) x g h = g
goes_on (nothing by_batch) x g h = g
goes_on empty x g h = g
goes_on (success v) x g h = g
goes_on retry x g h = g
goes_on moved x g h = g
goes_on (two_numbers b f) x g h = g
goes_on too_large x g h = tt
goes_on no_ring x g h = tt

-- ---- a call of another thread leaves the thread's stage

step_elsewhere : (m : Machine) (cells : List ℕ) (u t : ℕ) → (t ≡ u → ⊥) → stage_at (step_of m cells u).called.machine t ≡ stage_at m t
unfolding step_of
step_elsewhere m cells u t d = go (then_gate (gate_of m (length cells) u) (step_tests (idle_b (stage_at m u))))
  where
    go : (g : Result Unit Refusal) → stage_at (passing g m cells (ran m cells u (stage_at m u))).called.machine t ≡ stage_at m t
    go (Ok x) = ap (λ x. x.stage) (get_or-set_other m.threads u t _ idle_thread d)
    go (Err r) = refl

begin_elsewhere : (m : Machine) (cells : List ℕ) (u t : ℕ) (o : CodeOperation) → (t ≡ u → ⊥)
    → stage_at (begin_of m cells u o).called.machine t ≡ stage_at m t
unfolding begin_of
begin_elsewhere m cells u t o d = go (then_gate (gate_of m (length cells) u) (begin_tests m.queue_count (idle_b (stage_at m u)) o))
  where
    go : (g : Result Unit Refusal) → stage_at (passing g m cells (H.begun m cells u o)).called.machine t ≡ stage_at m t
    go (Ok x) = ap (λ x. x.stage) (get_or-set_other m.threads u t _ idle_thread d)
    go (Err r) = refl

elsewhere : (m : Machine) (cells : List ℕ) (c : Call) (t : ℕ) → (t ≡ thread_of c → ⊥) → stage_at (called_of m cells c).called.machine t ≡ stage_at m t
unfolding called_of
elsewhere m cells (asks p u Step) t d = step_elsewhere m (lent p cells) u t d
elsewhere m cells (asks p u (Begin o)) t d = begin_elsewhere m (lent p cells) u t o d

-- ---- a begin leaves every queue and every cell, and one that does not answer Working leaves all

pub begin_leaves : (m : Machine) (cells : List ℕ) (t : ℕ) (o : CodeOperation) → Leaves m cells (begin_of m cells t o)
unfolding begin_of
begin_leaves m cells t o = go (then_gate (gate_of m (length cells) t) (begin_tests m.queue_count (idle_b (stage_at m t)) o))
  where
    go : (g : Result Unit Refusal) → Leaves m cells (passing g m cells (H.begun m cells t o))
    go (Ok x) = (λ k l. refl, refl)
    go (Err r) = (λ k l. refl, refl)

begin_stays : (m : Machine) (cells : List ℕ) (t : ℕ) (o : CodeOperation) → GoesOn (Begin o) (begin_of m cells t o).called.answer
    → (begin_of m cells t o).called.machine ≡ m
unfolding begin_of
begin_stays m cells t o = go (then_gate (gate_of m (length cells) t) (begin_tests m.queue_count (idle_b (stage_at m t)) o))
  where
    go : (g : Result Unit Refusal) → GoesOn (Begin o) (passing g m cells (H.begun m cells t o)).called.answer → (passing g m cells (H.begun m cells t o)).called.machine ≡ m
    go (Ok x) h = absurd h
    go (Err r) h = refl

-- ---- a call of the thread

module _ (n : ℕ) (fl : ℕ → Flavour) (jobs : ℕ → ℕ) (c : ℕ) (lc : c < 2 ^ 62) (m : Machine) (cells : List ℕ) (b : Behind n fl jobs c m cells) (t : ℕ) where
  abbrev s : State
  s = b.state

  -- a call that leads to an early stage, or to answer 8 or 9, comes from an early stage and leaves queues and cells
  abbrev Back : List ℕ → After → Type 0
  Back l a = early (stage_at m t) × Leaves m l a

  abbrev Ends : Request → After → Type 0
  Ends r a = GoesOn r a.called.answer × early (stage_at a.called.machine t)

  abbrev GoesBack : After → Type 0
  GoesBack a = (still_early a.called.answer (stage_at a.called.machine t) → Back cells a) × (Ends Step a → Back cells a)

  refused_back : (r : Refusal) → GoesBack (refused m r cells)
  refused_back r = (λ h. absurd h, λ h. (h.1, (λ k l. refl, refl)))

  made_back : (lt : t < n) → busy (s.stages t) ≡ true → GoesBack (step_of m cells t)
  made_back lt f =
      let bx : T (busy (s.stages t)) = to_T (busy (s.stages t)) f in
      let k : Turned n fl s m cells jobs b.inv c b.bounded lc t lt bx = turn n fl s m cells jobs b.inv c b.bounded lc t lt bx b.names b.linked in
      let q : Queue = s.queues (touched t (s.stages t)) in
      let g : Offer = offer_for k.claim (s.stages t) q in
      let o : Out = step_at g fl t (s.stages t) q in
      let W : Ring = b.names t (s.queues t).top in
      let now : stage_at k.machine t ≡ stage_for k.names _ o.stage =
      k.linked.stages t lt ∙ ap (stage_for k.names _) (upd_same s.stages t o.stage t refl) in
      let back : still_early (answer_for o.answer) (stage_at k.machine t) → Back cells (step_of m cells t) = λ h.
      (let u = gave_up g fl t (s.stages t) q bx (still_is k.names _ o.answer o.stage (subst (still_early (answer_for o.answer)) now h)) in
      let w = k.unchanged u.1 u.2 in (
        rw (b.linked.stages t lt) (subst (λ (A : Type 0). A) (sym (early_is b.names W (s.stages t))) u.0),
        subst (Leaves m cells) (sym k.step) (λ j l. w.1 j (subst (λ (i : ℕ). j < i) b.linked.count l), w.0),
      )) in
      subst (λ (a : After). (still_early a.called.answer (stage_at a.called.machine t) → Back cells (step_of m cells t))
      × (Ends Step a → Back cells (step_of m cells t))) (sym k.step)
      (back, λ h. back (goes_on o.answer (stage_at k.machine t) h.0 h.1))

  none_there : n ≤ t → step_of m cells t ≡ refused m K.NoSuch cells
  unfolding step_of
  none_there h = rw (gate_none n fl jobs c lc m cells b t h)

  idle_there : t < n → busy (s.stages t) ≡ false → step_of m cells t ≡ refused m K.Idle cells
  unfolding step_of
  idle_there lt f =
      rw (
        gate_in n fl jobs c lc m cells b t lt,
        b.linked.stages t lt,
        idle_is b.names (b.names t (s.queues t).top) (s.stages t),
        f,
      )

  step_back : GoesBack (step_of m cells t)
  step_back =
      ⊎_elim (λ h. subst GoesBack (sym (none_there h)) (refused_back K.NoSuch)) (λ h. go h (busy (s.stages t)) refl) (le_or_lt n t)
    where
      go : (lt : t < n) (y : Bool) → busy (s.stages t) ≡ y → GoesBack (step_of m cells t)
      go lt true f = made_back lt f
      go lt false f = subst GoesBack (sym (idle_there lt f)) (refused_back K.Idle)

  -- over another list every step is refused
  other_there : (l : List ℕ) → (length l ≡ m.place_count * place_cells → ⊥) → step_of m l t ≡ refused m K.PoolLength l
  unfolding step_of
  other_there l h = rw (gate_other n fl jobs c lc m cells b l t h)

  call_back : (p : Lent) (r : Request) → ((l : List ℕ) → p ≡ other l → length l ≡ m.place_count * place_cells → ⊥)
      → Ends r (called_of m cells (asks p t r)) → Back (lent p cells) (called_of m cells (asks p t r))
  unfolding called_of
  call_back p (Begin o) h e =
      (subst (λ (x : Machine). early (stage_at x t)) (begin_stays m (lent p cells) t o e.0) e.1, begin_leaves m (lent p cells) t o)
  call_back pool Step h e = step_back.1 e
  call_back (other l) Step h e =
      let is = other_there l (h l refl) in
      (subst (λ (a : After). early (stage_at a.called.machine t)) is e.1, subst (Leaves m l) (sym is) (λ k x. refl, refl))

-- ---- all calls

module _ (n : ℕ) (fl : ℕ → Flavour) (places t : ℕ) where
  backwards : (jobs : ℕ → ℕ) (c : ℕ) (m : Machine) (cells : List ℕ) (b : Behind n fl jobs c m cells) (cs : List Call) → c + length cs < 2 ^ 62
      → m.place_count ≡ places → Lends places cs → GivesUp t m cells cs → early (stage_at m t) × Untouched t m cells cs
  unfolding GivesUp Untouched Lends
  backwards jobs c m cells b [] l e h g =
      (step_back n fl jobs c (omega arith) m cells b t).0 (subst (λ (a : CodeAnswer). still_early a (stage_at (step_of m cells t).called.machine t)) (sym g.1) tt)
  backwards jobs c m cells b (x ∷ cs) l e h g =
      let a : After = called_of m cells x in
      let k : Goes n fl jobs c lc m cells b x a = one_call n fl jobs c lc m cells b x lends in
      let ih = backwards (jobs_after jobs x a.called.answer) (suc c) a.called.machine (pool_after (lent_by x) cells a.cells) k.behind cs (omega arith)
      (call_places m cells x ∙ e) h.1 g.1 in
      let w = go x lends g.0 ih.0 (ℕ_discrete t (thread_of x)) in (w.0, (w.1, ih.1))
    where
      lc : c < 2 ^ 62
      lc = omega arith

      lends : (l : List ℕ) → lent_by x ≡ other l → length l ≡ m.place_count * place_cells → ⊥
      lends p q r = h.0 p q (r ∙ ap (λ (i : ℕ). i * place_cells) e)

      Own : Call → Type 0
      Own x = early (stage_at m t) × (thread_of x ≡ t → Leaves m (lent (lent_by x) cells) (called_of m cells x))

      Soon : Call → Type 0
      Soon x =
          (thread_of x ≡ t → GoesOn (request_in x) (called_of m cells x).called.answer) → early (stage_at (called_of m cells x).called.machine t) → Own x

      go : (x : Call) → ((l : List ℕ) → lent_by x ≡ other l → length l ≡ m.place_count * place_cells → ⊥)
          → (thread_of x ≡ t → GoesOn (request_in x) (called_of m cells x).called.answer) → early (stage_at (called_of m cells x).called.machine t)
          → Dec (t ≡ thread_of x) → Own x
      go x other_lists on soon (no d) = (subst early (elsewhere m cells x t d) soon, λ q. absurd (d (sym q)))
      go (asks p u r) other_lists on soon (yes q) =
          subst (λ (u : ℕ). Soon (asks p u r)) q
          (λ on soon. (let w = call_back n fl jobs c lc m cells b t p r other_lists (on refl, soon) in (w.0, λ z. w.1))) on soon

-- ---- in a session

run_places : (m : Machine) (cells : List ℕ) (cs : List Call) → (run m cells cs).machine.place_count ≡ m.place_count
unfolding run_by
run_places m cells [] = refl
run_places m cells (x ∷ cs) =
    let a : After = called_of m cells x in run_places a.called.machine (pool_after (lent_by x) cells a.cells) cs ∙ call_places m cells x

module _ (k : ℕ) (flavors : List Flavor) (n : ℕ) (cells : List ℕ) (calls : List Call) (few : length calls < 2 ^ 62) (lends : Lends n calls) where
  abbrev now : Session
  now = session k flavors n cells calls

  abbrev begun : ℕ → CodeOperation → After
  begun t o = begin_of now.machine now.cells t o

  abbrev NothingMoved : ℕ → CodeOperation → List Call → Type 0
  NothingMoved t o cs = Leaves now.machine now.cells (begun t o) × Untouched t (begun t o).called.machine (begun t o).cells cs

  no_begin : (t : ℕ) (o : CodeOperation) → now.machine ≡ zero_machine → (begun t o).called.answer ≡ B.Working → ⊥
  unfolding begin_of gate_of sound_b
  no_begin t o e w =
      let z : B.Refused K.Unsound ≡ B.Working = subst (λ (m : Machine). (begin_of m now.cells t o).called.answer ≡ B.Working) e w in
      let y : ◌≡◌ {A = ℕ} 0 1 = cc in omega arith

  -- an operation that thread t begins then, and that answers 8 or 9 after these calls, its own and others': each of the thread's calls, from the begin to
  -- that answer, has left every queue and every cell as it was
  pub gave_up_untouched : (t : ℕ) (o : CodeOperation) (cs : List Call) → suc (length calls) + length cs < 2 ^ 62 → Lends n cs
      → (begun t o).called.answer ≡ B.Working → GivesUp t (begun t o).called.machine (begun t o).cells cs → NothingMoved t o cs
  unfolding called_of
  gave_up_untouched t o cs l h w g = go (setting_up k flavors n cells)
    where
      go : SetUp k flavors n cells → NothingMoved t o cs
      go (turned_away r is) = absurd (no_begin t o (as_it_was k flavors n cells calls few lends r is).machine w)
      go (set_up start) =
          let b = reached k flavors n cells calls few lends start in
          let x : Call = asks pool t (Begin o) in
          let c = one_call k (flavours flavors) b.0 (length calls) few now.machine now.cells b.1 x (λ y e z. absurd (own_pool y e)) in
          let places : now.machine.place_count ≡ n =
          run_places (setup_of k flavors n cells).called.machine (setup_of k flavors n cells).cells calls ∙ ap (λ (a : After). a.called.machine.place_count) start.is in (
            begin_leaves now.machine now.cells t o,
            (backwards k (flavours flavors) n t _ (suc (length calls)) (begun t o).called.machine (begun t o).cells c.behind cs l
                (call_places now.machine now.cells x ∙ places) h g).1,
          )
