-- One call: a state of the model stands behind the machine after it too, and the jobs balance.
use Rattle.std.proofs.Common.{◌≡◌, ℕ, suc, ◌+◌, ◌*◌, ◌^◌, ◌<◌, ◌≤◌, Bool, true, false, not, T, List, length, sym, refl, ap, ◌∙◌, subst, ⊎_elim, arith, le-ltb, eq-eqb, ne_eqb, Ok, Err}
use Rattle.base.specs.Tests.{le_or_lt}
use Rattle.cells.specs.Cells.{place_cells}
use Rattle.parts.specs.declared.answer.Answer.TheVariants as B
use Rattle.parts.specs.declared.answer.Refusal.{Refusal}
use Rattle.parts.specs.declared.answer.Refusal.TheVariants as K
use Rattle.stages.specs.Stages.{idle_b}
use Rattle.gate.specs.declared.Operation.{Operation as CodeOperation}
use Rattle.gate.specs.declared.Operation.TheVariants as O
use Rattle.gate.specs.declared.Request.TheVariants.{Step, Begin}
use Rattle.machine.specs.declared.state.Machine.{Machine}
use Rattle.machine.specs.State.{After, refused, stage_at}
use Rattle.machine.specs.Sound.{sound_b}
use Rattle.machine.specs.Step.{gate_of, step_of}
use Rattle.gate.specs.Gate.{names_b, limit_b, begin_tests}
use Rattle.machine.specs.Begin.{begin_of}
use Rattle.model.specs.Stage.{Flavour, job, own, by_pop, by_batch, source, Stage, idle, push, fifo_pop, lifo_pop, shrink, steal, len, own_batch, Answer}
use Rattle.model.specs.Stage.{working, done, nothing, empty, success, retry, moved, two_numbers, too_large, no_ring}
use Rattle.model.specs.Tables.{Offer}
use Rattle.model.specs.Machine.{State, touched, busy, step_out, stepped, begun, wish}
use Rattle.model.specs.Logical.{accepts, gives}
use Rattle.model.specs.Invariant.{total, Kept}
use Rattle.model.proofs.Calls.{step_kept, begin_kept}
use Rattle.model.proofs.Indices.{still, step_bounded, begin_bounded}
use Rattle.link.specs.Map.{answer_for, offer_for, operation_of}
use Rattle.link.specs.Linked.{Linked, Behind}
use Rattle.link.proofs.AgreeResize.{true_false}
use Rattle.link.proofs.SoundLaws.{linked_sound}
use Rattle.link.proofs.TurnLaws.{idle_is, small, gate_open, Turned, turn}
use Rattle.link.proofs.BeginLaws.{exists, begin_is, begin_linked}
use Rattle.theorem.specs.History.{pool, other, Lent, Call, asks, lent_by, thread_of, lent, pool_after, called_of, accepted_by, answered_by}
use Rattle.theorem.specs.History.{wished, jobs_after, Allowed}

-- ---- the model's answers and the code's

accepts_is : (m : ℕ) (a : Answer) (j : ℕ) → accepted_by m (answer_for a) j ≡ accepts m a j
accepts_is m working j = refl
accepts_is m done j = refl
accepts_is m (job by_pop v) j = refl
accepts_is m (job by_batch v) j = refl
accepts_is m (nothing by_pop) j = refl
accepts_is m (nothing by_batch) j = refl
accepts_is m empty j = refl
accepts_is m (success v) j = refl
accepts_is m retry j = refl
accepts_is m moved j = refl
accepts_is m (two_numbers b f) j = refl
accepts_is m too_large j = refl
accepts_is m no_ring j = refl

gives_is : (a : Answer) (j : ℕ) → answered_by (answer_for a) j ≡ gives a j
gives_is working j = refl
gives_is done j = refl
gives_is (job by_pop v) j = refl
gives_is (job by_batch v) j = refl
gives_is (nothing by_pop) j = refl
gives_is (nothing by_batch) j = refl
gives_is empty j = refl
gives_is (success v) j = refl
gives_is retry j = refl
gives_is moved j = refl
gives_is (two_numbers b f) j = refl
gives_is too_large j = refl
gives_is no_ring j = refl

allowed_is : (a : Answer) → Allowed pool (answer_for a)
allowed_is working = tt
allowed_is done = tt
allowed_is (job by_pop v) = tt
allowed_is (job by_batch v) = tt
allowed_is (nothing by_pop) = tt
allowed_is (nothing by_batch) = tt
allowed_is empty = tt
allowed_is (success v) = tt
allowed_is retry = tt
allowed_is moved = tt
allowed_is (two_numbers b f) = tt
allowed_is too_large = tt
allowed_is no_ring = tt

wish_is : (mem : ℕ → ℕ) (t : ℕ) (o : CodeOperation) → wished mem t o ≡ wish mem t (operation_of o)
wish_is mem t (O.Push v) = refl
wish_is mem t O.Pop = refl
wish_is mem t (O.Length k) = refl
wish_is mem t (O.Steal k) = refl
wish_is mem t (O.Batch k limit) = refl
wish_is mem t (O.BatchAndPop k limit) = refl

pub idle_of : (x : Stage) → busy x ≡ false → x ≡ idle
idle_of idle h = refl
idle_of (push x p) h = absurd (true_false h)
idle_of (fifo_pop w p) h = absurd (true_false h)
idle_of (lifo_pop w p) h = absurd (true_false h)
idle_of (shrink w v x) h = absurd (true_false h)
idle_of (steal k p) h = absurd (true_false h)
idle_of (len k p) h = absurd (true_false h)
idle_of (own_batch p) h = absurd (true_false h)
idle_of (source k p) h = absurd (true_false h)
idle_of (own k p) h = absurd (true_false h)

pub to_T : (b : Bool) → b ≡ true → T b
to_T true e = tt
to_T false e = absurd (true_false (sym e))

module _ (n : ℕ) (fl : ℕ → Flavour) (mem : ℕ → ℕ) (c : ℕ) (lc : c < 2 ^ 62) (m : Machine) (cells : List ℕ) (b : Behind n fl mem c m cells) where
  -- what a call that leaves a keeps
  pub record Goes (call : Call) (a : After) : Type 0 where
    pub behind : Behind n fl (jobs_after mem call a.called.answer) (suc c) a.called.machine (pool_after (lent_by call) cells a.cells)
    pub bal : (j : ℕ) → accepted_by (mem (thread_of call)) a.called.answer j + total n fl b.state j ≡ answered_by a.called.answer j + total n fl behind.state j
    pub fine : Allowed (lent_by call) a.called.answer

  abbrev s : State
  s = b.state

  later : Behind n fl mem (suc c) m cells
  later = record { names = b.names; state = s; linked = b.linked; inv = b.inv; bounded = still n fl c s b.bounded }

  pub call_sound : sound_b m ≡ true
  call_sound = linked_sound n fl b.names s m cells b.linked mem b.inv (small n fl s m cells mem b.inv c b.bounded lc)

  -- ---- refused: all as it was

  begin_refused : (p : Lent) (t : ℕ) (o : CodeOperation) (r : Refusal) → Allowed p (B.Refused r) → Goes (asks p t (Begin o)) (refused m r (lent p cells))
  unfolding later
  begin_refused pool t o r h = record { behind = later; bal = λ j. refl; fine = h }
  begin_refused (other l) t o r h = record { behind = later; bal = λ j. refl; fine = h }

  step_refused : (p : Lent) (t : ℕ) (r : Refusal) → Allowed p (B.Refused r) → Goes (asks p t Step) (refused m r (lent p cells))
  unfolding later
  step_refused pool t r h = record { behind = later; bal = λ j. refl; fine = h }
  step_refused (other l) t r h = record { behind = later; bal = λ j. refl; fine = h }

  -- no such thread
  pub gate_none : (t : ℕ) → n ≤ t → gate_of m (length cells) t ≡ Err K.NoSuch
  unfolding gate_of
  gate_none t h =
      let w = b.linked in
      rw (call_sound, eq-eqb (length cells) (m.place_count * place_cells) w.pool_length, w.count, le-ltb t n h)

  -- a pool of another length
  pub gate_other : (l : List ℕ) (t : ℕ) → (length l ≡ m.place_count * place_cells → ⊥) → gate_of m (length l) t ≡ Err K.PoolLength
  unfolding gate_of
  gate_other l t h = rw (call_sound, ne_eqb (length l) (m.place_count * place_cells) h)

  pub gate_in : (t : ℕ) → t < n → gate_of m (length cells) t ≡ Ok tt
  gate_in t lt = gate_open n fl s m cells mem b.inv c b.bounded lc b.names b.linked t lt

  -- ---- begin

  begins : (t : ℕ) (o : CodeOperation) → t < n → s.stages t ≡ idle → names_b n o ≡ true → limit_b o ≡ true
      → Goes (asks pool t (Begin o)) (begin_of m cells t o)
  begins t o lt i e h =
      subst (Goes (asks pool t (Begin o))) (sym (begin_is n fl b.names s m cells b.linked mem b.inv c b.bounded lc t lt o i e h)) record {
        behind = record {
          names = b.names;
          state = begun fl s t (operation_of o);
          linked = begin_linked n fl b.names s m cells b.linked mem b.inv c b.bounded lc t lt o i;
          inv = rw (wish_is mem t o) k.inv;
          bounded = begin_bounded n fl c s t (operation_of o) b.bounded;
        };
        bal = λ j. k.bal j;
        fine = tt;
      }
    where
      k : Kept n fl 0 (wish mem t (operation_of o)) s (begun fl s t (operation_of o)) working
      k = begin_kept n fl 0 mem s t (operation_of o) b.inv lt i (exists n o e)

  begin_shut : (t : ℕ) (o : CodeOperation) (r : Refusal) → t < n → begin_tests m.queue_count (idle_b (stage_at m t)) o ≡ Err r
      → begin_of m cells t o ≡ refused m r cells
  unfolding begin_of
  begin_shut t o r lt e = rw (gate_in t lt, e)

  begin_in : (t : ℕ) (o : CodeOperation) → t < n → Goes (asks pool t (Begin o)) (begin_of m cells t o)
  begin_in t o lt = go (names_b m.queue_count o) refl (busy (s.stages t)) refl (limit_b o) refl
    where
      w : Linked n fl b.names s m cells
      w = b.linked

      idles : idle_b (stage_at m t) ≡ not (busy (s.stages t))
      idles = ap idle_b (w.stages t lt) ∙ idle_is b.names (b.names t (s.queues t).top) (s.stages t)

      shut : (r : Refusal) → Allowed pool (B.Refused r) → begin_tests m.queue_count (idle_b (stage_at m t)) o ≡ Err r
          → Goes (asks pool t (Begin o)) (begin_of m cells t o)
      shut r h e = subst (Goes (asks pool t (Begin o))) (sym (begin_shut t o r lt e)) (begin_refused pool t o r h)

      go : (x : Bool) → names_b m.queue_count o ≡ x → (y : Bool) → busy (s.stages t) ≡ y → (z : Bool) → limit_b o ≡ z
          → Goes (asks pool t (Begin o)) (begin_of m cells t o)
      go false e y f z h = shut K.NoSuch tt (rw e)
      go true e true f z h = shut K.Busy tt (rw (e, idles, f))
      go true e false f false h = shut K.NoLimit tt (rw (e, idles, f, h))
      go true e false f true h = begins t o lt (idle_of (s.stages t) f) (ap (λ (k : ℕ). names_b k o) (sym w.count) ∙ e) h

  begin_own : (t : ℕ) (o : CodeOperation) → Goes (asks pool t (Begin o)) (begin_of m cells t o)
  unfolding begin_of
  begin_own t o = ⊎_elim (λ h. rw (gate_none t h) (begin_refused pool t o K.NoSuch tt)) (λ h. begin_in t o h) (le_or_lt n t)

  begin_other : (l : List ℕ) (t : ℕ) (o : CodeOperation) → (length l ≡ m.place_count * place_cells → ⊥)
      → Goes (asks (other l) t (Begin o)) (begin_of m l t o)
  unfolding begin_of
  begin_other l t o h = rw (gate_other l t h) (begin_refused (other l) t o K.PoolLength refl)

  -- ---- step

  steps : (t : ℕ) → t < n → busy (s.stages t) ≡ true → Goes (asks pool t Step) (step_of m cells t)
  steps t lt e =
      let k : Turned n fl s m cells mem b.inv c b.bounded lc t lt bx = turn n fl s m cells mem b.inv c b.bounded lc t lt bx b.names b.linked in
      let g : Offer = offer_for k.claim (s.stages t) (s.queues (touched t (s.stages t))) in
      let kept = step_kept n fl mem s t g b.inv lt bx in
      let a = (step_out fl s t g (s.stages t)).answer in
      subst (Goes (asks pool t Step)) (sym k.step) record {
        behind = record {
          names = k.names;
          state = stepped fl s t g (s.stages t);
          linked = k.linked;
          inv = kept.inv;
          bounded = step_bounded n fl c mem s t g b.inv b.bounded lt bx;
        };
        bal = λ j. omega (arith, kept.bal j, accepts_is (mem t) a j, gives_is a j);
        fine = allowed_is a;
      }
    where
      bx : T (busy (s.stages t))
      bx = to_T (busy (s.stages t)) e

  step_in : (t : ℕ) → t < n → Goes (asks pool t Step) (step_of m cells t)
  unfolding step_of
  step_in t lt = go (busy (s.stages t)) refl
    where
      w : Linked n fl b.names s m cells
      w = b.linked

      go : (y : Bool) → busy (s.stages t) ≡ y → Goes (asks pool t Step) (step_of m cells t)
      go true f = steps t lt f
      go false f =
          rw (gate_in t lt, w.stages t lt, idle_is b.names (b.names t (s.queues t).top) (s.stages t), f) (step_refused pool t K.Idle tt)

  step_own : (t : ℕ) → Goes (asks pool t Step) (step_of m cells t)
  unfolding step_of
  step_own t = ⊎_elim (λ h. rw (gate_none t h) (step_refused pool t K.NoSuch tt)) (λ h. step_in t h) (le_or_lt n t)

  step_other : (l : List ℕ) (t : ℕ) → (length l ≡ m.place_count * place_cells → ⊥) → Goes (asks (other l) t Step) (step_of m l t)
  unfolding step_of
  step_other l t h = rw (gate_other l t h) (step_refused (other l) t K.PoolLength refl)

  -- ---- any call

  pub one_call : (call : Call) → ((l : List ℕ) → lent_by call ≡ other l → length l ≡ m.place_count * place_cells → ⊥)
      → Goes call (called_of m cells call)
  unfolding called_of
  one_call (asks pool t (Begin o)) h = begin_own t o
  one_call (asks (other l) t (Begin o)) h = begin_other l t o (h l refl)
  one_call (asks pool t Step) h = step_own t
  one_call (asks (other l) t Step) h = step_other l t (h l refl)
