-- Whole sessions: the induction over the calls, and what stands in the queues at rest.
use Rattle.std.proofs.Common.{◌≡◌, ℕ, zero, suc, ◌+◌, ◌-◌, ◌*◌, ◌^◌, ◌<◌, Bool, true, false, not, eqb, List, [], ◌∷◌, length, sym, refl, ap, ◌∙◌, subst, ⊎_elim, arith, eqb-true, Result, Ok, Err, Some, None}
use Rattle.base.specs.Tests.{le_or_lt}
use Rattle.index.specs.Index.{plus_of}
use Rattle.index.proofs.Laws.{plus_is, length_is}
use Rattle.cells.specs.Cells.{place_cells, read_of}
use Rattle.parts.specs.declared.queue.Flavor.{Flavor}
use Rattle.parts.specs.declared.answer.Answer.TheVariants as B
use Rattle.parts.specs.declared.answer.Refusal.{Refusal}
use Rattle.parts.specs.declared.answer.Refusal.TheVariants as K
use Rattle.stages.specs.Stages.{idle_b}
use Rattle.sound.specs.Sound.{counts_b}
use Rattle.gate.specs.declared.Operation.{Operation as CodeOperation}
use Rattle.gate.specs.declared.Request.TheVariants.{Step, Begin}
use Rattle.machine.specs.declared.state.Machine.{Machine}
use Rattle.machine.specs.State.{After, after, refused, queue_at, stage_at, counted}
use Rattle.machine.specs.Setup.{zero_machine, fresh_machine, setup_of}
use Rattle.machine.specs.Claim.{claim_of}
use Rattle.gate.specs.Gate.{begin_tests, step_tests, then_gate}
use Rattle.machine.specs.Step.{gate_of, passing, ran, step_of}
use Rattle.machine.specs.Begin.{begin_of}
use Rattle.machine.specs.Begin as H
use Rattle.model.specs.Count.{stand}
use Rattle.model.specs.Stage.{Flavour, Queue, at, idle}
use Rattle.model.specs.Machine.{busy}
use Rattle.model.specs.Invariant.{amount_at, total}
use Rattle.model.specs.Bound.{Bounded}
use Rattle.model.proofs.CountLaws.{stand_empty, stand_back, stand_cong, sum_cong}
use Rattle.link.specs.Map.{ix}
use Rattle.link.specs.Linked.{Behind}
use Rattle.link.proofs.LinkedLaws.{fits}
use Rattle.link.proofs.TurnLaws.{idle_is}
use Rattle.theorem.specs.History.{pool, answered, other, Lent, Call, asks, lent_by, lent, pool_after, called_of, Lends, run_by, run, jobs_after, accepted_from}
use Rattle.theorem.specs.History.{stands_in, standing, AtRest, AllAllowed}
use Rattle.theorem.proofs.OneCall.{idle_of, Goes, one_call}
use Rattle.parts.specs.Out.{Claim as CodeClaim}

-- the session's pool is no other list
pub own_pool : (l : List ℕ) → pool ≡ other l → ⊥
own_pool l e = subst (λ (x : Lent). is_pool x) e tt
  where
    is_pool : Lent → Type 0
    is_pool pool = Unit
    is_pool (other l) = ⊥

-- ---- the place count stays

counted_places : (m : Machine) (g : CodeClaim) → (counted m g).place_count ≡ m.place_count
counted_places m None = refl
counted_places m (Some r) = refl

step_places : (m : Machine) (cells : List ℕ) (t : ℕ) → (step_of m cells t).called.machine.place_count ≡ m.place_count
unfolding step_of
step_places m cells t = go (then_gate (gate_of m (length cells) t) (step_tests (idle_b (stage_at m t))))
  where
    go : (g : Result Unit Refusal) → (passing g m cells (ran m cells t (stage_at m t))).called.machine.place_count ≡ m.place_count
    go (Ok x) = counted_places m (claim_of m (stage_at m t))
    go (Err r) = refl

begin_places : (m : Machine) (cells : List ℕ) (t : ℕ) (o : CodeOperation) → (begin_of m cells t o).called.machine.place_count ≡ m.place_count
unfolding begin_of
begin_places m cells t o = go (then_gate (gate_of m (length cells) t) (begin_tests m.queue_count (idle_b (stage_at m t)) o))
  where
    go : (g : Result Unit Refusal) → (passing g m cells (H.begun m cells t o)).called.machine.place_count ≡ m.place_count
    go (Ok x) = refl
    go (Err r) = refl

pub call_places : (m : Machine) (cells : List ℕ) (c : Call) → (called_of m cells c).called.machine.place_count ≡ m.place_count
unfolding called_of
call_places m cells (asks p t (Begin o)) = begin_places m (lent p cells) t o
call_places m cells (asks p t Step) = step_places m (lent p cells) t

-- ---- a run

module _ (n : ℕ) (fl : ℕ → Flavour) (places : ℕ) where
  -- what a list of calls leaves, from a machine behind which a state of the model stands
  pub record Ran (jobs : ℕ → ℕ) (c : ℕ) (m : Machine) (cells : List ℕ) (b : Behind n fl jobs c m cells) (calls : List Call) : Type 0 where
    pub jobs_now : ℕ → ℕ
    pub behind : Behind n fl jobs_now (c + length calls) (run m cells calls).machine (run m cells calls).cells
    pub bal : (j : ℕ)
        → accepted_from jobs (run m cells calls).history j + total n fl b.state j ≡ answered (run m cells calls).history j + total n fl behind.state j
    pub fine : AllAllowed (run m cells calls).history

  pub run_goes : (jobs : ℕ → ℕ) (c : ℕ) (m : Machine) (cells : List ℕ) (b : Behind n fl jobs c m cells) (calls : List Call)
      → c + length calls < 2 ^ 62
      → m.place_count ≡ places → Lends places calls → Ran jobs c m cells b calls
  unfolding run_by accepted_from answered AllAllowed Lends
  run_goes jobs c m cells b [] l e h = record {
    jobs_now = jobs;
    behind = record {
      names = b.names;
      state = b.state;
      linked = b.linked;
      inv = b.inv;
      bounded = record { backs = λ k u. omega (arith, b.bounded.backs k u); fronts = λ t u. omega (arith, b.bounded.fronts t u) };
    };
    bal = λ j. refl;
    fine = tt;
  }
  run_goes jobs c m cells b (x ∷ calls) l e h =
      let a : After = called_of m cells x in
      let k : Goes n fl jobs c lc m cells b x a = one_call n fl jobs c lc m cells b x (λ p q r. h.0 p q (r ∙ ap (λ (i : ℕ). i * place_cells) e)) in
      let r = run_goes (jobs_after jobs x a.called.answer) (suc c) a.called.machine (pool_after (lent_by x) cells a.cells) k.behind calls (omega arith)
      (call_places m cells x ∙ e) h.1 in
      let s : suc c + length calls ≡ c + suc (length calls) = omega arith in
      record {
        jobs_now = r.jobs_now;
        behind = record {
          names = r.behind.names;
          state = r.behind.state;
          linked = r.behind.linked;
          inv = r.behind.inv;
          bounded = subst (λ (i : ℕ). Bounded n i r.behind.state) s r.behind.bounded;
        };
        bal = λ j. omega (arith, k.bal j, r.bal j);
        fine = (k.fine, r.fine);
      }
    where
      lc : c < 2 ^ 62
      lc = omega arith

-- ---- setup

pub record Started (k : ℕ) (flavors : List Flavor) (n : ℕ) (cells : List ℕ) : Type 0 where
  pub counts : counts_b k n ≡ true
  pub pool_length : length cells ≡ n * place_cells
  pub is : setup_of k flavors n cells ≡ after (fresh_machine k flavors n) B.Done cells

pub data SetUp (k : ℕ) (flavors : List Flavor) (n : ℕ) (cells : List ℕ) : Type 0 where
  set_up : Started k flavors n cells → SetUp k flavors n cells
  turned_away : (r : Refusal) → setup_of k flavors n cells ≡ refused zero_machine r cells → SetUp k flavors n cells

pub setting_up : (k : ℕ) (flavors : List Flavor) (n : ℕ) (cells : List ℕ) → SetUp k flavors n cells
unfolding setup_of
setting_up k flavors n cells = go (counts_b k n) refl (eqb (length cells) (n * place_cells)) refl
  where
    go : (x : Bool) → counts_b k n ≡ x → (y : Bool) → eqb (length cells) (n * place_cells) ≡ y → SetUp k flavors n cells
    go true e true f = set_up (record { counts = e; pool_length = eqb-true (length cells) (n * place_cells) f; is = rw (e, f) })
    go true e false f = turned_away K.PoolLength (rw (e, f))
    go false e y f = turned_away K.Counts (rw e)

-- a setup writes no cell
pub setup_cells : (k : ℕ) (flavors : List Flavor) (n : ℕ) (cells : List ℕ) → (setup_of k flavors n cells).cells ≡ cells
setup_cells k flavors n cells = go (setting_up k flavors n cells)
  where
    go : SetUp k flavors n cells → (setup_of k flavors n cells).cells ≡ cells
    go (set_up start) = ap (λ (a : After). a.cells) start.is
    go (turned_away r is) = ap (λ (a : After). a.cells) is

-- ---- what stands in the queues at rest

shifted : (c : ℕ → ℕ) (a n j : ℕ) → stand (λ (i : ℕ). c (a + i)) 0 n j ≡ stand c a (a + n) j
shifted c a zero j = stand_empty (λ (i : ℕ). c (a + i)) 0 0 j (omega arith) ∙ sym (stand_empty c a (a + 0) j (omega arith))
shifted c a (suc n) j =
    let e : a + suc n ≡ suc (a + n) = omega arith in
    rw e (omega (arith, stand_back (λ (i : ℕ). c (a + i)) 0 n j (omega arith), stand_back c a (a + n) j (omega arith), shifted c a n j))

module _ (n : ℕ) (fl : ℕ → Flavour) (jobs : ℕ → ℕ) (c : ℕ) (lc : c < 2 ^ 62) (m : Machine) (cells : List ℕ) (b : Behind n fl jobs c m cells) where
  stands_is : (k : ℕ) → k < n → (j : ℕ)
      → stands_in cells (queue_at m k) j ≡ stand (at (b.state.queues k)) (b.state.queues k).front (b.state.queues k).back j
  stands_is k l j =
      let q : Queue = b.state.queues k in
      let w = fits n fl b.names b.state m cells b.linked jobs b.inv c b.bounded lc k l in
      let sf = w.front in
      let sb = w.back in
      rw (b.linked.queues k l, length_is q.back q.front (omega arith) (omega arith))
      (stand_cong (λ (i : ℕ). read_of cells (b.names k q.ring) (plus_of (ix q.front) i)) (λ (i : ℕ). at q (q.front + i)) 0 (q.back - q.front) j
      (λ i x y. ap (read_of cells (b.names k q.ring)) (plus_is q.front i (omega arith)) ∙ w.reads (q.front + i))
      ∙ shifted (at q) q.front (q.back - q.front) j ∙ to q.front q.back (at q))
    where
      to : (f e : ℕ) (a : ℕ → ℕ) → stand a f (f + (e - f)) j ≡ stand a f e j
      to f e a = ⊎_elim (λ h. (let z : f + (e - f) ≡ e = omega arith in rw z))
          (λ h. stand_empty a f (f + (e - f)) j (omega arith) ∙ sym (stand_empty a f e j (omega arith))) (le_or_lt f e)

  rests : AtRest m → (t : ℕ) → t < n → b.state.stages t ≡ idle
  rests h t l =
      idle_of (b.state.stages t)
      (flip (busy (b.state.stages t))
      (sym (idle_is b.names (b.names t (b.state.queues t).top) (b.state.stages t)) ∙ ap idle_b (sym (b.linked.stages t l)) ∙ ap idle_b (h t (rw b.linked.count l))))
    where
      flip : (x : Bool) → not x ≡ true → x ≡ false
      flip true e = sym e
      flip false e = refl

  pub standing_is : AtRest m → (j : ℕ) → total n fl b.state j ≡ standing m cells j
  unfolding standing
  standing_is h j =
      rw b.linked.count
      (sum_cong n (amount_at n fl b.state j) (λ (k : ℕ). stands_in cells (queue_at m k) j)
      (λ k l. (let e = rests h k l in rw e (omega (arith, stands_is k l j)))))
