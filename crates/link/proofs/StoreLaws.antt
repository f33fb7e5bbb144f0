-- What a store into the machine does, once for every step: thread t's step left o of queue k.
use Rattle.std.proofs.Common.{◌≡◌, ℕ, ◌+◌, ◌%◌, ◌^◌, ◌<◌, ◌≤◌, true, leb, List, length, get_or, set, refl, ap, ◌∙◌, arith, length-set, get_or-set_other, get_or-set_same, leb-true, Some, None}
use native.Mathlib.Decide.{ℕ_discrete}
use Rattle.base.specs.Tests.{both}
use Rattle.ring.specs.declared.Ring.{Ring}
use Rattle.ring.specs.declared.RingNumber.{RingNumber}
use Rattle.parts.specs.declared.queue.Queue.{Queue as CodeQueue}
use Rattle.parts.specs.declared.stage.Stage.{Stage as CodeStage}
use Rattle.sound.specs.Sound.{most_queues, counts_b, ring_sound}
use Rattle.machine.specs.declared.state.Thread.{Thread}
use Rattle.machine.specs.declared.state.Machine.{Machine}
use Rattle.parts.specs.Queues.{zero_queue}
use Rattle.machine.specs.State.{idle_thread, with_queue, with_stage, counted}
use Rattle.model.specs.Count.{upd}
use Rattle.model.specs.Stage.{Flavour, Out}
use Rattle.model.specs.Machine.{State, stored}
use Rattle.model.specs.Memory.{Named, Keeps}
use Rattle.model.proofs.CountLaws.{upd_same, upd_other}
use Rattle.link.specs.Map.{stage_for, queue_for}
use Rattle.link.specs.Linked.{pool_of, places_of, StageFits, Linked}
use Rattle.parts.specs.Out.{Claim as CodeClaim}

-- the machine with queue k, thread t's stage and the next ring number
abbrev pub put_back : Machine → ℕ → ℕ → RingNumber → CodeQueue → CodeStage → Machine
put_back m t k next q x = record {
  queues = set m.queues k q;
  threads = set m.threads t (record { stage = x });
  queue_count = m.queue_count;
  place_count = m.place_count;
  next_ring = next;
}

abbrev pub next_after : Machine → CodeClaim → RingNumber
next_after m None = m.next_ring
next_after m (Some r) = record { 0 = (r.number.0 + 1) % 2 ^ 64 }

pub put_back_lem : (m : Machine) (t k : ℕ) (g : CodeClaim) (q : CodeQueue) (x : CodeStage)
    → with_stage (with_queue (counted m g) k q) t x ≡ put_back m t k (next_after m g) q x
put_back_lem m t k None q x = refl
put_back_lem m t k (Some r) q x = refl

pub few_queues : (n p : ℕ) → counts_b n p ≡ true → n ≤ most_queues
few_queues n p h = leb-true n most_queues (both (leb n most_queues) _ (both (leb 1 n) _ h).1).0

module _ (n : ℕ) (fl : ℕ → Flavour) (R : ℕ → ℕ → Ring) (s : State) (m : Machine) (cells : List ℕ) (w : Linked n fl R s m cells) (t k : ℕ) (lt : t < n)
    (lk : k < n)
    (o : Out) where
  abbrev s' : State
  s' = stored s t k o

  -- what is to be shown of one step
  pub record Stored (next : RingNumber) (q : CodeQueue) (x : CodeStage) (cells' : List ℕ) : Type 0 where
    pub queue : q ≡ queue_for (fl k) (R k) o.queue
    pub stage : x ≡ stage_for R (R t (s'.queues t).top) o.stage
    pub tops : (u : ℕ) → (u ≡ t → ⊥) → (s'.queues u).top ≡ (s.queues u).top
    pub size : StageFits (R t (s'.queues t).top).capacity o.stage
    pub caps : (j r : ℕ) → j < n → r < (s'.queues j).top → (R j r).capacity ≡ (s'.queues j).caps r
    pub rings : (j r : ℕ) → j < n → Named n s' j r → ring_sound m.place_count (R j r) ≡ true
    pub numbers : (j r i u : ℕ) → j < n → i < n → Named n s' j r → Named n s' i u → (R j r).number.0 ≡ (R i u).number.0 → (j ≡ i) × (r ≡ u)
    pub next_is : (j r : ℕ) → j < n → Named n s' j r → (R j r).number.0 < next.0
    pub same_length : length cells' ≡ length cells
    pub keeps : Keeps n s' (places_of R) (pool_of cells')

  pub stored_linked : (next : RingNumber) (q : CodeQueue) (x : CodeStage) (cells' : List ℕ) → Stored next q x cells'
      → Linked n fl R s' (put_back m t k next q x) cells'
  stored_linked next q x cells' h = record {
    counts = w.counts;
    count = w.count;
    queue_list = length-set m.queues k q ∙ w.queue_list;
    thread_list = length-set m.threads t (record { stage = x }) ∙ w.thread_list;
    pool_length = h.same_length ∙ w.pool_length;
    queues = λ j l. to_queue j l (ℕ_discrete j k);
    stages = λ u l. to_stage u l (ℕ_discrete u t);
    caps = h.caps;
    sizes = λ u l. to_size u l (ℕ_discrete u t);
    rings = h.rings;
    numbers = h.numbers;
    next = h.next_is;
    keeps = h.keeps;
  }
    where
      few : n ≤ most_queues
      few = few_queues n m.place_count w.counts

      to_queue : (j : ℕ) → j < n → Dec (j ≡ k) → get_or (set m.queues k q) j zero_queue ≡ queue_for (fl j) (R j) (upd s.queues k o.queue j)
      to_queue j l (yes e) =
          let a = w.queue_list in
          let b = few in
          rw (e, upd_same s.queues k o.queue k refl) (get_or-set_same m.queues k q zero_queue (omega arith) ∙ h.queue)
      to_queue j l (no d) = rw (upd_other s.queues k o.queue j d) (get_or-set_other m.queues k j q zero_queue d ∙ w.queues j l)

      to_stage : (u : ℕ) → u < n → Dec (u ≡ t)
          → (get_or (set m.threads t (record { stage = x })) u idle_thread).stage ≡ stage_for R (R u (upd s.queues k o.queue u).top) (upd s.stages t o.stage u)
      to_stage u l (yes e) =
          let a = w.thread_list in
          let b = few in
          rw (e, upd_same s.stages t o.stage t refl)
          (ap (λ (z : Thread). z.stage) (get_or-set_same m.threads t (record { stage = x }) idle_thread (omega arith)) ∙ h.stage)
      to_stage u l (no d) =
          rw (upd_other s.stages t o.stage u d, h.tops u d)
          (ap (λ (z : Thread). z.stage) (get_or-set_other m.threads t u (record { stage = x }) idle_thread d) ∙ w.stages u l)

      to_size : (u : ℕ) → u < n → Dec (u ≡ t) → StageFits (R u (upd s.queues k o.queue u).top).capacity (upd s.stages t o.stage u)
      to_size u l (yes e) = rw (e, upd_same s.stages t o.stage t refl) h.size
      to_size u l (no d) = rw (upd_other s.stages t o.stage u d, h.tops u d) (w.sizes u l)
