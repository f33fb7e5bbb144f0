-- The machine that a setup gives is linked: so the relation holds of what a session starts from.
use Rattle.std.proofs.Common.{◌≡◌, ℕ, zero, suc, ◌*◌, ◌<◌, ◌≤◌, true, leb, ◌⊎◌, List, length, get_or, sym, refl, ap, ◌∙◌, inl, inr, arith, lt-ltb, leb-true}
use Rattle.base.specs.Tests.{both, and_both}
use Rattle.ring.specs.declared.Ring.{Ring}
use Rattle.ring.specs.Capacity.{smallest}
use Rattle.ring.proofs.CapacityLaws.{smallest_allowed}
use Rattle.cells.specs.Cells.{place_cells}
use Rattle.parts.specs.declared.queue.Flavor.{Flavor}
use Rattle.parts.specs.declared.queue.Flavor.TheVariants.{Fifo, Lifo}
use Rattle.sound.specs.Sound.{most_queues, counts_b}
use Rattle.machine.specs.State.{queue_at, stage_at}
use Rattle.machine.specs.Setup.{fresh_queue, fresh_machine}
use Rattle.model.specs.Stage.{Flavour, at, idle}
use Rattle.model.specs.Machine.{State}
use Rattle.model.specs.Invariant.{Ok, amount_at, total}
use Rattle.model.specs.Memory.{not_building, cells_of, Held, Built, Live, Named, content}
use Rattle.model.proofs.CountLaws.{upd_other, stand_empty, sum_cong, sum_zero}
use Rattle.model.proofs.Good.{ok_rest}
use Rattle.link.specs.Map.{flavor_of, stage_for, queue_for, flavour_of}
use Rattle.link.specs.Linked.{pool_of, Linked, Behind}
use Rattle.link.proofs.StoreLaws.{few_queues}

-- the flavours of a setup
abbrev pub flavours : List Flavor → ℕ → Flavour
flavours l k = flavour_of (get_or l k Fifo)

flavour_back : (f : Flavor) → flavor_of (flavour_of f) ≡ f
flavour_back Fifo = refl
flavour_back Lifo = refl

-- queue k has ring k in place k
abbrev first_ring : ℕ → ℕ → Ring
first_ring k r = record { number = record { 0 = k }; place = record { 0 = k }; capacity = smallest }

-- the cells are whatever the pool holds
abbrev fresh_state : List ℕ → State
fresh_state cells = record {
  stages = λ t. idle;
  queues = λ k. record { front = 0; back = 0; ring = 0; top = 1; rings = λ r x. pool_of cells k x; caps = λ r. smallest };
}

module _ (n : ℕ) (l : List Flavor) (places : ℕ) (cells : List ℕ) (co : counts_b n places ≡ true) (e : length cells ≡ places * place_cells) where
  few : n ≤ most_queues
  few = few_queues n places co

  enough : n ≤ places
  enough = leb-true n places (both (leb n places) _ (both (leb n most_queues) _ (both (leb 1 n) _ co).1).1).0

  at_least : (k : ℕ) → k < most_queues → queue_at (fresh_machine n l places) k ≡ fresh_queue n l k
  at_least zero h = refl
  at_least (suc zero) h = refl
  at_least (suc (suc zero)) h = refl
  at_least (suc (suc (suc zero))) h = refl
  at_least (suc (suc (suc (suc k)))) h = absurd (omega arith)

  queue_at_lem : (k : ℕ) → k < n → queue_at (fresh_machine n l places) k ≡ queue_for (flavours l k) (first_ring k) ((fresh_state cells).queues k)
  queue_at_lem k h = let a = few in at_least k (omega arith) ∙ rw (lt-ltb k n h, flavour_back (get_or l k Fifo))

  stage_at_lem : (k : ℕ) → k < most_queues → stage_at (fresh_machine n l places) k ≡ stage_for first_ring (first_ring k 1) idle
  stage_at_lem zero h = refl
  stage_at_lem (suc zero) h = refl
  stage_at_lem (suc (suc zero)) h = refl
  stage_at_lem (suc (suc (suc zero))) h = refl
  stage_at_lem (suc (suc (suc (suc k)))) h = absurd (omega arith)

  -- the only ring of a queue
  zeroth : (k r : ℕ) → Named n (fresh_state cells) k r → r ≡ 0
  zeroth k r (inl z) = omega arith
  zeroth k r (inr z) = absurd (z.1 refl)

  live_zeroth : (k r : ℕ) → Live n (fresh_state cells) k r → r ≡ 0
  live_zeroth k r z = go z.1
    where
      go : (r ≡ 0) ⊎ Held n (fresh_state cells) k r ⊎ Built n (fresh_state cells) k r → r ≡ 0
      go (inl h) = h
      go (inr (inl h)) = absurd h.2
      go (inr (inr h)) = absurd (h.1 refl)

  fresh_content : (k r x : ℕ) → r ≡ 0 → pool_of cells k x ≡ content (fresh_state cells) k r x
  fresh_content k r x h =
      sym (ap (λ (f : ℕ → ℕ). f x) (upd_other ((fresh_state cells).queues k).rings 1 (cells_of not_building) r (λ z. omega arith)))

  pub fresh_linked : Linked n (flavours l) first_ring (fresh_state cells) (fresh_machine n l places) cells
  fresh_linked = record {
    counts = co;
    count = refl;
    queue_list = refl;
    thread_list = refl;
    pool_length = e;
    queues = queue_at_lem;
    stages = λ t h. (let a = few in stage_at_lem t (omega arith));
    caps = λ k r h z. refl;
    sizes = λ t h. tt;
    rings = λ k r h z. (let a = enough in and_both _ _ smallest_allowed (lt-ltb k places (omega arith)));
    numbers = λ k r j i h u z y p. (p, zeroth k r z ∙ sym (zeroth j i y));
    next = λ k r h z. h;
    keeps = record {
      agree = λ k r z x. fresh_content k r x (live_zeroth k r z);
      apart = λ k r j i z y p. (p, live_zeroth k r z ∙ sym (live_zeroth j i y));
    };
  }

  fresh_ok : (k : ℕ) → Ok (flavours l k) idle ((fresh_state cells).queues k)
  fresh_ok k = ok_rest (flavours l k) idle ((fresh_state cells).queues k) refl refl (omega arith) (omega arith) (omega arith) (omega arith) tt

  pub fresh_behind : (mem : ℕ → ℕ) → Behind n (flavours l) mem 0 (fresh_machine n l places) cells
  fresh_behind mem = record {
    names = first_ring;
    state = fresh_state cells;
    linked = fresh_linked;
    inv = record { oks = λ k h. fresh_ok k; aware = λ t h. tt; says = λ t h. tt };
    bounded = record { backs = λ k h. omega arith; fronts = λ t h. omega arith };
  }

  pub fresh_total : (mem : ℕ → ℕ) (j : ℕ) → total n (flavours l) (fresh_behind mem).state j ≡ 0
  unfolding fresh_behind
  fresh_total mem j =
      sum_cong n (amount_at n (flavours l) (fresh_state cells) j) (λ i. 0)
      (λ i h. (let z = stand_empty (at ((fresh_state cells).queues i)) 0 0 j (omega arith) in omega arith)) ∙ sum_zero n
