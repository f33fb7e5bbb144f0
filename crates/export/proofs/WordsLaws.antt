-- Reading and writing are inverse: the words of a machine are read as that machine, and words that a machine has are those of the machine that
-- they are read as.
use Rattle.std.proofs.Common.{◌≡◌, ℕ, zero, suc, ◌+◌, Bool, true, false, eqb, List, [], ◌∷◌, length, get_or, drop, set, sym, refl, ap, ◌∙◌, true≢false, arith, drop_of_length-le, drop-cons}
use Rattle.base.specs.Tests.{pick, both, and_both}
use Rattle.parts.specs.declared.queue.Queue.{Queue}
use Rattle.parts.specs.declared.stage.Stage.{Stage}
use Rattle.parts.specs.Queues.{zero_queue}
use Rattle.machine.specs.declared.state.Machine.{Machine}
use Rattle.machine.specs.State.{idle_thread}
use Rattle.slots.specs.Queue.{queue_words, queue_of, same_queue_b}
use Rattle.slots.specs.Slots.{same_stage_b}
use Rattle.words.specs.Stage.{stage_words, stage_of}
use Rattle.words.specs.Slices.{queue_in, stage_in, put_queue, put_stage, machine_size, queue_b, stage_b, machine_b}
use Rattle.slots.proofs.Same.{same_queue, same_queue_self, same_stage, same_stage_self}
use Rattle.export.specs.Words.{machine_in, machine_put, QueuesTold, ThreadsTold, Told}

-- ---- a list by its elements

module _ {A : Type 0} (d : A) where
  -- n elements from the k-th on
  abbrev pub row : ℕ → ℕ → List A → List A
  row zero k l = []
  row (suc n) k l = get_or l k d ∷ row n (suc k) l

  rest_is : (n k : ℕ) (l : List A) → length l ≡ k + n → drop k l ≡ row n k l
  rest_is zero k l h = drop_of_length-le l {i = k} (omega arith)
  rest_is (suc n) k l h = drop-cons l k d (omega arith) ∙ ap (λ (t : List A). get_or l k d ∷ t) (rest_is n (suc k) l (omega arith))

  pub row_is : (n : ℕ) (l : List A) → length l ≡ n → l ≡ row n 0 l
  row_is n l h = rest_is n 0 l (omega arith)

-- ---- written, then read

queue_told : (q : Queue) → queue_of (queue_words q) ≡ q → queue_b (queue_words q) ≡ true
queue_told q h = ap (λ (x : Queue). same_queue_b (queue_words q) (queue_words x)) h ∙ same_queue_self (queue_words q)

stage_told : (s : Stage) → stage_of (stage_words s) ≡ s → stage_b (stage_words s) ≡ true
stage_told s h = ap (λ (x : Stage). same_stage_b (stage_words s) (stage_words x)) h ∙ same_stage_self (stage_words s)

module _ (l : List ℕ) (m : Machine) (hq : QueuesTold m.queues) (ht : ThreadsTold m.threads) where
  abbrev put : List ℕ
  put = machine_put (row 0 91 0 l) m

  put_machine : machine_b put ≡ true
  unfolding machine_b machine_put
  put_machine =
      and_both _ _
      (and_both _ _ (queue_told _ hq.1)
      (and_both _ _ (queue_told _ hq.2) (and_both _ _ (queue_told _ hq.3) (and_both _ _ (queue_told _ hq.4) refl))))
      (and_both _ _ (stage_told _ ht.1)
      (and_both _ _ (stage_told _ ht.2) (and_both _ _ (stage_told _ ht.3) (and_both _ _ (stage_told _ ht.4) refl))))

  put_read : m.queues ≡ row zero_queue 4 0 m.queues → m.threads ≡ row idle_thread 4 0 m.threads → machine_in put ≡ m
  unfolding machine_in machine_put
  put_read eq et = λ i. record {
    queues = (queues_are ∙ sym eq) i;
    threads = (threads_are ∙ sym et) i;
    queue_count = m.queue_count;
    place_count = m.place_count;
    next_ring = m.next_ring;
  }
    where
      queues_are : (machine_in put).queues ≡ row zero_queue 4 0 m.queues
      queues_are = λ i. hq.1 i ∷ hq.2 i ∷ hq.3 i ∷ hq.4 i ∷ []

      threads_are : (machine_in put).threads ≡ row idle_thread 4 0 m.threads
      threads_are = λ i. record { stage = ht.1 i } ∷ record { stage = ht.2 i } ∷ record { stage = ht.3 i } ∷ record { stage = ht.4 i } ∷ []

pub stored_told : (l : List ℕ) (m : Machine) → length l ≡ machine_size → QueuesTold m.queues → ThreadsTold m.threads → Told (machine_put l m) m
stored_told l m h hq ht =
    rw (row_is 0 91 l h) (put_machine l m hq ht, put_read l m hq ht (row_is zero_queue 4 m.queues hq.0) (row_is idle_thread 4 m.threads ht.0))

-- of a test within a test
outer : (a b : Bool) → pick a b false ≡ true → a ≡ true
outer true b e = refl
outer false b e = e

inner : (a b : Bool) → pick a b false ≡ true → b ≡ true
inner true b e = e
inner false b e = absurd (true≢false (sym e))

pub as_many : (l : List ℕ) → machine_b l ≡ true → eqb (length l) machine_size ≡ true
unfolding machine_b
as_many l h = outer _ _ h

-- ---- read, then written

set_own : (l : List ℕ) (k : ℕ) → set l k (get_or l k 0) ≡ l
set_own [] k = refl
set_own (x ∷ l) zero = refl
set_own (x ∷ l) (suc k) = ap (λ (t : List ℕ). x ∷ t) (set_own l k)

own_queue : (l : List ℕ) (at : ℕ) → queue_b (queue_in l at) ≡ true → put_queue l at (queue_words (queue_of (queue_in l at))) ≡ l
own_queue l at h =
    let own : put_queue l at (queue_in l at) ≡ l = simp set_own refl in
    ap (put_queue l at) (sym (same_queue _ _ h)) ∙ own

own_stage : (l : List ℕ) (at : ℕ) → stage_b (stage_in l at) ≡ true → put_stage l at (stage_words (stage_of (stage_in l at))) ≡ l
own_stage l at h =
    let own : put_stage l at (stage_in l at) ≡ l = simp set_own refl in
    ap (put_stage l at) (sym (same_stage _ _ h)) ∙ own

pub own_words : (l : List ℕ) → machine_b l ≡ true → machine_put l (machine_in l) ≡ l
unfolding machine_b machine_in machine_put
own_words l h =
    let p = both _ _ (inner (eqb (length l) machine_size) _ h) in
    let q1 = both _ _ p.0 in
    let q2 = both _ _ q1.1 in
    let q3 = both _ _ q2.1 in
    let q4 = both _ _ q3.1 in
    let s1 = both _ _ p.1 in
    let s2 = both _ _ s1.1 in
    let s3 = both _ _ s2.1 in
    let s4 = both _ _ s3.1 in
    rw (
      set_own l 0,
      set_own l 1,
      set_own l 2,
      own_queue l 3 q1.0,
      own_queue l 9 q2.0,
      own_queue l 15 q3.0,
      own_queue l 21 q4.0,
      own_stage l 27 s1.0,
      own_stage l 43 s2.0,
      own_stage l 59 s3.0,
      own_stage l 75 s4.0,
    )
