-- The step tables of 01 over natural numbers. What the outside decides is told to the step (`Offer`): to which capacity a resize goes, and
-- what a claim finds. A step takes a capacity only if it has the room that is needed, and nothing else is assumed of it.
use Rattle.std.specs.Prelude.{Bool, true, false, ◌&&◌, ℕ, suc, ◌+◌, ◌-◌, ◌/◌, ◌%◌, min, leb, ltb, eqb}
use Rattle.base.specs.Tests.{pick}
use Rattle.model.specs.Count.{upd}
use Rattle.model.specs.Stage.{Flavour, fifo, lifo, Queue, cell, at, cap, set_front, set_back, set_cell, swap, ResizeStage, resize_back}
use Rattle.model.specs.Stage.{resize_front, resize_copy, resize_swap, PushStage, push_back, push_front, push_resize, push_write, push_store}
use Rattle.model.specs.Stage.{FifoPopStage, fifo_back, fifo_front, fifo_add, fifo_restore, fifo_read, LifoPopStage, lifo_back, lifo_front}
use Rattle.model.specs.Stage.{lifo_store, lifo_reload, lifo_restore, lifo_last, lifo_exchange, job, lifo_won, lifo_read, own, Popper}
use Rattle.model.specs.Stage.{StealStage, steal_front, steal_back, steal_ring, steal_read, steal_reload, steal_exchange, LengthStage}
use Rattle.model.specs.Stage.{length_back, length_front, BatchKind, plain, and_pop, Wanted, InHand, none, some, Haul, source, SourceStage}
use Rattle.model.specs.Stage.{source_front, source_back, source_ring, source_first, all_copy, all_reload, all_exchange, one_first, one_back}
use Rattle.model.specs.Stage.{one_read, one_reload, one_exchange, OwnStage, reserve_back, reserve_front, reserve_resize, own_back, all_write}
use Rattle.model.specs.Stage.{one_write, swap_near, swap_far, swap_put, swap_last, own_store, Stage, push, fifo_pop, lifo_pop, shrink, steal, len}
use Rattle.model.specs.Stage.{own_batch, Answer, done, nothing, empty, success, retry, moved, two_numbers, too_large, no_ring, Out, going, ended}

-- what a claim finds: no ring to be had; or a place, and what its cells happen to hold
pub data Claim : Type 0 where
  lost : Claim
  got : (ℕ → ℕ) → Claim

pub record Offer : Type 0 where
  pub capacity : ℕ
  pub claim : Claim

-- ---- resize

pub data Resized : Type 0 where
  more : ResizeStage → Resized
  failed : Resized
  finished : Queue → Resized

-- the next index is i: copy it, or swap where it is the back loaded
abbrev pub copying : (c b i : ℕ) → (ℕ → ℕ) → Resized
copying c b i cells = pick (eqb i b) (more (resize_swap c cells)) (more (resize_copy c b i cells))

abbrev pub claimed : Claim → (c b i : ℕ) → Resized
claimed lost c b i = failed
claimed (got cells) c b i = copying c b i cells

unfoldable pub resize_step : Claim → ResizeStage → Queue → Resized
resize_step g (resize_back c) q = more (resize_front c q.back)
resize_step g (resize_front c b) q = claimed g c b q.front
resize_step g (resize_copy c b i cells) q = copying c b (suc i) (upd cells (i % c) (at q i))
resize_step g (resize_swap c cells) q = finished (swap q c cells)

-- what an operation does with a step of its resize
abbrev pub resized : Resized → (ResizeStage → Out) → Out → (Queue → Out) → Out
resized (more z) k e d = k z
resized failed k e d = e
resized (finished q) k e d = d q

-- ---- push

unfoldable pub push_step : Offer → ℕ → PushStage → Queue → Out
push_step g x push_back q = going q (push x (push_front q.back))
push_step g x (push_front b) q =
    pick (leb (q.front + cap q) b)
    (pick (ltb b (q.front + g.capacity)) (going q (push x (push_resize b (resize_back g.capacity)))) (ended q too_large))
    (going q (push x (push_write b)))
push_step g x (push_resize b z) q =
    resized (resize_step g.claim z q) (λ y. going q (push x (push_resize b y))) (ended q no_ring) (λ r. going r (push x (push_write b)))
push_step g x (push_write b) q = going (set_cell q b x) (push x (push_store b))
push_step g x (push_store b) q = ended (set_back q (suc b)) done

-- ---- pops

-- the job v is read, and d is at least the difference: shrink first, or answer
abbrev pub reading : Offer → Popper → (d v : ℕ) → Queue → Out
reading g w d v q =
    pick (ltb 0 g.capacity && leb d g.capacity) (going q (shrink w v (resize_back g.capacity))) (ended q (job w v))

unfoldable pub shrink_step : Offer → Popper → ℕ → ResizeStage → Queue → Out
shrink_step g w v z q =
    resized (resize_step g.claim z q) (λ y. going q (shrink w v y)) (ended q (job w v)) (λ r. ended r (job w v))

unfoldable pub fifo_step : Offer → Popper → FifoPopStage → Queue → Out
fifo_step g w fifo_back q = going q (fifo_pop w (fifo_front q.back))
fifo_step g w (fifo_front b) q = pick (leb b q.front) (ended q (nothing w)) (going q (fifo_pop w (fifo_add b (b - q.front - 1))))
fifo_step g w (fifo_add b others) q =
    going (set_front q (suc q.front))
    (pick (ltb b (suc q.front)) (fifo_pop w (fifo_restore q.front)) (fifo_pop w (fifo_read q.front others)))
fifo_step g w (fifo_restore f) q = ended (set_front q f) (nothing w)
fifo_step g w (fifo_read f others) q = reading g w (suc others) (at q f) q

unfoldable pub lifo_step : Offer → Popper → LifoPopStage → Queue → Out
lifo_step g w lifo_back q = going q (lifo_pop w (lifo_front q.back))
lifo_step g w (lifo_front b) q = pick (leb b q.front) (ended q (nothing w)) (going q (lifo_pop w (lifo_store b)))
lifo_step g w (lifo_store b) q = going (set_back q (b - 1)) (lifo_pop w (lifo_reload b))
lifo_step g w (lifo_reload b) q =
    going q
    (pick (ltb (b - 1) q.front) (lifo_pop w (lifo_restore b))
    (pick (leb (b - 1) q.front) (lifo_pop w (lifo_last b)) (lifo_pop w (lifo_read b (b - 1 - q.front - 1)))))
lifo_step g w (lifo_restore b) q = ended (set_back q b) (nothing w)
lifo_step g w (lifo_last b) q = going q (lifo_pop w (lifo_exchange b (at q (b - 1))))
lifo_step g w (lifo_exchange b v) q =
    pick (eqb q.front (b - 1)) (going (set_front q (suc (b - 1))) (lifo_pop w (lifo_won b v))) (going q (lifo_pop w (lifo_restore b)))
lifo_step g w (lifo_won b v) q = ended (set_back q b) (job w v)
lifo_step g w (lifo_read b others) q = reading g w (suc others) (at q (b - 1)) q

-- ---- steal, length, and a batch from the own queue

unfoldable pub steal_step : ℕ → StealStage → Queue → Out
steal_step k steal_front q = going q (steal k (steal_back q.front))
steal_step k (steal_back f) q = pick (leb q.back f) (ended q empty) (going q (steal k (steal_ring f)))
steal_step k (steal_ring f) q = going q (steal k (steal_read q.ring f))
steal_step k (steal_read r f) q = going q (steal k (steal_reload r f (cell q r f)))
steal_step k (steal_reload r f v) q = pick (eqb r q.ring) (going q (steal k (steal_exchange r f v))) (ended q retry)
steal_step k (steal_exchange r f v) q = pick (eqb q.front f) (ended (set_front q (suc f)) (success v)) (ended q retry)

unfoldable pub length_step : ℕ → LengthStage → Queue → Out
length_step k length_back q = going q (len k (length_front q.back))
length_step k (length_front b) q = ended q (two_numbers b q.front)

unfoldable pub own_batch_step : LengthStage → Queue → Out
own_batch_step length_back q = going q (own_batch (length_front q.back))
own_batch_step (length_front b) q = ended q (pick (leb b q.front) empty moved)

-- ---- batch

-- n, of a difference d and a limit of others + 1
abbrev pub wanted : BatchKind → (d others : ℕ) → ℕ
wanted plain d others = min ((d + 1) / 2) (others + 1)
wanted and_pop d others = min ((d - 1) / 2) others

abbrev pub hauling : (r : ℕ) → Wanted → (b : ℕ) → Haul
hauling r w b = record { ring = r; f = w.f; n = w.n; b = b; hand = none }

abbrev pub with_job : Haul → ℕ → Haul
with_job h v = record { ring = h.ring; f = h.f; n = h.n; b = h.b; hand = some v }

-- an exchange was won: f goes up
abbrev pub onward : Haul → InHand → Haul
onward h j = record { ring = h.ring; f = suc h.f; n = h.n; b = h.b; hand = j }

abbrev pub with_count : Haul → ℕ → Haul
with_count h i = record { ring = h.ring; f = h.f; n = i; b = h.b; hand = h.hand }

-- how many jobs are in hand; and will be, of a kind
abbrev pub in_hand : InHand → ℕ
in_hand none = 0
in_hand (some v) = 1

abbrev pub to_hand : BatchKind → ℕ
to_hand plain = 0
to_hand and_pop = 1

-- all at once, i copied: the next, or load ring
abbrev pub copy_next : ℕ → Haul → ℕ → Stage
copy_next k h i = pick (leb h.n i) (source k (all_reload h)) (source k (all_copy h i))

-- which own index takes the i-th of n
abbrev pub slot : Flavour → Haul → ℕ → ℕ
slot fifo h i = h.b + i
slot lifo h i = h.b + (h.n - suc i)

-- x swaps made: the next, or store own back
abbrev pub swap_next : ℕ → Haul → ℕ → Stage
swap_next k h x = pick (leb (h.n / 2) x) (own k (own_store h)) (own k (swap_near h x))

abbrev pub landing : Flavour → ℕ → Haul → Stage
landing fifo k h = swap_next k h 0
landing lifo k h = own k (own_store h)

abbrev pub is_none : InHand → Bool
is_none none = true
is_none (some v) = false

-- one by one, stopped with i written; none taken: Retry
abbrev pub stopped : Flavour → ℕ → Haul → ℕ → Queue → Out
stopped fo k h i q = pick (is_none h.hand && eqb i 0) (ended q retry) (going q (landing fo k (with_count h i)))

-- one by one, i written: load back for the next, or stop after n
abbrev pub turning : Flavour → ℕ → Haul → ℕ → Queue → Out
turning fo k h i q = pick (leb h.n i) (stopped fo k h i q) (going q (source k (one_back h i)))

-- the exchange for a job was won: what to write, and what is then in hand
abbrev pub to_write : InHand → ℕ → ℕ
to_write none v = v
to_write (some w) v = w

abbrev pub next_in_hand : InHand → ℕ → InHand
next_in_hand none v = none
next_in_hand (some w) v = some v

abbrev pub told : InHand → Answer
told none = moved
told (some v) = success v

-- the ring is held
abbrev pub taking : Flavour → Flavour → ℕ → Haul → Queue → Out
taking fifo fo k h q = going q (copy_next k h 0)
taking lifo fo k h q = pick (leb h.n 0) (stopped fo k h 0 q) (going q (source k (one_read h 0)))

abbrev pub holding : BatchKind → Flavour → Flavour → ℕ → Haul → Queue → Out
holding plain fs fo k h q = taking fs fo k h q
holding and_pop fs fo k h q = going q (source k (source_first h))

abbrev pub first_read : Flavour → ℕ → Haul → ℕ → Stage
first_read fifo k h v = copy_next k (with_job h v) 0
first_read lifo k h v = source k (one_first h v)

-- fs: the source's flavour; fo: the own queue's; k: the source
unfoldable pub source_step : Flavour → Flavour → ℕ → SourceStage → Queue → Out
source_step fs fo k (source_front m others) q = going q (source k (source_back m others q.front))
source_step fs fo k (source_back m others f) q =
    pick (leb q.back f) (ended q empty)
    (going q
    (pick (eqb (wanted m (q.back - f) others) 0) (own k (own_back (record { kind = m; f = f; n = wanted m (q.back - f) others })))
    (own k (reserve_back (record { kind = m; f = f; n = wanted m (q.back - f) others })))))
source_step fs fo k (source_ring w b) q = holding w.kind fs fo k (hauling q.ring w b) q
source_step fs fo k (source_first h) q = going q (first_read fs k h (cell q h.ring h.f))
source_step fs fo k (all_copy h i) q = going q (own k (all_write h i (cell q h.ring (h.f + in_hand h.hand + i))))
source_step fs fo k (all_reload h) q = pick (eqb h.ring q.ring) (going q (source k (all_exchange h))) (ended q retry)
source_step fs fo k (all_exchange h) q =
    pick (eqb q.front h.f) (going (set_front q (h.f + in_hand h.hand + h.n)) (own k (own_store h))) (ended q retry)
source_step fs fo k (one_first h v) q =
    pick (eqb q.front h.f) (turning fo k (onward h (some v)) 0 (set_front q (suc h.f))) (ended q retry)
source_step fs fo k (one_back h i) q = pick (leb q.back h.f) (stopped fo k h i q) (going q (source k (one_read h i)))
source_step fs fo k (one_read h i) q = going q (source k (one_reload h i (cell q h.ring h.f)))
source_step fs fo k (one_reload h i v) q = pick (eqb h.ring q.ring) (going q (source k (one_exchange h i v))) (stopped fo k h i q)
source_step fs fo k (one_exchange h i v) q =
    pick (eqb q.front h.f)
    (going (set_front q (suc h.f)) (own k (one_write (onward h (next_in_hand h.hand v)) i (to_write h.hand v))))
    (stopped fo k h i q)

unfoldable pub own_step : Offer → Flavour → ℕ → OwnStage → Queue → Out
own_step g fo k (reserve_back w) q = going q (own k (reserve_front w q.back))
own_step g fo k (reserve_front w b) q =
    pick (leb (b - q.front + w.n) (cap q)) (going q (own k (own_back w)))
    (pick (leb (b - q.front + w.n) g.capacity) (going q (own k (reserve_resize w (resize_back g.capacity)))) (ended q too_large))
own_step g fo k (reserve_resize w z) q =
    resized (resize_step g.claim z q) (λ y. going q (own k (reserve_resize w y))) (ended q no_ring) (λ r. going r (own k (own_back w)))
own_step g fo k (own_back w) q = going q (source k (source_ring w q.back))
own_step g fo k (all_write h i v) q = going (set_cell q (slot fo h i) v) (copy_next k h (suc i))
own_step g fo k (one_write h i v) q = turning fo k h (suc i) (set_cell q (h.b + i) v)
own_step g fo k (swap_near h x) q = going q (own k (swap_far h x (at q (h.b + x))))
own_step g fo k (swap_far h x near) q = going q (own k (swap_put h x near (at q (h.b + (h.n - suc x)))))
own_step g fo k (swap_put h x near far) q = going (set_cell q (h.b + x) far) (own k (swap_last h x near))
own_step g fo k (swap_last h x near) q = going (set_cell q (h.b + (h.n - suc x)) near) (swap_next k h (suc x))
own_step g fo k (own_store h) q = ended (set_back q (h.b + h.n)) (told h.hand)
