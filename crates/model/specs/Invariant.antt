-- The invariant. Of each queue: what its owner's stage knows of it (`Ok`). Of each thread: what a thief's stage knows of its source (`Aware`),
-- in words that survive what others do: all such facts say "if the front has not passed f". What others may do is one relation (`Ev`).
use Rattle.std.specs.Prelude.{◌≡◌, ℕ, suc, ◌+◌, ◌-◌, ◌%◌, ◌≤◌, ◌<◌}
use Rattle.model.specs.Count.{stand, sum_to}
use Rattle.model.specs.Stage.{Flavour, fifo, lifo, Queue, cell, at, cap, ResizeStage, resize_back, resize_front, resize_copy, resize_swap}
use Rattle.model.specs.Stage.{PushStage, push_back, push_front, push_resize, push_write, push_store, FifoPopStage, fifo_back, fifo_front}
use Rattle.model.specs.Stage.{fifo_add, fifo_restore, fifo_read, LifoPopStage, lifo_back, lifo_front, lifo_store, lifo_reload, lifo_restore}
use Rattle.model.specs.Stage.{lifo_last, lifo_exchange, lifo_won, lifo_read, own, StealStage, steal_front, steal_back, steal_ring, steal_read}
use Rattle.model.specs.Stage.{steal_reload, steal_exchange, LengthStage, length_back, length_front, Wanted, Haul, source, SourceStage}
use Rattle.model.specs.Stage.{source_front, source_back, source_ring, source_first, all_copy, all_reload, all_exchange, one_first, one_back}
use Rattle.model.specs.Stage.{one_read, one_reload, one_exchange, OwnStage, reserve_back, reserve_front, reserve_resize, own_back, all_write}
use Rattle.model.specs.Stage.{one_write, swap_near, swap_far, swap_put, swap_last, own_store, Stage, idle, push, fifo_pop, lifo_pop, shrink}
use Rattle.model.specs.Stage.{steal, len, own_batch, Answer}
use Rattle.model.specs.Tables.{in_hand, to_hand}
use Rattle.model.specs.Machine.{own_queue, owner, State}
use Rattle.model.specs.Logical.{lo, hi, hand_of, amount, accepts, gives, Says}

-- ---- what the owner's stage knows

abbrev pub is_fifo : Flavour → Type 0
is_fifo fifo = Unit
is_fifo lifo = ⊥

abbrev pub is_lifo : Flavour → Type 0
is_lifo fifo = ⊥
is_lifo lifo = Unit

-- a front that was loaded: in a LIFO queue it is not past the logical front
abbrev pub Reach : Flavour → ℕ → ℕ → Type 0
Reach fifo lo f = Unit
Reach lifo lo f = f ≤ lo

-- a resize, with room for `need` more
abbrev pub ResizeOk : ℕ → ResizeStage → Queue → Type 0
ResizeOk need (resize_back c) q = (0 < c) × (q.back + need ≤ q.front + c)
ResizeOk need (resize_front c b) q = (0 < c) × (q.back + need ≤ q.front + c) × (b ≡ q.back)
ResizeOk need (resize_copy c b i cells) q =
    (0 < c) × (q.back + need ≤ q.front + c) × (b ≡ q.back) × (i < b) × ((x : ℕ) → q.front ≤ x → x < i → cells (x % c) ≡ at q x)
ResizeOk need (resize_swap c cells) q =
    (0 < c) × (q.back + need ≤ q.front + c) × ((x : ℕ) → q.front ≤ x → x < q.back → cells (x % c) ≡ at q x)

-- b is the back, and n more fit
abbrev pub Room : Queue → ℕ → ℕ → Type 0
Room q b n = (b ≡ q.back) × (b + n ≤ q.front + cap q)

abbrev pub PushOk : ℕ → PushStage → Queue → Type 0
PushOk x push_back q = Unit
PushOk x (push_front b) q = b ≡ q.back
PushOk x (push_resize b z) q = (b ≡ q.back) × ResizeOk 1 z q
PushOk x (push_write b) q = Room q b 1
PushOk x (push_store b) q = Room q b 1 × (at q b ≡ x)

abbrev pub FifoOk : FifoPopStage → Queue → Type 0
FifoOk fifo_back q = Unit
FifoOk (fifo_front b) q = b ≡ q.back
FifoOk (fifo_add b others) q = (b ≡ q.back) × (q.back ≤ q.front + suc others)
FifoOk (fifo_restore f) q = (q.front ≡ suc f) × (f ≡ q.back)
FifoOk (fifo_read f others) q = q.back ≤ q.front + suc others

abbrev pub LifoOk : LifoPopStage → Queue → Type 0
LifoOk lifo_back q = Unit
LifoOk (lifo_front b) q = b ≡ q.back
LifoOk (lifo_store b) q = (b ≡ q.back) × (0 < b)
LifoOk (lifo_reload b) q = suc q.back ≡ b
LifoOk (lifo_restore b) q = (suc q.back ≡ b) × (q.front ≡ b)
LifoOk (lifo_last b) q = (suc q.back ≡ b) × (q.back ≤ q.front)
LifoOk (lifo_exchange b v) q = (suc q.back ≡ b) × (q.back ≤ q.front) × (q.front ≡ q.back → v ≡ at q q.back)
LifoOk (lifo_won b v) q = (suc q.back ≡ b) × (q.front ≡ b)
LifoOk (lifo_read b others) q = (suc q.back ≡ b) × (q.back ≤ q.front + suc others)

abbrev pub HaulOk : Haul → Queue → Type 0
HaulOk h q = Room q h.b h.n

abbrev pub OwnOk : OwnStage → Queue → Type 0
OwnOk (reserve_back w) q = Unit
OwnOk (reserve_front w b) q = b ≡ q.back
OwnOk (reserve_resize w z) q = ResizeOk w.n z q
OwnOk (own_back w) q = q.back + w.n ≤ q.front + cap q
OwnOk (all_write h i v) q = HaulOk h q × (i < h.n)
OwnOk (one_write h i v) q = HaulOk h q × (i < h.n)
OwnOk (swap_near h x) q = HaulOk h q × (suc (x + x) < h.n)
OwnOk (swap_far h x near) q = HaulOk h q × (suc (x + x) < h.n) × (near ≡ at q (h.b + x))
OwnOk (swap_put h x near far) q =
    HaulOk h q × (suc (x + x) < h.n) × (near ≡ at q (h.b + x)) × (far ≡ at q (h.b + (h.n - suc x)))
OwnOk (swap_last h x near) q = HaulOk h q × (suc (x + x) < h.n)
OwnOk (own_store h) q = HaulOk h q

abbrev pub SourceOk : SourceStage → Queue → Type 0
SourceOk (source_front m others) q = Unit
SourceOk (source_back m others f) q = Unit
SourceOk (source_ring w b) q = Room q b w.n
SourceOk (source_first h) q = HaulOk h q
SourceOk (all_copy h i) q = HaulOk h q × (i < h.n)
SourceOk (all_reload h) q = HaulOk h q
SourceOk (all_exchange h) q = HaulOk h q
SourceOk (one_first h v) q = HaulOk h q
SourceOk (one_back h i) q = HaulOk h q × (i < h.n)
SourceOk (one_read h i) q = HaulOk h q × (i < h.n)
SourceOk (one_reload h i v) q = HaulOk h q × (i < h.n)
SourceOk (one_exchange h i v) q = HaulOk h q × (i < h.n)

abbrev pub StageOk : Flavour → Stage → Queue → Type 0
StageOk fl idle q = Unit
StageOk fl (push x p) q = PushOk x p q
StageOk fl (fifo_pop w p) q = is_fifo fl × FifoOk p q
StageOk fl (lifo_pop w p) q = is_lifo fl × LifoOk p q
StageOk fl (shrink w v z) q = ResizeOk 0 z q
StageOk fl (steal k p) q = Unit
StageOk fl (len k p) q = Unit
StageOk fl (own_batch p) q = Unit
StageOk fl (source k p) q = SourceOk p q
StageOk fl (own k p) q = OwnOk p q

pub record Ok (fl : Flavour) (s : Stage) (q : Queue) : Type 0 where
  pub order : lo s q ≤ hi s q
  pub fits : hi s q ≤ lo s q + cap q
  pub some_cap : 0 < cap q
  pub ring_top : q.ring < q.top
  pub backs : q.back ≤ hi s q
  pub fronts : lo s q ≤ q.front
  pub exact : q.front < hi s q → lo s q ≡ q.front
  pub reach : Reach fl (lo s q) q.front
  pub stage : StageOk fl s q

-- ---- what any step of anybody may do to a queue

pub record View : Type 0 where
  pub lo : ℕ
  pub hi : ℕ
  pub ring : ℕ
  pub top : ℕ
  pub content : ℕ → ℕ
  pub cell : ℕ → ℕ → ℕ

abbrev pub view : Stage → Queue → View
view s q = record { lo = lo s q; hi = hi s q; ring = q.ring; top = q.top; content = at q; cell = cell q }

pub record Ev (fl : Flavour) (v w : View) : Type 0 where
  pub grows : v.lo ≤ w.lo
  pub stays : (f : ℕ) → Reach fl v.lo f → f < v.hi → f < w.hi
  pub keeps : (i : ℕ) → w.lo ≤ i → i < v.hi → i < w.hi → w.content i ≡ v.content i
  pub tops : v.top ≤ w.top
  pub same_ring : (r : ℕ) → r < v.top → w.ring ≡ r → v.ring ≡ r
  pub old_rings : (r i : ℕ) → r < v.top → w.lo ≤ i → i < v.hi → i < w.hi → w.cell r i ≡ v.cell r i

-- ---- what a thief knows of its source

-- it takes m at once from a FIFO queue, and one from a LIFO queue
abbrev pub wide : Flavour → ℕ → ℕ
wide fifo m = m
wide lifo m = 1

abbrev pub Span : Flavour → View → ℕ → ℕ → Type 0
Span fl v f m = Reach fl v.lo f × (0 < m) × (f + wide fl m ≤ v.hi)

-- the ring r, which it holds, has the right cells from f on
abbrev pub Ring : View → (r f w : ℕ) → Type 0
Ring v r f w = (r < v.top) × ((x : ℕ) → v.lo ≤ x → f ≤ x → x < f + w → v.cell r x ≡ v.content x)

-- x is the job at f, unless f is already gone
abbrev pub Has : View → ℕ → ℕ → Type 0
Has v f x = v.lo ≤ f → x ≡ v.content f

abbrev pub StealKnows : Flavour → StealStage → View → Type 0
StealKnows fl steal_front v = Unit
StealKnows fl (steal_back f) v = Reach fl v.lo f
StealKnows fl (steal_ring f) v = Span fl v f 1
StealKnows fl (steal_read r f) v = Span fl v f 1 × Ring v r f (wide fl 1)
StealKnows fl (steal_reload r f x) v = Span fl v f 1 × Has v f x × (r < v.top)
StealKnows fl (steal_exchange r f x) v = Span fl v f 1 × Has v f x × (r < v.top)

-- the own cells that take the first i of n
abbrev pub part : Flavour → (ℕ → ℕ) → (n b i j : ℕ) → ℕ
part fifo mine n b i j = stand mine b (b + i) j
part lifo mine n b i j = stand mine (b + (n - i)) (b + n) j

-- the job in hand and the copies are the source's jobs from f on, unless f is already gone
abbrev pub Copied : Flavour → (ℕ → ℕ) → View → Haul → (i : ℕ) → Type 0
Copied fo mine v h i =
    v.lo ≤ h.f → (j : ℕ) → hand_of h.hand j + part fo mine h.n h.b i j ≡ stand v.content h.f (h.f + in_hand h.hand + i) j

-- all at once, i of n copied
abbrev pub Bulk : Flavour → Flavour → (ℕ → ℕ) → View → Haul → (i : ℕ) → Type 0
Bulk fs fo mine v h i = is_fifo fs × Span fs v h.f (in_hand h.hand + h.n) × (i ≤ h.n) × Copied fo mine v h i

abbrev pub BulkRing : View → Haul → Type 0
BulkRing v h = Ring v h.ring h.f (in_hand h.hand + h.n)

-- one by one: before the test of back, and after it
abbrev pub Before : Flavour → View → Haul → Type 0
Before fs v h = is_lifo fs × (h.f ≤ v.lo) × (h.ring < v.top)

abbrev pub Single : Flavour → View → Haul → Type 0
Single fs v h = is_lifo fs × Span fs v h.f 1 × (h.ring < v.top)

abbrev pub WantedSpan : Flavour → View → Wanted → Type 0
WantedSpan fs v w = Span fs v w.f (to_hand w.kind + w.n)

-- fs: the source's flavour; fo: the own one's; mine: the contents of the own queue
abbrev pub OwnKnows : Flavour → Flavour → OwnStage → (ℕ → ℕ) → View → Type 0
OwnKnows fs fo (reserve_back w) mine v = WantedSpan fs v w
OwnKnows fs fo (reserve_front w b) mine v = WantedSpan fs v w
OwnKnows fs fo (reserve_resize w z) mine v = WantedSpan fs v w
OwnKnows fs fo (own_back w) mine v = WantedSpan fs v w
OwnKnows fs fo (all_write h i x) mine v = Bulk fs fo mine v h i × BulkRing v h × (i < h.n) × Has v (h.f + in_hand h.hand + i) x
OwnKnows fs fo (one_write h i x) mine v = Before fs v h
OwnKnows fs fo (swap_near h x) mine v = h.ring < v.top
OwnKnows fs fo (swap_far h x near) mine v = h.ring < v.top
OwnKnows fs fo (swap_put h x near far) mine v = h.ring < v.top
OwnKnows fs fo (swap_last h x near) mine v = h.ring < v.top
OwnKnows fs fo (own_store h) mine v = h.ring < v.top

abbrev pub SourceKnows : Flavour → Flavour → SourceStage → (ℕ → ℕ) → View → Type 0
SourceKnows fs fo (source_front m others) mine v = Unit
SourceKnows fs fo (source_back m others f) mine v = Reach fs v.lo f
SourceKnows fs fo (source_ring w b) mine v = WantedSpan fs v w
SourceKnows fs fo (source_first h) mine v = Span fs v h.f (suc h.n) × Ring v h.ring h.f (wide fs (suc h.n))
SourceKnows fs fo (all_copy h i) mine v = Bulk fs fo mine v h i × BulkRing v h × (i < h.n)
SourceKnows fs fo (all_reload h) mine v = Bulk fs fo mine v h h.n × (h.ring < v.top)
SourceKnows fs fo (all_exchange h) mine v = Bulk fs fo mine v h h.n × (h.ring < v.top)
SourceKnows fs fo (one_first h x) mine v = Single fs v h × Has v h.f x
SourceKnows fs fo (one_back h i) mine v = Before fs v h
SourceKnows fs fo (one_read h i) mine v = Single fs v h
SourceKnows fs fo (one_reload h i x) mine v = Single fs v h × (v.ring ≡ h.ring → Has v h.f x)
SourceKnows fs fo (one_exchange h i x) mine v = Single fs v h × Has v h.f x

-- a length: of the own queue it has loaded the back that is there
abbrev pub LengthKnows : LengthStage → ℕ → Type 0
LengthKnows length_back back = Unit
LengthKnows (length_front b) back = b ≡ back

-- ---- the whole

module _ (n : ℕ) (fl : ℕ → Flavour) where
  -- the stage of a queue's owner. A stage that does not work on the queue counts as idle
  abbrev pub seen : State → ℕ → View
  seen s k = view (s.stages (owner k)) (s.queues k)

  -- what thread t, at this stage, knows of its source
  abbrev pub Aware : State → ℕ → Stage → Type 0
  Aware s t idle = Unit
  Aware s t (push x p) = Unit
  Aware s t (fifo_pop w p) = Unit
  Aware s t (lifo_pop w p) = Unit
  Aware s t (shrink w v z) = Unit
  Aware s t (steal k p) = (k < n) × StealKnows (fl k) p (seen s k)
  Aware s t (len k p) = (k < n) × (k ≡ own_queue t → LengthKnows p (s.queues k).back)
  Aware s t (own_batch p) = Unit
  Aware s t (source k p) = (k < n) × (k ≡ own_queue t → ⊥) × SourceKnows (fl k) (fl (own_queue t)) p (at (s.queues (own_queue t))) (seen s k)
  Aware s t (own k p) = (k < n) × (k ≡ own_queue t → ⊥) × OwnKnows (fl k) (fl (own_queue t)) p (at (s.queues (own_queue t))) (seen s k)

  -- mem: what each thread last began to push
  pub record Inv (mem : ℕ → ℕ) (s : State) : Type 0 where
    pub oks : (k : ℕ) → k < n → Ok (fl k) (s.stages (owner k)) (s.queues k)
    pub aware : (t : ℕ) → t < n → Aware s t (s.stages t)
    pub says : (t : ℕ) → t < n → Says (mem t) (s.stages t)

  -- in queue k and with its owner
  abbrev pub amount_at : State → ℕ → ℕ → ℕ
  amount_at s j k = amount (s.stages (owner k)) (s.queues k) j

  abbrev pub total : State → ℕ → ℕ
  total s j = sum_to n (amount_at s j)

  -- what one call keeps. m: what the thread last began to push, before the call; mem: what each did, after it; s, s': the states; a: the answer
  pub record Kept (m : ℕ) (mem : ℕ → ℕ) (s s' : State) (a : Answer) : Type 0 where
    pub inv : Inv mem s'
    pub bal : (j : ℕ) → accepts m a j + total s j ≡ gives a j + total s' j
