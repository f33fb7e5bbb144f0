-- Other names for rings that nobody has: the same linked state. And what a stage that builds nothing does not depend on.
use Rattle.std.proofs.Common.{◌≡◌, ℕ, ◌<◌, List, sym, refl, ap, ◌∙◌, inl, inr}
use native.Mathlib.Decide.{ℕ_discrete}
use Rattle.ring.specs.declared.Ring.{Ring}
use Rattle.machine.specs.declared.state.Machine.{Machine}
use Rattle.model.specs.Count.{upd}
use Rattle.model.specs.Stage.{Flavour, ResizeStage, resize_back, resize_front, resize_copy, resize_swap, PushStage, push_back, push_front}
use Rattle.model.specs.Stage.{push_resize, push_write, push_store, own, StealStage, steal_front, steal_back, steal_ring, steal_read, steal_reload}
use Rattle.model.specs.Stage.{steal_exchange, source, SourceStage, source_front, source_back, source_ring, source_first, all_copy, all_reload}
use Rattle.model.specs.Stage.{all_exchange, one_first, one_back, one_read, one_reload, one_exchange, OwnStage, reserve_back, reserve_front}
use Rattle.model.specs.Stage.{reserve_resize, own_back, all_write, one_write, swap_near, swap_far, swap_put, swap_last, own_store, Stage, idle, push}
use Rattle.model.specs.Stage.{fifo_pop, lifo_pop, shrink, steal, len, own_batch}
use Rattle.model.specs.Machine.{State}
use Rattle.model.specs.Invariant.{Inv}
use Rattle.model.specs.Memory.{StealHolds, OwnHolds, SourceHolds, Holds, builds, not_building, builds_resize, builds_push, builds_own, Named}
use Rattle.model.proofs.CountLaws.{upd_same, upd_other}
use Rattle.model.proofs.Places.{held_named, live_named}
use Rattle.link.specs.Map.{resize_at, push_at, steal_at, source_at, own_at, stage_for}
use Rattle.link.specs.Linked.{pool_of, ResizeFits, PushFits, OwnFits, StageFits, Linked}
use Rattle.link.proofs.KeptLaws.{builds_one}

-- ---- stages under two namings

resize_as : (a b : Ring) (z : ResizeStage) → ((builds_resize z ≡ not_building → ⊥) → a ≡ b) → resize_at a z ≡ resize_at b z
resize_as a b (resize_back c) h = refl
resize_as a b (resize_front c i) h = refl
resize_as a b (resize_copy c i j f) h = rw (h (λ e. builds_one c f e))
resize_as a b (resize_swap c f) h = rw (h (λ e. builds_one c f e))

push_as : (a b : Ring) (p : PushStage) → ((builds_push p ≡ not_building → ⊥) → a ≡ b) → push_at a p ≡ push_at b p
push_as a b push_back h = refl
push_as a b (push_front i) h = refl
push_as a b (push_resize i z) h = rw (resize_as a b z h)
push_as a b (push_write i) h = refl
push_as a b (push_store i) h = refl

steal_as : (A B : ℕ → Ring) (p : StealStage) → ((r : ℕ) → StealHolds p r → A r ≡ B r) → steal_at A p ≡ steal_at B p
steal_as A B steal_front h = refl
steal_as A B (steal_back f) h = refl
steal_as A B (steal_ring f) h = refl
steal_as A B (steal_read r f) h = rw (h r refl)
steal_as A B (steal_reload r f v) h = rw (h r refl)
steal_as A B (steal_exchange r f v) h = rw (h r refl)

source_as : (A B : ℕ → Ring) (p : SourceStage) → ((r : ℕ) → SourceHolds p r → A r ≡ B r) → source_at A p ≡ source_at B p
source_as A B (source_front m others) h = refl
source_as A B (source_back m others f) h = refl
source_as A B (source_ring w b) h = refl
source_as A B (source_first j) h = rw (h j.ring refl)
source_as A B (all_copy j i) h = rw (h j.ring refl)
source_as A B (all_reload j) h = rw (h j.ring refl)
source_as A B (all_exchange j) h = rw (h j.ring refl)
source_as A B (one_first j v) h = rw (h j.ring refl)
source_as A B (one_back j i) h = rw (h j.ring refl)
source_as A B (one_read j i) h = rw (h j.ring refl)
source_as A B (one_reload j i v) h = rw (h j.ring refl)
source_as A B (one_exchange j i v) h = rw (h j.ring refl)

own_as : (A B : ℕ → Ring) (a b : Ring) (p : OwnStage) → ((r : ℕ) → OwnHolds p r → A r ≡ B r) → ((builds_own p ≡ not_building → ⊥) → a ≡ b)
    → own_at A a p ≡ own_at B b p
own_as A B a b (reserve_back w) h l = refl
own_as A B a b (reserve_front w i) h l = refl
own_as A B a b (reserve_resize w z) h l = rw (resize_as a b z l)
own_as A B a b (own_back w) h l = refl
own_as A B a b (all_write j i v) h l = rw (h j.ring refl)
own_as A B a b (one_write j i v) h l = rw (h j.ring refl)
own_as A B a b (swap_near j x) h l = rw (h j.ring refl)
own_as A B a b (swap_far j x near) h l = rw (h j.ring refl)
own_as A B a b (swap_put j x near far) h l = rw (h j.ring refl)
own_as A B a b (swap_last j x near) h l = rw (h j.ring refl)
own_as A B a b (own_store j) h l = rw (h j.ring refl)

pub stage_as : (A B : ℕ → ℕ → Ring) (a b : Ring) (x : Stage) → ((k r : ℕ) → Holds x k r → A k r ≡ B k r) → ((builds x ≡ not_building → ⊥) → a ≡ b)
    → stage_for A a x ≡ stage_for B b x
stage_as A B a b idle h l = refl
stage_as A B a b (push x p) h l = rw (push_as a b p l)
stage_as A B a b (fifo_pop w p) h l = refl
stage_as A B a b (lifo_pop w p) h l = refl
stage_as A B a b (shrink w v z) h l = rw (resize_as a b z l)
stage_as A B a b (steal k p) h l = rw (steal_as (A k) (B k) p (λ r e. h k r (refl, e)))
stage_as A B a b (len k p) h l = refl
stage_as A B a b (own_batch p) h l = refl
stage_as A B a b (source k p) h l = rw (source_as (A k) (B k) p (λ r e. h k r (refl, e)))
stage_as A B a b (own k p) h l = rw (own_as (A k) (B k) a b p (λ r e. h k r (refl, e)) l)

-- ---- capacities under two namings

resize_fits : (a b : ℕ) (z : ResizeStage) → ((builds_resize z ≡ not_building → ⊥) → b ≡ a) → ResizeFits a z → ResizeFits b z
resize_fits a b (resize_back c) h e = e
resize_fits a b (resize_front c i) h e = e
resize_fits a b (resize_copy c i j f) h e = h (builds_one c f) ∙ e
resize_fits a b (resize_swap c f) h e = h (builds_one c f) ∙ e

push_fits : (a b : ℕ) (p : PushStage) → ((builds_push p ≡ not_building → ⊥) → b ≡ a) → PushFits a p → PushFits b p
push_fits a b push_back h e = tt
push_fits a b (push_front i) h e = tt
push_fits a b (push_resize i z) h e = resize_fits a b z h e
push_fits a b (push_write i) h e = tt
push_fits a b (push_store i) h e = tt

own_fits : (a b : ℕ) (p : OwnStage) → ((builds_own p ≡ not_building → ⊥) → b ≡ a) → OwnFits a p → OwnFits b p
own_fits a b (reserve_back w) h e = tt
own_fits a b (reserve_front w i) h e = tt
own_fits a b (reserve_resize w z) h e = resize_fits a b z h e
own_fits a b (own_back w) h e = tt
own_fits a b (all_write j i v) h e = tt
own_fits a b (one_write j i v) h e = tt
own_fits a b (swap_near j x) h e = tt
own_fits a b (swap_far j x near) h e = tt
own_fits a b (swap_put j x near far) h e = tt
own_fits a b (swap_last j x near) h e = tt
own_fits a b (own_store j) h e = tt

pub stage_fits : (a b : ℕ) (x : Stage) → ((builds x ≡ not_building → ⊥) → b ≡ a) → StageFits a x → StageFits b x
stage_fits a b idle h e = tt
stage_fits a b (push x p) h e = push_fits a b p h e
stage_fits a b (fifo_pop w p) h e = tt
stage_fits a b (lifo_pop w p) h e = tt
stage_fits a b (shrink w v z) h e = resize_fits a b z h e
stage_fits a b (steal k p) h e = tt
stage_fits a b (len k p) h e = tt
stage_fits a b (own_batch p) h e = tt
stage_fits a b (source k p) h e = tt
stage_fits a b (own k p) h e = own_fits a b p h e

-- ---- a linked state under two namings

-- another name for one ring
abbrev pub extend : (ℕ → ℕ → Ring) → ℕ → ℕ → Ring → ℕ → ℕ → Ring
extend R t r w = upd R t (upd (R t) r w)

pub extend_same : (R : ℕ → ℕ → Ring) (t r : ℕ) (w : Ring) → extend R t r w t r ≡ w
extend_same R t r w = ap (λ (f : ℕ → Ring). f r) (upd_same R t (upd (R t) r w) t refl) ∙ upd_same (R t) r w r refl

pub extend_other : (R : ℕ → ℕ → Ring) (t r : ℕ) (w : Ring) (k j : ℕ) → ((k ≡ t) × (j ≡ r) → ⊥) → extend R t r w k j ≡ R k j
extend_other R t r w k j d = go (ℕ_discrete k t)
  where
    go : Dec (k ≡ t) → extend R t r w k j ≡ R k j
    go (yes e) = ap (λ (f : ℕ → Ring). f j) (upd_same R t (upd (R t) r w) k e) ∙ upd_other (R t) r w j (λ z. d (e, z)) ∙ ap (λ (k : ℕ). R k j) (sym e)
    go (no e) = ap (λ (f : ℕ → Ring). f j) (upd_other R t (upd (R t) r w) k e)

module _ (n : ℕ) (fl : ℕ → Flavour) (A B : ℕ → ℕ → Ring) (s : State) (m : Machine) (cells : List ℕ) (w : Linked n fl A s m cells) (mem : ℕ → ℕ)
    (v : Inv n fl mem s)
    (same : (k r : ℕ) → k < n → Named n s k r → B k r ≡ A k r) where
  pub renamed : Linked n fl B s m cells
  renamed = record {
    counts = w.counts;
    count = w.count;
    queue_list = w.queue_list;
    thread_list = w.thread_list;
    pool_length = w.pool_length;
    queues = λ k l. (let e = same k (s.queues k).ring l (inl (v.oks k l).ring_top) in rw e (w.queues k l));
    stages = λ t l.
        w.stages t l
        ∙ stage_as A B (A t (s.queues t).top) (B t (s.queues t).top) (s.stages t)
        (λ k r h. (let a = held_named n fl mem s v k r (t, l, h) in sym (same k r a.0 (inl a.1))))
        (λ b. sym (same t (s.queues t).top l (inr (refl, b))));
    caps = λ k r l h. ap (λ (x : Ring). x.capacity) (same k r l (inl h)) ∙ w.caps k r l h;
    sizes = λ t l. stage_fits (A t (s.queues t).top).capacity (B t (s.queues t).top).capacity (s.stages t)
        (λ b. ap (λ (x : Ring). x.capacity) (same t (s.queues t).top l (inr (refl, b)))) (w.sizes t l);
    rings = λ k r l h. rw (same k r l h) (w.rings k r l h);
    numbers = λ k r j i l u h g e.
        w.numbers k r j i l u h g (ap (λ (x : Ring). x.number.0) (sym (same k r l h)) ∙ e ∙ ap (λ (x : Ring). x.number.0) (same j i u g));
    next = λ k r l h. rw (same k r l h) (w.next k r l h);
    keeps = record {
      agree = λ k r l x. ap (λ (y : Ring). pool_of cells y.place.0 x) (same k r l.0 (live_named n fl mem s v k r l)) ∙ w.keeps.agree k r l x;
      apart = λ k r j i l u e. w.keeps.apart k r j i l u
          (ap (λ (y : Ring). y.place.0) (sym (same k r l.0 (live_named n fl mem s v k r l))) ∙ e
          ∙ ap (λ (y : Ring). y.place.0) (same j i u.0 (live_named n fl mem s v j i u)));
    };
  }
