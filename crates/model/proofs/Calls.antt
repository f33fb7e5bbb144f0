-- One call keeps the invariant and the balance: accepted and what was there before = answered and what is there after.
use mathlib.Core.Path.{◌≡◌, refl, sym, ap, ◌∙◌, subst}
use Prim.Native.Nat.{ℕ, ◌+◌, ◌<◌}
use native.Mathlib.Omega.{arith}
use native.Mathlib.Decide.{ℕ_discrete}
use lib.Dec.{T, eqb}
use Rattle.base.specs.Tests.{by_test, tests}
use Rattle.model.specs.Count.{upd, stand}
use Rattle.model.specs.Stage.{Flavour, fifo, lifo, Queue, at, push_back, fifo_back, lifo_back, own, Popper, by_pop, by_batch, steal_front}
use Rattle.model.specs.Stage.{length_back, BatchKind, plain, and_pop, source, SourceStage, source_front, Stage, idle, push, fifo_pop, lifo_pop}
use Rattle.model.specs.Stage.{shrink, steal, len, own_batch, working, Out}
use Rattle.model.specs.Tables.{Offer, push_step, shrink_step, fifo_step, lifo_step, steal_step, length_step, own_batch_step, source_step, own_step}
use Rattle.model.specs.Machine.{State, busy, stored, step_out, stepped, Operation, do_push, do_pop, do_length, do_steal, do_batch, popping}
use Rattle.model.specs.Machine.{from_own, begun, wish, Exists}
use Rattle.model.specs.Logical.{lo, hi, held, amount, accepts, gives, Says}
use Rattle.model.specs.Invariant.{StageOk, Ok, view, Ev, LengthKnows, seen, Aware, Inv, amount_at, total, Kept}
use Rattle.model.proofs.CountLaws.{upd_same, upd_other, sum_cong, sum_but, sum_two}
use Rattle.model.proofs.Stable.{ev_refl, stable_steal, stable_own, stable_source}
use Rattle.model.proofs.Good.{Good, Calm, ok_as}
use Rattle.model.proofs.Push.{push_good}
use Rattle.model.proofs.Pops.{shrink_good, fifo_good, lifo_good}
use Rattle.model.proofs.Steal.{From, Knows, Fair, steal_fair, length_fair, own_batch_fair}
use Rattle.model.proofs.Batch.{Aft}
use Rattle.model.proofs.Own.{own_good}
use Rattle.model.proofs.Source.{Rob, source_rob}

module _ (n : ℕ) (fl : ℕ → Flavour) where
  -- what a call of thread t must show
  record Frame (s s' : State) (t : ℕ) : Type 0 where
    oks : (i : ℕ) → i < n → Ok (fl i) (s'.stages i) (s'.queues i)
    evs : (i : ℕ) → i < n → Ev (fl i) (seen n fl s i) (seen n fl s' i)
    cells : (i : ℕ) → i < n → (i ≡ t → ⊥) → at (s'.queues i) ≡ at (s.queues i)
    backs : (i : ℕ) → i < n → (i ≡ t → ⊥) → (s'.queues i).back ≡ (s.queues i).back
    others : (u : ℕ) → (u ≡ t → ⊥) → s'.stages u ≡ s.stages u
    aware : Aware n fl s' t (s'.stages t)

  aware_on : (s s' : State) (u : ℕ) → ((i : ℕ) → i < n → Ev (fl i) (seen n fl s i) (seen n fl s' i)) → at (s'.queues u) ≡ at (s.queues u)
      → (s'.queues u).back ≡ (s.queues u).back → (x : Stage)
      → Aware n fl s u x → Aware n fl s' u x
  aware_on s s' u e c d idle w = tt
  aware_on s s' u e c d (push x p) w = tt
  aware_on s s' u e c d (fifo_pop a p) w = tt
  aware_on s s' u e c d (lifo_pop a p) w = tt
  aware_on s s' u e c d (shrink a v z) w = tt
  aware_on s s' u e c d (steal k p) w = (w.0, stable_steal (fl k) p (seen n fl s k) (seen n fl s' k) (e k w.0) w.1)
  aware_on s s' u e c d (len k p) w =
      (w.0, λ h. subst (LengthKnows p) (ap (λ (i : ℕ). (s.queues i).back) h ∙ sym d ∙ ap (λ (i : ℕ). (s'.queues i).back) (sym h)) (w.1 h))
  aware_on s s' u e c d (own_batch p) w = tt
  aware_on s s' u e c d (source k p) w =
      (w.0, w.1, rw c (stable_source (fl k) (fl u) (at (s.queues u)) (seen n fl s k) (seen n fl s' k) (e k w.0) p w.2))
  aware_on s s' u e c d (own k p) w =
      (w.0, w.1, rw c (stable_own (fl k) (fl u) (at (s.queues u)) (seen n fl s k) (seen n fl s' k) (e k w.0) p w.2))

  framed : (mem mem' : ℕ → ℕ) (s s' : State) (t : ℕ) → Inv n fl mem s → Frame s s' t → ((u : ℕ) → (u ≡ t → ⊥) → mem' u ≡ mem u)
      → Says (mem' t) (s'.stages t) → Inv n fl mem' s'
  framed mem mem' s s' t v f a b = record { oks = f.oks; aware = λ u h. go u h (ℕ_discrete u t); says = λ u h. to u h (ℕ_discrete u t) }
    where
      go : (u : ℕ) → u < n → Dec (u ≡ t) → Aware n fl s' u (s'.stages u)
      go u h (yes e) = rw e f.aware
      go u h (no d) = rw (f.others u d) (aware_on s s' u f.evs (f.cells u h d) (f.backs u h d) (s.stages u) (v.aware u h))

      to : (u : ℕ) → u < n → Dec (u ≡ t) → Says (mem' u) (s'.stages u)
      to u h (yes e) = rw e b
      to u h (no d) = rw (f.others u d, a u d) (v.says u h)

  each : (P : ℕ → Type 0) (t : ℕ) → P t → ((i : ℕ) → i < n → (i ≡ t → ⊥) → P i) → (i : ℕ) → i < n → P i
  each P t p q i h = go (ℕ_discrete i t)
    where
      go : Dec (i ≡ t) → P i
      go (yes e) = subst P (sym e) p
      go (no d) = q i h d

  total_one : (s s' : State) (t j x y : ℕ) → t < n → ((i : ℕ) → i < n → (i ≡ t → ⊥) → amount_at n fl s' j i ≡ amount_at n fl s j i)
      → x + amount_at n fl s j t ≡ y + amount_at n fl s' j t → x + total n fl s j ≡ y + total n fl s' j
  total_one s s' t j x y l h e = omega (arith, e, sum_but n t (amount_at n fl s' j) (amount_at n fl s j) l h)

  -- ---- a step of thread t on its own queue, known index by index

  by_owner : (mem : ℕ → ℕ) (P : Stage → Queue → Type 0) (s s' : State) (t : ℕ) (o : Out) → Inv n fl mem s → t < n
      → Good P (fl t) (s.stages t) (s.queues t) o → s'.stages t ≡ o.stage → s'.queues t ≡ o.queue
      → ((i : ℕ) → (i ≡ t → ⊥) → s'.stages i ≡ s.stages i)
      → ((i : ℕ) → (i ≡ t → ⊥) → s'.queues i ≡ s.queues i) → Aware n fl s' t o.stage → Kept n fl (mem t) mem s s' o.answer
  by_owner mem P s s' t o v l g e f a b w = record {
    inv = framed mem mem s s' t v record {
      oks = each (λ (i : ℕ). Ok (fl i) (s'.stages i) (s'.queues i)) t (rw (e, f) g.ok) (λ i h d. rw (a i d, b i d) (v.oks i h));
      evs = each (λ (i : ℕ). Ev (fl i) (seen n fl s i) (seen n fl s' i)) t (rw (e, f) g.ev)
          (λ i h d. rw (a i d, b i d) (ev_refl (fl i) (seen n fl s i)));
      cells = λ i h d. ap at (b i d);
      backs = λ i h d. ap (λ (q : Queue). q.back) (b i d);
      others = a;
      aware = rw e w;
    } (λ u d. refl) (rw e (g.says (mem t) (v.says t l)));
    bal = λ j. total_one s s' t j (accepts (mem t) o.answer j) (gives o.answer j) l (λ i h d. rw (a i d, b i d))
        (rw (e, f) (g.bal (mem t) j (v.says t l)));
  }

  -- ---- a step of a batch on its source

  aft_aware : (s : State) (t k : ℕ) → k < n → (k ≡ t → ⊥) → (x : Stage) → Aft k (fl k) (fl t) (seen n fl s k) x (s.queues t) → Aware n fl s t x
  aft_aware s t k l d idle w = tt
  aft_aware s t k l d (push x p) w = tt
  aft_aware s t k l d (fifo_pop a p) w = tt
  aft_aware s t k l d (lifo_pop a p) w = tt
  aft_aware s t k l d (shrink a v z) w = tt
  aft_aware s t k l d (steal i p) w = absurd w
  aft_aware s t k l d (len i p) w = absurd w
  aft_aware s t k l d (own_batch p) w = absurd w
  aft_aware s t k l d (source i p) w = rw w.0 (l, d, w.1)
  aft_aware s t k l d (own i p) w = rw w.0 (l, d, w.1)

  each_two : (P : ℕ → Type 0) (t k : ℕ) → P t → P k → ((i : ℕ) → i < n → (i ≡ t → ⊥) → (i ≡ k → ⊥) → P i) → (i : ℕ) → i < n → P i
  each_two P t k p r q = each P t p (λ i h d. go i h d (ℕ_discrete i k))
    where
      go : (i : ℕ) → i < n → (i ≡ t → ⊥) → Dec (i ≡ k) → P i
      go i h d (yes e) = subst P (sym e) r
      go i h d (no e) = q i h d e

  by_batch_lem : (mem : ℕ → ℕ) (s s' : State) (t k : ℕ) (p : SourceStage) (o : Out) → Inv n fl mem s → t < n → k < n → (k ≡ t → ⊥)
      → s.stages t ≡ source k p
      → Rob (fl k) (fl t) k (s.stages k) (s.queues k) p (s.queues t) o → s'.stages t ≡ o.stage → s'.queues k ≡ o.queue
      → ((i : ℕ) → (i ≡ t → ⊥) → s'.stages i ≡ s.stages i) → ((i : ℕ) → (i ≡ k → ⊥) → s'.queues i ≡ s.queues i)
      → Kept n fl (mem t) mem s s' o.answer
  by_batch_lem mem s s' t k p o v l h d z g e f a b =
      let d' : t ≡ k → ⊥ = λ u. d (sym u) in
      record {
        inv = framed mem mem s s' t v record {
          oks = each_two (λ (i : ℕ). Ok (fl i) (s'.stages i) (s'.queues i)) t k (rw (e, b t d') g.own_ok) (rw (a k d, f) g.ok)
              (λ i m x y. rw (a i x, b i y) (v.oks i m));
          evs = each_two (λ (i : ℕ). Ev (fl i) (seen n fl s i) (seen n fl s' i)) t k
              (rw (e, b t d', z, g.own_lo, g.own_hi) (ev_refl (fl t) (view (source k p) (s.queues t)))) (rw (a k d, f) g.ev)
              (λ i m x y. rw (a i x, b i y) (ev_refl (fl i) (seen n fl s i)));
          cells = λ i m x. there i x (ℕ_discrete i k);
          backs = λ i m x. still_back i (ℕ_discrete i k);
          others = a;
          aware = rw e (aft_aware s' t k h d o.stage (rw (a k d, f, b t d') g.after));
        } (λ u x. refl) (rw e (g.says (mem t)));
        bal = λ j. omega (
          arith,
          g.bal (mem t) j,
          was j,
          is j,
          at_k j,
          sum_two n k t (amount_at n fl s' j) (amount_at n fl s j) h l d' (λ i m x y. rw (a i y, b i x)),
        );
      }
    where
      there : (i : ℕ) → (i ≡ t → ⊥) → Dec (i ≡ k) → at (s'.queues i) ≡ at (s.queues i)
      there i x (yes y) = rw (y, f) g.cells
      there i x (no y) = ap at (b i y)

      still_back : (i : ℕ) → Dec (i ≡ k) → (s'.queues i).back ≡ (s.queues i).back
      still_back i (yes y) = rw (y, f) g.backs
      still_back i (no y) = ap (λ (q : Queue). q.back) (b i y)

      was : (j : ℕ) → amount_at n fl s j t ≡ stand (at (s.queues t)) (s.queues t).front (s.queues t).back j + held (source k p) (s.queues t) j
      was j = rw z

      is : (j : ℕ) → amount_at n fl s' j t ≡ stand (at (s.queues t)) (s.queues t).front (s.queues t).back j + held o.stage (s.queues t) j
      is j = let x : t ≡ k → ⊥ = λ u. d (sym u) in rw (e, b t x, g.own_lo, g.own_hi)

      at_k : (j : ℕ) → amount_at n fl s' j k ≡ amount (s.stages k) o.queue j
      at_k j = rw (a k d, f)

  -- ---- a step of a look or a steal: t may be k's owner, but then it is at no work of an owner

  abbrev Neutral : Stage → Type 0
  Neutral idle = Unit
  Neutral (push x p) = ⊥
  Neutral (fifo_pop a p) = ⊥
  Neutral (lifo_pop a p) = ⊥
  Neutral (shrink a v z) = ⊥
  Neutral (steal k p) = Unit
  Neutral (len k p) = Unit
  Neutral (own_batch p) = Unit
  Neutral (source k p) = ⊥
  Neutral (own k p) = ⊥

  -- a neutral stage is as good as idle
  record Resting (x : Stage) (q : Queue) : Type 0 where
    low : lo x q ≡ q.front
    high : hi x q ≡ q.back
    holds : (j : ℕ) → held x q j ≡ 0
    stage : (g : Flavour) → StageOk g x q
    mute : (m : ℕ) → Says m x

  at_rest : (x : Stage) (q : Queue) → Neutral x → Resting x q
  at_rest idle q c = record { low = refl; high = refl; holds = λ j. refl; stage = λ g. tt; mute = λ m. tt }
  at_rest (push x p) q c = absurd c
  at_rest (fifo_pop a p) q c = absurd c
  at_rest (lifo_pop a p) q c = absurd c
  at_rest (shrink a v z) q c = absurd c
  at_rest (steal k p) q c = record { low = refl; high = refl; holds = λ j. refl; stage = λ g. tt; mute = λ m. tt }
  at_rest (len k p) q c = record { low = refl; high = refl; holds = λ j. refl; stage = λ g. tt; mute = λ m. tt }
  at_rest (own_batch p) q c = record { low = refl; high = refl; holds = λ j. refl; stage = λ g. tt; mute = λ m. tt }
  at_rest (source k p) q c = absurd c
  at_rest (own k p) q c = absurd c

  from_neutral : (k : ℕ) (x : Stage) → From k x → Neutral x
  from_neutral k idle f = tt
  from_neutral k (push x p) f = f
  from_neutral k (fifo_pop a p) f = f
  from_neutral k (lifo_pop a p) f = f
  from_neutral k (shrink a v z) f = f
  from_neutral k (steal i p) f = tt
  from_neutral k (len i p) f = tt
  from_neutral k (own_batch p) f = tt
  from_neutral k (source i p) f = f
  from_neutral k (own i p) f = f

  from_aware : (s : State) (t k : ℕ) (x : Stage) → k < n → From k x → Knows (fl k) x (seen n fl s k) (s.queues k).back → Aware n fl s t x
  from_aware s t k idle l f w = tt
  from_aware s t k (push x p) l f w = tt
  from_aware s t k (fifo_pop a p) l f w = tt
  from_aware s t k (lifo_pop a p) l f w = tt
  from_aware s t k (shrink a v z) l f w = tt
  from_aware s t k (steal i p) l f w = rw f (l, w)
  from_aware s t k (len i p) l f w = rw f (l, λ e. w)
  from_aware s t k (own_batch p) l f w = tt
  from_aware s t k (source i p) l f w = absurd f
  from_aware s t k (own i p) l f w = absurd f

  -- thread t alone goes from one neutral stage to another
  module _ (s s' : State) (t : ℕ) (c : Neutral (s.stages t)) (c' : Neutral (s'.stages t)) (a : (i : ℕ) → (i ≡ t → ⊥) → s'.stages i ≡ s.stages i)
    where
      ok_like : (q : Queue) (i : ℕ) → i < n → Ok (fl i) (s.stages i) q → Ok (fl i) (s'.stages i) q
      ok_like q = each (λ (i : ℕ). Ok (fl i) (s.stages i) q → Ok (fl i) (s'.stages i) q) t
          (λ o. (let x = at_rest (s.stages t) q c in let y = at_rest (s'.stages t) q c' in
          ok_as (fl t) (s.stages t) (s'.stages t) q o (y.low ∙ sym x.low) (y.high ∙ sym x.high)
          (y.stage (fl t)))) (λ i h d o. rw (a i d) o)

      view_like : (q : Queue) (i : ℕ) → i < n → view (s'.stages i) q ≡ view (s.stages i) q
      view_like q = each (λ (i : ℕ). view (s'.stages i) q ≡ view (s.stages i) q) t
          (let x = at_rest (s.stages t) q c in let y = at_rest (s'.stages t) q c' in rw (x.low, y.low, x.high, y.high))
          (λ i h d. ap (λ (x : Stage). view x q) (a i d))

      amount_like : (q : Queue) (j i : ℕ) → i < n → amount (s'.stages i) q j ≡ amount (s.stages i) q j
      amount_like q j = each (λ (i : ℕ). amount (s'.stages i) q j ≡ amount (s.stages i) q j) t
          (let x = at_rest (s.stages t) q c in let y = at_rest (s'.stages t) q c' in rw (x.low, y.low, x.high, y.high, x.holds j, y.holds j))
          (λ i h d. ap (λ (x : Stage). amount x q j) (a i d))

  by_thief : (mem : ℕ → ℕ) (s s' : State) (t k : ℕ) (o : Out) → Inv n fl mem s → t < n → k < n → Neutral (s.stages t)
      → Fair (fl k) k (s.stages k) (s.queues k) o → s'.stages t ≡ o.stage → s'.queues k ≡ o.queue
      → ((i : ℕ) → (i ≡ t → ⊥) → s'.stages i ≡ s.stages i) → ((i : ℕ) → (i ≡ k → ⊥) → s'.queues i ≡ s.queues i)
      → Kept n fl (mem t) mem s s' o.answer
  by_thief mem s s' t k o v l h c g e f a b =
      let c' : Neutral (s'.stages t) = rw e (from_neutral k o.stage g.from) in
      record {
        inv = framed mem mem s s' t v record {
          oks = λ i m. ok_like s s' t c c' a (s'.queues i) i m
              (each (λ (i : ℕ). Ok (fl i) (s.stages i) (s'.queues i)) k (rw f g.ok) (λ i m d. rw (b i d) (v.oks i m)) i m);
          evs = λ i m. rw (view_like s s' t c c' a (s'.queues i) i m)
              (each (λ (i : ℕ). Ev (fl i) (seen n fl s i) (view (s.stages i) (s'.queues i))) k (rw f g.ev) (λ i m d. rw (b i d) (ev_refl (fl i) (seen n fl s i))) i m);
          cells = λ i m x. there i (ℕ_discrete i k);
          backs = λ i m x. still_back i (ℕ_discrete i k);
          others = a;
          aware = rw e (from_aware s' t k o.stage h g.from (rw (view_like s s' t c c' a (s'.queues k) k h, f) g.knows));
        } (λ u x. refl) ((at_rest (s'.stages t) (s'.queues t) c').mute (mem t));
        bal = λ j. total_one s s' k j (accepts (mem t) o.answer j) (gives o.answer j) h
            (λ i m d. amount_like s s' t c c' a (s'.queues i) j i m ∙ ap (λ (q : Queue). amount (s.stages i) q j) (b i d))
            (rw (amount_like s s' t c c' a (s'.queues k) j k h, f) (g.bal (mem t) j));
      }
    where
      there : (i : ℕ) → Dec (i ≡ k) → at (s'.queues i) ≡ at (s.queues i)
      there i (yes y) = rw (y, f) g.cells
      there i (no y) = ap at (b i y)

      still_back : (i : ℕ) → Dec (i ≡ k) → (s'.queues i).back ≡ (s.queues i).back
      still_back i (yes y) = rw (y, f) g.backs
      still_back i (no y) = ap (λ (q : Queue). q.back) (b i y)

  -- ---- step

  owned : (mem : ℕ → ℕ) (P : Stage → Queue → Type 0) (s : State) (t : ℕ) (x : Stage) (o : Out) → Inv n fl mem s → t < n → s.stages t ≡ x
      → Good P (fl t) x (s.queues t) o → Aware n fl (stored s t t o) t o.stage → Kept n fl (mem t) mem s (stored s t t o) o.answer
  owned mem P s t x o v l e g w =
      by_owner mem P s (stored s t t o) t o v l (rw e g) (upd_same s.stages t o.stage t refl) (upd_same s.queues t o.queue t refl)
      (λ i d. upd_other s.stages t o.stage i d) (λ i d. upd_other s.queues t o.queue i d) w

  calm_aware : (s : State) (t : ℕ) (x : Stage) (q : Queue) → Calm x q → Aware n fl s t x
  calm_aware s t idle q c = tt
  calm_aware s t (push x p) q c = tt
  calm_aware s t (fifo_pop a p) q c = tt
  calm_aware s t (lifo_pop a p) q c = tt
  calm_aware s t (shrink a v z) q c = tt
  calm_aware s t (steal k p) q c = absurd c
  calm_aware s t (len k p) q c = absurd c
  calm_aware s t (own_batch p) q c = tt
  calm_aware s t (source k p) q c = absurd c
  calm_aware s t (own k p) q c = absurd c

  calmly : (mem : ℕ → ℕ) (s : State) (t : ℕ) (x : Stage) (o : Out) → Inv n fl mem s → t < n → s.stages t ≡ x → Good Calm (fl t) x (s.queues t) o
      → Kept n fl (mem t) mem s (stored s t t o) o.answer
  calmly mem s t x o v l e g = owned mem Calm s t x o v l e g (calm_aware (stored s t t o) t o.stage o.queue g.after)

  looking : (mem : ℕ → ℕ) (s : State) (t k : ℕ) (o : Out) → Inv n fl mem s → t < n → k < n → Neutral (s.stages t)
      → Fair (fl k) k (s.stages k) (s.queues k) o → Kept n fl (mem t) mem s (stored s t k o) o.answer
  looking mem s t k o v l h c g =
      by_thief mem s (stored s t k o) t k o v l h c g (upd_same s.stages t o.stage t refl) (upd_same s.queues k o.queue k refl)
      (λ i d. upd_other s.stages t o.stage i d) (λ i d. upd_other s.queues k o.queue i d)

  step_from : (mem : ℕ → ℕ) (s : State) (t : ℕ) (g : Offer) (x : Stage) → Inv n fl mem s → t < n → s.stages t ≡ x → T (busy x)
      → Kept n fl (mem t) mem s (stepped fl s t g x) (step_out fl s t g x).answer
  step_from mem s t g idle v l e b = absurd b
  step_from mem s t g (push x p) v l e b =
      calmly mem s t (push x p) (push_step g x p (s.queues t)) v l e (push_good g (fl t) x p (s.queues t) (rw e at (v.oks t l)))
  step_from mem s t g (fifo_pop a p) v l e b =
      calmly mem s t (fifo_pop a p) (fifo_step g a p (s.queues t)) v l e (fifo_good g (fl t) a p (s.queues t) (rw e at (v.oks t l)))
  step_from mem s t g (lifo_pop a p) v l e b =
      calmly mem s t (lifo_pop a p) (lifo_step g a p (s.queues t)) v l e (lifo_good g (fl t) a p (s.queues t) (rw e at (v.oks t l)))
  step_from mem s t g (shrink a x z) v l e b =
      calmly mem s t (shrink a x z) (shrink_step g a x z (s.queues t)) v l e (shrink_good g (fl t) a x z (s.queues t) (rw e at (v.oks t l)))
  step_from mem s t g (steal k p) v l e b =
      let w : Aware n fl s t (steal k p) = rw e at (v.aware t l) in
      looking mem s t k (steal_step k p (s.queues k)) v l w.0 (rw e tt)
      (steal_fair (fl k) k (s.stages k) (s.queues k) (v.oks k w.0) p w.1)
  step_from mem s t g (len k p) v l e b =
      let h : Aware n fl s t (len k p) = rw e at (v.aware t l) in
      looking mem s t k (length_step k p (s.queues k)) v l h.0 (rw e tt) (length_fair (fl k) k (s.stages k) (s.queues k) (v.oks k h.0) p)
  step_from mem s t g (own_batch p) v l e b =
      looking mem s t t (own_batch_step p (s.queues t)) v l l (rw e tt) (own_batch_fair (fl t) t (s.stages t) (s.queues t) (v.oks t l) p)
  step_from mem s t g (source k p) v l e b =
      let w : Aware n fl s t (source k p) = rw e at (v.aware t l) in
      let o : Out = source_step (fl k) (fl t) k p (s.queues k) in
      by_batch_lem mem s (stored s t k o) t k p o v l w.0 w.1 e
      (source_rob (fl k) (fl t) k (s.stages k) (s.queues k) (v.oks k w.0) (s.queues t) p (rw e at (v.oks t l)) w.2)
      (upd_same s.stages t o.stage t refl) (upd_same s.queues k o.queue k refl) (λ i d. upd_other s.stages t o.stage i d)
      (λ i d. upd_other s.queues k o.queue i d)
  step_from mem s t g (own k p) v l e b =
      let w : Aware n fl s t (own k p) = rw e at (v.aware t l) in
      let o : Out = own_step g (fl t) k p (s.queues t) in
      let r = own_good (fl k) (fl t) k (seen n fl s k) g p (s.queues t) (rw e at (v.oks t l)) w.2 in
      owned mem (Aft k (fl k) (fl t) (seen n fl s k)) s t (own k p) o v l e r
      (aft_aware (stored s t t o) t k w.0 w.1 o.stage
      (rw (upd_other s.stages t o.stage k w.1, upd_other s.queues t o.queue k w.1, upd_same s.queues t o.queue t refl) r.after))

  pub step_kept : (mem : ℕ → ℕ) (s : State) (t : ℕ) (g : Offer) → Inv n fl mem s → t < n → T (busy (s.stages t))
      → Kept n fl (mem t) mem s (stepped fl s t g (s.stages t)) (step_out fl s t g (s.stages t)).answer
  step_kept mem s t g v l b = step_from mem s t g (s.stages t) v l refl b

  -- ---- begin

  starts : (m : ℕ) (mem mem' : ℕ → ℕ) (s : State) (t : ℕ) (x : Stage) → Inv n fl mem s → t < n → s.stages t ≡ idle
      → lo x (s.queues t) ≡ (s.queues t).front
      → hi x (s.queues t) ≡ (s.queues t).back → ((j : ℕ) → held x (s.queues t) j ≡ 0) → StageOk (fl t) x (s.queues t)
      → ((u : ℕ) → (u ≡ t → ⊥) → mem' u ≡ mem u)
      → Says (mem' t) x → Aware n fl (record { stages = upd s.stages t x; queues = s.queues }) t x
      → Kept n fl m mem' s (record { stages = upd s.stages t x; queues = s.queues }) working
  starts m mem mem' s t x v l e a b c p q y w =
      let z = upd_same s.stages t x t refl in
      let o : Ok (fl t) idle (s.queues t) = rw e at (v.oks t l) in
      let s' : State = record { stages = upd s.stages t x; queues = s.queues } in
      record {
        inv = framed mem mem' s s' t v record {
          oks = each (λ (i : ℕ). Ok (fl i) (upd s.stages t x i) (s.queues i)) t (rw z (ok_as (fl t) idle x (s.queues t) o a b p))
              (λ i h d. rw (upd_other s.stages t x i d) (v.oks i h));
          evs = each (λ (i : ℕ). Ev (fl i) (seen n fl s i) (seen n fl s' i)) t (rw (z, e, a, b) (ev_refl (fl t) (view idle (s.queues t))))
              (λ i h d. rw (upd_other s.stages t x i d) (ev_refl (fl i) (seen n fl s i)));
          cells = λ i h d. refl;
          backs = λ i h d. refl;
          others = λ i d. upd_other s.stages t x i d;
          aware = rw z w;
        } q (rw z y);
        bal = λ j. ap (λ (u : ℕ). 0 + u) (sum_cong n (amount_at n fl s j) (amount_at n fl s' j)
            (each (λ (i : ℕ). amount_at n fl s j i ≡ amount_at n fl s' j i) t (rw (z, e, a, b, c j)) (λ i h d. rw (upd_other s.stages t x i d))));
      }

  start_pop : (g : Flavour) (w : Popper) (m : ℕ) (mem : ℕ → ℕ) (s : State) (t : ℕ) → fl t ≡ g → Inv n fl mem s → t < n → s.stages t ≡ idle
      → Kept n fl m mem s (record { stages = upd s.stages t (popping g w); queues = s.queues }) working
  start_pop fifo w m mem s t f v l e = starts m mem mem s t (fifo_pop w fifo_back) v l e refl refl (λ j. refl) (rw f (tt, tt)) (λ u d. refl) tt tt
  start_pop lifo w m mem s t f v l e = starts m mem mem s t (lifo_pop w lifo_back) v l e refl refl (λ j. refl) (rw f (tt, tt)) (λ u d. refl) tt tt

  start_own : (m : ℕ) (mem : ℕ → ℕ) (s : State) (t : ℕ) (c : BatchKind) → Inv n fl mem s → t < n → s.stages t ≡ idle
      → Kept n fl m mem s (record { stages = upd s.stages t (from_own (fl t) c); queues = s.queues }) working
  start_own m mem s t plain v l e = starts m mem mem s t (own_batch length_back) v l e refl refl (λ j. refl) tt (λ u d. refl) tt tt
  start_own m mem s t and_pop v l e = start_pop (fl t) by_batch m mem s t refl v l e

  pub begin_kept : (m : ℕ) (mem : ℕ → ℕ) (s : State) (t : ℕ) (o : Operation) → Inv n fl mem s → t < n → s.stages t ≡ idle → Exists n o
      → Kept n fl m (wish mem t o) s (begun fl s t o) working
  begin_kept m mem s t (do_push x) v l e h =
      starts m mem (upd mem t x) s t (push x push_back) v l e refl refl (λ j. refl) tt (λ u d. upd_other mem t x u d) (upd_same mem t x t refl) tt
  begin_kept m mem s t do_pop v l e h = start_pop (fl t) by_pop m mem s t refl v l e
  begin_kept m mem s t (do_length k) v l e h = starts m mem mem s t (len k length_back) v l e refl refl (λ j. refl) tt (λ u d. refl) tt (h, λ z. tt)
  begin_kept m mem s t (do_steal k) v l e h = starts m mem mem s t (steal k steal_front) v l e refl refl (λ j. refl) tt (λ u d. refl) tt (h, tt)
  begin_kept m mem s t (do_batch c k others) v l e h =
      by_test (λ (x : Stage). Kept n fl m mem s (record {
        stages =
            upd s.stages t x;
        queues = s.queues;
      }) working) (eqb k t) _ _ (λ z. start_own m mem s t c v l e)
      (λ z. starts m mem mem s t (source k (source_front c others)) v l e refl refl (λ j. refl) tt (λ u d. refl) tt (h, omega tests, tt))
