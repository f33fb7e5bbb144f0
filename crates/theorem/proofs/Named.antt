-- What the invariant gives on the way, of every machine behind which a state of the model stands: so of every one that a session reaches.
use Rattle.std.proofs.Common.{◌≡◌, ℕ, suc, ◌^◌, ◌<◌, ◌≤◌, Bool, true, false, ◌⊎◌, List, pos, sym, refl, ap, ◌∙◌, subst, ap₂, inl, inr, arith}
use Rattle.ring.specs.declared.Ring.{Ring}
use Rattle.index.specs.declared.Index.{Index}
use Rattle.index.specs.Index.{difference_of, length_of}
use Rattle.index.proofs.Laws.{difference_ahead, length_is}
use Rattle.parts.specs.declared.stage.LengthStage.{LengthStage as CodeLength}
use Rattle.parts.specs.declared.stage.LengthStage.TheVariants as N
use Rattle.parts.specs.declared.stage.Stage.{Stage as CodeStage}
use Rattle.parts.specs.declared.stage.Stage.TheVariants as G
use Rattle.keeps.specs.declared.Kept.TheVariants as Q
use Rattle.keeps.specs.Kept.{kept_of}
use Rattle.machine.specs.declared.state.Machine.{Machine}
use Rattle.machine.specs.State.{queue_at, stage_at}
use Rattle.model.specs.Stage.{Flavour, Queue, cap, own, length_back, length_front, source, Stage, idle, push, fifo_pop, lifo_pop}
use Rattle.model.specs.Stage.{shrink, steal, len, own_batch}
use Rattle.model.specs.Machine.{State}
use Rattle.model.specs.Invariant.{Ok, Aware}
use Rattle.model.specs.Memory.{Live}
use Rattle.model.proofs.Indices.{indices}
use Rattle.model.proofs.Places.{held_named, live_named}
use Rattle.link.specs.Map.{ix, stage_for}
use Rattle.link.specs.Linked.{Behind}
use Rattle.link.proofs.AgreeResize.{true_false}
use Rattle.link.proofs.KeptLaws.{holds_kept, Keeping, keeps_nothing, keeps_held, keeps_built, keeping}
use Rattle.link.proofs.TurnLaws.{small}

-- the rings of a machine that are live: queue k's current ring, and what thread t keeps
pub data LiveRing (m : Machine) : Ring → Type 0 where
  current : (k : ℕ) → k < m.queue_count → LiveRing m (queue_at m k).ring
  built : (t : ℕ) (r : Ring) → t < m.queue_count → kept_of (stage_at m t) ≡ Q.Built r → LiveRing m r
  held : (t : ℕ) (r : Ring) → t < m.queue_count → kept_of (stage_at m t) ≡ Q.Held r → LiveRing m r

-- a stage is a length's that has loaded the back
abbrev length_b : CodeLength → Bool
length_b N.LoadBack = false
length_b (N.LoadFront b) = true

abbrev asks_b : CodeStage → Bool
asks_b G.Idle = false
asks_b (G.Push x p) = false
asks_b (G.Pop w p) = false
asks_b (G.Steal k p) = false
asks_b (G.Length k p) = length_b p
asks_b (G.OwnBatch p) = false
asks_b (G.BatchSource k p) = false
asks_b (G.BatchOwn k p) = false

module _ (n : ℕ) (fl : ℕ → Flavour) (jobs : ℕ → ℕ) (c : ℕ) (m : Machine) (cells : List ℕ) (b : Behind n fl jobs c m cells) where
  abbrev s : State
  s = b.state

  -- indices never pass the number of calls, but for a front that a FIFO pop is about to put back
  pub index_bound : (k : ℕ) → k < m.queue_count
      → (f : ℕ) × (e : ℕ) × ((queue_at m k).front ≡ ix f) × ((queue_at m k).back ≡ ix e) × (f ≤ suc c) × (e ≤ c)
  index_bound k l =
      let lk : k < n = subst (λ (i : ℕ). k < i) b.linked.count l in
      let i = indices n fl c jobs s b.inv b.bounded k lk in
      let e = b.linked.queues k lk in
      ((s.queues k).front, (s.queues k).back, ap (λ q. q.front) e, ap (λ q. q.back) e, i.0, i.1)

  -- a live ring has a name of the model
  named_live : (r : Ring) → LiveRing m r → (k : ℕ) × (i : ℕ) × Live n s k i × (r ≡ b.names k i)
  named_live r (current k l) =
      let lk : k < n = subst (λ (i : ℕ). k < i) b.linked.count l in
      (k, (s.queues k).ring, (lk, inl refl), ap (λ q. q.ring) (b.linked.queues k lk))
  named_live r (built t a l e) =
      let lt : t < n = subst (λ (i : ℕ). t < i) b.linked.count l in
      go lt (keeping b.names (b.names t (s.queues t).top) (s.stages t))
    where
      same : (t < n) → kept_of (stage_for b.names (b.names t (s.queues t).top) (s.stages t)) ≡ Q.Built a
      same lt = ap kept_of (sym (b.linked.stages t lt)) ∙ e

      go : (lt : t < n) → Keeping b.names (b.names t (s.queues t).top) (s.stages t) → (k : ℕ) × (i : ℕ) × Live n s k i × (a ≡ b.names k i)
      go lt (keeps_nothing f) =
          absurd (let z : Q.Nothing ≡ Q.Built a = sym f ∙ same lt in let y : ◌≡◌ {A = ℕ} 0 1 = cc in let x : ⊥ = omega arith in x)
      go lt (keeps_held k i h) =
          absurd (let z : Q.Held (b.names k i) ≡ Q.Built a = sym (holds_kept b.names (b.names t (s.queues t).top) (s.stages t) k i h) ∙ same lt in
          let y : ◌≡◌ {A = ℕ} 0 1 = cc in let x : ⊥ = omega arith in x)
      go lt (keeps_built h f) =
          let z : Q.Built (b.names t (s.queues t).top) ≡ Q.Built a = sym f ∙ same lt in
          let y : b.names t (s.queues t).top ≡ a = cc in (t, (s.queues t).top, (lt, inr (inr (refl, h))), sym y)
  named_live r (held t a l e) =
      let lt : t < n = subst (λ (i : ℕ). t < i) b.linked.count l in
      go lt (keeping b.names (b.names t (s.queues t).top) (s.stages t))
    where
      same : (t < n) → kept_of (stage_for b.names (b.names t (s.queues t).top) (s.stages t)) ≡ Q.Held a
      same lt = ap kept_of (sym (b.linked.stages t lt)) ∙ e

      go : (lt : t < n) → Keeping b.names (b.names t (s.queues t).top) (s.stages t) → (k : ℕ) × (i : ℕ) × Live n s k i × (a ≡ b.names k i)
      go lt (keeps_nothing f) =
          absurd (let z : Q.Nothing ≡ Q.Held a = sym f ∙ same lt in let y : ◌≡◌ {A = ℕ} 0 1 = cc in let x : ⊥ = omega arith in x)
      go lt (keeps_held k i h) =
          let z : Q.Held (b.names k i) ≡ Q.Held a = sym (holds_kept b.names (b.names t (s.queues t).top) (s.stages t) k i h) ∙ same lt in
          let y : b.names k i ≡ a = cc in
          let g = held_named n fl jobs s b.inv k i (t, lt, h) in (k, i, (g.0, inr (inl (t, lt, h))), sym y)
      go lt (keeps_built h f) =
          absurd (let z : Q.Built (b.names t (s.queues t).top) ≡ Q.Held a =
          sym f ∙ same lt in let y : ◌≡◌ {A = ℕ} 0 1 = cc in let x : ⊥ = omega arith in x)

  -- live rings have places of their own: two in one place are one ring
  pub places_apart : (a r : Ring) → LiveRing m a → LiveRing m r → a.place.0 ≡ r.place.0 → a ≡ r
  places_apart a r x y e =
      let p = named_live a x in
      let q = named_live r y in
      let z = b.linked.keeps.apart p.0 p.1 q.0 q.1 p.2 q.2
      (ap (λ (i : Ring). i.place.0) (sym p.3) ∙ e ∙ ap (λ (i : Ring). i.place.0) q.3) in
      p.3 ∙ ap₂ b.names z.0 z.1 ∙ sym q.3

  -- ring numbers are never given twice: two live rings of one number are one ring, and the next number is above all of them
  pub numbers_apart : (a r : Ring) → LiveRing m a → LiveRing m r → a.number.0 ≡ r.number.0 → a ≡ r
  numbers_apart a r x y e =
      let p = named_live a x in
      let q = named_live r y in
      let z = b.linked.numbers p.0 p.1 q.0 q.1 p.2.0 q.2.0 (live_named n fl jobs s b.inv p.0 p.1 p.2)
      (live_named n fl jobs s b.inv q.0 q.1 q.2)
      (ap (λ (i : Ring). i.number.0) (sym p.3) ∙ e ∙ ap (λ (i : Ring). i.number.0) q.3) in
      p.3 ∙ ap₂ b.names z.0 z.1 ∙ sym q.3

  pub next_above : (a : Ring) → LiveRing m a → a.number.0 < m.next_ring.0
  next_above a x =
      let p = named_live a x in
      rw p.3 (b.linked.next p.0 p.1 p.2.0 (live_named n fl jobs s b.inv p.0 p.1 p.2))

  -- a thread keeps at most one ring alive
  pub keeps_one : (t : ℕ) (a r : Ring) → (kept_of (stage_at m t) ≡ Q.Built a) ⊎ (kept_of (stage_at m t) ≡ Q.Held a)
      → (kept_of (stage_at m t) ≡ Q.Built r) ⊎ (kept_of (stage_at m t) ≡ Q.Held r) → a ≡ r
  keeps_one t a r (inl x) (inl y) = let z : Q.Built a ≡ Q.Built r = sym x ∙ y in cc
  keeps_one t a r (inl x) (inr y) = absurd (let z : Q.Built a ≡ Q.Held r = sym x ∙ y in let u : ◌≡◌ {A = ℕ} 0 1 = cc in let v : ⊥ = omega arith in v)
  keeps_one t a r (inr x) (inl y) = absurd (let z : Q.Held a ≡ Q.Built r = sym x ∙ y in let u : ◌≡◌ {A = ℕ} 0 1 = cc in let v : ⊥ = omega arith in v)
  keeps_one t a r (inr x) (inr y) = let z : Q.Held a ≡ Q.Held r = sym x ∙ y in cc

  -- ---- the owner's length of the own queue

  -- of the model's stages, a length of the own queue that has loaded the back is this one
  asks : (R : ℕ → ℕ → Ring) (new : Ring) (t : ℕ) (i : Index) (x : Stage) → stage_for R new x ≡ G.Length t (N.LoadFront i)
      → (b : ℕ) × (x ≡ len t (length_front b)) × (ix b ≡ i)
  asks R new t i idle h = absurd (true_false (sym (ap asks_b h)))
  asks R new t i (push x p) h = absurd (true_false (sym (ap asks_b h)))
  asks R new t i (fifo_pop w p) h = absurd (true_false (sym (ap asks_b h)))
  asks R new t i (lifo_pop w p) h = absurd (true_false (sym (ap asks_b h)))
  asks R new t i (shrink w v x) h = absurd (true_false (sym (ap asks_b h)))
  asks R new t i (steal k p) h = absurd (true_false (sym (ap asks_b h)))
  asks R new t i (len k length_back) h = absurd (true_false (sym (ap asks_b h)))
  asks R new t i (len k (length_front b)) h =
      let e : k ≡ t = cc in let f : ix b ≡ i = cc in (b, ap (λ (j : ℕ). len j (length_front b)) e, f)
  asks R new t i (own_batch p) h = absurd (true_false (sym (ap asks_b h)))
  asks R new t i (source k p) h = absurd (true_false (sym (ap asks_b h)))
  asks R new t i (own k p) h = absurd (true_false (sym (ap asks_b h)))

  -- a thread that asks after its own queue, and has loaded the back i: i is still the back, so what it is to answer is the number of jobs that
  -- stand in the queue, and the difference is that number
  pub own_length : c < 2 ^ 62 → (t : ℕ) (i : Index) → t < m.queue_count → stage_at m t ≡ G.Length t (N.LoadFront i)
      → (i ≡ (queue_at m t).back) × (difference_of i (queue_at m t).front ≡ pos (length_of i (queue_at m t).front))
      × (length_of i (queue_at m t).front ≤ (queue_at m t).ring.capacity)
  own_length lc t i l h =
      let lt : t < n = subst (λ (k : ℕ). t < k) b.linked.count l in
      let a = asks b.names (b.names t (s.queues t).top) t i (s.stages t) (sym (b.linked.stages t lt) ∙ h) in
      let q : Queue = s.queues t in
      let know : Aware n fl s t (len t (length_front a.0)) = subst (Aware n fl s t) a.1 (b.inv.aware t lt) in
      let back : a.0 ≡ q.back = know.1 refl in
      let o : Ok (fl t) (len t (length_front a.0)) q = subst (λ (x : Stage). Ok (fl t) x q) a.1 (b.inv.oks t lt) in
      let is : i ≡ ix q.back = sym a.2 ∙ ap ix back in
      let sm = small n fl s m cells jobs b.inv c b.bounded lc t lt in
      let or = o.order in
      let fi = o.fits in
      let ca : (b.names t q.ring).capacity ≡ cap q = b.linked.caps t q.ring lt o.ring_top in
      let d = difference_ahead q.back q.front sm.1 o.order in
      let n = length_is q.back q.front sm.1 sm.0 in
      rw (b.linked.queues t lt, is) (refl, d ∙ ap pos (sym n), rw n (omega arith))
