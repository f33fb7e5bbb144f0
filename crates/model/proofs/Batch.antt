-- What the steps of a batch share: the cases of its end, a write beyond the own back, the counts of copies.
use mathlib.Core.Path.{◌≡◌, refl, sym, ap, ◌∙◌}
use mathlib.Core.Bool.{◌&&◌}
use Prim.Native.Nat.{ℕ, suc, ◌+◌, ◌-◌, ◌/◌, ◌≤◌, ◌<◌}
use native.Mathlib.Omega.{arith}
use native.Mathlib.Nat.{le_refl}
use native.Mathlib.Decide.{ℕ_discrete, dec_le}
use lib.Dec.{T, leb, eqb}
use Rattle.base.specs.Tests.{by_test, tests}
use Rattle.model.specs.Count.{one, upd, stand}
use Rattle.model.specs.Stage.{Flavour, fifo, lifo, Queue, at, cap, set_cell, own, BatchKind, plain, and_pop, InHand, none, some, Haul, source}
use Rattle.model.specs.Stage.{all_copy, all_reload, one_back, swap_near, own_store, Stage, idle, push, fifo_pop, lifo_pop, shrink, steal, len}
use Rattle.model.specs.Stage.{own_batch, retry, Out, going, ended}
use Rattle.model.specs.Tables.{told, wanted, with_count, to_hand, copy_next, slot, swap_next, landing, is_none, stopped, turning, to_write}
use Rattle.model.specs.Tables.{next_in_hand}
use Rattle.model.specs.Logical.{lo, hi, hand_of, held, accepts, gives, Says}
use Rattle.model.specs.Invariant.{StageOk, Ok, View, part, OwnKnows, SourceKnows}
use Rattle.model.proofs.CountLaws.{upd_same, upd_other, stand_empty, stand_front, stand_back, stand_cong, stand_upd}
use Rattle.model.proofs.CellLaws.{cell_same, cell_other, cell_later, ring_other}
use Rattle.model.proofs.Good.{Good, ok_rest}
use Rattle.model.proofs.Pops.{both_of}

-- a batch from k, or the end of one; v: what the source looks like
abbrev pub Aft : ℕ → Flavour → Flavour → View → Stage → Queue → Type 0
Aft k fs fo v idle q = Unit
Aft k fs fo v (push x p) q = ⊥
Aft k fs fo v (fifo_pop w p) q = ⊥
Aft k fs fo v (lifo_pop w p) q = ⊥
Aft k fs fo v (shrink w x z) q = ⊥
Aft k fs fo v (steal i p) q = ⊥
Aft k fs fo v (len i p) q = ⊥
Aft k fs fo v (own_batch p) q = ⊥
Aft k fs fo v (source i p) q = (i ≡ k) × SourceKnows fs fo p (at q) v
Aft k fs fo v (own i p) q = (i ≡ k) × OwnKnows fs fo p (at q) v

-- ---- cases

none_of : (j : InHand) → T (is_none j) → j ≡ none
none_of none t = refl
none_of (some w) t = absurd t

pub by_swap : (P : Stage → Type 0) (k : ℕ) (h : Haul) (x : ℕ) → (suc (x + x) < h.n → P (own k (swap_near h x))) → P (own k (own_store h))
    → P (swap_next k h x)
by_swap P k h x a b = by_test P (leb (h.n / 2) x) _ _ (λ t. b) (λ t. a (omega tests))

by_landing : (P : Stage → Type 0) (fo : Flavour) (k : ℕ) (h : Haul) → (1 < h.n → P (own k (swap_near h 0))) → P (own k (own_store h))
    → P (landing fo k h)
by_landing P fifo k h a b = by_swap P k h 0 (λ l. a (omega arith)) b
by_landing P lifo k h a b = b

pub by_stopped : (P : Out → Type 0) (fo : Flavour) (k : ℕ) (h : Haul) (i : ℕ) (q : Queue) → (h.hand ≡ none → i ≡ 0 → P (ended q retry))
    → (1 < i → P (going q (own k (swap_near (with_count h i) 0)))) → P (going q (own k (own_store (with_count h i)))) → P (stopped fo k h i q)
by_stopped P fo k h i q x y z =
    by_test P (is_none h.hand && eqb i 0) _ _
    (λ t. (let w = both_of (is_none h.hand) (eqb i 0) t in let w₁ = w.1 in x (none_of h.hand w.0) (omega tests)))
    (λ t. by_landing (λ (s : Stage). P (going q s)) fo k (with_count h i) y z)

pub by_turning : (P : Out → Type 0) (fo : Flavour) (k : ℕ) (h : Haul) (i : ℕ) (q : Queue) → (h.n ≤ i → P (stopped fo k h i q))
    → (i < h.n → P (going q (source k (one_back h i)))) → P (turning fo k h i q)
by_turning P fo k h i q x y = by_test P (leb h.n i) _ _ (λ t. x (omega tests)) (λ t. y (omega tests))

pub by_copy : (P : Stage → Type 0) (k : ℕ) (h : Haul) (i : ℕ) → (h.n ≤ i → P (source k (all_reload h))) → (i < h.n → P (source k (all_copy h i)))
    → P (copy_next k h i)
by_copy P k h i x y = by_test P (leb h.n i) _ _ (λ t. x (omega tests)) (λ t. y (omega tests))

-- ---- numbers

pub wanted_fits : (m : BatchKind) (d others : ℕ) → 0 < d → (0 < to_hand m + wanted m d others) × (to_hand m + wanted m d others ≤ d)
wanted_fits plain d others a = (omega arith, omega arith)
wanted_fits and_pop d others a = (omega arith, omega arith)

pub in_hand_lem : (j : InHand) (v i : ℕ) → one (to_write j v) i + hand_of (next_in_hand j v) i ≡ one v i + hand_of j i
in_hand_lem none v i = refl
in_hand_lem (some w) v i = omega arith

pub told_gives : (h : InHand) (j : ℕ) → gives (told h) j ≡ hand_of h j
told_gives none j = refl
told_gives (some w) j = refl

pub told_accepts : (h : InHand) (m j : ℕ) → accepts m (told h) j ≡ 0
told_accepts none m j = refl
told_accepts (some w) m j = refl

-- ---- writes beyond the own back

-- in a stretch that fits into the ring a write is a change at one index
pub write_upd : (q : Queue) (k x a z y : ℕ) → z ≤ a + cap q → a ≤ k → k < z → a ≤ y → y < z → at (set_cell q k x) y ≡ upd (at q) k x y
write_upd q k x a z y h b c d e = go (ℕ_discrete y k)
  where
    less : (y ≡ k → ⊥) → Dec (y < k) → at (set_cell q k x) y ≡ at q y
    less n (yes l) = cell_other q k x y l (omega arith)
    less n (no l) = cell_later q k x y (omega arith) (omega arith)

    go : Dec (y ≡ k) → at (set_cell q k x) y ≡ upd (at q) k x y
    go (yes e) = rw e (cell_same q k x ∙ sym (upd_same (at q) k x k refl))
    go (no n) = less n (dec_le (suc y) k) ∙ sym (upd_other (at q) k x y n)

pub stand_write : (q : Queue) (k x a z j : ℕ) → z ≤ a + cap q → a ≤ k → k < z
    → stand (at (set_cell q k x)) a z j + one (at q k) j ≡ stand (at q) a z j + one x j
stand_write q k x a z j h b c =
    rw (stand_cong (at (set_cell q k x)) (upd (at q) k x) a z j (λ y l u. write_upd q k x a z y h b c l u)) (stand_upd (at q) a z k x j b c)

pub write_own : (P : Stage → Queue → Type 0) (fo : Flavour) (s s' : Stage) (q : Queue) (x v : ℕ) → Ok fo s q → lo s q ≡ q.front → hi s q ≡ q.back
    → lo s' (set_cell q x v) ≡ q.front → hi s' (set_cell q x v) ≡ q.back → q.back ≤ x → x < q.front + cap q
    → ((j : ℕ) → held s q j ≡ held s' (set_cell q x v) j) → ((m : ℕ) → Says m s') → P s' (set_cell q x v) → StageOk fo s' (set_cell q x v)
    → Good P fo s q (going (set_cell q x v) s')
write_own P fo s s' q x v o e f e' f' a b h w c p =
    let or : q.front ≤ q.back = rw (e, f) at o.order in
    let fi : q.back ≤ q.front + cap q = rw (e, f) at o.fits in
    record {
      ok = ok_rest fo s' (set_cell q x v) e' f' or fi o.some_cap o.ring_top p;
      ev = rw (e, f, e', f') record {
        grows = le_refl q.front;
        stays = λ g r k. k;
        keeps = λ i l u z. cell_other q x v i (omega arith) (omega arith);
        tops = le_refl q.top;
        same_ring = λ r k g. g;
        old_rings = λ r i k l u z. ring_other q x v r i (omega arith) (omega arith);
      };
      bal = λ m j z.
          rw (
            e,
            f,
            e',
            f',
            stand_cong (at (set_cell q x v)) (at q) q.front q.back j (λ i l u. cell_other q x v i (omega arith) (omega arith)),
            h j,
          );
      says = λ m z. w m;
      after = c;
    }

-- ---- the copies

pub part_zero : (fo : Flavour) (mine : ℕ → ℕ) (n b j : ℕ) → part fo mine n b 0 j ≡ 0
part_zero fifo mine n b j = stand_empty mine b (b + 0) j (omega arith)
part_zero lifo mine n b j = stand_empty mine (b + (n - 0)) (b + n) j (omega arith)

pub part_full : (fo : Flavour) (mine : ℕ → ℕ) (n b j : ℕ) → part fo mine n b n j ≡ stand mine b (b + n) j
part_full fifo mine n b j = refl
part_full lifo mine n b j = let e : b + (n - n) ≡ b = omega arith in rw e

pub part_write : (fo : Flavour) (q : Queue) (h : Haul) (i v j : ℕ) → i < h.n → h.n ≤ cap q
    → part fo (at (set_cell q (slot fo h i) v)) h.n h.b (suc i) j ≡ one v j + part fo (at q) h.n h.b i j
part_write fifo q h i v j less k =
    let b : ℕ = h.b in
    let e : b + suc i ≡ suc (b + i) = omega arith in
    let c₁ = stand_cong (at (set_cell q (b + i) v)) (at q) b (b + i) j (λ y l u. cell_other q (b + i) v y (omega arith) (omega arith)) in
    rw e (omega (arith, stand_back (at (set_cell q (b + i) v)) b (b + i) j (omega arith), c₁, ap (λ (u : ℕ). one u j) (cell_same q (b + i) v)))
part_write lifo q h i v j less k =
    let b : ℕ = h.b in
    let n : ℕ = h.n in
    let x : ℕ = b + (n - suc i) in
    let e : suc x ≡ b + (n - i) = omega arith in
    let c₁ = stand_cong (at (set_cell q x v)) (at q) (suc x) (b + n) j (λ y l u. cell_later q x v y (omega arith) (omega arith)) in
    rw (← e) (omega (arith, stand_front (at (set_cell q x v)) x (b + n) j (omega arith), c₁, ap (λ (u : ℕ). one u j) (cell_same q x v)))
