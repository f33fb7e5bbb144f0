-- What is known of a function changed at one number, of counts and of sums. The proofs above use these alone: a count is an atom to omega.
use mathlib.Core.Path.{◌≡◌, refl, sym, ap, ap₂, ◌∙◌, subst}
use mathlib.Core.Bool.{Bool, true, false}
use Prim.Native.Nat.{ℕ, zero, suc, ◌+◌, ◌-◌, ◌≤◌, ◌<◌}
use native.Mathlib.Omega.{arith}
use native.Mathlib.Decide.{ℕ_discrete}
use lib.Dec.{T, eqb, eqb→eq, eqb_refl}
use Rattle.base.specs.Tests.{pick}
use Rattle.model.specs.Count.{one, upd, cnt, stand, sum_to}

-- ---- a function changed at one number

pub upd_same {ℓ} : {A : Type ℓ} (f : ℕ → A) (k : ℕ) (v : A) (i : ℕ) → i ≡ k → upd f k v i ≡ v
unfolding upd
upd_same f k v i e = go (eqb i k) (subst (λ (m : ℕ). T (eqb i m)) e (eqb_refl i))
  where
    go : (b : Bool) → T b → pick b v (f i) ≡ v
    go true t = refl
    go false t = absurd t

pub upd_other {ℓ} : {A : Type ℓ} (f : ℕ → A) (k : ℕ) (v : A) (i : ℕ) → (i ≡ k → ⊥) → upd f k v i ≡ f i
unfolding upd
upd_other f k v i d = go (eqb i k) (λ t. d (eqb→eq i k t))
  where
    go : (b : Bool) → (T b → ⊥) → pick b v (f i) ≡ f i
    go true t = absurd (t tt)
    go false t = refl

-- ---- counts of n cells

cnt_back : (c : ℕ → ℕ) (lo n j : ℕ) → cnt c lo (suc n) j ≡ cnt c lo n j + one (c (lo + n)) j
unfolding cnt
cnt_back c lo zero j = let e : lo + zero ≡ lo = omega arith in rw e (omega arith)
cnt_back c lo (suc n) j = let e : lo + suc n ≡ suc lo + n = omega arith in rw e (omega (arith, cnt_back c (suc lo) n j))

cnt_cong : (c d : ℕ → ℕ) (lo n j : ℕ) → ((i : ℕ) → lo ≤ i → i < lo + n → c i ≡ d i) → cnt c lo n j ≡ cnt d lo n j
unfolding cnt
cnt_cong c d lo zero j h = refl
cnt_cong c d lo (suc n) j h =
    ap₂ (λ (a b : ℕ). one a j + b) (h lo (omega arith) (omega arith)) (cnt_cong c d (suc lo) n j (λ i l u. h i (omega arith) (omega arith)))

cnt_split : (c : ℕ → ℕ) (lo n m j : ℕ) → cnt c lo (n + m) j ≡ cnt c lo n j + cnt c (lo + n) m j
unfolding cnt
cnt_split c lo zero m j = let e : lo + zero ≡ lo = omega arith in let f : zero + m ≡ m = omega arith in rw (e, f) (omega arith)
cnt_split c lo (suc n) m j =
    let e : lo + suc n ≡ suc lo + n = omega arith in
    let f : suc n + m ≡ suc (n + m) = omega arith in rw (e, f) (omega (arith, cnt_split c (suc lo) n m j))

-- ---- counts in a stretch

pub stand_empty : (c : ℕ → ℕ) (lo hi j : ℕ) → hi ≤ lo → stand c lo hi j ≡ 0
unfolding stand cnt
stand_empty c lo hi j h = let e : hi - lo ≡ 0 = omega arith in rw e

pub stand_front : (c : ℕ → ℕ) (lo hi j : ℕ) → lo < hi → stand c lo hi j ≡ one (c lo) j + stand c (suc lo) hi j
unfolding stand cnt
stand_front c lo hi j h = let e : hi - lo ≡ suc (hi - suc lo) = omega arith in rw e

pub stand_back : (c : ℕ → ℕ) (lo hi j : ℕ) → lo ≤ hi → stand c lo (suc hi) j ≡ stand c lo hi j + one (c hi) j
unfolding stand
stand_back c lo hi j h =
    let e : suc hi - lo ≡ suc (hi - lo) = omega arith in
    let f : lo + (hi - lo) ≡ hi = omega arith in rw e (cnt_back c lo (hi - lo) j ∙ rw f)

pub stand_cong : (c d : ℕ → ℕ) (lo hi j : ℕ) → ((i : ℕ) → lo ≤ i → i < hi → c i ≡ d i) → stand c lo hi j ≡ stand d lo hi j
unfolding stand
stand_cong c d lo hi j h = cnt_cong c d lo (hi - lo) j (λ i l u. h i l (omega arith))

pub stand_split : (c : ℕ → ℕ) (lo mid hi j : ℕ) → lo ≤ mid → mid ≤ hi → stand c lo hi j ≡ stand c lo mid j + stand c mid hi j
unfolding stand
stand_split c lo mid hi j h k =
    let e : hi - lo ≡ (mid - lo) + (hi - mid) = omega arith in
    let f : lo + (mid - lo) ≡ mid = omega arith in rw e (cnt_split c lo (mid - lo) (hi - mid) j ∙ rw f)

-- ---- sums over the queues

pub sum_cong : (n : ℕ) (f g : ℕ → ℕ) → ((i : ℕ) → i < n → f i ≡ g i) → sum_to n f ≡ sum_to n g
unfolding sum_to
sum_cong zero f g h = refl
sum_cong (suc n) f g h = ap₂ ◌+◌ (sum_cong n f g (λ i l. h i (omega arith))) (h n (omega arith))

-- two families that agree but at k: their sums differ as they do at k
pub sum_but : (n k : ℕ) (f g : ℕ → ℕ) → k < n → ((i : ℕ) → i < n → (i ≡ k → ⊥) → f i ≡ g i) → sum_to n f + g k ≡ sum_to n g + f k
unfolding sum_to
sum_but zero k f g l h = omega arith
sum_but (suc n) k f g l h = go (λ m. sum_but n k f g m (λ i p. h i (omega arith))) (ℕ_discrete n k)
  where
    go : (k < n → sum_to n f + g k ≡ sum_to n g + f k) → Dec (n ≡ k) → sum_to (suc n) f + g k ≡ sum_to (suc n) g + f k
    go r (yes e) = let s : sum_to n f ≡ sum_to n g = sum_cong n f g (λ i p. h i (omega arith) (λ q. omega arith)) in rw (← e) (omega arith)
    go r (no d) = let q : k < n = omega arith in omega (arith, r q, h n (omega arith) d)

-- two families that agree but at k and t
pub sum_two : (n k t : ℕ) (f g : ℕ → ℕ) → k < n → t < n → (t ≡ k → ⊥) → ((i : ℕ) → i < n → (i ≡ k → ⊥) → (i ≡ t → ⊥) → f i ≡ g i)
    → sum_to n f + (g k + g t) ≡ sum_to n g + (f k + f t)
sum_two n k t f g a b d h =
    let u : ℕ → ℕ = upd f k (g k) in
    let x = sum_but n k u f a (λ i l e. upd_other f k (g k) i e) in
    let y = sum_but n t u g b (λ i l e. go i l e (ℕ_discrete i k)) in
    omega (arith, x, y, upd_same f k (g k) k refl, upd_other f k (g k) t d)
  where
    go : (i : ℕ) → i < n → (i ≡ t → ⊥) → Dec (i ≡ k) → upd f k (g k) i ≡ g i
    go i l e (yes p) = upd_same f k (g k) i p ∙ ap g (sym p)
    go i l e (no p) = upd_other f k (g k) i p ∙ h i l p e

pub sum_zero : (n : ℕ) → sum_to n (λ i. 0) ≡ 0
unfolding sum_to
sum_zero zero = refl
sum_zero (suc n) = omega (arith, sum_zero n)

-- one index changed, inside the stretch
pub stand_upd : (c : ℕ → ℕ) (lo hi k v j : ℕ) → lo ≤ k → k < hi → stand (upd c k v) lo hi j + one (c k) j ≡ stand c lo hi j + one v j
stand_upd c lo hi k v j a b =
    let d : ℕ → ℕ = upd c k v in
    let e₁ : stand d lo k j ≡ stand c lo k j = stand_cong d c lo k j (λ i l u. upd_other c k v i (λ e. omega arith)) in
    let e₂ : stand d (suc k) hi j ≡ stand c (suc k) hi j = stand_cong d c (suc k) hi j (λ i l u. upd_other c k v i (λ e. omega arith)) in
    let e₃ : one (d k) j ≡ one v j = ap (λ (u : ℕ). one u j) (upd_same c k v k refl) in
    omega (
      arith,
      stand_split c lo k hi j a (omega arith),
      stand_split d lo k hi j a (omega arith),
      stand_front c k hi j b,
      stand_front d k hi j b,
      e₁,
      e₂,
      e₃,
    )
