-- One number that decides what holds of every number below n, or of some, and the first of which it does not hold.
use Rattle.std.proofs.Common.{◌≡◌, ℕ, zero, suc, ◌+◌, ◌<◌, Bool, true, false, ◌&&◌, ◌||◌, ap, ◌∙◌, arith}
use Rattle.std.proofs.Math.Bool.{and-false, or-true}
use native.Mathlib.Decide.{ℕ_discrete}
use Rattle.base.specs.Below.{all_below, any_below, first_not}

pub all_not : (n i : ℕ) (f : ℕ → Bool) → i < n → f i ≡ false → all_below n f ≡ false
unfolding all_below
all_not zero i f l e = absurd (omega arith)
all_not (suc n) i f l e = go (λ m. all_not n i f m e) (ℕ_discrete i n)
  where
    go : (i < n → all_below n f ≡ false) → Dec (i ≡ n) → (all_below n f && f n) ≡ false
    go r (yes p) = rw (← p, e) (and-false (all_below i f))
    go r (no p) = rw (r (omega arith))

pub any_at : (n i : ℕ) (f : ℕ → Bool) → i < n → f i ≡ true → any_below n f ≡ true
unfolding any_below
any_at zero i f l e = absurd (omega arith)
any_at (suc n) i f l e = go (λ m. any_at n i f m e) (ℕ_discrete i n)
  where
    go : (i < n → any_below n f ≡ true) → Dec (i ≡ n) → (any_below n f || f n) ≡ true
    go r (yes p) = rw (← p, e) (or-true (any_below i f))
    go r (no p) = rw (r (omega arith))

-- ---- the first of n numbers from a on of which f does not hold

pub first_at : (f : ℕ → Bool) (n a k : ℕ) → k < n → f (a + k) ≡ false → ((j : ℕ) → j < k → f (a + j) ≡ true) → first_not f n a ≡ a + k
unfolding first_not
first_at f zero a k l e h = absurd (omega arith)
first_at f (suc n) a zero l e h = let z : a ≡ a + 0 = omega arith in let t : f a ≡ false = ap f z ∙ e in rw t z
first_at f (suc n) a (suc k) l e h =
    let z : a ≡ a + 0 = omega arith in
    let t : f a ≡ true = ap f z ∙ h 0 (omega arith) in
    let p : a + 1 + k ≡ a + suc k = omega arith in
    rw t (first_at f n (a + 1) k (omega arith) (ap f p ∙ e) (λ j m. let q : a + 1 + j ≡ a + suc j = omega arith in ap f q ∙ h (suc j) (omega arith)) ∙ p)

pub first_none : (f : ℕ → Bool) (n a : ℕ) → ((j : ℕ) → j < n → f (a + j) ≡ true) → first_not f n a ≡ a + n
unfolding first_not
first_none f zero a h = omega arith
first_none f (suc n) a h =
    let z : a ≡ a + 0 = omega arith in
    let t : f a ≡ true = ap f z ∙ h 0 (omega arith) in
    let p : a + 1 + n ≡ a + suc n = omega arith in
    rw t (first_none f n (a + 1) (λ j m. let q : a + 1 + j ≡ a + suc j = omega arith in ap f q ∙ h (suc j) (omega arith)) ∙ p)
