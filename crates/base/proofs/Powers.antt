-- A number with exactly one bit set is a power of two, and the other way round.
use mathlib.Core.Path.{◌≡◌, refl, ap, ◌∙◌}
use mathlib.Core.Logic.{◌⊎◌, inl, inr}
use Prim.Native.Nat.{ℕ, zero, suc, ◌+◌, ◌*◌, ◌/◌, ◌%◌, ◌^◌, ◌≤◌, ◌<◌}
use native.Mathlib.Omega.{arith}
use native.Mathlib.Nat.{eq-zero-or-pos, le_refl, pow-suc}
use lib.Pow.{pow_pos}
use lib.Count.{ones, ones_in, ones_step, ones_cat}

ones_zero : ones 0 ≡ 0
unfolding ones ones_in
ones_zero = refl

ones_lits : ones 1 + ones 0 ≡ 1
unfolding ones ones_in
ones_lits = refl

-- d is fuel: halving n takes at most n turns
no_bit : (d n : ℕ) → n ≤ d → ones n ≡ 0 → n ≡ 0
no_bit zero n h e = omega arith
no_bit (suc d) n h e = let s = ones_step n in let r = no_bit d (n / 2) (omega arith) (omega arith) in omega arith

one_bit : (d n : ℕ) → n ≤ d → ones n ≡ 1 → (k : ℕ) × (n ≡ 2 ^ k)
one_bit zero n h e = let z : ⊥ = (let q : ones n ≡ ones 0 = ap ones (omega arith) in let r = ones_zero in omega arith) in absurd z
one_bit (suc d) n h e = go (λ p. one_bit d (n / 2) (omega arith) p) (eq-zero-or-pos (n % 2))
  where
    go : (ones (n / 2) ≡ 1 → (k : ℕ) × (n / 2 ≡ 2 ^ k)) → (n % 2 ≡ zero) ⊎ (zero < n % 2) → (k : ℕ) × (n ≡ 2 ^ k)
    go more (inl p) = let s = ones_step n in let r = more (omega arith) in let q = pow-suc 2 r.0 in let t = r.1 in (suc r.0, omega arith)
    go more (inr p) = let s = ones_step n in let r = no_bit n (n / 2) (omega arith) (omega arith) in (0, omega arith)

pub power_of : (n : ℕ) → ones n ≡ 1 → (k : ℕ) × (n ≡ 2 ^ k)
power_of n e = one_bit n n (le_refl n) e

pub power_ones : (k : ℕ) → ones (2 ^ k) ≡ 1
power_ones k =
    let e : 1 * 2 ^ k + 0 ≡ 2 ^ k = omega arith in
    rw e at (ones_cat k 1 0 (pow_pos k)) ∙ ones_lits
