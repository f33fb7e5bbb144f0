-- Where the number of cells is a power of two, the bits of an index lie in the cell of the index.
use Rattle.std.proofs.Common.{◌≡◌, ℕ, zero, suc, ◌+◌, ◌-◌, ◌%◌, ◌^◌, ◌<◌, ◌≤◌, ◌⊎◌, ℤ, pos, negsuc, sym, refl, ap, ◌∙◌, inl, inr, not-suc-le-zero, mod-lt, mod-eq_of_lt, arith, pow_pos}
use native.Mathlib.Nat.{add-mod, mod-eq-sub-mod}
use lib.Bits.{bit_and, and_mask}
use lib.Count.{ones}
use lib.Pow.{pow-lt, ones_split, ones_lt, low, mod-mod-pow}
use Rattle.base.specs.Tests.{le_or_lt}
use Rattle.base.proofs.Powers.{power_of}
use Rattle.index.specs.declared.Index.{Index}
use Rattle.index.specs.Index.{mod_z, cell_of}

pub cell_is : (i : Index) (c : ℕ) → zero < c → cell_of i c ≡ mod_z i.0 c
unfolding cell_of
cell_is i zero h = absurd (not-suc-le-zero h)
cell_is i (suc c) h = refl

-- the largest number of j + k bits lies in the last cell
last : (j k : ℕ) → (2 ^ (j + k) - 1) % 2 ^ k ≡ 2 ^ k - 1
last j k = rw (ones_split j k) (low (2 ^ j - 1) k (ones_lt k))

-- two remainders whose sum is the largest remainder
halves : (c u v : ℕ) → u < c → v < c → (u + v) % c ≡ c - 1 → u ≡ (c - 1) - v
halves c u v hu hv t = go (le_or_lt c (u + v))
  where
    go : (c ≤ u + v) ⊎ (u + v < c) → u ≡ (c - 1) - v
    go (inl p) =
        let e : (u + v) % c ≡ (u + v - c) % c = mod-eq-sub-mod p in
        let f : (u + v - c) % c ≡ u + v - c = mod-eq_of_lt (omega arith) in
        omega arith
    go (inr p) = let f : (u + v) % c ≡ u + v = mod-eq_of_lt p in omega arith

-- the mirror image of x lies in the mirror image of the cell of x
pub mirror : (j k x : ℕ) → x < 2 ^ (j + k) → ((2 ^ (j + k) - 1) - x) % 2 ^ k ≡ (2 ^ k - 1) - x % 2 ^ k
mirror j k x h =
    let y = (2 ^ (j + k) - 1) - x in
    let e : y + x ≡ 2 ^ (j + k) - 1 = omega arith in
    halves (2 ^ k) _ _ (mod-lt y (pow_pos k)) (mod-lt x (pow_pos k)) (sym (add-mod y x (2 ^ k)) ∙ rw e (last j k))

pub bits_cell : (z : ℤ) (j k : ℕ) → j + k ≡ 64 → mod_z z (2 ^ 64) % 2 ^ k ≡ mod_z z (2 ^ k)
bits_cell (pos n) j k e = rw e at (mod-mod-pow n j k)
bits_cell (negsuc n) j k e =
    rw e
    at (mirror j k (n % 2 ^ (j + k)) (mod-lt n (pow_pos (j + k))) ∙ ap (λ (x : ℕ). (2 ^ k - 1) - x) (mod-mod-pow n j k))

-- the mask of a number with one bit set
pub masked : (z : ℤ) (c b : ℕ) → c < 2 ^ 64 → ones c ≡ 1 → b ≡ mod_z z (2 ^ 64) → bit_and b (c - 1) ≡ mod_z z c
masked z c b h o e = go (power_of c o)
  where
    go : (k : ℕ) × (c ≡ 2 ^ k) → bit_and b (c - 1) ≡ mod_z z c
    go (k, p) = fits (le_or_lt k 64)
      where
        fits : (k ≤ 64) ⊎ (64 < k) → bit_and b (c - 1) ≡ mod_z z c
        fits (inl g) = rw (p, and_mask b k, e) (bits_cell z (64 - k) k (omega arith))
        fits (inr g) = let w : 2 ^ 64 < 2 ^ k = pow-lt g in let x : ⊥ = omega arith in absurd x
