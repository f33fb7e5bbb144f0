-- What sums, differences, tests and cells are: for indices that are naturals below 2^63, and for any index after wrapping.
use Rattle.std.proofs.Common.{◌≡◌, ℕ, suc, ◌+◌, ◌-◌, ◌%◌, ◌^◌, ◌<◌, ◌≤◌, ◌&&◌, eqb, ltb, leb, ◌⊎◌, ℤ, pos, negsuc, ◌-ℤ◌, sym, refl, ap, ◌∙◌, inl, inr, mod-lt, mod-eq_of_lt, arith, pow_pos, w64, to_z, le-ltb, lt-ltb, le-leb}
use mathlib.Core.Bool.{and-true}
use native.Mathlib.Nat.{zero-mod, mod-add-mod, mod-eq-sub-mod}
use lib.Pow.{pow-sub-lt}
use lib.Signed.{mag}
use mir.ValLaws.{to_z_pos, to_z-neg}
use borrow.Author.Tests.{lt-leb}
use Rattle.base.specs.Tests.{le_or_lt}
use Rattle.index.specs.declared.Index.{Index}
use Rattle.index.specs.Index.{mod_z, wrap, plus_of, minus_of, difference_of, length_of, behind_b, empty_b, full_b, spans_b, same_b, cell_of}
use Rattle.index.proofs.Signs.{sub_ge, sub_lt, pos_less, bits_below}
use Rattle.index.proofs.Cells.{cell_is, mirror, bits_cell}

-- a number that fits is its own wrapping
pub wrap_fits : (z : ℤ) → mag z < 2 ^ 63 → wrap z ≡ z
unfolding wrap
wrap_fits (pos n) h = let e : n % 2 ^ 64 ≡ n = omega arith in rw e (to_z_pos w64 n h)
wrap_fits (negsuc n) h = let e : (2 ^ 64 - 1) - n % 2 ^ 64 ≡ 2 ^ 64 - suc n = omega arith in rw e (to_z-neg w64 n h)

wrap_ahead : (m n : ℕ) → m < 2 ^ 63 → n ≤ m → wrap (pos m -ℤ pos n) ≡ pos (m - n)
wrap_ahead m n f h = rw (pos_less m n, sub_ge m n h) (wrap_fits (pos (m - n)) (omega arith))

wrap_behind : (m n : ℕ) → n < 2 ^ 63 → m < n → wrap (pos m -ℤ pos n) ≡ negsuc (n - suc m)
wrap_behind m n g h = rw (pos_less m n, sub_lt m n h) (wrap_fits (negsuc (n - suc m)) (omega arith))

-- sums and differences
pub plus_is : (m n : ℕ) → m + n < 2 ^ 63 → plus_of (record { 0 = pos m }) n ≡ record { 0 = pos (m + n) }
unfolding plus_of
plus_is m n h = ap (λ (z : ℤ). record { 0 = z }) (wrap_fits (pos (m + n)) h)

pub minus_is : (m n : ℕ) → m < 2 ^ 63 → n ≤ m → minus_of (record { 0 = pos m }) n ≡ record { 0 = pos (m - n) }
unfolding minus_of
minus_is m n f h = ap (λ (z : ℤ). record { 0 = z }) (wrap_ahead m n f h)

-- back m at front n or past it, and before it
pub difference_ahead : (m n : ℕ) → m < 2 ^ 63 → n ≤ m → difference_of (record { 0 = pos m }) (record { 0 = pos n }) ≡ pos (m - n)
unfolding difference_of
difference_ahead m n f h = wrap_ahead m n f h

pub difference_behind : (m n : ℕ) → n < 2 ^ 63 → m < n → difference_of (record { 0 = pos m }) (record { 0 = pos n }) ≡ negsuc (n - suc m)
unfolding difference_of
difference_behind m n g h = wrap_behind m n g h

-- two tests that tell the same
same_test : (a b c d : ℕ) → (a ≤ b → c ≤ d) → (b < a → d < c) → leb a b ≡ leb c d
same_test a b c d f g = go (le_or_lt a b)
  where
    go : (a ≤ b) ⊎ (b < a) → leb a b ≡ leb c d
    go (inl p) = rw (le-leb a b p, le-leb c d (f p))
    go (inr p) = rw (lt-leb a b p, lt-leb c d (g p))

module _ (m n : ℕ) (f : m < 2 ^ 63) (g : n < 2 ^ 63) where
  pub length_is : length_of (record { 0 = pos m }) (record { 0 = pos n }) ≡ m - n
  unfolding length_of
  length_is = go (le_or_lt n m)
    where
      go : (n ≤ m) ⊎ (m < n) → length_of (record { 0 = pos m }) (record { 0 = pos n }) ≡ m - n
      go (inl p) = rw (difference_ahead m n f p)
      go (inr p) = rw (difference_behind m n g p) (omega arith)

  pub behind_is : behind_b (record { 0 = pos m }) (record { 0 = pos n }) ≡ ltb m n
  unfolding behind_b
  behind_is = go (le_or_lt n m)
    where
      go : (n ≤ m) ⊎ (m < n) → behind_b (record { 0 = pos m }) (record { 0 = pos n }) ≡ ltb m n
      go (inl p) = rw (difference_ahead m n f p, le-ltb m n p) (le-ltb (m - n) 0 (omega arith))
      go (inr p) = rw (difference_behind m n g p, lt-ltb m n p)

  pub empty_is : empty_b (record { 0 = pos m }) (record { 0 = pos n }) ≡ leb m n
  unfolding empty_b
  empty_is = go (le_or_lt n m)
    where
      go : (n ≤ m) ⊎ (m < n) → empty_b (record { 0 = pos m }) (record { 0 = pos n }) ≡ leb m n
      go (inl p) = rw (difference_ahead m n f p) (same_test (m - n) 0 m n (λ h. omega arith) (λ h. omega arith))
      go (inr p) = rw (difference_behind m n g p, le-leb m n (omega arith))

  pub full_is : (c : ℕ) → full_b (record { 0 = pos m }) (record { 0 = pos n }) c ≡ leb (n + c) m
  unfolding full_b
  full_is c = go (le_or_lt n m)
    where
      go : (n ≤ m) ⊎ (m < n) → full_b (record { 0 = pos m }) (record { 0 = pos n }) c ≡ leb (n + c) m
      go (inl p) = rw (difference_ahead m n f p) (same_test c (m - n) (n + c) m (λ h. omega arith) (λ h. omega arith))
      go (inr p) = rw (difference_behind m n g p, lt-leb (n + c) m (omega arith))

  pub spans_is : (c : ℕ) → spans_b (record { 0 = pos m }) (record { 0 = pos n }) c ≡ (leb n (m + 1) && leb m (n + c))
  unfolding spans_b
  spans_is c = go (le_or_lt n m)
    where
      go : (n ≤ m) ⊎ (m < n) → spans_b (record { 0 = pos m }) (record { 0 = pos n }) c ≡ (leb n (m + 1) && leb m (n + c))
      go (inl p) =
          rw
          (difference_ahead m n f p, le-leb n (m + 1) (omega arith))
          (same_test (m - n) c m (n + c) (λ h. omega arith) (λ h. omega arith))
      go (inr p) =
          rw
          (difference_behind m n g p, le-leb m (n + c) (omega arith), and-true (leb (n - suc m) 0), and-true (leb n (m + 1)))
          (same_test (n - suc m) 0 n (m + 1) (λ h. omega arith) (λ h. omega arith))

pub same_is : (m n : ℕ) → same_b (record { 0 = pos m }) (record { 0 = pos n }) ≡ eqb m n
unfolding same_b
same_is m n = refl

-- the cell of a natural; -1 lies in the last cell; every cell is one of the ring's
pub cell_of_lem : (n c : ℕ) → 0 < c → cell_of (record { 0 = pos n }) c ≡ n % c
cell_of_lem n c h = cell_is (record { 0 = pos n }) c h

pub cell_of_minus_one : (c : ℕ) → 0 < c → cell_of (record { 0 = negsuc 0 }) c ≡ c - 1
cell_of_minus_one c h = rw (cell_is (record { 0 = negsuc 0 }) c h) (omega (arith, zero-mod c))

pub cell_below : (i : Index) (c : ℕ) → 0 < c → cell_of i c < c
cell_below i c h = rw (cell_is i c h) (go i.0)
  where
    go : (z : ℤ) → mod_z z c < c
    go (pos n) = mod-lt n h
    go (negsuc n) = omega arith

-- indices less than one capacity apart lie in different cells
pub cells_differ : (i j c : ℕ) → i ≤ j → j < i + c → cell_of (record { 0 = pos i }) c ≡ cell_of (record { 0 = pos j }) c → i ≡ j
cells_differ i j c h g e = go (le_or_lt c (i % c + (j - i)))
  where
    same : i % c ≡ (i % c + (j - i)) % c
    same =
        let p : 0 < c = omega arith in
        let q : i + (j - i) ≡ j = omega arith in
        sym (cell_of_lem i c p) ∙ e ∙ cell_of_lem j c p ∙ ap (λ (x : ℕ). x % c) (sym q) ∙ sym (mod-add-mod i c (j - i))

    go : (c ≤ i % c + (j - i)) ⊎ (i % c + (j - i) < c) → i ≡ j
    go (inl p) =
        let u : i % c < c = mod-lt i (omega arith) in
        let r : (i % c + (j - i)) % c ≡ (i % c + (j - i) - c) % c = mod-eq-sub-mod p in
        let s : (i % c + (j - i) - c) % c ≡ i % c + (j - i) - c = mod-eq_of_lt (omega arith) in
        omega (arith, same)
    go (inr p) = let r : (i % c + (j - i)) % c ≡ i % c + (j - i) = mod-eq_of_lt p in omega (arith, same)

-- wrapping moves no index to another cell of a ring whose capacity is a power of two
signed_cell : (b j k : ℕ) → b < 2 ^ 64 → j + k ≡ 64 → mod_z (to_z w64 b) (2 ^ k) ≡ b % 2 ^ k
signed_cell b j k h e = go (le_or_lt (2 ^ 63) b)
  where
    go : (2 ^ 63 ≤ b) ⊎ (b < 2 ^ 63) → mod_z (to_z w64 b) (2 ^ k) ≡ b % 2 ^ k
    go (inl p) =
        let x = 2 ^ 64 - suc b in
        let q : 2 ^ 64 - suc x ≡ b = omega arith in
        let z : to_z w64 b ≡ negsuc x = ap (to_z w64) (sym q) ∙ to_z-neg w64 x (omega arith) in
        let m = mirror j k (2 ^ (j + k) - suc b) (pow-sub-lt (j + k) (omega arith)) in
        let r : (2 ^ 64 - 1 - x) % 2 ^ k ≡ (2 ^ k - 1) - x % 2 ^ k = rw e at m in
        let s : 2 ^ 64 - 1 - x ≡ b = omega arith in
        rw z (sym r ∙ ap (λ (y : ℕ). y % 2 ^ k) s)
    go (inr p) = rw (to_z_pos w64 b p)

pub wrap_cell : (z : ℤ) (c k : ℕ) → c ≡ 2 ^ k → k ≤ 64 → cell_of (record { 0 = wrap z }) c ≡ mod_z z c
unfolding wrap
wrap_cell z c k p h =
    let e : 64 - k + k ≡ 64 = omega arith in
    rw
    (p, cell_is (record { 0 = wrap z }) (2 ^ k) (pow_pos k))
    (signed_cell (mod_z z (2 ^ 64)) (64 - k) k (bits_below z) e ∙ bits_cell z (64 - k) k e)
