-- A function changed at one number; how often a job number stands in a stretch of cells, `c lo`, `c (lo + 1)`, .. up to and without `c hi`;
-- sums over the queues.
use Rattle.std.specs.Prelude.{ℕ, zero, suc, ◌+◌, ◌-◌, eqb}
use Rattle.base.specs.Tests.{pick}

unfoldable pub upd {ℓ} : {A : Type ℓ} → (ℕ → A) → ℕ → A → ℕ → A
upd f k v i = pick (eqb i k) v (f i)

-- 1 where the two numbers are the same, else 0
unfoldable pub one : ℕ → ℕ → ℕ
one a j = pick (eqb a j) 1 0

-- among the n cells from lo on
unfoldable pub cnt : (ℕ → ℕ) → ℕ → ℕ → ℕ → ℕ
cnt c lo zero j = 0
cnt c lo (suc n) j = one (c lo) j + cnt c (suc lo) n j

unfoldable pub stand : (ℕ → ℕ) → ℕ → ℕ → ℕ → ℕ
stand c lo hi j = cnt c lo (hi - lo) j

unfoldable pub sum_to : ℕ → (ℕ → ℕ) → ℕ
sum_to zero f = 0
sum_to (suc n) f = sum_to n f + f n
