-- What holds of every number below n, of some, and the first of which it does not hold.
use Rattle.std.specs.Prelude.{Bool, true, false, ◌&&◌, ◌||◌, ℕ, zero, suc, ◌+◌}
use Rattle.base.specs.Tests.{pick}

unfoldable pub all_below : ℕ → (ℕ → Bool) → Bool
all_below zero f = true
all_below (suc n) f = all_below n f && f n

unfoldable pub any_below : ℕ → (ℕ → Bool) → Bool
any_below zero f = false
any_below (suc n) f = any_below n f || f n

-- the first of the n numbers from i on of which f does not hold, and i + n where there is none
unfoldable pub first_not : (ℕ → Bool) → ℕ → ℕ → ℕ
first_not f zero i = i
first_not f (suc n) i = pick (f i) (first_not f n (i + 1)) i
