-- Which capacities a ring may have, and the smallest that holds a number of jobs.
use Rattle.std.specs.Prelude.{◌≡◌, ℕ, zero, suc, ◌*◌, ◌^◌, ◌≤◌, Bool, ◌&&◌, ◌==◌, count_ones, nat_le, Option, Some, None}
use Rattle.base.specs.Tests.{pick}

-- the limits: the numbers of `Ring::SMALLEST` and `Ring::LARGEST`
abbrev pub smallest : ℕ
smallest = 64

abbrev pub largest : ℕ
largest = 256

-- a number with exactly one bit set, within the limits
unfoldable pub allowed_b : ℕ → Bool
allowed_b c = count_ones c == 1 && (nat_le smallest c && nat_le c largest)

-- a capacity, unless it is above the largest
abbrev pub up_to : ℕ → Option ℕ
up_to c = pick (nat_le c largest) (Some c) None

unfoldable pub twice_of : ℕ → Option ℕ
twice_of c = up_to (2 * c)

-- c doubled until it holds n, k times at most
unfoldable pub doubled : ℕ → ℕ → ℕ → ℕ
doubled zero c n = c
doubled (suc k) c n = pick (nat_le n c) c (doubled k (c * 2) n)

-- the smallest capacity that holds n jobs, by doubling the smallest one
unfoldable pub holding_of : ℕ → Option ℕ
holding_of n = pick (nat_le n largest) (Some (doubled 58 smallest n)) None

-- what "the smallest that holds n" means: no two numbers are that
pub record Least (n c : ℕ) : Type 0 where
  pub power : (k : ℕ) × (c ≡ 2 ^ k)
  pub low : smallest ≤ c
  pub holds : n ≤ c
  pub least : (k : ℕ) → smallest ≤ 2 ^ k → n ≤ 2 ^ k → c ≤ 2 ^ k
