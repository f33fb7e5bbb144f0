-- Front and back as 64-bit signed numbers, wrapping, and what two of them tell.
use Rattle.std.specs.Prelude.{ℕ, zero, suc, ◌-◌, ◌%◌, ◌^◌, Bool, ◌&&◌, ℤ, pos, negsuc, ◌+ℤ◌, ◌-ℤ◌, ◌==◌, int_le, int_lt}
use Rattle.std.specs.Int.{w64}
use Rattle.std.proofs.Common.{of_z, to_z}
use Rattle.index.specs.declared.Index.{Index}

-- z modulo m, from 0 to m - 1: -1 modulo m is m - 1
abbrev pub mod_z : ℤ → ℕ → ℕ
mod_z (pos n) m = n % m
mod_z (negsuc n) m = (m - 1) - n % m

-- z wrapped: the number from -2^63 to 2^63 - 1 that is z modulo 2^64
unfoldable pub wrap : ℤ → ℤ
wrap z = to_z w64 (mod_z z (2 ^ 64))

-- the maximum with 0
abbrev pub above0 : ℤ → ℕ
above0 (pos n) = n
above0 (negsuc n) = 0

-- i + n and i - n
unfoldable pub plus_of : Index → ℕ → Index
plus_of i n = record { 0 = wrap (i.0 +ℤ pos n) }

unfoldable pub minus_of : Index → ℕ → Index
minus_of i n = record { 0 = wrap (i.0 -ℤ pos n) }

-- the difference: back minus front, wrapped, negative kept; the length: its maximum with zero
unfoldable pub difference_of : Index → Index → ℤ
difference_of b f = wrap (b.0 -ℤ f.0)

unfoldable pub length_of : Index → Index → ℕ
length_of b f = above0 (difference_of b f)

-- the difference is below 0; is 0 or below; is c or above; is from -1 to c
unfoldable pub behind_b : Index → Index → Bool
behind_b b f = int_lt (difference_of b f) (pos 0)

unfoldable pub empty_b : Index → Index → Bool
empty_b b f = int_le (difference_of b f) (pos 0)

unfoldable pub full_b : Index → Index → ℕ → Bool
full_b b f c = int_le (pos c) (difference_of b f)

unfoldable pub spans_b : Index → Index → ℕ → Bool
spans_b b f c = int_le (negsuc 0) (difference_of b f) && int_le (difference_of b f) (pos c)

-- the same index
unfoldable pub same_b : Index → Index → Bool
same_b i j = of_z w64 i.0 == of_z w64 j.0

-- index i lies in cell i modulo c of a ring of c cells; 0 where there are none
unfoldable pub cell_of : Index → ℕ → ℕ
cell_of i zero = 0
cell_of i (suc c) = mod_z i.0 (suc c)
