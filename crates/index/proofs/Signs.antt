-- Signed numbers by their sign.
use Rattle.std.proofs.Common.{◌≡◌, ℕ, zero, suc, ◌-◌, ◌^◌, ◌<◌, ◌≤◌, ℤ, pos, negsuc, ◌-ℤ◌, sym, refl, ap, ◌∙◌, arith, w64, to_z, of_z, le-ltb, lt-ltb}
use lib.IntN.{sub_ℕ}
use lib.Signed.{mag}
use mir.ValLaws.{to_z-of_z}
use Rattle.index.specs.Index.{mod_z}

-- a local holds bits: the number of a fitting number's bits is the number
pub back : (z : ℤ) → mag z < 2 ^ 63 → to_z w64 (of_z w64 z) ≡ z
back z h = to_z-of_z w64 z (record { sfits = h })

-- a difference of naturals, by which is larger
pub sub_ge : (a b : ℕ) → b ≤ a → sub_ℕ a b ≡ pos (a - b)
sub_ge a b h = rw (le-ltb a b h)

pub sub_lt : (a b : ℕ) → a < b → sub_ℕ a b ≡ negsuc (b - suc a)
sub_lt a b h = rw (lt-ltb a b h)

-- a natural less than a number
pub pos_less : (m n : ℕ) → pos m -ℤ pos n ≡ sub_ℕ m n
pos_less m zero = ap pos (omega arith) ∙ sym (sub_ge m 0 (omega arith))
pos_less m (suc n) = refl

-- bits are below 2^64
pub bits_below : (z : ℤ) → mod_z z (2 ^ 64) < 2 ^ 64
bits_below (pos n) = omega arith
bits_below (negsuc n) = omega arith
