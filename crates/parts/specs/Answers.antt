-- The number and the values of every answer.
use Rattle.std.specs.Prelude.{ℕ, ◌^◌}
use Rattle.index.specs.Index.{mod_z}
use Rattle.steal.specs.Steal.{number_of, value_of}
use Rattle.parts.specs.declared.answer.Refusal.{Refusal}
use Rattle.parts.specs.declared.answer.Refusal.TheVariants.{PoolLength, Counts, Unsound, NoSuch, Busy, Idle, NoLimit}
use Rattle.parts.specs.declared.answer.Shortage.{Shortage}
use Rattle.parts.specs.declared.answer.Shortage.TheVariants.{TooLarge, NoRing}
use Rattle.parts.specs.declared.answer.Answer.{Answer}
use Rattle.parts.specs.declared.answer.Answer.TheVariants.{Working, Done, Job, Nothing, Stolen, Moved, Length, GaveUp, Refused}

-- the numbers of 01's table
abbrev pub refusal_of : Refusal → ℕ
refusal_of PoolLength = 1
refusal_of Counts = 2
refusal_of Unsound = 3
refusal_of NoSuch = 4
refusal_of Busy = 5
refusal_of Idle = 6
refusal_of NoLimit = 7

abbrev pub shortage_of : Shortage → ℕ
shortage_of TooLarge = 8
shortage_of NoRing = 9

-- what an answer says: its kind, its number in 01's table or 0, its job or a length's difference in two's complement, a length
pub record Told : Type 0 where
  pub kind : ℕ
  pub number : ℕ
  pub value : ℕ
  pub length : ℕ

abbrev pub says : ℕ → ℕ → ℕ → ℕ → Told
says k r v l = record { kind = k; number = r; value = v; length = l }

abbrev pub told : Answer → Told
told Working = says 0 0 0 0
told Done = says 1 0 0 0
told (Job job) = says 2 0 job 0
told Nothing = says 3 0 0 0
-- 4 Empty, 5 Success with its job, 6 Retry
told (Stolen s) = says (number_of s) 0 (value_of s) 0
told Moved = says 7 0 0 0
told (Length d n) = says 8 0 (mod_z d (2 ^ 64)) n
told (GaveUp s) = says 9 (shortage_of s) 0 0
told (Refused r) = says 10 (refusal_of r) 0 0
