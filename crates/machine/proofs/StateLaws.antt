-- Past an array's end there is nothing to read.
use Rattle.std.proofs.Common.{◌≡◌, ℕ, ◌≤◌, List, length, get_or, arith}
use lib.ListN.{get_or-eq_default}

pub none_at : {A : Type 0} (l : List A) {n k : ℕ} → length l ≡ n → n ≤ k → (d : A) → get_or l k d ≡ d
none_at l {n} {k} size past d = let short : length l ≤ k = omega arith in get_or-eq_default l d short
