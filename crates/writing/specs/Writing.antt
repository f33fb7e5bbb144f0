-- Text put on a page, and numbers as text.
use Rattle.std.specs.Prelude.{ℕ, zero, suc, ◌+◌, ◌/◌, ◌%◌, ◌^◌, List, [], ◌∷◌, ◌++◌, ltb, ℤ, pos, negsuc, length, take, drop, set}
use Prim.Native.Char.{code}
use Prim.Native.String.{String, [] as end, ◌∷◌ as ◌then◌}
use Rattle.base.specs.Tests.{pick}
use Rattle.writing.specs.declared.Page.{Page}

-- a page's bytes, and the place behind what was put there
pub record Printed : Type 0 where
  pub bytes : List ℕ
  pub at : ℕ

abbrev pub printed : List ℕ → ℕ → Printed
printed bytes at = record { bytes = bytes; at = at }

-- bytes put one behind the other from a place on; what lies behind the page's end is left out
unfoldable pub put : List ℕ → ℕ → List ℕ → Printed
put p at [] = printed p at
put p at (b ∷ bs) = put (set p at b) (pick (ltb at (length p)) (at + 1) (length p)) bs

-- the page with all of a text on it, from a place on (`put_whole`: so it is where the text fits)
abbrev pub whole : List ℕ → ℕ → List ℕ → Printed
whole p at text = printed (take at p ++ text ++ drop (at + length text) p) (at + length text)

-- a page, which holds what it was lent, with this in it
abbrev pub holding : Page → Printed → Page
holding p w = record { bytes = record p.bytes { now = w.bytes }; at = w.at }

-- with a text put on it from its place on, or all of the text
unfoldable pub put_on : Page → List ℕ → Page
put_on p text = holding p (put p.bytes.now p.at text)

abbrev pub whole_on : Page → List ℕ → Page
whole_on p text = holding p (whole p.bytes.now p.at text)

-- the codes of a text's characters
abbrev pub ascii : String → List ℕ
ascii end = []
ascii (c then s) = code c ∷ ascii s

-- how many digits n has, of k or more, f more at most
unfoldable pub width_from : ℕ → ℕ → ℕ → ℕ
width_from zero k n = k
width_from (suc f) k n = pick (ltb n (10 ^ k)) k (width_from f (k + 1) n)

-- the last k digits of n in base b, which is 10 at most, the most significant first
abbrev pub last_digits : ℕ → ℕ → ℕ → List ℕ
last_digits b zero n = []
last_digits b (suc k) n = last_digits b k (n / b) ++ ((48 + n % b) ∷ [])

-- a number below 10^20 in decimal digits, none in front that it can do without
unfoldable pub decimal : ℕ → List ℕ
decimal n = last_digits 10 (width_from 19 1 n) n

abbrev pub signed : ℤ → List ℕ
signed (pos n) = decimal n
signed (negsuc n) = 45 ∷ decimal (n + 1)
