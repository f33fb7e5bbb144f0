-- Numbers in a text. A number is a row of digits, below 2^64, up to white space, `#` or the text's end; a comment goes from `#` to the end of
-- its line; any other byte, and a number that is too large, make the number wrong.
use Rattle.std.specs.Prelude.{ℕ, ◌+◌, ◌-◌, ◌*◌, ◌%◌, ◌^◌, Bool, ◌&&◌, List, [], ◌∷◌, ◌==◌, nat_le, nat_lt, Option, Some, None}
use Rattle.base.specs.Tests.{pick}
use Rattle.reading.specs.declared.Within.{Within}
use Rattle.reading.specs.declared.Within.TheVariants as W
use Rattle.reading.specs.declared.Reader.{Reader}
use Rattle.reading.specs.declared.Class.{Class}
use Rattle.reading.specs.declared.Class.TheVariants.{LineEnd, Space, Hash, Digit, Other}
use Rattle.reading.specs.declared.Word.{Word}
use Rattle.reading.specs.declared.Word.TheVariants as R
use Rattle.reading.specs.declared.Heard.{Heard}
use Rattle.reading.specs.declared.Read.{Read}

-- `0` to `9`; the white space on a line: tab, vertical tab, form feed, carriage return, space
abbrev pub digit_b : ℕ → Bool
digit_b b = nat_le 48 b && nat_le b 57

abbrev pub blank_b : ℕ → Bool
blank_b b = nat_le 9 b && nat_le b 13

unfoldable pub class_of : ℕ → Class
class_of b =
    pick (b == 10) LineEnd (pick (b == 32) Space (pick (b == 35) Hash (pick (blank_b b) Space (pick (digit_b b) (Digit (b - 48)) Other))))

unfoldable pub grown_of : ℕ → ℕ → Option ℕ
grown_of n d = pick (nat_lt (n * 10 + d) (2 ^ 64)) (Some (n * 10 + d)) None

abbrev pub new_reader : Reader
new_reader = record { within = W.Space; place = 0; start = 0; value = 0 }

-- after one byte more
abbrev pub after : Reader → Within → ℕ → ℕ → Word → Heard
after r w start value word = record {
  reader = record { within = w; place = (r.place + 1) % 2 ^ 64; start = start; value = value };
  word = word;
}

abbrev pub grew : Reader → ℕ → Option ℕ → Heard
grew r start (Some n) = after r W.Number start n R.Nothing
grew r start None = after r W.Number start 0 R.Wrong

abbrev pub in_space : Reader → Class → Heard
in_space r LineEnd = after r W.Space 0 0 R.Nothing
in_space r Space = after r W.Space 0 0 R.Nothing
in_space r Hash = after r W.Comment 0 0 R.Nothing
in_space r (Digit d) = grew r r.place (grown_of 0 d)
in_space r Other = after r W.Number r.place 0 R.Wrong

-- the start is kept past the number's end: the number may yet turn out wrong
abbrev pub in_number : Reader → Class → Heard
in_number r LineEnd = after r W.Space r.start 0 (R.Number r.value)
in_number r Space = after r W.Space r.start 0 (R.Number r.value)
in_number r Hash = after r W.Comment r.start 0 (R.Number r.value)
in_number r (Digit d) = grew r r.start (grown_of r.value d)
in_number r Other = after r W.Number r.start 0 R.Wrong

abbrev pub in_comment : Reader → Class → Heard
in_comment r LineEnd = after r W.Space 0 0 R.Nothing
in_comment r Space = after r W.Comment 0 0 R.Nothing
in_comment r Hash = after r W.Comment 0 0 R.Nothing
in_comment r (Digit d) = after r W.Comment 0 0 R.Nothing
in_comment r Other = after r W.Comment 0 0 R.Nothing

abbrev pub heard_in : Within → Reader → Class → Heard
heard_in W.Space r c = in_space r c
heard_in W.Number r c = in_number r c
heard_in W.Comment r c = in_comment r c

-- one byte more
unfoldable pub heard_of : Reader → ℕ → Heard
heard_of r b = heard_in r.within r (class_of b)

-- the text's end ends a number too
abbrev pub end_in : Within → ℕ → Word
end_in W.Space n = R.Nothing
end_in W.Number n = R.Number n
end_in W.Comment n = R.Nothing

abbrev pub end_of : Reader → Word
end_of r = end_in r.within r.value

abbrev pub unless_word : Word → Read → Read → Read
unless_word R.Nothing later now = later
unless_word (R.Number n) later now = now
unless_word R.Wrong later now = now

-- a part of the text, from its i-th byte on: up to the byte that ends a word, or all of it
unfoldable pub read_from : Reader → List ℕ → ℕ → Read
read_from r [] i = record { heard = record { reader = r; word = R.Nothing }; used = i }
read_from r (b ∷ bs) i =
    unless_word (heard_of r b).word (read_from (heard_of r b).reader bs (i + 1)) (record { heard = heard_of r b; used = i + 1 })

abbrev pub read_of : Reader → List ℕ → Read
read_of r part = read_from r part 0
