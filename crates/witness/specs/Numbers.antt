-- Numbers. Front and back: 64-bit signed, wrapping. The difference is back minus front, wrapped; below zero it is an answer, and the length is then 0.
-- Index i lies in cell i modulo capacity. Capacity: 64, 128 or 256.
use Rattle.std.specs.Prelude.{◌≡◌, ℕ, ◌+◌, ◌-◌, ◌^◌, Bool, true, false, List, [], ◌∷◌, map, ℤ, pos, negsuc, refl, Option, Some, None}
use Rattle.index.specs.declared.Index.{Index}
use Rattle.index.specs.Index.{wrap, plus_of, minus_of, difference_of, length_of, behind_b, empty_b, full_b, spans_b, same_b, cell_of}
use Rattle.ring.specs.Capacity.{twice_of, doubled, holding_of}

abbrev at : ℤ → Index
at z = record { 0 = z }

-- 2^63 - 1, -1 and -2^63
abbrev pub most : ℤ
most = pos (2 ^ 63 - 1)

abbrev pub minus_one : ℤ
minus_one = negsuc 0

abbrev pub least : ℤ
least = negsuc (2 ^ 63 - 1)

-- ---- an index and a number: their sum and their difference

pub record Sum : Type 0 where
  pub index : ℤ
  pub number : ℕ
  pub plus : ℤ
  pub minus : ℤ

abbrev sum : ℤ → ℕ → ℤ → ℤ → Sum
sum i n p m = record { index = i; number = n; plus = p; minus = m }

abbrev summed : Sum → Sum
summed s = sum s.index s.number (plus_of (at s.index) s.number).0 (minus_of (at s.index) s.number).0

abbrev pub sums : List Sum
sums =
    sum (pos 5) 2 (pos 7) (pos 3) ∷
    sum (pos 0) 1 (pos 1) minus_one ∷
    sum minus_one 1 (pos 0) (negsuc 1) ∷
    sum minus_one 0 minus_one minus_one ∷
    -- past the largest comes the smallest, and before the smallest the largest
    sum most 1 least (pos (2 ^ 63 - 2)) ∷
    sum least 1 (negsuc (2 ^ 63 - 2)) most ∷
    sum most 256 (negsuc (2 ^ 63 - 256)) (pos (2 ^ 63 - 257)) ∷
    -- half of 2^64, and one less than all of it
    sum (pos 0) (2 ^ 63) least least ∷
    sum (pos 5) (2 ^ 64 - 1) (pos 4) (pos 6) ∷
    []

pub all_sums : map summed sums ≡ sums
unfolding wrap plus_of minus_of
all_sums = refl

-- ---- back and front: difference and length; and whether they are the same index

pub record Span : Type 0 where
  pub back : ℤ
  pub front : ℤ
  pub difference : ℤ
  pub length : ℕ
  pub same : Bool

abbrev span : ℤ → ℤ → ℤ → ℕ → Bool → Span
span b f d l s = record { back = b; front = f; difference = d; length = l; same = s }

abbrev spanned : Span → Span
spanned s =
    let b : Index = at s.back in
    let f : Index = at s.front in span s.back s.front (difference_of b f) (length_of b f) (same_b b f)

abbrev pub spans : List Span
spans =
    span (pos 5) (pos 2) (pos 3) 3 false ∷
    span (pos 5) (pos 5) (pos 0) 0 true ∷
    span minus_one minus_one (pos 0) 0 true ∷
    -- below zero it is kept, and the length is then 0
    span (pos 1) (pos 2) minus_one 0 false ∷
    span (pos 2) (pos 5) (negsuc 2) 0 false ∷
    span minus_one (pos 0) minus_one 0 false ∷
    span (pos 0) minus_one (pos 1) 1 false ∷
    -- across the wrap
    span least most (pos 1) 1 false ∷
    span most least minus_one 0 false ∷
    span most minus_one least 0 false ∷
    span minus_one least most (2 ^ 63 - 1) false ∷
    span least minus_one (negsuc (2 ^ 63 - 2)) 0 false ∷
    span (pos 0) least least 0 false ∷
    []

pub all_spans : map spanned spans ≡ spans
unfolding wrap difference_of length_of same_b
all_spans = refl

-- ---- a difference, as a queue of 64 cells is asked about it: below 0; 0 or below; 64 or above; from -1 to 64

pub record Asked : Type 0 where
  pub difference : ℤ
  pub behind : Bool
  pub empty : Bool
  pub full : Bool
  pub in_range : Bool

abbrev asked : ℤ → Bool → Bool → Bool → Bool → Asked
asked d b e f r = record { difference = d; behind = b; empty = e; full = f; in_range = r }

abbrev ask : Asked → Asked
ask a =
    let f : Index = at (pos 0) in
    let b : Index = at a.difference in asked a.difference (behind_b b f) (empty_b b f) (full_b b f 64) (spans_b b f 64)

abbrev pub questions : List Asked
questions =
    asked least true true false false ∷
    asked (negsuc 1) true true false false ∷
    asked minus_one true true false true ∷
    asked (pos 0) false true false true ∷
    asked (pos 1) false false false true ∷
    asked (pos 63) false false false true ∷
    asked (pos 64) false false true true ∷
    asked (pos 65) false false true false ∷
    asked most false false true false ∷
    []

pub all_questions : map ask questions ≡ questions
unfolding wrap difference_of behind_b empty_b full_b spans_b
all_questions = refl

-- ---- an index, and its cell in a ring of 64, 128 and 256 cells

pub record Cell : Type 0 where
  pub index : ℤ
  pub of64 : ℕ
  pub of128 : ℕ
  pub of256 : ℕ

abbrev cell : ℤ → ℕ → ℕ → ℕ → Cell
cell i a b c = record { index = i; of64 = a; of128 = b; of256 = c }

abbrev found : Cell → Cell
found c = let i : Index = at c.index in cell c.index (cell_of i 64) (cell_of i 128) (cell_of i 256)

abbrev pub cells : List Cell
cells =
    cell (pos 0) 0 0 0 ∷
    cell (pos 63) 63 63 63 ∷
    cell (pos 64) 0 64 64 ∷
    cell (pos 128) 0 0 128 ∷
    cell (pos 255) 63 127 255 ∷
    cell (pos 256) 0 0 0 ∷
    cell (pos 330) 10 74 74 ∷
    -- -1 lies in the last cell
    cell minus_one 63 127 255 ∷
    cell (negsuc 63) 0 64 192 ∷
    cell (negsuc 64) 63 63 191 ∷
    -- the largest index in the last, the smallest in the first: the wrap goes on from cell to cell
    cell most 63 127 255 ∷
    cell least 0 0 0 ∷
    []

pub all_cells : map found cells ≡ cells
unfolding cell_of
all_cells = refl

-- ---- a number of jobs or a capacity: twice the one, and the smallest capacity that holds the other

pub record Size : Type 0 where
  pub number : ℕ
  pub twice : Option ℕ
  pub holding : Option ℕ

abbrev size : ℕ → Option ℕ → Option ℕ → Size
size n t h = record { number = n; twice = t; holding = h }

abbrev sized : Size → Size
sized s = size s.number (twice_of s.number) (holding_of s.number)

abbrev pub sizes : List Size
sizes =
    size 1 (Some 2) (Some 64) ∷
    size 64 (Some 128) (Some 64) ∷
    size 65 (Some 130) (Some 128) ∷
    size 128 (Some 256) (Some 128) ∷
    size 129 None (Some 256) ∷
    size 256 None (Some 256) ∷
    size 257 None None ∷
    -- a sum past 2^64 is meant as mathematics
    size (2 ^ 64 + 3) None None ∷
    []

pub all_sizes : map sized sizes ≡ sizes
unfolding twice_of doubled holding_of
all_sizes = refl
