-- Steal helpers. `or_else` takes the second answer as a value: Empty gives the second, Success the first, Retry the second if that is Success and
-- otherwise Retry. Collecting a list: the first Success, otherwise Retry if there is one, otherwise Empty.
use Rattle.std.specs.Prelude.{◌≡◌, ℕ, Bool, true, false, List, [], ◌∷◌, map, refl, Option, Some, None}
use Rattle.steal.specs.declared.Steal.{Steal}
use Rattle.steal.specs.declared.Steal.TheVariants.{Empty, Success, Retry}
use Rattle.steal.specs.Steal.{number_of, value_of, is_empty_b, is_success_b, is_retry_b, success_of, or_else, collected, of_number, answers}

-- ---- two answers, and what `or_else` gives

pub record Two : Type 0 where
  pub first : Steal
  pub second : Steal
  pub gives : Steal

abbrev two : Steal → Steal → Steal → Two
two a b r = record { first = a; second = b; gives = r }

abbrev chosen : Two → Two
chosen t = two t.first t.second (or_else t.first t.second)

abbrev pub choices : List Two
choices =
    -- Empty gives the second
    two Empty Empty Empty ∷
    two Empty (Success 2) (Success 2) ∷
    two Empty Retry Retry ∷
    -- Success the first
    two (Success 1) Empty (Success 1) ∷
    two (Success 1) (Success 2) (Success 1) ∷
    two (Success 1) Retry (Success 1) ∷
    -- Retry the second if that is Success and otherwise Retry
    two Retry Empty Retry ∷
    two Retry (Success 2) (Success 2) ∷
    two Retry Retry Retry ∷
    []

pub all_choices : map chosen choices ≡ choices
all_choices = refl

-- ---- an answer: is it Empty, Success, Retry; its job, if any; its number and its value

pub record One : Type 0 where
  pub answer : Steal
  pub empty : Bool
  pub success : Bool
  pub retry : Bool
  pub found : Option ℕ
  pub number : ℕ
  pub value : ℕ

abbrev one : Steal → Bool → Bool → Bool → Option ℕ → ℕ → ℕ → One
one s e u r f n v = record { answer = s; empty = e; success = u; retry = r; found = f; number = n; value = v }

abbrev told : One → One
told o =
    let s : Steal = o.answer in one s (is_empty_b s) (is_success_b s) (is_retry_b s) (success_of s) (number_of s) (value_of s)

abbrev pub kinds : List One
kinds =
    one Empty true false false None 4 0 ∷
    one (Success 7) false true false (Some 7) 5 7 ∷
    one (Success 0) false true false (Some 0) 5 0 ∷
    one Retry false false true None 6 0 ∷
    []

pub all_kinds : map told kinds ≡ kinds
all_kinds = refl

-- ---- a list of answers, lent as numbers and values, and what is collected from it

pub record Many : Type 0 where
  pub numbers : List ℕ
  pub values : List ℕ
  pub list : List Steal
  pub gives : Steal

abbrev many : List ℕ → List ℕ → List Steal → Steal → Many
many ks vs l r = record { numbers = ks; values = vs; list = l; gives = r }

abbrev gathered : Many → Many
gathered m = let l : List Steal = answers m.numbers m.values in many m.numbers m.values l (collected l)

abbrev pub lists : List Many
lists =
    -- the first Success, also behind a Retry
    many (5 ∷ 5 ∷ []) (5 ∷ 6 ∷ []) (Success 5 ∷ Success 6 ∷ []) (Success 5) ∷
    many (5 ∷ 6 ∷ []) (5 ∷ 0 ∷ []) (Success 5 ∷ Retry ∷ []) (Success 5) ∷
    many (4 ∷ 6 ∷ 4 ∷ 5 ∷ 5 ∷ 6 ∷ []) (0 ∷ 0 ∷ 0 ∷ 5 ∷ 6 ∷ 0 ∷ []) (Empty ∷ Retry ∷ Empty ∷ Success 5 ∷ Success 6 ∷ Retry ∷ []) (Success 5) ∷
    -- otherwise Retry if there is one
    many (6 ∷ []) (0 ∷ []) (Retry ∷ []) Retry ∷
    many (4 ∷ 6 ∷ 4 ∷ []) (0 ∷ 0 ∷ 0 ∷ []) (Empty ∷ Retry ∷ Empty ∷ []) Retry ∷
    many (6 ∷ 4 ∷ []) (0 ∷ 0 ∷ []) (Retry ∷ Empty ∷ []) Retry ∷
    -- otherwise Empty
    many [] [] [] Empty ∷
    many (4 ∷ 4 ∷ []) (0 ∷ 0 ∷ []) (Empty ∷ Empty ∷ []) Empty ∷
    -- a number that no answer has reads as Empty; where one slice is longer its rest is not looked at
    many (3 ∷ []) (7 ∷ []) (Empty ∷ []) Empty ∷
    many (7 ∷ 0 ∷ 1 ∷ 2 ∷ []) (7 ∷ 7 ∷ 7 ∷ 7 ∷ []) (Empty ∷ Empty ∷ Empty ∷ Empty ∷ []) Empty ∷
    many (4 ∷ 5 ∷ []) (7 ∷ []) (Empty ∷ []) Empty ∷
    many (4 ∷ []) (7 ∷ 8 ∷ []) (Empty ∷ []) Empty ∷
    []

pub all_lists : map gathered lists ≡ lists
unfolding collected of_number answers
all_lists = refl
