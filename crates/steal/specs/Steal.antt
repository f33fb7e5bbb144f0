-- What the answers to an attempt to steal are, and how they are put together.
use Rattle.std.specs.Prelude.{Bool, true, false, List, [], ◌∷◌, ℕ, eqb, Option, Some, None}
use Rattle.base.specs.Tests.{pick}
use Rattle.steal.specs.declared.Steal.{Steal}
use Rattle.steal.specs.declared.Steal.TheVariants.{Empty, Success, Retry}

-- the number of each answer, which is its kind among the answers of all calls, and its value
abbrev pub number_of : Steal → ℕ
number_of Empty = 4
number_of (Success job) = 5
number_of Retry = 6

abbrev pub value_of : Steal → ℕ
value_of Empty = 0
value_of (Success job) = job
value_of Retry = 0

abbrev pub is_empty_b : Steal → Bool
is_empty_b Empty = true
is_empty_b (Success job) = false
is_empty_b Retry = false

abbrev pub is_success_b : Steal → Bool
is_success_b Empty = false
is_success_b (Success job) = true
is_success_b Retry = false

abbrev pub is_retry_b : Steal → Bool
is_retry_b Empty = false
is_retry_b (Success job) = false
is_retry_b Retry = true

abbrev pub success_of : Steal → Option ℕ
success_of Empty = None
success_of (Success job) = Some job
success_of Retry = None

-- the second if that is Success, and otherwise Retry
abbrev pub after_retry : Steal → Steal
after_retry Empty = Retry
after_retry (Success job) = Success job
after_retry Retry = Retry

-- Empty gives the second, Success the first
abbrev pub or_else : Steal → Steal → Steal
or_else Empty second = second
or_else (Success job) second = Success job
or_else Retry second = after_retry second

-- of a list: the first Success, otherwise Retry if there is one, otherwise Empty
unfoldable pub collected : List Steal → Steal
collected [] = Empty
collected (Empty ∷ l) = collected l
collected (Success job ∷ l) = Success job
collected (Retry ∷ l) = after_retry (collected l)

-- the answer with this number and value; Empty where no answer has the number
unfoldable pub of_number : ℕ → ℕ → Steal
of_number k v = pick (eqb k 5) (Success v) (pick (eqb k 6) Retry Empty)

-- a list of answers, by their numbers and their values, as long as the shorter of the two
unfoldable pub answers : List ℕ → List ℕ → List Steal
answers [] vs = []
answers (k ∷ ks) [] = []
answers (k ∷ ks) (v ∷ vs) = of_number k v ∷ answers ks vs
