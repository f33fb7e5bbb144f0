-- An answer as words: the four numbers that tell it.
use Rattle.std.specs.Prelude.{ℕ, List, [], ◌∷◌}
use Rattle.parts.specs.declared.answer.Answer.{Answer}
use Rattle.parts.specs.Answers.{Told, told}

abbrev pub told_words : Told → List ℕ
told_words t = t.kind ∷ t.number ∷ t.value ∷ t.length ∷ []

abbrev pub answer_words : Answer → List ℕ
answer_words answer = told_words (told answer)
