-- Answers put together one by one give what the list of them gives.
use Rattle.std.proofs.Common.{◌≡◌, ℕ, List, [], ◌∷◌, ◌++◌, map, refl, sym, ap, ◌∙◌}
use Rattle.std.specs.List.{zip}
use Rattle.std.specs.declared.option.Option.{Option}
use Rattle.std.specs.Iterator.{FoldsItems, ActsAsOnTwo}
use Rattle.std.specs.Fn.{Called}
use Rattle.std.proofs.lemmas.Iterator.{YieldsList, items_from_drains}
use Rattle.std.proofs.lemmas.Fn.{fold_same}
use denote.Param.Members.{Mut}
use denote.Ref.{Bor}
use Rattle.steal.specs.declared.Steal.{Steal}
use Rattle.steal.specs.declared.Steal.TheVariants.{Empty, Success, Retry}
use Rattle.steal.specs.Steal.{or_else, after_retry, collected, of_number, answers}

-- of three answers it is the same which two are put together first
else_swap : (a b c : Steal) → or_else a (or_else b c) ≡ or_else (or_else a b) c
else_swap Empty b c = refl
else_swap (Success job) b c = refl
else_swap Retry Empty c = refl
else_swap Retry (Success job) c = refl
else_swap Retry Retry Empty = refl
else_swap Retry Retry (Success job) = refl
else_swap Retry Retry Retry = refl

else_empty : (a : Steal) → a ≡ or_else a Empty
else_empty Empty = refl
else_empty (Success job) = refl
else_empty Retry = refl

-- one more answer at the end
collected_snoc : (l : List Steal) (x : Steal) → collected (l ++ x ∷ []) ≡ or_else (collected l) x
unfolding collected
collected_snoc [] Empty = refl
collected_snoc [] (Success job) = refl
collected_snoc [] Retry = refl
collected_snoc (Empty ∷ l) x = collected_snoc l x
collected_snoc (Success job ∷ l) x = refl
collected_snoc (Retry ∷ l) x = ap after_retry (collected_snoc l x) ∙ else_swap Retry (collected l) x

-- a list of numbers and a list of values are read pair by pair
answers_zip : (ks vs : List ℕ) → map (λ p. of_number p.0 p.1) (zip ks vs) ≡ answers ks vs
unfolding answers
answers_zip [] vs = refl
answers_zip (k ∷ ks) [] = refl
answers_zip (k ∷ ks) (v ∷ vs) = ap (λ l. of_number k v ∷ l) (answers_zip ks vs)

-- ---- what `fold` ran over the pairs

abbrev numbers_of : Bor ℕ × Bor ℕ → ℕ × ℕ
numbers_of p = (p.0.now, p.1.now)

abbrev read : List (Bor ℕ × Bor ℕ) → List Steal
read xs = map (λ p. of_number p.0 p.1) (map numbers_of xs)

read_more : (xs : List (Bor ℕ × Bor ℕ)) (x : Bor ℕ × Bor ℕ) → read (xs ++ x ∷ []) ≡ read xs ++ of_number x.0.now x.1.now ∷ []
read_more [] x = refl
read_more (y ∷ xs) x = ap (λ l. of_number y.0.now y.1.now ∷ l) (read_more xs x)

-- the answers so far, after the first
abbrev so_far : Steal → List (Bor ℕ × Bor ℕ) → Steal
so_far first xs = or_else first (collected (read xs))

none_read : (first : Steal) → first ≡ so_far first []
unfolding collected
none_read first = else_empty first

one_read : (first : Steal) (xs : List (Bor ℕ × Bor ℕ)) (x : Bor ℕ × Bor ℕ) → or_else (so_far first xs) (of_number x.0.now x.1.now) ≡ so_far first (xs ++ x ∷ [])
one_read first xs x =
    let answer = of_number x.0.now x.1.now in
    sym (else_swap first (collected (read xs)) answer) ∙ ap (or_else first) (sym (ap collected (read_more xs x) ∙ collected_snoc (read xs) answer))

module _ {S F : Type 0} {steps : S → Option (Bor ℕ × Bor ℕ) → S → Type 0} {g : Mut F (Steal × ((Bor ℕ × Bor ℕ) × Unit {0})) Steal} (ks vs : List ℕ) (s : S) (f : F) (first r : Steal) where
  pub fold_ran : FoldsItems steps g s f first r → YieldsList steps numbers_of s (zip ks vs)
      → ActsAsOnTwo g f (λ found p. or_else found (of_number p.0.now p.1.now)) → r ≡ or_else first (collected (answers ks vs))
  fold_ran run yields acts =
      let folded = fold_same g (λ xs found. found ≡ so_far first xs) f more run.0 first r run.1 (none_read first) run.3 in
      let drained : map numbers_of run.0 ≡ zip ks vs = items_from_drains run.0 (run.2.1.0, run.2.1.1, λ _. (run.2.0, run.2.1.2)) yields in
      folded ∙ ap (λ l. or_else first (collected l)) (ap (map (λ p. of_number p.0 p.1)) drained ∙ answers_zip ks vs)
    where
      more : (xs : List (Bor ℕ × Bor ℕ)) (a : Steal) (x : Bor ℕ × Bor ℕ) (b : Steal) (f' : F) → a ≡ so_far first xs → Called g f (a, (x, tt)) b f'
          → (b ≡ so_far first (xs ++ x ∷ [])) × (f' ≡ f)
      more xs a x b f' e c =
          let t = acts a x b f' c in
          (t.1 ∙ ap (λ l. or_else l (of_number x.0.now x.1.now)) e ∙ one_read first xs x, t.0)
