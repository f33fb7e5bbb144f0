-- What `all`, `any` and `find` answer over the numbers below n, by what they ran: a closure that computes a test of each number. `find` asks for the first of which f does not hold.
use Rattle.std.proofs.Common.{◌≡◌, ℕ, zero, suc, ◌+◌, ◌<◌, ◌≤◌, Bool, true, false, not, ◌&&◌, ◌||◌, sym, ap, ◌∙◌, refl, arith}
use Rattle.std.proofs.Math.Bool.{and_assoc, and-true, or_assoc, or-false}
use Rattle.std.specs.List.{list_all, list_any, range_with_len}
use Rattle.std.specs.declared.option.Option.{Option}
use Rattle.std.specs.declared.option.Option.TheVariants.{None, Some}
use Rattle.std.specs.Option.{unwrap_or, MatchOption}
use Rattle.std.specs.Iterator.{ActsAs, ActsAsAt, ChecksAll, ChecksAny, FindsItem}
use Rattle.std.specs.declared.ops.Range.{Range}
use Rattle.std.proofs.iter.Yields.{nat_range_steps}
use Rattle.std.proofs.lemmas.Iterator.{YieldsList-from_range, first_from_Range}
use Rattle.std.proofs.lemmas.Iterator.Search.{all_from_yields_List, any_from_yields_List}
use denote.Param.Members.{Mut}
use denote.Ref.{Bor}
use Rattle.base.specs.Below.{all_below, any_below, first_not}
use Rattle.base.proofs.BelowLaws.{first_at, first_none}

-- ---- the numbers of a range, as a list

all_first : (n : ℕ) (f : ℕ → Bool) → (f 0 && all_below n (λ i. f (suc i))) ≡ all_below (suc n) f
unfolding all_below
all_first zero f = and-true (f 0)
all_first (suc n) f = sym (and_assoc (f 0) (all_below n (λ i. f (suc i))) (f (suc n))) ∙ ap (λ b. b && f (suc n)) (all_first n f)

any_first : (n : ℕ) (f : ℕ → Bool) → (f 0 || any_below n (λ i. f (suc i))) ≡ any_below (suc n) f
unfolding any_below
any_first zero f = or-false (f 0)
any_first (suc n) f = sym (or_assoc (f 0) (any_below n (λ i. f (suc i))) (f (suc n))) ∙ ap (λ b. b || f (suc n)) (any_first n f)

-- g is f from a on
all_listed : (n a : ℕ) (f g : ℕ → Bool) → ((i : ℕ) → f (a + i) ≡ g i) → list_all f (range_with_len a n) ≡ all_below n g
unfolding all_below
all_listed zero a f g h = refl
all_listed (suc n) a f g h =
    let z : a ≡ a + 0 = omega arith in
    let e : f a ≡ g 0 = ap f z ∙ h 0 in
    let r = all_listed n (a + 1) f (λ i. g (suc i)) (λ i. let p : a + 1 + i ≡ a + suc i = omega arith in ap f p ∙ h (suc i)) in
    rw (e, r) (all_first n g)

any_listed : (n a : ℕ) (f g : ℕ → Bool) → ((i : ℕ) → f (a + i) ≡ g i) → list_any f (range_with_len a n) ≡ any_below n g
unfolding any_below
any_listed zero a f g h = refl
any_listed (suc n) a f g h =
    let z : a ≡ a + 0 = omega arith in
    let e : f a ≡ g 0 = ap f z ∙ h 0 in
    let r = any_listed n (a + 1) f (λ i. g (suc i)) (λ i. let p : a + 1 + i ≡ a + suc i = omega arith in ap f p ∙ h (suc i)) in
    rw (e, r) (any_first n g)

from_zero : (f : ℕ → Bool) (i : ℕ) → f (0 + i) ≡ f i
from_zero f i = let p : 0 + i ≡ i = omega arith in ap f p

-- ---- what ran over the range

abbrev below : ℕ → Range ℕ
below n = record { start = 0; end = n }

module _ {F : Type 0} {g : Mut F (ℕ × Unit {0}) Bool} {n : ℕ} {f : ℕ → Bool} {u : Range ℕ} {h : F} {r : Bool} where
  pub all_ran : ChecksAll nat_range_steps g (below n) h r u → ActsAs g h f → r ≡ all_below n f
  all_ran run acts =
      all_from_yields_List f u h r run (YieldsList-from_range 0 n n refl (omega arith)) acts ∙ all_listed n 0 f f (from_zero f)

  pub any_ran : ChecksAny nat_range_steps g (below n) h r u → ActsAs g h f → r ≡ any_below n f
  any_ran run acts =
      any_from_yields_List f u h r run (YieldsList-from_range 0 n n refl (omega arith)) acts ∙ any_listed n 0 f f (from_zero f)

false_of : (b : Bool) → true ≡ not b → b ≡ false
false_of true e = e
false_of false e = refl

true_of : (b : Bool) → false ≡ not b → b ≡ true
true_of true e = refl
true_of false e = e

module _ {F : Type 0} {g : Mut F (Bor ℕ × Unit {0}) Bool} {n : ℕ} (f : ℕ → Bool) (u : Range ℕ) {h : F} (r : Option ℕ) where
  pub find_ran : FindsItem nat_range_steps g (below n) h r u → ActsAsAt g h (λ i. not (f i)) → unwrap_or r n ≡ first_not f n 0
  find_ran run acts =
      go r
      (first_from_Range (below n) u h r (λ i. f i ≡ false) (λ i. f i ≡ true) run (λ x q c. false_of (f x) (acts x true q c).1)
      (λ x q c. ((acts x false q c).0, true_of (f x) (acts x false q c).1)))
    where
      go : (r : Option ℕ)
          → MatchOption r ((k : ℕ) → 0 ≤ k → k < n → f k ≡ true) (λ i. (0 ≤ i) × (i < n) × (f i ≡ false) × ((k : ℕ) → 0 ≤ k → k < i → f k ≡ true))
          → unwrap_or r n ≡ first_not f n 0
      go None m = sym (first_none f n 0 (λ j l. from_zero f j ∙ m j (omega arith) l) ∙ omega arith)
      go (Some i) m = sym (first_at f n 0 i m.1 (from_zero f i ∙ m.2) (λ j l. from_zero f j ∙ m.3 j (omega arith) l) ∙ omega arith)
