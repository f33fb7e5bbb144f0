-- Tests: a table branches by `pick`, a proof goes by cases with `by_test`, and `omega tests` reads what a test told.
use Rattle.std.specs.Prelude.{Bool, true, false, not, ◌&&◌, ◌⊎◌, ◌≡◌, refl, ℕ, ◌≤◌, ◌<◌, T, leb, eqb}
use Rattle.std.proofs.Common.{inl, inr, subst, arith, leb→le, eqb→eq, leb-true, leb-false}
use Rattle.std.proofs.Math.Dec.{nleb→lt, eqb_refl}

abbrev pub pick {ℓ} : {A : Type ℓ} → Bool → A → A → A
pick true a b = a
pick false a b = b

-- what holds on both arms of a test holds of the test
pub by_test {ℓ} : {A : Type ℓ} (P : A → Type 0) (b : Bool) (x y : A) → (T b → P x) → (T (not b) → P y) → P (pick b x y)
by_test P true x y f g = f tt
by_test P false x y f g = g tt

pub neqb→ne : (m n : ℕ) → T (not (eqb m n)) → m ≡ n → ⊥
neqb→ne m n t e = go (eqb m n) t (subst (λ (k : ℕ). T (eqb m k)) e (eqb_refl m))
  where
    go : (b : Bool) → T (not b) → T b → ⊥
    go true p q = p
    go false p q = q

pub ruleset tests = (arith, leb→le, nleb→lt, eqb→eq, neqb→ne)

-- of two numbers, which is not the smaller
pub le_or_lt : (m n : ℕ) → (m ≤ n) ⊎ (n < m)
le_or_lt m n = go (leb m n) refl
  where
    go : (b : Bool) → leb m n ≡ b → (m ≤ n) ⊎ (n < m)
    go true e = inl (leb-true m n e)
    go false e = inr (leb-false m n e)

-- both hold, so the test of both does
pub and_both : (a b : Bool) → a ≡ true → b ≡ true → (a && b) ≡ true
and_both a b e f = rw (e, f)

-- the test of both holds, so both do
pub both : (a b : Bool) → (a && b) ≡ true → (a ≡ true) × (b ≡ true)
both true b e = (refl, e)
both false b e = absurd (let w : ◌≡◌ {A = ℕ} 0 1 = cc in omega arith)
