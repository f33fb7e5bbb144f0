-- The capacities: what an allowed one is, twice and half of one, and that the smallest sufficient one is a single number, which `holding_of` finds.
use Rattle.std.proofs.Common.{◌≡◌, ℕ, zero, suc, ◌*◌, ◌/◌, ◌^◌, ◌<◌, ◌≤◌, Bool, true, false, ◌&&◌, eqb, leb, ◌⊎◌, refl, ap, ◌∙◌, inl, inr, ⊎_elim, le_trans, le_refl, mul_assoc, mul_comm, le_antisymm, pow-suc, arith, lit≤, pow_mono, eq-eqb, eqb-true, le-leb, leb-false, leb-true, Some, None, max}
use lib.Count.{ones, ones_in}
use borrow.Author.Tests.{lt-leb}
use Rattle.base.specs.Tests.{pick, le_or_lt, both}
use Rattle.base.proofs.Powers.{power_of, power_ones}
use Rattle.ring.specs.Capacity.{smallest, largest, allowed_b, twice_of, doubled, holding_of, Least}

-- ---- powers of two

-- of two powers, the one below twice the other is no larger
pub power_below : (k j : ℕ) → 2 ^ k < 2 * 2 ^ j → 2 ^ k ≤ 2 ^ j
power_below k j h =
    ⊎_elim (λ p. pow_mono p)
    (λ p. let q : 2 ^ suc j ≤ 2 ^ k = pow_mono p in let r = pow-suc 2 j in let z : ⊥ = omega arith in absurd z)
    (le_or_lt k j)

-- and the power above another is at least twice it
pub power_above : (k j : ℕ) → 2 ^ k < 2 ^ j → 2 * 2 ^ k ≤ 2 ^ j
power_above k j h =
    ⊎_elim (λ (p : suc k ≤ j). let q : 2 ^ suc k ≤ 2 ^ j = pow_mono p in let r = pow-suc 2 k in omega arith)
    (λ (p : j < suc k). let q : 2 ^ j ≤ 2 ^ k = pow_mono (omega arith) in let z : ⊥ = omega arith in absurd z)
    (le_or_lt (suc k) j)

-- the limits are powers themselves, found by computing
ones_smallest : ones smallest ≡ 1
unfolding ones ones_in
ones_smallest = refl

ones_largest : ones largest ≡ 1
unfolding ones ones_in
ones_largest = refl

smallest_power : (k : ℕ) × (smallest ≡ 2 ^ k)
smallest_power = power_of smallest ones_smallest

pub largest_power : (k : ℕ) × (largest ≡ 2 ^ k)
largest_power = power_of largest ones_largest

-- ---- allowed capacities

pub record Allowed (c : ℕ) : Type 0 where
  pub power : (k : ℕ) × (c ≡ 2 ^ k)
  pub low : smallest ≤ c
  pub high : c ≤ largest

pub allowed_is : (c : ℕ) → allowed_b c ≡ true → Allowed c
unfolding allowed_b
allowed_is c e =
    let p = both (eqb (ones c) 1) (leb smallest c && leb c largest) e in
    let q = both (leb smallest c) (leb c largest) p.1 in
    record { power = power_of c (eqb-true (ones c) 1 p.0); low = leb-true smallest c q.0; high = leb-true c largest q.1 }

pub is_allowed : (c : ℕ) → Allowed c → allowed_b c ≡ true
unfolding allowed_b
is_allowed c a =
    let e : ones c ≡ 1 = ap ones a.power.1 ∙ power_ones a.power.0 in
    rw (eq-eqb (ones c) 1 e, le-leb smallest c a.low, le-leb c largest a.high)

pub smallest_allowed : allowed_b smallest ≡ true
smallest_allowed = is_allowed smallest (record { power = smallest_power; low = omega arith; high = omega arith })

pub largest_allowed : allowed_b largest ≡ true
largest_allowed = is_allowed largest (record { power = largest_power; low = omega arith; high = omega arith })

-- so it divides 2 ^ 64
pub allowed_word : (c : ℕ) → allowed_b c ≡ true → (k : ℕ) × (c ≡ 2 ^ k) × (k ≤ 64)
allowed_word c e =
    let a = allowed_is c e in
    let k = a.power.0 in
    (k, a.power.1, ⊎_elim (λ (h : k ≤ 64). h) (λ (h : 64 < k). absurd (above k a.power.1 a.high h)) (le_or_lt k 64))
  where
    above : (k : ℕ) → c ≡ 2 ^ k → c ≤ largest → 64 < k → ⊥
    above k p u h =
        let g : 64 ≤ k = omega arith in
        let q : 2 ^ 64 ≤ 2 ^ k = pow_mono g in
        omega arith

-- ---- twice and half

pub twice_below : (c : ℕ) → 2 * c ≤ largest → twice_of c ≡ Some (2 * c)
unfolding twice_of
twice_below c h = rw (le-leb (2 * c) largest h)

pub twice_above : (c : ℕ) → largest < 2 * c → twice_of c ≡ None
unfolding twice_of
twice_above c h = rw (lt-leb (2 * c) largest h)

-- of an allowed capacity below the largest
pub twice_allowed : (c : ℕ) → allowed_b c ≡ true → c < largest → (twice_of c ≡ Some (2 * c)) × (allowed_b (2 * c) ≡ true)
twice_allowed c e h =
    let a = allowed_is c e in
    let k = a.power.0 in
    let l = largest_power in
    let p = a.power.1 in
    let t = l.1 in
    let s = pow-suc 2 k in
    let u = power_above k l.0 (omega arith) in
    let v : 2 * c ≤ largest = omega arith in
    (twice_below c v, is_allowed (2 * c) (record { power = (suc k, omega arith); low = omega arith; high = v }))

pub twice_largest : twice_of largest ≡ None
twice_largest = twice_above largest (omega arith)

-- of an allowed capacity above the smallest
pub half_allowed : (c : ℕ) → allowed_b c ≡ true → smallest < c → allowed_b (c / 2) ≡ true
half_allowed c e h = let a = allowed_is c e in go a.power.0 a.power.1 a.high
  where
    go : (k : ℕ) → c ≡ 2 ^ k → c ≤ largest → allowed_b (c / 2) ≡ true
    go zero p u = let z : ⊥ = omega arith in absurd z
    go (suc k) p u =
        let q = pow-suc 2 k in
        let l = smallest_power in
        let t = l.1 in
        let s = power_above l.0 (suc k) (omega arith) in
        is_allowed (c / 2) (record { power = (k, omega arith); low = omega arith; high = omega arith })

-- ---- the smallest that holds n jobs

-- no two answers
pub least_one : (n c d : ℕ) → Least n c → Least n d → c ≡ d
least_one n c d p q = le_antisymm (no_more n c d p q) (no_more n d c q p)
  where
    no_more : (n c d : ℕ) → Least n c → Least n d → c ≤ d
    no_more n c d p q =
        let e = q.power.1 in
        rw e (p.least q.power.0 (rw e at q.low) (rw e at q.holds))

-- what a search finds that starts at the smallest and never doubles what is enough
least_of : (n k c : ℕ) → c ≡ 2 ^ k → smallest ≤ c → n ≤ c → (c ≡ smallest) ⊎ (c < 2 * n) → Least n c
least_of n k c e l h w = record {
  power = (k, e);
  low = l;
  holds = h;
  least = λ j lo hi. ⊎_elim (λ p. omega arith) (λ p. rw e (power_below k j (let q : 2 ^ k < 2 * n = rw e at p in omega arith))) w;
}

-- and the next power of two is, from n or the smallest on
pub next_least : (n c : ℕ) → (k : ℕ) × (c ≡ 2 ^ k) → max n smallest ≤ c → c / 2 < max 1 (max n smallest) → Least n c
next_least n c power above half = record {
  power = power;
  low = omega arith;
  holds = omega arith;
  least = λ j lo hi. let b : 2 ^ power.0 < 2 * 2 ^ j = rw (← power.1) (omega arith) in rw power.1 (power_below power.0 j b);
}

doubled_least : (f n k c : ℕ) → c ≡ 2 ^ k → smallest ≤ c → n ≤ c * 2 ^ f → (c ≡ smallest) ⊎ (c < 2 * n) → Least n (doubled f c n)
unfolding doubled
doubled_least zero n k c e l h w = least_of n k c e l (omega arith) w
doubled_least (suc f) n k c e l h w = go (λ l' h' w'. doubled_least f n (suc k) (c * 2) (rw (e, pow-suc 2 k)) l' h' w') (leb n c) refl
  where
    go : (smallest ≤ c * 2 → n ≤ c * 2 * 2 ^ f → (c * 2 ≡ smallest) ⊎ (c * 2 < 2 * n) → Least n (doubled f (c * 2) n))
        → (b : Bool) → leb n c ≡ b → Least n (pick b c (doubled f (c * 2) n))
    go more true t = least_of n k c e l (leb-true n c t) w
    go more false t =
        let p = leb-false n c t in
        more (omega arith) (rw (mul_assoc c 2 (2 ^ f), mul_comm 2 (2 ^ f), ← pow-suc 2 f) h) (inr (omega arith))

pub holding_least : (n : ℕ) → n ≤ largest → (c : ℕ) × (holding_of n ≡ Some c) × Least n c
unfolding holding_of
holding_least n h =
    let l = smallest_power in (
      doubled 58 smallest n,
      rw (le-leb n largest h),
      doubled_least 58 n l.0 smallest l.1 (le_refl smallest) (le_trans h (lit≤ tt)) (inl refl),
    )

pub holding_is : (n c : ℕ) → n ≤ largest → Least n c → holding_of n ≡ Some c
holding_is n c h p = let q = holding_least n h in q.1 ∙ ap Some (least_one n q.0 c q.2 p)

pub holding_over : (n : ℕ) → largest < n → holding_of n ≡ None
unfolding holding_of
holding_over n h = rw (lt-leb n largest h)

-- the smallest that holds n is allowed
pub least_allowed : (n c : ℕ) → n ≤ largest → Least n c → allowed_b c ≡ true
least_allowed n c h p =
    let l = largest_power in
    let t = l.1 in
    let u = p.least l.0 (omega arith) (omega arith) in
    is_allowed c (record { power = p.power; low = p.low; high = omega arith })

-- so whatever `holding_of` answers holds n and is allowed
pub holding_allowed : (n c : ℕ) → holding_of n ≡ Some c → Least n c × (allowed_b c ≡ true)
holding_allowed n c e = ⊎_elim
    (λ (h : n ≤ largest).
    let q = holding_least n h in
    let s : Some q.0 ≡ Some c = (let r = q.1 in cc) in
    let t : q.0 ≡ c = cc in
    let p : Least n c = rw t at q.2 in
    (p, least_allowed n c h p))
    (λ (h : largest < n).
    let r = holding_over n h in
    let w : ◌≡◌ {A = ℕ} 0 1 = cc in
    let z : ⊥ = omega arith in
    absurd z)
    (le_or_lt n largest)
