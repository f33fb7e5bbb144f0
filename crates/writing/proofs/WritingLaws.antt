-- What is known of text put on a page.
use Rattle.std.proofs.Common.{◌≡◌, refl, sym, ap, ◌∙◌, List, [], ◌∷◌, ◌++◌, ℕ, zero, suc, ◌+◌, ◌*◌, ◌/◌, ◌%◌, ◌^◌, ◌≤◌, ◌<◌, ℤ, pos, negsuc, ⊎_elim, length, length-append, length-set, take, get_or, set, add-one, arith, ltb, lt-ltb, le-ltb}
use Rattle.std.proofs.lemmas.List.{take_more}
use lib.Seq.{set_out, sets, sets-eq}
use Rattle.base.specs.Tests.{pick, le_or_lt, by_test, tests}
use Rattle.writing.specs.declared.Page.{Page}
use Rattle.writing.specs.Writing.{printed, put, holding, put_on, whole, width_from, last_digits, decimal, signed}

-- a byte on the page is stored; one behind its end is left out
pub byte_on : (p : Page) (b : ℕ) → p.at < length p.bytes.now → put_on p (b ∷ []) ≡ holding p (printed (set p.bytes.now p.at b) (p.at + 1))
unfolding put_on put
byte_on p b h = rw (lt-ltb _ _ h)

pub byte_off : (p : Page) (b : ℕ) → length p.bytes.now ≤ p.at → put_on p (b ∷ []) ≡ holding p (printed p.bytes.now (length p.bytes.now))
unfolding put_on put
byte_off p b h = rw (le-ltb _ _ h, set_out p.bytes.now p.at b h)

pub put_none : (p : Page) → put_on p [] ≡ p
unfolding put_on put
put_none p = refl

-- one text behind the other
put_append : (p : List ℕ) (at : ℕ) (xs ys : List ℕ) → put (put p at xs).bytes (put p at xs).at ys ≡ put p at (xs ++ ys)
unfolding put
put_append p at [] ys = refl
put_append p at (x ∷ xs) ys = put_append (set p at x) (pick (ltb at (length p)) (at + 1) (length p)) xs ys

pub put_then : (p : Page) (xs ys : List ℕ) → put_on (put_on p xs) ys ≡ put_on p (xs ++ ys)
unfolding put_on
put_then p xs ys = ap (holding p) (put_append p.bytes.now p.at xs ys)

-- a text put byte by byte
pub put_next : (p q : Page) (text : List ℕ) (i : ℕ) → i < length text → q ≡ put_on p (take i text) →
    put_on q (get_or text i 0 ∷ []) ≡ put_on p (take (i + 1) text)
put_next p q text i h e = rw (take_more text i 0 h, e) (put_then p (take i text) (get_or text i 0 ∷ []))

-- what is put on a page ends on it
pub put_within : (p : List ℕ) (at : ℕ) (text : List ℕ) → at ≤ length p → (put p at text).at ≤ length p
unfolding put
put_within p at [] h = h
put_within p at (b ∷ bs) h =
    let n = pick (ltb at (length p)) (at + 1) (length p) in
    let l : n ≤ length p = by_test (λ (k : ℕ). k ≤ length p) (ltb at (length p)) (at + 1) (length p) (λ t. omega tests) (λ t. omega arith) in
    let e : length (set p at b) ≡ length p = length-set p at b in
    let w : n ≤ length (set p at b) = omega arith in
    let r : (put (set p at b) n bs).at ≤ length (set p at b) = put_within (set p at b) n bs w in omega arith

-- a text that fits on a page is all put there, and the bytes around it stay
put_sets : (p : List ℕ) (at : ℕ) (text : List ℕ) → at + length text ≤ length p → put p at text ≡ printed (sets p at text) (at + length text)
unfolding put
put_sets p at [] h = ap (printed p) (omega arith)
put_sets p at (b ∷ bs) h =
    let s : at + 1 ≡ suc at = add-one at in
    let e : length (set p at b) ≡ length p = length-set p at b in
    rw (lt-ltb at (length p) (omega arith), s) (put_sets (set p at b) (suc at) bs (omega arith) ∙ ap (printed _) (omega arith))

pub put_whole : (p : List ℕ) (at : ℕ) (text : List ℕ) → at + length text ≤ length p → put p at text ≡ whole p at text
put_whole p at text h = put_sets p at text h ∙ ap (λ (l : List ℕ). printed l (at + length text)) (sets-eq text p at h)

-- ---- numbers: the last digit lies behind those of the tenth

ten_more : (k : ℕ) → 10 ^ (k + 1) ≡ 10 * 10 ^ k
ten_more k = rw (add-one k) (omega arith)

width_tenth : (f k n : ℕ) → width_from f (k + 1) n ≡ width_from f k (n / 10) + 1
unfolding width_from
width_tenth zero k n = refl
width_tenth (suc f) k n =
    let e : 10 ^ (k + 1) ≡ 10 * 10 ^ k = ten_more k in
    ⊎_elim
    (λ (h : 10 ^ k ≤ n / 10). rw (le-ltb n (10 ^ (k + 1)) (omega arith), le-ltb (n / 10) (10 ^ k) h) (width_tenth f (k + 1) n))
    (λ (h : n / 10 < 10 ^ k). rw (lt-ltb n (10 ^ (k + 1)) (omega arith), lt-ltb (n / 10) (10 ^ k) h))
    (le_or_lt (10 ^ k) (n / 10))

-- a digit more at most finds no more in a number that fewer hold
width_same : (f k n : ℕ) → n < 10 ^ (k + f) → width_from (suc f) k n ≡ width_from f k n
unfolding width_from
width_same zero k n h = let e : k + 0 ≡ k = omega arith in rw (lt-ltb n (10 ^ k) (rw e at h))
width_same (suc f) k n h =
    let e : k + suc f ≡ k + 1 + f = omega arith in
    ap (pick (ltb n (10 ^ k)) k) (width_same f (k + 1) n (rw e at h))

pub decimal_one : (n : ℕ) → n < 10 → decimal n ≡ (48 + n) ∷ []
unfolding decimal width_from
decimal_one n h = let e : n % 10 ≡ n = omega arith in rw (lt-ltb n 10 h, e)

pub decimal_next : (n : ℕ) → 10 ≤ n → n < 2 ^ 64 → decimal n ≡ decimal (n / 10) ++ ((48 + n % 10) ∷ [])
unfolding decimal width_from
decimal_next n h l =
    let t : n / 10 < 10 ^ 19 = omega arith in
    let w : width_from 18 2 n ≡ suc (width_from 19 1 (n / 10)) = width_tenth 18 1 n ∙ add-one _ ∙ ap suc (sym (width_same 18 1 (n / 10) t)) in
    rw (le-ltb n 10 h) (ap (λ k. last_digits 10 k n) w)

-- ---- lengths: a number has at most 20 digits, and a sign before them

digits_length : (b k n : ℕ) → length (last_digits b k n) ≡ k
digits_length b zero n = refl
digits_length b (suc k) n = rw (length-append, digits_length b k) (omega arith)

width_at_most : (f k n : ℕ) → width_from f k n ≤ k + f
unfolding width_from
width_at_most zero k n = omega arith
width_at_most (suc f) k n =
    by_test (λ x. x ≤ k + suc f) (ltb n (10 ^ k)) k (width_from f (k + 1) n) (λ t. omega arith) (λ t. omega (arith, width_at_most f (k + 1) n))

pub decimal_short : (n : ℕ) → length (decimal n) ≤ 20
unfolding decimal
decimal_short n = rw (digits_length 10) (width_at_most 19 1 n)

pub signed_short : (z : ℤ) → length (signed z) ≤ 21
signed_short (pos n) = omega (arith, decimal_short n)
signed_short (negsuc n) = omega (arith, decimal_short (n + 1))
