-- Resize, once for push, for both pops and for batch.
use mathlib.Core.Path.{◌≡◌, refl, ◌∙◌}
use Prim.Native.Nat.{ℕ, suc, ◌+◌, ◌%◌, ◌≤◌, ◌<◌}
use native.Mathlib.Omega.{arith}
use native.Mathlib.Nat.{le_refl}
use native.Mathlib.Decide.{ℕ_discrete}
use lib.Dec.{eqb}
use Rattle.base.specs.Tests.{by_test, tests}
use Rattle.model.specs.Count.{upd, stand}
use Rattle.model.specs.Stage.{Flavour, Queue, at, cap, swap, ResizeStage, resize_back, resize_front, resize_copy, resize_swap, idle, Out}
use Rattle.model.specs.Tables.{Claim, lost, got, Resized, more, failed, finished, resize_step, resized}
use Rattle.model.specs.Invariant.{ResizeOk, view, Ev}
use Rattle.model.proofs.CountLaws.{upd_same, upd_other, stand_cong}
use Rattle.model.proofs.CellLaws.{mod_apart, swap_old, swap_new, swap_cap}

-- r is q with another ring, and room for `need` more
pub record Swapped (need : ℕ) (fl : Flavour) (q r : Queue) : Type 0 where
  pub fronts : r.front ≡ q.front
  pub backs : r.back ≡ q.back
  pub room : r.back + need ≤ r.front + cap r
  pub some_cap : 0 < cap r
  pub ring_top : r.ring < r.top
  pub ev : Ev fl (view idle q) (view idle r)
  pub stands : (j : ℕ) → stand (at r) r.front r.back j ≡ stand (at q) q.front q.back j

abbrev pub ResizeGood : ℕ → Flavour → Queue → Resized → Type 0
ResizeGood need fl q (more z) = ResizeOk need z q
ResizeGood need fl q failed = Unit
ResizeGood need fl q (finished r) = Swapped need fl q r

pub by_resize : (P : Out → Type 0) (need : ℕ) (fl : Flavour) (q : Queue) (res : Resized) (k : ResizeStage → Out) (e : Out) (d : Queue → Out)
    → ResizeGood need fl q res
    → ((z : ResizeStage) → ResizeOk need z q → P (k z)) → P e → ((r : Queue) → Swapped need fl q r → P (d r)) → P (resized res k e d)
by_resize P need fl q (more z) k e d h a b c = a z h
by_resize P need fl q failed k e d h a b c = b
by_resize P need fl q (finished r) k e d h a b c = c r h

swapping : (need : ℕ) (fl : Flavour) (c : ℕ) (cells : ℕ → ℕ) (q : Queue) → q.ring < q.top → ResizeOk need (resize_swap c cells) q
    → Swapped need fl q (swap q c cells)
swapping need fl c cells q t o =
    let same : (x : ℕ) → q.front ≤ x → x < q.back → at (swap q c cells) x ≡ at q x = λ x l u. swap_new q c cells x ∙ o.2 x l u in
    record {
      fronts = refl;
      backs = refl;
      room = rw (swap_cap q c cells) o.1;
      some_cap = rw (swap_cap q c cells) o.0;
      ring_top = omega arith;
      ev = record {
        grows = le_refl q.front;
        stays = λ f r h. h;
        keeps = λ i l u w. same i l u;
        tops = omega arith;
        same_ring = λ r h e. absurd (omega arith);
        old_rings = λ r i h l u w. swap_old q c cells r i h;
      };
      stands = λ j. stand_cong (at (swap q c cells)) (at q) q.front q.back j same;
    }

-- one more cell copied
copied : (c b i : ℕ) (cells : ℕ → ℕ) (q : Queue) → b ≤ q.front + c → i < b → ((x : ℕ) → q.front ≤ x → x < i → cells (x % c) ≡ at q x)
    → (x : ℕ) → q.front ≤ x → x < suc i → upd cells (i % c) (at q i) (x % c) ≡ at q x
copied c b i cells q r h k x l u = go (ℕ_discrete x i)
  where
    go : Dec (x ≡ i) → upd cells (i % c) (at q i) (x % c) ≡ at q x
    go (yes e) = rw e (upd_same cells (i % c) (at q i) (i % c) refl)
    go (no d) = upd_other cells (i % c) (at q i) (x % c) (mod_apart c x i (omega arith) (omega arith)) ∙ k x l (omega arith)

pub resize_good : (need : ℕ) (fl : Flavour) (g : Claim) (z : ResizeStage) (q : Queue) → q.ring < q.top → q.front ≤ q.back → ResizeOk need z q
    → ResizeGood need fl q (resize_step g z q)
unfolding resize_step
resize_good need fl g (resize_back c) q t a o = (o.0, o.1, refl)
resize_good need fl lost (resize_front c b) q t a o = tt
resize_good need fl (got cells) (resize_front c b) q t a o =
    by_test (ResizeGood need fl q) (eqb q.front b) _ _
    (λ w. (o.0, o.1, λ x l h. absurd (omega tests))) (λ w. (o.0, o.1, o.2, omega tests, λ x l h. absurd (omega arith)))
resize_good need fl g (resize_copy c b i cells) q t a o =
    let k = copied c b i cells q (omega arith) o.3 o.4 in
    by_test (ResizeGood need fl q) (eqb (suc i) b) _ _ (λ w. (o.0, o.1, λ x l h. k x l (omega tests))) (λ w. (o.0, o.1, o.2, omega tests, k))
resize_good need fl g (resize_swap c cells) q t a o = swapping need fl c cells q t o
