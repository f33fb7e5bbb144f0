-- Cells of a queue's rings: what a write and a swap of the ring show at each index.
use mathlib.Core.Path.{◌≡◌, refl, sym}
use Prim.Native.Nat.{ℕ, suc, ◌+◌, ◌/◌, ◌%◌, ◌≤◌, ◌<◌}
use native.Mathlib.Omega.{arith}
use native.Mathlib.Nat.{div-add-mod', mul-le-mul_right}
use native.Mathlib.Decide.{ℕ_discrete, dec_le}
use Rattle.model.specs.Count.{upd}
use Rattle.model.specs.Stage.{Queue, cell, at, cap, set_cell, swap}
use Rattle.model.proofs.CountLaws.{upd_same, upd_other}

-- two indices less than c apart lie in different cells
pub mod_apart : (c i b : ℕ) → i < b → b < i + c → i % c ≡ b % c → ⊥
mod_apart c i b h k e = go (dec_le (suc (i / c)) (b / c))
  where
    go : Dec (suc (i / c) ≤ b / c) → ⊥
    go (yes l) = omega (arith, mul-le-mul_right c l, div-add-mod' i c, div-add-mod' b c)
    go (no l) = let m : b / c ≤ i / c = omega arith in omega (arith, mul-le-mul_right c m, div-add-mod' i c, div-add-mod' b c)

pub cell_same : (q : Queue) (b x : ℕ) → at (set_cell q b x) b ≡ x
cell_same q b x =
    rw (upd_same q.rings q.ring (upd (q.rings q.ring) (b % cap q) x) q.ring refl) (upd_same (q.rings q.ring) (b % cap q) x (b % cap q) refl)

pub cell_apart : (q : Queue) (b x i : ℕ) → (i % cap q ≡ b % cap q → ⊥) → at (set_cell q b x) i ≡ at q i
cell_apart q b x i d =
    rw (upd_same q.rings q.ring (upd (q.rings q.ring) (b % cap q) x) q.ring refl) (upd_other (q.rings q.ring) (b % cap q) x (i % cap q) d)

pub cell_other : (q : Queue) (b x i : ℕ) → i < b → b < i + cap q → at (set_cell q b x) i ≡ at q i
cell_other q b x i h k = cell_apart q b x i (mod_apart (cap q) i b h k)

pub cell_later : (q : Queue) (b x i : ℕ) → b < i → i < b + cap q → at (set_cell q b x) i ≡ at q i
cell_later q b x i h k = cell_apart q b x i (λ e. mod_apart (cap q) b i h k (sym e))

-- the same in any ring of the queue
pub ring_other : (q : Queue) (b x r i : ℕ) → i < b → b < i + cap q → cell (set_cell q b x) r i ≡ cell q r i
ring_other q b x r i h k = go (ℕ_discrete r q.ring)
  where
    go : Dec (r ≡ q.ring) → cell (set_cell q b x) r i ≡ cell q r i
    go (yes e) = rw e (cell_other q b x i h k)
    go (no d) = rw (upd_other q.rings q.ring (upd (q.rings q.ring) (b % cap q) x) r d)

-- the rings before a swap are as they were; the new one is what was built
pub swap_old : (q : Queue) (c : ℕ) (cells : ℕ → ℕ) (r i : ℕ) → r < q.top → cell (swap q c cells) r i ≡ cell q r i
swap_old q c cells r i h =
    rw (upd_other q.rings q.top cells r (λ e. omega arith), upd_other q.caps q.top c r (λ e. omega arith))

pub swap_new : (q : Queue) (c : ℕ) (cells : ℕ → ℕ) (i : ℕ) → at (swap q c cells) i ≡ cells (i % c)
swap_new q c cells i = rw (upd_same q.rings q.top cells q.top refl, upd_same q.caps q.top c q.top refl)

pub swap_cap : (q : Queue) (c : ℕ) (cells : ℕ → ℕ) → cap (swap q c cells) ≡ c
swap_cap q c cells = upd_same q.caps q.top c q.top refl
