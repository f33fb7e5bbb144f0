-- Reads and writes of a ring in the lent pool, seen as a pool by place and cell.
use Rattle.std.proofs.Common.{◌≡◌, ℕ, ◌+◌, ◌*◌, ◌%◌, ◌<◌, ◌≤◌, true, ltb, ◌⊎◌, List, length, get_or, set, sym, ap, ◌∙◌, inl, inr, mod-lt, arith, get_or-set_other, get_or-set_same, ltb-true, le-ltb, lt-ltb}
use native.Mathlib.Decide.{ℕ_discrete}
use Rattle.base.specs.Tests.{both, le_or_lt}
use Rattle.index.proofs.Laws.{cell_of_lem}
use Rattle.ring.specs.declared.Ring.{Ring}
use Rattle.ring.specs.Capacity.{largest, allowed_b}
use Rattle.ring.proofs.CapacityLaws.{allowed_is}
use Rattle.cells.specs.Cells.{place_cells, stands_b, spot, read_of, written_of}
use Rattle.cells.proofs.StandLaws.{stands_placed, read_is, written_is}
use Rattle.sound.specs.Sound.{ring_sound}
use Rattle.model.specs.Count.{upd}
use Rattle.model.specs.Machine.{State}
use Rattle.model.specs.Memory.{Keeps, put}
use Rattle.model.proofs.CountLaws.{upd_same, upd_other}
use Rattle.link.specs.Map.{ix}
use Rattle.link.specs.Linked.{pool_of}

pub pool_in : (cells : List ℕ) (p x : ℕ) → x < place_cells → pool_of cells p x ≡ get_or cells (p * place_cells + x) 0
pool_in cells p x h = rw (lt-ltb x place_cells h)

pool_out : (cells : List ℕ) (p x : ℕ) → place_cells ≤ x → pool_of cells p x ≡ 0
pool_out cells p x h = rw (le-ltb x place_cells h)

-- a sound ring: its capacity is allowed, and it stands in the pool
pub sound_allowed : (n : ℕ) (r : Ring) → ring_sound n r ≡ true → allowed_b r.capacity ≡ true
sound_allowed n r h = (both (allowed_b r.capacity) (ltb r.place.0 n) h).0

pub sound_cap : (n : ℕ) (r : Ring) → ring_sound n r ≡ true → (0 < r.capacity) × (r.capacity ≤ largest)
sound_cap n r h = let a = allowed_is r.capacity (sound_allowed n r h) in let l = a.low in let u = a.high in (omega arith, omega arith)

pub sound_place : (n : ℕ) (r : Ring) → ring_sound n r ≡ true → r.place.0 < n
sound_place n r h = ltb-true r.place.0 n (both (allowed_b r.capacity) (ltb r.place.0 n) h).1

pub sound_stands : (cells : List ℕ) (n : ℕ) (r : Ring) → length cells ≡ n * place_cells → ring_sound n r ≡ true → stands_b cells r ≡ true
sound_stands cells n r l h = stands_placed cells n r l (sound_place n r h) (sound_allowed n r h)

module _ (cells : List ℕ) (n : ℕ) (r : Ring) (l : length cells ≡ n * place_cells) (h : ring_sound n r ≡ true) where
  stands : stands_b cells r ≡ true
  stands = sound_stands cells n r l h

  cell_in : (i : ℕ) → i % r.capacity < place_cells
  cell_in i = let c = sound_cap n r h in let m = mod-lt i c.0 in let u = c.1 in omega arith

  spot_is : (i : ℕ) → spot r (ix i) ≡ r.place.0 * place_cells + i % r.capacity
  unfolding spot
  spot_is i = rw (cell_of_lem i r.capacity (sound_cap n r h).0)

  pub pool_read : (i : ℕ) → read_of cells r (ix i) ≡ pool_of cells r.place.0 (i % r.capacity)
  pool_read i = read_is cells r (ix i) stands ∙ ap (λ (x : ℕ). get_or cells x 0) (spot_is i) ∙ sym (pool_in cells r.place.0 (i % r.capacity) (cell_in i))

  pub pool_write : (i v p x : ℕ) → pool_of (written_of cells r (ix i) v) p x ≡ put (pool_of cells) r.place.0 (i % r.capacity) v p x
  pool_write i v p x = go (ℕ_discrete p P) (ℕ_discrete x X) (le_or_lt place_cells x)
    where
      P : ℕ
      P = r.place.0

      X : ℕ
      X = i % r.capacity

      L : List ℕ
      L = written_of cells r (ix i) v

      is_set : L ≡ set cells (P * place_cells + X) v
      is_set = written_is cells r (ix i) v stands ∙ ap (λ (y : ℕ). set cells y v) (spot_is i)

      here : (p ≡ P) → put (pool_of cells) P X v p x ≡ upd (pool_of cells P) X v x
      here e = ap (λ (f : ℕ → ℕ). f x) (upd_same (pool_of cells) P (upd (pool_of cells P) X v) p e)

      there : (p ≡ P → ⊥) → put (pool_of cells) P X v p x ≡ pool_of cells p x
      there e = ap (λ (f : ℕ → ℕ). f x) (upd_other (pool_of cells) P (upd (pool_of cells P) X v) p e)

      in_place : X < place_cells
      in_place = cell_in i

      inside : P * place_cells + X < length cells
      inside = let a = sound_place n r h in let b = in_place in omega arith

      other : (p * place_cells + x ≡ P * place_cells + X → ⊥) → x < place_cells → pool_of L p x ≡ pool_of cells p x
      other d s =
          pool_in L p x s ∙ ap (λ (l : List ℕ). get_or l (p * place_cells + x) 0) is_set
          ∙ get_or-set_other cells (P * place_cells + X) (p * place_cells + x) v 0 d ∙ sym (pool_in cells p x s)

      go : Dec (p ≡ P) → Dec (x ≡ X) → (place_cells ≤ x) ⊎ (x < place_cells) → pool_of L p x ≡ put (pool_of cells) P X v p x
      go (yes a) (yes b) (inl s) = let c = in_place in absurd (omega arith)
      go (yes a) (no b) (inl s) = pool_out L p x s ∙ sym (here a ∙ upd_other (pool_of cells P) X v x b ∙ pool_out cells P x s)
      go (no a) b (inl s) = pool_out L p x s ∙ sym (there a ∙ pool_out cells p x s)
      go (yes a) (yes b) (inr s) =
          pool_in L p x s ∙ ap (λ (l : List ℕ). get_or l (p * place_cells + x) 0) is_set
          ∙ (let e : get_or (set cells (P * place_cells + X) v) (p * place_cells + x) 0 ≡ v =
          rw (a, b) (get_or-set_same cells (P * place_cells + X) v 0 inside) in e)
          ∙ sym (here a ∙ upd_same (pool_of cells P) X v x b)
      go (yes a) (no b) (inr s) =
          other (λ e. b (omega arith)) s ∙ ap (λ (y : ℕ). pool_of cells y x) a ∙ sym (here a ∙ upd_other (pool_of cells P) X v x b)
      go (no a) b (inr s) = let c = in_place in other (λ e. a (omega arith)) s ∙ sym (there a)

-- a pool that is the same everywhere keeps the same rings
pub keeps_as : (n : ℕ) (s : State) (place pool pool' : ℕ → ℕ → ℕ) → ((p x : ℕ) → pool' p x ≡ pool p x) → Keeps n s place pool → Keeps n s place pool'
keeps_as n s place pool pool' e w = record { agree = λ k r l x. e (place k r) x ∙ w.agree k r l x; apart = w.apart }
