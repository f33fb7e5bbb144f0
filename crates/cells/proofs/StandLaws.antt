-- What a ring that stands has in the pool, what a write to one of its cells does to every read, and when a ring stands.
use mathlib.Core.Path.{◌≡◌, refl, sym, ap, ◌∙◌}
use mathlib.Core.Bool.{Bool, true, false}
use mathlib.Core.List.{List}
use mathlib.Core.Logic.{◌≢◌}
use Prim.Native.Nat.{ℕ, zero, ◌+◌, ◌-◌, ◌*◌, ◌/◌, ◌≤◌, ◌<◌}
use native.Mathlib.Omega.{arith}
use lib.Dec.{ltb}
use lib.ListN.{length, get_or, set, drop, length-set}
use lib.Seq.{get_or-take, get_or-drop, get_or-set_same, get_or-set_other}
use borrow.Author.Tests.{ltb-true, lt-ltb}
use borrow.Rule.Slice.PartMut.{put_mid, mid_of, set_mid_at, mid_len}
use Rattle.std.specs.Prelude.{Some, None}
use Rattle.std.specs.declared.ops.Range.{Range}
use Rattle.base.specs.Tests.{pick, by_test, both}
use Rattle.index.specs.declared.Index.{Index}
use Rattle.index.specs.Index.{cell_of}
use Rattle.index.proofs.Laws.{cell_below}
use Rattle.ring.specs.declared.Ring.{Ring}
use Rattle.ring.specs.Capacity.{allowed_b}
use Rattle.ring.proofs.CapacityLaws.{Allowed, allowed_is, is_allowed}
use Rattle.cells.specs.Cells.{place_cells, stands_b, stretch_of, spot, read_of, written_of}

-- ---- when a ring stands

pub record Standing (cells : List ℕ) (r : Ring) : Type 0 where
  pub room : r.place.0 * place_cells + place_cells ≤ length cells
  pub allowed : Allowed r.capacity

pub standing : (cells : List ℕ) (r : Ring) → stands_b cells r ≡ true → Standing cells r
unfolding stands_b
standing cells r e =
    let p = both (ltb r.place.0 (length cells / place_cells)) (allowed_b r.capacity) e in
    let h = ltb-true r.place.0 (length cells / place_cells) p.0 in
    record { room = omega arith; allowed = allowed_is r.capacity p.1 }

pub stands_is : (cells : List ℕ) (r : Ring) → Standing cells r → stands_b cells r ≡ true
unfolding stands_b
stands_is cells r s =
    let h = s.room in
    rw (lt-ltb r.place.0 (length cells / place_cells) (omega arith)) (is_allowed r.capacity s.allowed)

-- in a pool of n places, a ring of an allowed capacity at one of them
pub stands_placed : (cells : List ℕ) (n : ℕ) (r : Ring)
    → length cells ≡ n * place_cells → r.place.0 < n → allowed_b r.capacity ≡ true → stands_b cells r ≡ true
stands_placed cells n r l p a =
    stands_is cells r (record { room = omega arith; allowed = allowed_is r.capacity a })

-- the pool's length alone decides
pub stands_length : (xs ys : List ℕ) (r : Ring) → length xs ≡ length ys → stands_b xs r ≡ stands_b ys r
unfolding stands_b
stands_length xs ys r e = rw e

-- ---- where a cell lies

-- a cell of a ring is one of its stretch
pub cell_inside : (cells : List ℕ) (r : Ring) (i : Index) → Standing cells r → cell_of i r.capacity < r.capacity
cell_inside cells r i s =
    let l = s.allowed.low in
    let h : zero < r.capacity = omega arith in
    cell_below i r.capacity h

pub spot_inside : (cells : List ℕ) (r : Ring) (i : Index) → Standing cells r → spot r i < length cells
unfolding spot
spot_inside cells r i s =
    let m = s.room in
    let u = s.allowed.high in
    let b = cell_inside cells r i s in
    omega arith

pub spot_same : (r : Ring) (i j : Index) → cell_of i r.capacity ≡ cell_of j r.capacity → spot r j ≡ spot r i
unfolding spot
spot_same r i j e = omega arith

-- two cells of a ring, and cells of two places, lie apart
pub spot_cells : (r : Ring) (i j : Index) → cell_of i r.capacity ≢ cell_of j r.capacity → spot r j ≢ spot r i
unfolding spot
spot_cells r i j d e =
    let q : cell_of i r.capacity ≡ cell_of j r.capacity = omega arith in
    d q

pub spot_places : (cells : List ℕ) (r s : Ring) (i j : Index) → Standing cells r → Standing cells s
    → r.place.0 ≢ s.place.0 → spot s j ≢ spot r i
unfolding spot
spot_places cells r s i j p q d e =
    let a = cell_inside cells r i p in
    let b = cell_inside cells s j q in
    let u = p.allowed.high in
    let v = q.allowed.high in
    let t : r.place.0 ≡ s.place.0 = omega arith in
    d t

-- ---- what a write does

pub written_length : (cells : List ℕ) (r : Ring) (i : Index) (job : ℕ) → length (written_of cells r i job) ≡ length cells
unfolding written_of
written_length cells r i job =
    by_test (λ (l : List ℕ). length l ≡ length cells) (stands_b cells r) (set cells (spot r i) job) cells
    (λ _. length-set cells (spot r i) job)
    (λ _. refl)

pub stands_written : (cells : List ℕ) (r s : Ring) (i : Index) (job : ℕ) → stands_b (written_of cells r i job) s ≡ stands_b cells s
stands_written cells r s i job = stands_length (written_of cells r i job) cells s (written_length cells r i job)

-- of a ring that stands
pub read_is : (cells : List ℕ) (r : Ring) (i : Index) → stands_b cells r ≡ true → read_of cells r i ≡ get_or cells (spot r i) 0
unfolding read_of
read_is cells r i s = rw s

pub written_is : (cells : List ℕ) (r : Ring) (i : Index) (job : ℕ) → stands_b cells r ≡ true → written_of cells r i job ≡ set cells (spot r i) job
unfolding written_of
written_is cells r i job s = rw s

-- the cell just written holds the job
pub read_written : (cells : List ℕ) (r : Ring) (i : Index) (job : ℕ) → stands_b cells r ≡ true → read_of (written_of cells r i job) r i ≡ job
read_written cells r i job s =
    rw (read_is (written_of cells r i job) r i (stands_written cells r r i job ∙ s), written_is cells r i job s)
    (get_or-set_same cells (spot r i) job 0 (spot_inside cells r i (standing cells r s)))

-- so does the cell of any index that lies in it
pub read_written_cell : (cells : List ℕ) (r : Ring) (i j : Index) (job : ℕ) → stands_b cells r ≡ true
    → cell_of i r.capacity ≡ cell_of j r.capacity → read_of (written_of cells r i job) r j ≡ job
read_written_cell cells r i j job s e =
    let t = stands_written cells r r i job ∙ s in
    let w = written_of cells r i job in
    read_is w r j t ∙ ap (λ (n : ℕ). get_or w n 0) (spot_same r i j e) ∙ sym (read_is w r i t) ∙ read_written cells r i job s

-- a read elsewhere is unchanged, whether the rings stand or not
read_apart : (cells : List ℕ) (r s : Ring) (i j : Index) (job : ℕ)
    → (stands_b cells r ≡ true → stands_b cells s ≡ true → spot s j ≢ spot r i)
    → read_of (written_of cells r i job) s j ≡ read_of cells s j
unfolding read_of written_of
read_apart cells r s i j job d = rw (stands_written cells r s i job) (go (stands_b cells r) (stands_b cells s) refl refl)
  where
    go : (a b : Bool) → stands_b cells r ≡ a → stands_b cells s ≡ b
        → pick b (get_or (pick a (set cells (spot r i) job) cells) (spot s j) 0) 0 ≡ pick b (get_or cells (spot s j) 0) 0
    go true true p q = get_or-set_other cells (spot r i) (spot s j) job 0 (d p q)
    go true false p q = refl
    go false true p q = refl
    go false false p q = refl

-- another cell of the ring
pub read_other_cell : (cells : List ℕ) (r : Ring) (i j : Index) (job : ℕ)
    → cell_of i r.capacity ≢ cell_of j r.capacity → read_of (written_of cells r i job) r j ≡ read_of cells r j
read_other_cell cells r i j job d = read_apart cells r r i j job (λ p q. spot_cells r i j d)

-- a cell of a ring at another place
pub read_other_place : (cells : List ℕ) (r s : Ring) (i j : Index) (job : ℕ)
    → r.place.0 ≢ s.place.0 → read_of (written_of cells r i job) s j ≡ read_of cells s j
read_other_place cells r s i j job d =
    read_apart cells r s i j job (λ p q. spot_places cells r s i j (standing cells r p) (standing cells s q) d)

-- ---- the stretch: from its start, of so many cells

abbrev pub start : Ring → ℕ
start r = r.place.0 * place_cells

abbrev pub size : Ring → ℕ
size r = start r + r.capacity - start r

-- an index's cell is one of it, wherever in the pool it starts
pub at_inside : (cells : List ℕ) (r : Ring) (i : Index) (at from : ℕ) → Standing cells r → from + r.capacity ≤ length cells → at ≡ cell_of i r.capacity
    → at < length (mid_of from (from + r.capacity - from) cells)
at_inside cells r i at from s l e =
    let b = cell_inside cells r i s in
    rw (mid_len from (from + r.capacity) cells l) (omega arith)

pub at_below : (cells : List ℕ) (r : Ring) (i : Index) (at : ℕ) → stands_b cells r ≡ true → at ≡ cell_of i r.capacity
    → at < length (mid_of (start r) (size r) cells)
at_below cells r i at s e =
    let t = standing cells r s in
    let m = t.room in
    let u = t.allowed.high in
    at_inside cells r i at (start r) t (omega arith) e

-- what stands in that cell is what is read
pub got : (cells : List ℕ) (r : Ring) (i : Index) (at : ℕ) → stands_b cells r ≡ true → at ≡ cell_of i r.capacity
    → get_or (mid_of (start r) (size r) cells) at 0 ≡ read_of cells r i
unfolding read_of spot
got cells r i at s e =
    let b = cell_inside cells r i (standing cells r s) in
    let h : at < size r = omega arith in
    rw (s, get_or-take (size r) (drop (start r) cells) at 0 h, get_or-drop, e)

-- a job put there is written to the pool
pub put_back_lem : (cells last : List ℕ) (r : Ring) (i : Index) (at job : ℕ) → stands_b cells r ≡ true → at ≡ cell_of i r.capacity
    → last ≡ set (mid_of (start r) (size r) cells) at job
    → put_mid (start r) (size r) cells last ≡ written_of cells r i job
unfolding written_of spot
put_back_lem cells last r i at job s e l =
    rw (l, s, set_mid_at (start r) (size r) at cells job (at_below cells r i at s e), e)

-- ---- and as the code lends it

-- a ring that has one stands, and it is from the ring's start on
pub has_stretch : (cells : List ℕ) (r : Ring) (s : Range ℕ) → Some s ≡ stretch_of cells r
    → (stands_b cells r ≡ true) × (s.start ≡ r.place.0 * place_cells) × (s.end ≡ r.place.0 * place_cells + r.capacity)
has_stretch cells r s e = go (stands_b cells r) refl e
  where
    go : (b : Bool) → stands_b cells r ≡ b → Some s ≡ pick b (Some (record { start = r.place.0 * place_cells; end = r.place.0 * place_cells + r.capacity })) None
        → (stands_b cells r ≡ true) × (s.start ≡ r.place.0 * place_cells) × (s.end ≡ r.place.0 * place_cells + r.capacity)
    go true t f =
        let h : ◌≡◌ {A = Range ℕ} s (record { start = r.place.0 * place_cells; end = r.place.0 * place_cells + r.capacity }) = cc in
        (t, ap (λ (x : Range ℕ). x.start) h, ap (λ (x : Range ℕ). x.end) h)
    go false t f = absurd (let z : ◌≡◌ {A = ℕ} 0 1 = cc in omega arith)

module _ (cells : List ℕ) (r : Ring) (i : Index) (at : ℕ) (s : Range ℕ) (e : Some s ≡ stretch_of cells r) (p : at ≡ cell_of i r.capacity) where
  abbrev pub lent : List ℕ
  lent = mid_of s.start (s.end - s.start) cells

  pub lent_inside : at < length lent
  lent_inside = let h = has_stretch cells r s e in rw (h.1, h.2) (at_below cells r i at h.0 p)

  pub lent_got : get_or lent at 0 ≡ read_of cells r i
  lent_got = let h = has_stretch cells r s e in rw (h.1, h.2) (got cells r i at h.0 p)

  pub lent_put_back : (last : List ℕ) (job : ℕ) → last ≡ set lent at job → put_mid s.start (s.end - s.start) cells last ≡ written_of cells r i job
  lent_put_back last job w =
      let h = has_stretch cells r s e in
      rw (h.1, h.2) (put_back_lem cells last r i at job h.0 p (rw (h.1, h.2) at w))
