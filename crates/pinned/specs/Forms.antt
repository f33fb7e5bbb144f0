-- The forms of our promises. Each says `form r c ≡ v`: what a call leaves, put together, is what a definition gives; r is the result, c what was lent,
-- as the call leaves it. A form can be taken apart again.
use Rattle.std.specs.Prelude.{◌≡◌, ℕ, List, refl}
use Rattle.parts.specs.declared.out.Out.{Out}
use Rattle.parts.specs.Out.{Left, left}
use Rattle.machine.specs.declared.state.Called.{Called}
use Rattle.machine.specs.State.{After, leaves}
use Rattle.parts.specs.declared.out.Resized.{Resized}
use Rattle.op_resize.specs.Resize.{Resizing, resizing}
use Rattle.writing.specs.declared.Page.{Page}
use Rattle.stand.specs.declared.Stand.{Stand}
use Rattle.stand.specs.Stand.{Scene, scene}

pub record Form (A C B : Type 0) : Type 0 where
  pub form : A → C → B
  pub result : B → A
  pub rest : B → C
  pub result_is : (r : A) (c : C) → result (form r c) ≡ r
  pub rest_is : (r : A) (c : C) → rest (form r c) ≡ c

-- the result alone: `result ≡ v`
abbrev pub plain : {A : Type 0} → Form A Unit A
plain = record { form = λ r c. r; result = λ v. v; rest = λ v. tt; result_is = λ r c. refl; rest_is = λ r c. refl }

-- the result beside the cells: `(result, pool.new) ≡ v`
abbrev pub paired : {A : Type 0} → Form A (List ℕ) (A × List ℕ)
paired = record { form = λ r c. (r, c); result = λ v. v.0; rest = λ v. v.1; result_is = λ r c. refl; rest_is = λ r c. refl }

-- a call of the machine; a step of a queue
abbrev pub called : Form Called (List ℕ) After
called = record { form = leaves; result = λ v. v.called; rest = λ v. v.cells; result_is = λ r c. refl; rest_is = λ r c. refl }

abbrev pub stepped : Form Out (List ℕ) Left
stepped = record { form = left; result = λ v. v.out; rest = λ v. v.cells; result_is = λ r c. refl; rest_is = λ r c. refl }

-- a step of a resize; what the program has next
abbrev pub resized : Form Resized (List ℕ) Resizing
resized = record { form = resizing; result = λ v. v.resized; rest = λ v. v.cells; result_is = λ r c. refl; rest_is = λ r c. refl }

abbrev pub acted : Form Stand (List ℕ × Page) Scene
acted = record { form = λ r c. scene r c.0 c.1; result = λ v. v.stand; rest = λ v. (v.cells, v.page); result_is = λ r c. refl; rest_is = λ r c. refl }

-- a part of what was lent, shown: `result.now ≡ v`
abbrev pub shown : Form (List ℕ) Unit (List ℕ)
shown = plain

-- no result, and what was lent, one, or two or three lists: `x.new ≡ v`, `(x.new, y.new) ≡ v`, ..
abbrev pub lent : {A : Type 0} → Form Unit A A
lent = record { form = λ r c. c; result = λ v. tt; rest = λ v. v; result_is = λ r c. refl; rest_is = λ r c. refl }

abbrev pub lent_two : Form Unit (List ℕ × List ℕ) (List ℕ × List ℕ)
lent_two = record { form = λ r c. (c.0, c.1); result = λ v. tt; rest = λ v. v; result_is = λ r c. refl; rest_is = λ r c. refl }

abbrev pub lent_three : Form Unit (List ℕ × List ℕ × List ℕ) (List ℕ × List ℕ × List ℕ)
lent_three = record { form = λ r c. (c.0, c.1, c.2); result = λ v. tt; rest = λ v. v; result_is = λ r c. refl; rest_is = λ r c. refl }
