-- What `find` ran at each number, from 0 on, is whether the place of that number is free.
use Rattle.std.proofs.Common.{◌≡◌, ℕ, Bool, not, rules, ◌∙◌, arith}
use Rattle.std.specs.declared.option.Option.{Option}
use Rattle.std.specs.Option.{unwrap_or}
use Rattle.std.specs.Iterator.{ActsAsAt, FindsItem}
use Rattle.std.specs.declared.ops.Range.{Range}
use Rattle.std.proofs.iter.Yields.{nat_range_steps}
use denote.Param.Members.{Mut}
use denote.Ref.{Bor}
use Rattle.base.specs.Below.{first_not}
use Rattle.base.proofs.Loops.{find_ran}
use Rattle.places.proofs.rings.Rings.free_place.Goals as goal

from_zero : {F : Type 0} {g : Mut F (Bor ℕ × Unit {0}) Bool} {n a : ℕ} {h : F} (f : ℕ → Bool) (u : Range ℕ) (r : Option ℕ)
    → FindsItem nat_range_steps g (record { start = a; end = n }) h r u → a ≡ 0 → ActsAsAt g h (λ i. not (f i)) → unwrap_or r n ≡ first_not f n 0
from_zero f u r run first acts = find_ran f u r (rw first at run) acts

pub returns : goal.returns
returns c = c.unwrap_or.ensures ∙ from_zero _ _ _ c.find.ensures.ran (omega arith) (λ x b q k. search rules)
