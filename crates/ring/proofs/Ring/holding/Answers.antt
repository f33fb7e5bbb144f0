-- What is above the largest has no capacity; else the next power of two, from what is needed or the smallest on, is the least that holds it.
use Rattle.std.proofs.Common.{◌≡◌, ℕ, ◌+◌, ◌<◌, ◌≤◌, Bool, true, false, leb, sym, ◌∙◌, arith, leb-false, leb-true}
use Rattle.ring.proofs.CapacityLaws.{next_least, holding_is, holding_over}
use Rattle.ring.proofs.Ring.holding.Goals as goal

-- what the test on the code's largest capacity tells
fits : (b : Bool) (n m : ℕ) → b ≡ leb n m → b ≡ true → n ≤ m
fits b n m e t = leb-true n m (sym e ∙ t)

over : (b : Bool) (n m : ℕ) → b ≡ leb n m → b ≡ false → m < n
over b n m e t = leb-false n m (sym e ∙ t)

pub returns-then-not-holds : goal.returns-then-not-holds
returns-then-not-holds c =
    let h = over _ _ _ c.holds.ensures c.if-not-holds.true in
    sym (holding_over (c.args.length + c.args.more) (omega arith))

pub returns : goal.returns
returns c =
    let h = fits _ _ _ c.holds.ensures c.if-not-holds.false in
    let n = c.args.length + c.args.more in
    let p = c.next_power_of_two.ensures in
    sym (holding_is n _ (omega arith) (next_least n _ p.power (omega arith) (omega arith)))
