-- What `fold` ran over the pairs of a number and a value puts their answers together, from the first pair on.
use Rattle.std.proofs.Common.{◌≡◌, rules}
use Rattle.std.proofs.lemmas.Iterator.{YieldsList-from_slice, YieldsList-from_zip}
use Rattle.steal.proofs.Lists.{fold_ran}
use Rattle.steal.proofs.collect.Goals as goal

pub returns : goal.returns
returns c =
    let first : c.zip.result.a.rest.now ≡ c.args.numbers.now = cc in
    let second : c.zip.result.b.rest.now ≡ c.args.values.now = cc in
    fold_ran c.args.numbers.now c.args.values.now _ _ _ c.fold.result c.fold.ensures.ran
    (YieldsList-from_zip (YieldsList-from_slice _ first) (YieldsList-from_slice _ second))
    (λ a x b q k. search rules)
