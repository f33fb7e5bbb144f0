-- No second answer satisfies a promise: two results, with what the calls left of what was lent, that meet the same promise are the same.
use Rattle.std.proofs.Common.{◌≡◌, sym, ap, ◌∙◌}
use Rattle.pinned.specs.Forms.{Form}

pub pinned : {A C B : Type 0} (f : Form A C B) (v : B) (r s : A) (c d : C) → f.form r c ≡ v → f.form s d ≡ v → (r ≡ s) × (c ≡ d)
pinned f v r s c d p q =
    let e : f.form r c ≡ f.form s d = p ∙ sym q in
    (sym (f.result_is r c) ∙ ap f.result e ∙ f.result_is s d, sym (f.rest_is r c) ∙ ap f.rest e ∙ f.rest_is s d)
