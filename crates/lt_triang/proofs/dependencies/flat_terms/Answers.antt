use Rattle.std.proofs.Common.{rules, arith, ◌≡◌, neg_ℤ, ◌∙◌, ap}
use Rattle.std.proofs.lemmas.Int.{ints}
use Rattle.lt_triang.specs.Flat.{leading}
use Rattle.lt_triang.proofs.Signs.{leading-opposite}
use Rattle.lt_triang.proofs.dependencies.flat_terms.Goals as goal

pub returns-then-leading_of-lt0-clause-sign : goal.returns-then-leading_of-lt0-clause-sign
returns-then-leading_of-lt0-clause-sign c =
    let e : leading c.opposite.result.items ≡ neg_ℤ (leading c.as_slice-then-leading_of-lt0.result.now) = ap leading c.opposite.ensures ∙ leading-opposite c.as_slice-then-leading_of-lt0.result.now in
    let k : leading c.as_slice-then-leading_of-lt0.result.now ≡ c.leading_of.result = search rules in
    rw e (omega (arith, ints, k, c.if-leading_of-lt0.true))
