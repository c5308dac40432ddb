use Rattle.std.proofs.Common.{◌≡◌, arith, [], get_or}
use borrow.Author.Count.{below_more}
use Rattle.lt_triang.specs.Kept.{dimension_of}
use Rattle.lt_triang.proofs.Expressed.{dimension_is}
use Rattle.lt_geometry.specs.Regulators.{IsRegulatorAt}
use Rattle.lt_flip.proofs.outers.first_facet.Goals as goal

pub returns-then-has_regulator : goal.returns-then-has_regulator
returns-then-has_regulator c =
    let d : c.dimension.result ≡ dimension_of c.args.t.now = dimension_is c.dimension.result c.args.t.now c.dimension.ensures in
    (omega (arith, c.loop-facet-test.true, d), c.has_regulator.ensures.0 c.if-has_regulator.true)

pub loop-facet-preserved : goal.loop-facet-preserved
loop-facet-preserved c =
    let t = c.args.t.now in
    below_more (λ i. IsRegulatorAt (dimension_of t) t (get_or t c.args.class []) i c.args.normal.now → ⊥) c.loop-facet.facet c.loop-facet.invariant
    (λ h. let y = c.has_regulator.ensures.1 h in let f = c.if-has_regulator.false in cc)

pub returns : goal.returns
returns c =
    let d : c.dimension.result ≡ dimension_of c.args.t.now = dimension_is c.dimension.result c.args.t.now c.dimension.ensures in
    λ i h. c.loop-facet.invariant i (omega (arith, h, c.loop-facet-test.false, d))
