use Rattle.std.proofs.Common.{refl, arith, ◌≤◌, pos, get_or}
use mir.Syntax.{w128}
use mir.Val.{to_z}
use Rattle.lt_section.proofs.CombinedNumbers.{sizes, none_summed, summed_more, summed_whole, summed_small, cast_product_fits, cast_sum_fits, cast_sum}
use Rattle.lt_section.proofs.walls.combined_number.Goals as goal

pub loop-i-init : goal.loop-i-init
loop-i-init c = none_summed c.args.at.now c.args.forms.now c.args.place

pub overflow_mul-sum : goal.overflow_mul-sum
overflow_mul-sum c =
    let z = sizes c.args.at.now c.args.forms.now c.args.place c.loop-i.i c.index-forms-i.result c.numbers.result.now c.requires.same c.loop-i-test.true c.requires.below c.requires.within c.requires.inside c.numbers.ensures.value c.index-forms-i.is in
    cast_product_fits (get_or c.args.at.now c.loop-i.i (pos 0)) (get_or c.numbers.result.now c.args.place (pos 0)) z.first z.second

pub overflow_add-sum : goal.overflow_add-sum
overflow_add-sum c =
    let few : c.loop-i.i ≤ 21 = omega (arith, c.requires.few, c.loop-i-test.true) in
    let z = sizes c.args.at.now c.args.forms.now c.args.place c.loop-i.i c.index-forms-i.result c.numbers.result.now c.requires.same c.loop-i-test.true c.requires.below c.requires.within c.requires.inside c.numbers.ensures.value c.index-forms-i.is in
    cast_sum_fits c.loop-i.i (to_z w128 c.loop-i.sum-bits) (get_or c.args.at.now c.loop-i.i (pos 0)) (get_or c.numbers.result.now c.args.place (pos 0)) few c.loop-i.invariant.small z.first z.second

pub loop-i-preserved : goal.loop-i-preserved
loop-i-preserved c =
    let few : c.loop-i.i ≤ 21 = omega (arith, c.requires.few, c.loop-i-test.true) in
    let x = get_or c.args.at.now c.loop-i.i (pos 0) in
    let y = get_or c.numbers.result.now c.args.place (pos 0) in
    let z = sizes c.args.at.now c.args.forms.now c.args.place c.loop-i.i c.index-forms-i.result c.numbers.result.now c.requires.same c.loop-i-test.true c.requires.below c.requires.within c.requires.inside c.numbers.ensures.value c.index-forms-i.is in
    let e = cast_sum c.loop-i.i (to_z w128 c.loop-i.sum-bits) x y few c.loop-i.invariant.small z.first z.second in
    summed_more c.args.at.now c.args.forms.now c.args.place c.loop-i.i (to_z w128 c.loop-i.sum-bits) x y _ c.loop-i.invariant c.requires.same c.loop-i-test.true refl z.is z.first z.second e

pub returns-clause-value : goal.returns-clause-value
returns-clause-value c = summed_whole c.args.at.now c.args.forms.now c.args.place c.loop-i.i (to_z w128 c.loop-i.sum-bits) c.loop-i.invariant c.requires.same c.loop-i-test.false

pub returns-clause-small : goal.returns-clause-small
returns-clause-small c = summed_small c.args.at.now c.args.forms.now c.args.place c.loop-i.i (to_z w128 c.loop-i.sum-bits) c.loop-i.invariant (omega (arith, c.loop-i.auto.i-end, c.requires.few))
