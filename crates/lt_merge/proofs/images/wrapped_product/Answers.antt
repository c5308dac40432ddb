use Rattle.std.proofs.Common.{rules, arith, pos, get_or, ap, ◌∙◌, ◌*◌, ◌+ℤ◌, ◌%◌, ◌^◌}
use Rattle.std.proofs.lemmas.Int.{wrapping_add-bits, wrapping_mul_is}
use Rattle.std.specs.Int.{int_wrap, w128}
use mir.Val.{SFits, of_z, to_z}
use Rattle.lt_merge.proofs.Wrapped.{wrapped_step}
use Rattle.lt_merge.proofs.images.wrapped_product.Goals as goal

pub loop-i-preserved : goal.loop-i-preserved
loop-i-preserved c =
    let x = get_or c.args.a.now c.loop-i.i (pos 0) in
    let y = get_or c.args.b.now c.loop-i.i (pos 0) in
    let fx : SFits w128 x = search rules in
    let fy : SFits w128 y = search rules in
    let s = to_z w128 c.loop-i.sum-bits in
    let product = wrapping_mul_is w128 x y fx fy in
    let sum = wrapping_add-bits w128 c.loop-i.sum-bits (of_z w128 x * of_z w128 y % 2 ^ 128) (search rules) (search rules) in
    wrapped_step c.args.a.now c.args.b.now c.loop-i.i s _ (omega arith) (omega arith) (sum ∙ ap (λ z. int_wrap w128 (s +ℤ z)) product) c.loop-i.invariant
