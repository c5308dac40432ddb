use Rattle.std.proofs.Common.{rules, arith, pos, get_or}
use Rattle.std.proofs.lemmas.Int.{ints}
use mir.Val.{SFits}
use mir.Syntax.{w128}
use Rattle.lt_lattice.proofs.Dots.{inner_step, size-drop, cast_step}
use Rattle.lt_lattice.proofs.numbers.inner_product.Goals as goal

pub loop-i-preserved : goal.loop-i-preserved
loop-i-preserved c =
    let x = get_or c.args.a.now c.loop-i.i (pos 0) in
    let y = get_or c.args.b.now c.loop-i.i (pos 0) in
    let fx : SFits w128 x = search rules in
    let fy : SFits w128 y = search rules in
    let size = size-drop c.args.a.now c.args.b.now c.loop-i.i (omega arith) (omega arith) in
    let e = cast_step _ x y fx fy (omega (arith, size, c.loop-i.invariant.small, c.requires.small)) in
    record {
      so_far = inner_step c.args.a.now c.args.b.now c.loop-i.i _ _ (omega arith) (omega arith) e c.loop-i.invariant.so_far;
      small = omega (arith, ints, e, size, c.loop-i.invariant.small);
    }
