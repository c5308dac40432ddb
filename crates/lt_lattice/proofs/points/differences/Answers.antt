use Rattle.std.proofs.Common.{◌≡◌, ◌∙◌, sym, ap, arith, pos, get_or, length}
use Rattle.std.proofs.lemmas.List.{take_all}
use Rattle.lt_model.specs.Vectors.{minus}
use Rattle.lt_lattice.specs.Points.{filled}
use Rattle.lt_lattice.proofs.Coordinates.{cast_difference}
use Rattle.lt_lattice.proofs.Padded.{set_take, filled_all, get_or-minus, length-minus}
use Rattle.lt_lattice.proofs.points.differences.Goals as goal

pub loop-i-preserved : goal.loop-i-preserved
loop-i-preserved c =
    let i = c.loop-i.i in
    let a = c.args.a.now in
    let b = c.args.b.now in
    let same : length a ≡ length b = c.told-a ∙ sym c.told-b in
    let l = length-minus a b same in
    let e = cast_difference (get_or a i (pos 0)) (get_or b i (pos 0)) (c.requires.left i (pos 0) (omega (arith, c.told-a))) (c.requires.right i (pos 0) (omega (arith, c.told-b))) in
    let g = get_or-minus i a b same (omega (arith, c.told-a)) in
    let s = set_take 6 (minus a b) i (omega (arith, l, c.told-a)) (omega arith) in
    rw (e, c.loop-i.invariant) (rw g at s)

pub returns : goal.returns
returns c =
    let a = c.args.a.now in
    let b = c.args.b.now in
    let l = length-minus a b (c.told-a ∙ sym c.told-b) in
    c.loop-i.invariant ∙ ap (filled 6) (take_all c.loop-i.i (minus a b) (omega (arith, l, c.told-a))) ∙ filled_all 6 (minus a b) (l ∙ c.told-a)
