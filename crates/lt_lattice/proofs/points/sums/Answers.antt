use Rattle.std.proofs.Common.{◌≡◌, ◌∙◌, sym, ap, arith, pos, get_or, length}
use Rattle.std.proofs.lemmas.List.{take_all}
use Rattle.lt_model.specs.Vectors.{plus}
use Rattle.lt_lattice.specs.Points.{filled}
use Rattle.lt_lattice.proofs.Coordinates.{cast_sum}
use Rattle.lt_model.proofs.Squares.{length-plus}
use Rattle.lt_lattice.proofs.Padded.{set_take, filled_all, get_or-plus}
use Rattle.lt_lattice.proofs.points.sums.Goals as goal

pub loop-i-preserved : goal.loop-i-preserved
loop-i-preserved c =
    let i = c.loop-i.i in
    let a = c.args.a.now in
    let b = c.args.b.now in
    let same : length a ≡ length b = c.told-a ∙ sym c.told-b in
    let l = length-plus a b same in
    let e = cast_sum (get_or a i (pos 0)) (get_or b i (pos 0)) (c.requires.left i (pos 0) (omega (arith, c.told-a))) (c.requires.right i (pos 0) (omega (arith, c.told-b))) in
    let g = get_or-plus i a b same (omega (arith, c.told-a)) in
    let s = set_take 6 (plus a b) i (omega (arith, l, c.told-a)) (omega arith) in
    rw (e, c.loop-i.invariant) (rw g at s)

pub returns : goal.returns
returns c =
    let a = c.args.a.now in
    let b = c.args.b.now in
    let l = length-plus a b (c.told-a ∙ sym c.told-b) in
    c.loop-i.invariant ∙ ap (filled 6) (take_all c.loop-i.i (plus a b) (omega (arith, l, c.told-a))) ∙ filled_all 6 (plus a b) (l ∙ c.told-a)
