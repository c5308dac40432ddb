use Rattle.std.proofs.Common.{◌∙◌, ap, arith, rules, pos, get_or, FitsSigned, w32, w64}
use Rattle.std.proofs.lemmas.Int.{to_z-of_z}
use Rattle.std.proofs.lemmas.List.{take_all}
use Rattle.lt_lattice.specs.Points.{filled}
use Rattle.lt_lattice.proofs.Coordinates.{fits32}
use Rattle.lt_lattice.proofs.Padded.{set_take, point}
use Rattle.lt_lattice.proofs.points.Point.of.Goals as goal

pub loop-i-preserved : goal.loop-i-preserved
loop-i-preserved c =
    let i = c.loop-i.i in
    let x : FitsSigned w64 (get_or c.args.coords.now i (pos 0)) = search rules in
    let y : FitsSigned w32 (get_or c.args.coords.now i (pos 0)) = fits32 (get_or c.args.coords.now i (pos 0)) (c.requires.within i (pos 0) (omega arith)) in
    simp to_z-of_z (rw c.loop-i.invariant (set_take 6 c.args.coords.now i (omega arith) (omega (arith, c.requires.high))))

pub invariant_of-result : goal.invariant_of-result
invariant_of-result c =
    let e = c.loop-i.invariant ∙ ap (filled 6) (take_all c.loop-i.i c.args.coords.now (omega arith)) in
    point c.args.coords.now c.loop-i.places e c.requires.low c.requires.high c.requires.within
