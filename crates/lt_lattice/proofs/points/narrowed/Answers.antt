use Rattle.std.proofs.Common.{◌≡◌, ◌≤◌, ◌∙◌, ◌^◌, ap, arith, rules, pos, get_or, nat_abs, take, FitsSigned, w32}
use Rattle.std.specs.Int.{w128}
use Rattle.std.specs.List.{All}
use Rattle.std.proofs.lemmas.Int.{ints, to_z-of_z}
use Rattle.std.proofs.lemmas.List.{take_all}
use Rattle.std.proofs.lemmas.List.Elements.{All-more}
use Rattle.lt_lattice.specs.Ranges.{IsWithin}
use Rattle.lt_lattice.specs.Points.{filled}
use Rattle.lt_lattice.proofs.Coordinates.{fits32}
use Rattle.lt_lattice.proofs.Padded.{set_take, point}
use Rattle.lt_lattice.proofs.points.narrowed.Goals as goal

pub loop-i-preserved : goal.loop-i-preserved
loop-i-preserved c =
    let i = c.loop-i.i in
    let v = get_or c.args.numbers.now i (pos 0) in
    let x : FitsSigned w128 v = search rules in
    let a = simp to_z-of_z at c.if-numbers-i.false in
    let b = simp to_z-of_z at c.if-numbers-i-2.false in
    let w : nat_abs v ≤ 2 ^ 20 = omega (arith, ints, a, b) in
    let y : FitsSigned w32 v = fits32 v w in
    record {
      same = simp to_z-of_z (rw c.loop-i.invariant.same (set_take 6 c.args.numbers.now i (omega arith) (omega (arith, c.requires.high))));
      within = All-more (IsWithin (2 ^ 20)) c.args.numbers.now i (pos 0) (omega arith) c.loop-i.invariant.within w;
    }

pub invariant_of-result : goal.invariant_of-result
invariant_of-result c =
    let t : take c.loop-i.i c.args.numbers.now ≡ c.args.numbers.now = take_all c.loop-i.i c.args.numbers.now (omega arith) in
    let e = c.loop-i.invariant.same ∙ ap (filled 6) t in
    let w : All (IsWithin (2 ^ 20)) c.args.numbers.now = rw t at c.loop-i.invariant.within in
    point c.args.numbers.now c.loop-i.places e c.requires.low c.requires.high w
