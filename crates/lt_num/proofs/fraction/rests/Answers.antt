use Rattle.std.proofs.Common.{arith, rules, ◌≡◌, FitsSigned, unsigned_abs, pos}
use Rattle.std.specs.Int.{w128, IsGcd}
use Rattle.std.proofs.lemmas.Int.{to_z-of_z, to_z_pos, ints, fits_signed_from_abs}
use Rattle.lt_num.proofs.Sums.{shared}
use Rattle.lt_num.proofs.fraction.rests.Goals as goal

pub overflow_cast-divisor : goal.overflow_cast-divisor
overflow_cast-divisor c =
    let fb : FitsSigned w128 c.args.b = c.ranges.b in
    let fe : FitsSigned w128 c.args.e = c.ranges.e in
    let eb : c.unsigned_abs.result ≡ unsigned_abs c.args.b = simp to_z-of_z at c.unsigned_abs.ensures.value in
    let ee : c.unsigned_abs-2.result ≡ unsigned_abs c.args.e = simp to_z-of_z at c.unsigned_abs-2.ensures.value in
    let h = shared c.args.b c.args.e c.common-divisor.result c.requires fe (rw (eb, ee) at c.common-divisor.ensures.divisor) in
    fits_signed_from_abs w128 (pos c.common-divisor.result) h.fits

pub part-requires-clause-positive : goal.part-requires-clause-positive
part-requires-clause-positive c =
    let fb : FitsSigned w128 c.args.b = c.ranges.b in
    let fe : FitsSigned w128 c.args.e = c.ranges.e in
    let eb : c.unsigned_abs.result ≡ unsigned_abs c.args.b = simp to_z-of_z at c.unsigned_abs.ensures.value in
    let ee : c.unsigned_abs-2.result ≡ unsigned_abs c.args.e = simp to_z-of_z at c.unsigned_abs-2.ensures.value in
    let h = shared c.args.b c.args.e c.common-divisor.result c.requires fe (rw (eb, ee) at c.common-divisor.ensures.divisor) in
    let some = h.some in
    rw (to_z_pos w128 c.common-divisor.result h.fits) (omega (arith, ints, some))

pub part-requires-clause-divides : goal.part-requires-clause-divides
part-requires-clause-divides c =
    let fb : FitsSigned w128 c.args.b = c.ranges.b in
    let fe : FitsSigned w128 c.args.e = c.ranges.e in
    let eb : c.unsigned_abs.result ≡ unsigned_abs c.args.b = simp to_z-of_z at c.unsigned_abs.ensures.value in
    let ee : c.unsigned_abs-2.result ≡ unsigned_abs c.args.e = simp to_z-of_z at c.unsigned_abs-2.ensures.value in
    let h = shared c.args.b c.args.e c.common-divisor.result c.requires fe (rw (eb, ee) at c.common-divisor.ensures.divisor) in
    rw (to_z_pos w128 c.common-divisor.result h.fits) (simp to_z-of_z h.first)

pub part-requires-2-clause-positive : goal.part-requires-2-clause-positive
part-requires-2-clause-positive c =
    let fb : FitsSigned w128 c.args.b = c.ranges.b in
    let fe : FitsSigned w128 c.args.e = c.ranges.e in
    let eb : c.unsigned_abs.result ≡ unsigned_abs c.args.b = simp to_z-of_z at c.unsigned_abs.ensures.value in
    let ee : c.unsigned_abs-2.result ≡ unsigned_abs c.args.e = simp to_z-of_z at c.unsigned_abs-2.ensures.value in
    let h = shared c.args.b c.args.e c.common-divisor.result c.requires fe (rw (eb, ee) at c.common-divisor.ensures.divisor) in
    let some = h.some in
    rw (to_z_pos w128 c.common-divisor.result h.fits) (omega (arith, ints, some))

pub part-requires-2-clause-divides : goal.part-requires-2-clause-divides
part-requires-2-clause-divides c =
    let fb : FitsSigned w128 c.args.b = c.ranges.b in
    let fe : FitsSigned w128 c.args.e = c.ranges.e in
    let eb : c.unsigned_abs.result ≡ unsigned_abs c.args.b = simp to_z-of_z at c.unsigned_abs.ensures.value in
    let ee : c.unsigned_abs-2.result ≡ unsigned_abs c.args.e = simp to_z-of_z at c.unsigned_abs-2.ensures.value in
    let h = shared c.args.b c.args.e c.common-divisor.result c.requires fe (rw (eb, ee) at c.common-divisor.ensures.divisor) in
    rw (to_z_pos w128 c.common-divisor.result h.fits) (simp to_z-of_z h.second)

pub returns : goal.returns
returns c =
    let fb : FitsSigned w128 c.args.b = c.ranges.b in
    let fe : FitsSigned w128 c.args.e = c.ranges.e in
    let eb : c.unsigned_abs.result ≡ unsigned_abs c.args.b = simp to_z-of_z at c.unsigned_abs.ensures.value in
    let ee : c.unsigned_abs-2.result ≡ unsigned_abs c.args.e = simp to_z-of_z at c.unsigned_abs-2.ensures.value in
    let d : IsGcd (unsigned_abs c.args.b) (unsigned_abs c.args.e) c.common-divisor.result = rw (eb, ee) at c.common-divisor.ensures.divisor in
    let h = shared c.args.b c.args.e c.common-divisor.result c.requires fe d in
    let some = h.some in
    let k : FitsSigned w128 c.part.result = search rules in
    let l : FitsSigned w128 c.part-2.result = search rules in
    let t = to_z_pos w128 c.common-divisor.result h.fits in
    simp to_z-of_z (record {
      g = pos c.common-divisor.result;
      positive = omega (arith, ints, some);
      divisor = d;
      first = rw t at (simp to_z-of_z at c.part.ensures);
      second = rw t at (simp to_z-of_z at c.part-2.ensures);
    })
