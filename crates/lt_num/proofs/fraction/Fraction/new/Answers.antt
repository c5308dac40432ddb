use Rattle.std.proofs.Common.{◌≡◌, ◌/◌, FitsSigned, unsigned_abs}
use Rattle.std.specs.Int.{w128, IsGcd}
use Rattle.std.proofs.lemmas.Int.{to_z-of_z}
use Rattle.lt_num.specs.Fractions.{signed_ratio}
use Rattle.lt_num.proofs.Ratios.{has_parts, differ, quotient_answer}
use Rattle.lt_num.proofs.fraction.Fraction.new.Goals as goal

pub nonzero_div-top : goal.nonzero_div-top
nonzero_div-top c =
    let fa : FitsSigned w128 c.args.num = c.ranges.num in
    let fb : FitsSigned w128 c.args.den = c.ranges.den in
    let ea : c.unsigned_abs.result ≡ unsigned_abs c.args.num = simp to_z-of_z at c.unsigned_abs.ensures.value in
    let eb : c.unsigned_abs-2.result ≡ unsigned_abs c.args.den = simp to_z-of_z at c.unsigned_abs-2.ensures.value in
    let k : IsGcd (unsigned_abs c.args.num) (unsigned_abs c.args.den) c.common-divisor.result = rw (ea, eb) at c.common-divisor.ensures.divisor in
    (has_parts c.args.num c.args.den c.common-divisor.result c.requires k).some

pub nonzero_div-bottom : goal.nonzero_div-bottom
nonzero_div-bottom c =
    let fa : FitsSigned w128 c.args.num = c.ranges.num in
    let fb : FitsSigned w128 c.args.den = c.ranges.den in
    let ea : c.unsigned_abs.result ≡ unsigned_abs c.args.num = simp to_z-of_z at c.unsigned_abs.ensures.value in
    let eb : c.unsigned_abs-2.result ≡ unsigned_abs c.args.den = simp to_z-of_z at c.unsigned_abs-2.ensures.value in
    let k : IsGcd (unsigned_abs c.args.num) (unsigned_abs c.args.den) c.common-divisor.result = rw (ea, eb) at c.common-divisor.ensures.divisor in
    (has_parts c.args.num c.args.den c.common-divisor.result c.requires k).some

pub from_parts-requires-clause-positive : goal.from_parts-requires-clause-positive
from_parts-requires-clause-positive c =
    let fa : FitsSigned w128 c.args.num = c.ranges.num in
    let fb : FitsSigned w128 c.args.den = c.ranges.den in
    let ea : c.unsigned_abs.result ≡ unsigned_abs c.args.num = simp to_z-of_z at c.unsigned_abs.ensures.value in
    let eb : c.unsigned_abs-2.result ≡ unsigned_abs c.args.den = simp to_z-of_z at c.unsigned_abs-2.ensures.value in
    let k : IsGcd (unsigned_abs c.args.num) (unsigned_abs c.args.den) c.common-divisor.result = rw (ea, eb) at c.common-divisor.ensures.divisor in
    let ec : c.unsigned_abs-3.result ≡ unsigned_abs c.args.num = simp to_z-of_z at c.unsigned_abs-3.ensures.value in
    let ed : c.unsigned_abs-4.result ≡ unsigned_abs c.args.den = simp to_z-of_z at c.unsigned_abs-4.ensures.value in
    let h = has_parts c.args.num c.args.den c.common-divisor.result c.requires k in
    rw ed h.positive

pub from_parts-requires-clause-lowest : goal.from_parts-requires-clause-lowest
from_parts-requires-clause-lowest c =
    let fa : FitsSigned w128 c.args.num = c.ranges.num in
    let fb : FitsSigned w128 c.args.den = c.ranges.den in
    let ea : c.unsigned_abs.result ≡ unsigned_abs c.args.num = simp to_z-of_z at c.unsigned_abs.ensures.value in
    let eb : c.unsigned_abs-2.result ≡ unsigned_abs c.args.den = simp to_z-of_z at c.unsigned_abs-2.ensures.value in
    let k : IsGcd (unsigned_abs c.args.num) (unsigned_abs c.args.den) c.common-divisor.result = rw (ea, eb) at c.common-divisor.ensures.divisor in
    let ec : c.unsigned_abs-3.result ≡ unsigned_abs c.args.num = simp to_z-of_z at c.unsigned_abs-3.ensures.value in
    let ed : c.unsigned_abs-4.result ≡ unsigned_abs c.args.den = simp to_z-of_z at c.unsigned_abs-4.ensures.value in
    let h = has_parts c.args.num c.args.den c.common-divisor.result c.requires k in
    rw (ec, ed) h.lowest

pub returns-clause-quotient : goal.returns-clause-quotient
returns-clause-quotient c =
    let fa : FitsSigned w128 c.args.num = c.ranges.num in
    let fb : FitsSigned w128 c.args.den = c.ranges.den in
    let ea : c.unsigned_abs.result ≡ unsigned_abs c.args.num = simp to_z-of_z at c.unsigned_abs.ensures.value in
    let eb : c.unsigned_abs-2.result ≡ unsigned_abs c.args.den = simp to_z-of_z at c.unsigned_abs-2.ensures.value in
    let k : IsGcd (unsigned_abs c.args.num) (unsigned_abs c.args.den) c.common-divisor.result = rw (ea, eb) at c.common-divisor.ensures.divisor in
    let ec : c.unsigned_abs-3.result ≡ unsigned_abs c.args.num = simp to_z-of_z at c.unsigned_abs-3.ensures.value in
    let ed : c.unsigned_abs-4.result ≡ unsigned_abs c.args.den = simp to_z-of_z at c.unsigned_abs-4.ensures.value in
    let h = has_parts c.args.num c.args.den c.common-divisor.result c.requires k in
    quotient_answer c.args.num c.args.den (signed_ratio (differ c.args.num c.args.den) (unsigned_abs c.args.num / c.common-divisor.result) (unsigned_abs c.args.den / c.common-divisor.result)) c.from_parts.result c.requires h.quotient (rw (← ec, ← ed) (simp to_z-of_z at c.from_parts.ensures))
