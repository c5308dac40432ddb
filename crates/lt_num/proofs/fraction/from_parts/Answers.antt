use Rattle.std.proofs.Common.{rules, FitsSigned}
use Rattle.std.specs.Int.{w128}
use Rattle.std.proofs.lemmas.Int.{to_z-of_z}
use Rattle.lt_num.proofs.Ratios.{signed_reduced}
use Rattle.lt_num.proofs.fraction.from_parts.Goals as goal

pub invariant_of-result : goal.invariant_of-result
invariant_of-result c =
    let n : FitsSigned w128 c.in_ok-num.num = search rules in
    let d : FitsSigned w128 c.in_ok-den.den = search rules in
    simp to_z-of_z (rw (c.in_ok-num.ensures, c.in_ok-den.ensures) (signed_reduced c.args.negative c.args.top c.args.bottom c.requires.positive c.requires.lowest))
