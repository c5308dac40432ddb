use Rattle.std.proofs.Common.{arith, FitsSigned}
use Rattle.std.proofs.lemmas.Int.{ints, quot_is, quot_fits}
use Rattle.std.specs.Int.{w128}
use Rattle.lt_num.proofs.Gcds.{has_quotient, exact_quotient}
use Rattle.lt_num.proofs.part.Goals as goal

pub returns : goal.returns
returns c =
    let fx : FitsSigned w128 c.args.number = c.ranges.number in
    let fd : FitsSigned w128 c.args.divisor = c.ranges.divisor in
    let q = has_quotient c.args.divisor c.args.number c.requires.positive c.requires.divides in
    rw (quot_is w128 c.args.number c.args.divisor fx fd (quot_fits w128 c.args.number c.args.divisor fx c.requires.positive))
    (exact_quotient c.args.number c.args.divisor q.0 (λ z. absurd (omega (arith, ints, z))) q.1)
