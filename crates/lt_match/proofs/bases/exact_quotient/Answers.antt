use Rattle.std.proofs.Common.{◌≡◌, ◌∙◌, ℤ, ap, ap₂, FitsSigned, int_div, ◌*ℤ◌}
use Rattle.std.proofs.lemmas.Int.{to_z-of_z, quot_is, quot_fits}
use mir.Val.{of_z}
use mir.Syntax.{w128}
use Rattle.lt_model.proofs.Integers.{mul_comm_z}
use Rattle.lt_match.proofs.Quotients.{quotient_of}
use Rattle.lt_match.proofs.bases.exact_quotient.Goals as goal

pub returns-else-quotient-divisor : goal.returns-else-quotient-divisor
returns-else-quotient-divisor c = λ x e.
    let fa : FitsSigned w128 c.args.number = c.ranges.number in
    let fd : FitsSigned w128 c.args.divisor = c.ranges.divisor in
    let q : int_div c.args.number c.args.divisor ≡ x = quotient_of c.args.number c.args.divisor x c.requires.positive e in
    let whole : int_div c.args.number c.args.divisor *ℤ c.args.divisor ≡ c.args.number = ap (λ z. z *ℤ c.args.divisor) q ∙ mul_comm_z x c.args.divisor ∙ e in
    c.if-quotient-divisor.false (ap (of_z w128) (ap₂ (λ (p r : ℤ). p *ℤ r) (quot_is w128 c.args.number c.args.divisor fa fd (quot_fits w128 c.args.number c.args.divisor fa c.requires.positive)) (to_z-of_z w128 c.args.divisor fd) ∙ whole))
