use Rattle.std.proofs.Common.{◌∙◌, ap, arith, sym, length}
use Rattle.lt_lattice.proofs.Lengths.{at_most_21}
use Rattle.lt_section.proofs.Lowering.{lowered_length}
use Rattle.lt_section.proofs.CombinedNumbers.{combined_length}
use Rattle.lt_section.proofs.verdicts.facet.Goals as goal

pub form_at-form-requires-clause-few : goal.form_at-form-requires-clause-few
form_at-form-requires-clause-few c =
    let a = at_most_21 c.dimension.result c.dimension.ensures.high in
    omega (arith, a, c.dimension.ensures.value, c.requires.few)

pub form_at-form-requires-clause-same : goal.form_at-form-requires-clause-same
form_at-form-requires-clause-same c = ap length c.as_slice.ensures.value ∙ lowered_length (length c.args.forms.now) c.args.wall.now c.lowered-at.result.items c.lowered-at.ensures.lowered c.requires.few

pub first_zero-requires-clause-same : goal.first_zero-requires-clause-same
first_zero-requires-clause-same c = λ k x l. (
    let fs = c.args.forms.now in
    let e = c.dimension.ensures.value in
    let s = ap length c.as_slice.ensures.value ∙ lowered_length (length fs) c.args.wall.now c.lowered-at.result.items c.lowered-at.ensures.lowered c.requires.few in
    ap length c.form_at-form.ensures.value ∙ combined_length c.dimension.result c.as_slice.result.now fs (λ j q m. c.requires.same j q m ∙ e) s c.requires.some ∙ sym e ∙ c.requires.points k x l
    )
