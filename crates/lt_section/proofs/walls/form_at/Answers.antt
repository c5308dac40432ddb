use Rattle.std.proofs.Common.{◌≡◌, ◌∙◌, ap, arith, ◌++◌, ◌∷◌, [], length}
use Rattle.lt_section.proofs.CombinedNumbers.{combined_more, combined_length, written_number, all_combined, first_length}
use Rattle.lt_section.proofs.walls.form_at.Goals as goal

pub loop-place-preserved : goal.loop-place-preserved
loop-place-preserved c =
    let at = c.args.at.now in
    let fs = c.args.forms.now in
    let x = c.combined_number.result in
    let n = combined_length c.args.d at fs c.requires.count c.requires.same c.requires.some in
    let m = first_length c.args.d fs c.index-forms-0.result c.numbers-place-end.result.now c.requires.count c.requires.some c.index-forms-0.is c.numbers-place-end.ensures.value in
    let e : c.push.new.self.items ≡ c.loop-place.numbers.items ++ x ∷ [] = rw (written_number x c.combined_number.ensures.small) at c.push.ensures.items in
    combined_more at fs c.loop-place.place c.loop-place.numbers.items c.push.new.self.items x c.loop-place.invariant (omega (arith, n, m, c.loop-place-test.true)) c.combined_number.ensures.value c.combined_number.ensures.small e

pub of-requires-clause-count : goal.of-requires-clause-count
of-requires-clause-count c =
    let at = c.args.at.now in
    let fs = c.args.forms.now in
    let m = first_length c.args.d fs c.index-forms-0.result c.numbers-place-end.result.now c.requires.count c.requires.some c.index-forms-0.is c.numbers-place-end.ensures.value in
    let a = all_combined c.args.d c.loop-place.place at fs c.loop-place.numbers.items c.loop-place.invariant c.requires.count c.requires.same c.requires.some (omega (arith, m, c.loop-place-test.false)) in
    ap length (c.as_slice.ensures.value ∙ a) ∙ combined_length c.args.d at fs c.requires.count c.requires.same c.requires.some

pub returns-clause-value : goal.returns-clause-value
returns-clause-value c =
    let m = first_length c.args.d c.args.forms.now c.index-forms-0.result c.numbers-place-end.result.now c.requires.count c.requires.some c.index-forms-0.is c.numbers-place-end.ensures.value in
    c.of.ensures ∙ c.as_slice.ensures.value ∙ all_combined c.args.d c.loop-place.place c.args.at.now c.args.forms.now c.loop-place.numbers.items c.loop-place.invariant c.requires.count c.requires.same c.requires.some (omega (arith, m, c.loop-place-test.false))
