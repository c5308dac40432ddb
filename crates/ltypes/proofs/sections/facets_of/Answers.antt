use Rattle.std.proofs.Common.{◌≡◌, ◌∙◌, ap, get_or, arith}
use Rattle.lt_section.specs.declared.answers.SectionRow.{SectionRow}
use Rattle.ltypes.specs.Sections.{one_if_facet}
use Rattle.ltypes.proofs.Rowed.{facets_more}
use Rattle.ltypes.proofs.sections.facets_of.Goals as goal

pub loop-row-preserved : goal.loop-row-preserved
loop-row-preserved c =
    let rows = c.args.rows.now in
    let i = c.loop-row.row-index in
    let item = c.row-item.result in
    let next = facets_more rows i item c.loop-row-test.true in
    let here : c.facet-facets.result ≡ one_if_facet (get_or rows i item).verdict = c.facet-facets.ensures.one ∙ ap (λ (r : SectionRow). one_if_facet r.verdict) c.row-item.is in
    record { count = omega (arith, c.loop-row.invariant.count, next, here); few = omega (arith, c.loop-row.invariant.few, c.facet-facets.ensures.few) }
