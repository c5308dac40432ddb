use Rattle.lt_triang.specs.Kept.{dimension_of}
use Rattle.lt_section.proofs.Weighing.{heavy_there, light_there, input, row_normals, row_weight, row_verdicts}
use Rattle.lt_section.proofs.sections.section.Goals as goal

pub returns-then-weight-clause-heavy : goal.returns-then-weight-clause-heavy
returns-then-weight-clause-heavy c = heavy_there (dimension_of c.args.t.now) c.args.t.now c.args.forms.now c.in_ok-normals.normals.items c.as_slice.result.now c.in_ok-normals.ensures c.requires.few c.as_slice.ensures.value c.weight-weight.result c.weight-weight.ensures c.if-weight.true

pub rows_of-requires : goal.rows_of-requires
rows_of-requires c = input (dimension_of c.args.t.now) c.args.t.now c.args.forms.now c.in_ok-normals.normals.items c.as_slice-2.result.now c.in_ok-normals.ensures c.requires.few c.as_slice-2.ensures.value c.requires.delaunay c.requires.some c.requires.same c.in_ok-points.points.items c.as_slice-3.result.now c.in_ok-points.ensures c.as_slice-3.ensures.value c.requires.within (light_there (dimension_of c.args.t.now) c.args.t.now c.args.forms.now c.in_ok-normals.normals.items c.as_slice.result.now c.in_ok-normals.ensures c.requires.few c.as_slice.ensures.value c.weight-weight.result c.weight-weight.ensures c.if-weight.false)

pub returns-clause-normals : goal.returns-clause-normals
returns-clause-normals c = row_normals (dimension_of c.args.t.now) c.args.t.now c.args.forms.now c.in_ok-normals.normals.items c.as_slice-2.result.now c.in_ok-normals.ensures c.requires.few c.as_slice-2.ensures.value c.requires.delaunay c.requires.some c.requires.same c.in_ok-points.points.items c.as_slice-3.result.now c.in_ok-points.ensures c.as_slice-3.ensures.value c.in_ok-rows.rows.items c.in_ok-rows.ensures.normals

pub returns-clause-verdicts : goal.returns-clause-verdicts
returns-clause-verdicts c = row_verdicts (dimension_of c.args.t.now) c.args.t.now c.args.forms.now c.in_ok-normals.normals.items c.as_slice-2.result.now c.in_ok-normals.ensures c.requires.few c.as_slice-2.ensures.value c.requires.delaunay c.requires.some c.requires.same c.in_ok-points.points.items c.as_slice-3.result.now c.in_ok-points.ensures c.as_slice-3.ensures.value c.in_ok-rows.rows.items c.in_ok-rows.ensures.normals c.in_ok-rows.ensures.verdicts

pub returns-clause-light : goal.returns-clause-light
returns-clause-light c = row_weight (dimension_of c.args.t.now) c.args.t.now c.args.forms.now c.in_ok-normals.normals.items c.as_slice-2.result.now c.in_ok-normals.ensures c.requires.few c.as_slice-2.ensures.value c.requires.delaunay c.requires.some c.requires.same c.in_ok-points.points.items c.as_slice-3.result.now c.in_ok-points.ensures c.as_slice-3.ensures.value c.in_ok-rows.rows.items c.in_ok-rows.ensures.normals (light_there (dimension_of c.args.t.now) c.args.t.now c.args.forms.now c.in_ok-normals.normals.items c.as_slice.result.now c.in_ok-normals.ensures c.requires.few c.as_slice.ensures.value c.weight-weight.result c.weight-weight.ensures c.if-weight.false)
