use Rattle.std.proofs.Common.{[], get_or}
use Rattle.lt_triang.specs.Kept.{dimension_of}
use Rattle.lt_section.proofs.RestrictedLists.{enough_numbers, same_numbers, all_small, all_positive, are_filled}
use Rattle.lt_section.proofs.restricting.section_normals.Goals as goal

pub restricted_normals-requires-clause-few : goal.restricted_normals-requires-clause-few
restricted_normals-requires-clause-few c = enough_numbers (dimension_of c.args.t.now) (get_or c.args.forms.now 0 []) c.args.t.now c.args.forms.now c.in_ok-regulators.regulators.items c.as_slice.result.now c.requires.delaunay c.in_ok-regulators.ensures c.as_slice.ensures.value c.requires.few

pub restricted_normals-requires-clause-same : goal.restricted_normals-requires-clause-same
restricted_normals-requires-clause-same c = same_numbers (dimension_of c.args.t.now) (get_or c.args.forms.now 0 []) c.args.t.now c.args.forms.now c.in_ok-regulators.regulators.items c.as_slice.result.now c.requires.delaunay c.in_ok-regulators.ensures c.as_slice.ensures.value c.requires.same

pub restricted_normals-requires-clause-small : goal.restricted_normals-requires-clause-small
restricted_normals-requires-clause-small c = all_small (dimension_of c.args.t.now) (get_or c.args.forms.now 0 []) c.args.t.now c.args.forms.now c.in_ok-regulators.regulators.items c.as_slice.result.now c.requires.delaunay c.in_ok-regulators.ensures c.as_slice.ensures.value c.requires.light

pub restricted_normals-requires-clause-positive : goal.restricted_normals-requires-clause-positive
restricted_normals-requires-clause-positive c = all_positive (dimension_of c.args.t.now) (get_or c.args.forms.now 0 []) c.args.t.now c.args.forms.now c.in_ok-regulators.regulators.items c.as_slice.result.now c.requires.delaunay c.in_ok-regulators.ensures c.as_slice.ensures.value

pub returns : goal.returns
returns c = are_filled (dimension_of c.args.t.now) (get_or c.args.forms.now 0 []) c.args.t.now c.args.forms.now c.in_ok-regulators.regulators.items c.as_slice.result.now c.requires.delaunay c.in_ok-regulators.ensures c.as_slice.ensures.value c.in_ok-all.all.items c.sorted_distinct.result.items c.in_ok-all.ensures c.sorted_distinct.ensures.ascending c.sorted_distinct.ensures.members
