use Rattle.std.proofs.Common.{◌++◌, map, refl}
use Rattle.std.proofs.lemmas.Result.{err_from_is_err_and}
use Rattle.lt_model.specs.Negatives.{half}
use Rattle.lt_core.specs.Marks.{mark_of}
use Rattle.lt_model.specs.Atlases.{place_of}
use Rattle.lt_text.specs.Texts.{origin_line, triangulation_text, cone_text, marks_text}
use Rattle.lt_text.proofs.Composed.{front_of_all, gained_then, gained_then_front, two_fronts, two_parts}
use Rattle.lt_text.proofs.entries.gather_entry.Goals as goal

pub returns-in_err-gather-clause-bytes : goal.returns-in_err-gather-clause-bytes
returns-in_err-gather-clause-bytes g c =
    let origin = origin_line c.args.number (place_of c.args.entry.now.origin) in
    let triangulation = triangulation_text (half c.args.entry.now.triangulation) in
    let cone = cone_text c.args.entry.now.cone in
    let marks = marks_text (map mark_of c.args.marks.now) in
    let p = err_from_is_err_and c.from_residual.result c.from_residual.ensures.1 in
    two_fronts _ _ _ _ _ _ _ (origin ++ triangulation ++ cone) marks p.1 refl (front_of_all _ _ _ (origin ++ triangulation) cone (front_of_all _ _ _ origin triangulation c.in_err-gather.ensures.bytes.front))

pub returns-in_err-gather_half-clause-bytes : goal.returns-in_err-gather_half-clause-bytes
returns-in_err-gather_half-clause-bytes g c =
    let origin = origin_line c.args.number (place_of c.args.entry.now.origin) in
    let triangulation = triangulation_text (half c.args.entry.now.triangulation) in
    let cone = cone_text c.args.entry.now.cone in
    let marks = marks_text (map mark_of c.args.marks.now) in
    let p = err_from_is_err_and c.from_residual-in_err-gather_half.result c.from_residual-in_err-gather_half.ensures.1 in
    two_fronts _ _ _ _ _ _ _ (origin ++ triangulation ++ cone) marks p.1 refl (front_of_all _ _ _ (origin ++ triangulation) cone (gained_then_front _ _ _ _ _ origin triangulation c.in_ok-gather.ensures.bytes.whole c.in_err-gather_half.ensures.bytes.front))

pub returns-in_err-gather_cone-clause-bytes : goal.returns-in_err-gather_cone-clause-bytes
returns-in_err-gather_cone-clause-bytes g c =
    let origin = origin_line c.args.number (place_of c.args.entry.now.origin) in
    let triangulation = triangulation_text (half c.args.entry.now.triangulation) in
    let cone = cone_text c.args.entry.now.cone in
    let marks = marks_text (map mark_of c.args.marks.now) in
    let p = err_from_is_err_and c.from_residual-in_err-gather_cone.result c.from_residual-in_err-gather_cone.ensures.1 in
    two_fronts _ _ _ _ _ _ _ (origin ++ triangulation ++ cone) marks p.1 refl (gained_then_front _ _ _ _ _ (origin ++ triangulation) cone (gained_then _ _ _ _ _ _ origin triangulation c.in_ok-gather.ensures.bytes.whole c.in_ok-gather_half.ensures.bytes.whole) c.in_err-gather_cone.ensures.bytes.front)

pub returns-clause-bytes : goal.returns-clause-bytes
returns-clause-bytes g c =
    let origin = origin_line c.args.number (place_of c.args.entry.now.origin) in
    let triangulation = triangulation_text (half c.args.entry.now.triangulation) in
    let cone = cone_text c.args.entry.now.cone in
    let marks = marks_text (map mark_of c.args.marks.now) in
    two_parts _ _ _ _ _ _ _ _ _ (origin ++ triangulation ++ cone) marks refl refl
    (gained_then _ _ _ _ _ _ (origin ++ triangulation) cone (gained_then _ _ _ _ _ _ origin triangulation c.in_ok-gather.ensures.bytes.whole c.in_ok-gather_half.ensures.bytes.whole) c.in_ok-gather_cone.ensures.bytes.whole) c.gather_marks.ensures.bytes
