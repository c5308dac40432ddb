use Rattle.std.proofs.Common.{ℤ, pos, List, [], ◌∷◌, ◌++◌, ap}
use Rattle.std.specs.Prelude.{codes, get_or}
use Rattle.std.proofs.lemmas.Result.{err_from_is_err_and}
use Rattle.lt_io.proofs.Compose.{wrote_front, wrote_then, front_of_more, appended_then, appended_then_front}
use Rattle.lt_lines.specs.Lines.{line}
use Rattle.lt_text.specs.Texts.{class_numbers}
use Rattle.ltypes.proofs.Drilled.{told}
use Rattle.ltypes.specs.Forms.{radius_line}
use Rattle.ltypes.proofs.forms.write_covered.Goals as goal

pub returns-in_err-write_count-clause-bytes : goal.returns-in_err-write_count-clause-bytes
returns-in_err-write_count-clause-bytes g c =
    let s = get_or c.args.located.now.triangulation c.args.cover.now.class [] in
    let A0 = line (codes "located after") (pos c.args.located.now.crossed ∷ []) in
    let A1 = radius_line c.args.cover.now.radius in
    let A2 = line (codes "class") (class_numbers s) in
    let p = err_from_is_err_and c.from_residual.result c.from_residual.ensures.1 in
    wrote_front _ _ _ _ _ p.1 (front_of_more _ _ (A0 ++ A1) A2 (front_of_more _ _ (A0) A1 c.in_err-write_count.ensures.bytes.front))

pub returns-in_err-write_radius-clause-bytes : goal.returns-in_err-write_radius-clause-bytes
returns-in_err-write_radius-clause-bytes g c =
    let s = get_or c.args.located.now.triangulation c.args.cover.now.class [] in
    let A0 = line (codes "located after") (pos c.args.located.now.crossed ∷ []) in
    let A1 = radius_line c.args.cover.now.radius in
    let A2 = line (codes "class") (class_numbers s) in
    let p = err_from_is_err_and c.from_residual-in_err-write_radius.result c.from_residual-in_err-write_radius.ensures.1 in
    wrote_front _ _ _ _ _ p.1 (front_of_more _ _ (A0 ++ A1) A2 (appended_then_front _ _ _ (A0) A1 c.in_ok-write_count.ensures.bytes.whole c.in_err-write_radius.ensures.bytes.front))

pub returns-clause-bytes : goal.returns-clause-bytes
returns-clause-bytes g c =
    let s = get_or c.args.located.now.triangulation c.args.cover.now.class [] in
    let A0 = line (codes "located after") (pos c.args.located.now.crossed ∷ []) in
    let A1 = radius_line c.args.cover.now.radius in
    let A2 = line (codes "class") (class_numbers s) in
    wrote_then _ _ _ _ (A0 ++ A1) A2 (appended_then _ _ _ (A0) A1 c.in_ok-write_count.ensures.bytes.whole c.in_ok-write_radius.ensures.bytes.whole) (told _ _ _ _ _ (ap (λ (z : List (List ℤ)). line (codes "class") (class_numbers z)) c.class.ensures) c.write_class.ensures.bytes)
