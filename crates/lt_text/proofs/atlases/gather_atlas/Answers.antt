use Rattle.std.proofs.Common.{[], ◌++◌, length, refl}
use Rattle.std.specs.Prelude.{codes}
use Rattle.std.proofs.lemmas.Result.{err_from_is_err_and}
use Rattle.lt_lines.specs.Lines.{line}
use Rattle.lt_text.specs.Texts.{head_text, entries_text}
use Rattle.lt_text.proofs.Composed.{front_of_all, gained_then, gained_then_front, two_fronts, two_parts}
use Rattle.lt_text.proofs.atlases.gather_atlas.Goals as goal

pub returns-in_err-gather_head-clause-bytes : goal.returns-in_err-gather_head-clause-bytes
returns-in_err-gather_head-clause-bytes g c =
    let head = head_text c.args.atlas.now.dimension (length c.args.atlas.now.entries) in
    let entries = entries_text c.args.atlas.now.marks 0 c.args.atlas.now.entries in
    let p = err_from_is_err_and c.from_residual.result c.from_residual.ensures.1 in
    two_fronts _ _ _ _ _ _ _ (head ++ entries) (line (codes "end") []) p.1 refl (front_of_all _ _ _ head entries c.in_err-gather_head.ensures.bytes.front)

pub returns-in_err-gather_entries-clause-bytes : goal.returns-in_err-gather_entries-clause-bytes
returns-in_err-gather_entries-clause-bytes g c =
    let head = head_text c.args.atlas.now.dimension (length c.args.atlas.now.entries) in
    let entries = entries_text c.args.atlas.now.marks 0 c.args.atlas.now.entries in
    let p = err_from_is_err_and c.from_residual-in_err-gather_entries.result c.from_residual-in_err-gather_entries.ensures.1 in
    two_fronts _ _ _ _ _ _ _ (head ++ entries) (line (codes "end") []) p.1 refl (gained_then_front _ _ _ _ _ head entries c.in_ok-gather_head.ensures.bytes.whole c.in_err-gather_entries.ensures.bytes.front)

pub returns-clause-bytes : goal.returns-clause-bytes
returns-clause-bytes g c =
    let head = head_text c.args.atlas.now.dimension (length c.args.atlas.now.entries) in
    let entries = entries_text c.args.atlas.now.marks 0 c.args.atlas.now.entries in
    two_parts _ _ _ _ _ _ _ _ _ (head ++ entries) (line (codes "end") []) refl refl
    (gained_then _ _ _ _ _ _ head entries c.in_ok-gather_head.ensures.bytes.whole c.in_ok-gather_entries.ensures.bytes.whole) c.gather_line.ensures.bytes
