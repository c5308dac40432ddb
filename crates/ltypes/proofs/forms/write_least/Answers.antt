use Rattle.std.proofs.Common.{[], ◌∷◌, ap}
use Rattle.std.specs.Prelude.{codes}
use Rattle.std.proofs.lemmas.Result.{err_from_is_err_and}
use Rattle.lt_io.proofs.Compose.{wrote_front, wrote_then, front_of_more}
use Rattle.lt_lines.specs.Lines.{line}
use Rattle.ltypes.proofs.Drilled.{told}
use Rattle.ltypes.specs.Forms.{vectors_text}
use Rattle.ltypes.proofs.forms.write_least.Goals as goal

pub returns-in_err-write_named_number-clause-bytes : goal.returns-in_err-write_named_number-clause-bytes
returns-in_err-write_named_number-clause-bytes g c =
    let A0 = line (codes "least") (c.args.shortest.now.least ∷ []) in
    let A1 = vectors_text c.args.shortest.now.vectors.items in
    let p = err_from_is_err_and c.from_residual.result c.from_residual.ensures.1 in
    wrote_front _ _ _ _ _ p.1 (front_of_more _ _ (A0) A1 c.in_err-write_named_number.ensures.bytes.front)

pub returns-clause-bytes : goal.returns-clause-bytes
returns-clause-bytes g c =
    let A0 = line (codes "least") (c.args.shortest.now.least ∷ []) in
    let A1 = vectors_text c.args.shortest.now.vectors.items in
    wrote_then _ _ _ _ (A0) A1 c.in_ok-write_named_number.ensures.bytes.whole (told _ _ _ _ _ (ap vectors_text c.deref.ensures.value) c.write_vectors.ensures.bytes)
