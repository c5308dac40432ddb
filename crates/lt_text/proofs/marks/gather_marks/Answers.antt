use Rattle.std.proofs.Common.{ℕ, pos, [], ◌∷◌, length, map, ap, sym}
use Rattle.std.specs.Prelude.{codes}
use Rattle.std.proofs.lemmas.Result.{err_from_is_err_and}
use Rattle.std.specs.List.{flat_map}
use Rattle.std.proofs.lemmas.List.{length-map}
use Rattle.lt_lines.specs.Lines.{line}
use Rattle.lt_core.specs.Marks.{mark_of}
use Rattle.lt_text.specs.Texts.{mark_line}
use Rattle.lt_text.proofs.Loops.{flat_map-map}
use Rattle.lt_text.proofs.Composed.{two_fronts, two_parts}
use Rattle.lt_text.proofs.marks.gather_marks.Goals as goal

pub returns-in_err-gather_count-clause-bytes : goal.returns-in_err-gather_count-clause-bytes
returns-in_err-gather_count-clause-bytes g c =
    let p = err_from_is_err_and c.from_residual.result c.from_residual.ensures.1 in
    two_fronts _ _ _ _ _ _ _ (line (codes "marks") (pos (length (map mark_of c.args.marks.now)) ∷ [])) (flat_map mark_line (map mark_of c.args.marks.now)) p.1 (ap (λ (n : ℕ). line (codes "marks") (pos n ∷ [])) (sym (length-map c.args.marks.now mark_of))) c.in_err-gather_count.ensures.bytes.front

pub returns-clause-bytes : goal.returns-clause-bytes
returns-clause-bytes g c =
    two_parts _ _ _ _ _ _ _ _ _ (line (codes "marks") (pos (length (map mark_of c.args.marks.now)) ∷ [])) (flat_map mark_line (map mark_of c.args.marks.now)) (ap (λ (n : ℕ). line (codes "marks") (pos n ∷ [])) (sym (length-map c.args.marks.now mark_of))) (sym (flat_map-map mark_line mark_of c.args.marks.now)) c.in_ok-gather_count.ensures.bytes.whole c.gather_each.ensures.bytes
