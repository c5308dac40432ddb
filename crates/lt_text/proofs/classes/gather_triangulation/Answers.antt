use Rattle.std.proofs.Common.{ℕ, pos, [], ◌∷◌, length, ap, refl}
use Rattle.std.specs.Prelude.{codes}
use Rattle.std.proofs.lemmas.Result.{err_from_is_err_and}
use Rattle.lt_lines.specs.Lines.{line}
use Rattle.lt_text.specs.Texts.{class_lines}
use Rattle.lt_text.proofs.Composed.{two_fronts, two_parts}
use Rattle.lt_text.proofs.classes.gather_triangulation.Goals as goal

pub returns-in_err-gather_count-clause-bytes : goal.returns-in_err-gather_count-clause-bytes
returns-in_err-gather_count-clause-bytes g c =
    let p = err_from_is_err_and c.from_residual.result c.from_residual.ensures.1 in
    two_fronts _ _ _ _ _ _ _ (line (codes "simplices") (pos (length c.args.triangulation.now) ∷ [])) (class_lines c.args.triangulation.now) p.1 (ap (λ (n : ℕ). line (codes "simplices") (pos n ∷ [])) c.len.ensures) c.in_err-gather_count.ensures.bytes.front

pub returns-clause-bytes : goal.returns-clause-bytes
returns-clause-bytes g c =
    two_parts _ _ _ _ _ _ _ _ _ (line (codes "simplices") (pos (length c.args.triangulation.now) ∷ [])) (class_lines c.args.triangulation.now) (ap (λ (n : ℕ). line (codes "simplices") (pos n ∷ [])) c.len.ensures) refl c.in_ok-gather_count.ensures.bytes.whole c.gather_classes.ensures.bytes
