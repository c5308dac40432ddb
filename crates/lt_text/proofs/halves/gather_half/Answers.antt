use Rattle.std.proofs.Common.{ℕ, pos, [], ◌∷◌, length, ap, refl}
use Rattle.std.specs.Prelude.{codes}
use Rattle.std.proofs.lemmas.Result.{err_from_is_err_and}
use Rattle.lt_lines.specs.Lines.{line}
use Rattle.lt_model.specs.Negatives.{half}
use Rattle.lt_text.specs.Texts.{class_lines}
use Rattle.lt_text.proofs.Composed.{two_fronts, two_parts}
use Rattle.lt_text.proofs.halves.gather_half.Goals as goal

pub returns-in_err-gather_count-clause-bytes : goal.returns-in_err-gather_count-clause-bytes
returns-in_err-gather_count-clause-bytes g c =
    let h = half c.args.triangulation.now in
    let p = err_from_is_err_and c.from_residual.result c.from_residual.ensures.1 in
    two_fronts _ _ _ _ _ _ _ (line (codes "simplices") (pos (length h) ∷ [])) (class_lines h) p.1 (ap (λ (n : ℕ). line (codes "simplices") (pos n ∷ [])) c.count_half.ensures) c.in_err-gather_count.ensures.bytes.front

pub returns-clause-bytes : goal.returns-clause-bytes
returns-clause-bytes g c =
    let h = half c.args.triangulation.now in
    two_parts _ _ _ _ _ _ _ _ _ (line (codes "simplices") (pos (length h) ∷ [])) (class_lines h) (ap (λ (n : ℕ). line (codes "simplices") (pos n ∷ [])) c.count_half.ensures) refl c.in_ok-gather_count.ensures.bytes.whole c.gather_each.ensures.bytes
