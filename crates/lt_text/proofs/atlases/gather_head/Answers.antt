use Rattle.std.proofs.Common.{ℕ, pos, [], ◌∷◌, ◌++◌, length, ap, refl}
use Rattle.std.specs.Prelude.{codes}
use Rattle.std.proofs.lemmas.Result.{err_from_is_err_and}
use Rattle.lt_lines.specs.Lines.{line}
use Rattle.lt_text.proofs.Composed.{front_of_all, gained_then, gained_then_front, two_fronts, two_parts}
use Rattle.lt_text.proofs.atlases.gather_head.Goals as goal

pub returns-in_err-gather_count-clause-bytes : goal.returns-in_err-gather_count-clause-bytes
returns-in_err-gather_count-clause-bytes g c =
    let version = line (codes "ltypes") (pos 2 ∷ []) in
    let dimension = line (codes "dimension") (pos c.args.atlas.now.dimension ∷ []) in
    let entries = line (codes "entries") (pos (length c.args.atlas.now.entries) ∷ []) in
    let p = err_from_is_err_and c.from_residual.result c.from_residual.ensures.1 in
    two_fronts _ _ _ _ _ _ _ (version ++ dimension) entries p.1 refl (front_of_all _ _ _ version dimension c.in_err-gather_count.ensures.bytes.front)

pub returns-in_err-gather_count-2-clause-bytes : goal.returns-in_err-gather_count-2-clause-bytes
returns-in_err-gather_count-2-clause-bytes g c =
    let version = line (codes "ltypes") (pos 2 ∷ []) in
    let dimension = line (codes "dimension") (pos c.args.atlas.now.dimension ∷ []) in
    let entries = line (codes "entries") (pos (length c.args.atlas.now.entries) ∷ []) in
    let p = err_from_is_err_and c.from_residual-in_err-gather_count-2.result c.from_residual-in_err-gather_count-2.ensures.1 in
    two_fronts _ _ _ _ _ _ _ (version ++ dimension) entries p.1 (ap (λ (n : ℕ). version ++ line (codes "dimension") (pos n ∷ [])) c.dimension.ensures) (gained_then_front _ _ _ _ _ version (line (codes "dimension") (pos c.dimension.result ∷ [])) c.in_ok-gather_count.ensures.bytes.whole c.in_err-gather_count-2.ensures.bytes.front)

pub returns-clause-bytes : goal.returns-clause-bytes
returns-clause-bytes g c =
    let version = line (codes "ltypes") (pos 2 ∷ []) in
    let dimension = line (codes "dimension") (pos c.args.atlas.now.dimension ∷ []) in
    let entries = line (codes "entries") (pos (length c.args.atlas.now.entries) ∷ []) in
    two_parts _ _ _ _ _ _ _ _ _ (version ++ dimension) entries (ap (λ (n : ℕ). version ++ line (codes "dimension") (pos n ∷ [])) c.dimension.ensures) (ap (λ (n : ℕ). line (codes "entries") (pos n ∷ [])) c.entries.ensures)
    (gained_then _ _ _ _ _ _ version (line (codes "dimension") (pos c.dimension.result ∷ [])) c.in_ok-gather_count.ensures.bytes.whole c.in_ok-gather_count-2.ensures.bytes.whole) c.gather_count-3.ensures.bytes
