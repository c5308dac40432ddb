use Rattle.std.proofs.Common.{ℕ, ℤ, pos, List, [], ◌∷◌, ◌∙◌, subst, rules}
use Rattle.std.specs.Int.{w128}
use Rattle.std.proofs.lemmas.Int.{to_z-of_z}
use Rattle.std.proofs.lemmas.Result.{err_from_is_err_and}
use Rattle.lt_io.specs.Bytes.{Wrote}
use Rattle.lt_io.proofs.Compose.{wrote_front, wrote_then, front_of_more}
use Rattle.lt_lines.specs.Lines.{line}
use Rattle.ltypes.specs.Summaries.{columns}
use Rattle.ltypes.proofs.summary.write_counts.Goals as goal

-- the numbers before the weight
abbrev numbers : (entry classes regulators facets crossed undecided : ℕ) → List (ℕ × ℕ)
numbers entry classes regulators facets crossed undecided = (6, entry) ∷ (10, classes) ∷ (11, regulators) ∷ (7, facets) ∷ (8, crossed) ∷ (8, undecided) ∷ []

pub returns-in_err-write_columns-clause-bytes : goal.returns-in_err-write_columns-clause-bytes
returns-in_err-write_columns-clause-bytes g c =
    λ w is.
    let n = c.args.counts.now in
    let p = err_from_is_err_and c.from_residual.result c.from_residual.ensures.1 in
    wrote_front _ _ _ _ _ p.1 (front_of_more _ _ (columns (numbers n.entry n.classes n.regulators n.facets n.crossed n.undecided)) (line [] (pos w ∷ [])) c.in_err-write_columns.ensures.bytes.front)

pub returns-clause-bytes : goal.returns-clause-bytes
returns-clause-bytes g c =
    λ w is.
    let n = c.args.counts.now in
    wrote_then _ _ _ _ (columns (numbers n.entry n.classes n.regulators n.facets n.crossed n.undecided)) (line [] (pos w ∷ [])) c.in_ok-write_columns.ensures.bytes.whole
    (subst (λ (z : ℤ). Wrote (g.K.Sink.held c.write_columns.new.out) (g.K.Sink.held c.write_line.new.sink) c.write_line.result (line [] (z ∷ []))) (to_z-of_z w128 c.args.weight (search rules) ∙ is) c.write_line.ensures.bytes)
