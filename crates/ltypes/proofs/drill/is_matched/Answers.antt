use Rattle.std.proofs.Common.{sym, ◌∙◌}
use Rattle.ltypes.proofs.Drilled.{image_matches}
use Rattle.ltypes.proofs.drill.is_matched.Goals as goal

pub match_types-requires-clause-same : goal.match_types-requires-clause-same
match_types-requires-clause-same c = sym c.in_ok-_matrix.ensures.dimension

pub match_types-requires-clause-delaunay : goal.match_types-requires-clause-delaunay
match_types-requires-clause-delaunay c = c.in_ok-_matrix.ensures.form c.requires

pub returns : goal.returns
returns c =
    c.is_some.ensures
    ∙ image_matches c.dimension-dimension.result c.args.draws.now c.args.t.now c.in_ok-_matrix.image c.in_ok-_matrix._matrix c.in_ok-match_types.field-0 _ c.dimension-dimension.ensures c.in_ok-_matrix.ensures.scramble c.in_ok-_matrix.ensures.dimension c.in_ok-match_types.ensures.first
