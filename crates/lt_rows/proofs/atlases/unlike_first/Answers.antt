use Rattle.std.proofs.Common.{ap, arith, sym, subst, ◌∙◌, ◌<◌, length, MatchOption}
use Rattle.lt_model.specs.Flat.{rows}
use Rattle.lt_model.specs.Matrices.{AreEquivalent}
use Rattle.lt_model.specs.Atlases.{Classes, Entry}
use Rattle.lt_triang.specs.Kept.{dimension_of, IsOfSomeForm}
use Rattle.lt_match.specs.Matches.{IsFirstMatch}
use Rattle.lt_crew.proofs.Places.{entry_dimension, entry_delaunay}
use Rattle.lt_crew.proofs.Beyond.{no_match}
use Rattle.lt_rows.proofs.atlases.unlike_first.Goals as goal

pub match_types-requires-clause-same : goal.match_types-requires-clause-same
match_types-requires-clause-same g c =
    let some : 0 < length c.args.atlas.now.entries = let e = c.requires.one in omega (arith, e) in
    ap (λ (z : Entry). dimension_of z.triangulation) c.entry.ensures ∙ entry_dimension c.args.atlas.now c.keeps.ensures.low c.keeps.ensures.kept 0 some ∙ sym c.requires.narrow.dimension

pub match_types-requires-clause-delaunay_too : goal.match_types-requires-clause-delaunay_too
match_types-requires-clause-delaunay_too g c =
    let some : 0 < length c.args.atlas.now.entries = let e = c.requires.one in omega (arith, e) in
    subst (λ (z : Classes). IsOfSomeForm z) (sym (ap (λ (z : Entry). z.triangulation) c.entry.ensures)) (entry_delaunay c.args.atlas.now c.keeps.ensures.low c.keeps.ensures.kept 0 some)

pub returns : goal.returns
returns g c =
    let t : Classes = c.args.t.now in
    let r : Classes = c.entry.result.now.triangulation in
    no_match c.args.atlas.now t r 0 c.requires.narrow (ap (λ (z : Entry). z.triangulation) c.entry.ensures) (subst (λ m. MatchOption m (AreEquivalent (dimension_of t) t r → ⊥) (λ u. IsFirstMatch (dimension_of t) t r (rows (dimension_of t) u))) c.in-Ok-None.field-0-is c.in-Ok-None.ensures.first)
