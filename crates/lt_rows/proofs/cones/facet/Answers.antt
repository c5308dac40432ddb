use Rattle.std.proofs.Common.{ap, arith, ◌≡◌, ◌∙◌, sym, ◌<◌, ℤ, List, [], length, get_or}
use Rattle.std.proofs.lemmas.List.{get_or_default}
use Rattle.lt_model.specs.Cones.{Row}
use Rattle.lt_model.specs.Atlases.{facets_of}
use Rattle.lt_triang.specs.Kept.{dimension_of}
use Rattle.lt_lp.proofs.ConeFacets.{facets_exact}
use Rattle.lt_rows.proofs.cones.facet.Goals as goal

pub returns : goal.returns
returns g c =
    let t = c.args.t.now in
    let ns : List (List ℤ) = facets_of c.cone_of-found.result.rows in
    let within : c.args.i < length ns = omega (arith, c.if-i-facets.false, c.facets.ensures.value) in
    let named : c.behind-found.inside.normal ≡ c.facet.result.now.normal = ap (λ (r : Row). r.normal) c.behind-found.view_is in
    let same : c.copy.result ≡ get_or ns c.args.i [] = c.copy.ensures ∙ named ∙ c.facet.ensures.normal in
    (facets_exact (dimension_of t) t c.cone_of-found.result c.cone_of-found.ensures c.copy.result).1 (c.args.i, within, get_or_default ns c.args.i c.copy.result [] within ∙ sym same)
