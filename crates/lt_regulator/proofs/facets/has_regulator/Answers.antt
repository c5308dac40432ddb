use Rattle.std.proofs.Common.{sym, subst, IsTrue, get_or, []}
use Rattle.std.proofs.lemmas.List.Elements.{Contains-get_or}
use Rattle.std.specs.Cmp.Rules.{signed_items}
use Rattle.lt_triang.specs.Kept.{dimension_of}
use Rattle.lt_geometry.specs.Regulators.{IsRegulatorAt}
use Rattle.lt_geometry.proofs.Regulators.{one_regulator}
use Rattle.lt_regulator.proofs.Near.{facet_place}
use Rattle.lt_regulator.proofs.facets.has_regulator.Goals as goal

pub returns-then-may_have : goal.returns-then-may_have
returns-then-may_have c =
    let t = c.args.t.now in
    let s = get_or t c.args.class [] in
    let i = signed_items c.regulator.result c.args.normal.now in (
      λ y. subst (λ m. IsRegulatorAt (dimension_of t) t s c.args.facet m) (i.0 (subst IsTrue c.eq.ensures y)) c.regulator.ensures,
      λ r. subst IsTrue (sym c.eq.ensures) (i.1 (one_regulator (dimension_of t) c.requires.delaunay.0 t s c.args.facet c.regulator.result c.args.normal.now c.requires.delaunay.1 (Contains-get_or t c.args.class [] c.requires.class) (facet_place c.dimension-dimension.result t c.args.class c.args.facet c.dimension-dimension.ensures c.requires.class c.requires.facet) c.regulator.ensures r)),
    )
