use Rattle.std.proofs.Common.{◌≡◌, subst, [], get_or}
use Rattle.std.specs.List.{Contains}
use Rattle.std.proofs.lemmas.List.Elements.{Contains-get_or}
use Rattle.lt_triang.specs.Kept.{IsTriangulation, dimension_of}
use Rattle.lt_triang.proofs.Expressed.{dimension_is}
use Rattle.lt_flip.proofs.Near.{IsNearOuter, outer_near}
use Rattle.lt_flip.proofs.outers.outer_of.Goals as goal

pub returns-in-Some : goal.returns-in-Some
returns-in-Some c =
    let t = c.args.t.now in
    let s = get_or t c.args.class [] in
    let ms : Contains t s = Contains-get_or t c.args.class [] c.requires.class in
    let d : c.dimension-dimension.result ≡ dimension_of t = dimension_is c.dimension-dimension.result t c.dimension-dimension.ensures in
    let h : IsTriangulation (dimension_of t) t = subst (λ n. IsTriangulation n t) d c.dimension-dimension.ensures in
    let o = c.outer-outer in
    let n : IsNearOuter (dimension_of t) s o.result.vertex = outer_near (dimension_of t) t s c.in-Some.facet o.result.vertex h ms c.in-Some.ensures.0 o.ensures.vertex in
    record {
      facet = c.in-Some.facet;
      place = c.in-Some.ensures.0;
      regulator = c.in-Some.ensures.1;
      outer = o.ensures.vertex;
      dimension = n.dimension;
      near = n.near;
      expression = o.ensures.expression;
    }
