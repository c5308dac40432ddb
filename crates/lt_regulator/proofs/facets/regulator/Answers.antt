use Rattle.std.proofs.Common.{◌≡◌, get_or, [], ◌∙◌}
use Rattle.std.proofs.lemmas.List.Elements.{Contains-get_or}
use Rattle.lt_num.specs.Divisors.{IsGcdOf, MadePrimitive}
use Rattle.lt_solve.proofs.Solved.{written}
use Rattle.lt_triang.specs.Kept.{dimension_of}
use Rattle.lt_triang.proofs.Expressed.{dimension_is}
use Rattle.lt_regulator.proofs.Near.{facet_place}
use Rattle.lt_regulator.proofs.Positive.{made, too_large}
use Rattle.lt_regulator.proofs.facets.regulator.Goals as goal

pub unreachable-requires : goal.unreachable-requires
unreachable-requires c =
    let t = c.args.t.now in
    let large : IsGcdOf c.outer_excess-numbers.result.items 170141183460469231731687303715884105728 = rw c.as_mut_slice.ensures.value at c.in-Err.ensures.0 in
    too_large (dimension_of t) c.requires.delaunay.0 t (get_or t c.args.class []) c.args.facet c.outer_excess-numbers.result.items c.requires.delaunay.1 (Contains-get_or t c.args.class [] c.requires.class) (facet_place c.dimension-dimension.result t c.args.class c.args.facet c.dimension-dimension.ensures c.requires.class c.requires.facet) c.outer_excess-numbers.ensures.value c.outer_excess-numbers.ensures.below large

pub of-requires : goal.of-requires
of-requires c =
    let t = c.args.t.now in
    let m : MadePrimitive c.outer_excess-numbers.result.items c.in-Ok.field-0 c.primitive.new.list = rw c.as_mut_slice.ensures.value at c.in-Ok.ensures in
    let r = made (dimension_of t) c.requires.delaunay.0 t (get_or t c.args.class []) c.args.facet c.outer_excess-numbers.result.items c.primitive.new.list c.in-Ok.field-0 c.requires.delaunay.1 (Contains-get_or t c.args.class [] c.requires.class) (facet_place c.dimension-dimension.result t c.args.class c.args.facet c.dimension-dimension.ensures c.requires.class c.requires.facet) c.outer_excess-numbers.ensures.value c.outer_excess-numbers.ensures.below m in
    let h = c.dimension-dimension.ensures in
    let e : c.as_slice.result.now ≡ c.primitive.new.list = c.as_slice.ensures.value ∙ written c.outer_excess-numbers.result.items c.primitive.new.list c.in-Ok.field-0 m in
    rw (e, dimension_is c.dimension-dimension.result t h) (record { low = rw (dimension_is c.dimension-dimension.result t h) at h.low; high = rw (dimension_is c.dimension-dimension.result t h) at h.high; count = r.count; below = r.below })

pub returns : goal.returns
returns c =
    let t = c.args.t.now in
    let m : MadePrimitive c.outer_excess-numbers.result.items c.in-Ok.field-0 c.primitive.new.list = rw c.as_mut_slice.ensures.value at c.in-Ok.ensures in
    let r = made (dimension_of t) c.requires.delaunay.0 t (get_or t c.args.class []) c.args.facet c.outer_excess-numbers.result.items c.primitive.new.list c.in-Ok.field-0 c.requires.delaunay.1 (Contains-get_or t c.args.class [] c.requires.class) (facet_place c.dimension-dimension.result t c.args.class c.args.facet c.dimension-dimension.ensures c.requires.class c.requires.facet) c.outer_excess-numbers.ensures.value c.outer_excess-numbers.ensures.below m in
    let e : c.of.result ≡ c.primitive.new.list = c.of.ensures ∙ c.as_slice.ensures.value ∙ written c.outer_excess-numbers.result.items c.primitive.new.list c.in-Ok.field-0 m in
    rw e r.regulator
