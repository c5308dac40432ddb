use Rattle.std.proofs.Common.{◌≡◌, ◌<◌, ◌∙◌, suc, ℤ, List, [], length, get_or, arith, ap}
use Rattle.std.proofs.lemmas.List.{get_or_default}
use Rattle.lt_triang.specs.Kept.{dimension_of}
use Rattle.lt_triang.proofs.Expressed.{dimension_is}
use Rattle.lt_colour.proofs.Numbers.{each_more}
use Rattle.lt_match.specs.Beyond.{IsFacetSignature}
use Rattle.lt_match.proofs.Told.{told}
use Rattle.lt_match.proofs.facets.facet_signatures.Goals as goal

pub bounds-deref-facet : goal.bounds-deref-facet
bounds-deref-facet c =
    let t = c.args.t.now in
    let d : c.dimension.result ≡ dimension_of t = dimension_is c.dimension.result t c.dimension.ensures in
    let e : length c.deref.result.now ≡ length c.pair_signatures-pairs.result.items = ap length c.deref.ensures.0 in
    omega (arith, c.pair_signatures-pairs.ensures.count, c.from-facet-end.ensures, c.loop-facet-test.true)

pub loop-facet-preserved : goal.loop-facet-preserved
loop-facet-preserved c =
    let t = c.args.t.now in
    let s = get_or t c.args.class [] in
    let i = c.loop-facet.facet in
    let n = c.neighbour-next.result.class in
    let d : c.dimension.result ≡ dimension_of t = dimension_is c.dimension.result t c.dimension.ensures in
    let hi : i < suc (dimension_of t) = omega (arith, c.from-facet-end.ensures, c.loop-facet-test.true) in
    let pairs = c.pair_signatures-pairs.result.items in
    let lp : i < length c.deref.result.now = rw c.deref.ensures.0 (omega (arith, c.pair_signatures-pairs.ensures.count)) in
    let first : c.index-deref-facet.result ≡ get_or pairs i [] = c.index-deref-facet.is ∙ get_or_default c.deref.result.now i c.index-deref-facet.result [] lp ∙ ap (λ (l : List (List ℤ)). get_or l i []) c.deref.ensures.0 in
    let here : IsFacetSignature (dimension_of t) t s i c.joined.result = record {
      pair = c.index-deref-facet.result;
      pair_is = rw first (c.pair_signatures-pairs.ensures.each i hi);
      next = get_or t n [];
      shift = c.neighbour-next.result.shift;
      outer = c.neighbour-next.result.vertex;
      neighbour = told c.dimension.result c.args.class i n t c.neighbour-next.result.shift c.neighbour-next.result.vertex c.dimension.ensures c.requires.class c.neighbour-next.ensures;
      beyond = c.signature.result.items;
      beyond_is = c.signature.ensures;
      is = rw c.as_slice.ensures.value at c.joined.ensures;
    } in
    record {
      count = omega (arith, c.push.ensures.len, c.loop-facet.invariant.count);
      each = rw c.push.ensures.items (each_more (λ i p. IsFacetSignature (dimension_of t) t s i p) c.loop-facet.all.items c.joined.result [] c.loop-facet.facet c.loop-facet.invariant.count c.loop-facet.invariant.each here);
    }

pub returns : goal.returns
returns c =
    let d : c.dimension.result ≡ dimension_of c.args.t.now = dimension_is c.dimension.result c.args.t.now c.dimension.ensures in
    record {
      count = omega (arith, d, c.from-facet-end.ensures, c.loop-facet-test.false, c.loop-facet.auto.facet-end, c.loop-facet.invariant.count);
      each = λ i h. c.loop-facet.invariant.each i (omega (arith, d, h, c.from-facet-end.ensures, c.loop-facet-test.false));
    }
