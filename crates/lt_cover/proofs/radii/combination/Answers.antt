use Rattle.std.proofs.Common.{◌≡◌, ◌-◌, ◌∙◌, arith, sym, ℕ, ℤ, List, length, drop}
use Rattle.lt_model.proofs.Walk.{length-map}
use Rattle.lt_model.specs.Flat.{flat, rows}
use Rattle.lt_model.specs.Forms.{value}
use Rattle.lt_model.specs.Simplices.{IsClass}
use Rattle.lt_cover.specs.Gram.{gram, IsMeasured}
use Rattle.lt_cover.proofs.Centres.{length-gram, no_dependency}
use Rattle.lt_cover.proofs.Systems.{gram_rows, gram_square, gram_small, length-columns, values_small}
use Rattle.lt_cover.proofs.radii.combination.Goals.{After-as_slice}
use Rattle.lt_cover.proofs.radii.combination.Goals as goal

same : (c : After-as_slice) → c.dimension.result ≡ length c.args.class.now - 1
same c = omega (arith, c.dimension.ensures.class.simplex.count)

items : (c : After-as_slice) → c.as_slice.result.now ≡ flat (gram c.args.q.now (drop 1 c.args.class.now))
items c = c.as_slice.ensures.value ∙ c.products.ensures

pub of-columns-requires-clause-square : goal.of-columns-requires-clause-square
of-columns-requires-clause-square c = rw (items c, same c) (gram_square (length c.args.class.now - 1) c.args.q.now c.args.class.now c.requires.measured)

pub of-columns-requires-clause-small : goal.of-columns-requires-clause-small
of-columns-requires-clause-small c = rw (items c, same c) (gram_small (length c.args.class.now - 1) c.args.q.now c.args.class.now c.requires.measured)

columns_are : (q : List ℤ) (s : List (List ℤ)) (d : ℕ) (numbers : List ℤ) (columns : List (List ℤ)) → IsMeasured (length s - 1) q s → IsClass d s → numbers ≡ flat (gram q (drop 1 s)) → columns ≡ rows d numbers → columns ≡ gram q (drop 1 s)
columns_are q s d numbers columns h k m e =
    let n : d ≡ length s - 1 = omega (arith, k.simplex.count) in
    let f = rw (m, n) at e in
    f ∙ gram_rows (length s - 1) q s h

pub solve-requires-clause-same : goal.solve-requires-clause-same
solve-requires-clause-same c =
    let q = c.args.q.now in
    let s = c.args.class.now in
    let vs = drop 1 s in
    let e = columns_are q s c.dimension.result c.as_slice.result.now c.of-columns.result c.requires.measured c.dimension.ensures.class (c.as_slice.ensures.value ∙ c.products.ensures) c.of-columns.ensures in
    rw (c.requires.values, e) (length-map (value q) vs ∙ sym (length-gram q vs vs))

pub solve-requires-clause-small : goal.solve-requires-clause-small
solve-requires-clause-small c =
    let q = c.args.q.now in
    let s = c.args.class.now in
    let h = c.requires.measured in
    let e = columns_are q s c.dimension.result c.as_slice.result.now c.of-columns.result h c.dimension.ensures.class (c.as_slice.ensures.value ∙ c.products.ensures) c.of-columns.ensures in
    rw (c.requires.values, e, length-columns (length s - 1) q s h) (values_small (length s - 1) q s h)

pub returns : goal.returns
returns c =
    let e = columns_are c.args.q.now c.args.class.now c.dimension.result c.as_slice.result.now c.of-columns.result c.requires.measured c.dimension.ensures.class (c.as_slice.ensures.value ∙ c.products.ensures) c.of-columns.ensures in
    rw e at c.in-Ok.ensures.solution

pub unreachable-requires : goal.unreachable-requires
unreachable-requires c =
    let e = columns_are c.args.q.now c.args.class.now c.dimension.result c.as_slice.result.now c.of-columns.result c.requires.measured c.dimension.ensures.class (c.as_slice.ensures.value ∙ c.products.ensures) c.of-columns.ensures in
    no_dependency (length c.args.class.now - 1) c.args.q.now c.args.class.now c.requires.measured c.in-Err.field-0 (rw e at c.in-Err.ensures.singular)
