use Rattle.std.proofs.Common.{◌≡◌, ◌<◌, ◌≤◌, ◌^◌, suc, ℕ, arith, rules, length}
use Rattle.std.specs.Int.{w128}
use Rattle.std.proofs.Math.Pow.{pow_mono}
use Rattle.std.proofs.lemmas.Int.{to_z-of_z}
use mir.Val.{SFits, to_z, of_z}
use Rattle.lt_triang.specs.Kept.{dimension_of}
use Rattle.lt_triang.proofs.Expressed.{dimension_is}
use Rattle.lt_laws.proofs.EdgeCount.{edges_are_parities}
use Rattle.lt_locate.proofs.Bad.{edge_lengths}
use Rattle.lt_relevant.proofs.Values.{those_at, edge_of, edges_are_shortest}
use Rattle.lt_relevant.proofs.minima.shortest.Goals.{After-drop-points-2}
use Rattle.lt_relevant.proofs.minima.shortest.Goals as goal

-- from dimension 2 on a list of 2^d - 1 points has one
some : (d n : ℕ) → 2 ≤ d → suc n ≡ 2 ^ d → 0 < n
some d n low e = let p : 2 ^ 2 ≤ 2 ^ d = pow_mono low in omega (arith, p, e)

pub least_value-least-requires-clause-some : goal.least_value-least-requires-clause-some
least_value-least-requires-clause-some c =
    let d = dimension_of c.args.t.now in
    let es = c.in_ok-points.ensures in
    let low : 2 ≤ d = omega (arith, dimension_is c.dimension-dimension.result c.args.t.now c.dimension-dimension.ensures) in
    rw c.as_slice.ensures.value (some d (length c.in_ok-points.points.items) low (edges_are_parities d c.args.q.now c.args.t.now c.in_ok-points.points.items c.requires.delaunay es.ascending es.members))

pub least_value-least-requires-clause-same : goal.least_value-least-requires-clause-same
least_value-least-requires-clause-same c =
    let d = dimension_of c.args.t.now in
    rw c.as_slice.ensures.value (edge_lengths d c.args.t.now c.in_ok-points.points.items c.in_ok-points.ensures c.args.q.now c.args.q.now c.requires.delaunay c.requires.delaunay.positive.numbers)

pub those_at-requires-clause-same : goal.those_at-requires-clause-same
those_at-requires-clause-same c =
    let d = dimension_of c.args.t.now in
    rw c.as_slice-2.ensures.value (edge_lengths d c.args.t.now c.in_ok-points.points.items c.in_ok-points.ensures c.args.q.now c.args.q.now c.requires.delaunay c.requires.delaunay.positive.numbers)

-- the least value as it is stored, and the points that have it
kept : (c : After-drop-points-2) → to_z w128 (of_z w128 c.least_value-least.result) ≡ c.least_value-least.result
kept c = let fits : SFits w128 c.least_value-least.result = search rules in to_z-of_z w128 c.least_value-least.result fits

those : (c : After-drop-points-2) → c.in_ok-vectors.vectors.items ≡ those_at c.args.q.now c.least_value-least.result c.in_ok-points.points.items
those c = rw (c.as_slice-2.ensures.value, kept c) at c.in_ok-vectors.ensures

pub returns-clause-shortest : goal.returns-clause-shortest
returns-clause-shortest c =
    let d = dimension_of c.args.t.now in
    let least = rw c.as_slice.ensures.value at c.least_value-least.ensures in
    rw (kept c, those c) (edges_are_shortest d c.args.q.now c.args.t.now c.in_ok-points.points.items c.least_value-least.result c.requires.delaunay c.in_ok-points.ensures least)

pub returns-clause-edges : goal.returns-clause-edges
returns-clause-edges c =
    let d = dimension_of c.args.t.now in
    rw (those c) (edge_of d c.args.q.now c.args.t.now c.in_ok-points.points.items c.least_value-least.result c.requires.delaunay c.in_ok-points.ensures)
