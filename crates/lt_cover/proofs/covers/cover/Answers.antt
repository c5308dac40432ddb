use Rattle.std.proofs.Common.{◌≡◌}
use Rattle.std.proofs.lemmas.Result.{err_from_is_err_and}
use Rattle.lt_triang.specs.Kept.{dimension_of}
use Rattle.lt_triang.proofs.Expressed.{dimension_is}
use Rattle.lt_locate.proofs.Bad.{edge_lengths}
use Rattle.lt_cover.proofs.Longest.{longest, all_short}
use Rattle.lt_cover.proofs.covers.cover.Goals.{After-as_slice}
use Rattle.lt_cover.proofs.covers.cover.Goals as goal

pub check_lengths-requires-clause-same : goal.check_lengths-requires-clause-same
check_lengths-requires-clause-same c = rw c.as_slice.ensures.value (edge_lengths (dimension_of c.args.t.now) c.args.t.now c.in_ok-points.points.items c.in_ok-points.ensures c.args.q.now c.args.q.now c.requires.delaunay c.requires.delaunay.positive.numbers)

pub returns-in_err-check_lengths-clause-long : goal.returns-in_err-check_lengths-clause-long
returns-in_err-check_lengths-clause-long c =
    let p = err_from_is_err_and c.from_residual-in_err-check_lengths.result c.from_residual-in_err-check_lengths.ensures.1 in
    let same : p.0 ≡ c.in_err-check_lengths.field-0.0 = p.2 in
    let d = dimension_is c.dimension.result c.args.t.now c.dimension.ensures in
    rw (p.1, same) (longest (dimension_of c.args.t.now) c.args.q.now c.args.t.now c.in_ok-points.points.items c.in_ok-points.ensures c.in_err-check_lengths.field-0.0 (rw (d, c.as_slice.ensures.value) at c.in_err-check_lengths.ensures.long))

pub greatest-requires-clause-short : goal.greatest-requires-clause-short
greatest-requires-clause-short c =
    let d = dimension_is c.dimension.result c.args.t.now c.dimension.ensures in
    all_short (dimension_of c.args.t.now) c.args.q.now c.args.t.now c.in_ok-points.points.items c.in_ok-points.ensures (rw (d, c.as_slice.ensures.value) at c.in_ok-check_lengths.ensures.short)

pub returns-clause-short : goal.returns-clause-short
returns-clause-short c =
    let d = dimension_is c.dimension.result c.args.t.now c.dimension.ensures in
    all_short (dimension_of c.args.t.now) c.args.q.now c.args.t.now c.in_ok-points.points.items c.in_ok-points.ensures (rw (d, c.as_slice.ensures.value) at c.in_ok-check_lengths.ensures.short)
