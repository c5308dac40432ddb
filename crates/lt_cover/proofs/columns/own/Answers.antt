use Rattle.std.proofs.Common.{◌≤◌, ◌-◌, arith, length, nat_abs}
use Rattle.std.proofs.lemmas.Int.{ints}
use Rattle.lt_cover.proofs.Measures.{from_first, some_vertex}
use Rattle.lt_cover.proofs.Sums.{narrow}
use Rattle.lt_cover.proofs.columns.own.Goals as goal

pub between-requires-clause-j : goal.between-requires-clause-j
between-requires-clause-j c = some_vertex (length c.args.class.now - 1) c.args.q.now c.args.class.now c.requires.measured

pub returns : goal.returns
returns c =
    let s = c.args.class.now in
    let f = from_first (length s - 1) c.args.q.now s c.requires.measured c.args.i c.requires.i in
    let small : nat_abs c.between.result ≤ 4000 = omega (arith, ints, c.between.ensures.low, c.between.ensures.high) in
    let k = narrow c.between.result small in
    omega (arith, ints, k, c.between.ensures.value, f)
