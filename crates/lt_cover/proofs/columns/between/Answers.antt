use Rattle.std.proofs.Common.{◌≡◌, ◌≤◌, ◌-◌, arith, length, get_or, [], nat_abs}
use Rattle.std.proofs.lemmas.Int.{ints}
use Rattle.lt_model.specs.Vectors.{minus}
use Rattle.lt_model.specs.Forms.{value}
use Rattle.lt_cover.proofs.Measures.{low_at, high_at}
use Rattle.lt_cover.proofs.Sums.{narrow}
use Rattle.lt_cover.proofs.columns.between.Goals as goal

pub gap-requires-clause-low : goal.gap-requires-clause-low
gap-requires-clause-low c = rw (c.vertex.ensures, c.vertex-2.ensures) (low_at (length c.args.class.now - 1) c.args.q.now c.args.class.now c.requires.measured c.args.i c.args.j c.requires.i c.requires.j)

pub returns-clause-low : goal.returns-clause-low
returns-clause-low c =
    let s = c.args.class.now in
    let q = c.args.q.now in
    let e : c.gap.result ≡ value q (minus (get_or s c.args.i []) (get_or s c.args.j [])) = rw (c.vertex.ensures, c.vertex-2.ensures) at c.gap.ensures in
    let a = low_at (length s - 1) q s c.requires.measured c.args.i c.args.j c.requires.i c.requires.j in
    let b = high_at (length s - 1) q s c.requires.measured c.args.i c.args.j c.requires.i c.requires.j in
    let small : nat_abs c.gap.result ≤ 4000 = omega (arith, ints, e, a, b) in
    let k = narrow c.gap.result small in
    omega (arith, ints, k, e, a)
