use Rattle.std.proofs.Common.{arith, ◌<◌, ◌^◌, w64}
use Rattle.std.proofs.lemmas.Int.{to_z_pos}
use Rattle.lt_num.proofs.Gcds.{made_divided, made_same}
use Rattle.lt_num.proofs.primitive_short.Goals as goal
use Rattle.lt_num.proofs.primitive_short.Goals.{then-g-gt1, else-g-gt1}

pub returns : goal.returns
returns c =
    let h : c.common_of_short-g.result < 2 ^ 63 = omega arith in
    let e = to_z_pos w64 c.common_of_short-g.result h in
    rw e (elim c.if-g-gt1.branch [
      | then-g-gt1 w ↦ rw w.list-is (made_divided _ _ c.common_of_short-g.result (omega arith) c.common_of_short-g.ensures.divisor (rw e at w.divide_each_short.ensures))
      | else-g-gt1 w ↦ rw w.list-is (made_same _ c.common_of_short-g.result (omega arith) c.common_of_short-g.ensures.divisor)
    ])
