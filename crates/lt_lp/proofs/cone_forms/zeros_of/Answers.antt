use Rattle.std.proofs.Common.{arith, ◌≡◌, ◌∙◌, sym, ap, ℤ, length}
use Rattle.lt_model.proofs.Opposite.{length-zeros}
use Rattle.lt_lp.proofs.WallSums.{zeros_more}
use Rattle.lt_lp.proofs.cone_forms.zeros_of.Goals as goal

pub push-requires : goal.push-requires
push-requires c =
    let l : length c.loop.all.items ≡ c.loop.counter = ap (length {A = ℤ}) c.loop.invariant ∙ length-zeros c.loop.counter in
    omega arith

pub loop-preserved : goal.loop-preserved
loop-preserved c = c.push.ensures.items ∙ rw c.loop.invariant (sym (zeros_more c.loop.counter))
