use Rattle.std.proofs.Common.{sym, ◌∙◌, arith}
use Rattle.ltypes.proofs.Openings.{one_more_open, as_many_open}
use Rattle.ltypes.proofs.turns.count_open.Goals.{then-is_open, else-is_open}
use Rattle.ltypes.proofs.turns.count_open.Goals as goal

pub loop-position-preserved : goal.loop-position-preserved
loop-position-preserved c =
    let a = c.args.atlas.now in
    let p = c.loop-position.position in
    let value = c.loop-position.invariant.value in
    let within = c.loop-position.invariant.within in
    elim c.if-is_open.branch [
      | then-is_open w ↦
          let more = one_more_open a p (sym c.standing.ensures ∙ c.is_open.ensures.0 w.if-is_open.true) in
          record { value = omega (arith, w.count-is, value, more); within = omega (arith, w.count-is, within) }
      | else-is_open w ↦
          let same = as_many_open a p (λ e. let t = c.is_open.ensures.1 (c.standing.ensures ∙ e) in let f = w.if-is_open.false in cc (t, f)) in
          record { value = omega (arith, w.count-is, value, same); within = omega (arith, w.count-is, within) }
    ]
