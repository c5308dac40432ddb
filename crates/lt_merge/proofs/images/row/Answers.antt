use Rattle.std.proofs.Common.{arith, ◌≡◌, sym, ◌+◌, ◌*◌, ◌-◌}
use Rattle.lt_model.proofs.Flat.{get-first_rows}
use Rattle.lt_merge.proofs.images.row.Goals as goal

pub returns : goal.returns
returns c =
    let d = c.args.d in
    let count : c.args.i * d + d - c.args.i * d ≡ d = omega arith in
    rw count (sym (get-first_rows d d c.args.i c.args.numbers.now c.requires.place))
