use Rattle.std.proofs.Common.{rules}
use Rattle.lt_claim.proofs.Dealing.{splits}
use Rattle.lt_claim.proofs.claims.cut.Goals as goal

pub split_seat-requires : goal.split_seat-requires
split_seat-requires g c = (search rules, search rules, splits c.args.table.now.shared.key c.args.seat.now.id c.args.seat.now.me.0 g.N.Amount.amount (search rules))
