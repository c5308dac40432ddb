use Rattle.std.proofs.Common.{rules}
use Rattle.lt_claim.proofs.Dealing.{joins, looks}
use Rattle.lt_claim.proofs.claims.Claims.join.Goals as goal

pub join_seat-requires : goal.join_seat-requires
join_seat-requires c = (search rules, search rules, search rules, search rules, joins c.args.self.now.table.shared.key c.args.pass.now.seat.id c.args.pass.now.seat.me.0 c.args.other.seat.id c.args.other.seat.me.0)

pub load-requires : goal.load-requires
load-requires c = (search rules, search rules, looks c.args.self.now.table.shared.key c.args.self.now.table.shared.table_id.slots c.join_seat.new.seat.id c.join_seat.new.seat.me)
