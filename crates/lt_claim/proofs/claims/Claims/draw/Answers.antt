use Rattle.std.proofs.Common.{rules}
use Rattle.lt_claim.proofs.Dealing.{draws}
use Rattle.lt_claim.proofs.claims.Claims.draw.Goals as goal

pub fetch_add-number-requires : goal.fetch_add-number-requires
fetch_add-number-requires c = (search rules, search rules, draws c.args.self.now.table.shared.key c.args.self.now.table.shared.table_id.slots c.args.pass.now.seat.id c.args.pass.now.seat.me (search rules))
