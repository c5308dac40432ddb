use Rattle.std.proofs.Common.{◌∙◌, sym, ap, length, ◌+◌, ◌≡◌}
use Rattle.lt_claim.specs.Dealt.{share}
use Rattle.lt_claim.proofs.Dealing.{closes}
use Rattle.lt_claim.proofs.claims.Claims.close.Goals as goal

pub returns-clause-ok : goal.returns-clause-ok
returns-clause-ok c =
    let t = c.args.self.table in
    let p = c.args.pass in
    let whole : share p.seat.me.0 ≡ t.shared.key = ap (λ n. length p.seat.me.0.drawn + n) p.counted ∙ c.requires.whole ∙ sym c.args.self.key in
    closes t.shared.key p.seat.id p.seat.me.0 _ _ c.word-count.result c.close_with-closed.ensures.values.2 c.word-count.ensures whole
