use Rattle.std.specs.Prelude.{◌≡◌}
use Rattle.lt_model.specs.Cones.{Row}
use Rattle.lt_lp.specs.Verdicts.{verdict_of}
use Rattle.lt_lp.specs.Same.{same_numbers, same_verdict, row_decides, first_decides, second_decides}
use Rattle.lt_lp.proofs.copies.RowPartialEq.eq.Goals as goal

pub returns-then-eq-clause-same : goal.returns-then-eq-clause-same
returns-then-eq-clause-same c =
    let r : Row = record { normal = c.self.inside.normal; verdict = verdict_of c.self.inside.verdict } in
    let s : Row = record { normal = c.other.inside.normal; verdict = verdict_of c.other.inside.verdict } in
    let mine : r ≡ c.args.self.now = c.self.view_is in
    let theirs : s ≡ c.args.other.now = c.other.view_is in
    rw (mine, theirs) at (second_decides (same_numbers r.normal s.normal) (same_verdict r.verdict s.verdict) (row_decides r s) c.eq.result c.eq-then-eq.result c.eq.ensures c.if-eq.true c.eq-then-eq.ensures.value)

pub returns-else-eq-clause-same : goal.returns-else-eq-clause-same
returns-else-eq-clause-same c =
    let r : Row = record { normal = c.self.inside.normal; verdict = verdict_of c.self.inside.verdict } in
    let s : Row = record { normal = c.other.inside.normal; verdict = verdict_of c.other.inside.verdict } in
    let mine : r ≡ c.args.self.now = c.self.view_is in
    let theirs : s ≡ c.args.other.now = c.other.view_is in
    rw (mine, theirs) at (first_decides (same_numbers r.normal s.normal) (same_verdict r.verdict s.verdict) (row_decides r s) c.eq.result c.eq.ensures c.if-eq.false)
