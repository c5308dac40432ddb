use Rattle.std.specs.Prelude.{◌≡◌}
use Rattle.std.specs.Cmp.Lexicographic.{pointwise}
use Rattle.lt_model.specs.Cones.{Cone}
use Rattle.lt_lp.specs.Same.{same_numbers, same_row, cone_decides, first_decides, second_decides}
use Rattle.lt_lp.proofs.copies.ConePartialEq.eq.Goals as goal

pub returns-then-eq-clause-same : goal.returns-then-eq-clause-same
returns-then-eq-clause-same c =
    let r : Cone = record { rows = c.self.inside.rows.items; form = c.self.inside.form } in
    let s : Cone = record { rows = c.other.inside.rows.items; form = c.other.inside.form } in
    let mine : r ≡ c.args.self.now = c.self.view_is in
    let theirs : s ≡ c.args.other.now = c.other.view_is in
    rw (mine, theirs) at (second_decides (pointwise same_row r.rows s.rows) (same_numbers r.form s.form) (cone_decides r s) c.eq.result c.eq-then-eq.result c.eq.ensures c.if-eq.true c.eq-then-eq.ensures)

pub returns-else-eq-clause-same : goal.returns-else-eq-clause-same
returns-else-eq-clause-same c =
    let r : Cone = record { rows = c.self.inside.rows.items; form = c.self.inside.form } in
    let s : Cone = record { rows = c.other.inside.rows.items; form = c.other.inside.form } in
    let mine : r ≡ c.args.self.now = c.self.view_is in
    let theirs : s ≡ c.args.other.now = c.other.view_is in
    rw (mine, theirs) at (first_decides (pointwise same_row r.rows s.rows) (same_numbers r.form s.form) (cone_decides r s) c.eq.result c.eq.ensures c.if-eq.false)
