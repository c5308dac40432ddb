use Rattle.std.proofs.Common.{refl, ◌≡◌}
use Rattle.lt_model.specs.Principal.{principal_rows}
use Rattle.lt_principal.proofs.Rows.{rows_below}
use Rattle.lt_geometry.proofs.Closed.{length-rows}
use Rattle.lt_principal.proofs.form.principal_form.Goals as goal

pub of-requires-clause-count : goal.of-requires-clause-count
of-requires-clause-count c =
    let e : c.as_slice.result.now ≡ principal_rows c.args.d c.args.d = cc in
    rw (e, length-rows c.args.d c.args.d) refl

pub of-requires-clause-below : goal.of-requires-clause-below
of-requires-clause-below c =
    let e : c.as_slice.result.now ≡ principal_rows c.args.d c.args.d = cc in
    rw e (rows_below c.args.d c.args.d c.requires.high)
