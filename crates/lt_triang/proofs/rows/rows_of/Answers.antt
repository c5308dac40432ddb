use Rattle.std.proofs.Common.{◌≡◌, ap, Err}
use Rattle.lt_triang.specs.declared.errors.TriangError.TheVariants.{OpenFacet}
use Rattle.lt_triang.proofs.Rowed.{rows_pushed, first_open}
use Rattle.lt_triang.proofs.rows.rows_of.Goals as goal

pub returns-in-Err-row_of-clause-open : goal.returns-in-Err-row_of-clause-open
returns-in-Err-row_of-clause-open c = λ class facet e.
    let h : c.in-Err-row_of.why ≡ OpenFacet class facet = cc in
    let k = c.in-Err-row_of.ensures.open class facet (ap Err h) in
    first_open c.args.d c.args.classes.now c.loop-n.n class facet c.loop-n.rows.items c.loop-n-test.true c.loop-n.invariant k.0 k.1

pub loop-n-preserved : goal.loop-n-preserved
loop-n-preserved c =
    rw c.in-Ok-push.ensures.items (rows_pushed c.args.d c.args.classes.now c.loop-n.n c.loop-n.rows.items c.in-Ok-row_of.row c.loop-n.invariant c.in-Ok-row_of.ensures.row)
