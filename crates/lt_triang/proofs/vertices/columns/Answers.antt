use Rattle.std.proofs.Common.{arith, ◌≡◌, ◌-◌, ◌*◌, length, ap, ◌∙◌}
use Rattle.lt_model.specs.Limits.{span_limit}
use Rattle.lt_model.specs.Flat.{flat, rows}
use Rattle.lt_lattice.specs.Ranges.{IsWithin}
use Rattle.lt_triang.specs.Flat.{columns_of}
use Rattle.lt_triang.proofs.Columned.{length-columns, All-flat, rows-columns}
use Rattle.lt_triang.proofs.Steps.{of_near}
use Rattle.lt_triang.proofs.vertices.columns.Goals as goal

pub of-requires-clause-square : goal.of-requires-clause-square
of-requires-clause-square c =
    let ps = c.args.points.now in
    ap length (c.as_slice.ensures.value ∙ c.differences.ensures) ∙ length-columns (length ps - 1) ps (omega (arith, c.requires.low)) c.requires.dimension

pub of-requires-clause-small : goal.of-requires-clause-small
of-requires-clause-small c =
    let ps = c.args.points.now in
    let d = length ps - 1 in
    let e : c.as_slice.result.now ≡ flat (columns_of ps) = c.as_slice.ensures.value ∙ c.differences.ensures in
    rw e (All-flat (IsWithin (2 * span_limit d)) (columns_of ps) (of_near (2 * span_limit d) ps c.requires.near))

pub returns : goal.returns
returns c =
    let ps = c.args.points.now in
    let d = length ps - 1 in
    c.of.ensures ∙ ap (rows d) (c.as_slice.ensures.value ∙ c.differences.ensures) ∙ rows-columns d ps (omega (arith, c.requires.low)) c.requires.dimension
