use Rattle.std.proofs.Common.{◌∙◌}
use Rattle.lt_lattice.proofs.Inverses.{decided, refused}
use Rattle.lt_lattice.proofs.matrices.are_inverse.Goals as goal

pub returns-then-is_identity : goal.returns-then-is_identity
returns-then-is_identity c =
    let right = c.as_slice.ensures.value ∙ c.product.ensures.value in
    let left = c.as_slice-then-is_identity.ensures.value ∙ c.product-then-is_identity.ensures.value in
    decided c.args.d c.args.u.now c.args.v.now _ _ c.requires.left c.requires.right right c.is_identity.ensures _ _ left c.is_identity-then-is_identity.ensures c.if-is_identity.true

pub returns-else-is_identity : goal.returns-else-is_identity
returns-else-is_identity c =
    let right = c.as_slice.ensures.value ∙ c.product.ensures.value in
    refused c.args.d c.args.u.now c.args.v.now _ _ c.requires.left c.requires.right right c.is_identity.ensures c.if-is_identity.false
