use Rattle.std.proofs.Common.{arith, ◌≡◌, ◌-◌, length, subst, ℕ, List, ℤ}
use Rattle.lt_triang.specs.Flat.{IsClassAt, IsFlat}
use Rattle.lt_principal.proofs.Members.{class_at_own, not_flat}
use Rattle.lt_principal.proofs.triangulations.class_with.Goals as goal

pub unreachable-requires : goal.unreachable-requires
unreachable-requires c =
    let e : length c.args.points.now - 1 ≡ c.args.d = omega (arith, c.requires.class.simplex.count) in
    not_flat c.args.d c.args.points.now c.in-Err.field-0 c.requires.class (subst (λ (n : ℕ). IsFlat n c.args.points.now c.in-Err.field-0) e c.in-Err.ensures.flat)

pub returns : goal.returns
returns c =
    let e : length c.args.points.now - 1 ≡ c.args.d = omega (arith, c.requires.class.simplex.count) in
    class_at_own c.args.d c.args.points.now c.in-Ok.class c.in-Ok._least c.requires.class (subst (λ (n : ℕ). IsClassAt n c.args.points.now c.in-Ok.class c.in-Ok._least) e c.in-Ok.ensures.class)
