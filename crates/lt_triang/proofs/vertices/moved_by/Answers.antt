use Rattle.std.proofs.Common.{arith, ◌≡◌, ◌^◌, true, false, sym, List, ℤ, subst}
use Rattle.std.specs.List.{All}
use Rattle.lt_lattice.specs.Ranges.{IsWithin}
use Rattle.lt_model.specs.Vectors.{plus}
use Rattle.lt_triang.proofs.Shifts.{each_moved}
use Rattle.lt_triang.proofs.vertices.moved_by.Goals as goal

clash : {P : Type 0} → false ≡ true → P
clash e =
    let bad : ⊥ = cc in
    absurd bad

pub returns-in-None-clause-within : goal.returns-in-None-clause-within
returns-in-None-clause-within c =
    (λ e. clash e, λ h. c.in-None.ensures.within.1 (subst (λ (v : List ℤ). All (IsWithin (2 ^ 20)) (plus v c.args.by.now)) (sym c.point-item.is) (each_moved (2 ^ 20) c.loop-point.point-index c.args.by.now c.args.points.now c.point-item.result h (omega arith))))
