use Rattle.std.proofs.Common.{rules, ◌≡◌, FitsSigned, ◌*ℤ◌}
use Rattle.std.specs.Int.{w128}
use Rattle.std.proofs.lemmas.Int.{to_z-of_z}
use Rattle.lt_num.specs.Fractions.{Ratio, AreRests, IsProduct, IsTooLarge}
use Rattle.lt_num.proofs.Sums.{product_is, product_too_large}
use Rattle.lt_num.proofs.fraction.Fraction.mul.Goals as goal

pub returns-in_err-num : goal.returns-in_err-num
returns-in_err-num c =
    let p : Ratio = record { num = c.self.inside.num; den = c.self.inside.den } in
    let q : Ratio = record { num = c.other.inside.num; den = c.other.inside.den } in
    let fa : FitsSigned w128 p.num = search rules in
    let fb : FitsSigned w128 p.den = search rules in
    let fc : FitsSigned w128 q.num = search rules in
    let fe : FitsSigned w128 q.den = search rules in
    let x = c.rests-own_num.result.0 in
    let w = c.rests-own_num.result.1 in
    let y = c.rests-rest_num.result.0 in
    let z = c.rests-rest_num.result.1 in
    let fx : FitsSigned w128 c.rests-own_num.result.0 = search rules in
    let fw : FitsSigned w128 c.rests-own_num.result.1 = search rules in
    let fy : FitsSigned w128 c.rests-rest_num.result.0 = search rules in
    let fz : FitsSigned w128 c.rests-rest_num.result.1 = search rules in
    let r : AreRests p.num q.den x w = simp to_z-of_z at c.rests-own_num.ensures in
    let s : AreRests q.num p.den y z = simp to_z-of_z at c.rests-rest_num.ensures in
    let no : FitsSigned w128 (x *ℤ y) → ⊥ = simp to_z-of_z at c.in_err-num.ensures in
    let none : IsTooLarge (c.args.self.now.num *ℤ c.args.other.now.num) (c.args.self.now.den *ℤ c.args.other.now.den) = rw (← c.self.view_is, ← c.other.view_is) (product_too_large p q x w y z c.self.invariant c.other.invariant r s (λ f _. no f)) in
    search rules

pub returns-in_err-den : goal.returns-in_err-den
returns-in_err-den c =
    let p : Ratio = record { num = c.self.inside.num; den = c.self.inside.den } in
    let q : Ratio = record { num = c.other.inside.num; den = c.other.inside.den } in
    let fa : FitsSigned w128 p.num = search rules in
    let fb : FitsSigned w128 p.den = search rules in
    let fc : FitsSigned w128 q.num = search rules in
    let fe : FitsSigned w128 q.den = search rules in
    let x = c.rests-own_num.result.0 in
    let w = c.rests-own_num.result.1 in
    let y = c.rests-rest_num.result.0 in
    let z = c.rests-rest_num.result.1 in
    let fx : FitsSigned w128 c.rests-own_num.result.0 = search rules in
    let fw : FitsSigned w128 c.rests-own_num.result.1 = search rules in
    let fy : FitsSigned w128 c.rests-rest_num.result.0 = search rules in
    let fz : FitsSigned w128 c.rests-rest_num.result.1 = search rules in
    let r : AreRests p.num q.den x w = simp to_z-of_z at c.rests-own_num.ensures in
    let s : AreRests q.num p.den y z = simp to_z-of_z at c.rests-rest_num.ensures in
    let no : FitsSigned w128 (z *ℤ w) → ⊥ = simp to_z-of_z at c.in_err-den.ensures in
    let none : IsTooLarge (c.args.self.now.num *ℤ c.args.other.now.num) (c.args.self.now.den *ℤ c.args.other.now.den) = rw (← c.self.view_is, ← c.other.view_is) (product_too_large p q x w y z c.self.invariant c.other.invariant r s (λ _ f. no f)) in
    search rules

pub invariant_of-result : goal.invariant_of-result
invariant_of-result c =
    let p : Ratio = record { num = c.self.inside.num; den = c.self.inside.den } in
    let q : Ratio = record { num = c.other.inside.num; den = c.other.inside.den } in
    let fa : FitsSigned w128 p.num = search rules in
    let fb : FitsSigned w128 p.den = search rules in
    let fc : FitsSigned w128 q.num = search rules in
    let fe : FitsSigned w128 q.den = search rules in
    let x = c.rests-own_num.result.0 in
    let w = c.rests-own_num.result.1 in
    let y = c.rests-rest_num.result.0 in
    let z = c.rests-rest_num.result.1 in
    let fx : FitsSigned w128 c.rests-own_num.result.0 = search rules in
    let fw : FitsSigned w128 c.rests-own_num.result.1 = search rules in
    let fy : FitsSigned w128 c.rests-rest_num.result.0 = search rules in
    let fz : FitsSigned w128 c.rests-rest_num.result.1 = search rules in
    let r : AreRests p.num q.den x w = simp to_z-of_z at c.rests-own_num.ensures in
    let s : AreRests q.num p.den y z = simp to_z-of_z at c.rests-rest_num.ensures in
    let fn : FitsSigned w128 c.in_ok-num.num = search rules in
    let num : c.in_ok-num.num ≡ x *ℤ y = simp to_z-of_z at c.in_ok-num.ensures in
    let fd : FitsSigned w128 c.in_ok-den.den = search rules in
    let den : c.in_ok-den.den ≡ z *ℤ w = simp to_z-of_z at c.in_ok-den.ensures in
    simp to_z-of_z (rw (num, den) (product_is p q x w y z c.self.invariant c.other.invariant r s).reduced)

pub returns : goal.returns
returns c =
    let p : Ratio = record { num = c.self.inside.num; den = c.self.inside.den } in
    let q : Ratio = record { num = c.other.inside.num; den = c.other.inside.den } in
    let fa : FitsSigned w128 p.num = search rules in
    let fb : FitsSigned w128 p.den = search rules in
    let fc : FitsSigned w128 q.num = search rules in
    let fe : FitsSigned w128 q.den = search rules in
    let x = c.rests-own_num.result.0 in
    let w = c.rests-own_num.result.1 in
    let y = c.rests-rest_num.result.0 in
    let z = c.rests-rest_num.result.1 in
    let fx : FitsSigned w128 c.rests-own_num.result.0 = search rules in
    let fw : FitsSigned w128 c.rests-own_num.result.1 = search rules in
    let fy : FitsSigned w128 c.rests-rest_num.result.0 = search rules in
    let fz : FitsSigned w128 c.rests-rest_num.result.1 = search rules in
    let r : AreRests p.num q.den x w = simp to_z-of_z at c.rests-own_num.ensures in
    let s : AreRests q.num p.den y z = simp to_z-of_z at c.rests-rest_num.ensures in
    let fn : FitsSigned w128 c.in_ok-num.num = search rules in
    let num : c.in_ok-num.num ≡ x *ℤ y = simp to_z-of_z at c.in_ok-num.ensures in
    let fd : FitsSigned w128 c.in_ok-den.den = search rules in
    let den : c.in_ok-den.den ≡ z *ℤ w = simp to_z-of_z at c.in_ok-den.ensures in
    let is : IsProduct p q (record { num = c.in_ok-num.num; den = c.in_ok-den.den }) = rw (num, den) (product_is p q x w y z c.self.invariant c.other.invariant r s) in
    simp to_z-of_z (rw (← c.self.view_is, ← c.other.view_is) is)
