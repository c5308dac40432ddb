use Rattle.std.proofs.Common.{rules, arith, ◌≡◌, ◌∙◌, sym, FitsSigned, pos, ◌*ℤ◌, ◌+ℤ◌, ◌<ℤ◌}
use Rattle.std.specs.Int.{w128}
use Rattle.std.proofs.lemmas.Int.{to_z-of_z, ints}
use Rattle.lt_num.specs.Fractions.{Ratio, AreRests, IsSumWithin}
use Rattle.lt_num.proofs.Sums.{within_parts, sum_den, sum_answer}
use Rattle.lt_num.proofs.fraction.Fraction.add.Goals as goal

pub returns-in_err-left : goal.returns-in_err-left
returns-in_err-left c =
    let p : Ratio = record { num = c.self.inside.num; den = c.self.inside.den } in
    let q : Ratio = record { num = c.other.inside.num; den = c.other.inside.den } in
    let fa : FitsSigned w128 p.num = search rules in
    let fb : FitsSigned w128 p.den = search rules in
    let fe : FitsSigned w128 q.den = search rules in
    let fk : FitsSigned w128 c.rests-own.result.0 = search rules in
    let fl : FitsSigned w128 c.rests-own.result.1 = search rules in
    let k = c.rests-own.result.0 in
    let l = c.rests-own.result.1 in
    let r : AreRests p.den q.den k l = simp to_z-of_z at c.rests-own.ensures in
    let no : FitsSigned w128 (p.num *ℤ l) → ⊥ = simp to_z-of_z at c.in_err-left.ensures in
    let none : IsSumWithin c.args.self.now c.args.other.now → ⊥ = rw (← c.self.view_is, ← c.other.view_is) (λ (h : IsSumWithin p q). no (within_parts p q k l r h).0) in
    search rules

pub returns-in_err-right : goal.returns-in_err-right
returns-in_err-right c =
    let p : Ratio = record { num = c.self.inside.num; den = c.self.inside.den } in
    let q : Ratio = record { num = c.other.inside.num; den = c.other.inside.den } in
    let fb : FitsSigned w128 p.den = search rules in
    let fc : FitsSigned w128 q.num = search rules in
    let fe : FitsSigned w128 q.den = search rules in
    let fk : FitsSigned w128 c.rests-own.result.0 = search rules in
    let fl : FitsSigned w128 c.rests-own.result.1 = search rules in
    let k = c.rests-own.result.0 in
    let l = c.rests-own.result.1 in
    let r : AreRests p.den q.den k l = simp to_z-of_z at c.rests-own.ensures in
    let no : FitsSigned w128 (q.num *ℤ k) → ⊥ = simp to_z-of_z at c.in_err-right.ensures in
    let none : IsSumWithin c.args.self.now c.args.other.now → ⊥ = rw (← c.self.view_is, ← c.other.view_is) (λ (h : IsSumWithin p q). no (within_parts p q k l r h).1) in
    search rules

pub returns-in_err-sum : goal.returns-in_err-sum
returns-in_err-sum c =
    let p : Ratio = record { num = c.self.inside.num; den = c.self.inside.den } in
    let q : Ratio = record { num = c.other.inside.num; den = c.other.inside.den } in
    let fa : FitsSigned w128 p.num = search rules in
    let fb : FitsSigned w128 p.den = search rules in
    let fc : FitsSigned w128 q.num = search rules in
    let fe : FitsSigned w128 q.den = search rules in
    let fk : FitsSigned w128 c.rests-own.result.0 = search rules in
    let fl : FitsSigned w128 c.rests-own.result.1 = search rules in
    let k = c.rests-own.result.0 in
    let l = c.rests-own.result.1 in
    let r : AreRests p.den q.den k l = simp to_z-of_z at c.rests-own.ensures in
    let fx : FitsSigned w128 c.in_ok-left.left = search rules in
    let left : c.in_ok-left.left ≡ p.num *ℤ l = simp to_z-of_z at c.in_ok-left.ensures in
    let fy : FitsSigned w128 c.in_ok-right.right = search rules in
    let right : c.in_ok-right.right ≡ q.num *ℤ k = simp to_z-of_z at c.in_ok-right.ensures in
    let no : FitsSigned w128 (p.num *ℤ l +ℤ q.num *ℤ k) → ⊥ = rw (← left, ← right) (simp to_z-of_z at c.in_err-sum.ensures) in
    let none : IsSumWithin c.args.self.now c.args.other.now → ⊥ = rw (← c.self.view_is, ← c.other.view_is) (λ (h : IsSumWithin p q). no (within_parts p q k l r h).2) in
    search rules

pub returns-in_err-den : goal.returns-in_err-den
returns-in_err-den c =
    let p : Ratio = record { num = c.self.inside.num; den = c.self.inside.den } in
    let q : Ratio = record { num = c.other.inside.num; den = c.other.inside.den } in
    let fb : FitsSigned w128 p.den = search rules in
    let fe : FitsSigned w128 q.den = search rules in
    let fk : FitsSigned w128 c.rests-own.result.0 = search rules in
    let fl : FitsSigned w128 c.rests-own.result.1 = search rules in
    let k = c.rests-own.result.0 in
    let l = c.rests-own.result.1 in
    let r : AreRests p.den q.den k l = simp to_z-of_z at c.rests-own.ensures in
    let no : FitsSigned w128 (p.den *ℤ l) → ⊥ = simp to_z-of_z at c.in_err-den.ensures in
    let none : IsSumWithin c.args.self.now c.args.other.now → ⊥ = rw (← c.self.view_is, ← c.other.view_is) (λ (h : IsSumWithin p q). no (within_parts p q k l r h).3) in
    search rules

pub new-requires : goal.new-requires
new-requires c =
    let p : Ratio = record { num = c.self.inside.num; den = c.self.inside.den } in
    let q : Ratio = record { num = c.other.inside.num; den = c.other.inside.den } in
    let fb : FitsSigned w128 p.den = search rules in
    let fe : FitsSigned w128 q.den = search rules in
    let fk : FitsSigned w128 c.rests-own.result.0 = search rules in
    let fl : FitsSigned w128 c.rests-own.result.1 = search rules in
    let k = c.rests-own.result.0 in
    let l = c.rests-own.result.1 in
    let r : AreRests p.den q.den k l = simp to_z-of_z at c.rests-own.ensures in
    let fd : FitsSigned w128 c.in_ok-den.den = search rules in
    let den : c.in_ok-den.den ≡ p.den *ℤ l = simp to_z-of_z at c.in_ok-den.ensures in
    let some : pos 0 <ℤ (p.den *ℤ l) = sum_den p q k l r c.self.invariant c.other.invariant in
    simp to_z-of_z (λ (z : c.in_ok-den.den ≡ pos 0). absurd (let w : p.den *ℤ l ≡ pos 0 = sym den ∙ z in omega (arith, ints, w)))

pub returns : goal.returns
returns c =
    let p : Ratio = record { num = c.self.inside.num; den = c.self.inside.den } in
    let q : Ratio = record { num = c.other.inside.num; den = c.other.inside.den } in
    let fa : FitsSigned w128 p.num = search rules in
    let fb : FitsSigned w128 p.den = search rules in
    let fc : FitsSigned w128 q.num = search rules in
    let fe : FitsSigned w128 q.den = search rules in
    let fk : FitsSigned w128 c.rests-own.result.0 = search rules in
    let fl : FitsSigned w128 c.rests-own.result.1 = search rules in
    let k = c.rests-own.result.0 in
    let l = c.rests-own.result.1 in
    let r : AreRests p.den q.den k l = simp to_z-of_z at c.rests-own.ensures in
    let fx : FitsSigned w128 c.in_ok-left.left = search rules in
    let left : c.in_ok-left.left ≡ p.num *ℤ l = simp to_z-of_z at c.in_ok-left.ensures in
    let fy : FitsSigned w128 c.in_ok-right.right = search rules in
    let right : c.in_ok-right.right ≡ q.num *ℤ k = simp to_z-of_z at c.in_ok-right.ensures in
    let fs : FitsSigned w128 c.in_ok-sum.sum = search rules in
    let sum : c.in_ok-sum.sum ≡ p.num *ℤ l +ℤ q.num *ℤ k = rw (← left, ← right) (simp to_z-of_z at c.in_ok-sum.ensures) in
    let fd : FitsSigned w128 c.in_ok-den.den = search rules in
    let den : c.in_ok-den.den ≡ p.den *ℤ l = simp to_z-of_z at c.in_ok-den.ensures in
    let some : pos 0 <ℤ (p.den *ℤ l) = sum_den p q k l r c.self.invariant c.other.invariant in
    rw (← c.self.view_is, ← c.other.view_is) (sum_answer p q k l c.in_ok-left.left c.in_ok-right.right c.in_ok-sum.sum c.in_ok-den.den c.new.result r left right sum den fx fy fs fd (simp to_z-of_z at c.new.ensures.quotient) ((simp to_z-of_z at c.new.ensures.positive) (rw den some)))
