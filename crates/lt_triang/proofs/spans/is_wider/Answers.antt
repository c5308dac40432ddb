use Rattle.std.proofs.Common.{arith, ◌≡◌, ◌≤◌, ◌+◌, ◌/◌, ℕ, ℤ, List, length, true, false, sym, ◌∙◌}
use Rattle.std.specs.List.{All}
use Rattle.lt_model.specs.Limits.{class_span}
use Rattle.lt_model.specs.Simplices.{AllOfDimension}
use Rattle.lt_model.proofs.Sets.{each_holds}
use Rattle.lt_lattice.specs.Ranges.{IsWithin}
use Rattle.lt_triang.specs.Bounds.{AreWithin, AreNear}
use Rattle.lt_triang.proofs.Gaps.{class_span_from_near}
use Rattle.lt_triang.proofs.Shifts.{within_minus}
use Rattle.lt_triang.proofs.spans.is_wider.Goals as goal

-- points with coordinates of at most m differ by at most twice that
near : (d m : ℕ) (s : List (List ℤ)) → AllOfDimension d s → AreWithin m s → AreNear (m + m) s
near d m s all w x y cx cy =
    within_minus m m x y (each_holds (λ v. length v ≡ d) s x all cx ∙ sym (each_holds (λ v. length v ≡ d) s y all cy)) (each_holds (All (IsWithin m)) s x w cx) (each_holds (All (IsWithin m)) s y w cy)

narrow : (d m : ℕ) (s : List (List ℤ)) → AllOfDimension d s → AreWithin (m / 2) s → class_span s ≤ m
narrow d m s all w = omega (arith, class_span_from_near (m / 2 + m / 2) s (near d (m / 2) s all w))

clash : {P : Type 0} → false ≡ true → P
clash e =
    let bad : ⊥ = cc in
    absurd bad

pub returns-then-are_small : goal.returns-then-are_small
returns-then-are_small c =
    let small : class_span c.args.points.now ≤ c.args.limit = narrow c.args.d c.args.limit c.args.points.now c.requires (c.are_small.ensures.0 c.if-are_small.true) in
    (λ e. clash e, λ h. absurd (omega (arith, h, small)))
