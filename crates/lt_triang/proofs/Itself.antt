-- A facet doesn't lie across itself.
use Rattle.std.proofs.Common.{◌≡◌, ℕ, suc, ℤ, pos, ◌<ℤ◌, ◌<◌, ◌≤◌, ap, arith, ◌∙◌, subst, List, [], length, get_or}
use Rattle.std.proofs.lemmas.Int.{ints}
use Rattle.lt_model.proofs.Translates.{get-translate}
use Rattle.lt_model.specs.Facets.{number_at, without, IsBeyond}
use Rattle.lt_model.specs.Vectors.{plus, zeros, unit}
use Rattle.lt_model.specs.Simplices.{AllOfDimension, IsClass, translate}
use Rattle.lt_model.proofs.Dependent.{all_without}
use Rattle.lt_model.proofs.Flat.{number_at-unit_same}
use Rattle.lt_model.proofs.Points.{vertex_expression, get_dimension, minus_itself, plus-zeros}
use Rattle.lt_triang.specs.Across.{IsNotFacing}
use Rattle.lt_triang.proofs.Beyond.{negative_from}
use Rattle.lt_triang.proofs.Shifts.{count_without, only_shift}

pub not_itself : (d : ℕ) (s : List (List ℤ)) (i : ℕ) → 2 ≤ d → IsClass d s → i < suc d → IsNotFacing d s i s i
not_itself d s i low k h p f =
    let all : AllOfDimension d s = k.simplex.points in
    let some : 0 < length (without i s) = count_without d i s low k.simplex.count h in
    let la : length (get_or (without i s) 0 []) ≡ d = get_dimension d 0 (without i s) [] (all_without (λ v. length v ≡ d) i s all) some in
    let e : p ≡ zeros d = (only_shift d s i s i p all some f).0 ∙ minus_itself d (get_or (without i s) 0 []) la in
    let li : i < length s = omega (arith, k.simplex.count, h) in
    let v : List ℤ = get_or s i [] in
    let there : get_or (translate p s) i [] ≡ v = get-translate p i s [] [] li ∙ ap (plus v) e ∙ plus-zeros d v (get_dimension d i s [] all li) in
    let b : IsBeyond s i v = subst (λ (w : List ℤ). IsBeyond s i w) there f.beyond in
    let n : number_at i (unit (length s) i) <ℤ pos 0 = negative_from d s i v (pos 1) (unit (length s) i) k (vertex_expression d s i all li) b in
    absurd (omega (arith, ints, n, number_at-unit_same (length s) i li))
