-- A matrix has an inverse where some matrix takes the images of a simplex back.
use Rattle.std.proofs.Common.{◌≡◌, ◌<◌, ◌*◌, ◌↔◌, ℕ, suc, ℤ, Bool, ap, arith, sym, ◌∙◌, List, [], length, map, get_or}
use Rattle.std.specs.Prelude.{IsTrue, Option, Some, None, is_some, IfSome, MatchOption}
use Rattle.std.specs.List.{Contains}
use Rattle.std.proofs.lemmas.Bool.{false≢true}
use Rattle.std.proofs.lemmas.List.{get_or_default}
use Rattle.lt_model.specs.Matrices.{apply, times, identity, IsSquare, IsInverse}
use Rattle.lt_model.specs.Flat.{rows}
use Rattle.lt_model.specs.Simplices.{AllOfDimension, IsSimplex}
use Rattle.lt_model.proofs.Flat.{times_square, identity_square, rows_square}
use Rattle.lt_model.proofs.Points.{get_dimension}
use Rattle.lt_geometry.proofs.Matrices.{IsUndone, undone, apply-times, apply-identity}
use Rattle.lt_geometry.proofs.Motions.{length_of_member}
use Rattle.lt_geometry.proofs.Carried.{get-map}
use Rattle.lt_geometry.proofs.Candidates.{same_on_simplex}
use Rattle.lt_match.specs.Images.{TakesTo}

-- two matrices of which one takes the vertices where the other takes them back from
undoes : (d : ℕ) (u w s images : List (List ℤ)) → IsSquare d u → IsSquare d w → IsSimplex d images → TakesTo d u s images → TakesTo d w images s → times u w ≡ identity d
undoes d u w s images su sw h there back = same_on_simplex d images (times u w) (identity d) h (times_square d u w su sw) (identity_square d) each
  where
    each : (x : List ℤ) → Contains images x → apply (times u w) x ≡ apply (identity d) x
    each x (i, p, e) =
        let hi : i < suc d = omega (arith, p, h.count) in
        let is : get_or images i [] ≡ x = get_or_default images i [] x p ∙ e in
        let lx : length x ≡ d = length_of_member d images x h.points (i, p, e) in
        apply-times u w x ∙ ap (λ y. apply u (apply w y)) (sym is) ∙ ap (apply u) (back i hi) ∙ there i hi ∙ is ∙ sym (apply-identity d x lx)

pub inverse_from_back : (d : ℕ) (u w s images : List (List ℤ)) → IsSquare d u → IsSquare d w → IsSimplex d s → IsSimplex d images → TakesTo d u s images → TakesTo d w images s → IsInverse d u w
inverse_from_back d u w s images su sw hs hi there back = record { square = sw; right = undoes d u w s images su sw hi there back; left = undoes d w u images s sw su hs back there }

pub takes_images : (d : ℕ) (u s : List (List ℤ)) → length s ≡ suc d → TakesTo d u s (map (apply u) s)
takes_images d u s l = λ i hi. sym (get-map (apply u) s i [] [] (omega (arith, l, hi)))

pub back_from_inverse : (d : ℕ) (u v s : List (List ℤ)) → IsSquare d u → IsInverse d u v → length s ≡ suc d → AllOfDimension d s → TakesTo d v (map (apply u) s) s
back_from_inverse d u v s su h l all = λ i hi.
    let k : IsUndone d u v = undone d u v su h in
    ap (apply v) (sym (takes_images d u s l i hi)) ∙ k.left (get_or s i []) (get_dimension d i s [] all (omega (arith, l, hi)))

-- an answer tells whether there is a matrix
pub told_by : (d : ℕ) (points targets : List (List ℤ)) (r : Option (List ℤ)) (b : Bool) → b ≡ is_some r → IfSome r (λ u. length u ≡ d * d) → MatchOption r ((w : List (List ℤ)) → IsSquare d w → TakesTo d w points targets → ⊥) (λ u. TakesTo d (rows d u) points targets) →
    IsTrue b ↔ ((w : List (List ℤ)) × IsSquare d w × TakesTo d w points targets)
told_by d points targets None b e size h = ((λ t. absurd (false≢true (sym e ∙ t))), (λ (w, square, takes). absurd (h w square takes)))
told_by d points targets (Some u) b e size h = ((λ t. (rows d u, rows_square d u size, h)), (λ r. e))
