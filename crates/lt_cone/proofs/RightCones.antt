-- The regulators of a Delaunay triangulation have what the cone of a list asks, in the dimension that the triangulation tells.
use Rattle.std.proofs.Common.{◌≡◌, sym, subst, arith, ℕ, ◌<◌, ℤ, List, [], length, get_or}
use Rattle.std.proofs.lemmas.List.Elements.{Contains-get_or}
use Rattle.lt_model.specs.Forms.{numbers_of_form}
use Rattle.lt_model.specs.Simplices.{IsClass}
use Rattle.lt_model.specs.Triangulations.{IsDelaunay}
use Rattle.lt_model.specs.Walls.{AreRegulators}
use Rattle.lt_model.specs.Cones.{Row, normals, IsRightVerdict}
use Rattle.lt_triang.specs.Kept.{IsTriangulation}
use Rattle.lt_geometry.proofs.Fewness.{few_regulators}
use Rattle.lt_lp.proofs.Extreme.{AreDistinct}
use Rattle.lt_lp.proofs.RowSums.{IsConeReady, cone_ready}
use Rattle.lt_regulator.proofs.Distinct.{some_regulator, regulator_lengths, positive_at, regulator_rays}

-- a Delaunay triangulation in the dimension that it tells, with its regulators
pub record IsTold (e : ℕ) (q : List ℤ) (t : List (List (List ℤ))) (ns : List (List ℤ)) : Type 0 where
  pub delaunay : IsDelaunay e q t
  pub regulators : AreRegulators e t ns

pub dimension_is : (d e : ℕ) (q : List ℤ) (t : List (List (List ℤ))) → IsDelaunay d q t → IsTriangulation e t → e ≡ d
dimension_is d e q t k h =
    let s : IsClass e (get_or t 0 []) = h.classes (get_or t 0 []) (Contains-get_or t 0 [] h.occupied) in
    let m : IsClass d (get_or t 0 []) = ((k.members (get_or t 0 [])).0 (Contains-get_or t 0 [] k.occupied)).0 in
    omega (arith, s.simplex.count, m.simplex.count)

pub told : (d e : ℕ) (q : List ℤ) (t : List (List (List ℤ))) (ns : List (List ℤ)) → IsDelaunay d q t → IsTriangulation e t → AreRegulators d t ns → IsTold e q t ns
told d e q t ns k h r =
    let same = sym (dimension_is d e q t k h) in
    record { delaunay = subst (λ (m : ℕ). IsDelaunay m q t) same k; regulators = subst (λ (m : ℕ). AreRegulators m t ns) same r }

pub rows_ready : (d e : ℕ) (q : List ℤ) (t : List (List (List ℤ))) (ns : List (List ℤ)) (rows : List Row) → IsDelaunay d q t → IsTriangulation e t → AreRegulators d t ns → normals rows ≡ ns → ((k : ℕ) (r : Row) → k < length rows → IsRightVerdict d ns k (get_or rows k r).verdict) → IsConeReady e rows
rows_ready d e q t ns rows k h r names right =
    let it = told d e q t ns k h r in
    let dis : AreDistinct (numbers_of_form e) q ns = record {
      lengths = regulator_lengths e q t ns it.delaunay it.regulators;
      positive = positive_at e q t ns it.delaunay it.regulators;
      rays = regulator_rays e q t ns it.delaunay it.regulators;
    } in
    cone_ready e q ns rows h.low dis (some_regulator e q t ns it.delaunay it.regulators) (few_regulators e q t ns h.low h.high it.delaunay it.regulators) names
    (subst (λ (m : ℕ). (i : ℕ) (s : Row) → i < length rows → IsRightVerdict m ns i (get_or rows i s).verdict) (sym (dimension_is d e q t k h)) right)
