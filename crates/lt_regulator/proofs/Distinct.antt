-- The regulators of a Delaunay triangulation are one list: normals of forms, positive at the form and on different rays.
use Rattle.std.proofs.Common.{◌≡◌, ◌≢◌, sym, ◌∙◌, ap, subst, arith, ℕ, zero, suc, ◌<◌, ◌≤◌, ℤ, pos, ◌<ℤ◌, List, [], ◌∷◌, length, get_or}
use Rattle.std.specs.List.{All, Contains}
use Rattle.std.proofs.lemmas.List.{get_or_default}
use Rattle.std.proofs.lemmas.List.Elements.{Contains-get_or}
use native.Mathlib.Decide.{dec_le}
use Rattle.lt_model.specs.Vectors.{scale, dot}
use Rattle.lt_model.specs.Forms.{numbers_of_form}
use Rattle.lt_model.specs.Order.{number_list_cmp}
use Rattle.lt_model.specs.Triangulations.{IsDelaunay}
use Rattle.lt_model.specs.Walls.{AreRegulators, IsRegulator}
use Rattle.lt_model.proofs.Sets.{number_list_cmp_total, same_members}
use Rattle.lt_model.proofs.Vectors.{dot-scale}
use Rattle.lt_geometry.proofs.Primitive.{same_primitive}
use Rattle.lt_geometry.proofs.Regulators.{regulators_positive, has_regulator}
use Rattle.lt_geometry.proofs.Rearranged.{IsDistinct}
use Rattle.lt_geometry.proofs.Sorting.{sorted_is_distinct}

-- the regulators are one list
pub one_list : (d : ℕ) (t : List (List (List ℤ))) (ns ms : List (List ℤ)) → AreRegulators d t ns → AreRegulators d t ms → ns ≡ ms
one_list d t ns ms a b = same_members number_list_cmp number_list_cmp_total ns ms a.ascending b.ascending (λ n. ((λ c. (b.members n).1 ((a.members n).0 c)), (λ c. (a.members n).1 ((b.members n).0 c))))

apart_at : (xs : List (List ℤ)) → IsDistinct xs → (i j : ℕ) → i < j → j < length xs → get_or xs i [] ≡ get_or xs j [] → ⊥
apart_at [] a i j h l e = absurd (omega arith)
apart_at (x ∷ xs) a i zero h l e = absurd (omega arith)
apart_at (x ∷ xs) a zero (suc j) h l e = a.0 (subst (Contains xs) (sym e) (Contains-get_or xs j [] (omega arith)))
apart_at (x ∷ xs) a (suc i) (suc j) h l e = apart_at xs a.1 i j (omega arith) (omega arith) e

module _ (d : ℕ) (q : List ℤ) (t : List (List (List ℤ))) (ns : List (List ℤ)) (k : IsDelaunay d q t) (r : AreRegulators d t ns) where
  regulator_at : (i : ℕ) → i < length ns → IsRegulator d t (get_or ns i [])
  regulator_at i l = (r.members (get_or ns i [])).0 (Contains-get_or ns i [] l)

  pub some_regulator : 0 < length ns
  some_regulator =
      let h = has_regulator d q t k in
      let c = (r.members h.0).1 h.1 in
      omega (arith, c.1)

  pub regulator_lengths : All (λ x. length x ≡ numbers_of_form d) ns
  regulator_lengths i x l = ap (length {A = ℤ}) (get_or_default ns i x [] l) ∙ (regulators_positive d q t (get_or ns i []) k (regulator_at i l)).1

  pub positive_at : (i : ℕ) → i < length ns → pos 0 <ℤ dot (get_or ns i []) q
  positive_at i l = (regulators_positive d q t (get_or ns i []) k (regulator_at i l)).2

  differ : (i j : ℕ) → i < length ns → j < length ns → i ≢ j → get_or ns i [] ≡ get_or ns j [] → Dec (i ≤ j) → ⊥
  differ i j li lj ne e (yes h) = apart_at ns (sorted_is_distinct number_list_cmp number_list_cmp_total ns r.ascending) i j (omega (arith, ne)) lj e
  differ i j li lj ne e (no h) = apart_at ns (sorted_is_distinct number_list_cmp number_list_cmp_total ns r.ascending) j i (omega arith) li (sym e)

  -- primitive, so no two lie on one ray
  pub regulator_rays : (i j : ℕ) → i < length ns → j < length ns → i ≢ j → (g h : ℕ) → 0 < g → 0 < h → scale (pos g) (get_or ns i []) ≢ scale (pos h) (get_or ns j [])
  regulator_rays i j li lj ne g h pg ph e =
      let a : List ℤ = get_or ns i [] in
      let b : List ℤ = get_or ns j [] in
      let same : a ≡ b = same_primitive g h a b pg ph (regulator_lengths i [] li ∙ sym (regulator_lengths j [] lj)) (regulators_positive d q t a k (regulator_at i li)).0 (regulators_positive d q t b k (regulator_at j lj)).0 (λ u. sym (dot-scale u (pos g) a) ∙ ap (dot u) e ∙ dot-scale u (pos h) b) in
      differ i j li lj ne same (dec_le i j)
