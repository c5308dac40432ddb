-- The image of a facet under a matrix that carries its triangulation onto an entry: it is a facet of that entry, and it is small.
use Rattle.std.proofs.Common.{◌≡◌, ℕ, ℤ, ◌<◌, ◌≤◌, ◌*◌, ◌^◌, ◌∙◌, refl, ap, arith, sym, subst, List, [], ◌∷◌, length, map, nat_abs}
use Rattle.std.proofs.lemmas.Int.{ints, int_wrap_fits}
use Rattle.std.proofs.lemmas.List.{get_or_default}
use Rattle.std.proofs.lemmas.List.Elements.{All-head, All-tail}
use Rattle.std.specs.List.{All, Contains}
use Rattle.std.specs.Int.{int_wrap}
use mir.Syntax.{w128}
use Rattle.lt_model.specs.Cones.{IsRightCone, normals}
use Rattle.lt_model.specs.Flat.{rows}
use Rattle.lt_model.specs.Forms.{numbers_of_form}
use Rattle.lt_model.specs.Matrices.{apply}
use Rattle.lt_model.specs.Walls.{IsAcross, IsFacet}
use Rattle.lt_model.specs.Atlases.{Atlas, Entry, entry_at, facets, facet_at}
use Rattle.lt_model.specs.Logs.{IsKept}
use Rattle.lt_model.proofs.Flat.{length-first_rows}
use Rattle.lt_lattice.specs.Ranges.{IsBelow}
use Rattle.lt_geometry.proofs.Induced.{induced}
use Rattle.lt_geometry.proofs.Regulated.{length-regulator}
use Rattle.lt_laws.specs.Carried.{IsNormalAlong}
use Rattle.lt_laws.proofs.CarriedNormals.{facets_carried}
use Rattle.lt_lp.proofs.ConeFacets.{facets_exact}
use Rattle.lt_tableau.proofs.Bounds.{normals_small}
use Rattle.lt_core.specs.Marks.{side, matrix_rows}
use Rattle.lt_core.proofs.FewFacets.{few_marks}
use Rattle.lt_core.proofs.Standing.{side_of}
use Rattle.lt_merge.specs.Images.{IsOnto, IsImage}
use Rattle.lt_merge.proofs.Along.{along_once}

-- small numbers stay what they are modulo 2^128
wrapped_small : (xs : List ℤ) → All (IsBelow (2 ^ 56)) xs → map (int_wrap w128) xs ≡ xs
wrapped_small [] h = refl
wrapped_small (x ∷ xs) h =
    let b : nat_abs x < 2 ^ 56 = All-head (IsBelow (2 ^ 56)) x xs h in
    let e : int_wrap w128 x ≡ x = int_wrap_fits w128 x (omega (arith, ints, b)) in
    let r = wrapped_small xs (All-tail (IsBelow (2 ^ 56)) x xs h) in
    ap (λ z. z ∷ map (int_wrap w128) xs) e ∙ ap (λ (zs : List ℤ). x ∷ zs) r

-- the numbers of a facet of a right cone are small
facet_small : (d : ℕ) (e : Entry) (n : List ℤ) → IsRightCone d e.triangulation e.cone → IsFacet d e.triangulation n → All (IsBelow (2 ^ 56)) n
facet_small d e n right facet =
    let ns : List (List ℤ) = normals e.cone.rows in
    let at : Contains ns n = (right.regulators.members n).1 facet.1.regulator in
    let small = normals_small d ns right.light at.0 [] at.1 in
    subst (λ (x : List ℤ). All (IsBelow (2 ^ 56)) x) (get_or_default ns at.0 [] n at.1 ∙ at.2) small

-- an entry has fewer than 2^32 facets
pub few_facets : (a : Atlas) → 2 ≤ a.dimension → a.dimension ≤ 6 → IsKept (IsAcross a.dimension) a → (j : ℕ) → j < length a.entries → length (facets (entry_at a.entries j)) < 2 ^ 32
few_facets a low high kept j l =
    let parts = kept.right.parts in
    let lists = parts.lists in
    let few = few_marks a.dimension a.entries a.marks low high parts j (omega (arith, l, lists)) in
    let each = parts.each j l in
    omega (arith, few, each)

module _ (a : Atlas) (kept : IsKept (IsAcross a.dimension) a) (j : ℕ) (v : List (List ℤ)) (n : List ℤ) (onto : IsOnto a j v n) where
  pub normal_long : length n ≡ numbers_of_form a.dimension
  normal_long = length-regulator a.dimension onto.from n onto.classes onto.facet.1.regulator

  -- the facet that is along the matrix
  carried : (m : List ℤ) × IsNormalAlong a.dimension v n m × IsFacet a.dimension (entry_at a.entries j).triangulation m
  carried = facets_carried a.dimension v onto.from (entry_at a.entries j).triangulation n onto.classes onto.carries onto.facet

  right : IsRightCone a.dimension (entry_at a.entries j).triangulation (entry_at a.entries j).cone
  right = (kept.right.parts.entries j onto.present).cone

  pub image : List ℤ
  image = carried.0

  -- it is one of the facets
  pub image_there : Contains (facets (entry_at a.entries j)) image
  unfolding image
  image_there = (facets_exact a.dimension (entry_at a.entries j).triangulation (entry_at a.entries j).cone right carried.0).0 carried.2

  pub is_image : (g : ℕ) → g < length (facets (entry_at a.entries j)) → facet_at a.entries (j, g) ≡ image → IsImage a j v n g
  unfolding image
  is_image g l e = record { within = l; along = subst (λ (x : List ℤ). IsNormalAlong a.dimension v n x) (sym e) carried.1 }

  -- it is known by its numbers modulo 2^128
  wrapped_image : map (int_wrap w128) (apply (induced v) n) ≡ image
  unfolding image
  wrapped_image =
      ap (map (int_wrap w128)) (sym (along_once a.dimension v n carried.0 onto.carries.square carried.1))
      ∙ wrapped_small carried.0 (facet_small a.dimension (entry_at a.entries j) carried.0 right carried.2)

-- the matrix has as many rows as the atlas has dimensions
side_is : (a : Atlas) (j : ℕ) (u : List ℤ) (n : List ℤ) → IsOnto a j (matrix_rows u) n → side (length u) ≡ a.dimension
side_is a j u n onto = sym (length-first_rows (side (length u)) (side (length u)) u) ∙ onto.carries.square.rows

pub square : (a : Atlas) (j : ℕ) (u : List ℤ) (n : List ℤ) → IsOnto a j (matrix_rows u) n → (r d : ℕ) → 2 ≤ r → r ≤ 6 → length u ≡ r * r → d ≡ a.dimension → length u ≡ d * d
square a j u n onto r d low high e same =
    let rows_are : r ≡ d = sym (ap side e ∙ side_of r low high) ∙ side_is a j u n onto ∙ sym same in
    e ∙ ap (λ (k : ℕ). k * k) rows_are

-- so the numbers may be computed modulo 2^128
pub image_items : (a : Atlas) (kept : IsKept (IsAcross a.dimension) a) (j : ℕ) (u : List ℤ) (n : List ℤ) (onto : IsOnto a j (matrix_rows u) n) (d : ℕ) (items : List ℤ) → d ≡ a.dimension → items ≡ map (int_wrap w128) (apply (induced (rows d u)) n) →
    items ≡ image a kept j (matrix_rows u) n onto
image_items a kept j u n onto d items same e =
    e ∙ ap (λ (k : ℕ). map (int_wrap w128) (apply (induced (rows k u)) n)) (same ∙ sym (side_is a j u n onto)) ∙ wrapped_image a kept j (matrix_rows u) n onto
