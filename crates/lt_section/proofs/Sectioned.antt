-- The filled normals of a section and the restricted normals, which are their fronts.
use Rattle.std.proofs.Common.{◌≡◌, ℕ, zero, suc, ℤ, pos, ◌*ℤ◌, ◌<ℤ◌, ◌-◌, ◌++◌, ◌<◌, ◌≤◌, refl, ap, arith, sym, ◌∙◌, subst, List, [], ◌∷◌, length, map, take, get_or}
use Rattle.std.proofs.lemmas.Int.{ints}
use Rattle.std.specs.List.{Contains}
use Rattle.std.proofs.lemmas.List.{length-map, get_or_default}
use Rattle.std.proofs.lemmas.List.Elements.{Contains-get_or}
use Rattle.lt_model.specs.Vectors.{scale, dot, zeros}
use Rattle.lt_model.specs.Forms.{numbers_of_form}
use Rattle.lt_model.specs.Limits.{weight}
use Rattle.lt_model.specs.Triangulations.{IsDelaunay}
use Rattle.lt_model.proofs.Excess.{dot-nil}
use Rattle.lt_model.proofs.Squares.{length-scale}
use Rattle.lt_model.proofs.Sets.{Contains-map}
use Rattle.lt_geometry.proofs.PrimitiveParts.{primitive_part}
use Rattle.lt_geometry.proofs.Regulators.{positive_at, has_regulator, from_multiple}
use Rattle.lt_tableau.specs.Errors.{AreOfDimension}
use Rattle.lt_lp.specs.Positive.{IsPositiveAt}
use Rattle.lt_laws.specs.Sections.{restricted, IsSectionNormal}
use Rattle.lt_section.specs.Filled.{filled, IsFilledNormal, AreFilledNormals}
use Rattle.lt_section.specs.Normals.{AreSectionNormals, filled_weight}
use Rattle.lt_section.proofs.Filling.{length-filled}
use Rattle.lt_section.proofs.Fronts.{IsFilledUp, front-filled, fronts_ascend, filled_fronts}

-- a restricted normal has a number for each form
pub normal_length : (d : ℕ) (t : List (List (List ℤ))) (fs : List (List ℤ)) (r : List ℤ) → IsSectionNormal d t fs r → length r ≡ length fs
normal_length d t fs r n = sym (length-scale (pos n.factor) r) ∙ ap length (sym n.multiple) ∙ length-map fs (dot n.regulator)

get_or-fronts : (m : ℕ) (ns : List (List ℤ)) (k : ℕ) → k < length ns → get_or (map (take m) ns) k [] ≡ take m (get_or ns k [])
get_or-fronts m [] k l = absurd (omega arith)
get_or-fronts m (x ∷ ns) zero l = refl
get_or-fronts m (x ∷ ns) (suc k) l = get_or-fronts m ns k (omega arith)

module _ (d : ℕ) (t : List (List (List ℤ))) (fs ns : List (List ℤ)) (h : AreFilledNormals d t fs ns) (few : length fs ≤ numbers_of_form d) where
  -- the restricted normals
  abbrev pub fronts : List (List ℤ)
  fronts = map (take (length fs)) ns

  own_front : (x r : List ℤ) → IsSectionNormal d t fs r → x ≡ filled (numbers_of_form d) r → take (length fs) x ≡ r
  own_front x r n e = ap (take (length fs)) e ∙ front-filled (length fs) (numbers_of_form d) r (normal_length d t fs r n)

  filled_up : (x : List ℤ) → Contains ns x → IsFilledUp (length fs) (numbers_of_form d) x
  filled_up x c = at ((h.members x).0 c)
    where
      at : IsFilledNormal d t fs x → IsFilledUp (length fs) (numbers_of_form d) x
      at (r, n, e) = let f = own_front x r n e in record { length_is = ap length f ∙ normal_length d t fs r n; is = e ∙ ap (filled (numbers_of_form d)) (sym f) }

  front_normal : (x : List ℤ) → Contains ns x → IsSectionNormal d t fs (take (length fs) x)
  front_normal x c = at ((h.members x).0 c)
    where
      at : IsFilledNormal d t fs x → IsSectionNormal d t fs (take (length fs) x)
      at (r, n, e) = subst (IsSectionNormal d t fs) (sym (own_front x r n e)) n

  pub count : length fronts ≡ length ns
  count = length-map ns (take (length fs))

  pub front_at : (k : ℕ) → k < length ns → get_or fronts k [] ≡ take (length fs) (get_or ns k [])
  front_at k l = get_or-fronts (length fs) ns k l

  -- the filled normal at a place
  pub at_place : (k : ℕ) → k < length ns → get_or ns k [] ≡ filled (numbers_of_form d) (get_or fronts k [])
  at_place k l = (filled_up (get_or ns k []) (Contains-get_or ns k [] l)).is ∙ ap (filled (numbers_of_form d)) (sym (front_at k l))

  pub normal_at : (k : ℕ) → k < length ns → IsSectionNormal d t fs (get_or fronts k [])
  normal_at k l = subst (IsSectionNormal d t fs) (sym (front_at k l)) (front_normal (get_or ns k []) (Contains-get_or ns k [] l))

  pub are_section_normals : AreSectionNormals d t fs fronts
  are_section_normals = record { ascending = fronts_ascend (length fs) (numbers_of_form d) ns filled_up h.ascending; members = λ r. (only r, held r) }
    where
      only : (r : List ℤ) → Contains fronts r → IsSectionNormal d t fs r
      only r (k, l, e) =
          let lk : k < length ns = (let c = count in omega (arith, l, c)) in
          subst (IsSectionNormal d t fs) (get_or_default fronts k [] r l ∙ e) (normal_at k lk)

      held : (r : List ℤ) → IsSectionNormal d t fs r → Contains fronts r
      held r n =
          let c = (h.members (filled (numbers_of_form d) r)).1 (r, n, refl) in
          subst (Contains fronts) (own_front (filled (numbers_of_form d) r) r n refl) (Contains-map (take (length fs)) ns (filled (numbers_of_form d) r) c)

  pub weight_same : filled_weight d fronts ≡ weight d ns
  weight_same = ap (weight d) (filled_fronts (length fs) (numbers_of_form d) ns filled_up)

  pub lengths : AreOfDimension d ns
  lengths k x l =
      ap length (get_or_default ns k x [] l ∙ at_place k l) ∙ length-filled (numbers_of_form d) (get_or fronts k []) (let e = normal_length d t fs (get_or fronts k []) (normal_at k l) in omega (arith, e, few))

  module _ (del : IsDelaunay d (get_or fs 0 []) t) (some : 0 < length fs) where
    -- the first number is the value at the first form, over a positive number
    first_positive : (r : List ℤ) → IsSectionNormal d t fs r → pos 0 <ℤ dot r (pos 1 ∷ [])
    first_positive r n = at fs r n.multiple (positive_at d (get_or fs 0 []) t del n.regulator n.is_regulator) some
      where
        at : (gs : List (List ℤ)) (r : List ℤ) → restricted gs n.regulator ≡ scale (pos n.factor) r → pos 0 <ℤ dot n.regulator (get_or gs 0 []) → 0 < length gs → pos 0 <ℤ dot r (pos 1 ∷ [])
        at [] r e p s = absurd (omega arith)
        at (g ∷ gs) [] e p s = absurd (let l = ap length e in omega (arith, l))
        at (g ∷ gs) (x ∷ r) e p s =
            let f : dot n.regulator g ≡ pos n.factor *ℤ x = ap (λ (y : List ℤ). get_or y 0 (pos 0)) e in
            let some_factor = n.some in
            let q : pos 0 <ℤ x = from_multiple (pos n.factor) x (omega (arith, ints, some_factor)) (subst (λ (z : ℤ). pos 0 <ℤ z) f p) in
            let z = dot-nil r in
            omega (arith, ints, q, z)

    pub positive_there : (form : List ℤ) × IsPositiveAt form ns
    positive_there = (pos 1 ∷ [], λ i l. subst (λ (x : List ℤ). pos 0 <ℤ dot x (pos 1 ∷ [])) (sym (at_place i l)) (more (get_or fronts i []) (numbers_of_form d) (first_positive (get_or fronts i []) (normal_at i l))))
      where
        more : (r : List ℤ) (n : ℕ) → pos 0 <ℤ dot r (pos 1 ∷ []) → pos 0 <ℤ dot (filled n r) (pos 1 ∷ [])
        more [] n p = absurd (omega (arith, ints, p))
        more (x ∷ r) n p = let a = dot-nil r in let b = dot-nil (r ++ zeros (n - length (x ∷ r))) in omega (arith, ints, a, b, p)

    -- there is a restricted normal
    pub some_normal : 0 < length ns
    some_normal =
        let g = has_regulator d (get_or fs 0 []) t del in
        let p = primitive_part (restricted fs g.0) (pos 1 ∷ []) (first fs g.0 (positive_at d (get_or fs 0 []) t del g.0 g.1) some) in
        let c = (h.members (filled (numbers_of_form d) p.n)).1 (p.n, record { regulator = g.0; is_regulator = g.1; primitive = p.primitive; factor = p.k; some = p.k_pos; multiple = p.is }, refl) in
        omega (arith, c.1)
      where
        first : (gs : List (List ℤ)) (n : List ℤ) → pos 0 <ℤ dot n (get_or gs 0 []) → 0 < length gs → pos 0 <ℤ dot (restricted gs n) (pos 1 ∷ [])
        first [] n p s = absurd (omega arith)
        first (g ∷ gs) n p s = let z = dot-nil (restricted gs n) in omega (arith, ints, p, z)
