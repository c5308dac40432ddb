-- What the test of the weight shows, and what the rows of a section are made from.
use Rattle.std.proofs.Common.{◌≡◌, ℕ, ℤ, pos, ◌<◌, ◌≤◌, ◌^◌, arith, ap, sym, ◌∙◌, subst, true, false, List, [], length, get_or, map, take}
use Rattle.std.proofs.lemmas.Int.{ints, to_z-of_z}
use Rattle.std.proofs.lemmas.List.{length-map}
use Rattle.std.proofs.Math.Nat.{min-le_left}
use Rattle.std.specs.List.{All}
use mir.Val.{to_z, of_z}
use mir.Syntax.{w128}
use lib.Signed.{le_z}
use Rattle.lt_model.specs.Forms.{numbers_of_form}
use Rattle.lt_model.specs.Limits.{weight, weight_limit}
use Rattle.lt_model.specs.Triangulations.{IsDelaunay}
use Rattle.lt_lattice.specs.Ranges.{IsWithin}
use Rattle.lt_tableau.specs.Errors.{AreOfDimension}
use Rattle.lt_lp.specs.Positive.{IsPositiveAt}
use Rattle.lt_locate.specs.Edges.{AreEdges}
use Rattle.lt_locate.proofs.Bad.{edge_lengths}
use Rattle.lt_locate.proofs.Weighed.{heavy, fits}
use Rattle.lt_section.specs.declared.answers.SectionRow.{SectionRow}
use Rattle.lt_section.specs.declared.answers.SectionError.TheVariants.{Heavy}
use Rattle.lt_section.specs.Filled.{AreFilledNormals}
use Rattle.lt_section.specs.Normals.{AreSectionNormals, filled_weight, IsHeavySection}
use Rattle.lt_section.specs.Rows.{normals_of, IsRightVerdict, AreRightRows}
use Rattle.lt_section.specs.Decided.{IsInput, IsVerdictOn, AreVerdictsOn}
use Rattle.lt_section.proofs.Sectioned.{are_section_normals, weight_same, lengths, positive_there, some_normal}
use Rattle.lt_section.proofs.SectionWalls.{in_section, right_verdict}

light : (w : ℕ) → le_z (pos (2 ^ 112)) (pos w) ≡ false → w < weight_limit
light w e = omega (arith, ints, e)

module _ (d : ℕ) (t : List (List (List ℤ))) (fs ns now : List (List ℤ)) (h : AreFilledNormals d t fs ns) (few : length fs ≤ numbers_of_form d) (e : now ≡ ns) where
  pub all_lengths : AreOfDimension d now
  all_lengths = subst (AreOfDimension d) (sym e) (lengths d t fs ns h few)

  module _ (x : ℤ) (w : (n : ℕ) → AreOfDimension n now → x ≡ pos (weight n now)) where
    weight_is : x ≡ pos (weight d ns)
    weight_is = subst (λ (ms : List (List ℤ)). x ≡ pos (weight d ms)) e (w d all_lengths)

    kept : to_z w128 (of_z w128 x) ≡ pos (weight d ns)
    kept = rw weight_is (to_z-of_z w128 (pos (weight d ns)) (fits (weight d ns) (min-le_left (2 ^ 120) _)))

    pub heavy_there : le_z (pos (2 ^ 112)) (to_z w128 (of_z w128 x)) ≡ true → IsHeavySection d t fs (Heavy (to_z w128 (of_z w128 x)))
    heavy_there g =
        let same = weight_same d t fs ns h few in
        let l = heavy (weight d ns) (rw kept at g) in
        (_, are_section_normals d t fs ns h few, kept ∙ ap pos (sym same), omega (arith, l, same))

    pub light_there : le_z (pos (2 ^ 112)) (to_z w128 (of_z w128 x)) ≡ false → weight d ns < weight_limit
    light_there g = light (weight d ns) (rw kept at g)

  module _ (del : IsDelaunay d (get_or fs 0 []) t) (some : 0 < length fs) (all : All (λ q. length q ≡ numbers_of_form d) fs) where
    first_length : length (get_or now 0 []) ≡ numbers_of_form d
    first_length = all_lengths 0 [] (subst (λ (ms : List (List ℤ)). 0 < length ms) (sym e) (some_normal d t fs ns h few del some))

    all_positive : (form : List ℤ) × IsPositiveAt form now
    all_positive = let p = positive_there d t fs ns h few del some in (p.0, subst (IsPositiveAt p.0) (sym e) p.1)

    module _ (xs points : List (List ℤ)) (edges : AreEdges d t xs) (p : points ≡ xs) where
      -- what the rows are made from
      pub input : All (All (IsWithin 4096)) fs → weight d ns < weight_limit → IsInput fs now points
      input within l = record {
        normals = λ k x i. all_lengths k x i ∙ sym first_length;
        positive = all_positive;
        light = (d, all_lengths, subst (λ (ms : List (List ℤ)). weight d ms < weight_limit) (sym e) l);
        some = some;
        few = (let f = first_length in omega (arith, f, few));
        forms = λ k q i. all k q i ∙ sym first_length;
        within = within;
        points = subst (All (λ x. length (get_or now 0 []) ≡ numbers_of_form (length x))) (sym p) (edge_lengths d t xs edges (get_or fs 0 []) (get_or now 0 []) del first_length);
      }

      -- ---- the rows
      module _ (rows : List SectionRow) (names : normals_of rows ≡ map (take (length fs)) now) where
        named : normals_of rows ≡ map (take (length fs)) ns
        named = names ∙ ap (map (take (length fs))) e

        pub row_normals : AreSectionNormals d t fs (normals_of rows)
        row_normals = subst (AreSectionNormals d t fs) (sym named) (are_section_normals d t fs ns h few)

        pub row_weight : weight d ns < weight_limit → filled_weight d (normals_of rows) < weight_limit
        row_weight l =
            let same : filled_weight d (normals_of rows) ≡ weight d ns = ap (filled_weight d) named ∙ weight_same d t fs ns h few in
            omega (arith, l, same)

        pub row_verdicts : AreVerdictsOn fs now points rows → AreRightRows d t fs rows
        row_verdicts v k r l =
            let a : IsVerdictOn d fs ns points k (get_or rows k r).verdict = subst (λ (ms : List (List ℤ)). IsVerdictOn d fs ms points k (get_or rows k r).verdict) e (v d all_lengths k r l) in
            let b : IsVerdictOn d fs ns xs k (get_or rows k r).verdict = subst (λ (ps : List (List ℤ)). IsVerdictOn d fs ns ps k (get_or rows k r).verdict) p a in
            let c1 : length (normals_of rows) ≡ length rows = length-map rows (λ (x : SectionRow). x.normal.items) in
            let c2 : length (normals_of rows) ≡ length ns = ap length named ∙ length-map ns (take (length fs)) in
            subst (λ (rs : List (List ℤ)). IsRightVerdict d t fs rs k (get_or rows k r).verdict) (sym named) (right_verdict d t fs ns h few (in_section d t fs all some del) xs edges k (get_or rows k r).verdict (omega (arith, l, c1, c2)) b)
