-- The restricted normals of the regulators, sorted and each once, are those of the triangulation.
use Rattle.std.proofs.Common.{◌≡◌, ℕ, ℤ, pos, ◌<ℤ◌, ◌<◌, ◌≤◌, ◌^◌, ap, arith, sym, ◌∙◌, subst, List, [], length, get_or, ◌↔◌}
use Rattle.std.specs.List.{All, Contains}
use Rattle.std.specs.List.Sorted.{IsStrictlySortedBy}
use Rattle.std.proofs.lemmas.List.{get_or_default}
use Rattle.std.proofs.lemmas.List.Elements.{Contains-get_or}
use Rattle.lt_model.specs.Order.{number_list_cmp}
use Rattle.lt_model.specs.Vectors.{scale, dot, IsPrimitive}
use Rattle.lt_model.specs.Forms.{numbers_of_form}
use Rattle.lt_model.specs.Limits.{weight, weight_limit}
use Rattle.lt_model.specs.Triangulations.{IsDelaunay}
use Rattle.lt_model.specs.Walls.{AreRegulators}
use Rattle.lt_model.proofs.Vectors.{dot-scale}
use Rattle.lt_model.proofs.Squares.{length-scale}
use Rattle.lt_geometry.proofs.Primitive.{same_primitive}
use Rattle.lt_lattice.specs.Ranges.{IsBelow}
use Rattle.lt_tableau.proofs.Bounds.{normals_small}
use Rattle.lt_regulator.proofs.Distinct.{regulator_lengths, positive_at}
use Rattle.lt_laws.specs.Sections.{restricted}
use Rattle.lt_section.specs.Filled.{filled, AreFilledOf, IsFilledNormal, AreFilledNormals}

-- the primitive list of which another is a multiple is one
pub one_primitive : (f g : ℕ) (v r s : List ℤ) → 0 < f → 0 < g → v ≡ scale (pos f) r → v ≡ scale (pos g) s → IsPrimitive r → IsPrimitive s → r ≡ s
one_primitive f g v r s pf pg er es pr ps =
    same_primitive f g r s pf pg (sym (length-scale (pos f) r) ∙ ap length (sym er ∙ es) ∙ length-scale (pos g) s) pr ps (λ u. sym (dot-scale u (pos f) r) ∙ ap (dot u) (sym er ∙ es) ∙ dot-scale u (pos g) s)

module _ (d : ℕ) (a : List ℤ) (t : List (List (List ℤ))) (fs regs now : List (List ℤ)) (k : IsDelaunay d a t) (r : AreRegulators d t regs) (e : now ≡ regs) where
  pub enough_numbers : length fs ≤ numbers_of_form d → All (λ n. length fs ≤ length n) now
  enough_numbers h = subst (λ (ms : List (List ℤ)). All (λ n. length fs ≤ length n) ms) (sym e) (λ i x l. (let q = regulator_lengths d a t regs k r i x l in omega (arith, q, h)))

  pub same_numbers : All (λ q. length q ≡ numbers_of_form d) fs → All (λ n. All (λ q. length n ≡ length q) fs) now
  same_numbers h = subst (λ (ms : List (List ℤ)). All (λ n. All (λ q. length n ≡ length q) fs) ms) (sym e) (λ i x l j y m. regulator_lengths d a t regs k r i x l ∙ sym (h j y m))

  pub all_small : ((ns : List (List ℤ)) → AreRegulators d t ns → weight d ns < weight_limit) → All (All (IsBelow (2 ^ 56))) now
  all_small h = subst (λ (ms : List (List ℤ)). All (All (IsBelow (2 ^ 56))) ms) (sym e) (normals_small d regs (h regs r))

  pub all_positive : All (λ n. pos 0 <ℤ dot n a) now
  all_positive = subst (λ (ms : List (List ℤ)). All (λ n. pos 0 <ℤ dot n a) ms) (sym e) (λ i x l. subst (λ (n : List ℤ). pos 0 <ℤ dot n a) (get_or_default regs i [] x l) (positive_at d a t regs k r i l))

  -- one filled list for each
  pub are_filled : (all ns : List (List ℤ)) → AreFilledOf fs now all (length now) → IsStrictlySortedBy number_list_cmp ns → ((x : List ℤ) → Contains ns x ↔ Contains all x) → AreFilledNormals d t fs ns
  are_filled all ns filled_now up same = record { ascending = up; members = λ x. (λ c. only x ((same x).0 c), λ n. (same x).1 (held x n)) }
    where
      h : AreFilledOf fs regs all (length regs)
      h = subst (λ (ms : List (List ℤ)). AreFilledOf fs ms all (length ms)) e filled_now

      numbers : (i : ℕ) → i < length regs → length (get_or regs i []) ≡ numbers_of_form d
      numbers i l = regulator_lengths d a t regs k r i [] l

      only : (x : List ℤ) → Contains all x → IsFilledNormal d t fs x
      only x (i, l, f) =
          let li : i < length regs = (let c = h.count in omega (arith, l, c)) in
          let o = h.each i li in
          let is : x ≡ filled (numbers_of_form d) o.short = sym (get_or_default all i [] x l ∙ f) ∙ o.is ∙ ap (λ (n : ℕ). filled n o.short) (numbers i li) in
          (o.short, record { regulator = get_or regs i []; is_regulator = (r.members (get_or regs i [])).0 (Contains-get_or regs i [] li); primitive = o.primitive; factor = o.factor; some = o.some; multiple = o.multiple }, is)

      held : (x : List ℤ) → IsFilledNormal d t fs x → Contains all x
      held x (s, n, f) = at ((r.members n.regulator).1 n.is_regulator)
        where
          at : Contains regs n.regulator → Contains all x
          at (i, l, g) =
              let o = h.each i l in
              let here : get_or regs i [] ≡ n.regulator = get_or_default regs i [] n.regulator l ∙ g in
              let one : o.short ≡ s = one_primitive o.factor n.factor (restricted fs n.regulator) o.short s o.some n.some (ap (restricted fs) (sym here) ∙ o.multiple) n.multiple o.primitive n.primitive in
              let is : get_or all i [] ≡ x = o.is ∙ ap (λ (m : ℕ). filled m o.short) (numbers i l) ∙ ap (filled (numbers_of_form d)) one ∙ sym f in
              let la : i < length all = (let c = h.count in omega (arith, l, c)) in
              subst (Contains all) is (Contains-get_or all i [] la)
