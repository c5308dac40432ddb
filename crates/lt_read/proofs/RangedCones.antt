-- The numbers of a right cone are in the ranges of its text.
use Rattle.std.proofs.Common.{◌≡◌, ℕ, suc, ℤ, pos, nat_abs, ◌+ℤ◌, ◌*ℤ◌, ◌*◌, ◌^◌, ◌<◌, ◌≤◌, refl, sym, ap, ◌∙◌, subst, arith, List, [], ◌∷◌, length, get_or, mul-le-mul}
use Rattle.std.specs.List.{All, AllByRecursion}
use Rattle.std.proofs.lemmas.Int.{ints, unsigned_abs-mul}
use Rattle.std.proofs.lemmas.List.{get_or-map, length-map}
use Rattle.std.proofs.lemmas.List.Elements.{recursion_from_All, All-head, All-tail, Contains-get_or}
use Rattle.lt_model.specs.Cones.{Verdict, wall, combination, Row, Cone, AreBelow, normals, coefficients, places, wall_or_none, sum_of_walls, IsRightVerdict, IsRightCone}
use Rattle.lt_model.specs.Forms.{numbers_of_form}
use Rattle.lt_model.specs.Padded.{lookup}
use Rattle.lt_model.specs.Vectors.{plus}
use Rattle.lt_model.specs.Walls.{IsRegulator}
use Rattle.lt_model.specs.Atlases.{Classes}
use Rattle.lt_model.proofs.Squares.{length-scale}
use Rattle.lt_core.proofs.Crossings.{HasForm}
use Rattle.lt_core.proofs.FewFacets.{few_rows}
use Rattle.lt_geometry.proofs.Regulators.{has_regulator, regulators_positive}
use Rattle.lt_lp.proofs.WallSums.{small_at, long_sum, below_from, lookup_zeros}
use Rattle.lt_tableau.proofs.Bounds.{normals_small}
use Rattle.lt_tableau.proofs.Sums.{lookup_plus, lookup_scale}
use Rattle.lt_scan.specs.Reading as scan
use Rattle.lt_grammar.specs.Ranges.{TermFits, VerdictFits, RowFits, RowsFit, FormFits, ConeFits}

-- ---- sums of walls

sum_most : (m : ℕ) (rows : List Row) → ((k : ℕ) (r : Row) (w : List ℤ) → k < length rows → (get_or rows k r).verdict ≡ wall w → AreBelow (2 ^ 62) w) → (q : ℕ) → nat_abs (lookup (sum_of_walls m rows) q) ≤ length rows * 2 ^ 62
sum_most m [] h q = rw (lookup_zeros m q) (omega arith)
sum_most m (r ∷ rows) h q = at r.verdict (λ w e. h 0 r w (omega arith) e) (sum_most m rows (λ k s w l e. h (suc k) s w (omega (arith, l)) e) q)
  where
    at : (v : Verdict) → ((w : List ℤ) → v ≡ wall w → AreBelow (2 ^ 62) w) → nat_abs (lookup (sum_of_walls m rows) q) ≤ length rows * 2 ^ 62 → nat_abs (lookup (plus (wall_or_none v) (sum_of_walls m rows)) q) ≤ length (r ∷ rows) * 2 ^ 62
    at (combination f ts) g l = omega (arith, l)
    at (wall w) g l =
        let a = small_at w (g w refl) q in
        let b = lookup_plus w (sum_of_walls m rows) q in
        sum (lookup w q) (lookup (sum_of_walls m rows) q) (lookup (plus w (sum_of_walls m rows)) q) (length rows) a l b
      where
        sum : (x y z : ℤ) (n : ℕ) → nat_abs x < 2 ^ 62 → nat_abs y ≤ n * 2 ^ 62 → z ≡ x +ℤ y → nat_abs z ≤ suc n * 2 ^ 62
        sum x y z n h k e = omega (arith, ints, h, k, e)

-- a number of a list of which a multiple is small
factor_small : (f : ℕ) (x : ℤ) (m : ℕ) → 0 < f → nat_abs (pos f *ℤ x) ≤ m → nat_abs x ≤ m
factor_small f x m some h =
    let e = unsigned_abs-mul (pos f) x in
    let up : 1 * nat_abs x ≤ f * nat_abs x = mul-le-mul some (same (nat_abs x)) in
    omega (arith, h, e, up)
  where
    same : (n : ℕ) → n ≤ n
    same n = omega arith

module _ (d : ℕ) (t : Classes) (c : Cone) (low : 2 ≤ d) (high : d ≤ 6) (form : HasForm d t) (h : IsRightCone d t c) where
  abbrev ns : List (List ℤ)
  ns = normals c.rows

  abbrev n : ℕ
  n = numbers_of_form d

  count : length ns ≡ length c.rows
  count = length-map c.rows (λ (r : Row). r.normal)

  normal_at : (k : ℕ) (r : Row) → k < length c.rows → get_or ns k [] ≡ (get_or c.rows k r).normal
  normal_at k r l = get_or-map (λ (r : Row). r.normal) c.rows k r [] l

  normal_fits : (k : ℕ) (r : Row) → k < length c.rows → scan.AreBelow (2 ^ 56) n (get_or c.rows k r).normal
  normal_fits k r l =
      let here : k < length ns = omega (arith, l, count) in
      let reg : IsRegulator d t (get_or ns k []) = (h.regulators.members (get_or ns k [])).0 (Contains-get_or ns k [] here) in
      subst (scan.AreBelow (2 ^ 56) n) (normal_at k r l) ((regulators_positive d form.0 t (get_or ns k []) form.1 reg).1, recursion_from_All (scan.IsBelow (2 ^ 56)) (get_or ns k []) (normals_small d ns h.light k [] here))

  verdict_fits : (k : ℕ) (normal : List ℤ) (v : Verdict) → IsRightVerdict d ns k v → scan.AreBelow (2 ^ 56) n normal → VerdictFits d (length c.rows) normal v
  verdict_fits k normal (wall w) r a = (a, (r.numbers, recursion_from_All (scan.IsBelow (2 ^ 62)) w r.below))
  verdict_fits k normal (combination f ts) r a =
      (a, (All-head (scan.IsBelow (2 ^ 62)) f (coefficients ts) r.below, ((omega arith, r.few), terms ts r.within (All-tail (scan.IsBelow (2 ^ 62)) f (coefficients ts) r.below))))
    where
      terms : (ts : List (ℕ × ℤ)) → All (λ i. i < length ns) (places ts) → All (scan.IsBelow (2 ^ 62)) (coefficients ts) → AllByRecursion (TermFits (length c.rows)) ts
      terms [] a b = tt
      terms (x ∷ ts) a b =
          let first : x.0 < length ns = All-head (λ i. i < length ns) x.0 (places ts) a in
          ((omega (arith, first, count), All-head (scan.IsBelow (2 ^ 62)) x.1 (coefficients ts) b), terms ts (All-tail (λ i. i < length ns) x.0 (places ts) a) (All-tail (scan.IsBelow (2 ^ 62)) x.1 (coefficients ts) b))

  some_row : 1 ≤ length c.rows
  some_row =
      let r = has_regulator d form.0 t form.1 in
      let m = (h.regulators.members r.0).1 r.1 in
      let l = m.1 in
      omega (arith, l, count)

  rows_fit : RowsFit d c.rows
  rows_fit = (
    (some_row, few_rows d t c low high form h),
    recursion_from_All (RowFits d (length c.rows)) c.rows (λ k r l. verdict_fits k (get_or c.rows k r).normal (get_or c.rows k r).verdict (h.verdicts k r l) (normal_fits k r l)),
  )

  wall_below : (k : ℕ) (r : Row) (w : List ℤ) → k < length c.rows → (get_or c.rows k r).verdict ≡ wall w → (length w ≡ n) × AreBelow (2 ^ 62) w
  wall_below k r w l e = let x = subst (IsRightVerdict d ns k) e (h.verdicts k r l) in (x.numbers, x.below)

  form_long : length c.form ≡ n
  form_long = sym (length-scale (pos h.factor) c.form) ∙ ap length (sym h.sum) ∙ long_sum n c.rows (λ k r w l e. (wall_below k r w l e).0)

  form_fits : FormFits d c.form
  form_fits = (form_long, recursion_from_All (scan.IsBelow (2 ^ 92)) c.form (below_from (2 ^ 92) c.form each))
    where
      each : (q : ℕ) → nat_abs (lookup c.form q) < 2 ^ 92
      each q =
          let a = sum_most n c.rows (λ k r w l e. (wall_below k r w l e).1) q in
          let b : lookup (sum_of_walls n c.rows) q ≡ pos h.factor *ℤ lookup c.form q = ap (λ (xs : List ℤ). lookup xs q) h.sum ∙ lookup_scale (pos h.factor) c.form q in
          let m : nat_abs (pos h.factor *ℤ lookup c.form q) ≤ length c.rows * 2 ^ 62 = subst (λ (z : ℤ). nat_abs z ≤ length c.rows * 2 ^ 62) b a in
          let x = factor_small h.factor (lookup c.form q) (length c.rows * 2 ^ 62) h.some m in
          let few = few_rows d t c low high form h in
          let most : length c.rows * 2 ^ 62 ≤ 2 ^ 29 * 2 ^ 62 = mul-le-mul few (same (2 ^ 62)) in
          omega (arith, x, most)
        where
          same : (n : ℕ) → n ≤ n
          same n = omega arith

  pub cone_fits : ConeFits d c
  cone_fits = (rows_fit, form_fits)
