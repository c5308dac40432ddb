-- The normals of the wall rows of a right cone are exactly the facets.
use Rattle.std.proofs.Common.{◌≡◌, ◌≢◌, ◌↔◌, ℕ, zero, suc, ℤ, pos, ◌*ℤ◌, ◌<ℤ◌, ◌≤ℤ◌, ◌<◌, true, refl, ap, arith, sym, ◌∙◌, subst, List, [], ◌∷◌, length, get_or, map, inl, inr}
use Rattle.std.proofs.lemmas.Int.{ints}
use Rattle.std.proofs.lemmas.List.{length-map, get_or_default}
use Rattle.std.specs.List.{Contains, AllByRecursion}
use Rattle.std.specs.List.Sorted.{IsStrictlySortedBy}
use Rattle.std.specs.declared.cmp.Ordering.{Ordering}
use Rattle.std.specs.declared.cmp.Ordering.TheVariants.{Less}
use Rattle.std.specs.Cmp.{IsTotalOrder}
use Rattle.lt_model.specs.Order.{number_list_cmp}
use Rattle.lt_model.specs.Vectors.{scale, dot, combine}
use Rattle.lt_model.specs.Walls.{IsRegulator, IsWallForm, IsFacet}
use Rattle.lt_model.specs.Cones.{Verdict, wall, combination, Row, Cone, normals, coefficients, places, IsRightWall, IsRightCombination, IsRightVerdict, IsRightCone}
use Rattle.lt_model.specs.Atlases.{facet_if, facets_of}
use Rattle.lt_model.specs.Padded.{lookup}
use Rattle.lt_lp.specs.Facets.{has_wall}
use Rattle.lt_lp.proofs.FromZeros.{lookup_from_zeros, dot_from_zeros}
use Rattle.lt_lp.proofs.RowSums.{not_primitive}
use Rattle.lt_tableau.proofs.Sums.{lookup_none, lookup_scale}
use Rattle.lt_model.proofs.Dependent.{zero_or_not, mul-not_zero}
use Rattle.lt_model.proofs.Vectors.{dot_comm, dot-scale}
use Rattle.lt_model.proofs.Excess.{dot-combine}
use Rattle.std.proofs.lemmas.List.Elements.{recursion_from_All}
use Rattle.lt_model.proofs.Sets.{Contains-head, Contains-tail, Contains-cases, Contains-none, each_holds, never_below_itself, number_list_cmp_total}
use Rattle.lt_model.proofs.Inequalities.{mul_pos_z}

-- ---- distinct places of an ascending list hold distinct members

pub one_place : {A : Type 0} (R : A → A → Ordering) (o : IsTotalOrder R) (xs : List A) (i k : ℕ) (d : A) → IsStrictlySortedBy R xs → i < length xs → k < length xs → get_or xs i d ≡ get_or xs k d → i ≡ k
unfolding IsStrictlySortedBy
one_place R o [] i k d s hi hk e = absurd (omega arith)
one_place R o (x ∷ xs) zero zero d s hi hk e = refl
one_place R o (x ∷ xs) zero (suc k) d s hi hk e =
    let l : R x (get_or xs k d) ≡ Less = each_holds (λ z. R x z ≡ Less) xs (get_or xs k d) s.0 (k, omega arith, get_or_default xs k (get_or xs k d) d (omega arith)) in
    absurd (never_below_itself R o x (subst (λ z. R x z ≡ Less) (sym e) l))
one_place R o (x ∷ xs) (suc i) zero d s hi hk e =
    let l : R x (get_or xs i d) ≡ Less = each_holds (λ z. R x z ≡ Less) xs (get_or xs i d) s.0 (i, omega arith, get_or_default xs i (get_or xs i d) d (omega arith)) in
    absurd (never_below_itself R o x (subst (λ z. R x z ≡ Less) e l))
one_place R o (x ∷ xs) (suc i) (suc k) d s hi hk e = ap suc (one_place R o xs i k d s.1 (omega arith) (omega arith) e)

-- ---- the rows of walls

pub record IsWallRow (rows : List Row) (n : List ℤ) (k : ℕ) (w : List ℤ) : Type 0 where
  pub within : k < length rows
  pub normal : (r : Row) → (get_or rows k r).normal ≡ n
  pub verdict : (r : Row) → (get_or rows k r).verdict ≡ wall w

wall_row_more : (r : Row) (rows : List Row) (n : List ℤ) (k : ℕ) (w : List ℤ) → IsWallRow rows n k w → IsWallRow (r ∷ rows) n (suc k) w
wall_row_more r rows n k w h = record { within = (let x : k < length rows = h.within in omega arith); normal = h.normal; verdict = h.verdict }

pub wall_row : (rows : List Row) (n : List ℤ) → Contains (facets_of rows) n → (k : ℕ) × (w : List ℤ) × IsWallRow rows n k w
wall_row [] n h = Contains-none n h
wall_row (r ∷ rows) n h = by_verdict (λ c. let x = wall_row rows n c in (suc x.0, x.1, wall_row_more r rows n x.0 x.1 x.2)) r.verdict refl h
  where
    by_verdict : (Contains (facets_of rows) n → (k : ℕ) × (w : List ℤ) × IsWallRow (r ∷ rows) n k w) → (v : Verdict) → r.verdict ≡ v → Contains (facet_if v r.normal (facets_of rows)) n → (k : ℕ) × (w : List ℤ) × IsWallRow (r ∷ rows) n k w
    by_verdict later (wall w) e c =
        elim (Contains-cases r.normal (facets_of rows) n c) [
          | inl s ↦ (0, w, record { within = omega arith; normal = λ z. s; verdict = λ z. e })
          | inr s ↦ later s
        ]
    by_verdict later (combination f ts) e c = later c

pub row_of_wall : (rows : List Row) (k : ℕ) (d : Row) (w : List ℤ) → k < length rows → (get_or rows k d).verdict ≡ wall w → Contains (facets_of rows) (get_or rows k d).normal
row_of_wall [] k d w h e = absurd (omega arith)
row_of_wall (r ∷ rows) zero d w h e =
    subst (λ (v : Verdict). Contains (facet_if v r.normal (facets_of rows)) r.normal) (sym e) (Contains-head r.normal (facets_of rows))
row_of_wall (r ∷ rows) (suc k) d w h e = more r.verdict (row_of_wall rows k d w (omega arith) e)
  where
    more : (v : Verdict) → Contains (facets_of rows) (get_or rows k d).normal → Contains (facet_if v r.normal (facets_of rows)) (get_or rows k d).normal
    more (wall x) c = Contains-tail r.normal (facets_of rows) (get_or rows k d).normal c
    more (combination f ts) c = c

pub normals_at : (rows : List Row) (k : ℕ) (d : Row) → k < length rows → get_or (normals rows) k [] ≡ (get_or rows k d).normal
normals_at [] k d h = absurd (omega arith)
normals_at (r ∷ rows) zero d h = refl
normals_at (r ∷ rows) (suc k) d h = normals_at rows k d (omega arith)

contains_at : {A : Type 0} (xs : List A) (k : ℕ) (d x : A) → k < length xs → get_or xs k d ≡ x → Contains xs x
contains_at xs k d x h e = (k, h, get_or_default xs k x d h ∙ e)

-- ---- a combination is no facet

sum_not_negative : (g : ℕ → ℤ) (terms : List (ℕ × ℤ)) → AllByRecursion (λ i. pos 0 <ℤ g i) (places terms) → AllByRecursion (λ x. pos 0 <ℤ x) (coefficients terms) → pos 0 ≤ℤ dot (coefficients terms) (map g (places terms))
sum_not_negative g [] a b = omega (arith, ints)
sum_not_negative g (t ∷ terms) a b =
    let h = sum_not_negative g terms a.1 b.1 in
    let k : pos 0 <ℤ (t.1 *ℤ g t.0) = mul_pos_z t.1 (g t.0) b.0 a.0 in
    omega (arith, ints)

sum_positive : (g : ℕ → ℤ) (terms : List (ℕ × ℤ)) → AllByRecursion (λ i. pos 0 <ℤ g i) (places terms) → AllByRecursion (λ x. pos 0 <ℤ x) (coefficients terms) → 0 < length terms → pos 0 <ℤ dot (coefficients terms) (map g (places terms))
sum_positive g [] a b l = absurd (omega arith)
sum_positive g (t ∷ terms) a b l =
    let h = sum_not_negative g terms a.1 b.1 in
    let k : pos 0 <ℤ (t.1 *ℤ g t.0) = mul_pos_z t.1 (g t.0) b.0 a.0 in
    omega (arith, ints)

dots_at : (w : List ℤ) (ns : List (List ℤ)) (is : List ℕ) → map (dot w) (map (λ i. get_or ns i []) is) ≡ map (λ i. dot w (get_or ns i [])) is
dots_at w ns [] = refl
dots_at w ns (i ∷ is) = ap (λ l. dot w (get_or ns i []) ∷ l) (dots_at w ns is)

zero_factor : (f x : ℤ) → pos 0 <ℤ f → f *ℤ x ≡ pos 0 → x ≡ pos 0
zero_factor f x p e = elim (zero_or_not x) [ inl z ↦ z | inr n ↦ absurd (mul-not_zero f x (λ q. omega (arith, ints, p, q)) n e) ]

module _ (d : ℕ) (t : List (List (List ℤ))) (c : Cone) (h : IsRightCone d t c) where
  abbrev ns : List (List ℤ)
  ns = normals c.rows

  abbrev no_row : Row
  no_row = record { normal = []; verdict = wall [] }

  normal_at : (k : ℕ) → k < length c.rows → get_or ns k [] ≡ (get_or c.rows k no_row).normal
  normal_at k l = normals_at c.rows k no_row l

  count : length ns ≡ length c.rows
  count = length-map c.rows (λ (r : Row). r.normal)

  from_wall : (n : List ℤ) → Contains (facets_of c.rows) n → IsFacet d t n
  from_wall n x =
      let r = wall_row c.rows n x in
      let k : ℕ = r.0 in
      let w : List ℤ = r.1 in
      let is : IsWallRow c.rows n k w = r.2 in
      let lc = count in
      let kn : k < length ns = (let z : k < length c.rows = is.within in omega arith) in
      let here : get_or ns k [] ≡ n = normal_at k is.within ∙ is.normal no_row in
      let right : IsRightWall d ns k w = subst (λ (v : Verdict). IsRightVerdict d ns k v) (is.verdict no_row) (h.verdicts k no_row is.within) in (
        w,
        record {
          regulator = (h.regulators.members n).0 (contains_at ns k [] n kn here);
          numbers = right.numbers;
          zero_there = ap (λ m. dot m w) (sym here) ∙ right.zero_there;
          others = λ m reg ne. other n k w kn here right m ne ((h.regulators.members m).1 reg);
        },
      )
    where
      other : (n : List ℤ) (k : ℕ) (w : List ℤ) → k < length ns → get_or ns k [] ≡ n → IsRightWall d ns k w → (m : List ℤ) → m ≢ n → Contains ns m → pos 0 <ℤ dot m w
      other n k w kn here right m ne (i, hi, e) =
          let at : get_or ns i [] ≡ m = get_or_default ns i [] m hi ∙ e in
          subst (λ (z : List ℤ). pos 0 <ℤ dot z w) at (right.others i hi (λ s. ne (sym at ∙ ap (λ j. get_or ns j []) s ∙ here)))

  no_combination : (n w : List ℤ) → IsWallForm d t n w → (k : ℕ) → k < length ns → get_or ns k [] ≡ n → (factor : ℤ) (terms : List (ℕ × ℤ)) → IsRightCombination d ns k factor terms → ⊥
  no_combination n w f k kn here factor terms y = by_terms terms y
    where
      g : ℕ → ℤ
      g i = dot w (get_or ns i [])

      each : (terms : List (ℕ × ℤ)) → IsRightCombination d ns k factor terms → AllByRecursion (λ i. pos 0 <ℤ dot w (get_or ns i [])) (places terms)
      each terms y =
          recursion_from_All (λ i. pos 0 <ℤ dot w (get_or ns i [])) (places terms) (λ j e hj. one (get_or (places terms) j e) (y.within j e hj) (y.other j e hj))
        where
          one : (i : ℕ) → i < length ns → i ≢ k → pos 0 <ℤ dot w (get_or ns i [])
          one i hi ne =
              let m : List ℤ = get_or ns i [] in
              let reg : IsRegulator d t m = (h.regulators.members m).0 (contains_at ns i [] m hi refl) in
              let differs : m ≢ n = λ e. ne (one_place number_list_cmp number_list_cmp_total ns i k [] h.regulators.ascending hi kn (e ∙ sym here)) in
              subst (λ z. pos 0 <ℤ z) (dot_comm m w) (f.others m reg differs)

      sum_is : (terms : List (ℕ × ℤ)) → IsRightCombination d ns k factor terms → dot (coefficients terms) (map (λ i. dot w (get_or ns i [])) (places terms)) ≡ pos 0
      sum_is terms y =
          let zero_there : dot w (get_or ns k []) ≡ pos 0 = ap (dot w) here ∙ dot_comm w n ∙ f.zero_there in
          ap (dot (coefficients terms)) (sym (dots_at w ns (places terms)))
          ∙ sym (dot-combine w (coefficients terms) (map (λ i. get_or ns i []) (places terms)))
          ∙ sym (dot_from_zeros w (length (get_or ns k [])) (combine (coefficients terms) (map (λ i. get_or ns i []) (places terms))))
          ∙ ap (dot w) y.sum
          ∙ dot-scale w factor (get_or ns k [])
          ∙ ap (λ z. factor *ℤ z) zero_there
          ∙ (omega (arith, ints))

      by_terms : (terms : List (ℕ × ℤ)) → IsRightCombination d ns k factor terms → ⊥
      by_terms [] y = not_primitive n (λ q. zero_factor factor (lookup n q) y.some (at q)) f.regulator.4.primitive
        where
          at : (q : ℕ) → factor *ℤ lookup n q ≡ pos 0
          at q =
              sym (ap (λ (v : List ℤ). lookup (scale factor v) q) here ∙ lookup_scale factor n q)
              ∙ sym (ap (λ (v : List ℤ). lookup v q) y.sum) ∙ lookup_from_zeros (length (get_or ns k [])) [] q ∙ lookup_none q
      by_terms (x ∷ terms) y =
          let p = sum_positive (λ i. dot w (get_or ns i [])) (x ∷ terms) (each (x ∷ terms) y) (recursion_from_All (λ z. pos 0 <ℤ z) (coefficients (x ∷ terms)) y.positive) (omega arith) in
          let z = sum_is (x ∷ terms) y in
          absurd (omega (arith, ints))

  to_wall : (n : List ℤ) → IsFacet d t n → Contains (facets_of c.rows) n
  to_wall n (w, f) = at ((h.regulators.members n).1 f.regulator)
    where
      by_verdict : (k : ℕ) → k < length ns → get_or ns k [] ≡ n → (v : Verdict) → (get_or c.rows k no_row).verdict ≡ v → Contains (facets_of c.rows) n
      by_verdict k kn here (wall x) e =
          let lc = count in
          subst (λ (z : List ℤ). Contains (facets_of c.rows) z) (sym (normal_at k (omega arith)) ∙ here) (row_of_wall c.rows k no_row x (omega arith) e)
      by_verdict k kn here (combination factor terms) e =
          let lc = count in
          absurd (no_combination n w f k kn here factor terms (subst (λ (v : Verdict). IsRightVerdict d ns k v) e (h.verdicts k no_row (omega arith))))

      at : Contains ns n → Contains (facets_of c.rows) n
      at (k, kn, e) = by_verdict k kn (get_or_default ns k [] n kn ∙ e) (get_or c.rows k no_row).verdict refl

  -- the facets are the normals of the wall rows
  pub facets_exact : (n : List ℤ) → IsFacet d t n ↔ Contains (facets_of c.rows) n
  facets_exact n = (to_wall n, from_wall n)

  -- a normal has a wall form exactly where its row has one
  pub rows_exact : (k : ℕ) (r : Row) → k < length c.rows → (has_wall (get_or c.rows k r).verdict ≡ true) ↔ IsFacet d t (get_or c.rows k r).normal
  rows_exact k r l = (λ e. from_wall (get_or c.rows k r).normal (walled (get_or c.rows k r).verdict refl e), λ f. walls f (get_or c.rows k r).verdict refl)
    where
      walled : (v : Verdict) → (get_or c.rows k r).verdict ≡ v → has_wall v ≡ true → Contains (facets_of c.rows) (get_or c.rows k r).normal
      walled (wall x) e h = row_of_wall c.rows k r x l e
      walled (combination factor terms) e h = cc

      walls : IsFacet d t (get_or c.rows k r).normal → (v : Verdict) → (get_or c.rows k r).verdict ≡ v → has_wall v ≡ true
      walls f (wall x) e = refl
      walls f (combination factor terms) e =
          let lc = count in
          absurd (no_combination (get_or c.rows k r).normal f.0 f.1 k (omega arith) (normals_at c.rows k r l) factor terms (subst (λ (v : Verdict). IsRightVerdict d ns k v) e (h.verdicts k r l)))
