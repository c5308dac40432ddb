-- A solution of the system of a class gives its circumcentre; and the system has one.
use Rattle.std.proofs.Common.{◌≡◌, ℕ, suc, ℤ, pos, negsuc, ◌+ℤ◌, ◌-ℤ◌, ◌*ℤ◌, ◌<◌, ◌≤◌, refl, ap, ap₂, arith, sym, ◌∙◌, subst, List, [], ◌∷◌, length, map, drop, get_or, inl, inr}
use Rattle.std.proofs.lemmas.Int.{ints}
use Rattle.std.specs.List.{Contains}
use Rattle.std.proofs.lemmas.List.{get_or_default}
use Rattle.lt_model.proofs.Integers.{mul_zero_z, zero_mul_z}
use Rattle.lt_model.proofs.Ring.{ring, ring_by_two, var, num, ◌⊗◌}
use Rattle.lt_model.proofs.Inequalities.{cancel_z}
use Rattle.lt_model.proofs.Excess.{map-same}
use Rattle.lt_model.proofs.Walk.{length-combine, number_at-map, number_at-scale}
use Rattle.lt_model.proofs.Expressions.{number_at-zeros}
use Rattle.lt_model.proofs.Differences.{differences_from_independent}
use Rattle.lt_model.proofs.Sets.{Contains-cases}
use Rattle.lt_model.specs.Vectors.{minus, scale, dot, combine, zeros, AreLinearlyIndependent}
use Rattle.lt_model.specs.Forms.{value, polar}
use Rattle.lt_model.specs.Simplices.{AllOfDimension, IsClass}
use Rattle.lt_model.specs.Facets.{number_at}
use Rattle.lt_model.proofs.Points.{scale-one, count_rest}
use Rattle.lt_geometry.proofs.Fewness.{scale-zeros}
use Rattle.lt_geometry.proofs.Parity.{value-zeros}
use Rattle.lt_geometry.proofs.Points.{polar_comm}
use Rattle.lt_geometry.proofs.Values.{list_dec}
use Rattle.lt_num.specs.Fractions.{Ratio, IsQuotient}
use Rattle.lt_geometry.proofs.Candidates.{map_same_members}
use Rattle.lt_geometry.proofs.Motions.{length_of_member}
use Rattle.lt_geometry.proofs.Neighbours.{polar-zeros}
use Rattle.lt_solve.specs.Forms.{row_of}
use Rattle.lt_solve.specs.Systems.{IsSolution, IsColumnDependency}
use Rattle.lt_solve.proofs.Solved.{row_combine}
use Rattle.lt_triang.proofs.Columned.{columns-class}
use Rattle.lt_laws.proofs.Circumradii.{polar_sum, pulled, distance}
use Rattle.lt_laws.proofs.Halves.{twice_value}
use Rattle.lt_cover.specs.Gram.{gram, IsMeasured}
use Rattle.lt_cover.specs.Covers.{IsRadius}

-- ---- sums over points

pub length-gram : (q : List ℤ) (ws vs : List (List ℤ)) → length (map (λ w. map (λ v. polar q v w) vs) ws) ≡ length ws
length-gram q [] vs = refl
length-gram q (w ∷ ws) vs = ap suc (length-gram q ws vs)

row_of-gram : (q : List ℤ) (ws vs : List (List ℤ)) (i : ℕ) → i < length vs → row_of (map (λ w. map (λ v. polar q v w) vs) ws) i ≡ map (λ w. polar q (get_or vs i []) w) ws
row_of-gram q [] vs i h = refl
row_of-gram q (w ∷ ws) vs i h = ap₂ (λ (x : ℤ) (l : List ℤ). x ∷ l) (number_at-map (λ v. polar q v w) i vs [] h) (row_of-gram q ws vs i h)

module _ (d : ℕ) (q : List ℤ) (vs : List (List ℤ)) (nums : List ℤ) (all : AllOfDimension d vs) (some : 0 < length vs) (one_each : length nums ≡ length vs) where
  abbrev point : List ℤ
  point = combine nums vs

  pub length-point : length point ≡ d
  length-point = length-combine d nums vs all one_each some

  own : combine nums vs ≡ scale (pos 1) point
  own = sym (scale-one point)

  -- the numbers of the combined columns are the products with the combined points
  pub at_vertex : (i : ℕ) → i < length vs → length (get_or vs i []) ≡ d → polar q (get_or vs i []) point ≡ number_at i (combine nums (gram q vs))
  at_vertex i h lu =
      let u : List ℤ = get_or vs i [] in
      let e1 = row_combine nums (gram q vs) i (one_each ∙ sym (length-gram q vs vs)) in
      let e2 : row_of (gram q vs) i ≡ map (λ w. polar q w u) vs = row_of-gram q vs vs i h ∙ map-same d (λ w. polar q u w) (λ w. polar q w u) vs all (λ w l. polar_comm q u w (lu ∙ sym l)) in
      let e3 = polar_sum d q vs u point nums (pos 1) all lu length-point own in
      let e4 : pos 1 *ℤ polar q point u ≡ polar q point u = ring (polar q point u ∷ []) (num (pos 1) ⊗ var 0) (var 0) tt in
      polar_comm q u point (lu ∙ sym length-point) ∙ sym e4 ∙ sym e3 ∙ ap (dot nums) (sym e2) ∙ e1

  -- where the product with each point is k times its value, twice the value of the combined point is k times the sum of the values
  pub twice_point : (k : ℤ) → ((v : List ℤ) → Contains vs v → polar q v point ≡ k *ℤ value q v) → pos 2 *ℤ value q point ≡ k *ℤ dot nums (map (value q) vs)
  twice_point k h =
      let e1 = twice_value d q point length-point in
      let e2 = polar_sum d q vs point point nums (pos 1) all length-point length-point own in
      let e3 : pos 1 *ℤ polar q point point ≡ polar q point point = ring (polar q point point ∷ []) (num (pos 1) ⊗ var 0) (var 0) tt in
      let e4 : dot nums (map (λ v. polar q v point) vs) ≡ dot nums (map (λ v. k *ℤ value q v) vs) = ap (dot nums) (map_same_members (λ v. polar q v point) (λ v. k *ℤ value q v) vs h) in
      sym e1 ∙ sym e3 ∙ sym e2 ∙ e4 ∙ pulled k (value q) nums vs

-- ---- the class

rest_all : (d : ℕ) (s : List (List ℤ)) → AllOfDimension d s → AllOfDimension d (drop 1 s)
rest_all d [] all = tt
rest_all d (v ∷ vs) all = all.1

first_or_rest : (d : ℕ) (s : List (List ℤ)) (P : List ℤ → Type 0) → IsClass d s → P (zeros d) → ((v : List ℤ) → Contains (drop 1 s) v → P v) → (v : List ℤ) → Contains s v → P v
first_or_rest d [] P k z h v (i, l, e) = absurd (omega arith)
first_or_rest d (u ∷ vs) P k z h v c = elim (Contains-cases u vs v c) [ inl e ↦ subst P (sym k.first ∙ e) z | inr m ↦ h v m ]

pub rest_free : (d : ℕ) (s : List (List ℤ)) → 2 ≤ d → IsClass d s → AreLinearlyIndependent (drop 1 s)
rest_free d [] two k = absurd (omega (arith, k.simplex.count))
rest_free d (v ∷ vs) two k =
    let count : length vs ≡ d = omega (arith, k.simplex.count) in
    subst AreLinearlyIndependent (columns-class d (v ∷ vs) k) (differences_from_independent d v vs (omega arith) count k.simplex.points k.simplex.independent)

-- e x is n g^2 where 2 x is g s and n / e is s / (2 g)
same_radius : (e x n g s : ℤ) → pos 2 *ℤ x ≡ g *ℤ s → n *ℤ (pos 2 *ℤ g) ≡ s *ℤ e → e *ℤ x ≡ n *ℤ (g *ℤ g)
same_radius e x n g s a b =
    cancel_z (pos 2) (e *ℤ x) (n *ℤ (g *ℤ g)) (omega (arith, ints))
    (ring_by_two (e ∷ x ∷ n ∷ g ∷ s ∷ []) (num (pos 2) ⊗ (var 0 ⊗ var 1)) (num (pos 2) ⊗ (var 2 ⊗ (var 3 ⊗ var 3)))
    (var 0) (num (pos 2) ⊗ var 1) (var 3 ⊗ var 4)
    (num (negsuc 0) ⊗ var 3) (var 2 ⊗ (num (pos 2) ⊗ var 3)) (var 4 ⊗ var 0) tt a b)

-- e (g^2 a + x - g y) is e x where y is g a
same_distance : (e a x g y z : ℤ) → z ≡ g *ℤ g *ℤ a +ℤ x -ℤ g *ℤ y → y ≡ g *ℤ a → z ≡ x
same_distance e a x g y z h k =
    let f : g *ℤ y ≡ g *ℤ g *ℤ a = ap (λ (t : ℤ). g *ℤ t) k ∙ ring (g ∷ a ∷ []) (var 0 ⊗ (var 0 ⊗ var 1)) (var 0 ⊗ var 0 ⊗ var 1) tt in
    omega (arith, ints, h, f)

module _ (d : ℕ) (q : List ℤ) (s : List (List ℤ)) (h : IsMeasured d q s) where
  abbrev vs : List (List ℤ)
  vs = drop 1 s

  all : AllOfDimension d vs
  all = rest_all d s h.class.simplex.points

  count : length vs ≡ d
  count = count_rest d s h.class.simplex.count

  some : 0 < length vs
  some = let c = count in let l = h.low in omega (arith, c, l)

  pub solved : (den : ℤ) (nums : List ℤ) (r : Ratio) → IsSolution (gram q vs) (map (value q) vs) den nums → IsQuotient (dot nums (map (value q) vs)) (pos 2 *ℤ den) r → IsRadius d q s r
  solved den nums r sol quo = (den, p, record { dimension = lp; denominator = quo.reduced.positive; multiple = sol.positive; through = through })
    where
      one_each : length nums ≡ length vs
      one_each = sol.one_each ∙ length-gram q vs vs

      p : List ℤ
      p = combine nums vs

      lp : length (combine nums vs) ≡ d
      lp = length-point d q vs nums all some one_each

      at : (v : List ℤ) → Contains vs v → polar q v (combine nums vs) ≡ den *ℤ value q v
      at v (i, l, e) =
          let here : get_or vs i [] ≡ v = get_or_default vs i [] v l ∙ e in
          let lv : length (get_or vs i []) ≡ d = ap length here ∙ length_of_member d vs v all (i, l, e) in
          let f : polar q (get_or vs i []) (combine nums vs) ≡ den *ℤ value q (get_or vs i []) =
          at_vertex d q vs nums all some one_each i l lv ∙ ap (number_at i) sol.sum ∙ number_at-scale i den (map (value q) vs) ∙ ap (λ (x : ℤ). den *ℤ x) (number_at-map (value q) i vs [] l) in
          subst (λ (u : List ℤ). polar q u (combine nums vs) ≡ den *ℤ value q u) here f

      first : polar q (zeros d) (combine nums vs) ≡ den *ℤ value q (zeros d)
      first = polar-zeros d q (combine nums vs) lp ∙ sym (ap (λ (x : ℤ). den *ℤ x) (value-zeros d q) ∙ mul_zero_z den)

      twice : pos 2 *ℤ value q (combine nums vs) ≡ den *ℤ dot nums (map (value q) vs)
      twice = twice_point d q vs nums all some one_each den at

      through : (v : List ℤ) → Contains s v → r.den *ℤ value q (minus (scale den v) (combine nums vs)) ≡ r.num *ℤ (den *ℤ den)
      through v c =
          let lv : length v ≡ d = length_of_member d s v h.class.simplex.points c in
          let y : polar q v (combine nums vs) ≡ den *ℤ value q v = first_or_rest d s (λ u. polar q u (combine nums vs) ≡ den *ℤ value q u) h.class first at v c in
          let z = same_distance r.den (value q v) (value q (combine nums vs)) den (polar q v (combine nums vs)) (value q (minus (scale den v) (combine nums vs))) (distance d q den v (combine nums vs) lv lp) y in
          ap (λ (x : ℤ). r.den *ℤ x) z ∙ same_radius r.den (value q (combine nums vs)) r.num den (dot nums (map (value q) vs)) twice quo.same

  pub no_dependency : (terms : List ℤ) → IsColumnDependency (gram q vs) terms → ⊥
  no_dependency terms dep = never (dep.primitive 2 (zeros (length vs)) (none ∙ sym (scale-zeros (pos 2) (length vs))))
    where
      never : (◌≡◌) {A = ℕ} 2 1 → ⊥
      never e = omega (arith, e)

      one_each : length terms ≡ length vs
      one_each = dep.one_each ∙ length-gram q vs vs

      lp : length (combine terms vs) ≡ d
      lp = length-point d q vs terms all some one_each

      at : (v : List ℤ) → Contains vs v → polar q v (combine terms vs) ≡ pos 0 *ℤ value q v
      at v (i, l, e) =
          let here : get_or vs i [] ≡ v = get_or_default vs i [] v l ∙ e in
          let lv : length (get_or vs i []) ≡ d = ap length here ∙ length_of_member d vs v all (i, l, e) in
          let f : polar q (get_or vs i []) (combine terms vs) ≡ pos 0 = at_vertex d q vs terms all some one_each i l lv ∙ ap (number_at i) dep.sum ∙ number_at-zeros (length (gram q vs)) i in
          subst (λ (u : List ℤ). polar q u (combine terms vs) ≡ pos 0) here f ∙ sym (zero_mul_z (value q v))

      twice : pos 2 *ℤ value q (combine terms vs) ≡ pos 0
      twice = twice_point d q vs terms all some one_each (pos 0) at ∙ zero_mul_z (dot terms (map (value q) vs))

      no_point : Dec (combine terms vs ≡ zeros d) → combine terms vs ≡ zeros d
      no_point (yes e) = e
      no_point (no n) = let v = h.positive.positive (combine terms vs) lp n in let t = twice in absurd (omega (arith, ints, v, t))

      none : terms ≡ zeros (length vs)
      none = rest_free d s h.low h.class terms one_each (no_point (list_dec (combine terms vs) (zeros d)) ∙ ap zeros (sym count))
