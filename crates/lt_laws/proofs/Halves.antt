-- Each point is the sum of two vertices of one placed member: the walk to its half.
use Rattle.std.proofs.Common.{◌≡◌, ℕ, zero, suc, ℤ, pos, negsuc, ◌+ℤ◌, ◌*ℤ◌, ◌<ℤ◌, ◌≤ℤ◌, refl, ap, arith, sym, ◌∙◌, subst, List, [], ◌∷◌, length, map, inl, inr}
use Rattle.std.proofs.lemmas.Int.{ints}
use Rattle.std.specs.List.{Contains, AllByRecursion}
use Rattle.lt_model.proofs.Integers.{zero_mul_z}
use Rattle.lt_model.proofs.Ring.{ring, var, num, ◌⊕◌, ◌⊗◌}
use Rattle.lt_model.proofs.Vectors.{dot-plus, dot-scale}
use Rattle.lt_model.proofs.Squares.{length-scale, length-plus, value-difference}
use Rattle.lt_model.proofs.Excess.{dot-combine, dot-sum, dot-constant, map-same, gradient, same_from_dots, scale-dot}
use Rattle.lt_model.proofs.Walk.{IsWeighted, length-combine}
use Rattle.lt_geometry.proofs.Walking.{Holds}
use Rattle.lt_geometry.proofs.Summed.{HasEach, HasSummed, summed}
use Rattle.lt_model.proofs.Expressions.{total-scale}
use Rattle.lt_model.proofs.Moved.{simplex_moved}
use Rattle.lt_geometry.proofs.LocalWalk.{empty_moved, same_heights, touched}
use Rattle.lt_geometry.proofs.Uniform.{uniform, HasUniform}
use Rattle.lt_model.proofs.Sets.{Contains-head, Contains-tail, Contains-cases, Contains-none}
use Rattle.lt_model.specs.Vectors.{minus, scale, dot, total, combine}
use Rattle.lt_model.specs.Forms.{value, polar}
use Rattle.lt_model.specs.Simplices.{AllOfDimension, IsSimplex, IsStrictlyEmpty, translate}
use Rattle.lt_model.specs.Triangulations.{IsDelaunay}
use Rattle.lt_model.proofs.Points.{minus_itself}
use Rattle.lt_geometry.proofs.Unique.{expressed}
use Rattle.lt_geometry.proofs.Neighbours.{cross_comm}
use Rattle.lt_geometry.proofs.Parity.{value-zeros}
use Rattle.lt_geometry.proofs.Fewness.{paving_of}
use Rattle.lt_laws.proofs.Holding.{holding}

-- ---- the weights that are positive, and their points

abbrev kept : List ℤ → List ℤ
kept [] = []
kept (pos zero ∷ a) = kept a
kept (pos (suc n) ∷ a) = pos (suc n) ∷ kept a
kept (negsuc n ∷ a) = kept a

abbrev kept_points : List ℤ → List (List ℤ) → List (List ℤ)
kept_points [] us = []
kept_points (x ∷ a) [] = []
kept_points (pos zero ∷ a) (u ∷ us) = kept_points a us
kept_points (pos (suc n) ∷ a) (u ∷ us) = u ∷ kept_points a us
kept_points (negsuc n ∷ a) (u ∷ us) = kept_points a us

kept_dot : (g : List ℤ → ℤ) (a : List ℤ) (us : List (List ℤ)) → AllByRecursion (λ z. pos 0 ≤ℤ z) a → length a ≡ length us → dot (kept a) (map g (kept_points a us)) ≡ dot a (map g us)
kept_dot g [] us n l = refl
kept_dot g (x ∷ a) [] n l = absurd (omega arith)
kept_dot g (pos zero ∷ a) (u ∷ us) n l = omega (arith, ints, kept_dot g a us n.1 (omega arith), zero_mul_z (g u))
kept_dot g (pos (suc m) ∷ a) (u ∷ us) n l = ap (λ x. pos (suc m) *ℤ g u +ℤ x) (kept_dot g a us n.1 (omega arith))
kept_dot g (negsuc m ∷ a) (u ∷ us) n l = absurd (omega (arith, ints, n.0))

kept_total : (a : List ℤ) → AllByRecursion (λ z. pos 0 ≤ℤ z) a → total (kept a) ≡ total a
kept_total [] n = refl
kept_total (pos zero ∷ a) n = omega (arith, ints, kept_total a n.1)
kept_total (pos (suc m) ∷ a) n = ap (λ x. pos (suc m) +ℤ x) (kept_total a n.1)
kept_total (negsuc m ∷ a) n = absurd (omega (arith, ints, n.0))

kept_positive : (a : List ℤ) → AllByRecursion (λ z. pos 0 <ℤ z) (kept a)
kept_positive [] = tt
kept_positive (pos zero ∷ a) = kept_positive a
kept_positive (pos (suc m) ∷ a) = (omega (arith, ints), kept_positive a)
kept_positive (negsuc m ∷ a) = kept_positive a

kept_not_negative : (a : List ℤ) → AllByRecursion (λ z. pos 0 ≤ℤ z) (kept a)
kept_not_negative [] = tt
kept_not_negative (pos zero ∷ a) = kept_not_negative a
kept_not_negative (pos (suc m) ∷ a) = (omega (arith, ints), kept_not_negative a)
kept_not_negative (negsuc m ∷ a) = kept_not_negative a

kept_length : (a : List ℤ) (us : List (List ℤ)) → length a ≡ length us → length (kept a) ≡ length (kept_points a us)
kept_length [] us l = refl
kept_length (x ∷ a) [] l = absurd (omega arith)
kept_length (pos zero ∷ a) (u ∷ us) l = kept_length a us (omega arith)
kept_length (pos (suc m) ∷ a) (u ∷ us) l = ap suc (kept_length a us (omega arith))
kept_length (negsuc m ∷ a) (u ∷ us) l = kept_length a us (omega arith)

kept_all : (d : ℕ) (a : List ℤ) (us : List (List ℤ)) → AllOfDimension d us → AllOfDimension d (kept_points a us)
kept_all d [] us h = tt
kept_all d (x ∷ a) [] h = tt
kept_all d (pos zero ∷ a) (u ∷ us) h = kept_all d a us h.1
kept_all d (pos (suc m) ∷ a) (u ∷ us) h = (h.0, kept_all d a us h.1)
kept_all d (negsuc m ∷ a) (u ∷ us) h = kept_all d a us h.1

kept_from : (a : List ℤ) (us : List (List ℤ)) (x : List ℤ) → Contains (kept_points a us) x → Contains us x
kept_from [] us x c = Contains-none x c
kept_from (y ∷ a) [] x c = Contains-none x c
kept_from (pos zero ∷ a) (u ∷ us) x c = Contains-tail u us x (kept_from a us x c)
kept_from (pos (suc m) ∷ a) (u ∷ us) x c =
    elim (Contains-cases u (kept_points a us) x c) [
      | inl e ↦ subst (λ (w : List ℤ). Contains (u ∷ us) w) e (Contains-head u us)
      | inr r ↦ Contains-tail u us x (kept_from a us x r)
    ]
kept_from (negsuc m ∷ a) (u ∷ us) x c = Contains-tail u us x (kept_from a us x c)

-- ---- the points y - v

abbrev mirrored : List ℤ → List (List ℤ) → List (List ℤ)
mirrored y vs = map (λ v. minus y v) vs

pub length-minus : (d : ℕ) (y v : List ℤ) → length y ≡ d → length v ≡ d → length (minus y v) ≡ d
length-minus d y v ly lv = length-plus y (scale (negsuc 0) v) (ly ∙ sym (length-scale (negsuc 0) v ∙ lv)) ∙ ly

length-mirrored : (y : List ℤ) (vs : List (List ℤ)) → length (mirrored y vs) ≡ length vs
length-mirrored y [] = refl
length-mirrored y (v ∷ vs) = ap suc (length-mirrored y vs)

mirrored_all : (d : ℕ) (y : List ℤ) (vs : List (List ℤ)) → length y ≡ d → AllOfDimension d vs → AllOfDimension d (mirrored y vs)
mirrored_all d y [] ly h = tt
mirrored_all d y (v ∷ vs) ly h = (length-minus d y v ly h.0, mirrored_all d y vs ly h.1)

mirrored_map : (g : List ℤ → ℤ) (y : List ℤ) (vs : List (List ℤ)) → map g (mirrored y vs) ≡ map (λ v. g (minus y v)) vs
mirrored_map g y [] = refl
mirrored_map g y (v ∷ vs) = ap (λ (l : List ℤ). g (minus y v) ∷ l) (mirrored_map g y vs)

mirrored_from : (y : List ℤ) (vs : List (List ℤ)) (x : List ℤ) → Contains (mirrored y vs) x → (v : List ℤ) × Contains vs v × (x ≡ minus y v)
mirrored_from y [] x c = Contains-none x c
mirrored_from y (v ∷ vs) x c =
    elim (Contains-cases (minus y v) (mirrored y vs) x c) [
      | inl e ↦ (v, Contains-head v vs, sym e)
      | inr r ↦ (let f = mirrored_from y vs x r in (f.0, Contains-tail v vs f.0 f.1, f.2))
    ]

pub twice_value : (d : ℕ) (q y : List ℤ) → length y ≡ d → polar q y y ≡ pos 2 *ℤ value q y
twice_value d q y ly =
    let e = value-difference q y y refl in
    let z : value q (minus y y) ≡ pos 0 = ap (value q) (minus_itself d y ly) ∙ value-zeros d q in
    omega (arith, ints, e, z)

-- where numbers 2c in all combine the vertices to c y, the values at the y - v have the sum of those at the v
mirrored_values : (d : ℕ) (q : List ℤ) (vs : List (List ℤ)) (y b : List ℤ) (c : ℤ) → AllOfDimension d vs → length y ≡ d → IsWeighted vs (pos 2) y c b → dot b (map (value q) (mirrored y vs)) ≡ dot b (map (value q) vs)
mirrored_values d q vs y b c all ly w =
    let g = gradient q y in
    let m : List ℤ = scale (negsuc 0) g.0 in
    let each : (v : List ℤ) → length v ≡ d → value q (minus y v) ≡ (value q y +ℤ value q v) +ℤ dot m v = λ v lv.
    let e1 = value-difference q y v (ly ∙ sym lv) in
    let e2 : polar q y v ≡ dot g.0 v = ap (dot q) (cross_comm y v) ∙ g.1 v (lv ∙ sym ly) in
    omega (arith, ints, e1, e2, scale-dot (negsuc 0) g.0 v)
    in
    let e : map (value q) (mirrored y vs) ≡ map (λ v. (value q y +ℤ value q v) +ℤ dot m v) vs = mirrored_map (value q) y vs ∙ map-same d (λ v. value q (minus y v)) (λ v. (value q y +ℤ value q v) +ℤ dot m v) vs all each in
    let s1 : dot b (map (λ v. (value q y +ℤ value q v) +ℤ dot m v) vs) ≡ dot b (map (λ v. value q y +ℤ value q v) vs) +ℤ dot b (map (dot m) vs) = dot-sum b (λ v. value q y +ℤ value q v) (dot m) vs in
    let s2 : dot b (map (λ v. value q y +ℤ value q v) vs) ≡ dot b (map (λ v. value q y) vs) +ℤ dot b (map (value q) vs) = dot-sum b (λ v. value q y) (value q) vs in
    let s3 : dot b (map (λ v. value q y) vs) ≡ total b *ℤ value q y = dot-constant b (value q y) vs w.one_each in
    let s4 : dot b (map (dot m) vs) ≡ negsuc 0 *ℤ (c *ℤ polar q y y) =
    sym (dot-combine m b vs) ∙ ap (dot m) w.point ∙ scale-dot (negsuc 0) g.0 (scale c y) ∙ ap (λ n. negsuc 0 *ℤ n) (dot-scale g.0 c y ∙ ap (λ n. c *ℤ n) (sym (g.1 y refl)))
    in
    ap (dot b) e ∙ end c (value q y) (polar q y y) (total b) (dot b (map (value q) vs)) (dot b (map (λ v. value q y +ℤ value q v) vs)) (dot b (map (λ v. value q y) vs)) (dot b (map (dot m) vs)) (dot b (map (λ v. (value q y +ℤ value q v) +ℤ dot m v) vs)) w.sum (twice_value d q y ly) s1 s2 s3 s4
  where
    end : (c y p t b x z m s : ℤ) → t ≡ c *ℤ pos 2 → p ≡ pos 2 *ℤ y → s ≡ x +ℤ m → x ≡ z +ℤ b → z ≡ t *ℤ y → m ≡ negsuc 0 *ℤ (c *ℤ p) → s ≡ b
    end c y p t b x z m s e1 e2 e3 e4 e5 e6 =
        let f1 : z ≡ c *ℤ pos 2 *ℤ y = e5 ∙ ap (λ n. n *ℤ y) e1 in
        let f2 : m ≡ negsuc 0 *ℤ (c *ℤ (pos 2 *ℤ y)) = e6 ∙ ap (λ n. negsuc 0 *ℤ (c *ℤ n)) e2 in
        let own : c *ℤ pos 2 *ℤ y +ℤ negsuc 0 *ℤ (c *ℤ (pos 2 *ℤ y)) ≡ pos 0 = ring (c ∷ y ∷ []) (var 0 ⊗ num (pos 2) ⊗ var 1 ⊕ num (negsuc 0) ⊗ (var 0 ⊗ (num (pos 2) ⊗ var 1))) (num (pos 0)) tt in
        omega (arith, ints, own, e3, e4, f1, f2)

pub record HasHalves (d : ℕ) (t : List (List (List ℤ))) (y : List ℤ) : Type 0 where
  pub owner : List (List ℤ)
  pub shift : List ℤ
  pub member : Contains t owner
  pub dimension : length shift ≡ d
  pub left : List ℤ
  pub right : List ℤ
  pub has_left : Contains (translate shift owner) left
  pub has_right : Contains (translate shift owner) right
  pub is : right ≡ minus y left

each_over : (d : ℕ) (vs : List (List ℤ)) (u : HasUniform d vs) → HasEach d vs u.c
each_over d vs u = record { b = λ x l. u.b (pos 1) x; is = λ x l. expressed vs x u.c (u.b (pos 1) x) (u.is (pos 1) x l) }

-- inside a strictly empty simplex
inside_halves : (d : ℕ) (q : List ℤ) (vs : List (List ℤ)) (y b : List ℤ) (c : ℤ) → IsSimplex d vs → IsStrictlyEmpty d q vs → length y ≡ d → IsWeighted vs (pos 2) y c b → AllByRecursion (λ z. pos 0 ≤ℤ z) b →
    (v : List ℤ) × Contains vs v × Contains vs (minus y v)
inside_halves d q vs y b c s em ly w inside =
    let u = uniform d vs s in
    let us : List (List ℤ) = mirrored y vs in
    let lb : length b ≡ length us = w.one_each ∙ sym (length-mirrored y vs) in
    let a : List ℤ = kept b in
    let ks : List (List ℤ) = kept_points b us in
    let h : HasSummed d q vs u.c a ks = summed d q vs u.c (each_over d vs u) a ks em.outside (kept_all d b us (mirrored_all d y vs ly s.points)) (kept_not_negative b) (kept_length b us lb) in
    let x2 : List ℤ = scale c y in
    let m2 : ℤ = c *ℤ pos 2 in
    let lx : length x2 ≡ d = length-scale c y ∙ ly in
    let w1 : IsWeighted vs m2 x2 u.c h.bs = record {
      positive = u.positive;
      one_each = h.is.one_each;
      point = same_from_dots (combine h.bs vs) (scale u.c x2) (length-combine d h.bs vs s.points h.is.one_each (omega (arith, s.count)) ∙ sym lx ∙ sym (length-scale u.c x2))
          (λ v. dot-combine v h.bs vs ∙ h.is.point v ∙ ap (λ n. u.c *ℤ n) (kept_dot (dot v) b us inside lb ∙ linear v b w ∙ sym (dot-scale v c y)) ∙ sym (dot-scale v u.c x2));
      sum = h.is.sum ∙ ap (λ n. u.c *ℤ n) (kept_total b inside ∙ w.sum);
    } in
    let lb2 : length (scale u.c b) ≡ length vs = length-scale u.c b ∙ w.one_each in
    let w2 : IsWeighted vs m2 x2 u.c (scale u.c b) = record {
      positive = u.positive;
      one_each = lb2;
      point = same_from_dots (combine (scale u.c b) vs) (scale u.c x2) (length-combine d (scale u.c b) vs s.points lb2 (omega (arith, s.count)) ∙ sym lx ∙ sym (length-scale u.c x2))
          (λ v. dot-combine v (scale u.c b) vs ∙ scale-dot u.c b (map (dot v) vs) ∙ ap (λ n. u.c *ℤ n) (sym (dot-combine v b vs) ∙ ap (dot v) w.point) ∙ sym (dot-scale v u.c x2));
      sum = total-scale u.c b ∙ ap (λ n. u.c *ℤ n) w.sum;
    } in
    let full : dot h.bs (map (value q) vs) ≡ u.c *ℤ dot a (map (value q) ks) =
    same_heights d q vs m2 x2 h.bs (scale u.c b) u.c s w1 w2 ∙ scale-dot u.c b (map (value q) vs) ∙ ap (λ n. u.c *ℤ n) (sym (mirrored_values d q vs y b c s.points ly w) ∙ sym (kept_dot (value q) b us inside lb))
    in
    pick ks a (kept_length b us lb) (kept_total b inside ∙ w.sum) (kept_from b us) (touched d q vs ks em (kept_all d b us (mirrored_all d y vs ly s.points)) (h.is.tight (kept_positive b) full))
  where
    linear : (v b : List ℤ) → IsWeighted vs (pos 2) y c b → dot b (map (dot v) (mirrored y vs)) ≡ c *ℤ dot v y
    linear v b w =
        let m : List ℤ = scale (negsuc 0) v in
        let each : (x : List ℤ) → length x ≡ d → dot v (minus y x) ≡ dot v y +ℤ dot m x = λ x lx. dot-plus v y (scale (negsuc 0) x) ∙ ap (λ n. dot v y +ℤ n) (dot-scale v (negsuc 0) x ∙ sym (scale-dot (negsuc 0) v x)) in
        let e : map (dot v) (mirrored y vs) ≡ map (λ x. dot v y +ℤ dot m x) vs = mirrored_map (dot v) y vs ∙ map-same d (λ x. dot v (minus y x)) (λ x. dot v y +ℤ dot m x) vs s.points each in
        let s1 : dot b (map (λ x. dot v y +ℤ dot m x) vs) ≡ dot b (map (λ x. dot v y) vs) +ℤ dot b (map (dot m) vs) = dot-sum b (λ x. dot v y) (dot m) vs in
        let s2 : dot b (map (λ x. dot v y) vs) ≡ total b *ℤ dot v y = dot-constant b (dot v y) vs w.one_each in
        let s3 : dot b (map (dot m) vs) ≡ negsuc 0 *ℤ (c *ℤ dot v y) = sym (dot-combine m b vs) ∙ ap (dot m) w.point ∙ scale-dot (negsuc 0) v (scale c y) ∙ ap (λ n. negsuc 0 *ℤ n) (dot-scale v c y) in
        ap (dot b) e ∙ end c (dot v y) (total b) (dot b (map (λ x. dot v y) vs)) (dot b (map (dot m) vs)) (dot b (map (λ x. dot v y +ℤ dot m x) vs)) w.sum s1 s2 s3
      where
        end : (c y t z m s : ℤ) → t ≡ c *ℤ pos 2 → s ≡ z +ℤ m → z ≡ t *ℤ y → m ≡ negsuc 0 *ℤ (c *ℤ y) → s ≡ c *ℤ y
        end c y t z m s e1 e2 e3 e4 =
            let f1 : z ≡ c *ℤ pos 2 *ℤ y = e3 ∙ ap (λ n. n *ℤ y) e1 in
            let own : c *ℤ pos 2 *ℤ y +ℤ negsuc 0 *ℤ (c *ℤ y) ≡ c *ℤ y = ring (c ∷ y ∷ []) (var 0 ⊗ num (pos 2) ⊗ var 1 ⊕ num (negsuc 0) ⊗ (var 0 ⊗ var 1)) (var 0 ⊗ var 1) tt in
            omega (arith, ints, own, e2, f1, e4)

    pick : (ks : List (List ℤ)) (a : List ℤ) → length a ≡ length ks → total a ≡ c *ℤ pos 2 → ((x : List ℤ) → Contains ks x → Contains (mirrored y vs) x) → AllByRecursion (λ x. Contains vs x) ks → (v : List ℤ) × Contains vs v × Contains vs (minus y v)
    pick [] [] l t from all = absurd (omega (arith, ints, t, w.positive))
    pick [] (x ∷ a) l t from all = absurd (omega arith)
    pick (x ∷ ks) a l t from all =
        let f = mirrored_from y vs x (from x (Contains-head x ks)) in
        (f.0, f.1, subst (λ (z : List ℤ). Contains vs z) f.2 all.0)

pub has_halves : (d : ℕ) (q : List ℤ) (t : List (List (List ℤ))) (y : List ℤ) → IsDelaunay d q t → length y ≡ d → HasHalves d t y
has_halves d q t y del ly =
    let pav = paving_of d q t del in
    let f = holding d q t (pos 2) y del (omega (arith, ints)) ly in
    let end : Holds d t (pos 2) y f.0 = f.1 in
    let c = pav.classes end.s end.there.member in
    let vs : List (List ℤ) = translate end.p end.s in
    let r = inside_halves d q vs y end.b f.0 (simplex_moved d end.s end.p end.there.dimension c.simplex) (empty_moved d q end.s end.p c.simplex end.there.dimension (pav.empty end.s end.there.member)) ly end.there.weighted end.inside in
    record {
      owner = end.s;
      shift = end.p;
      member = end.there.member;
      dimension = end.there.dimension;
      left = r.0;
      right = minus y r.0;
      has_left = r.1;
      has_right = r.2;
      is = refl {a = minus y r.0};
    }
