-- Each simplex has one circumcentre and one squared circumradius at a positive definite form.
use Rattle.std.proofs.Common.{◌≡◌, ℕ, zero, suc, ℤ, pos, negsuc, ◌+ℤ◌, ◌-ℤ◌, ◌*ℤ◌, ◌<ℤ◌, ◌≤ℤ◌, refl, ap, ap₂, arith, sym, ◌∙◌, subst, List, [], ◌∷◌, length, map, get_or}
use Rattle.std.proofs.lemmas.Int.{ints}
use Rattle.std.specs.List.{Contains}
use Rattle.std.proofs.lemmas.List.Elements.{Contains-get_or}
use Rattle.lt_model.proofs.Integers.{mul_zero_z, zero_mul_z}
use Rattle.lt_model.proofs.Ring.{ring, ring_by, ring_by_two, var, num, ◌⊕◌, ◌⊖◌, ◌⊗◌}
use Rattle.lt_model.proofs.Inequalities.{mul_pos_z, mul_nonneg_z, le_of_mul_le_mul_z, cancel_z}
use Rattle.lt_model.proofs.Vectors.{dot-plus, dot-scale, dot_comm}
use Rattle.lt_model.proofs.Squares.{length-scale, length-plus, squares-scale, value-difference, cross-scale}
use Rattle.lt_model.proofs.Excess.{dot-combine, map-same, gradient, same_from_dots, dot-sum}
use Rattle.lt_model.proofs.Walk.{IsWeighted, length-map}
use Rattle.lt_model.proofs.Opposite.{zeros-dot}
use Rattle.lt_model.proofs.Expressions.{has_weighted, number_at-zeros}
use Rattle.lt_model.proofs.Sets.{Contains-head, Contains-tail}
use Rattle.lt_model.specs.Vectors.{minus, scale, dot, total, combine, zeros}
use Rattle.lt_model.specs.Forms.{squares, value, polar, IsPositiveDefinite}
use Rattle.lt_model.specs.Matrices.{identity}
use Rattle.lt_model.specs.Simplices.{AllOfDimension, IsSimplex, IsStrictlyEmpty, excess}
use Rattle.lt_model.specs.Facets.{number_at}
use Rattle.lt_geometry.proofs.Points.{polar_comm}
use Rattle.lt_geometry.proofs.Uniform.{at_units, length-identity}
use Rattle.lt_geometry.proofs.Unique.{expressed}
use Rattle.lt_geometry.proofs.Values.{list_dec}
use Rattle.lt_geometry.proofs.Motions.{length_of_member}
use Rattle.lt_laws.proofs.Orthogonal.{IsOrthogonal, orthogonal}
use Rattle.lt_laws.specs.Circumradii.{IsCentre}
use Rattle.lt_laws.proofs.Halves.{twice_value}

-- ---- sums of polar values

pub polar_sum : (d : ℕ) (q : List ℤ) (vs : List (List ℤ)) (p x b : List ℤ) (c : ℤ) → AllOfDimension d vs → length p ≡ d → length x ≡ d → combine b vs ≡ scale c x → dot b (map (λ v. polar q v p) vs) ≡ c *ℤ polar q x p
polar_sum d q vs p x b c all lp lx e =
    let g = gradient q p in
    ap (dot b) (map-same d (λ v. polar q v p) (dot g.0) vs all (λ v l. g.1 v (l ∙ sym lp))) ∙ sym (dot-combine g.0 b vs) ∙ ap (dot g.0) e ∙ dot-scale g.0 c x ∙ ap (λ (z : ℤ). c *ℤ z) (sym (g.1 x (lx ∙ sym lp)))

sum_constant : (f : List ℤ → ℤ) (k : ℤ) (b : List ℤ) (vs : List (List ℤ)) → length b ≡ length vs → ((v : List ℤ) → Contains vs v → f v ≡ k) → dot b (map f vs) ≡ total b *ℤ k
sum_constant f k [] vs l h = sym (zero_mul_z k)
sum_constant f k (a ∷ b) [] l h = absurd (omega arith)
sum_constant f k (a ∷ b) (v ∷ vs) l h =
    ap₂ (λ (x y : ℤ). a *ℤ x +ℤ y) (h v (Contains-head v vs)) (sum_constant f k b vs (omega arith) (λ x c. h x (Contains-tail v vs x c)))
    ∙ ring (a ∷ total b ∷ k ∷ []) (var 0 ⊗ var 2 ⊕ var 1 ⊗ var 2) ((var 0 ⊕ var 1) ⊗ var 2) tt

pub pulled : (k : ℤ) (f : List ℤ → ℤ) (b : List ℤ) (vs : List (List ℤ)) → dot b (map (λ v. k *ℤ f v) vs) ≡ k *ℤ dot b (map f vs)
pulled k f [] vs = sym (mul_zero_z k)
pulled k f (a ∷ b) [] = sym (mul_zero_z k)
pulled k f (a ∷ b) (v ∷ vs) =
    ap (λ (x : ℤ). a *ℤ (k *ℤ f v) +ℤ x) (pulled k f b vs) ∙ ring (a ∷ k ∷ f v ∷ dot b (map f vs) ∷ []) (var 0 ⊗ (var 1 ⊗ var 2) ⊕ var 1 ⊗ var 3) (var 1 ⊗ (var 0 ⊗ var 2 ⊕ var 3)) tt

pub polar-scaled : (q x y : List ℤ) (k : ℤ) → polar q x (scale k y) ≡ k *ℤ polar q x y
polar-scaled q x y k = ap (dot q) (cross-scale k x y) ∙ dot-scale q k _

-- the polar value of z with itself is 0 only where z is
none_at : (d : ℕ) (q z : List ℤ) → IsPositiveDefinite d q → length z ≡ d → polar q z z ≡ pos 0 → z ≡ zeros d
none_at d q z k l e = go (list_dec z (zeros d))
  where
    go : Dec (z ≡ zeros d) → z ≡ zeros d
    go (yes h) = h
    go (no n) = absurd (omega (arith, ints, k.positive z l n, twice_value d q z l, e))

-- ---- it exists

-- Q[v], 1, and the polar values of v with the unit vectors
row_of : ℕ → List ℤ → List ℤ → List ℤ
row_of d q v = value q v ∷ pos 1 ∷ map (dot (gradient q v).0) (identity d)

length-rows : (d : ℕ) (q v : List ℤ) → length (row_of d q v) ≡ suc (suc d)
unfolding row_of
length-rows d q v = ap (λ (n : ℕ). suc (suc n)) (length-map (dot (gradient q v).0) (identity d) ∙ length-identity d)

rows_of : ℕ → List ℤ → List (List ℤ) → List (List ℤ)
rows_of d q [] = []
rows_of d q (v ∷ vs) = row_of d q v ∷ rows_of d q vs

length-rows_of : (d : ℕ) (q : List ℤ) (vs : List (List ℤ)) → length (rows_of d q vs) ≡ length vs
unfolding rows_of
length-rows_of d q [] = refl
length-rows_of d q (v ∷ vs) = ap suc (length-rows_of d q vs)

rows_have : (d : ℕ) (q : List ℤ) (vs : List (List ℤ)) (v : List ℤ) → Contains vs v → Contains (rows_of d q vs) (row_of d q v)
unfolding rows_of
rows_have d q [] v c = Contains-none_here v c
  where
    Contains-none_here : (v : List ℤ) → Contains [] v → Contains (rows_of d q []) (row_of d q v)
    Contains-none_here v (k, p, e) = absurd (omega arith)
rows_have d q (u ∷ vs) v (zero, l, e) = subst (λ (x : List ℤ). Contains (row_of d q u ∷ rows_of d q vs) (row_of d q x)) e (Contains-head (row_of d q u) (rows_of d q vs))
rows_have d q (u ∷ vs) v (suc k, l, e) = Contains-tail (row_of d q u) (rows_of d q vs) (row_of d q v) (rows_have d q vs v (k, omega arith, e))

all_rows : (d : ℕ) (q : List ℤ) (vs : List (List ℤ)) (r : List ℤ) → Contains (rows_of d q vs) r → length r ≡ suc (suc d)
unfolding rows_of
all_rows d q [] r (k, l, e) = absurd (omega arith)
all_rows d q (v ∷ vs) r (zero, l, e) = ap length (sym e) ∙ length-rows d q v
all_rows d q (v ∷ vs) r (suc k, l, e) = all_rows d q vs r (k, omega arith, e)

-- g Q[v] + k is the polar value of v and p, at each vertex
record IsLevel (d : ℕ) (q : List ℤ) (vs : List (List ℤ)) (g k : ℤ) (p : List ℤ) : Type 0 where
  pub dimension : length p ≡ d
  pub multiple : pos 0 <ℤ g
  pub each : (v : List ℤ) → Contains vs v → polar q v p ≡ g *ℤ value q v +ℤ k

at_vertex : (d : ℕ) (q : List ℤ) (g k : ℤ) (p v : List ℤ) → length p ≡ d → length v ≡ d → dot (g ∷ k ∷ p) (row_of d q v) ≡ pos 0 → g *ℤ value q v +ℤ k +ℤ polar q v p ≡ pos 0
unfolding row_of
at_vertex d q g k p v lp lv e =
    let r = gradient q v in
    let f : dot p (map (dot r.0) (identity d)) ≡ polar q v p = at_units d r.0 p lp ∙ sym (r.1 p (lp ∙ sym lv)) ∙ polar_comm q p v (lp ∙ sym lv) in
    omega (arith, ints, e, f, ring (k ∷ []) (var 0 ⊗ num (pos 1)) (var 0) tt)

HasLevel : ℕ → List ℤ → List (List ℤ) → Type 0
HasLevel d q vs = (g : ℤ) × (k : ℤ) × (p : List ℤ) × IsLevel d q vs g k p

first_vertex : (d : ℕ) (vs : List (List ℤ)) → IsSimplex d vs → (v : List ℤ) × Contains vs v
first_vertex d vs s = (get_or vs 0 [], Contains-get_or vs 0 [] (omega (arith, s.count)))

-- with no multiple of Q all numbers are 0
flat : (d : ℕ) (q : List ℤ) (vs : List (List ℤ)) (k : ℤ) (p : List ℤ) → IsPositiveDefinite d q → IsSimplex d vs → length p ≡ d → ((v : List ℤ) → Contains vs v → k +ℤ polar q v p ≡ pos 0) → (p ≡ zeros d) × (k ≡ pos 0)
flat d q vs k p pd s lp h = (none, last (first_vertex d vs s))
  where
    none : p ≡ zeros d
    none =
        let w = has_weighted d vs (pos 0) p s lp in
        let is = w.is in
        let e1 = polar_sum d q vs p p w.b w.c s.points lp lp is.point in
        let e2 = sum_constant (λ v. polar q v p) (negsuc 0 *ℤ k) w.b vs is.one_each (λ v c. omega (arith, ints, h v c)) in
        let e3 : total w.b *ℤ (negsuc 0 *ℤ k) ≡ pos 0 = ap (λ (z : ℤ). z *ℤ (negsuc 0 *ℤ k)) is.sum ∙ ring (w.c ∷ k ∷ []) (var 0 ⊗ num (pos 0) ⊗ (num (negsuc 0) ⊗ var 1)) (num (pos 0)) tt in
        none_at d q p pd lp (cancel_z w.c (polar q p p) (pos 0) is.positive (sym e1 ∙ e2 ∙ e3 ∙ sym (mul_zero_z w.c)))

    last : (v : List ℤ) × Contains vs v → k ≡ pos 0
    last (v, c) =
        let lv = length_of_member d vs v s.points c in
        let g = gradient q v in
        let z : polar q v p ≡ pos 0 = polar_comm q v p (lv ∙ sym lp) ∙ g.1 p (lp ∙ sym lv) ∙ ap (dot g.0) none ∙ dot_comm g.0 (zeros d) ∙ zeros-dot d g.0 in
        omega (arith, ints, h v c, z)

has_level : (d : ℕ) (q : List ℤ) (vs : List (List ℤ)) → IsPositiveDefinite d q → IsSimplex d vs → HasLevel d q vs
unfolding HasLevel
has_level d q vs pd s =
    let f = orthogonal (suc (suc d)) (rows_of d q vs) (all_rows d q vs) (omega (arith, length-rows_of d q vs, s.count)) in
    go f.0 f.1
  where
    go : (b : List ℤ) → IsOrthogonal (suc (suc d)) (rows_of d q vs) b → (g : ℤ) × (k : ℤ) × (p : List ℤ) × IsLevel d q vs g k p
    go [] h = absurd (omega (arith, h.count))
    go (g ∷ []) h = absurd (omega (arith, h.count))
    go (g ∷ k ∷ p) h = by_sign g refl
      where
        lp : length p ≡ d
        lp = omega (arith, h.count)

        at : (v : List ℤ) → Contains vs v → g *ℤ value q v +ℤ k +ℤ polar q v p ≡ pos 0
        at v c = at_vertex d q g k p v lp (length_of_member d vs v s.points c) (h.each (row_of d q v) (rows_have d q vs v c))

        up : (x a k y : ℤ) → x *ℤ a +ℤ k +ℤ y ≡ pos 0 → negsuc 0 *ℤ y ≡ x *ℤ a +ℤ k
        up x a k y e = omega (arith, ints, e)

        down : (x a k y : ℤ) → x *ℤ a +ℤ k +ℤ y ≡ pos 0 → y ≡ negsuc 0 *ℤ x *ℤ a +ℤ negsuc 0 *ℤ k
        down x a k y e = omega (arith, ints, e, ring (x ∷ a ∷ []) (num (negsuc 0) ⊗ var 0 ⊗ var 1) (num (negsuc 0) ⊗ (var 0 ⊗ var 1)) tt)

        by_sign : (z : ℤ) → g ≡ z → (g : ℤ) × (k : ℤ) × (p : List ℤ) × IsLevel d q vs g k p
        by_sign (pos (suc n)) e = (
          g,
          k,
          scale (negsuc 0) p,
          record {
            dimension = length-scale (negsuc 0) p ∙ lp;
            multiple = omega (arith, ints, e);
            each = λ v c. polar-scaled q v p (negsuc 0) ∙ up g (value q v) k (polar q v p) (at v c);
          },
        )
        by_sign (negsuc n) e = (
          negsuc 0 *ℤ g,
          negsuc 0 *ℤ k,
          p,
          record {
            dimension = lp;
            multiple = omega (arith, ints, e);
            each = λ v c. down g (value q v) k (polar q v p) (at v c);
          },
        )
        by_sign (pos zero) e =
            let f = flat d q vs k p pd s lp (λ v c. omega (arith, ints, at v c, ap (λ (z : ℤ). z *ℤ value q v) e, zero_mul_z (value q v))) in
            absurd (h.some (ap₂ (λ (x : ℤ) (l : List ℤ). number_at h.place (x ∷ l)) e (ap₂ (λ (x : ℤ) (l : List ℤ). x ∷ l) f.1 f.0) ∙ number_at-zeros (suc (suc d)) h.place))

-- Q[g v - p]
pub distance : (d : ℕ) (q : List ℤ) (g : ℤ) (v p : List ℤ) → length v ≡ d → length p ≡ d → value q (minus (scale g v) p) ≡ g *ℤ g *ℤ value q v +ℤ value q p -ℤ g *ℤ polar q v p
distance d q g v p lv lp =
    let ls : length (scale g v) ≡ length p = length-scale g v ∙ lv ∙ sym lp in
    let e1 = value-difference q (scale g v) p ls in
    let e2 : value q (scale g v) ≡ g *ℤ g *ℤ value q v = ap (dot q) (squares-scale g v) ∙ dot-scale q (g *ℤ g) (squares v) in
    let e3 : polar q (scale g v) p ≡ g *ℤ polar q v p = polar_comm q (scale g v) p ls ∙ polar-scaled q p v g ∙ ap (λ (z : ℤ). g *ℤ z) (polar_comm q p v (lp ∙ sym lv)) in
    omega (arith, ints, e1, e2, e3)

pub centres_exist : (d : ℕ) (q : List ℤ) (vs : List (List ℤ)) → IsPositiveDefinite d q → IsSimplex d vs → (n : ℤ) × (e : ℤ) × (g : ℤ) × (p : List ℤ) × IsCentre d q vs n e g p
unfolding HasLevel
centres_exist d q vs pd s = go (has_level d q vs pd s)
  where
    end : (g a b k y x : ℤ) → y ≡ g *ℤ a +ℤ k → x ≡ g *ℤ g *ℤ a +ℤ b -ℤ g *ℤ y → g *ℤ g *ℤ x ≡ (b -ℤ g *ℤ k) *ℤ (g *ℤ g)
    end g a b k y x e f =
        ring_by_two (g ∷ a ∷ b ∷ k ∷ y ∷ x ∷ []) (var 0 ⊗ var 0 ⊗ var 5) ((var 2 ⊖ var 0 ⊗ var 3) ⊗ (var 0 ⊗ var 0))
        (var 0 ⊗ var 0) (var 5) (var 0 ⊗ var 0 ⊗ var 1 ⊕ var 2 ⊖ var 0 ⊗ var 4)
        (num (negsuc 0) ⊗ (var 0 ⊗ var 0 ⊗ var 0)) (var 4) (var 0 ⊗ var 1 ⊕ var 3) tt f e

    go : (g : ℤ) × (k : ℤ) × (p : List ℤ) × IsLevel d q vs g k p → (n : ℤ) × (e : ℤ) × (g : ℤ) × (p : List ℤ) × IsCentre d q vs n e g p
    go (g, k, p, h) = (
      value q p -ℤ g *ℤ k,
      g *ℤ g,
      g,
      p,
      record {
        dimension = h.dimension;
        denominator = mul_pos_z g g h.multiple h.multiple;
        multiple = h.multiple;
        through = λ v c. end g (value q v) (value q p) k (polar q v p) (value q (minus (scale g v) p)) (h.each v c) (distance d q g v p (length_of_member d vs v s.points c) h.dimension);
      },
    )

-- ---- it is unique

-- g Q[v] less the polar value of v and p is the same at all vertices, and so are its sums with numbers of one sum
pub level_sum : (d : ℕ) (q : List ℤ) (vs : List (List ℤ)) (n e g m : ℤ) (p z b : List ℤ) (c : ℤ) → IsSimplex d vs → IsCentre d q vs n e g p → length z ≡ d → IsWeighted vs m z c b →
    (k : ℤ) × (e *ℤ g *ℤ k ≡ n *ℤ (g *ℤ g) -ℤ e *ℤ value q p) × (g *ℤ dot b (map (value q) vs) ≡ c *ℤ polar q z p +ℤ total b *ℤ k)
level_sum d q vs n e g m p z b c s h lz w =
    let g_e = mul_pos_z e g h.denominator h.multiple in
    let f : (v : List ℤ) → Contains vs v → e *ℤ g *ℤ (g *ℤ value q v -ℤ polar q v p) ≡ n *ℤ (g *ℤ g) -ℤ e *ℤ value q p = λ v m.
    level (value q v) (value q p) (polar q v p) (value q (minus (scale g v) p)) (h.through v m) (distance d q g v p (length_of_member d vs v s.points m) h.dimension)
    in
    let o = first_vertex d vs s in
    let k : ℤ = g *ℤ value q o.0 -ℤ polar q o.0 p in
    let same : (v : List ℤ) → Contains vs v → g *ℤ value q v +ℤ negsuc 0 *ℤ polar q v p ≡ k = λ v m.
    minus_is (g *ℤ value q v) (polar q v p) ∙ cancel_z (e *ℤ g) (g *ℤ value q v -ℤ polar q v p) k g_e (f v m ∙ sym (f o.0 o.1))
    in
    let e1 = sum_constant (λ v. g *ℤ value q v +ℤ negsuc 0 *ℤ polar q v p) k b vs w.one_each same in
    let e2 = dot-sum b (λ v. g *ℤ value q v) (λ v. negsuc 0 *ℤ polar q v p) vs in
    let e3 = pulled g (value q) b vs in
    let e4 = pulled (negsuc 0) (λ v. polar q v p) b vs in
    let e5 = polar_sum d q vs p z b c s.points h.dimension lz w.point in
    let e7 : negsuc 0 *ℤ dot b (map (λ v. polar q v p) vs) ≡ negsuc 0 *ℤ (c *ℤ polar q z p) = ap (λ (x : ℤ). negsuc 0 *ℤ x) e5 in
    (k, f o.0 o.1, omega (arith, ints, e1, e2, e3, e4, e7))
  where
    minus_is : (a b : ℤ) → a +ℤ negsuc 0 *ℤ b ≡ a -ℤ b
    minus_is a b = omega (arith, ints)

    level : (a b y x : ℤ) → e *ℤ x ≡ n *ℤ (g *ℤ g) → x ≡ g *ℤ g *ℤ a +ℤ b -ℤ g *ℤ y → e *ℤ g *ℤ (g *ℤ a -ℤ y) ≡ n *ℤ (g *ℤ g) -ℤ e *ℤ b
    level a b y x f k =
        ring_by_two (e ∷ g ∷ a ∷ b ∷ y ∷ x ∷ n ∷ []) (var 0 ⊗ var 1 ⊗ (var 1 ⊗ var 2 ⊖ var 4)) (var 6 ⊗ (var 1 ⊗ var 1) ⊖ var 0 ⊗ var 3)
        (num (pos 1)) (var 0 ⊗ var 5) (var 6 ⊗ (var 1 ⊗ var 1))
        (num (negsuc 0) ⊗ var 0) (var 5) (var 1 ⊗ var 1 ⊗ var 2 ⊕ var 3 ⊖ var 1 ⊗ var 4) tt f k

balanced : (d : ℕ) (q : List ℤ) (vs : List (List ℤ)) (n e g : ℤ) (p z b : List ℤ) (c : ℤ) → IsSimplex d vs → IsCentre d q vs n e g p → length z ≡ d → IsWeighted vs (pos 0) z c b → g *ℤ dot b (map (value q) vs) ≡ c *ℤ polar q z p
balanced d q vs n e g p z b c s h lz w =
    let r = level_sum d q vs n e g (pos 0) p z b c s h lz w in
    let none : total b *ℤ r.0 ≡ pos 0 = ap (λ (x : ℤ). x *ℤ r.0) w.sum ∙ ring (c ∷ r.0 ∷ []) (var 0 ⊗ num (pos 0) ⊗ var 1) (num (pos 0)) tt in
    omega (arith, ints, r.2, none)

pub centres_are_unique : (d : ℕ) (q : List ℤ) (vs : List (List ℤ)) (n e g n' e' g' : ℤ) (p p' : List ℤ) → IsPositiveDefinite d q → IsSimplex d vs → IsCentre d q vs n e g p → IsCentre d q vs n' e' g' p' →
    (scale g' p ≡ scale g p') × (n *ℤ e' ≡ n' *ℤ e)
centres_are_unique d q vs n e g n' e' g' p p' pd s h h' = (same, radii (first_vertex d vs s))
  where
    l1 : length (scale g' p) ≡ d
    l1 = length-scale g' p ∙ h.dimension

    l2 : length (scale g p') ≡ d
    l2 = length-scale g p' ∙ h'.dimension

    z : List ℤ
    z = minus (scale g' p) (scale g p')

    lz : length z ≡ d
    lz = length-plus (scale g' p) (scale (negsuc 0) (scale g p')) (l1 ∙ sym l2 ∙ sym (length-scale (negsuc 0) (scale g p'))) ∙ l1

    split : (u : List ℤ) → dot u z ≡ g' *ℤ dot u p -ℤ g *ℤ dot u p'
    split u = dot-plus u (scale g' p) (scale (negsuc 0) (scale g p')) ∙ ap₂ (λ (a b : ℤ). a +ℤ b) (dot-scale u g' p) (dot-scale u (negsuc 0) (scale g p') ∙ ap (λ (a : ℤ). negsuc 0 *ℤ a) (dot-scale u g p')) ∙ omega (arith, ints)

    -- the polar value of z with itself by those with p and p'
    own : polar q z z ≡ g' *ℤ polar q z p -ℤ g *ℤ polar q z p'
    own =
        let r = gradient q z in
        let at : (y : List ℤ) → length y ≡ d → dot r.0 y ≡ polar q z y = λ y l. sym (r.1 y (l ∙ sym lz)) ∙ polar_comm q y z (l ∙ sym lz) in
        sym (at z lz) ∙ split r.0 ∙ ap₂ (λ (a b : ℤ). g' *ℤ a -ℤ g *ℤ b) (at p h.dimension) (at p' h'.dimension)

    end : (c a b x y : ℤ) → g *ℤ x ≡ c *ℤ a → g' *ℤ x ≡ c *ℤ b → y ≡ g' *ℤ a -ℤ g *ℤ b → c *ℤ y ≡ pos 0
    end c a b x y e1 e2 e3 =
        ap (λ (t : ℤ). c *ℤ t) e3 ∙ ring_by_two (c ∷ a ∷ b ∷ x ∷ g ∷ g' ∷ []) (var 0 ⊗ (var 5 ⊗ var 1 ⊖ var 4 ⊗ var 2)) (num (pos 0))
        (num (negsuc 0) ⊗ var 5) (var 4 ⊗ var 3) (var 0 ⊗ var 1) (var 4) (var 5 ⊗ var 3) (var 0 ⊗ var 2) tt e1 e2

    none : z ≡ zeros d
    none =
        let w = has_weighted d vs (pos 0) z s lz in
        let is = w.is in
        let e1 = balanced d q vs n e g p z w.b w.c s h lz is in
        let e2 = balanced d q vs n' e' g' p' z w.b w.c s h' lz is in
        none_at d q z pd lz (cancel_z w.c (polar q z z) (pos 0) is.positive (end w.c (polar q z p) (polar q z p') (dot w.b (map (value q) vs)) (polar q z z) e1 e2 own ∙ sym (mul_zero_z w.c)))

    dots : (u : List ℤ) → g' *ℤ dot u p ≡ g *ℤ dot u p'
    dots u = omega (arith, ints, split u, ap (dot u) none ∙ dot_comm u (zeros d) ∙ zeros-dot d u)

    same : scale g' p ≡ scale g p'
    same = same_from_dots (scale g' p) (scale g p') (l1 ∙ sym l2) (λ u. dot-scale u g' p ∙ dots u ∙ sym (dot-scale u g p'))

    radii : (v : List ℤ) × Contains vs v → n *ℤ e' ≡ n' *ℤ e
    radii (v, c) =
        let lv = length_of_member d vs v s.points c in
        let x : List ℤ = minus (scale g v) p in
        let x' : List ℤ = minus (scale g' v) p' in
        let lx : length x ≡ d = long g v p lv h.dimension in
        let lx' : length x' ≡ d = long g' v p' lv h'.dimension in
        let agree : scale g' x ≡ scale g x' =
        same_from_dots (scale g' x) (scale g x') (length-scale g' x ∙ lx ∙ sym (length-scale g x' ∙ lx')) (λ u. turn (dot u v) (dot u p) (dot u p') (dot u x) (dot u x') (parts u g v p) (parts u g' v p') (dots u) (dot-scale u g' x) (dot-scale u g x')) in
        let squares_agree : g' *ℤ g' *ℤ value q x ≡ g *ℤ g *ℤ value q x' = sym (scaled g' x) ∙ ap (value q) agree ∙ scaled g x' in
        finish (value q x) (value q x') squares_agree (h.through v c) (h'.through v c)
      where
        long : (k : ℤ) (v p : List ℤ) → length v ≡ d → length p ≡ d → length (minus (scale k v) p) ≡ d
        long k v p a b = length-plus (scale k v) (scale (negsuc 0) p) (length-scale k v ∙ a ∙ sym (length-scale (negsuc 0) p ∙ b)) ∙ length-scale k v ∙ a

        parts : (u : List ℤ) (k : ℤ) (v p : List ℤ) → dot u (minus (scale k v) p) ≡ k *ℤ dot u v -ℤ dot u p
        parts u k v p = dot-plus u (scale k v) (scale (negsuc 0) p) ∙ ap₂ (λ (a b : ℤ). a +ℤ b) (dot-scale u k v) (dot-scale u (negsuc 0) p) ∙ omega (arith, ints)

        scaled : (k : ℤ) (x : List ℤ) → value q (scale k x) ≡ k *ℤ k *ℤ value q x
        scaled k x = ap (dot q) (squares-scale k x) ∙ dot-scale q (k *ℤ k) (squares x)

        turn : (a b b' y y' : ℤ) → y ≡ g *ℤ a -ℤ b → y' ≡ g' *ℤ a -ℤ b' → g' *ℤ b ≡ g *ℤ b' → {l r : ℤ} → l ≡ g' *ℤ y → r ≡ g *ℤ y' → l ≡ r
        turn a b b' y y' e1 e2 e3 e4 e5 =
            let f1 : g' *ℤ y ≡ g' *ℤ (g *ℤ a -ℤ b) = ap (λ (t : ℤ). g' *ℤ t) e1 in
            let f2 : g *ℤ y' ≡ g *ℤ (g' *ℤ a -ℤ b') = ap (λ (t : ℤ). g *ℤ t) e2 in
            let f3 : g' *ℤ (g *ℤ a -ℤ b) ≡ g *ℤ (g' *ℤ a -ℤ b') = ring_by (g ∷ g' ∷ a ∷ b ∷ b' ∷ []) (var 1 ⊗ (var 0 ⊗ var 2 ⊖ var 3)) (var 0 ⊗ (var 1 ⊗ var 2 ⊖ var 4)) (num (negsuc 0)) (var 1 ⊗ var 3) (var 0 ⊗ var 4) tt e3 in
            e4 ∙ f1 ∙ f3 ∙ sym f2 ∙ sym e5

        finish : (y y' : ℤ) → g' *ℤ g' *ℤ y ≡ g *ℤ g *ℤ y' → e *ℤ y ≡ n *ℤ (g *ℤ g) → e' *ℤ y' ≡ n' *ℤ (g' *ℤ g') → n *ℤ e' ≡ n' *ℤ e
        finish y y' a b b' =
            let k : ℤ = g *ℤ g *ℤ (g' *ℤ g') in
            let k_pos : pos 0 <ℤ k = mul_pos_z (g *ℤ g) (g' *ℤ g') (mul_pos_z g g h.multiple h.multiple) (mul_pos_z g' g' h'.multiple h'.multiple) in
            let left : k *ℤ (n *ℤ e') ≡ e' *ℤ e *ℤ (g' *ℤ g' *ℤ y) = ring_by (g ∷ g' ∷ n ∷ e ∷ e' ∷ y ∷ []) (var 0 ⊗ var 0 ⊗ (var 1 ⊗ var 1) ⊗ (var 2 ⊗ var 4)) (var 4 ⊗ var 3 ⊗ (var 1 ⊗ var 1 ⊗ var 5)) (num (negsuc 0) ⊗ (var 1 ⊗ var 1 ⊗ var 4)) (var 3 ⊗ var 5) (var 2 ⊗ (var 0 ⊗ var 0)) tt b in
            let right : k *ℤ (n' *ℤ e) ≡ e' *ℤ e *ℤ (g *ℤ g *ℤ y') = ring_by (g ∷ g' ∷ n' ∷ e ∷ e' ∷ y' ∷ []) (var 0 ⊗ var 0 ⊗ (var 1 ⊗ var 1) ⊗ (var 2 ⊗ var 3)) (var 4 ⊗ var 3 ⊗ (var 0 ⊗ var 0 ⊗ var 5)) (num (negsuc 0) ⊗ (var 0 ⊗ var 0 ⊗ var 3)) (var 4 ⊗ var 5) (var 2 ⊗ (var 1 ⊗ var 1)) tt b' in
            cancel_z k (n *ℤ e') (n' *ℤ e) k_pos (left ∙ ap (λ (t : ℤ). e' *ℤ e *ℤ t) a ∙ sym right)

-- ---- over a strictly empty simplex no integer point is nearer to the centre

pub balls_are_empty : (d : ℕ) (q : List ℤ) (vs : List (List ℤ)) (n e g : ℤ) (p : List ℤ) → IsSimplex d vs → IsStrictlyEmpty d q vs → IsCentre d q vs n e g p → (x : List ℤ) → length x ≡ d →
    ((n *ℤ (g *ℤ g)) ≤ℤ (e *ℤ value q (minus (scale g x) p))) × (e *ℤ value q (minus (scale g x) p) ≡ n *ℤ (g *ℤ g) → Contains vs x)
balls_are_empty d q vs n e g p s empty h x lx =
    let w = has_weighted d vs (pos 1) x s lx in
    let is = w.is in
    let ex = expressed vs x w.c w.b is in
    let r = level_sum d q vs n e g (pos 1) p x w.b w.c s h lx is in
    let total_is : total w.b ≡ w.c = ex.sum in
    let tie : w.c *ℤ (e *ℤ value q (minus (scale g x) p) -ℤ n *ℤ (g *ℤ g)) ≡ e *ℤ g *ℤ g *ℤ excess q vs x w.c w.b =
    tied w.c r.0 (value q x) (value q p) (polar q x p) (dot w.b (map (value q) vs)) (value q (minus (scale g x) p)) r.1 (r.2 ∙ ap (λ (t : ℤ). w.c *ℤ polar q x p +ℤ t *ℤ r.0) total_is) (distance d q g x p lx h.dimension)
    in
    let factor : pos 0 <ℤ (e *ℤ g *ℤ g) = mul_pos_z (e *ℤ g) g (mul_pos_z e g h.denominator h.multiple) h.multiple in
    let low = mul_nonneg_z (e *ℤ g *ℤ g) (excess q vs x w.c w.b) (omega (arith, ints, factor)) (empty.outside x w.c w.b lx ex) in
    let zero : w.c *ℤ pos 0 ≡ pos 0 = mul_zero_z w.c in (
      below (n *ℤ (g *ℤ g)) (e *ℤ value q (minus (scale g x) p)) (le_of_mul_le_mul_z w.c (pos 0) (e *ℤ value q (minus (scale g x) p) -ℤ n *ℤ (g *ℤ g)) is.positive (omega (arith, ints, tie, low, zero))),
      λ same. empty.touches x w.c w.b lx ex (cancel_z (e *ℤ g *ℤ g) (excess q vs x w.c w.b) (pos 0) factor (sym tie ∙ ap (λ (t : ℤ). w.c *ℤ t) (none (n *ℤ (g *ℤ g)) (e *ℤ value q (minus (scale g x) p)) same) ∙ zero ∙ sym (mul_zero_z (e *ℤ g *ℤ g)))),
    )
  where
    below : (a b : ℤ) → pos 0 ≤ℤ (b -ℤ a) → a ≤ℤ b
    below a b l = omega (arith, ints, l)

    none : (a b : ℤ) → b ≡ a → b -ℤ a ≡ pos 0
    none a b f = omega (arith, ints, f)

    tied : (c k a b y t u : ℤ) → e *ℤ g *ℤ k ≡ n *ℤ (g *ℤ g) -ℤ e *ℤ b → g *ℤ t ≡ c *ℤ y +ℤ c *ℤ k → u ≡ g *ℤ g *ℤ a +ℤ b -ℤ g *ℤ y → c *ℤ (e *ℤ u -ℤ n *ℤ (g *ℤ g)) ≡ e *ℤ g *ℤ g *ℤ (c *ℤ a -ℤ t)
    tied c k a b y t u f1 f2 f3 =
        let v1 : n *ℤ (g *ℤ g) ≡ e *ℤ g *ℤ k +ℤ e *ℤ b = omega (arith, ints, f1) in
        let v2 : c *ℤ (e *ℤ u -ℤ n *ℤ (g *ℤ g)) ≡ c *ℤ (e *ℤ (g *ℤ g *ℤ a +ℤ b -ℤ g *ℤ y) -ℤ (e *ℤ g *ℤ k +ℤ e *ℤ b)) = ap₂ (λ (r s : ℤ). c *ℤ (e *ℤ r -ℤ s)) f3 v1 in
        v2 ∙ ring_by (c ∷ k ∷ a ∷ b ∷ y ∷ t ∷ e ∷ g ∷ [])
        (var 0 ⊗ (var 6 ⊗ (var 7 ⊗ var 7 ⊗ var 2 ⊕ var 3 ⊖ var 7 ⊗ var 4) ⊖ (var 6 ⊗ var 7 ⊗ var 1 ⊕ var 6 ⊗ var 3)))
        (var 6 ⊗ var 7 ⊗ var 7 ⊗ (var 0 ⊗ var 2 ⊖ var 5))
        (var 6 ⊗ var 7) (var 7 ⊗ var 5) (var 0 ⊗ var 4 ⊕ var 0 ⊗ var 1) tt f2
