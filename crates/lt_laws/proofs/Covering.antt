-- The circumradii of a Delaunay triangulation cover.
use Rattle.std.proofs.Common.{◌≡◌, ℕ, ℤ, pos, negsuc, neg_ℤ, ◌+ℤ◌, ◌-ℤ◌, ◌*ℤ◌, ◌<ℤ◌, ◌≤ℤ◌, ap, ap₂, arith, sym, ◌∙◌, List, [], ◌∷◌, length, map, ◌⊎◌, inl, inr}
use Rattle.std.proofs.lemmas.Int.{ints, by_lt_z}
use Rattle.std.specs.List.{Contains, AllByRecursion}
use Rattle.lt_model.proofs.Integers.{mul_zero_z}
use Rattle.lt_model.proofs.Ring.{ring, ring_by_two, var, num, ◌⊕◌, ◌⊖◌, ◌⊗◌}
use Rattle.lt_model.proofs.Inequalities.{mul_pos_z, mul_nonneg_z, mul_le_mul_z, le_of_mul_le_mul_z}
use Rattle.lt_model.proofs.Vectors.{dot-plus, dot-scale}
use Rattle.lt_model.proofs.Squares.{length-scale, length-plus, squares-scale}
use Rattle.lt_model.proofs.Excess.{dot-sum, dot-constant, map-same, same_from_dots}
use Rattle.lt_model.proofs.Walk.{IsWeighted}
use Rattle.lt_model.proofs.Moved.{simplex_moved, translate_all}
use Rattle.lt_model.proofs.Sets.{Contains-head, Contains-tail}
use Rattle.lt_model.specs.Vectors.{plus, minus, scale, dot, total}
use Rattle.lt_model.specs.Forms.{squares, value, polar, IsPositiveDefinite}
use Rattle.lt_model.specs.Simplices.{AllOfDimension, IsSimplex, translate}
use Rattle.lt_model.specs.Triangulations.{IsDelaunay}
use Rattle.lt_model.proofs.Translates.{from_translate}
use Rattle.lt_geometry.proofs.Values.{value_not_negative}
use Rattle.lt_geometry.proofs.Motions.{length_of_member}
use Rattle.lt_laws.specs.Circumradii.{IsCentre}
use Rattle.lt_laws.specs.Covering.{IsCovered}
use Rattle.lt_laws.proofs.Circumradii.{polar_sum, polar-scaled, pulled, distance, level_sum, centres_exist}
use Rattle.lt_laws.proofs.Halves.{twice_value}
use Rattle.lt_laws.proofs.Holding.{holding}

-- ---- the centre of a translate

pub centre_moved : (d : ℕ) (q : List ℤ) (vs : List (List ℤ)) (n e g : ℤ) (c p : List ℤ) → AllOfDimension d vs → length p ≡ d → IsCentre d q vs n e g c → IsCentre d q (translate p vs) n e g (plus c (scale g p))
centre_moved d q vs n e g c p all lp h = record {
  dimension = lm;
  denominator = h.denominator;
  multiple = h.multiple;
  through = λ x m. let (v, cv, is) = from_translate p vs x m in ap (λ (y : List ℤ). e *ℤ value q y) (same v x (length_of_member d vs v all cv) is) ∙ h.through v cv;
}
  where
    lm : length (plus c (scale g p)) ≡ d
    lm = length-plus c (scale g p) (h.dimension ∙ sym (length-scale g p ∙ lp)) ∙ h.dimension

    long : (v c : List ℤ) → length v ≡ d → length c ≡ d → length (minus (scale g v) c) ≡ d
    long v c a b = length-plus (scale g v) (scale (negsuc 0) c) (length-scale g v ∙ a ∙ sym (length-scale (negsuc 0) c ∙ b)) ∙ length-scale g v ∙ a

    parts : (u v c : List ℤ) → dot u (minus (scale g v) c) ≡ g *ℤ dot u v -ℤ dot u c
    parts u v c = dot-plus u (scale g v) (scale (negsuc 0) c) ∙ ap₂ (λ (a b : ℤ). a +ℤ b) (dot-scale u g v) (dot-scale u (negsuc 0) c) ∙ omega (arith, ints)

    same : (v x : List ℤ) → length v ≡ d → plus v p ≡ x → minus (scale g x) (plus c (scale g p)) ≡ minus (scale g v) c
    same v x lv is =
        let lx : length x ≡ d = ap length (sym is) ∙ length-plus v p (lv ∙ sym lp) ∙ lv in
        same_from_dots (minus (scale g x) (plus c (scale g p))) (minus (scale g v) c) (long x (plus c (scale g p)) lx lm ∙ sym (long v c lv h.dimension))
        (λ u.
        let e1 : dot u x ≡ dot u v +ℤ dot u p = ap (dot u) (sym is) ∙ dot-plus u v p in
        let e2 : g *ℤ dot u x ≡ g *ℤ dot u v +ℤ g *ℤ dot u p = ap (λ (z : ℤ). g *ℤ z) e1 ∙ ring (g ∷ dot u v ∷ dot u p ∷ []) (var 0 ⊗ (var 1 ⊕ var 2)) (var 0 ⊗ var 1 ⊕ var 0 ⊗ var 2) tt in
        omega (arith, ints, parts u x (plus c (scale g p)), parts u v c, e2, dot-plus u c (scale g p), dot-scale u g p))

-- ---- a vertex that is near

some_or_below : (f : List ℤ → ℤ) (b : List ℤ) (vs : List (List ℤ)) → length b ≡ length vs → AllByRecursion (λ z. pos 0 ≤ℤ z) b → ((v : List ℤ) × Contains vs v × (pos 0 ≤ℤ f v)) ⊎ (dot b (map f vs) ≤ℤ neg_ℤ (total b))
some_or_below f [] vs l p = inr (omega (arith, ints))
some_or_below f (a ∷ b) [] l p = absurd (omega arith)
some_or_below f (a ∷ b) (v ∷ vs) l p = by_lt_z (f v) (pos 0) (λ low. go low (some_or_below f b vs (omega arith) p.1)) (λ high. inl (v, Contains-head v vs, high))
  where
    go : f v <ℤ pos 0 → ((u : List ℤ) × Contains vs u × (pos 0 ≤ℤ f u)) ⊎ (dot b (map f vs) ≤ℤ neg_ℤ (total b)) → ((u : List ℤ) × Contains (v ∷ vs) u × (pos 0 ≤ℤ f u)) ⊎ (dot (a ∷ b) (map f (v ∷ vs)) ≤ℤ neg_ℤ (total (a ∷ b)))
    go low (inl r) = inl (r.0, Contains-tail v vs r.0 r.1, r.2)
    go low (inr r) =
        let e : (a *ℤ f v) ≤ℤ (a *ℤ negsuc 0) = mul_le_mul_z a (f v) (negsuc 0) p.0 (omega (arith, ints, low)) in
        let g : a *ℤ negsuc 0 ≡ neg_ℤ a = omega (arith, ints) in
        inr (omega (arith, ints, r, e, g))

-- n m^2 less e times the squared distance of v from x / m, times m^2
abbrev room : List ℤ → ℤ → ℤ → ℤ → List ℤ → List ℤ → ℤ
room q n e m x v = n *ℤ (m *ℤ m) -ℤ e *ℤ value q (minus (scale m v) x)

rooms : (d : ℕ) (q : List ℤ) (vs : List (List ℤ)) (n e m : ℤ) (x b : List ℤ) (c : ℤ) → AllOfDimension d vs → length x ≡ d → IsWeighted vs m x c b → dot b (map (room q n e m x) vs) ≡ c *ℤ m *ℤ (n *ℤ (m *ℤ m) +ℤ e *ℤ value q x) -ℤ e *ℤ (m *ℤ m) *ℤ dot b (map (value q) vs)
rooms d q vs n e m x b c all lx w =
    let k : ℤ = n *ℤ (m *ℤ m) -ℤ e *ℤ value q x in
    let r : ℤ = negsuc 0 *ℤ (e *ℤ (m *ℤ m)) in
    let o : ℤ = e *ℤ m in
    let each : (v : List ℤ) → length v ≡ d → n *ℤ (m *ℤ m) -ℤ e *ℤ value q (minus (scale m v) x) ≡ k +ℤ (r *ℤ value q v +ℤ o *ℤ polar q v x) = λ v lv.
    ap (λ (z : ℤ). n *ℤ (m *ℤ m) -ℤ e *ℤ z) (distance d q m v x lv lx)
    ∙ ring (n ∷ m ∷ e ∷ value q x ∷ value q v ∷ polar q v x ∷ [])
    (var 0 ⊗ (var 1 ⊗ var 1) ⊖ var 2 ⊗ (var 1 ⊗ var 1 ⊗ var 4 ⊕ var 3 ⊖ var 1 ⊗ var 5))
    (var 0 ⊗ (var 1 ⊗ var 1) ⊖ var 2 ⊗ var 3 ⊕ (num (negsuc 0) ⊗ (var 2 ⊗ (var 1 ⊗ var 1)) ⊗ var 4 ⊕ var 2 ⊗ var 1 ⊗ var 5)) tt
    in
    let e1 = ap (dot b) (map-same d (λ v. n *ℤ (m *ℤ m) -ℤ e *ℤ value q (minus (scale m v) x)) (λ v. k +ℤ (r *ℤ value q v +ℤ o *ℤ polar q v x)) vs all each) in
    let e2 = dot-sum b (λ v. k) (λ v. r *ℤ value q v +ℤ o *ℤ polar q v x) vs in
    let e3 = dot-constant b k vs w.one_each in
    let e4 = dot-sum b (λ v. r *ℤ value q v) (λ v. o *ℤ polar q v x) vs in
    let e5 = pulled r (value q) b vs in
    let e6 = pulled o (λ v. polar q v x) b vs in
    let e7 : dot b (map (λ v. polar q v x) vs) ≡ c *ℤ (pos 2 *ℤ value q x) = polar_sum d q vs x x b c all lx lx w.point ∙ ap (λ (z : ℤ). c *ℤ z) (twice_value d q x lx) in
    let e8 : total b *ℤ k ≡ c *ℤ m *ℤ k = ap (λ (z : ℤ). z *ℤ k) w.sum in
    let e9 : o *ℤ dot b (map (λ v. polar q v x) vs) ≡ o *ℤ (c *ℤ (pos 2 *ℤ value q x)) = ap (λ (z : ℤ). o *ℤ z) e7 in
    let last : c *ℤ m *ℤ k +ℤ (r *ℤ dot b (map (value q) vs) +ℤ o *ℤ (c *ℤ (pos 2 *ℤ value q x))) ≡ c *ℤ m *ℤ (n *ℤ (m *ℤ m) +ℤ e *ℤ value q x) -ℤ e *ℤ (m *ℤ m) *ℤ dot b (map (value q) vs) =
    ring (n ∷ m ∷ e ∷ value q x ∷ dot b (map (value q) vs) ∷ c ∷ [])
    (var 5 ⊗ var 1 ⊗ (var 0 ⊗ (var 1 ⊗ var 1) ⊖ var 2 ⊗ var 3) ⊕ (num (negsuc 0) ⊗ (var 2 ⊗ (var 1 ⊗ var 1)) ⊗ var 4 ⊕ var 2 ⊗ var 1 ⊗ (var 5 ⊗ (num (pos 2) ⊗ var 3))))
    (var 5 ⊗ var 1 ⊗ (var 0 ⊗ (var 1 ⊗ var 1) ⊕ var 2 ⊗ var 3) ⊖ var 2 ⊗ (var 1 ⊗ var 1) ⊗ var 4) tt
    in
    e1 ∙ e2 ∙ ap₂ (λ (y z : ℤ). y +ℤ z) (e3 ∙ e8) (e4 ∙ ap₂ (λ (y z : ℤ). y +ℤ z) e5 (e6 ∙ e9)) ∙ last

near_vertex : (d : ℕ) (q : List ℤ) (vs : List (List ℤ)) (n e g m : ℤ) (p x b : List ℤ) (c : ℤ) → IsPositiveDefinite d q → IsSimplex d vs → IsCentre d q vs n e g p → pos 0 <ℤ m → length x ≡ d → IsWeighted vs m x c b → AllByRecursion (λ z. pos 0 ≤ℤ z) b →
    (v : List ℤ) × Contains vs v × ((e *ℤ value q (minus (scale m v) x)) ≤ℤ (n *ℤ (m *ℤ m)))
near_vertex d q vs n e g m p x b c pd s h pm lx w inside = pick (some_or_below (room q n e m x) b vs w.one_each inside)
  where
    k : (k : ℤ) × (e *ℤ g *ℤ k ≡ n *ℤ (g *ℤ g) -ℤ e *ℤ value q p) × (g *ℤ dot b (map (value q) vs) ≡ c *ℤ polar q x p +ℤ total b *ℤ k)
    k = level_sum d q vs n e g m p x b c s h lx w

    y : List ℤ
    y = minus (scale g x) (scale m p)

    ly : length y ≡ d
    ly = length-plus (scale g x) (scale (negsuc 0) (scale m p)) (length-scale g x ∙ lx ∙ sym (length-scale (negsuc 0) (scale m p) ∙ length-scale m p ∙ h.dimension)) ∙ length-scale g x ∙ lx

    y_value : value q y ≡ g *ℤ g *ℤ value q x +ℤ m *ℤ m *ℤ value q p -ℤ g *ℤ (m *ℤ polar q x p)
    y_value = distance d q g x (scale m p) lx (length-scale m p ∙ h.dimension) ∙ ap₂ (λ (u v : ℤ). g *ℤ g *ℤ value q x +ℤ u -ℤ g *ℤ v) (ap (dot q) (squares-scale m p) ∙ dot-scale q (m *ℤ m) (squares p)) (polar-scaled q x p m)

    all_room : ℤ
    all_room = dot b (map (room q n e m x) vs)

    tied : (a z r t f k : ℤ) → e *ℤ g *ℤ k ≡ n *ℤ (g *ℤ g) -ℤ e *ℤ z → g *ℤ t ≡ c *ℤ r +ℤ c *ℤ m *ℤ k → f ≡ c *ℤ m *ℤ (n *ℤ (m *ℤ m) +ℤ e *ℤ a) -ℤ e *ℤ (m *ℤ m) *ℤ t →
        g *ℤ g *ℤ f ≡ c *ℤ m *ℤ e *ℤ (g *ℤ g *ℤ a +ℤ m *ℤ m *ℤ z -ℤ g *ℤ (m *ℤ r))
    tied a z r t f k f1 f2 f3 =
        ap (λ (v : ℤ). g *ℤ g *ℤ v) f3
        ∙ ring_by_two (a ∷ z ∷ r ∷ t ∷ k ∷ e ∷ g ∷ n ∷ c ∷ m ∷ [])
        (var 6 ⊗ var 6 ⊗ (var 8 ⊗ var 9 ⊗ (var 7 ⊗ (var 9 ⊗ var 9) ⊕ var 5 ⊗ var 0) ⊖ var 5 ⊗ (var 9 ⊗ var 9) ⊗ var 3))
        (var 8 ⊗ var 9 ⊗ var 5 ⊗ (var 6 ⊗ var 6 ⊗ var 0 ⊕ var 9 ⊗ var 9 ⊗ var 1 ⊖ var 6 ⊗ (var 9 ⊗ var 2)))
        (num (negsuc 0) ⊗ (var 9 ⊗ var 9 ⊗ var 9 ⊗ var 8)) (var 5 ⊗ var 6 ⊗ var 4) (var 7 ⊗ (var 6 ⊗ var 6) ⊖ var 5 ⊗ var 1)
        (num (negsuc 0) ⊗ (var 5 ⊗ (var 9 ⊗ var 9) ⊗ var 6)) (var 6 ⊗ var 3) (var 8 ⊗ var 2 ⊕ var 8 ⊗ var 9 ⊗ var 4) tt f1 f2

    enough : pos 0 ≤ℤ all_room
    enough =
        let e1 : g *ℤ g *ℤ all_room ≡ c *ℤ m *ℤ e *ℤ value q y =
        tied (value q x) (value q p) (polar q x p) (dot b (map (value q) vs)) all_room k.0 k.1 (k.2 ∙ ap (λ (z : ℤ). c *ℤ polar q x p +ℤ z *ℤ k.0) w.sum) (rooms d q vs n e m x b c s.points lx w)
        ∙ ap (λ (z : ℤ). c *ℤ m *ℤ e *ℤ z) (sym y_value)
        in
        let factor = mul_pos_z (c *ℤ m) e (mul_pos_z c m w.positive pm) h.denominator in
        let e2 = mul_nonneg_z (c *ℤ m *ℤ e) (value q y) (omega (arith, ints, factor)) (value_not_negative d q y pd ly) in
        le_of_mul_le_mul_z (g *ℤ g) (pos 0) all_room (mul_pos_z g g h.multiple h.multiple) (omega (arith, ints, e1, e2, mul_zero_z (g *ℤ g)))

    pick : ((v : List ℤ) × Contains vs v × (pos 0 ≤ℤ room q n e m x v)) ⊎ (dot b (map (room q n e m x) vs) ≤ℤ neg_ℤ (total b)) → (v : List ℤ) × Contains vs v × ((e *ℤ value q (minus (scale m v) x)) ≤ℤ (n *ℤ (m *ℤ m)))
    pick (inl r) = (r.0, r.1, below (e *ℤ value q (minus (scale m r.0) x)) (n *ℤ (m *ℤ m)) r.2)
      where
        below : (a b : ℤ) → pos 0 ≤ℤ (b -ℤ a) → a ≤ℤ b
        below a b l = omega (arith, ints, l)
    pick (inr r) = absurd (omega (arith, ints, r, enough, w.sum, mul_pos_z c m w.positive pm))

pub each_point_is_covered : (d : ℕ) (q : List ℤ) (t : List (List (List ℤ))) (m : ℤ) (x : List ℤ) → IsDelaunay d q t → pos 0 <ℤ m → length x ≡ d → IsCovered d q t m x
each_point_is_covered d q t m x del pm lx =
    let f = holding d q t m x del pm lx in
    let at = f.1 in
    let s : List (List ℤ) = at.s in
    let simplex : IsSimplex d s = ((del.members s).0 at.there.member).0.simplex in
    let (n, e, g, c, h) = centres_exist d q s del.positive simplex in
    let moved = centre_moved d q s n e g c at.p simplex.points at.there.dimension h in
    let v = near_vertex d q (translate at.p s) n e g m (plus c (scale g at.p)) x at.b f.0 del.positive (simplex_moved d s at.p at.there.dimension simplex) moved pm lx at.there.weighted at.inside in
    record {
      owner = s;
      member = at.there.member;
      n = n;
      e = e;
      g = g;
      centre = c;
      is_centre = h;
      shift = at.p;
      dimension = at.there.dimension;
      vertex = v.0;
      is_vertex = v.1;
      near = v.2;
    }

pub greatest_covers : (d : ℕ) (q : List ℤ) (t : List (List (List ℤ))) (n e : ℤ) → IsDelaunay d q t → pos 0 <ℤ e →
    ((s : List (List ℤ)) (n' e' g : ℤ) (c : List ℤ) → Contains t s → IsCentre d q s n' e' g c → (n' *ℤ e) ≤ℤ (n *ℤ e')) → (m : ℤ) (x : List ℤ) → pos 0 <ℤ m → length x ≡ d →
    (v : List ℤ) × (length v ≡ d) × ((e *ℤ value q (minus (scale m v) x)) ≤ℤ (n *ℤ (m *ℤ m)))
greatest_covers d q t n e del pe bound m x pm lx =
    let h = each_point_is_covered d q t m x del pm lx in
    let points = translate_all d h.shift h.owner h.dimension ((del.members h.owner).0 h.member).0.simplex.points in
    (h.vertex, length_of_member d (translate h.shift h.owner) h.vertex points h.is_vertex, end h.n h.e (value q (minus (scale m h.vertex) x)) h.is_centre.denominator h.near (bound h.owner h.n h.e h.g h.centre h.member h.is_centre))
  where
    end : (n' e' y : ℤ) → pos 0 <ℤ e' → (e' *ℤ y) ≤ℤ (n' *ℤ (m *ℤ m)) → (n' *ℤ e) ≤ℤ (n *ℤ e') → (e *ℤ y) ≤ℤ (n *ℤ (m *ℤ m))
    end n' e' y pe' near low =
        let a = mul_le_mul_z e (e' *ℤ y) (n' *ℤ (m *ℤ m)) (omega (arith, ints, pe)) near in
        let b = mul_le_mul_z (m *ℤ m) (n' *ℤ e) (n *ℤ e') (omega (arith, ints, mul_pos_z m m pm pm)) low in
        let a1 : e *ℤ (e' *ℤ y) ≡ e' *ℤ (e *ℤ y) = ring (e ∷ e' ∷ y ∷ []) (var 0 ⊗ (var 1 ⊗ var 2)) (var 1 ⊗ (var 0 ⊗ var 2)) tt in
        let a2 : e *ℤ (n' *ℤ (m *ℤ m)) ≡ m *ℤ m *ℤ (n' *ℤ e) = ring (e ∷ n' ∷ m ∷ []) (var 0 ⊗ (var 1 ⊗ (var 2 ⊗ var 2))) (var 2 ⊗ var 2 ⊗ (var 1 ⊗ var 0)) tt in
        let b2 : m *ℤ m *ℤ (n *ℤ e') ≡ e' *ℤ (n *ℤ (m *ℤ m)) = ring (m ∷ n ∷ e' ∷ []) (var 0 ⊗ var 0 ⊗ (var 1 ⊗ var 2)) (var 2 ⊗ (var 1 ⊗ (var 0 ⊗ var 0))) tt in
        le_of_mul_le_mul_z e' (e *ℤ y) (n *ℤ (m *ℤ m)) pe' (omega (arith, ints, a, b, a1, a2, b2))
