-- The members of a Delaunay triangulation with short edges, and how large the products of their vertices are.
use Rattle.std.proofs.Common.{◌≡◌, ℕ, ℤ, pos, ◌+ℤ◌, ◌-ℤ◌, ◌≤ℤ◌, ◌≤◌, ◌<◌, ◌*◌, ◌^◌, refl, ap, arith, sym, ◌∙◌, subst, List, [], length, get_or, nat_abs}
use Rattle.std.proofs.lemmas.Int.{ints}
use Rattle.std.specs.List.{All, Contains}
use Rattle.std.specs.declared.cmp.Ordering.{Ordering}
use Rattle.std.specs.declared.cmp.Ordering.TheVariants.{Less, Equal, Greater}
use Rattle.std.specs.Ordering.{ordering_reverse}
use Rattle.std.proofs.lemmas.List.Elements.{Contains-get_or}
use Rattle.lt_model.proofs.Sets.{number_list_cmp_total}
use Rattle.lt_model.proofs.Squares.{value-difference}
use Rattle.lt_model.specs.Order.{number_list_cmp}
use Rattle.lt_model.specs.Vectors.{minus, zeros}
use Rattle.lt_model.specs.Forms.{value, polar, IsPositiveDefinite}
use Rattle.lt_model.specs.Limits.{span_limit}
use Rattle.lt_model.specs.Simplices.{IsClass}
use Rattle.lt_model.specs.Triangulations.{IsDelaunay}
use Rattle.lt_model.proofs.Points.{minus_itself}
use Rattle.lt_geometry.proofs.Motions.{length_of_member}
use Rattle.lt_geometry.proofs.Parity.{value-zeros}
use Rattle.lt_geometry.proofs.Points.{polar_comm}
use Rattle.lt_geometry.proofs.Values.{value_not_negative}
use Rattle.lt_lattice.specs.Ranges.{IsWithin}
use Rattle.lt_triang.specs.Bounds.{AreNear}
use Rattle.lt_triang.proofs.Gaps.{minus-zeros, small_limit}
use Rattle.lt_triang.proofs.Tied.{equal_points}
use Rattle.lt_laws.specs.Edges.{IsEdge}
use Rattle.lt_laws.proofs.Halves.{length-minus}
use Rattle.lt_locate.proofs.Places.{difference_above}
use Rattle.lt_cover.specs.Gram.{IsMeasured}
use Rattle.lt_cover.specs.Covers.{AreShort}

-- the value at a difference is the same both ways
both_ways : (d : ℕ) (q x y : List ℤ) → length x ≡ d → length y ≡ d → value q (minus x y) ≡ value q (minus y x)
both_ways d q x y lx ly =
    let e1 = value-difference q x y (lx ∙ sym ly) in
    let e2 = value-difference q y x (ly ∙ sym lx) in
    let e3 = polar_comm q x y (lx ∙ sym ly) in
    omega (arith, ints, e1, e2, e3)

module _ (d : ℕ) (q : List ℤ) (t : List (List (List ℤ))) (short : AreShort d q t) where
  -- the value at the difference of two vertices of a member
  differences_short : (s : List (List ℤ)) → IsClass d s → Contains t s → (x y : List ℤ) → Contains s x → Contains s y → pos 0 ≤ℤ value q (minus x y) → (x ≡ y → value q (minus x y) ≡ pos 0) → value q (minus x y) ≤ℤ pos (span_limit d)
  differences_short s k m x y cx cy low none = go (number_list_cmp y x) refl
    where
      lx : length x ≡ d
      lx = length_of_member d s x k.simplex.points cx

      ly : length y ≡ d
      ly = length_of_member d s y k.simplex.points cy

      edge : (from to : List ℤ) → Contains s from → Contains s to → length from ≡ d → length to ≡ d → number_list_cmp from to ≡ Less → IsEdge d t (minus to from)
      edge from to cf ct lf lt e = record { owner = s; member = m; from = from; to = to; has_from = cf; has_to = ct; difference = refl; positive = difference_above d from to lf lt ∙ e }

      go : (o : Ordering) → number_list_cmp y x ≡ o → value q (minus x y) ≤ℤ pos (span_limit d)
      go Less e = short (minus x y) (edge y x cy cx ly lx e)
      go Equal e = let z = none (sym (equal_points y x e)) in omega (arith, ints, z)
      go Greater e =
          let f : number_list_cmp x y ≡ Less = number_list_cmp_total.antisymm x y ∙ ap ordering_reverse e in
          let b = short (minus y x) (edge x y cx cy lx ly f) in
          let w = both_ways d q x y lx ly in
          omega (arith, ints, b, w)

-- the difference of a point and itself
pub none_there : (d : ℕ) (q x y : List ℤ) → IsPositiveDefinite d q → length x ≡ d → length y ≡ d → x ≡ y → value q (minus x y) ≡ pos 0
none_there d q x y h lx ly e =
    let z : minus x y ≡ zeros d = minus_same d x y lx e in
    ap (value q) z ∙ value-zeros d q
  where
    minus_same : (d : ℕ) (x y : List ℤ) → length x ≡ d → x ≡ y → minus x y ≡ zeros d
    minus_same d x y l e = subst (λ (z : List ℤ). minus x z ≡ zeros d) e (minus_itself d x l)

pub measured : (d : ℕ) (q : List ℤ) (t : List (List (List ℤ))) (s : List (List ℤ)) → 2 ≤ d → d ≤ 6 → IsDelaunay d q t → AreShort d q t → All (IsWithin (2 ^ 40)) q → Contains t s → AreNear (2 * span_limit d) s → IsMeasured d q s
measured d q t s low high k short within m near =
    let c : IsClass d s = ((k.members s).0 m).0 in record {
      low = low;
      high = high;
      «class» = c;
      near = near;
      positive = k.positive;
      within = within;
      short = λ x y cx cy. (
          let lx = length_of_member d s x c.simplex.points cx in
          let ly = length_of_member d s y c.simplex.points cy in
          differences_short d q t short s c m x y cx cy (value_not_negative d q (minus x y) k.positive (length-minus d x y lx ly)) (λ e. none_there d q x y k.positive lx ly e)
          );
    }

-- ---- differences and products of vertices

module _ (d : ℕ) (q : List ℤ) (s : List (List ℤ)) (h : IsMeasured d q s) where
  pub length_at : (i : ℕ) → i < length s → length (get_or s i []) ≡ d
  length_at i l = length_of_member d s (get_or s i []) h.class.simplex.points (Contains-get_or s i [] l)

  pub low_at : (i j : ℕ) → i < length s → j < length s → pos 0 ≤ℤ value q (minus (get_or s i []) (get_or s j []))
  low_at i j li lj = value_not_negative d q (minus (get_or s i []) (get_or s j [])) h.positive (length-minus d (get_or s i []) (get_or s j []) (length_at i li) (length_at j lj))

  pub short_at : (i j : ℕ) → i < length s → j < length s → value q (minus (get_or s i []) (get_or s j [])) ≤ℤ pos (span_limit d)
  short_at i j li lj = h.short (get_or s i []) (get_or s j []) (Contains-get_or s i [] li) (Contains-get_or s j [] lj)

  pub high_at : (i j : ℕ) → i < length s → j < length s → value q (minus (get_or s i []) (get_or s j [])) ≤ℤ pos 400
  high_at i j li lj = let a = short_at i j li lj in let b = small_limit d in omega (arith, ints, a, b)

  pub some_vertex : 0 < length s
  some_vertex = let c = h.class.simplex.count in omega (arith, c)

  -- the first vertex is 0
  pub from_first : (i : ℕ) → i < length s → value q (minus (get_or s i []) (get_or s 0 [])) ≡ value q (get_or s i [])
  from_first i l = ap (value q) (ap (minus (get_or s i [])) h.class.first ∙ minus-zeros d (get_or s i []) (length_at i l))

  pub product_is : (i j : ℕ) (a b c x : ℤ) → i < length s → j < length s → a ≡ value q (minus (get_or s i []) (get_or s 0 [])) → b ≡ value q (minus (get_or s j []) (get_or s 0 [])) → c ≡ value q (minus (get_or s i []) (get_or s j [])) → x ≡ a +ℤ b -ℤ c → x ≡ polar q (get_or s i []) (get_or s j [])
  product_is i j a b c x li lj ea eb ec ex =
      let e = value-difference q (get_or s i []) (get_or s j []) (length_at i li ∙ sym (length_at j lj)) in
      let fa = from_first i li in
      let fb = from_first j lj in
      omega (arith, ints, ea, eb, ec, ex, e, fa, fb)

  pub product_small : (i j : ℕ) → i < length s → j < length s → nat_abs (polar q (get_or s i []) (get_or s j [])) ≤ 2 * span_limit d
  product_small i j li lj =
      let e = value-difference q (get_or s i []) (get_or s j []) (length_at i li ∙ sym (length_at j lj)) in
      let fa = from_first i li in
      let fb = from_first j lj in
      let z = some_vertex in
      let a = low_at i 0 li z in
      let b = low_at j 0 lj z in
      let c = low_at i j li lj in
      let a' = short_at i 0 li z in
      let b' = short_at j 0 lj z in
      let c' = short_at i j li lj in
      omega (arith, ints, e, fa, fb, a, b, c, a', b', c')
