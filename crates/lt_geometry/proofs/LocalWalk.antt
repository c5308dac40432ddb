-- A closed set of strictly empty classes holds every strictly empty class: it is the Delaunay triangulation.
use Rattle.std.proofs.Common.{◌≡◌, ℕ, zero, suc, ℤ, pos, negsuc, ◌+ℤ◌, ◌-ℤ◌, ◌*ℤ◌, ◌<ℤ◌, ◌≤ℤ◌, ◌<◌, ◌+◌, nat_abs, refl, ap, arith, sym, ◌∙◌, subst, List, [], ◌∷◌, length, map, get_or}
use Rattle.std.proofs.lemmas.Int.{ints, by_lt_z}
use Rattle.std.specs.List.{AllByRecursion, Contains}
use Rattle.std.specs.List.Sorted.{IsStrictlySortedBy}
use Rattle.lt_model.proofs.Integers.{spread}
use Rattle.lt_model.proofs.Vectors.{dot-plus, dot-scale}
use Rattle.lt_model.proofs.Squares.{length-scale, length-plus}
use Rattle.lt_model.proofs.Excess.{dot-combine, same_from_dots, scale-dot, length-translate, excess-moved}
use Rattle.lt_model.proofs.Walk.{length-combine, IsWeighted}
use Rattle.lt_model.proofs.Expressions.{one_expression, total-scale}
use Rattle.lt_model.proofs.Moved.{translate-back, simplex_moved, translate_all, Contains-translate}
use Rattle.lt_geometry.proofs.Uniform.{uniform, HasUniform}
use Rattle.lt_model.proofs.Opposite.{length-zeros}
use Rattle.lt_geometry.proofs.WalkEnds.{HasCommon, common, over_translate}
use Rattle.lt_walls.proofs.Beside.{expression_moved}
use Rattle.lt_geometry.specs.Paving.{IsPaving}
use Rattle.lt_geometry.proofs.Reading.{length-ones}
use Rattle.lt_geometry.proofs.Walking.{IsAt, Holds, height, walk}
use Rattle.lt_geometry.proofs.Summed.{HasEach, HasSummed, IsOn, IsWeaklyEmpty, summed}
use Rattle.lt_model.proofs.Sets.{Contains-head, each_holds, number_list_cmp_total}
use Rattle.lt_geometry.proofs.Whole.{same_from_within}
use Rattle.lt_model.specs.Order.{number_list_cmp, simplex_cmp}
use Rattle.lt_model.specs.Vectors.{plus, scale, dot, total, combine, zeros, ones}
use Rattle.lt_model.specs.Forms.{value, IsPositiveDefinite}
use Rattle.lt_model.specs.Simplices.{AllOfDimension, IsSimplex, IsClass, IsExpression, IsStrictlyEmpty, excess, translate}
use Rattle.lt_model.specs.Triangulations.{IsDelaunay}
use Rattle.lt_model.proofs.Translates.{ascending_translate}
use Rattle.lt_model.proofs.Inequalities.{mul_pos_z}
use Rattle.lt_geometry.proofs.Closed.{translate-zeros}

pub plus-forth : (d : ℕ) (x p : List ℤ) → length x ≡ d → length p ≡ d → plus (plus x (scale (negsuc 0) p)) p ≡ x
plus-forth d x p lx lp =
    let l1 : length (plus x (scale (negsuc 0) p)) ≡ d = length-plus x (scale (negsuc 0) p) (lx ∙ sym (length-scale (negsuc 0) p ∙ lp)) ∙ lx in
    same_from_dots (plus (plus x (scale (negsuc 0) p)) p) x (length-plus (plus x (scale (negsuc 0) p)) p (l1 ∙ sym lp) ∙ l1 ∙ sym lx)
    (λ u. dot-plus u (plus x (scale (negsuc 0) p)) p ∙ (rw (dot-plus u x (scale (negsuc 0) p), dot-scale u (negsuc 0) p) (omega (arith, ints))))

abbrev pub back : List ℤ → List ℤ → List ℤ
back p x = plus x (scale (negsuc 0) p)

pub length_back : (d : ℕ) (p x : List ℤ) → length p ≡ d → length x ≡ d → length (back p x) ≡ d
length_back d p x lp lx = length-plus x (scale (negsuc 0) p) (lx ∙ sym (length-scale (negsuc 0) p ∙ lp)) ∙ lx

-- an expression over a translate is one over the simplex, with the same excess
pub back_expression : (d : ℕ) (s : List (List ℤ)) (p x : List ℤ) (c : ℤ) (b : List ℤ) → IsSimplex d s → length p ≡ d → length x ≡ d → IsExpression (translate p s) x c b → IsExpression s (back p x) c b
back_expression d s p x c b simplex lp lx h =
    subst (λ (v : List (List ℤ)). IsExpression v (back p x) c b) (translate-back d s p simplex.points lp)
    (expression_moved d (translate p s) (scale (negsuc 0) p) x b c (simplex_moved d s p lp simplex) (length-scale (negsuc 0) p ∙ lp) lx h)

pub back_excess : (d : ℕ) (q : List ℤ) (s : List (List ℤ)) (p x : List ℤ) (c : ℤ) (b : List ℤ) → IsSimplex d s → length p ≡ d → length x ≡ d → IsExpression (translate p s) x c b → excess q (translate p s) x c b ≡ excess q s (back p x) c b
back_excess d q s p x c b simplex lp lx h =
    ap (λ y. excess q (translate p s) y c b) (sym (plus-forth d x p lx lp))
    ∙ excess-moved q b s (back p x) p c (rw lp simplex.points) (length_back d p x lp lx ∙ sym lp) (back_expression d s p x c b simplex lp lx h)

-- a translate of a weakly empty simplex is weakly empty, and of a strictly empty one strictly
pub weak_moved : (d : ℕ) (q : List ℤ) (s : List (List ℤ)) (p : List ℤ) → IsSimplex d s → length p ≡ d → IsWeaklyEmpty d q s → IsWeaklyEmpty d q (translate p s)
weak_moved d q s p simplex lp e x c b lx h = rw (back_excess d q s p x c b simplex lp lx h) (e (back p x) c b (length_back d p x lp lx) (back_expression d s p x c b simplex lp lx h))

pub empty_moved : (d : ℕ) (q : List ℤ) (s : List (List ℤ)) (p : List ℤ) → IsSimplex d s → length p ≡ d → IsStrictlyEmpty d q s → IsStrictlyEmpty d q (translate p s)
empty_moved d q s p simplex lp e = record {
  outside = weak_moved d q s p simplex lp e.outside;
  touches = λ x c b lx h z. subst (λ (w : List ℤ). Contains (translate p s) w) (plus-forth d x p lx lp)
      (Contains-translate s p (back p x) (e.touches (back p x) c b (length_back d p x lp lx) (back_expression d s p x c b simplex lp lx h) (sym (back_excess d q s p x c b simplex lp lx h) ∙ z)));
}

at_one : (vs : List (List ℤ)) (x b : List ℤ) (c : ℤ) → IsWeighted vs (pos 1) x c b → IsExpression vs x c b
at_one vs x b c h = record { positive = h.positive; one_each = h.one_each; point = h.point; sum = h.sum ∙ (omega (arith, ints)) }

ones_positive : (n : ℕ) → AllByRecursion (λ z. pos 0 <ℤ z) (ones n)
ones_positive zero = tt
ones_positive (suc n) = (omega (arith, ints), ones_positive n)

ones_not_negative : (n : ℕ) → AllByRecursion (λ z. pos 0 ≤ℤ z) (ones n)
ones_not_negative zero = tt
ones_not_negative (suc n) = (omega (arith, ints), ones_not_negative n)

pub le_from_multiples : (c a b : ℤ) → pos 0 <ℤ c → (c *ℤ a) ≤ℤ (c *ℤ b) → a ≤ℤ b
le_from_multiples c a b hc h =
    by_lt_z b a (λ k.
    let e : pos 0 <ℤ (c *ℤ (a -ℤ b)) = mul_pos_z c (a -ℤ b) hc (omega (arith, ints)) in
    let f : c *ℤ (a -ℤ b) ≡ c *ℤ a -ℤ c *ℤ b = simp spread refl in
    absurd (omega (arith, ints, e, f))) (λ k. k)

-- weights over one simplex, and the same point over another: two sums of heights at one point are one
pub same_heights : (d : ℕ) (q : List ℤ) (vs : List (List ℤ)) (m : ℤ) (x b b' : List ℤ) (c : ℤ) → IsSimplex d vs → IsWeighted vs m x c b → IsWeighted vs m x c b' → dot b (map (value q) vs) ≡ dot b' (map (value q) vs)
same_heights d q vs m x b b' c s h k =
    let e : scale c b ≡ scale c b' = one_expression d vs m x b b' c c s h k in
    let f : c *ℤ dot b (map (value q) vs) ≡ c *ℤ dot b' (map (value q) vs) = sym (scale-dot c b (map (value q) vs)) ∙ ap (λ l. dot l (map (value q) vs)) e ∙ scale-dot c b' (map (value q) vs) in
    both (dot b (map (value q) vs)) (dot b' (map (value q) vs)) (le_from_multiples c _ _ h.positive (omega (arith, ints, f))) (le_from_multiples c _ _ h.positive (omega (arith, ints, f)))
  where
    both : (x y : ℤ) → x ≤ℤ y → y ≤ℤ x → x ≡ y
    both x y h k = omega (arith, ints)

pub zeros-plus : (d : ℕ) (p : List ℤ) → length p ≡ d → plus (zeros d) p ≡ p
zeros-plus zero [] l = refl
zeros-plus zero (a ∷ p) l = absurd (omega arith)
zeros-plus (suc d) [] l = absurd (omega arith)
zeros-plus (suc d) (a ∷ p) l =
    let e : pos 0 +ℤ a ≡ a = omega (arith, ints) in
    rw (e, zeros-plus d p (omega arith)) refl

first_moved : (vs : List (List ℤ)) (p : List ℤ) → 0 < length vs → get_or (translate p vs) 0 [] ≡ plus (get_or vs 0 []) p
first_moved [] p h = absurd (omega arith)
first_moved (v ∷ vs) p h = refl

-- what is known of a class that is empty for the form, beside the paving
pub record IsGiven (d : ℕ) (q : List ℤ) (t : List (List (List ℤ))) (s0 : List (List ℤ)) : Type 0 where
  pub paving : IsPaving d q t
  pub «class» : IsClass d s0
  pub empty : IsStrictlyEmpty d q s0

abbrev pub sum_of : List (List ℤ) → List ℤ
sum_of s0 = combine (ones (length s0)) s0

abbrev pub weight_of : List (List ℤ) → ℤ
weight_of s0 = total (ones (length s0))

abbrev pub top_of : List ℤ → List (List ℤ) → ℤ → ℤ
top_of q s0 c = c *ℤ dot (ones (length s0)) (map (value q) s0)

length_sum : (d : ℕ) (s0 : List (List ℤ)) → AllOfDimension d s0 → 0 < length s0 → length (sum_of s0) ≡ d
length_sum d s0 all some = length-combine d (ones (length s0)) s0 all (length-ones (length s0)) some

-- points with the excess 0 over a strictly empty simplex are vertices
pub touched : (d : ℕ) (q : List ℤ) (vs us : List (List ℤ)) → IsStrictlyEmpty d q vs → AllOfDimension d us → AllByRecursion (λ u. IsOn q vs u) us → AllByRecursion (λ u. Contains vs u) us
touched d q vs [] e all h = tt
touched d q vs (u ∷ us) e all h = (e.touches u h.0.c h.0.b all.0 h.0.expression h.0.zero, touched d q vs us e all.1 h.1)

pub fuel_for : (top h : ℤ) → (n : ℕ) × (top ≤ℤ (h +ℤ pos n))
fuel_for top h = (nat_abs top + nat_abs h, enough top h)
  where
    enough : (top h : ℤ) → top ≤ℤ (h +ℤ pos (nat_abs top + nat_abs h))
    enough top h = omega (arith, ints)

-- the sum of points over a member, with a form for which the member is weakly empty
pub record HasHeights (d : ℕ) (q : List ℤ) (t : List (List (List ℤ))) (s0 : List (List ℤ)) (c : ℤ) (s : List (List ℤ)) (p b : List ℤ) : Type 0 where
  pub low : height q s p b ≤ℤ top_of q s0 c
  pub tight : height q s p b ≡ top_of q s0 c → AllByRecursion (λ u. IsOn q (translate p s) u) s0

pub over_points : (d : ℕ) (q : List ℤ) (t : List (List (List ℤ))) (s0 : List (List ℤ)) → ((s : List (List ℤ)) → Contains t s → IsSimplex d s) → AllOfDimension d s0 → 0 < length s0 → (k : HasCommon d t) (s : List (List ℤ)) (p b : List ℤ) → IsAt d t (weight_of s0) (sum_of s0) k.c s p b →
    IsWeaklyEmpty d q (translate p s) → HasHeights d q t s0 k.c s p b
over_points d q t s0 simplices all some k s p b here empty =
    let simplex : IsSimplex d s = simplices s here.member in
    let vs : List (List ℤ) = translate p s in
    let moved : IsSimplex d vs = simplex_moved d s p here.dimension simplex in
    let each : HasEach d vs k.c = record {
      b = λ x l. (over_translate d t k s p (pos 1) x here.member simplex here.dimension l).0;
      is = λ x l. at_one vs x _ k.c (over_translate d t k s p (pos 1) x here.member simplex here.dimension l).1;
    } in
    let h : HasSummed d q vs k.c (ones (length s0)) s0 = summed d q vs k.c each (ones (length s0)) s0 empty all (ones_not_negative (length s0)) (length-ones (length s0)) in
    let w : IsWeighted vs (weight_of s0) (sum_of s0) k.c h.bs = record {
      positive = k.positive;
      one_each = h.is.one_each;
      point = same_from_dots (combine h.bs vs) (scale k.c (sum_of s0)) (length-combine d h.bs vs moved.points h.is.one_each (omega (arith, moved.count)) ∙ sym (length_sum d s0 all some) ∙ sym (length-scale k.c (sum_of s0)))
          (λ u. dot-combine u h.bs vs ∙ h.is.point u ∙ ap (λ n. k.c *ℤ n) (sym (dot-combine u (ones (length s0)) s0)) ∙ sym (dot-scale u k.c (sum_of s0)));
      sum = h.is.sum;
    } in
    let e : height q s p b ≡ dot h.bs (map (value q) vs) = same_heights d q vs (weight_of s0) (sum_of s0) b h.bs k.c moved here.weighted w in
    record { low = subst (λ (z : ℤ). z ≤ℤ top_of q s0 k.c) (sym e) h.is.low; tight = λ full. h.is.tight (ones_positive (length s0)) (sym e ∙ full) }

-- the translate of a member of a paving is strictly empty
paving_empty : (d : ℕ) (q : List ℤ) (t : List (List (List ℤ))) (s : List (List ℤ)) (p : List ℤ) → IsPaving d q t → Contains t s → length p ≡ d → IsStrictlyEmpty d q (translate p s)
paving_empty d q t s p g m l = empty_moved d q s p (g.classes s m).simplex l (g.empty s m)

-- the walk to the middle of some points ends
pub paved : (d : ℕ) (q : List ℤ) (t : List (List (List ℤ))) (s0 s1 : List (List ℤ)) → IsPaving d q t → (k : HasCommon d t) → AllOfDimension d s0 → 0 < length s0 → Contains t s1 → Holds d t (weight_of s0) (sum_of s0) k.c
paved d q t s0 s1 g k all some c1 =
    let lx : length (sum_of s0) ≡ d = length_sum d s0 all some in
    let start = over_translate d t k s1 (zeros d) (weight_of s0) (sum_of s0) c1 (g.classes s1 c1).simplex (length-zeros d) lx in
    let here : IsAt d t (weight_of s0) (sum_of s0) k.c s1 (zeros d) start.0 = record { member = c1; dimension = length-zeros d; weighted = start.1 } in
    let fuel = fuel_for (top_of q s0 k.c) (height q s1 (zeros d) start.0) in
    walk d q t k (weight_of s0) (sum_of s0) (top_of q s0 k.c) g lx
    (λ s p b h. (over_points d q t s0 (λ r m. (g.classes r m).simplex) all some k s p b h (paving_empty d q t s p g h.member h.dimension).outside).low) fuel.0 s1 (zeros d) start.0 here fuel.1

-- where the point is inside the member, the height is as high as can be
at_top : (d : ℕ) (q : List ℤ) (t : List (List (List ℤ))) (s0 : List (List ℤ)) → IsGiven d q t s0 → (k : HasCommon d t) (s : List (List ℤ)) (p b : List ℤ) → IsAt d t (weight_of s0) (sum_of s0) k.c s p b → AllByRecursion (λ z. pos 0 ≤ℤ z) b →
    top_of q s0 k.c ≤ℤ height q s p b
at_top d q t s0 g k s p b here inside =
    let simplex : IsSimplex d s = (g.paving.classes s here.member).simplex in
    let own : IsSimplex d s0 = g.«class».simplex in
    let vs : List (List ℤ) = translate p s in
    let u0 : HasUniform d s0 = uniform d s0 own in
    let each : HasEach d s0 u0.c = record { b = λ x l. u0.b (pos 1) x; is = λ x l. at_one s0 x (u0.b (pos 1) x) u0.c (u0.is (pos 1) x l) } in
    let h : HasSummed d q s0 u0.c b vs = summed d q s0 u0.c each b vs g.empty.outside (translate_all d p s here.dimension simplex.points) inside here.weighted.one_each in
    let m2 : ℤ = k.c *ℤ weight_of s0 in
    let x2 : List ℤ = scale k.c (sum_of s0) in
    let w : IsWeighted s0 m2 x2 u0.c h.bs = record {
      positive = u0.positive;
      one_each = h.is.one_each;
      point = same_from_dots (combine h.bs s0) (scale u0.c x2) (length-combine d h.bs s0 own.points h.is.one_each (omega (arith, own.count)) ∙ sym (length_sum d s0 own.points (omega (arith, own.count))) ∙ sym (length-scale u0.c x2 ∙ length-scale k.c (sum_of s0)))
          (λ u. dot-combine u h.bs s0 ∙ h.is.point u ∙ ap (λ n. u0.c *ℤ n) (sym (dot-combine u b vs) ∙ ap (dot u) here.weighted.point) ∙ sym (dot-scale u u0.c x2));
      sum = h.is.sum ∙ ap (λ n. u0.c *ℤ n) here.weighted.sum;
    } in
    let a : List ℤ = scale u0.c (scale k.c (ones (length s0))) in
    let la : length a ≡ length s0 = length-scale u0.c (scale k.c (ones (length s0))) ∙ length-scale k.c (ones (length s0)) ∙ length-ones (length s0) in
    let w2 : IsWeighted s0 m2 x2 u0.c a = record {
      positive = u0.positive;
      one_each = la;
      point = same_from_dots (combine a s0) (scale u0.c x2) (length-combine d a s0 own.points la (omega (arith, own.count)) ∙ sym (length_sum d s0 own.points (omega (arith, own.count))) ∙ sym (length-scale u0.c x2 ∙ length-scale k.c (sum_of s0)))
          (λ u. dot-combine u a s0 ∙ scale-dot u0.c (scale k.c (ones (length s0))) (map (dot u) s0) ∙ ap (λ n. u0.c *ℤ n) (scale-dot k.c (ones (length s0)) (map (dot u) s0) ∙ ap (λ n. k.c *ℤ n) (sym (dot-combine u (ones (length s0)) s0)) ∙ sym (dot-scale u k.c (sum_of s0))) ∙ sym (dot-scale u u0.c x2));
      sum = total-scale u0.c (scale k.c (ones (length s0))) ∙ ap (λ n. u0.c *ℤ n) (total-scale k.c (ones (length s0)));
    } in
    let e : dot h.bs (map (value q) s0) ≡ u0.c *ℤ top_of q s0 k.c =
    same_heights d q s0 m2 x2 h.bs a u0.c own w w2 ∙ scale-dot u0.c (scale k.c (ones (length s0))) (map (value q) s0) ∙ ap (λ n. u0.c *ℤ n) (scale-dot k.c (ones (length s0)) (map (value q) s0))
    in
    le_from_multiples u0.c (top_of q s0 k.c) (height q s p b) u0.positive (subst (λ (z : ℤ). z ≤ℤ (u0.c *ℤ height q s p b)) e h.is.low)

-- a class that is empty for the form is a member of each paving that has a member
pub every_empty_class : (d : ℕ) (q : List ℤ) (t : List (List (List ℤ))) (s0 s1 : List (List ℤ)) → IsGiven d q t s0 → Contains t s1 → Contains t s0
every_empty_class d q t s0 s1 g c1 =
    let own : IsSimplex d s0 = g.«class».simplex in
    let some : 0 < length s0 = omega (arith, own.count) in
    let k : HasCommon d t = common d t (λ s c. (g.paving.classes s c).simplex) in
    let end : Holds d t (weight_of s0) (sum_of s0) k.c = paved d q t s0 s1 g.paving k own.points some c1 in
    let class_there : IsClass d end.s = g.paving.classes end.s end.there.member in
    let empty = paving_empty d q t end.s end.p g.paving end.there.member end.there.dimension in
    let over = over_points d q t s0 (λ r m. (g.paving.classes r m).simplex) own.points some k end.s end.p end.b end.there empty.outside in
    let top : top_of q s0 k.c ≤ℤ height q end.s end.p end.b = at_top d q t s0 g k end.s end.p end.b end.there end.inside in
    let full : height q end.s end.p end.b ≡ top_of q s0 k.c = equal (height q end.s end.p end.b) (top_of q s0 k.c) over.low top in
    let within : AllByRecursion (λ u. Contains (translate end.p end.s) u) s0 = touched d q (translate end.p end.s) s0 empty own.points (over.tight full) in
    let lp : length end.p ≡ d = end.there.dimension in
    let same : s0 ≡ translate end.p end.s =
    same_from_within number_list_cmp number_list_cmp_total s0 (translate end.p end.s) g.«class».ascending (ascending_translate d end.p end.s lp class_there.simplex.points class_there.ascending)
    (own.count ∙ sym (length-translate end.p end.s ∙ class_there.simplex.count)) (λ z c. each_holds (λ u. Contains (translate end.p end.s) u) s0 z within c)
    in
    let no_shift : end.p ≡ zeros d =
    sym (sym g.«class».first ∙ ap (λ l. get_or l 0 []) same ∙ first_moved end.s end.p (omega (arith, class_there.simplex.count)) ∙ ap (λ v. plus v end.p) class_there.first ∙ zeros-plus d end.p lp)
    in
    let s_is : s0 ≡ end.s = same ∙ ap (λ r. translate r end.s) no_shift ∙ translate-zeros d end.s class_there.simplex.points in
    subst (λ (s : List (List ℤ)). Contains t s) (sym s_is) end.there.member
  where
    equal : (x y : ℤ) → x ≤ℤ y → y ≤ℤ x → x ≡ y
    equal x y h k = omega (arith, ints)

-- a set of classes that has a member, is closed under facets and empty for a positive definite form is its Delaunay triangulation
pub delaunay_from_paving : (d : ℕ) (q : List ℤ) (t : List (List (List ℤ))) → IsPositiveDefinite d q → IsPaving d q t → 0 < length t → IsStrictlySortedBy simplex_cmp t → IsDelaunay d q t
delaunay_from_paving d q [] definite paving some sorted = absurd (omega arith)
delaunay_from_paving d q (s1 ∷ t) definite paving some sorted = record {
  positive = definite;
  occupied = some;
  ascending = sorted;
  members = λ s. (λ c. (paving.classes s c, paving.empty s c), λ h. every_empty_class d q (s1 ∷ t) s s1 (record { paving = paving; «class» = h.0; empty = h.1 }) (Contains-head s1 t));
  closed = paving.closed;
}
