-- At most d + 2 integer points lie on an empty ellipsoid of a wall form.
use Rattle.std.proofs.Common.{◌≡◌, ℕ, suc, ℤ, pos, ◌+ℤ◌, ◌*ℤ◌, ◌<ℤ◌, ◌≤ℤ◌, ◌<◌, ◌≤◌, ap, ap₂, arith, sym, ◌∙◌, subst, List, [], ◌∷◌, length, map, ◌⊎◌, inl, inr}
use Rattle.std.proofs.lemmas.Int.{ints}
use Rattle.std.specs.List.{Contains, AllByRecursion}
use Rattle.std.specs.List.Sorted.{IsStrictlySortedBy}
use Rattle.std.specs.declared.cmp.Ordering.TheVariants.{Less}
use Rattle.lt_model.proofs.Ring.{ring, var, num, ◌⊕◌, ◌⊗◌}
use Rattle.lt_model.proofs.Inequalities.{mul_le_mul_z, mul_nonneg_z}
use Rattle.lt_model.proofs.Vectors.{dot-plus, dot-scale}
use Rattle.lt_model.proofs.Squares.{length-scale, length-plus}
use Rattle.lt_model.proofs.Excess.{dot-combine, dot-sum, dot-constant, length-translate}
use Rattle.lt_model.proofs.Walk.{length-without}
use Rattle.lt_model.proofs.Moved.{simplex_moved, Contains-translate}
use Rattle.lt_model.proofs.Sets.{Contains-head, Contains-tail, Contains-cases, Contains-none, each_holds, never_below_itself, number_list_cmp_total}
use Rattle.lt_walls.proofs.Walls.{limit}
use Rattle.lt_model.specs.Order.{number_list_cmp}
use Rattle.lt_model.specs.Vectors.{plus, scale, dot, total, combine, ones}
use Rattle.lt_model.specs.Forms.{value}
use Rattle.lt_model.specs.Facets.{without}
use Rattle.lt_model.specs.Simplices.{AllOfDimension, IsSimplex, excess, translate}
use Rattle.lt_model.specs.Triangulations.{IsDelaunay}
use Rattle.lt_model.specs.Walls.{IsRegulator, IsWallForm, excess_normal}
use Rattle.lt_geometry.proofs.WalkEnds.{HasCommon, common}
use Rattle.lt_geometry.proofs.Walking.{Holds, height}
use Rattle.lt_geometry.proofs.Summed.{IsOn, IsWeaklyEmpty}
use Rattle.lt_geometry.proofs.LocalWalk.{back, length_back, back_expression, back_excess, weak_moved, plus-forth, sum_of, weight_of, top_of, HasHeights, over_points, paved, le_from_multiples}
use Rattle.lt_geometry.proofs.Reading.{length-ones}
use Rattle.lt_geometry.proofs.Unique.{one_or_other, any_default}
use Rattle.lt_geometry.proofs.Values.{list_dec}
use Rattle.lt_geometry.proofs.Normals.{normal_value}
use Rattle.lt_geometry.proofs.Regulators.{one_member}
use Rattle.lt_geometry.proofs.LocalToGlobal.{is_local, one_on_ellipsoid}
use Rattle.lt_geometry.proofs.Regulators.{positive_at}
use Rattle.lt_geometry.proofs.Fewness.{paving_of}

-- no excess over a member is negative at a wall form
wall_weak : (d : ℕ) (a w n : List ℤ) (t : List (List (List ℤ))) → IsDelaunay d a t → IsWallForm d t n w → (s : List (List ℤ)) → Contains t s → IsWeaklyEmpty d w s
wall_weak d a w n t k wall s ms x c b lx e = limit (excess w s x c b) (excess a s x c b) at
  where
    positive : (m : ℤ) → pos 1 ≤ℤ m → (r : List ℤ) → IsRegulator d t r → pos 0 <ℤ dot r (plus (scale m w) a)
    positive m g r reg = subst (λ z. pos 0 <ℤ z) (sym (dot-plus r (scale m w) a ∙ ap (λ z. z +ℤ dot r a) (dot-scale r m w))) (go (list_dec r n))
      where
        go : Dec (r ≡ n) → pos 0 <ℤ (m *ℤ dot r w +ℤ dot r a)
        go (yes q) = omega (arith, ints, positive_at d a t k r reg, ap (λ z. m *ℤ z) (ap (λ z. dot z w) q ∙ wall.zero_there), ring (m ∷ []) (var 0 ⊗ num (pos 0)) (num (pos 0)) tt)
        go (no q) = omega (arith, ints, positive_at d a t k r reg, mul_nonneg_z m (dot r w) (omega (arith, ints, g)) (omega (arith, ints, wall.others r reg q)))

    at : (m : ℤ) → pos 1 ≤ℤ m → pos 0 ≤ℤ (m *ℤ excess w s x c b +ℤ excess a s x c b)
    at m g =
        let q : List ℤ = plus (scale m w) a in
        let lw : length (scale m w) ≡ length a = length-scale m w ∙ wall.numbers ∙ sym k.positive.numbers in
        let j : IsDelaunay d q t = is_local d a t k q (length-plus (scale m w) a lw ∙ length-scale m w ∙ wall.numbers) (positive m g) in
        let v : List ℤ = excess_normal s x c b in
        let is : excess q s x c b ≡ m *ℤ excess w s x c b +ℤ excess a s x c b =
        sym (normal_value q s x c b) ∙ dot-plus v (scale m w) a ∙ ap₂ (λ (y z : ℤ). y +ℤ z) (dot-scale v m w ∙ ap (λ z. m *ℤ z) (normal_value w s x c b)) (normal_value a s x c b)
        in
        subst (λ z. pos 0 ≤ℤ z) is (((j.members s).0 ms).1.outside x c b lx e)

-- ---- sums of an affine function

affine_sum : (l : List ℤ) (k : ℤ) (b : List ℤ) (vs : List (List ℤ)) → length b ≡ length vs → dot b (map (λ v. dot l v +ℤ k) vs) ≡ dot l (combine b vs) +ℤ total b *ℤ k
affine_sum l k b vs h = dot-sum b (dot l) (λ v. k) vs ∙ ap₂ (λ (x y : ℤ). x +ℤ y) (sym (dot-combine l b vs)) (dot-constant b k vs h)

sum_below : (d : ℕ) (g f : List ℤ → ℤ) (e : ℤ) → ((x : List ℤ) → length x ≡ d → g x ≤ℤ (e *ℤ f x)) → (b : List ℤ) (vs : List (List ℤ)) → AllOfDimension d vs → AllByRecursion (λ z. pos 0 ≤ℤ z) b → dot b (map g vs) ≤ℤ (e *ℤ dot b (map f vs))
sum_below d g f e h [] vs all nn = omega (arith, ints, ring (e ∷ []) (var 0 ⊗ num (pos 0)) (num (pos 0)) tt)
sum_below d g f e h (z ∷ b) [] all nn = omega (arith, ints, ring (e ∷ []) (var 0 ⊗ num (pos 0)) (num (pos 0)) tt)
sum_below d g f e h (z ∷ b) (v ∷ vs) all nn =
    let first = mul_le_mul_z z (g v) (e *ℤ f v) nn.0 (h v all.0) in
    let rest = sum_below d g f e h b vs all.1 nn.1 in
    omega (arith, ints, first, rest, ring (e ∷ z ∷ f v ∷ dot b (map f vs) ∷ []) (var 0 ⊗ (var 1 ⊗ var 2 ⊕ var 3)) (var 1 ⊗ (var 0 ⊗ var 2) ⊕ var 0 ⊗ var 3) tt)

sum_same : (g f : List ℤ → ℤ) (e : ℤ) (b : List ℤ) (vs : List (List ℤ)) → ((x : List ℤ) → Contains vs x → e *ℤ f x ≡ g x) → dot b (map g vs) ≡ e *ℤ dot b (map f vs)
sum_same g f e [] vs h = ring (e ∷ []) (num (pos 0)) (var 0 ⊗ num (pos 0)) tt
sum_same g f e (z ∷ b) [] h = ring (e ∷ []) (num (pos 0)) (var 0 ⊗ num (pos 0)) tt
sum_same g f e (z ∷ b) (v ∷ vs) h =
    ap₂ (λ (x y : ℤ). z *ℤ x +ℤ y) (sym (h v (Contains-head v vs))) (sum_same g f e b vs (λ x c. h x (Contains-tail v vs x c)))
    ∙ ring (e ∷ z ∷ f v ∷ dot b (map f vs) ∷ []) (var 1 ⊗ (var 0 ⊗ var 2) ⊕ var 0 ⊗ var 3) (var 0 ⊗ (var 1 ⊗ var 2 ⊕ var 3)) tt

-- ---- how many points

member_dec : (vs : List (List ℤ)) (x : List ℤ) → Contains vs x ⊎ (Contains vs x → ⊥)
member_dec [] x = inr (λ c. Contains-none x c)
member_dec (v ∷ vs) x = go (list_dec v x) (member_dec vs x)
  where
    go : Dec (v ≡ x) → Contains vs x ⊎ (Contains vs x → ⊥) → Contains (v ∷ vs) x ⊎ (Contains (v ∷ vs) x → ⊥)
    go (yes e) r = inl (subst (Contains (v ∷ vs)) e (Contains-head v vs))
    go (no m) (inl c) = inl (Contains-tail v vs x c)
    go (no m) (inr h) = inr (λ c. elim (Contains-cases v vs x c) [ inl e ↦ m e | inr r ↦ h r ])

all_or_one : (vs us : List (List ℤ)) → ((x : List ℤ) → Contains us x → Contains vs x) ⊎ ((x : List ℤ) × Contains us x × (Contains vs x → ⊥))
all_or_one vs [] = inl (λ x c. Contains-none x c)
all_or_one vs (u ∷ us) = go (member_dec vs u) (all_or_one vs us)
  where
    go : Contains vs u ⊎ (Contains vs u → ⊥) → ((x : List ℤ) → Contains us x → Contains vs x) ⊎ ((x : List ℤ) × Contains us x × (Contains vs x → ⊥)) → ((x : List ℤ) → Contains (u ∷ us) x → Contains vs x) ⊎ ((x : List ℤ) × Contains (u ∷ us) x × (Contains vs x → ⊥))
    go (inr h) r = inr (u, Contains-head u us, h)
    go (inl c) (inr r) = inr (r.0, Contains-tail u us r.0 r.1, r.2)
    go (inl c) (inl h) = inl (λ x m. elim (Contains-cases u us x m) [ inl e ↦ subst (Contains vs) e c | inr r ↦ h x r ])

-- ascending points that all stand in a list are no more than it has
fits : (us vs : List (List ℤ)) → IsStrictlySortedBy number_list_cmp us → ((x : List ℤ) → Contains us x → Contains vs x) → length us ≤ length vs
unfolding IsStrictlySortedBy
fits [] vs s h = omega arith
fits (u ∷ us) vs s h =
    let (i, l, e) = h u (Contains-head u us) in
    let short = length-without i vs l in
    let r = fits us (without i vs) s.1 (λ x c. elim (one_or_other vs i x (h x (Contains-tail u us x c))) [
      | inl same ↦ absurd (never_below_itself number_list_cmp number_list_cmp_total u (subst (λ y. number_list_cmp u y ≡ Less) (sym same ∙ any_default vs i [] u l ∙ e) (each_holds (λ y. number_list_cmp u y ≡ Less) us x s.0 c)))
      | inr there ↦ there
    ])
    in
    omega (arith, short, r)

-- ---- the points of an empty ellipsoid

-- all of them have the excess 0 at w over one translate of a member
on_member : (d : ℕ) (a w n : List ℤ) (t : List (List (List ℤ))) → IsDelaunay d a t → IsWallForm d t n w → (e k : ℤ) (l : List ℤ) → pos 0 <ℤ e → ((x : List ℤ) → length x ≡ d → (dot l x +ℤ k) ≤ℤ (e *ℤ value w x)) →
    (ps : List (List ℤ)) → 0 < length ps → AllOfDimension d ps → ((x : List ℤ) → Contains ps x → e *ℤ value w x ≡ dot l x +ℤ k) →
    (s : List (List ℤ)) × (p : List ℤ) × Contains t s × (length p ≡ d) × AllByRecursion (λ z. IsOn w (translate p s) z) ps
on_member d a w n t de wall e k l he outside ps some all on = (at.s, at.p, at.there.member, at.there.dimension, heights.tight (equal heights.low up))
  where
    simplices : (s : List (List ℤ)) → Contains t s → IsSimplex d s
    simplices s m = ((de.members s).0 m).0.simplex

    scale_of : HasCommon d t
    scale_of = common d t simplices

    first : (s : List (List ℤ)) × Contains t s
    first = one_member t de.occupied

    at : Holds d t (weight_of ps) (sum_of ps) scale_of.c
    at = paved d a t ps first.0 (paving_of d a t de) scale_of all some first.1

    vs : List (List ℤ)
    vs = translate at.p at.s

    simplex : IsSimplex d at.s
    simplex = simplices at.s at.there.member

    heights : HasHeights d w t ps scale_of.c at.s at.p at.b
    heights = over_points d w t ps simplices all some scale_of at.s at.p at.b at.there (weak_moved d w at.s at.p simplex at.there.dimension (wall_weak d a w n t de wall at.s at.there.member))

    -- e times the height is at least that of the affine function, which is the sum of its values at the points
    below : (dot l (combine at.b vs) +ℤ total at.b *ℤ k) ≤ℤ (e *ℤ height w at.s at.p at.b)
    below = subst (λ z. z ≤ℤ (e *ℤ height w at.s at.p at.b)) (affine_sum l k at.b vs at.there.weighted.one_each)
        (sum_below d (λ v. dot l v +ℤ k) (value w) e outside at.b vs (simplex_moved d at.s at.p at.there.dimension simplex).points at.inside)

    sums : e *ℤ dot (ones (length ps)) (map (value w) ps) ≡ dot l (sum_of ps) +ℤ weight_of ps *ℤ k
    sums = sym (sum_same (λ v. dot l v +ℤ k) (value w) e (ones (length ps)) ps on) ∙ affine_sum l k (ones (length ps)) ps (length-ones (length ps))

    own : dot l (combine at.b vs) ≡ scale_of.c *ℤ dot l (sum_of ps)
    own = ap (dot l) at.there.weighted.point ∙ dot-scale l scale_of.c (sum_of ps)

    up : top_of w ps scale_of.c ≤ℤ height w at.s at.p at.b
    up = le_from_multiples e (top_of w ps scale_of.c) (height w at.s at.p at.b) he
        (end (dot l (combine at.b vs)) (total at.b) (dot l (sum_of ps)) (weight_of ps) (dot (ones (length ps)) (map (value w) ps)) (height w at.s at.p at.b) below sums own at.there.weighted.sum)
      where
        end : (y b x m v h : ℤ) → (y +ℤ b *ℤ k) ≤ℤ (e *ℤ h) → e *ℤ v ≡ x +ℤ m *ℤ k → y ≡ scale_of.c *ℤ x → b ≡ scale_of.c *ℤ m → (e *ℤ (scale_of.c *ℤ v)) ≤ℤ (e *ℤ h)
        end y b x m v h f g p q =
            let r : e *ℤ (scale_of.c *ℤ v) ≡ y +ℤ b *ℤ k =
            ring (e ∷ scale_of.c ∷ v ∷ []) (var 0 ⊗ (var 1 ⊗ var 2)) (var 1 ⊗ (var 0 ⊗ var 2)) tt ∙ ap (λ z. scale_of.c *ℤ z) g
            ∙ ring (scale_of.c ∷ x ∷ m ∷ k ∷ []) (var 0 ⊗ (var 1 ⊕ var 2 ⊗ var 3)) (var 0 ⊗ var 1 ⊕ var 0 ⊗ var 2 ⊗ var 3) tt ∙ sym (ap₂ (λ (y b : ℤ). y +ℤ b *ℤ k) p q)
            in
            omega (arith, ints, f, r)

    equal : {x y : ℤ} → x ≤ℤ y → y ≤ℤ x → x ≡ y
    equal h g = omega (arith, ints, h, g)

pub few_points : (d : ℕ) (a w n : List ℤ) (t : List (List (List ℤ))) → 2 ≤ d → IsDelaunay d a t → IsWallForm d t n w → (e k : ℤ) (l : List ℤ) → pos 0 <ℤ e → ((x : List ℤ) → length x ≡ d → (dot l x +ℤ k) ≤ℤ (e *ℤ value w x)) →
    (ps : List (List ℤ)) → IsStrictlySortedBy number_list_cmp ps → AllOfDimension d ps → ((x : List ℤ) → Contains ps x → e *ℤ value w x ≡ dot l x +ℤ k) → length ps ≤ suc (suc d)
few_points d a w n t two de wall e k l he outside [] up all on = omega arith
few_points d a w n t two de wall e k l he outside (u ∷ us) up all on = from (on_member d a w n t de wall e k l he outside (u ∷ us) (omega arith) all on)
  where
    ps : List (List ℤ)
    ps = u ∷ us

    from : (s : List (List ℤ)) × (p : List ℤ) × Contains t s × (length p ≡ d) × AllByRecursion (λ z. IsOn w (translate p s) z) ps → length ps ≤ suc (suc d)
    from (s, p, ms, lp, there) = elim (all_or_one vs ps) [
      | inl inside ↦ (let r = fits ps vs up inside in omega (arith, r, count))
      | inr one ↦ (let r = fits ps (one.0 ∷ vs) up (λ x c. elim (member_dec vs x) [
        | inl m ↦ Contains-tail one.0 vs x m
        | inr out ↦ subst (Contains (one.0 ∷ vs)) (same one.0 x one.1 one.2 c out) (Contains-head one.0 vs)
      ]) in omega (arith, r, count))
    ]
      where
        vs : List (List ℤ)
        vs = translate p s

        simplex : IsSimplex d s
        simplex = ((de.members s).0 ms).0.simplex

        count : length vs ≡ suc d
        count = length-translate p s ∙ simplex.count

        length_of : (x : List ℤ) → Contains ps x → length x ≡ d
        length_of x c = each_holds (λ v. length v ≡ d) ps x all c

        forth : (x : List ℤ) → length x ≡ d → plus (back p x) p ≡ x
        forth x lx = plus-forth d x p lx lp

        off : (x : List ℤ) → length x ≡ d → (Contains vs x → ⊥) → Contains s (back p x) → ⊥
        off x lx out c = out (subst (Contains vs) (forth x lx) (Contains-translate s p (back p x) c))

        same : (x y : List ℤ) → Contains ps x → (Contains vs x → ⊥) → Contains ps y → (Contains vs y → ⊥) → x ≡ y
        same x y cx ox cy oy =
            let lx = length_of x cx in
            let ly = length_of y cy in
            let f : IsOn w vs x = each_holds (λ z. IsOn w vs z) ps x there cx in
            let g : IsOn w vs y = each_holds (λ z. IsOn w vs z) ps y there cy in
            let e = one_on_ellipsoid d a w n t s two de wall ms (back p x) (back p y) (length_back d p x lp lx) (length_back d p y lp ly) (off x lx ox) (off y ly oy) f.c g.c f.b g.b
            (back_expression d s p x f.c f.b simplex lp lx f.expression) (back_expression d s p y g.c g.b simplex lp ly g.expression)
            (sym (back_excess d w s p x f.c f.b simplex lp lx f.expression) ∙ f.zero) (sym (back_excess d w s p y g.c g.b simplex lp ly g.expression) ∙ g.zero)
            in
            sym (forth x lx) ∙ ap (λ z. plus z p) e ∙ forth y ly
