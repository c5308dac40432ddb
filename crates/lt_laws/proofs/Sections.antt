-- A facet of a linear section of a secondary cone is live or dead.
use Rattle.std.proofs.Common.{◌≡◌, ◌≢◌, ℕ, ℤ, pos, negsuc, ◌+ℤ◌, ◌*ℤ◌, ◌<ℤ◌, ◌≤ℤ◌, nat_abs, ◌<◌, ◌+◌, ap, ap₂, arith, sym, ◌∙◌, subst, List, [], ◌∷◌, length, ◌⊎◌, ◌↔◌, inl, inr}
use Rattle.std.proofs.lemmas.Int.{ints}
use Rattle.std.specs.List.{Contains}
use Rattle.std.specs.List.Sorted.{IsStrictlySortedBy}
use Rattle.lt_model.proofs.Ring.{ring, var, num, ◌⊕◌, ◌⊗◌}
use Rattle.lt_model.proofs.Inequalities.{mul_pos_z, mul_nonneg_z, mul_le_mul_z}
use Rattle.lt_model.proofs.Vectors.{dot-plus, dot-scale, dot_comm, value-plus, value-scale}
use Rattle.lt_model.proofs.Squares.{length-scale, length-plus}
use Rattle.lt_model.proofs.Excess.{dot-combine}
use Rattle.lt_model.proofs.Walk.{length-combine}
use Rattle.lt_model.proofs.Dependent.{zero_or_not}
use Rattle.lt_model.proofs.Sets.{Contains-head, Contains-tail, Contains-cases, Contains-none, never_below_itself, number_list_cmp_total}
use Rattle.lt_walls.proofs.Walls.{limit}
use Rattle.lt_model.specs.Order.{number_list_cmp}
use Rattle.std.specs.declared.cmp.Ordering.TheVariants.{Less}
use Rattle.lt_model.specs.Vectors.{plus, minus, scale, dot, combine, zeros}
use Rattle.lt_model.specs.Forms.{value, numbers_of_form, IsPositiveDefinite}
use Rattle.lt_model.specs.Triangulations.{IsDelaunay}
use Rattle.lt_model.specs.Walls.{IsRegulator}
use Rattle.lt_geometry.proofs.LocalToGlobal.{is_local}
use Rattle.lt_geometry.proofs.Parity.{value-negative}
use Rattle.lt_geometry.proofs.PrimitiveParts.{primitive_part}
use Rattle.lt_geometry.proofs.Regulators.{positive_at}
use Rattle.lt_geometry.proofs.Values.{list_dec, value_not_negative}
use Rattle.lt_laws.specs.Edges.{IsEdge}
use Rattle.lt_laws.specs.Sections.{restricted, IsSectionNormal, IsSectionWall, IsSection, IsLive, IsDead}
use Rattle.lt_laws.proofs.EdgeCount.{edges_reach_below}
use Rattle.lt_laws.proofs.EdgesListed.{edges_listed}
use Rattle.lt_laws.proofs.RegulatorLists.{has_regulators}
use Rattle.lt_laws.proofs.Shortest.{edge_place}

-- ---- forms at which no regulator is negative

abbrev IsWeak : ℕ → List (List (List ℤ)) → List ℤ → Type 0
IsWeak d t f = (n : List ℤ) → IsRegulator d t n → pos 0 ≤ℤ dot n f

-- m f + a has the triangulation of a
raised : (d : ℕ) (a f : List ℤ) (t : List (List (List ℤ))) → IsDelaunay d a t → length f ≡ numbers_of_form d → IsWeak d t f → (m : ℤ) → pos 0 ≤ℤ m → IsDelaunay d (plus (scale m f) a) t
raised d a f t k l h m g =
    is_local d a t k (plus (scale m f) a) (length-plus (scale m f) a (length-scale m f ∙ l ∙ sym k.positive.numbers) ∙ length-scale m f ∙ l)
    (λ n r. subst (λ (z : ℤ). pos 0 <ℤ z) (sym (dot-plus n (scale m f) a ∙ ap (λ (z : ℤ). z +ℤ dot n a) (dot-scale n m f))) (omega (arith, ints, positive_at d a t k n r, mul_nonneg_z m (dot n f) g (h n r))))

raised_value : (a f x : List ℤ) (m : ℤ) → value (plus (scale m f) a) x ≡ m *ℤ value f x +ℤ value a x
raised_value a f x m = value-plus (scale m f) a x ∙ ap (λ (z : ℤ). z +ℤ value a x) (value-scale m f x)

-- so no value of f is negative
nowhere_negative : (d : ℕ) (a f x : List ℤ) (t : List (List (List ℤ))) → IsDelaunay d a t → length f ≡ numbers_of_form d → IsWeak d t f → length x ≡ d → pos 0 ≤ℤ value f x
nowhere_negative d a f x t k l h lx =
    limit (value f x) (value a x) (λ m g.
    let j = raised d a f t k l h m (omega (arith, ints, g)) in
    subst (λ (z : ℤ). pos 0 ≤ℤ z) (raised_value a f x m) (value_not_negative d (plus (scale m f) a) x j.positive lx))

not_zero : (d : ℕ) (t : List (List (List ℤ))) (u : List ℤ) → IsEdge d t u → u ≢ zeros d
not_zero d t u e z = never_below_itself number_list_cmp number_list_cmp_total (zeros d) (subst (λ (w : List ℤ). number_list_cmp (zeros d) w ≡ Less) z e.positive)

-- and f is positive definite where it is positive at all edges
definite_by_edges : (d : ℕ) (a f : List ℤ) (t : List (List (List ℤ))) → IsDelaunay d a t → length f ≡ numbers_of_form d → IsWeak d t f → ((u : List ℤ) → IsEdge d t u → pos 0 <ℤ value f u) → IsPositiveDefinite d f
definite_by_edges d a f t k l h edges = record { numbers = l; positive = λ x lx n. go x lx n (zero_or_not (value f x)) }
  where
    below : (x u : List ℤ) → value f x ≡ pos 0 → pos 0 <ℤ value f u → pos 0 ≤ℤ value a u → value (plus (scale (value a x +ℤ pos 1) f) a) u <ℤ value (plus (scale (value a x +ℤ pos 1) f) a) x → pos 0 ≤ℤ value a x → ⊥
    below x u z p g b ax =
        let m : ℤ = value a x +ℤ pos 1 in
        let e1 = raised_value a f u m in
        let e2 = raised_value a f x m in
        let e3 : m *ℤ value f x ≡ pos 0 = ap (λ (y : ℤ). m *ℤ y) z ∙ ring (m ∷ []) (var 0 ⊗ num (pos 0)) (num (pos 0)) tt in
        let e4 : (m *ℤ pos 1) ≤ℤ (m *ℤ value f u) = mul_le_mul_z m (pos 1) (value f u) (omega (arith, ints, ax)) (omega (arith, ints, p)) in
        let e5 : m *ℤ pos 1 ≡ m = ring (m ∷ []) (var 0 ⊗ num (pos 1)) (var 0) tt in
        omega (arith, ints, e1, e2, e3, e4, e5, g, b)

    go : (x : List ℤ) → length x ≡ d → x ≢ zeros d → (value f x ≡ pos 0) ⊎ (value f x ≢ pos 0) → pos 0 <ℤ value f x
    go x lx n (inr s) = omega (arith, ints, s, nowhere_negative d a f x t k l h lx)
    go x lx n (inl z) =
        let ax = value_not_negative d a x k.positive lx in
        let j = raised d a f t k l h (value a x +ℤ pos 1) (omega (arith, ints, ax)) in
        let (u, e, c) = edges_reach_below d (plus (scale (value a x +ℤ pos 1) f) a) t x j lx n in
        let p = edges u e in
        let au = value_not_negative d a u k.positive (edge_place d a t u k e).dimension in
        elim c [
          | inl b ↦ absurd (below x u z p au b ax)
          | inr (inl same) ↦ subst (λ (y : List ℤ). pos 0 <ℤ value f y) (sym same) p
          | inr (inr same) ↦ subst (λ (y : ℤ). pos 0 <ℤ y) (sym (ap (value f) same ∙ value-negative f u)) p
        ]

-- a multiple of f that is at least g at all members of a list where f is positive
enough : (f g : List ℤ) (ns : List (List ℤ)) → (m : ℕ) × ((n : List ℤ) → Contains ns n → pos 0 <ℤ dot n f → dot n g ≤ℤ (pos m *ℤ dot n f))
enough f g [] = (0, λ n c. Contains-none n c)
enough f g (v ∷ ns) =
    let r = enough f g ns in (
      nat_abs (dot v g) + r.0,
      λ n c p. elim (Contains-cases v ns n c) [
        | inl e ↦ first r.0 n e p
        | inr k ↦ later (nat_abs (dot v g)) r.0 (dot n f) (dot n g) p (r.1 n k p)
      ],
    )
  where
    first : (m : ℕ) (n : List ℤ) → v ≡ n → pos 0 <ℤ dot n f → dot n g ≤ℤ (pos (nat_abs (dot v g) + m) *ℤ dot n f)
    first m n e p =
        let k : ℤ = pos (nat_abs (dot v g) + m) in
        let up = mul_le_mul_z k (pos 1) (dot n f) (omega (arith, ints)) (omega (arith, ints, p)) in
        let one : k *ℤ pos 1 ≡ k = ring (k ∷ []) (var 0 ⊗ num (pos 1)) (var 0) tt in
        let same : dot v g ≡ dot n g = ap (λ (w : List ℤ). dot w g) e in
        omega (arith, ints, up, one, same)

    later : (a m : ℕ) (x y : ℤ) → pos 0 <ℤ x → y ≤ℤ (pos m *ℤ x) → y ≤ℤ (pos (a + m) *ℤ x)
    later a m x y p h =
        let s : pos (a + m) ≡ pos a +ℤ pos m = omega (arith, ints) in
        let e : pos (a + m) *ℤ x ≡ pos a *ℤ x +ℤ pos m *ℤ x = ap (λ (z : ℤ). z *ℤ x) s ∙ ring (pos a ∷ pos m ∷ x ∷ []) ((var 0 ⊕ var 1) ⊗ var 2) (var 0 ⊗ var 2 ⊕ var 1 ⊗ var 2) tt in
        omega (arith, ints, e, h, mul_nonneg_z (pos a) x (omega (arith, ints)) (omega (arith, ints, p)))

-- each regulator is 0 at both f and g, or positive at both
abbrev AreAlike : ℕ → List (List (List ℤ)) → List ℤ → List ℤ → Type 0
AreAlike d t f g = (n : List ℤ) → IsRegulator d t n → ((dot n f ≡ pos 0) × (dot n g ≡ pos 0)) ⊎ ((pos 0 <ℤ dot n f) × (pos 0 <ℤ dot n g))

-- then g is 0 where f is
pressed : (d : ℕ) (a f g u : List ℤ) (t : List (List (List ℤ))) → IsDelaunay d a t → length f ≡ numbers_of_form d → length g ≡ numbers_of_form d → AreAlike d t f g → length u ≡ d → value f u ≡ pos 0 → value g u ≡ pos 0
pressed d a f g u t k lf lg alike lu z =
    let ns = has_regulators d a t k in
    let m = enough f g ns.0 in
    let w : List ℤ = minus (scale (pos m.0) f) g in
    let ls : length (scale (pos m.0) f) ≡ length (scale (negsuc 0) g) = length-scale (pos m.0) f ∙ lf ∙ sym (length-scale (negsuc 0) g ∙ lg) in
    let lw : length w ≡ numbers_of_form d = length-plus (scale (pos m.0) f) (scale (negsuc 0) g) ls ∙ length-scale (pos m.0) f ∙ lf in
    let down = nowhere_negative d a w u t k lw (λ n r. weak m.0 n (m.1 n ((ns.1.members n).1 r)) (alike n r)) lu in
    let up = nowhere_negative d a g u t k lg (λ n r. other n (alike n r)) lu in
    let e1 : value w u ≡ pos m.0 *ℤ value f u +ℤ negsuc 0 *ℤ value g u = value-plus (scale (pos m.0) f) (scale (negsuc 0) g) u ∙ ap₂ (λ (x y : ℤ). x +ℤ y) (value-scale (pos m.0) f u) (value-scale (negsuc 0) g u) in
    let e2 : pos m.0 *ℤ value f u ≡ pos 0 = ap (λ (x : ℤ). pos m.0 *ℤ x) z ∙ ring (pos m.0 ∷ []) (var 0 ⊗ num (pos 0)) (num (pos 0)) tt in
    omega (arith, ints, down, up, e1, e2)
  where
    other : (n : List ℤ) → ((dot n f ≡ pos 0) × (dot n g ≡ pos 0)) ⊎ ((pos 0 <ℤ dot n f) × (pos 0 <ℤ dot n g)) → pos 0 ≤ℤ dot n g
    other n (inl e) = omega (arith, ints, e.1)
    other n (inr p) = omega (arith, ints, p.1)

    weak : (m : ℕ) (n : List ℤ) → (pos 0 <ℤ dot n f → dot n g ≤ℤ (pos m *ℤ dot n f)) → ((dot n f ≡ pos 0) × (dot n g ≡ pos 0)) ⊎ ((pos 0 <ℤ dot n f) × (pos 0 <ℤ dot n g)) → pos 0 ≤ℤ dot n (minus (scale (pos m) f) g)
    weak m n h c = subst (λ (x : ℤ). pos 0 ≤ℤ x) (sym (dot-plus n (scale (pos m) f) (scale (negsuc 0) g) ∙ ap₂ (λ (x y : ℤ). x +ℤ y) (dot-scale n (pos m) f) (dot-scale n (negsuc 0) g))) (at c)
      where
        at : ((dot n f ≡ pos 0) × (dot n g ≡ pos 0)) ⊎ ((pos 0 <ℤ dot n f) × (pos 0 <ℤ dot n g)) → pos 0 ≤ℤ (pos m *ℤ dot n f +ℤ negsuc 0 *ℤ dot n g)
        at (inl e) = omega (arith, ints, e.1, ap (λ (x : ℤ). pos m *ℤ x) e.0, ring (pos m ∷ []) (var 0 ⊗ num (pos 0)) (num (pos 0)) tt)
        at (inr p) = omega (arith, ints, h p.0)

-- ---- sections

section_numbers : (d : ℕ) (t : List (List (List ℤ))) (fs : List (List ℤ)) (s : List ℤ) → IsSection d t fs → length s ≡ length fs → length (combine s fs) ≡ numbers_of_form d
section_numbers d t [] [] h l = at h.inside h.numbers h.delaunay.positive.numbers
  where
    at : (o : List ℤ) → length o ≡ 0 → length (combine o []) ≡ numbers_of_form d → length (combine [] []) ≡ numbers_of_form d
    at [] e f = f
    at (x ∷ o) e f = absurd (omega (arith, e))
section_numbers d t [] (x ∷ s) h l = absurd (omega arith)
section_numbers d t (f ∷ fs) s h l = length-combine (numbers_of_form d) s (f ∷ fs) h.forms l (omega arith)

at_numbers : (fs : List (List ℤ)) (n s r : List ℤ) (k : ℕ) → restricted fs n ≡ scale (pos k) r → dot n (combine s fs) ≡ pos k *ℤ dot r s
at_numbers fs n s r k e = dot-combine n s fs ∙ ap (dot s) e ∙ dot-scale s (pos k) r ∙ ap (λ (z : ℤ). pos k *ℤ z) (dot_comm s r)

-- the normal of the section of each regulator
normal_of : (d : ℕ) (t : List (List (List ℤ))) (fs : List (List ℤ)) → IsSection d t fs → (n : List ℤ) → IsRegulator d t n → (r : List ℤ) × (k : ℕ) × (0 < k) × (restricted fs n ≡ scale (pos k) r) × IsSectionNormal d t fs r
normal_of d t fs h n g =
    let p = primitive_part (restricted fs n) h.inside (subst (λ (z : ℤ). pos 0 <ℤ z) (dot-combine n h.inside fs ∙ dot_comm h.inside (restricted fs n)) (positive_at d (combine h.inside fs) t h.delaunay n g)) in
    (p.n, p.k, p.k_pos, p.is, record { regulator = n; is_regulator = g; primitive = p.primitive; factor = p.k; some = p.k_pos; multiple = p.is })

walls_alike : (d : ℕ) (t : List (List (List ℤ))) (fs : List (List ℤ)) (r s s' : List ℤ) → IsSection d t fs → IsSectionWall d t fs r s → IsSectionWall d t fs r s' → AreAlike d t (combine s fs) (combine s' fs)
walls_alike d t fs r s s' h w w' n g = go (normal_of d t fs h n g)
  where
    go : (m : List ℤ) × (k : ℕ) × (0 < k) × (restricted fs n ≡ scale (pos k) m) × IsSectionNormal d t fs m → ((dot n (combine s fs) ≡ pos 0) × (dot n (combine s' fs) ≡ pos 0)) ⊎ ((pos 0 <ℤ dot n (combine s fs)) × (pos 0 <ℤ dot n (combine s' fs)))
    go (m, k, kp, e, normal) = case (list_dec m r)
      where
        none : (s : List ℤ) → IsSectionWall d t fs r s → m ≡ r → dot n (combine s fs) ≡ pos 0
        none s w q = at_numbers fs n s m k e ∙ ap (λ (z : ℤ). pos k *ℤ z) (ap (λ (x : List ℤ). dot x s) q ∙ w.zero_there) ∙ ring (pos k ∷ []) (var 0 ⊗ num (pos 0)) (num (pos 0)) tt

        some : (s : List ℤ) → IsSectionWall d t fs r s → m ≢ r → pos 0 <ℤ dot n (combine s fs)
        some s w q = subst (λ (z : ℤ). pos 0 <ℤ z) (sym (at_numbers fs n s m k e)) (mul_pos_z (pos k) (dot m s) (omega (arith, ints, kp)) (w.others m normal q))

        case : Dec (m ≡ r) → ((dot n (combine s fs) ≡ pos 0) × (dot n (combine s' fs) ≡ pos 0)) ⊎ ((pos 0 <ℤ dot n (combine s fs)) × (pos 0 <ℤ dot n (combine s' fs)))
        case (yes q) = inl (none s w q, none s' w' q)
        case (no q) = inr (some s w q, some s' w' q)

wall_weak : (d : ℕ) (t : List (List (List ℤ))) (fs : List (List ℤ)) (r s : List ℤ) → IsSection d t fs → IsSectionWall d t fs r s → IsWeak d t (combine s fs)
wall_weak d t fs r s h w n g = elim (walls_alike d t fs r s s h w w n g) [ inl e ↦ omega (arith, ints, e.0) | inr p ↦ omega (arith, ints, p.0) ]

-- a point with the value 0 at one wall has it at all
same_zeros : (d : ℕ) (t : List (List (List ℤ))) (fs : List (List ℤ)) (r s s' u : List ℤ) → IsSection d t fs → IsSectionWall d t fs r s → IsSectionWall d t fs r s' → length u ≡ d → value (combine s fs) u ≡ pos 0 → value (combine s' fs) u ≡ pos 0
same_zeros d t fs r s s' u h w w' lu z = pressed d (combine h.inside fs) (combine s fs) (combine s' fs) u t h.delaunay (section_numbers d t fs s h w.numbers) (section_numbers d t fs s' h w'.numbers) (walls_alike d t fs r s s' h w w') lu z

edge_dimension : (d : ℕ) (t : List (List (List ℤ))) (fs : List (List ℤ)) (u : List ℤ) → IsSection d t fs → IsEdge d t u → length u ≡ d
edge_dimension d t fs u h e = (edge_place d (combine h.inside fs) t u h.delaunay e).dimension

live_by_edges : (d : ℕ) (t : List (List (List ℤ))) (fs : List (List ℤ)) (r s : List ℤ) → IsSection d t fs → IsSectionWall d t fs r s → ((u : List ℤ) → IsEdge d t u → pos 0 <ℤ value (combine s fs) u) → IsLive d t fs r
live_by_edges d t fs r s h w edges s' w' =
    let lf = section_numbers d t fs s' h w'.numbers in
    let weak = wall_weak d t fs r s' h w' in
    definite_by_edges d (combine h.inside fs) (combine s' fs) t h.delaunay lf weak (λ u e.
    let lu = edge_dimension d t fs u h e in
    at u e lu (nowhere_negative d (combine h.inside fs) (combine s' fs) u t h.delaunay lf weak lu) (zero_or_not (value (combine s' fs) u)))
  where
    at : (u : List ℤ) → IsEdge d t u → length u ≡ d → pos 0 ≤ℤ value (combine s' fs) u → (value (combine s' fs) u ≡ pos 0) ⊎ (value (combine s' fs) u ≢ pos 0) → pos 0 <ℤ value (combine s' fs) u
    at u e lu g (inl z) = absurd (omega (arith, ints, edges u e, same_zeros d t fs r s' s u h w' w lu z))
    at u e lu g (inr n) = omega (arith, ints, g, n)

pub one_wall_tells : (d : ℕ) (t : List (List (List ℤ))) (fs : List (List ℤ)) (r s : List ℤ) → IsSection d t fs → IsSectionWall d t fs r s →
    ((u : List ℤ) → IsEdge d t u → value (combine s fs) u ≡ pos 0 → (s' : List ℤ) → IsSectionWall d t fs r s' → value (combine s' fs) u ≡ pos 0)
    × (((u : List ℤ) → IsEdge d t u → pos 0 <ℤ value (combine s fs) u) → IsLive d t fs r)
one_wall_tells d t fs r s h w = (λ u e z s' w'. same_zeros d t fs r s s' u h w w' (edge_dimension d t fs u h e) z, live_by_edges d t fs r s h w)

-- some member of a list has the value 0, or none has
some_or_none : (f : List ℤ) (us : List (List ℤ)) → ((u : List ℤ) × Contains us u × (value f u ≡ pos 0)) ⊎ ((u : List ℤ) → Contains us u → value f u ≢ pos 0)
some_or_none f [] = inr (λ u c. Contains-none u c)
some_or_none f (v ∷ us) = go (zero_or_not (value f v)) (some_or_none f us)
  where
    go : (value f v ≡ pos 0) ⊎ (value f v ≢ pos 0) → ((u : List ℤ) × Contains us u × (value f u ≡ pos 0)) ⊎ ((u : List ℤ) → Contains us u → value f u ≢ pos 0) → ((u : List ℤ) × Contains (v ∷ us) u × (value f u ≡ pos 0)) ⊎ ((u : List ℤ) → Contains (v ∷ us) u → value f u ≢ pos 0)
    go (inl z) r = inl (v, Contains-head v us, z)
    go (inr n) (inl r) = inl (r.0, Contains-tail v us r.0 r.1, r.2)
    go (inr n) (inr h) = inr (λ u c. elim (Contains-cases v us u c) [ inl e ↦ subst (λ (x : List ℤ). value f x ≢ pos 0) e n | inr k ↦ h u k ])

pub live_or_dead : (d : ℕ) (t : List (List (List ℤ))) (fs : List (List ℤ)) (r s : List ℤ) → IsSection d t fs → IsSectionWall d t fs r s → (IsLive d t fs r ⊎ IsDead d t fs r) × (IsLive d t fs r → IsDead d t fs r → ⊥)
live_or_dead d t fs r s h w = (pick (edges_listed d t), not_both)
  where
    f : List ℤ
    f = combine s fs

    pick : (es : List (List ℤ)) × IsStrictlySortedBy number_list_cmp es × ((u : List ℤ) → Contains es u ↔ IsEdge d t u) → IsLive d t fs r ⊎ IsDead d t fs r
    pick (es, o, m) = elim (some_or_none f es) [
      | inl z ↦ inr (z.0, (m z.0).0 z.1, (one_wall_tells d t fs r s h w).0 z.0 ((m z.0).0 z.1) z.2)
      | inr n ↦ inl (live_by_edges d t fs r s h w (λ u e. up u e (n u ((m u).1 e))))
    ]
      where
        up : (u : List ℤ) → IsEdge d t u → value f u ≢ pos 0 → pos 0 <ℤ value f u
        up u e n = omega (arith, ints, n, nowhere_negative d (combine h.inside fs) f u t h.delaunay (section_numbers d t fs s h w.numbers) (wall_weak d t fs r s h w) (edge_dimension d t fs u h e))

    not_both : IsLive d t fs r → IsDead d t fs r → ⊥
    not_both live (u, e, z) = omega (arith, ints, (live s w).positive u (edge_dimension d t fs u h e) (not_zero d t u e), z s w)
