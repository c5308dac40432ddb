-- The worked example of dimension 2: its classes, regulators and walls.
use Rattle.std.proofs.Common.{◌≡◌, ◌≢◌, ℕ, zero, suc, ℤ, pos, negsuc, ◌<ℤ◌, ◌<◌, refl, ap, arith, sym, ◌∙◌, subst, List, [], ◌∷◌, length, ◌⊎◌, inl, inr, ◌↔◌}
use Rattle.std.specs.List.{Contains}
use Rattle.std.specs.List.Sorted.{IsStrictlySortedBy}
use Rattle.std.specs.declared.cmp.Ordering.TheVariants.{Less}
use Rattle.lt_model.specs.Order.{simplex_cmp}
use Rattle.lt_model.specs.Vectors.{dot}
use Rattle.lt_model.specs.Simplices.{IsClass}
use Rattle.lt_model.specs.Triangulations.{IsDelaunay}
use Rattle.lt_model.specs.Walls.{IsRegulator, IsWallForm}
use Rattle.lt_model.specs.Principal.{IsOrder, IsPrincipal, principal_class}
use Rattle.lt_geometry.specs.Principal.{IsPrincipalNormal}
use Rattle.lt_geometry.specs.Plane.{numbers, left_class, right_class, plane, diagonal_normal, upright_normal, level_normal, PlaneIsDelaunay, PlaneRegulators, PlaneWalls}
use Rattle.lt_geometry.proofs.Paths.{principal_is_class}
use Rattle.lt_geometry.proofs.Neighbours.{principal_delaunay}
use Rattle.lt_geometry.proofs.PrincipalNormals.{principal_regulators}

-- the two orders
upward : IsOrder 2 (1 ∷ 0 ∷ [])
upward = record { count = refl; each = λ j h. each j h }
  where
    each : (j : ℕ) → j < 2 → Contains (1 ∷ 0 ∷ []) j
    each zero h = (1, omega arith, refl)
    each (suc zero) h = (0, omega arith, refl)
    each (suc (suc j)) h = absurd (omega arith)

rightward : IsOrder 2 (0 ∷ 1 ∷ [])
rightward = record { count = refl; each = λ j h. each j h }
  where
    each : (j : ℕ) → j < 2 → Contains (0 ∷ 1 ∷ []) j
    each zero h = (0, omega arith, refl)
    each (suc zero) h = (1, omega arith, refl)
    each (suc (suc j)) h = absurd (omega arith)

pub left_is_class : IsClass 2 left_class
left_is_class = principal_is_class 2 (1 ∷ 0 ∷ []) upward

pub right_is_class : IsClass 2 right_class
right_is_class = principal_is_class 2 (0 ∷ 1 ∷ []) rightward

either : (p : List ℕ) → IsOrder 2 p → (p ≡ 1 ∷ 0 ∷ []) ⊎ (p ≡ 0 ∷ 1 ∷ [])
either [] h = absurd (omega (arith, h.count))
either (a ∷ []) h = absurd (omega (arith, h.count))
either (a ∷ b ∷ c ∷ p) h = absurd (omega (arith, h.count))
either (a ∷ b ∷ []) h = from (of a b 0 (h.each 0 (omega arith))) (of a b 1 (h.each 1 (omega arith)))
  where
    of : (a b j : ℕ) → Contains (a ∷ b ∷ []) j → (a ≡ j) ⊎ (b ≡ j)
    of a b j (zero, p, e) = inl e
    of a b j (suc zero, p, e) = inr e
    of a b j (suc (suc k), p, e) = absurd (omega arith)

    from : {a b : ℕ} → (a ≡ 0) ⊎ (b ≡ 0) → (a ≡ 1) ⊎ (b ≡ 1) → (a ∷ b ∷ [] ≡ 1 ∷ 0 ∷ []) ⊎ (a ∷ b ∷ [] ≡ 0 ∷ 1 ∷ [])
    from (inl e) (inl f) = absurd (omega arith)
    from (inl e) (inr f) = inr cc
    from (inr e) (inl f) = inl cc
    from (inr e) (inr f) = absurd (omega arith)

pub plane_cases : (s : List (List ℤ)) → Contains plane s → (left_class ≡ s) ⊎ (right_class ≡ s)
plane_cases s (zero, p, e) = inl e
plane_cases s (suc zero, p, e) = inr e
plane_cases s (suc (suc k), p, e) = absurd (omega arith)

pub has_left : Contains plane left_class
has_left = (0, omega arith, refl)

pub has_right : Contains plane right_class
has_right = (1, omega arith, refl)

-- two simplices in ascending order
pub two_ascending : (s t : List (List ℤ)) → simplex_cmp s t ≡ Less → IsStrictlySortedBy simplex_cmp (s ∷ t ∷ [])
unfolding IsStrictlySortedBy
two_ascending s t h = ((h, tt), (tt, tt))

pub plane_is_principal : IsPrincipal 2 plane
plane_is_principal = record {
  ascending = two_ascending left_class right_class refl;
  members = λ s. (into s, from s);
}
  where
    into : (s : List (List ℤ)) → Contains plane s → (p : List ℕ) × IsOrder 2 p × (s ≡ principal_class 2 p)
    into s h = elim (plane_cases s h) [ inl e ↦ (1 ∷ 0 ∷ [], upward, sym e) | inr e ↦ (0 ∷ 1 ∷ [], rightward, sym e) ]

    from : (s : List (List ℤ)) → (p : List ℕ) × IsOrder 2 p × (s ≡ principal_class 2 p) → Contains plane s
    from s (p, o, e) =
        elim (either p o) [
          | inl f ↦ (0, omega arith, sym (e ∙ ap (principal_class 2) f))
          | inr f ↦ (1, omega arith, sym (e ∙ ap (principal_class 2) f))
        ]

pub plane_delaunay : IsDelaunay 2 (numbers (pos 2) (negsuc 1) (pos 2)) plane
plane_delaunay = principal_delaunay 2 plane (omega arith) plane_is_principal

pub plane_is_delaunay : PlaneIsDelaunay
plane_is_delaunay = (left_is_class, right_is_class, plane_is_principal, refl, plane_delaunay)

stated : (n : List ℤ) → IsPrincipalNormal 2 n ↔ ((n ≡ diagonal_normal) ⊎ ((n ≡ upright_normal) ⊎ (n ≡ level_normal)))
stated n = (into n, from n)
  where
    into : (n : List ℤ) → IsPrincipalNormal 2 n → (n ≡ diagonal_normal) ⊎ ((n ≡ upright_normal) ⊎ (n ≡ level_normal))
    into n (inl (zero, zero, p, q, e)) = absurd (omega arith)
    into n (inl (zero, suc zero, p, q, e)) = inl e
    into n (inl (zero, suc (suc j), p, q, e)) = absurd (omega arith)
    into n (inl (suc i, j, p, q, e)) = absurd (omega arith)
    into n (inr (zero, q, e)) = inr (inr e)
    into n (inr (suc zero, q, e)) = inr (inl e)
    into n (inr (suc (suc i), q, e)) = absurd (omega arith)

    from : (n : List ℤ) → (n ≡ diagonal_normal) ⊎ ((n ≡ upright_normal) ⊎ (n ≡ level_normal)) → IsPrincipalNormal 2 n
    from n (inl e) = inl (0, 1, omega arith, omega arith, e)
    from n (inr (inl e)) = inr (1, omega arith, e)
    from n (inr (inr e)) = inr (0, omega arith, e)

pub plane_regulators : PlaneRegulators
plane_regulators n =
    let r = principal_regulators 2 plane (omega arith) plane_is_principal n in
    (λ h. (stated n).0 (r.0 h), λ h. r.1 ((stated n).1 h))

-- a form at which one of the three is 0 and the other two are positive
wall : (n w : List ℤ) → IsRegulator 2 plane n → length w ≡ 3 → dot n w ≡ pos 0 →
    ((diagonal_normal ≡ n) ⊎ (pos 0 <ℤ dot diagonal_normal w)) → ((upright_normal ≡ n) ⊎ (pos 0 <ℤ dot upright_normal w)) → ((level_normal ≡ n) ⊎ (pos 0 <ℤ dot level_normal w)) → IsWallForm 2 plane n w
wall n w r l z a b c = record {
  regulator = r;
  numbers = l;
  zero_there = z;
  others = λ m h other. elim ((plane_regulators m).0 h) [
    | inl e ↦ at m diagonal_normal e other a
    | inr e ↦ elim e [ inl f ↦ at m upright_normal f other b | inr f ↦ at m level_normal f other c ]
  ];
}
  where
    at : (m k : List ℤ) → m ≡ k → m ≢ n → ((k ≡ n) ⊎ (pos 0 <ℤ dot k w)) → pos 0 <ℤ dot m w
    at m k e other (inl f) = absurd (other (e ∙ f))
    at m k e other (inr p) = subst (λ (x : List ℤ). pos 0 <ℤ dot x w) (sym e) p

pub plane_walls : PlaneWalls
plane_walls = (
  wall diagonal_normal (numbers (pos 1) (pos 0) (pos 1)) ((plane_regulators diagonal_normal).1 (inl refl)) refl refl (inl refl) (inr (record { lt = tt })) (inr (record { lt = tt })),
  wall upright_normal (numbers (pos 2) (negsuc 1) (pos 1)) ((plane_regulators upright_normal).1 (inr (inl refl))) refl refl (inr (record { lt = tt })) (inl refl) (inr (record { lt = tt })),
  wall level_normal (numbers (pos 1) (negsuc 1) (pos 2)) ((plane_regulators level_normal).1 (inr (inr refl))) refl refl (inr (record { lt = tt })) (inr (record { lt = tt })) (inl refl),
)
