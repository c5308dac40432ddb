-- What the calls for exchanged points need, and the list of the classes that are made.
use Rattle.std.proofs.Common.{◌≡◌, ℕ, suc, ℤ, pos, ◌<ℤ◌, ◌<◌, ◌≤◌, ◌+◌, ◌-◌, ◌*◌, arith, sym, subst, List, [], ◌∷◌, ◌++◌, length, ◌⊎◌, inl, inr, ◌↔◌}
use Rattle.std.proofs.lemmas.Int.{ints}
use Rattle.std.specs.List.{Contains}
use Rattle.std.proofs.lemmas.List.Elements.{Contains-push, Contains-push_cases, Contains-append_left}
use Rattle.lt_model.specs.Limits.{span_limit}
use Rattle.lt_model.specs.Simplices.{AllOfDimension, IsSimplex, IsClass, IsClassOf, IsExpression}
use Rattle.lt_model.specs.Facets.{without, number_at}
use Rattle.lt_geometry.specs.Exchanges.{IsMadeFrom}
use Rattle.lt_geometry.proofs.Classes.{one_class}
use Rattle.lt_triang.specs.Bounds.{AreNear}
use Rattle.lt_triang.specs.Flat.{IsClassAt, IsFlat}
use Rattle.lt_triang.proofs.Shifts.{contains_without}
use Rattle.lt_flip.proofs.Independent.{exchanged_simplex, not_flat}

-- the points have a class
pub record HasClass (d : ℕ) (ps : List (List ℤ)) : Type 0 where
  pub simplex : IsSimplex d ps
  pub last : length ps - 1 ≡ d
  pub dimension : AllOfDimension (length ps - 1) ps
  pub near : AreNear (2 * span_limit (length ps - 1)) ps

pub exchanged_points : (d : ℕ) (s : List (List ℤ)) (w : List ℤ) (c : ℤ) (b : List ℤ) (k : ℕ) (ps : List (List ℤ)) → IsClass d s → length w ≡ d → AreNear (2 * span_limit d) (w ∷ s) → IsExpression s w c b → k < suc d → pos 0 <ℤ number_at k b → ps ≡ without (suc k) (w ∷ s) → HasClass d ps
exchanged_points d s w c b k ps cls lw near e hk p is =
    let x : IsSimplex d (without (suc k) (w ∷ s)) = exchanged_simplex d s w c b k cls.simplex lw e hk (λ z. omega (arith, ints, p, z)) in
    let simplex : IsSimplex d ps = subst (IsSimplex d) (sym is) x in
    let last : length ps - 1 ≡ d = omega (arith, simplex.count) in
    record {
      simplex = simplex;
      last = last;
      dimension = subst (λ (n : ℕ). AllOfDimension n ps) (sym last) simplex.points;
      near = subst (λ (n : ℕ). AreNear (2 * span_limit n) ps) (sym last) (subst (λ (l : List (List ℤ)). AreNear (2 * span_limit d) l) (sym is)
          (λ x y cx cy. near x y (contains_without (suc k) (w ∷ s) x cx) (contains_without (suc k) (w ∷ s) y cy)));
    }

pub never_flat : (d : ℕ) (ps : List (List ℤ)) (terms : List ℤ) → HasClass d ps → IsFlat (length ps - 1) ps terms → ⊥
never_flat d ps terms h f = not_flat d ps terms h.simplex (subst (λ (n : ℕ). IsFlat n ps terms) h.last f)

pub class_there : (d : ℕ) (ps qs s : List (List ℤ)) (p : List ℤ) → HasClass d ps → ps ≡ qs → IsClassAt (length ps - 1) ps s p → IsClassOf d qs s
class_there d ps qs s p h is at =
    let c : IsClassAt d ps s p = subst (λ (n : ℕ). IsClassAt n ps s p) h.last at in
    subst (λ (l : List (List ℤ)). IsClassOf d l s) is (record { shift = p; dimension = c.dimension; «class» = c.«class»; same = c.same })

-- the list has what it had, and the classes that are made at the first m places
abbrev pub HasMadeBelow : ℕ → List (List ℤ) → List ℤ → List ℤ → List (List (List ℤ)) → ℕ → List (List (List ℤ)) → Type 0
HasMadeBelow d s w b all m more = (r : List (List ℤ)) → Contains more r ↔ (Contains all r ⊎ ((k : ℕ) × (k < m) × IsMadeFrom d s w b k r))

-- the place of a number below the next one
below_or_at : (k m : ℕ) → k < m + 1 → (k < m) ⊎ (k ≡ m)
below_or_at k m h = grind arith

pub one_more : (d : ℕ) (s : List (List ℤ)) (w b : List ℤ) (all : List (List (List ℤ))) (m : ℕ) (more : List (List (List ℤ))) (x : List (List ℤ)) → m < suc d → pos 0 <ℤ number_at m b → IsClassOf d (without (suc m) (w ∷ s)) x → HasMadeBelow d s w b all m more → HasMadeBelow d s w b all (m + 1) (more ++ x ∷ [])
one_more d s w b all m more x hm p c h r = (to, from)
  where
    to : Contains (more ++ x ∷ []) r → Contains all r ⊎ ((k : ℕ) × (k < m + 1) × IsMadeFrom d s w b k r)
    to i = elim (Contains-push_cases more x r i) [
      | inl j ↦ elim ((h r).0 j) [ inl y ↦ inl y | inr (k, l, y) ↦ inr (k, omega (arith, l), y) ]
      | inr e ↦ inr (m, omega arith, record { place = hm; positive = p; class_of = subst (λ (z : List (List ℤ)). IsClassOf d (without (suc m) (w ∷ s)) z) e c })
    ]

    from : Contains all r ⊎ ((k : ℕ) × (k < m + 1) × IsMadeFrom d s w b k r) → Contains (more ++ x ∷ []) r
    from (inl y) = Contains-append_left more (x ∷ []) r ((h r).1 (inl y))
    from (inr (k, l, y)) = elim (below_or_at k m l) [
      | inl q ↦ Contains-append_left more (x ∷ []) r ((h r).1 (inr (k, q, y)))
      | inr e ↦ subst (λ (z : List (List ℤ)). Contains (more ++ x ∷ []) z) (one_class d (without (suc m) (w ∷ s)) x r c (subst (λ (n : ℕ). IsClassOf d (without (suc n) (w ∷ s)) r) e y.class_of)) (Contains-push more x)
    ]

pub none_more : (d : ℕ) (s : List (List ℤ)) (w b : List ℤ) (all : List (List (List ℤ))) (m : ℕ) (more : List (List (List ℤ))) → (pos 0 <ℤ number_at m b → ⊥) → HasMadeBelow d s w b all m more → HasMadeBelow d s w b all (m + 1) more
none_more d s w b all m more n h r = (
  λ i. elim ((h r).0 i) [ inl y ↦ inl y | inr (k, l, y) ↦ inr (k, omega (arith, l), y) ],
  λ i. elim i [
    | inl y ↦ (h r).1 (inl y)
    | inr (k, l, y) ↦ elim (below_or_at k m l) [
      | inl q ↦ (h r).1 (inr (k, q, y))
      | inr e ↦ absurd (n (subst (λ (j : ℕ). pos 0 <ℤ number_at j b) e y.positive))
    ]
  ],
)

pub all_made_there : (d : ℕ) (s : List (List ℤ)) (w b : List ℤ) (all : List (List (List ℤ))) (m : ℕ) (more : List (List (List ℤ))) → suc d ≤ m → HasMadeBelow d s w b all m more → (r : List (List ℤ)) → Contains more r ↔ (Contains all r ⊎ ((k : ℕ) × IsMadeFrom d s w b k r))
all_made_there d s w b all m more l h r = (
  λ i. elim ((h r).0 i) [ inl y ↦ inl y | inr (k, q, y) ↦ inr (k, y) ],
  λ i. elim i [ inl y ↦ (h r).1 (inl y) | inr (k, y) ↦ (h r).1 (inr (k, (let p = y.place in omega (arith, p, l)), y)) ],
)
