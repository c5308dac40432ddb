-- Two lists of normals of forms in two variables: their weights are below the limit, and the second ones are positive at a form.
use Rattle.std.proofs.Common.{arith, refl, sym, subst, ℕ, zero, suc, ℤ, pos, negsuc, ◌≡◌, ◌<◌, List, [], ◌∷◌, length}
use Rattle.std.proofs.lemmas.Int.{ints}
use Rattle.std.proofs.lemmas.List.Elements.{All-from_recursion}
use Rattle.lt_model.specs.Forms.{numbers_of_form}
use Rattle.lt_model.specs.Limits.{weight, weight_limit}
use Rattle.lt_lp.specs.Positive.{IsPositiveAt}
use Rattle.lt_tableau.specs.Errors.{AreOfDimension}

of_plane : (a b c : List ℤ) → length a ≡ 3 → length b ≡ 3 → length c ≡ 3 → AreOfDimension 2 (a ∷ b ∷ c ∷ [])
of_plane a b c x y z = All-from_recursion (λ n. length n ≡ numbers_of_form 2) (a ∷ b ∷ c ∷ []) (x, (y, (z, tt)))

renamed : (P : List (List ℤ) → Type 0) (a b c u v w : List ℤ) → a ≡ u → b ≡ v → c ≡ w → P (u ∷ v ∷ w ∷ []) → P (a ∷ b ∷ c ∷ [])
renamed P a b c u v w x y z h =
    subst (λ (n : List ℤ). P (n ∷ b ∷ c ∷ [])) (sym x) (subst (λ (n : List ℤ). P (u ∷ n ∷ c ∷ [])) (sym y) (subst (λ (n : List ℤ). P (u ∷ v ∷ n ∷ [])) (sym z) h))

abbrev IsLight : List (List ℤ) → Type 0
IsLight ns = (d : ℕ) × AreOfDimension d ns × (weight d ns < weight_limit)

pub sum_light : (a b c : List ℤ) → a ≡ pos 0 ∷ pos 0 ∷ pos 1 ∷ [] → b ≡ pos 1 ∷ pos 0 ∷ pos 0 ∷ [] → c ≡ pos 1 ∷ pos 0 ∷ pos 1 ∷ [] → (d : ℕ) × AreOfDimension d (a ∷ b ∷ c ∷ []) × (weight d (a ∷ b ∷ c ∷ []) < weight_limit)
sum_light a b c x y z =
    renamed IsLight a b c (pos 0 ∷ pos 0 ∷ pos 1 ∷ []) (pos 1 ∷ pos 0 ∷ pos 0 ∷ []) (pos 1 ∷ pos 0 ∷ pos 1 ∷ []) x y z
    (2, of_plane (pos 0 ∷ pos 0 ∷ pos 1 ∷ []) (pos 1 ∷ pos 0 ∷ pos 0 ∷ []) (pos 1 ∷ pos 0 ∷ pos 1 ∷ []) refl refl refl, omega arith)

module _ (a b c : List ℤ) (x : a ≡ pos 0 ∷ negsuc 0 ∷ pos 0 ∷ []) (y : b ≡ pos 0 ∷ pos 1 ∷ pos 2 ∷ []) (z : c ≡ pos 2 ∷ pos 1 ∷ pos 0 ∷ []) where
  pub principal_light : (d : ℕ) × AreOfDimension d (a ∷ b ∷ c ∷ []) × (weight d (a ∷ b ∷ c ∷ []) < weight_limit)
  principal_light =
      renamed IsLight a b c (pos 0 ∷ negsuc 0 ∷ pos 0 ∷ []) (pos 0 ∷ pos 1 ∷ pos 2 ∷ []) (pos 2 ∷ pos 1 ∷ pos 0 ∷ []) x y z
      (2, of_plane (pos 0 ∷ negsuc 0 ∷ pos 0 ∷ []) (pos 0 ∷ pos 1 ∷ pos 2 ∷ []) (pos 2 ∷ pos 1 ∷ pos 0 ∷ []) refl refl refl, omega arith)

  pub principal_positive : (form : List ℤ) × IsPositiveAt form (a ∷ b ∷ c ∷ [])
  principal_positive = (pos 1 ∷ negsuc 0 ∷ pos 1 ∷ [], renamed (IsPositiveAt (pos 1 ∷ negsuc 0 ∷ pos 1 ∷ [])) a b c (pos 0 ∷ negsuc 0 ∷ pos 0 ∷ []) (pos 0 ∷ pos 1 ∷ pos 2 ∷ []) (pos 2 ∷ pos 1 ∷ pos 0 ∷ []) x y z each)
    where
      each : IsPositiveAt (pos 1 ∷ negsuc 0 ∷ pos 1 ∷ []) ((pos 0 ∷ negsuc 0 ∷ pos 0 ∷ []) ∷ (pos 0 ∷ pos 1 ∷ pos 2 ∷ []) ∷ (pos 2 ∷ pos 1 ∷ pos 0 ∷ []) ∷ [])
      each zero l = omega (arith, ints)
      each (suc zero) l = omega (arith, ints)
      each (suc (suc zero)) l = omega (arith, ints)
      each (suc (suc (suc i))) l = absurd (omega (arith, l))
