-- Points in order, and the differences of points from the first: counts, dimensions, bounds.
use Rattle.std.proofs.Common.{◌≡◌, ℕ, suc, ℤ, pos, negsuc, neg_ℤ, ◌<ℤ◌, ◌<◌, ◌≤◌, ◌-◌, refl, ap, arith, sym, ◌∙◌, subst, List, [], ◌∷◌, length, get_or, ◌⊎◌}
use Rattle.std.specs.List.{All, AllByRecursion, Contains}
use Rattle.std.specs.List.Sorted.{IsPermutation}
use Rattle.std.proofs.lemmas.List.Sorted.{Contains-permutation, IsPermutation-sym, length_permutation}
use Rattle.std.proofs.lemmas.List.Elements.{Contains-get_or}
use Rattle.lt_model.proofs.Sets.{Contains-head, Contains-tail}
use Rattle.lt_model.proofs.Excess.{length-translate}
use Rattle.lt_model.specs.Vectors.{minus, scale, total, AreLinearlyIndependent}
use Rattle.lt_model.specs.Simplices.{AllOfDimension, AreIndependent, translate}
use Rattle.lt_model.proofs.Differences.{independent_from_differences}
use Rattle.lt_model.proofs.Points.{get_dimension}
use Rattle.lt_lattice.specs.Ranges.{IsWithin}
use Rattle.lt_triang.specs.Bounds.{AreWithin, AreNear}
use Rattle.lt_solve.specs.Systems.{IsColumnDependency}
use Rattle.lt_triang.specs.Flat.{IsFlat, leading, columns_of}
use Rattle.lt_triang.proofs.Signs.{raw_from_columns, flat_from_raw}
use Rattle.lt_triang.proofs.Least.{all_permuted}

pub sorted_dimension : (d : ℕ) (ps ss : List (List ℤ)) (p : List ℤ) → 0 < length ps → AllOfDimension d ps → IsPermutation ps ss → p ≡ get_or ss 0 [] → AllOfDimension (length p) ss
sorted_dimension d ps ss p some all h e =
    let a : AllOfDimension d ss = all_permuted d ps ss h all in
    let l : d ≡ length p = sym (ap length e ∙ get_dimension d 0 ss [] a (omega (arith, length_permutation ps ss h))) in
    subst (λ (n : ℕ). AllOfDimension n ss) l a

pub sorted_near : (m : ℕ) (ps ss : List (List ℤ)) (p : List ℤ) → 0 < length ps → AreNear m ps → IsPermutation ps ss → p ≡ get_or ss 0 [] → All (λ v. All (IsWithin m) (minus v p)) ss
sorted_near m ps ss p some near h e k d l =
    let back : (x : List ℤ) → Contains ss x → Contains ps x = λ x. Contains-permutation ss ps x (IsPermutation-sym ps ss h) in
    let first : Contains ps p = subst (λ (w : List ℤ). Contains ps w) (sym e) (back (get_or ss 0 []) (Contains-get_or ss 0 [] (omega (arith, length_permutation ps ss h)))) in
    near (get_or ss k d) p (back (get_or ss k d) (Contains-get_or ss k d l)) first

-- ---- the differences from the first point

pub of_count : (ps : List (List ℤ)) → length (columns_of ps) ≡ length ps - 1
of_count [] = refl
of_count (v ∷ vs) = length-translate (scale (negsuc 0) v) vs ∙ (omega arith)

pub of_near : (m : ℕ) (ps : List (List ℤ)) → AreNear m ps → AreWithin m (columns_of ps)
of_near m [] near = tt
of_near m (v ∷ vs) near = each vs (λ x c. near x v (Contains-tail v vs x c) (Contains-head v vs))
  where
    each : (ws : List (List ℤ)) → ((x : List ℤ) → Contains ws x → All (IsWithin m) (minus x v)) → AllByRecursion (All (IsWithin m)) (translate (scale (negsuc 0) v) ws)
    each [] h = tt
    each (w ∷ ws) h = (h w (Contains-head w ws), each ws (λ x c. h x (Contains-tail w ws x c)))

pub of_independent : (d : ℕ) (ps : List (List ℤ)) → length ps ≡ suc d → 0 < d → AllOfDimension d ps → AreLinearlyIndependent (columns_of ps) → AreIndependent d ps
of_independent d [] l some all free = absurd (omega arith)
of_independent d (v ∷ vs) l some all free = independent_from_differences d v vs (omega arith) (omega arith) all free

pub of_flat : (d : ℕ) (ps : List (List ℤ)) (b t : List ℤ) → length ps ≡ suc d → 0 < d → AllOfDimension d ps → IsColumnDependency (columns_of ps) b →
    (t ≡ neg_ℤ (total b) ∷ b) ⊎ (t ≡ scale (negsuc 0) (neg_ℤ (total b) ∷ b)) → pos 0 <ℤ leading t → IsFlat d ps t
of_flat d [] b t l some all h either sign = absurd (omega arith)
of_flat d (v ∷ vs) b t l some all h either sign =
    flat_from_raw d (v ∷ vs) (neg_ℤ (total b) ∷ b) t (omega arith) all (raw_from_columns d v vs b (omega arith) (omega arith) all h) either sign

pub near_more : (m n : ℕ) (ps : List (List ℤ)) → m ≤ n → AreNear m ps → AreNear n ps
near_more m n ps le near x y cx cy k d l = more (near x y cx cy k d l)
  where
    more : {k : ℕ} → k ≤ m → k ≤ n
    more {k} h = omega arith
