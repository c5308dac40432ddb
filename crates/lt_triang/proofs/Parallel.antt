-- Facets that are translates of one another, told by the differences of their points.
use Rattle.std.proofs.Common.{◌≡◌, ℕ, zero, suc, ℤ, negsuc, ◌+ℤ◌, ◌*ℤ◌, ◌<◌, refl, arith, sym, ◌∙◌, List, [], ◌∷◌, length, get_or, ◌↔◌}
use Rattle.std.proofs.lemmas.Int.{ints}
use Rattle.lt_model.specs.Facets.{without}
use Rattle.lt_model.specs.Vectors.{plus, minus}
use Rattle.lt_model.specs.Simplices.{AllOfDimension, translate}
use Rattle.lt_model.proofs.Dependent.{all_without}
use Rattle.lt_model.proofs.Points.{get_dimension, minus_itself}
use Rattle.lt_triang.specs.Across.{HasFacet}
use Rattle.lt_triang.proofs.Shifts.{length_without}

-- x + (a - b) is y exactly where x - b is y - a
moved_to : (d : ℕ) (x y a b : List ℤ) → length x ≡ d → length y ≡ d → length a ≡ d → length b ≡ d → (plus x (minus a b) ≡ y) ↔ (minus y a ≡ minus x b)
moved_to zero [] [] [] [] lx ly la lb = ((λ _. refl), (λ _. refl))
moved_to zero (u ∷ x) y a b lx ly la lb = absurd (omega arith)
moved_to zero [] (v ∷ y) a b lx ly la lb = absurd (omega arith)
moved_to zero [] [] (w ∷ a) b lx ly la lb = absurd (omega arith)
moved_to zero [] [] [] (z ∷ b) lx ly la lb = absurd (omega arith)
moved_to (suc d) [] y a b lx ly la lb = absurd (omega arith)
moved_to (suc d) (u ∷ x) [] a b lx ly la lb = absurd (omega arith)
moved_to (suc d) (u ∷ x) (v ∷ y) [] b lx ly la lb = absurd (omega arith)
moved_to (suc d) (u ∷ x) (v ∷ y) (w ∷ a) [] lx ly la lb = absurd (omega arith)
moved_to (suc d) (u ∷ x) (v ∷ y) (w ∷ a) (z ∷ b) lx ly la lb =
    let rest = moved_to d x y a b (omega arith) (omega arith) (omega arith) (omega arith) in
    ((λ e. both_there (rest.0 (tails e)) (heads e)), (λ e. both_back (rest.1 (tails e)) (heads e)))
  where
    heads : {m n : ℤ} {s t : List ℤ} → (m ∷ s) ≡ (n ∷ t) → m ≡ n
    heads e = cc

    tails : {m n : ℤ} {s t : List ℤ} → (m ∷ s) ≡ (n ∷ t) → s ≡ t
    tails e = cc

    both_there : minus y a ≡ minus x b → u +ℤ (w +ℤ negsuc 0 *ℤ z) ≡ v → minus (v ∷ y) (w ∷ a) ≡ minus (u ∷ x) (z ∷ b)
    both_there e h = let k : v +ℤ negsuc 0 *ℤ w ≡ u +ℤ negsuc 0 *ℤ z = omega (arith, ints, h) in cc

    both_back : plus x (minus a b) ≡ y → v +ℤ negsuc 0 *ℤ w ≡ u +ℤ negsuc 0 *ℤ z → plus (u ∷ x) (minus (w ∷ a) (z ∷ b)) ≡ (v ∷ y)
    both_back e h = let k : u +ℤ (w +ℤ negsuc 0 *ℤ z) ≡ v = omega (arith, ints, h) in cc

-- the facets are translates where their points differ from the first ones alike
pub parallel_from : (d : ℕ) (mine theirs : List (List ℤ)) (a b : List ℤ) → AllOfDimension d mine → AllOfDimension d theirs → length mine ≡ length theirs → length a ≡ d → length b ≡ d →
    ((k : ℕ) → k < length mine → minus (get_or mine k []) a ≡ minus (get_or theirs k []) b) → translate (minus a b) theirs ≡ mine
parallel_from d [] [] a b am at l la lb h = refl
parallel_from d [] (y ∷ theirs) a b am at l la lb h = absurd (omega arith)
parallel_from d (x ∷ mine) [] a b am at l la lb h = absurd (omega arith)
parallel_from d (x ∷ mine) (y ∷ theirs) a b am at l la lb h =
    let head : plus y (minus a b) ≡ x = (moved_to d y x a b at.0 am.0 la lb).1 (h 0 (omega arith)) in
    let tail : translate (minus a b) theirs ≡ mine = parallel_from d mine theirs a b am.1 at.1 (omega arith) la lb (λ k p. h (suc k) (omega arith)) in
    cc

pub parallel_each : (d : ℕ) (mine theirs : List (List ℤ)) (a b : List ℤ) → AllOfDimension d mine → AllOfDimension d theirs → length a ≡ d → length b ≡ d → translate (minus a b) theirs ≡ mine →
    (k : ℕ) → k < length mine → minus (get_or mine k []) a ≡ minus (get_or theirs k []) b
parallel_each d [] theirs a b am at la lb e k p = absurd (omega arith)
parallel_each d (x ∷ mine) [] a b am at la lb e k p = cc
parallel_each d (x ∷ mine) (y ∷ theirs) a b am at la lb e zero p = (moved_to d y x a b at.0 am.0 la lb).0 (head e)
  where
    head : (let l : List (List ℤ) = plus y (minus a b) ∷ translate (minus a b) theirs in l) ≡ (x ∷ mine) → plus y (minus a b) ≡ x
    head e = cc
parallel_each d (x ∷ mine) (y ∷ theirs) a b am at la lb e (suc k) p = parallel_each d mine theirs a b am.1 at.1 la lb (tail e) k (omega arith)
  where
    tail : (let l : List (List ℤ) = plus y (minus a b) ∷ translate (minus a b) theirs in l) ≡ (x ∷ mine) → translate (minus a b) theirs ≡ mine
    tail e = cc

-- ---- facets of simplices

pub length-facet : (d : ℕ) (s : List (List ℤ)) (i : ℕ) → HasFacet d s i → length (without i s) ≡ d
length-facet d s i h = omega (arith, h.count, h.place, length_without i s (omega (arith, h.count, h.place)))

pub facet_points : (d : ℕ) (s : List (List ℤ)) (i : ℕ) → HasFacet d s i → AllOfDimension d (without i s)
facet_points d s i h = all_without (λ v. length v ≡ d) i s h.dimension

pub facet_point : (d : ℕ) (s : List (List ℤ)) (i k : ℕ) → HasFacet d s i → k < d → length (get_or (without i s) k []) ≡ d
facet_point d s i k h p = get_dimension d k (without i s) [] (facet_points d s i h) (omega (arith, length-facet d s i h, p))

-- the first points differ from themselves alike
pub first_alike : (d : ℕ) (s : List (List ℤ)) (i : ℕ) (next : List (List ℤ)) (j : ℕ) → HasFacet d s i → HasFacet d next j →
    minus (get_or (without i s) 0 []) (get_or (without i s) 0 []) ≡ minus (get_or (without j next) 0 []) (get_or (without j next) 0 [])
first_alike d s i next j h k =
    minus_itself d (get_or (without i s) 0 []) (facet_point d s i 0 h (omega (arith, h.low)))
    ∙ sym (minus_itself d (get_or (without j next) 0 []) (facet_point d next j 0 k (omega (arith, h.low))))

pub parallel_facets : (d : ℕ) (s : List (List ℤ)) (i : ℕ) (next : List (List ℤ)) (j : ℕ) → HasFacet d s i → HasFacet d next j →
    ((m : ℕ) → m < d → minus (get_or (without i s) m []) (get_or (without i s) 0 []) ≡ minus (get_or (without j next) m []) (get_or (without j next) 0 [])) →
    translate (minus (get_or (without i s) 0 []) (get_or (without j next) 0 [])) (without j next) ≡ without i s
parallel_facets d s i next j h k each =
    parallel_from d (without i s) (without j next) _ _ (facet_points d s i h) (facet_points d next j k) (length-facet d s i h ∙ sym (length-facet d next j k))
    (facet_point d s i 0 h (omega (arith, h.low))) (facet_point d next j 0 k (omega (arith, h.low))) (λ m p. each m (omega (arith, p, length-facet d s i h)))

pub parallel_points : (d : ℕ) (s : List (List ℤ)) (i : ℕ) (next : List (List ℤ)) (j : ℕ) → HasFacet d s i → HasFacet d next j →
    translate (minus (get_or (without i s) 0 []) (get_or (without j next) 0 [])) (without j next) ≡ without i s →
    (m : ℕ) → m < d → minus (get_or (without i s) m []) (get_or (without i s) 0 []) ≡ minus (get_or (without j next) m []) (get_or (without j next) 0 [])
parallel_points d s i next j h k e m p =
    parallel_each d (without i s) (without j next) _ _ (facet_points d s i h) (facet_points d next j k)
    (facet_point d s i 0 h (omega (arith, h.low))) (facet_point d next j 0 k (omega (arith, h.low))) e m (omega (arith, p, length-facet d s i h))
