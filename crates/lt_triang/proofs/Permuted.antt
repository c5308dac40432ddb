-- Independent points are so in every order: coefficients follow their points through a permutation.
use Rattle.std.proofs.Common.{◌≡◌, ℕ, suc, ℤ, pos, ◌+ℤ◌, ◌*ℤ◌, ◌<◌, ◌+◌, refl, ap, arith, sym, ◌∙◌, subst, List, [], ◌∷◌, length, map, get_or, set}
use Rattle.std.proofs.lemmas.Int.{ints}
use borrow.Author.Differences.{up, down}
use Rattle.std.specs.List.{AllByRecursion, swap, sum_by}
use Rattle.std.proofs.lemmas.List.Elements.{recursion_from_All, All-from_recursion}
use Rattle.std.specs.List.Sorted.{IsPermutation, apply_swaps, SwapsInRange}
use Rattle.std.proofs.lemmas.List.Sorted.{IsPermutation-sym, sum_by-IsPermutation, All-permutation}
use Rattle.std.proofs.lemmas.List.{map-set}
use Rattle.std.proofs.lemmas.List.Sums.{sum_by-cons}
use Rattle.std.proofs.Math.ListN.{get_or-map}
use Rattle.lt_model.proofs.Excess.{dot-combine, same_from_dots}
use Rattle.lt_model.proofs.Walk.{length-combine}
use Rattle.lt_model.proofs.Opposite.{length-zeros}
use Rattle.lt_model.specs.Vectors.{dot, total, combine, zeros}
use Rattle.lt_model.specs.Simplices.{AllOfDimension, AreIndependent}

-- a point with its coefficient
abbrev pub Pair : Type 0
Pair = ℤ × List ℤ

map-swap : {X Y : Type 0} (f : X → Y) (xs : List X) (i j : ℕ) → map f (swap xs i j) ≡ swap (map f xs) i j
map-swap f [] i j = refl
map-swap f (x ∷ xs) i j =
    map-set f (set (x ∷ xs) i (get_or (x ∷ xs) j x)) j (get_or (x ∷ xs) i x)
    ∙ (rw (map-set f (x ∷ xs) i (get_or (x ∷ xs) j x), ← get_or-map f (x ∷ xs) j x, ← get_or-map f (x ∷ xs) i x) refl)

map-swaps : {X Y : Type 0} (f : X → Y) (xs : List X) (m : List (ℕ × ℕ)) → map f (apply_swaps xs m) ≡ apply_swaps (map f xs) m
map-swaps f xs [] = refl
map-swaps f xs (p ∷ m) = map-swap f (apply_swaps xs m) p.0 p.1 ∙ ap (λ l. swap l p.0 p.1) (map-swaps f xs m)

length-map' : {X Y : Type 0} (f : X → Y) (xs : List X) → length (map f xs) ≡ length xs
length-map' f [] = refl
length-map' f (x ∷ xs) = ap suc (length-map' f xs)

-- coefficients follow their points through a permutation
pub lift_permutation : (qs : List Pair) (xs ys : List (List ℤ)) → map (λ p. p.1) qs ≡ ys → IsPermutation ys xs → (ps : List Pair) × IsPermutation qs ps × (map (λ p. p.1) ps ≡ xs)
lift_permutation qs xs ys e h = (
  apply_swaps qs h.moves,
  record {
    moves = h.moves;
    below = subst (λ n. SwapsInRange n h.moves) (sym (ap length e) ∙ length-map' (λ p. p.1) qs) h.below;
    is = refl;
  },
  map-swaps (λ p. p.1) qs h.moves ∙ ap (λ l. apply_swaps l h.moves) e ∙ sym h.is,
)

total_parts : (F : Pair → ℤ) (ps : List Pair) → total (map F ps) +ℤ pos (sum_by (λ p. down (F p)) ps) ≡ pos (sum_by (λ p. up (F p)) ps)
total_parts F [] = omega (arith, ints)
total_parts F (p ∷ ps) = rw (sum_by-cons (λ p. down (F p)) p ps, sum_by-cons (λ p. up (F p)) p ps) (one_more (F p) (total (map F ps)) (sum_by (λ p. down (F p)) ps) (sum_by (λ p. up (F p)) ps) (total_parts F ps))
  where
    one_more : (x t : ℤ) (m n : ℕ) → t +ℤ pos m ≡ pos n → (x +ℤ t) +ℤ pos (down x + m) ≡ pos (up x + n)
    one_more x t m n h = omega (arith, ints)

-- a sum doesn't depend on the order
pub total-permuted : (F : Pair → ℤ) (ps qs : List Pair) → IsPermutation ps qs → total (map F qs) ≡ total (map F ps)
total-permuted F ps qs h =
    omega (arith, ints, total_parts F ps, total_parts F qs, sum_by-IsPermutation (λ p. down (F p)) ps qs h, sum_by-IsPermutation (λ p. up (F p)) ps qs h)

-- pairs of coefficients and points
pairs : List ℤ → List (List ℤ) → List Pair
pairs [] vs = []
pairs (b ∷ bs) [] = []
pairs (b ∷ bs) (v ∷ vs) = (b, v) ∷ pairs bs vs

pairs-points : (b : List ℤ) (vs : List (List ℤ)) → length b ≡ length vs → map (λ p. p.1) (pairs b vs) ≡ vs
unfolding pairs
pairs-points [] [] l = refl
pairs-points [] (v ∷ vs) l = absurd (omega arith)
pairs-points (b ∷ bs) [] l = absurd (omega arith)
pairs-points (b ∷ bs) (v ∷ vs) l = ap (λ k. v ∷ k) (pairs-points bs vs (omega arith))

pairs-coefficients : (b : List ℤ) (vs : List (List ℤ)) → length b ≡ length vs → map (λ p. p.0) (pairs b vs) ≡ b
unfolding pairs
pairs-coefficients [] [] l = refl
pairs-coefficients [] (v ∷ vs) l = absurd (omega arith)
pairs-coefficients (b ∷ bs) [] l = absurd (omega arith)
pairs-coefficients (b ∷ bs) (v ∷ vs) l = ap (λ k. b ∷ k) (pairs-coefficients bs vs (omega arith))

-- the sum of the products is the linear function of the combination
dot-pairs : (u : List ℤ) (ps : List Pair) → total (map (λ p. p.0 *ℤ dot u p.1) ps) ≡ dot u (combine (map (λ p. p.0) ps) (map (λ p. p.1) ps))
dot-pairs u ps = each ps ∙ sym (dot-combine u (map (λ p. p.0) ps) (map (λ p. p.1) ps))
  where
    each : (ps : List Pair) → total (map (λ p. p.0 *ℤ dot u p.1) ps) ≡ dot (map (λ p. p.0) ps) (map (dot u) (map (λ p. p.1) ps))
    each [] = refl
    each (p ∷ ps) = ap (λ n. p.0 *ℤ dot u p.1 +ℤ n) (each ps)

zeros_each : (ps : List Pair) → map (λ p. p.0) ps ≡ zeros (length ps) → AllByRecursion (λ p. p.0 ≡ pos 0) ps
zeros_each [] e = tt
zeros_each (p ∷ ps) e = (cc, zeros_each ps (cc))

each_zeros : (ps : List Pair) → AllByRecursion (λ p. p.0 ≡ pos 0) ps → map (λ p. p.0) ps ≡ zeros (length ps)
each_zeros [] h = refl
each_zeros (p ∷ ps) h = rw (h.0, each_zeros ps h.1) refl

-- independent points are so in every order
pub independent_permuted : (d : ℕ) (xs ys : List (List ℤ)) → AllOfDimension d xs → 0 < length xs → IsPermutation xs ys → AreIndependent d xs → AreIndependent d ys
independent_permuted d xs ys all some h free b lb sum none =
    let qs : List Pair = pairs b ys in
    let eb : map (λ p. p.0) qs ≡ b = pairs-coefficients b ys lb in
    let ey : map (λ p. p.1) qs ≡ ys = pairs-points b ys lb in
    let back : IsPermutation ys xs = IsPermutation-sym xs ys h in
    let r = lift_permutation qs xs ys ey back in
    let ps : List Pair = r.0 in
    let moved : IsPermutation qs ps = r.1 in
    let ex : map (λ p. p.1) ps ≡ xs = r.2 in
    let ca : List ℤ = map (λ p. p.0) ps in
    let la : length ca ≡ length xs = length-map' (λ p. p.0) ps ∙ sym (length-map' (λ p. p.1) ps) ∙ ap length ex in
    let sa : total ca ≡ pos 0 = total-permuted (λ p. p.0) qs ps moved ∙ ap total eb ∙ sum in
    let na : combine ca xs ≡ zeros d =
    same_from_dots (combine ca xs) (zeros d) (length-combine d ca xs all la some ∙ sym (length-zeros d)) (λ u. at u ps qs moved ex eb ey none)
    in
    let za : ca ≡ zeros (length xs) = free ca la sa na in
    let lp : length xs ≡ length ps = sym (ap length ex) ∙ length-map' (λ p. p.1) ps in
    let zp : AllByRecursion (λ p. p.0 ≡ pos 0) ps = zeros_each ps (za ∙ ap zeros lp) in
    let zq : AllByRecursion (λ p. p.0 ≡ pos 0) qs =
    recursion_from_All (λ p. p.0 ≡ pos 0) qs (All-permutation (λ p. p.0 ≡ pos 0) ps qs (IsPermutation-sym qs ps moved) (All-from_recursion (λ p. p.0 ≡ pos 0) ps zp))
    in
    let lq : length qs ≡ length ys = sym (length-map' (λ p. p.1) qs) ∙ ap length ey in
    sym eb ∙ each_zeros qs zq ∙ ap zeros lq
  where
    at : (u : List ℤ) (ps qs : List Pair) → IsPermutation qs ps → map (λ p. p.1) ps ≡ xs → map (λ p. p.0) qs ≡ b → map (λ p. p.1) qs ≡ ys → combine b ys ≡ zeros d → dot u (combine (map (λ p. p.0) ps) xs) ≡ dot u (zeros d)
    at u ps qs moved ex eb ey none =
        let e1 : total (map (λ p. p.0 *ℤ dot u p.1) ps) ≡ total (map (λ p. p.0 *ℤ dot u p.1) qs) = total-permuted (λ p. p.0 *ℤ dot u p.1) qs ps moved in
        let e2 : dot u (combine (map (λ p. p.0) ps) xs) ≡ total (map (λ p. p.0 *ℤ dot u p.1) ps) = ap (λ l. dot u (combine (map (λ p. p.0) ps) l)) (sym ex) ∙ sym (dot-pairs u ps) in
        let e3 : total (map (λ p. p.0 *ℤ dot u p.1) qs) ≡ dot u (combine b ys) = dot-pairs u qs ∙ ap (λ l. dot u (combine l (map (λ p. p.1) qs))) eb ∙ ap (λ l. dot u (combine b l)) ey in
        e2 ∙ e1 ∙ e3 ∙ ap (dot u) none
