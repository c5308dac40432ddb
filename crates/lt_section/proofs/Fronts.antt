-- Lists that are filled up with zeros, and their fronts.
use Rattle.std.proofs.Common.{◌≡◌, ℕ, zero, suc, ℤ, pos, ◌+ℤ◌, ◌-◌, refl, ap, ap₂, arith, sym, ◌∙◌, List, [], ◌∷◌, ◌++◌, length, map, take, drop}
use Rattle.std.proofs.lemmas.Int.{ints}
use Rattle.std.proofs.Math.Seq.{take-append_seam}
use Rattle.std.specs.declared.cmp.Ordering.TheVariants.{Less, Equal}
use Rattle.std.specs.Ordering.{int_cmp, ordering_then}
use Rattle.std.specs.List.{Contains, AllByRecursion}
use Rattle.std.specs.List.Sorted.{IsStrictlySortedBy}
use Rattle.lt_model.specs.Order.{number_list_cmp}
use Rattle.lt_model.specs.Vectors.{plus, scale, dot, combine, zeros}
use Rattle.lt_model.proofs.Excess.{dot-append}
use Rattle.lt_model.proofs.Opposite.{zeros-dot}
use Rattle.lt_model.proofs.Sets.{Contains-head, Contains-tail}
use Rattle.lt_model.proofs.Vectors.{dot_comm}
use Rattle.lt_geometry.proofs.Reading.{dot-append_both}
use Rattle.lt_section.specs.Filled.{filled}

pub front-filled : (m n : ℕ) (r : List ℤ) → length r ≡ m → take m (filled n r) ≡ r
front-filled m n r e = ap (λ (k : ℕ). take k (filled n r)) (sym e) ∙ take-append_seam r (zeros (n - length r))

-- the zeros do not count
pub dot-filled : (m n : ℕ) (r w : List ℤ) → length r ≡ m → dot (filled n r) w ≡ dot r (take m w)
dot-filled m n r w l =
    let z : dot (drop (length r) w) (zeros (n - length r)) ≡ pos 0 = dot_comm (drop (length r) w) (zeros (n - length r)) ∙ zeros-dot (n - length r) (drop (length r) w) in
    let a = dot_comm (filled n r) w in
    let b = dot-append w r (zeros (n - length r)) in
    let c = dot_comm (take (length r) w) r in
    let e : dot (filled n r) w ≡ dot r (take (length r) w) = omega (arith, ints, z, a, b, c) in
    e ∙ ap (λ (k : ℕ). dot r (take k w)) l

pub dot-both_filled : (n : ℕ) (r s : List ℤ) → length r ≡ length s → dot (filled n r) (filled n s) ≡ dot r s
dot-both_filled n r s l =
    let a = dot-append_both r (zeros (n - length r)) s (zeros (n - length s)) l in
    let z = zeros-dot (n - length r) (zeros (n - length s)) in
    omega (arith, ints, a, z)

-- ---- the order

cmp-itself : (n : ℕ) → number_list_cmp (zeros n) (zeros n) ≡ Equal
cmp-itself zero = refl
cmp-itself (suc n) = cmp-itself n

cmp-append : (r s z : List ℤ) → number_list_cmp z z ≡ Equal → length r ≡ length s → number_list_cmp (r ++ z) (s ++ z) ≡ number_list_cmp r s
cmp-append [] [] z e l = e
cmp-append [] (y ∷ s) z e l = absurd (omega arith)
cmp-append (x ∷ r) [] z e l = absurd (omega arith)
cmp-append (x ∷ r) (y ∷ s) z e l = ap (ordering_then (int_cmp x y)) (cmp-append r s z e (omega arith))

pub cmp-filled : (n : ℕ) (r s : List ℤ) → length r ≡ length s → number_list_cmp (filled n r) (filled n s) ≡ number_list_cmp r s
cmp-filled n r s l =
    ap (λ (k : ℕ). number_list_cmp (filled n r) (s ++ zeros (n - k))) (sym l) ∙ cmp-append r s (zeros (n - length r)) (cmp-itself (n - length r)) l

-- x is its first m numbers, filled up
pub record IsFilledUp (m n : ℕ) (x : List ℤ) : Type 0 where
  pub length_is : length (take m x) ≡ m
  pub is : x ≡ filled n (take m x)

module _ (m n : ℕ) where
  below_fronts : (x : List ℤ) (xs : List (List ℤ)) → IsFilledUp m n x → ((y : List ℤ) → Contains xs y → IsFilledUp m n y) → AllByRecursion (λ y. number_list_cmp x y ≡ Less) xs → AllByRecursion (λ y. number_list_cmp (take m x) y ≡ Less) (map (take m) xs)
  below_fronts x [] hx h all = tt
  below_fronts x (y ∷ xs) hx h all =
      let hy = h y (Contains-head y xs) in
      let e : number_list_cmp x y ≡ number_list_cmp (take m x) (take m y) = ap₂ number_list_cmp hx.is hy.is ∙ cmp-filled n (take m x) (take m y) (hx.length_is ∙ sym hy.length_is) in
      (sym e ∙ all.0, below_fronts x xs hx (λ z c. h z (Contains-tail y xs z c)) all.1)

  -- the fronts ascend too
  pub fronts_ascend : (xs : List (List ℤ)) → ((x : List ℤ) → Contains xs x → IsFilledUp m n x) → IsStrictlySortedBy number_list_cmp xs → IsStrictlySortedBy number_list_cmp (map (take m) xs)
  unfolding IsStrictlySortedBy
  fronts_ascend [] h s = tt
  fronts_ascend (x ∷ xs) h s = (below_fronts x xs (h x (Contains-head x xs)) (λ y c. h y (Contains-tail x xs y c)) s.0, fronts_ascend xs (λ y c. h y (Contains-tail x xs y c)) s.1)

  pub filled_fronts : (xs : List (List ℤ)) → ((x : List ℤ) → Contains xs x → IsFilledUp m n x) → map (filled n) (map (take m) xs) ≡ xs
  filled_fronts [] h = refl
  filled_fronts (x ∷ xs) h = ap₂ (λ (y : List ℤ) (ys : List (List ℤ)). y ∷ ys) (sym ((h x (Contains-head x xs)).is)) (filled_fronts xs (λ y c. h y (Contains-tail x xs y c)))

-- ---- the front of a combination

pub take-plus : (m : ℕ) (x y : List ℤ) → take m (plus x y) ≡ plus (take m x) (take m y)
take-plus zero x y = refl
take-plus (suc m) [] y = refl
take-plus (suc m) (a ∷ x) [] = refl
take-plus (suc m) (a ∷ x) (b ∷ y) = ap (λ (z : List ℤ). (a +ℤ b) ∷ z) (take-plus m x y)

pub take-zeros : (m : ℕ) (x : List ℤ) → take m (zeros (length x)) ≡ zeros (length (take m x))
take-zeros zero x = refl
take-zeros (suc m) [] = refl
take-zeros (suc m) (a ∷ x) = ap (λ (z : List ℤ). pos 0 ∷ z) (take-zeros m x)

pub take-scale : (m : ℕ) (k : ℤ) (x : List ℤ) → take m (scale k x) ≡ scale k (take m x)
take-scale zero k x = refl
take-scale (suc m) k [] = refl
take-scale (suc m) k (a ∷ x) = ap (λ (z : List ℤ). scale k (a ∷ []) ++ z) (take-scale m k x)

pub take-combine : (m : ℕ) (bs : List ℤ) (vs : List (List ℤ)) → take m (combine bs vs) ≡ combine bs (map (take m) vs)
take-combine m [] vs = none m
  where
    none : (m : ℕ) → take {A = ℤ} m [] ≡ []
    none zero = refl
    none (suc m) = refl
take-combine m (b ∷ bs) [] = none m
  where
    none : (m : ℕ) → take {A = ℤ} m [] ≡ []
    none zero = refl
    none (suc m) = refl
take-combine m (b ∷ bs) (v ∷ vs) = take-plus m (scale b v) (combine bs vs) ∙ ap₂ plus (take-scale m b v) (take-combine m bs vs)
