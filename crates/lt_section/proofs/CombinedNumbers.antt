-- The numbers of a combination of forms, summed form by form, and how large they are.
use Rattle.std.proofs.Common.{◌≡◌, ℕ, suc, ℤ, pos, ◌+ℤ◌, ◌*ℤ◌, ◌+◌, ◌*◌, ◌^◌, ◌<◌, ◌≤◌, refl, ap, arith, sym, ◌∙◌, subst, List, [], ◌∷◌, ◌++◌, length, drop, take, get_or, nat_abs}
use Rattle.std.specs.Prelude.{FitsSigned}
use Rattle.std.proofs.lemmas.Int.{ints, to_z-of_z}
use mir.Val.{SFits, to_z, of_z}
use mir.Syntax.{w128}
use Rattle.std.proofs.lemmas.List.{drop_all, take_all, take_more, get_or_default}
use Rattle.std.proofs.lemmas.List.Elements.{All-push, recursion_from_All}
use Rattle.std.specs.List.{All}
use Rattle.lt_model.specs.Vectors.{dot, combine}
use Rattle.lt_model.specs.Facets.{number_at}
use Rattle.lt_model.specs.Cones.{AreBelow}
use Rattle.lt_lattice.specs.Ranges.{IsWithin}
use Rattle.lt_model.specs.Forms.{numbers_of_form}
use Rattle.lt_model.proofs.Walk.{length-combine}
use Rattle.lt_lattice.proofs.Dots.{inner_step, product_within}
use Rattle.lt_solve.specs.Forms.{row_of}
use Rattle.lt_solve.proofs.Tables.{get_or-row_of}
use Rattle.lt_solve.proofs.Solved.{row_combine}

-- what is summed so far, and how large it is
pub record IsSummed (at : List ℤ) (fs : List (List ℤ)) (j i : ℕ) (sum : ℤ) : Type 0 where
  pub so_far : sum +ℤ dot (drop i at) (drop i (row_of fs j)) ≡ dot at (row_of fs j)
  pub small : nat_abs sum ≤ i * (2 ^ 62 * 4096)

length-row : (fs : List (List ℤ)) (j : ℕ) → length (row_of fs j) ≡ length fs
length-row [] j = refl
length-row (f ∷ fs) j = ap suc (length-row fs j)

pub none_summed : (at : List ℤ) (fs : List (List ℤ)) (j : ℕ) → IsSummed at fs j 0 (pos 0)
none_summed at fs j = record { so_far = omega (arith, ints); small = omega arith }

pub summed_more : (at : List ℤ) (fs : List (List ℤ)) (j i : ℕ) (sum x y new : ℤ) → IsSummed at fs j i sum → length at ≡ length fs → i < length fs → x ≡ get_or at i (pos 0) → y ≡ number_at j (get_or fs i []) → nat_abs x ≤ 2 ^ 62 → nat_abs y ≤ 4096 → new ≡ sum +ℤ x *ℤ y → IsSummed at fs j (i + 1) new
summed_more at fs j i sum x y new h l hi ex ey bx by e =
    let r : y ≡ get_or (row_of fs j) i (pos 0) = ey ∙ sym (get_or-row_of fs j i hi) in
    let t : new ≡ sum +ℤ get_or at i (pos 0) *ℤ get_or (row_of fs j) i (pos 0) = rw (← ex, ← r) e in
    let s = h.small in
    let b = product_within x y (2 ^ 62) 4096 bx by in
    record { so_far = inner_step at (row_of fs j) i sum new (omega (arith, l, hi)) (let k = length-row fs j in omega (arith, k, hi)) t h.so_far; small = omega (arith, ints, e, s, b) }

pub summed_whole : (at : List ℤ) (fs : List (List ℤ)) (j i : ℕ) (sum : ℤ) → IsSummed at fs j i sum → length at ≡ length fs → length fs ≤ i → sum ≡ number_at j (combine at fs)
summed_whole at fs j i sum h l k =
    let e : dot (drop i at) (drop i (row_of fs j)) ≡ pos 0 = rw (drop_all i at (omega (arith, l, k))) refl in
    let s = h.so_far in
    let w : sum ≡ dot at (row_of fs j) = omega (arith, ints, e, s) in
    w ∙ row_combine at fs j l

pub summed_small : (at : List ℤ) (fs : List (List ℤ)) (j i : ℕ) (sum : ℤ) → IsSummed at fs j i sum → i ≤ 21 → nat_abs sum ≤ 21 * (2 ^ 62 * 4096)
summed_small at fs j i sum h k = bound (nat_abs sum) i h.small k
  where
    bound : (x i : ℕ) → x ≤ i * (2 ^ 62 * 4096) → i ≤ 21 → x ≤ 21 * (2 ^ 62 * 4096)
    bound x i h k = omega arith

-- the numbers that are multiplied, as the code reads them
pub record Sizes (x y z : ℤ) : Type 0 where
  pub is : y ≡ z
  pub first : nat_abs x ≤ 2 ^ 62
  pub second : nat_abs y ≤ 4096

pub sizes : (at : List ℤ) (fs : List (List ℤ)) (j i : ℕ) (form numbers : List ℤ) → length at ≡ length fs → i < length fs → AreBelow (2 ^ 62) at → All (All (IsWithin 4096)) fs → All (λ q. j < length q) fs → numbers ≡ form → form ≡ get_or fs i form → Sizes (get_or at i (pos 0)) (get_or numbers j (pos 0)) (number_at j (get_or fs i []))
sizes at fs j i form numbers l hi below within inside v f =
    let e : numbers ≡ get_or fs i [] = v ∙ f ∙ get_or_default fs i form [] hi in
    let b = below i (pos 0) (omega (arith, l, hi)) in
    record { is = ap (number_at j) e; first = omega (arith, b); second = rw e (within i [] hi j (pos 0) (inside i [] hi)) }

-- ---- what the code writes

kept : (x : ℤ) → nat_abs x ≤ 2 ^ 62 → to_z w128 (of_z w128 x) ≡ x
kept x h = to_z-of_z w128 x (fits x h)
  where
    fits : (x : ℤ) → nat_abs x ≤ 2 ^ 62 → SFits w128 x
    fits x h = omega (arith, ints, h)

short : (y : ℤ) → nat_abs y ≤ 4096 → nat_abs y ≤ 2 ^ 62
short y h = omega (arith, h)

product_fits : (x y : ℤ) → nat_abs x ≤ 2 ^ 62 → nat_abs y ≤ 4096 → SFits w128 (x *ℤ y)
product_fits x y bx by = let b = product_within x y (2 ^ 62) 4096 bx by in omega (arith, ints, b)

sum_fits : (i : ℕ) (s x y : ℤ) → i ≤ 21 → nat_abs s ≤ i * (2 ^ 62 * 4096) → nat_abs x ≤ 2 ^ 62 → nat_abs y ≤ 4096 → SFits w128 (s +ℤ x *ℤ y)
sum_fits i s x y few small bx by = let b = product_within x y (2 ^ 62) 4096 bx by in omega (arith, ints, b, few, small)

signed : (z : ℤ) → SFits w128 z → FitsSigned w128 z
signed z h = omega (arith, ints, h)

pub cast_product_fits : (x y : ℤ) → nat_abs x ≤ 2 ^ 62 → nat_abs y ≤ 4096 → FitsSigned w128 (to_z w128 (of_z w128 x) *ℤ to_z w128 (of_z w128 y))
cast_product_fits x y bx by = rw (kept x bx, kept y (short y by)) (signed (x *ℤ y) (product_fits x y bx by))

cast_product : (x y : ℤ) → nat_abs x ≤ 2 ^ 62 → nat_abs y ≤ 4096 → to_z w128 (of_z w128 (to_z w128 (of_z w128 x) *ℤ to_z w128 (of_z w128 y))) ≡ x *ℤ y
cast_product x y bx by = rw (kept x bx, kept y (short y by)) (to_z-of_z w128 (x *ℤ y) (product_fits x y bx by))

pub cast_sum_fits : (i : ℕ) (s x y : ℤ) → i ≤ 21 → nat_abs s ≤ i * (2 ^ 62 * 4096) → nat_abs x ≤ 2 ^ 62 → nat_abs y ≤ 4096 → FitsSigned w128 (s +ℤ to_z w128 (of_z w128 (to_z w128 (of_z w128 x) *ℤ to_z w128 (of_z w128 y))))
cast_sum_fits i s x y few small bx by = rw (cast_product x y bx by) (signed (s +ℤ x *ℤ y) (sum_fits i s x y few small bx by))

pub cast_sum : (i : ℕ) (s x y : ℤ) → i ≤ 21 → nat_abs s ≤ i * (2 ^ 62 * 4096) → nat_abs x ≤ 2 ^ 62 → nat_abs y ≤ 4096 → to_z w128 (of_z w128 (s +ℤ to_z w128 (of_z w128 (to_z w128 (of_z w128 x) *ℤ to_z w128 (of_z w128 y))))) ≡ s +ℤ x *ℤ y
cast_sum i s x y few small bx by = rw (cast_product x y bx by) (to_z-of_z w128 (s +ℤ x *ℤ y) (sum_fits i s x y few small bx by))

-- ---- the form

-- its numbers so far, and how large they are
pub record AreCombined (at : List ℤ) (fs : List (List ℤ)) (j : ℕ) (numbers : List ℤ) : Type 0 where
  pub so_far : numbers ≡ take j (combine at fs)
  pub within : All (IsWithin (21 * (2 ^ 62 * 4096))) numbers

pub combined_more : (at : List ℤ) (fs : List (List ℤ)) (j : ℕ) (numbers new : List ℤ) (x : ℤ) → AreCombined at fs j numbers → j < length (combine at fs) → x ≡ number_at j (combine at fs) → nat_abs x ≤ 21 * (2 ^ 62 * 4096) → new ≡ numbers ++ x ∷ [] → AreCombined at fs (j + 1) new
combined_more at fs j numbers new x h l v b e = record {
  so_far = e ∙ ap (λ (y : List ℤ). y ++ x ∷ []) h.so_far ∙ ap (λ (y : ℤ). take j (combine at fs) ++ y ∷ []) v ∙ sym (take_more (combine at fs) j (pos 0) l);
  within = subst (λ (y : List ℤ). All (IsWithin (21 * (2 ^ 62 * 4096))) y) (sym e) (All-push (IsWithin (21 * (2 ^ 62 * 4096))) numbers x h.within b);
}

pub combined_length : (d : ℕ) (at : List ℤ) (fs : List (List ℤ)) → All (λ q. length q ≡ numbers_of_form d) fs → length at ≡ length fs → 0 < length fs → length (combine at fs) ≡ numbers_of_form d
combined_length d at fs all l p = length-combine (numbers_of_form d) at fs (recursion_from_All (λ (q : List ℤ). length q ≡ numbers_of_form d) fs all) l p

-- what the code writes is x where x is small
pub written_number : (x : ℤ) → nat_abs x ≤ 21 * (2 ^ 62 * 4096) → to_z w128 (of_z w128 x) ≡ x
written_number x h = to_z-of_z w128 x (fits x h)
  where
    fits : (x : ℤ) → nat_abs x ≤ 21 * (2 ^ 62 * 4096) → SFits w128 x
    fits x h = omega (arith, ints, h)

-- all of its numbers
pub all_combined : (d j : ℕ) (at : List ℤ) (fs : List (List ℤ)) (numbers : List ℤ) → AreCombined at fs j numbers → All (λ q. length q ≡ numbers_of_form d) fs → length at ≡ length fs → 0 < length fs → numbers_of_form d ≤ j → numbers ≡ combine at fs
all_combined d j at fs numbers h all l p k =
    let n = combined_length d at fs all l p in
    h.so_far ∙ take_all j (combine at fs) (omega (arith, n, k))

-- how many numbers the first form has
pub first_length : (d : ℕ) (fs : List (List ℤ)) (form numbers : List ℤ) → All (λ q. length q ≡ numbers_of_form d) fs → 0 < length fs → form ≡ get_or fs 0 form → numbers ≡ form → length numbers ≡ numbers_of_form d
first_length d fs form numbers all p f e = ap length (e ∙ f) ∙ all 0 form p
