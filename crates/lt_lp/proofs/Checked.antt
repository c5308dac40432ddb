-- What the check of a verdict looks at says that the verdict is right.
use Rattle.std.proofs.Common.{◌≡◌, ◌≢◌, ◌⊎◌, inl, inr, refl, sym, ◌∙◌, ap, subst, arith, ℕ, zero, suc, ◌+◌, ◌*◌, ◌^◌, ◌<◌, ◌≤◌, ℤ, pos, negsuc, ◌+ℤ◌, ◌*ℤ◌, ◌≤ℤ◌, ◌<ℤ◌, List, [], ◌∷◌, length, map, get_or, drop, drop-cons, add-one, nat_abs, mul-le-mul, FitsSigned}
use Rattle.std.specs.List.{All, AllByRecursion}
use Rattle.std.specs.List.Sorted.{IsStrictlySortedBy}
use Rattle.std.specs.Ordering.{nat_cmp}
use Rattle.std.specs.declared.cmp.Ordering.TheVariants.{Less}
use Rattle.std.specs.Int.{◌∣◌, w128}
use Rattle.std.proofs.lemmas.Int.{ints, unsigned_abs-mul, fits_signed_from_abs}
use Rattle.std.proofs.lemmas.Bool.Decides.{nat_tests}
use Rattle.std.proofs.lemmas.List.{length-map}
use Rattle.std.proofs.lemmas.List.Elements.{All-cons, All-head, All-tail}
use Rattle.std.proofs.lemmas.Nat.Gcd.{le_of_dvd, dvd-zero}
use Rattle.lt_model.specs.Padded.{lookup}
use Rattle.lt_model.specs.Vectors.{scale, combine, IsPrimitive}
use Rattle.lt_model.specs.Forms.{numbers_of_form}
use Rattle.lt_model.specs.Cones.{coefficients, places, AreBelow, sum_of_terms, IsRightCombination}
use Rattle.lt_model.proofs.Integers.{mul_comm_z}
use Rattle.lt_model.proofs.Squares.{length-scale}
use Rattle.lt_model.proofs.Walk.{length-combine}
use Rattle.lt_model.proofs.Vectors.{map-is-scale}
use Rattle.lt_num.specs.Divisors.{DividesEach, IsGcdOf, MadePrimitive}
use Rattle.lt_tableau.specs.Errors.{AreOfDimension}
use Rattle.lt_tableau.proofs.Sums.{lookup_none, lookup_plus, lookup_scale}
use Rattle.lt_lp.specs.Checks.{AreTerms, term_sum}
use Rattle.lt_lp.proofs.Reduces.{primitive_from_gcd, zero_divides}
use Rattle.lt_lp.proofs.Combined.{same_lists, all_of_dimension}
use Rattle.lt_lp.proofs.FromZeros.{lookup_from_zeros, length_from_zeros}
use Rattle.lt_lp.proofs.Terms.{nothing}

-- ---- divisors
zero_of : (x : ℤ) → 2 ^ 127 ∣ nat_abs x → nat_abs x < 2 ^ 62 → 0 ∣ nat_abs x
zero_of (pos zero) d s = dvd-zero 0
zero_of (pos (suc n)) d s = let l : 2 ^ 127 ≤ suc n = le_of_dvd (let p : 0 < suc n = omega arith in p) d in absurd (omega arith)
zero_of (negsuc n) d s = let l : 2 ^ 127 ≤ suc n = le_of_dvd (let p : 0 < suc n = omega arith in p) d in absurd (omega arith)

zeros_divide : (xs : List ℤ) → DividesEach (2 ^ 127) xs → AreBelow (2 ^ 62) xs → DividesEach 0 xs
zeros_divide [] d l = tt
zeros_divide (x ∷ xs) d l = (zero_of x d.0 (All-head (λ z. nat_abs z < 2 ^ 62) x xs l), zeros_divide xs d.1 (All-tail (λ z. nat_abs z < 2 ^ 62) x xs l))

pub no_large_divisor : (xs : List ℤ) → AreBelow (2 ^ 62) xs → IsGcdOf xs (2 ^ 127) → ⊥
no_large_divisor xs l g = zero_divides (2 ^ 127) (omega arith) (g.greatest 0 (zeros_divide xs g.divides l))

pub primitive_by : (old new : List ℤ) (g : ℤ) → MadePrimitive old g new → g ≡ pos 1 → IsPrimitive old
primitive_by old new g m e = primitive_from_gcd old (subst (λ (x : ℤ). IsGcdOf old (nat_abs x)) e m.divisor)

pub divisor_one : (old new : List ℤ) (g : ℤ) → MadePrimitive old g new → IsPrimitive old → g ≡ pos 1
divisor_one old new (pos n) m p = ap pos (p n new (m.times ∙ map-is-scale (pos n) new))
divisor_one old new (negsuc n) m p = absurd (negative n m.positive)
  where
    negative : (n : ℕ) → pos 0 ≤ℤ negsuc n → ⊥
    negative n h = omega (arith, ints)

-- ---- terms
pub record IsTermAt (count k : ℕ) (t : ℕ × ℤ) : Type 0 where
  pub inside : t.0 < count
  pub small : nat_abs t.1 < 2 ^ 62

pub term_at : (from count k : ℕ) (ts : List (ℕ × ℤ)) → AreTerms from count k ts → (i : ℕ) (d : ℕ × ℤ) → i < length ts → IsTermAt count k (get_or ts i d)
term_at from count k [] h i d l = absurd (omega arith)
term_at from count k (t ∷ ts) h zero d l = record { inside = h.1; small = h.4 }
term_at from count k (t ∷ ts) h (suc i) d l = term_at (suc t.0) count k ts h.5 i d (omega arith)

-- the places are at least `from`
from_places : (from count k : ℕ) (ts : List (ℕ × ℤ)) → AreTerms from count k ts → (least : ℕ) → least < from → AllByRecursion (λ y. nat_cmp least y ≡ Less) (places ts)
from_places from count k [] h least l = tt
from_places from count k (t ∷ ts) h least l = (less_is least t.0 (below least from t.0 l h.0), from_places (suc t.0) count k ts h.5 least (below_suc least from t.0 l h.0))
  where
    below : (a b c : ℕ) → a < b → b ≤ c → a < c
    below a b c h l = omega arith

    below_suc : (a b c : ℕ) → a < b → b ≤ c → a < suc c
    below_suc a b c h l = omega arith

    less_is : (a b : ℕ) → a < b → nat_cmp a b ≡ Less
    less_is a b h = grind (arith, nat_tests)

ascending : (from count k : ℕ) (ts : List (ℕ × ℤ)) → AreTerms from count k ts → IsStrictlySortedBy nat_cmp (places ts)
unfolding IsStrictlySortedBy
ascending from count k [] h = tt
ascending from count k (t ∷ ts) h = (from_places (suc t.0) count k ts h.5 t.0 (omega arith), ascending (suc t.0) count k ts h.5)

within_places : (from count k : ℕ) (ts : List (ℕ × ℤ)) → AreTerms from count k ts → All (λ i. i < count) (places ts)
within_places from count k [] h = nothing (λ i. i < count)
within_places from count k (t ∷ ts) h = All-cons (λ i. i < count) t.0 (places ts) h.1 (within_places (suc t.0) count k ts h.5)

other_places : (from count k : ℕ) (ts : List (ℕ × ℤ)) → AreTerms from count k ts → All (λ i. i ≢ k) (places ts)
other_places from count k [] h = nothing (λ i. i ≢ k)
other_places from count k (t ∷ ts) h = All-cons (λ i. i ≢ k) t.0 (places ts) h.2 (other_places (suc t.0) count k ts h.5)

positive_terms : (from count k : ℕ) (ts : List (ℕ × ℤ)) → AreTerms from count k ts → All (λ x. pos 0 <ℤ x) (coefficients ts)
positive_terms from count k [] h = nothing (λ x. pos 0 <ℤ x)
positive_terms from count k (t ∷ ts) h = All-cons (λ x. pos 0 <ℤ x) t.1 (coefficients ts) h.3 (positive_terms (suc t.0) count k ts h.5)

pub below_terms : (from count k : ℕ) (ts : List (ℕ × ℤ)) → AreTerms from count k ts → AreBelow (2 ^ 62) (coefficients ts)
below_terms from count k [] h = nothing (λ x. nat_abs x < 2 ^ 62)
below_terms from count k (t ∷ ts) h = All-cons (λ x. nat_abs x < 2 ^ 62) t.1 (coefficients ts) h.4 (below_terms (suc t.0) count k ts h.5)

-- and back
less_from : (a b : ℕ) → nat_cmp a b ≡ Less → suc a ≤ b
less_from a b h = grind (arith, nat_tests)

first_from : (least : ℕ) (ts : List (ℕ × ℤ)) → AllByRecursion (λ y. nat_cmp least y ≡ Less) (places ts) → All (λ y. suc least ≤ y) (places ts)
first_from least [] h = nothing (λ y. suc least ≤ y)
first_from least (t ∷ ts) h = All-cons (λ y. suc least ≤ y) t.0 (places ts) (less_from least t.0 h.0) (first_from least ts h.1)

terms_back : (from count k : ℕ) (ts : List (ℕ × ℤ)) → All (λ y. from ≤ y) (places ts) → IsStrictlySortedBy nat_cmp (places ts) → All (λ i. i < count) (places ts) → All (λ i. i ≢ k) (places ts) → All (λ x. pos 0 <ℤ x) (coefficients ts) → AreBelow (2 ^ 62) (coefficients ts) → AreTerms from count k ts
unfolding IsStrictlySortedBy
terms_back from count k [] f s w o p b = tt
terms_back from count k (t ∷ ts) f s w o p b = (
  All-head (λ y. from ≤ y) t.0 (places ts) f,
  All-head (λ i. i < count) t.0 (places ts) w,
  All-head (λ i. i ≢ k) t.0 (places ts) o,
  All-head (λ x. pos 0 <ℤ x) t.1 (coefficients ts) p,
  All-head (λ x. nat_abs x < 2 ^ 62) t.1 (coefficients ts) b,
  terms_back (suc t.0) count k ts (first_from t.0 ts s.0) s.1 (All-tail (λ i. i < count) t.0 (places ts) w) (All-tail (λ i. i ≢ k) t.0 (places ts) o) (All-tail (λ x. pos 0 <ℤ x) t.1 (coefficients ts) p) (All-tail (λ x. nat_abs x < 2 ^ 62) t.1 (coefficients ts) b),
)

all_from : (ps : List ℕ) → All (λ y. 0 ≤ y) ps
all_from ps k d l = omega arith

-- ---- sums
sum_is : (ns : List (List ℤ)) (j : ℕ) (ts : List (ℕ × ℤ)) → lookup (combine (coefficients ts) (map (λ i. get_or ns i []) (places ts))) j ≡ term_sum ns j ts
sum_is ns j [] = lookup_none j
sum_is ns j (t ∷ ts) =
    lookup_plus (scale t.1 (get_or ns t.0 [])) (combine (coefficients ts) (map (λ i. get_or ns i []) (places ts))) j
    ∙ rw (lookup_scale t.1 (get_or ns t.0 []) j, sum_is ns j ts, mul_comm_z t.1 (lookup (get_or ns t.0 []) j)) refl

from_zeros : (ns : List (List ℤ)) (k : ℕ) (ts : List (ℕ × ℤ)) (j : ℕ) → lookup (sum_of_terms ns k ts) j ≡ lookup (combine (coefficients ts) (map (λ i. get_or ns i []) (places ts))) j
from_zeros ns k ts j = lookup_from_zeros (length (get_or ns k [])) (combine (coefficients ts) (map (λ i. get_or ns i []) (places ts))) j

pub sum_step : (ns : List (List ℤ)) (j : ℕ) (ts : List (ℕ × ℤ)) (i : ℕ) (d : ℕ × ℤ) → i < length ts → term_sum ns j (drop i ts) ≡ lookup (get_or ns (get_or ts i d).0 []) j *ℤ (get_or ts i d).1 +ℤ term_sum ns j (drop (i + 1) ts)
sum_step ns j ts i d h = rw (add-one i, drop-cons ts i d) refl

pub sum_sizes : (s x y : ℤ) (i : ℕ) → i < 21 → nat_abs s ≤ i * 2 ^ 118 → nat_abs x < 2 ^ 56 → nat_abs y < 2 ^ 62 → record { product : FitsSigned w128 (x *ℤ y); sum : FitsSigned w128 (s +ℤ x *ℤ y); small : nat_abs (s +ℤ x *ℤ y) ≤ (i + 1) * 2 ^ 118 }
sum_sizes s x y i l h k m =
    let a : nat_abs x ≤ 2 ^ 56 = omega arith in
    let b : nat_abs y ≤ 2 ^ 62 = omega arith in
    let p : nat_abs (x *ℤ y) ≤ 2 ^ 56 * 2 ^ 62 = rw (unsigned_abs-mul x y) (mul-le-mul a b) in
    let c : nat_abs (s +ℤ x *ℤ y) ≤ nat_abs s + nat_abs (x *ℤ y) = omega (arith, ints) in
    record { product = fits_signed_from_abs w128 (x *ℤ y) (omega arith); sum = fits_signed_from_abs w128 (s +ℤ x *ℤ y) (omega arith); small = omega arith }

-- ---- the combination
pub record HasParts (d : ℕ) (ns : List (List ℤ)) (k : ℕ) (factor : ℤ) (ts : List (ℕ × ℤ)) : Type 0 where
  pub some : pos 0 <ℤ factor
  pub small : nat_abs factor < 2 ^ 62
  pub few : length ts ≤ length (get_or ns k [])
  pub terms : AreTerms 0 (length ns) k ts
  pub primitive : IsPrimitive (factor ∷ coefficients ts)
  pub sums : (j : ℕ) → j < length (get_or ns k []) → term_sum ns j ts ≡ factor *ℤ lookup (get_or ns k []) j

long : (d : ℕ) (ns : List (List ℤ)) (ts : List (ℕ × ℤ)) → AreOfDimension d ns → All (λ i. i < length ns) (places ts) → (length (combine (coefficients ts) (map (λ i. get_or ns i []) (places ts))) ≡ numbers_of_form d) ⊎ (combine (coefficients ts) (map (λ i. get_or ns i []) (places ts)) ≡ [])
long d ns [] h w = inr refl
long d ns (t ∷ us) h w =
    let ts = t ∷ us in
    let c : length (coefficients ts) ≡ length (map (λ i. get_or ns i []) (places ts)) = length-map ts (λ p. p.1) ∙ sym (length-map (places ts) (λ i. get_or ns i []) ∙ length-map ts (λ p. p.0)) in
    let e : length (coefficients ts) ≡ length ts = length-map ts (λ p. p.1) in
    inl (length-combine (numbers_of_form d) (coefficients ts) (map (λ i. get_or ns i []) (places ts)) (all_of_dimension (numbers_of_form d) ns (places ts) (λ j l. h j [] l) w) c (rw (sym c, e) (omega arith)))

pub parts_right : (d : ℕ) (ns : List (List ℤ)) (k : ℕ) (factor : ℤ) (ts : List (ℕ × ℤ)) → AreOfDimension d ns → k < length ns → HasParts d ns k factor ts → IsRightCombination d ns k factor ts
parts_right d ns k factor ts h l p = record {
  some = p.some;
  few = rw (sym (h k [] l)) p.few;
  ascending = ascending 0 (length ns) k ts p.terms;
  within = within_places 0 (length ns) k ts p.terms;
  other = other_places 0 (length ns) k ts p.terms;
  positive = positive_terms 0 (length ns) k ts p.terms;
  below = All-cons (λ x. nat_abs x < 2 ^ 62) factor (coefficients ts) p.small (below_terms 0 (length ns) k ts p.terms);
  primitive = p.primitive;
  sum = same_lists (sum_of_terms ns k ts) (scale factor (get_or ns k []))
      (length_from_zeros (length (get_or ns k [])) (combine (coefficients ts) (map (λ i. get_or ns i []) (places ts))) (rw (h k [] l) (long d ns ts h (within_places 0 (length ns) k ts p.terms))) ∙ sym (length-scale factor (get_or ns k [])))
      (λ q b. from_zeros ns k ts q ∙ sum_is ns q ts ∙ p.sums q (rw (length-scale factor (get_or ns k [])) at b) ∙ sym (lookup_scale factor (get_or ns k []) q));
}

pub right_parts : (d : ℕ) (ns : List (List ℤ)) (k : ℕ) (factor : ℤ) (ts : List (ℕ × ℤ)) → AreOfDimension d ns → k < length ns → IsRightCombination d ns k factor ts → HasParts d ns k factor ts
right_parts d ns k factor ts h l r = record {
  some = r.some;
  small = All-head (λ x. nat_abs x < 2 ^ 62) factor (coefficients ts) r.below;
  few = rw (h k [] l) r.few;
  terms = terms_back 0 (length ns) k ts (all_from (places ts)) r.ascending r.within r.other r.positive (All-tail (λ x. nat_abs x < 2 ^ 62) factor (coefficients ts) r.below);
  primitive = r.primitive;
  sums = λ j b. sym (from_zeros ns k ts j ∙ sum_is ns j ts) ∙ ap (λ (v : List ℤ). lookup v j) r.sum ∙ lookup_scale factor (get_or ns k []) j;
}
