-- More vectors than they have numbers are dependent.
use Rattle.std.proofs.Common.{◌≡◌, ◌≢◌, ℕ, zero, suc, ℤ, pos, negsuc, ◌+ℤ◌, ◌-ℤ◌, ◌*ℤ◌, ◌<◌, ◌⊎◌, inl, inr, neg_ℤ, refl, ap, arith, sym, ◌∙◌, List, [], ◌∷◌, length, map, get_or}
use Rattle.std.proofs.lemmas.Int.{ints}
use Rattle.std.specs.List.{AllByRecursion}
use Rattle.std.proofs.Math.IntN.{*ℤ_comm}
use Rattle.lt_model.proofs.Integers.{spread, triple_is}
use Rattle.lt_model.proofs.Vectors.{dot-plus, dot-scale}
use Rattle.lt_model.proofs.Squares.{length-scale, length-plus}
use Rattle.lt_model.proofs.Excess.{dot-combine, scale-dot, dot-sum, map-same}
use Rattle.lt_model.proofs.Walk.{dot-without, without-map, number_at-map, number_at-with_at, number_at-scale, without-with_at, length-with_at, length-without, length-map, length-combine}
use Rattle.lt_model.proofs.Opposite.{length-zeros}
use Rattle.lt_model.specs.Vectors.{minus, scale, dot, combine, unit}
use Rattle.lt_model.specs.Simplices.{AllOfDimension}
use Rattle.lt_model.specs.Facets.{without, with_at, number_at}

abbrev pub first_of_vector : List ℤ → ℤ
first_of_vector [] = pos 0
first_of_vector (a ∷ v) = a

abbrev pub rest_of : List ℤ → List ℤ
rest_of [] = []
rest_of (a ∷ v) = v

-- numbers, not all 0, at which every linear function of the combination is 0
pub record IsDependency (vs : List (List ℤ)) (b : List ℤ) : Type 0 where
  pub one_each : length b ≡ length vs
  pub place : ℕ
  pub within : place < length b
  pub some : number_at place b ≢ pos 0
  pub zero_there : (u : List ℤ) → dot b (map (dot u) vs) ≡ pos 0

pub zero_or_not : (x : ℤ) → (x ≡ pos 0) ⊎ (x ≢ pos 0)
zero_or_not (pos zero) = inl refl
zero_or_not (pos (suc n)) = inr (λ e. omega (arith, ints, e))
zero_or_not (negsuc n) = inr (λ e. omega (arith, ints, e))

pub record IsPivot (vs : List (List ℤ)) (i : ℕ) : Type 0 where
  pub within : i < length vs
  pub some : number_at i (map first_of_vector vs) ≢ pos 0

-- a vector whose first number is not 0, or all first numbers are 0
pub pivot_or_none : (vs : List (List ℤ)) → ((i : ℕ) × IsPivot vs i) ⊎ AllByRecursion (λ v. first_of_vector v ≡ pos 0) vs
pivot_or_none [] = inr tt
pivot_or_none (v ∷ vs) =
    elim (zero_or_not (first_of_vector v)) [
      | inl e ↦ elim (pivot_or_none vs) [ inl (i, p) ↦ inl (suc i, record { within = omega (arith, p.within); some = p.some }) | inr all ↦ inr (e, all) ]
      | inr n ↦ inl (0, record { within = omega arith; some = n })
    ]

-- a product of two numbers that are not 0 is not 0
pub mul-not_zero : (a b : ℤ) → a ≢ pos 0 → b ≢ pos 0 → a *ℤ b ≢ pos 0
mul-not_zero (pos zero) b h k = λ e. h refl
mul-not_zero (pos (suc a)) (pos zero) h k = λ e. k refl
mul-not_zero (pos (suc a)) (pos (suc b)) h k = λ e. omega (arith, ints, e)
mul-not_zero (pos (suc a)) (negsuc b) h k = λ e. omega (arith, ints, e)
mul-not_zero (negsuc a) (pos zero) h k = λ e. k refl
mul-not_zero (negsuc a) (pos (suc b)) h k = λ e. omega (arith, ints, e)
mul-not_zero (negsuc a) (negsuc b) h k = λ e. omega (arith, ints, e)

-- a v less h times p, without the first numbers
abbrev pub reduced : List ℤ → List ℤ → List ℤ
reduced p v = minus (scale (first_of_vector p) (rest_of v)) (scale (first_of_vector v) (rest_of p))

reduced_all : (d : ℕ) (p : List ℤ) (vs : List (List ℤ)) → length p ≡ suc d → AllOfDimension (suc d) vs → AllOfDimension d (map (reduced p) vs)
reduced_all d p [] l h = tt
reduced_all d [] (v ∷ vs) l h = absurd (omega arith)
reduced_all d (a ∷ p) ([] ∷ vs) l h = absurd (omega (arith, h.0))
reduced_all d (a ∷ p) ((k ∷ v) ∷ vs) l h =
    let lp : length p ≡ d = omega arith in
    let lv : length v ≡ d = omega (arith, h.0) in
    (length-plus (scale a v) (scale (negsuc 0) (scale k p)) (length-scale a v ∙ lv ∙ sym (length-scale (negsuc 0) (scale k p) ∙ length-scale k p ∙ lp)) ∙ length-scale a v ∙ lv, reduced_all d (a ∷ p) vs l h.1)

rest_all : (d : ℕ) (vs : List (List ℤ)) → AllOfDimension (suc d) vs → AllOfDimension d (map rest_of vs)
rest_all d [] h = tt
rest_all d ([] ∷ vs) h = absurd (omega (arith, h.0))
rest_all d ((k ∷ v) ∷ vs) h = (omega (arith, h.0), rest_all d vs h.1)

map-scale : (k : ℤ) (f : List ℤ → ℤ) (vs : List (List ℤ)) → map (λ v. k *ℤ f v) vs ≡ scale k (map f vs)
map-scale k f [] = refl
map-scale k f (v ∷ vs) = ap (λ l. (k *ℤ f v) ∷ l) (map-scale k f vs)

pub map-map_vectors : (f : List ℤ → ℤ) (h : List ℤ → List ℤ) (vs : List (List ℤ)) → map f (map h vs) ≡ map (λ v. f (h v)) vs
map-map_vectors f h [] = refl
map-map_vectors f h (v ∷ vs) = ap (λ l. f (h v) ∷ l) (map-map_vectors f h vs)

pub length-map_vectors : (h : List ℤ → List ℤ) (vs : List (List ℤ)) → length (map h vs) ≡ length vs
length-map_vectors h [] = refl
length-map_vectors h (v ∷ vs) = ap suc (length-map_vectors h vs)

-- where a place of b went
record IsMoved (i j : ℕ) (y : ℤ) (b : List ℤ) : Type 0 where
  place : ℕ
  within : place < length (with_at i y b)
  is : number_at place (with_at i y b) ≡ number_at j b

moved : (i j : ℕ) (y : ℤ) (b : List ℤ) → j < length b → IsMoved i j y b
moved i j y [] h = absurd (omega arith)
moved zero j y (a ∷ b) h = record { place = suc j; within = omega arith; is = refl }
moved (suc i) zero y (a ∷ b) h = record { place = zero; within = omega arith; is = refl }
moved (suc i) (suc j) y (a ∷ b) h =
    let m = moved i j y b (omega arith) in
    record { place = suc m.place; within = omega (arith, m.within); is = m.is }

dot-rest : (u v : List ℤ) → first_of_vector v ≡ pos 0 → dot u v ≡ dot (rest_of u) (rest_of v)
dot-rest [] v h = refl
dot-rest (k ∷ u) [] h = sym (dot-nil_here u)
  where
    dot-nil_here : (u : List ℤ) → dot u [] ≡ pos 0
    dot-nil_here [] = refl
    dot-nil_here (a ∷ u) = refl
dot-rest (k ∷ u) (a ∷ v) h = rw h (omega (arith, ints))

rests : (u : List ℤ) (vs : List (List ℤ)) → AllByRecursion (λ v. first_of_vector v ≡ pos 0) vs → map (dot (rest_of u)) (map rest_of vs) ≡ map (dot u) vs
rests u [] h = refl
rests u (v ∷ vs) h = rw (rests u vs h.1, dot-rest u v h.0) refl

from_rests : (vs : List (List ℤ)) (b : List ℤ) → AllByRecursion (λ v. first_of_vector v ≡ pos 0) vs → IsDependency (map rest_of vs) b → IsDependency vs b
from_rests vs b all h = record {
  one_each = h.one_each ∙ length-map_vectors rest_of vs;
  place = h.place;
  within = h.within;
  some = h.some;
  zero_there = λ u. ap (dot b) (sym (rests u vs all)) ∙ h.zero_there (rest_of u);
}

-- a (u . v) is what is left of v, and a part along p
reduces : (d : ℕ) (p v u : List ℤ) → length p ≡ suc d → length v ≡ suc d → first_of_vector p *ℤ dot u v ≡ dot (rest_of u) (reduced p v) +ℤ first_of_vector v *ℤ dot u p
reduces d [] v u lp lv = absurd (omega arith)
reduces d (a ∷ p) [] u lp lv = absurd (omega arith)
reduces d (a ∷ p) (k ∷ v) [] lp lv = omega (arith, ints)
reduces d (a ∷ p) (k ∷ v) (z ∷ u) lp lv =
    let e : dot u (minus (scale a v) (scale k p)) ≡ a *ℤ dot u v -ℤ k *ℤ dot u p =
    dot-plus u (scale a v) (scale (negsuc 0) (scale k p)) ∙ (rw (dot-scale u a v, dot-scale u (negsuc 0) (scale k p), dot-scale u k p) (omega (arith, ints)))
    in
    rw e (simp spread (omega (arith, ints, triple_is)))

pub all_without : (P : List ℤ → Type 0) (i : ℕ) (vs : List (List ℤ)) → AllByRecursion P vs → AllByRecursion P (without i vs)
all_without P i [] h = tt
all_without P zero (v ∷ vs) h = h.1
all_without P (suc i) (v ∷ vs) h = (h.0, all_without P i vs h.1)

all_at : (P : List ℤ → Type 0) (i : ℕ) (vs : List (List ℤ)) → i < length vs → AllByRecursion P vs → P (get_or vs i [])
all_at P i [] l h = absurd (omega arith)
all_at P zero (v ∷ vs) l h = h.0
all_at P (suc i) (v ∷ vs) l h = all_at P i vs (omega arith) h.1

with_pivot : (d i : ℕ) (vs : List (List ℤ)) (b : List ℤ) → AllOfDimension (suc d) vs → IsPivot vs i → IsDependency (map (reduced (get_or vs i [])) (without i vs)) b →
    IsDependency vs (with_at i (neg_ℤ (dot b (map first_of_vector (without i vs)))) (scale (first_of_vector (get_or vs i [])) b))
with_pivot d i vs b all pivot h = record {
  one_each = length-with_at i y (scale a b) ∙ ap suc (length-scale a b ∙ h.one_each ∙ length-map_vectors (reduced p) others) ∙ length-without i vs pivot.within;
  place = m.place;
  within = m.within;
  some = λ e. mul-not_zero a (number_at h.place b) a_some h.some (sym (number_at-scale h.place a b) ∙ sym m.is ∙ e);
  zero_there = zero_there;
}
  where
    p : List ℤ
    p = get_or vs i []

    a : ℤ
    a = first_of_vector p

    others : List (List ℤ)
    others = without i vs

    y : ℤ
    y = neg_ℤ (dot b (map first_of_vector others))

    m : IsMoved i h.place y (scale a b)
    m = moved i h.place y (scale a b) (rw (length-scale a b) h.within)

    a_some : a ≢ pos 0
    a_some e = pivot.some (number_at-map first_of_vector i vs [] pivot.within ∙ e)

    zero_there : (u : List ℤ) → dot (with_at i y (scale a b)) (map (dot u) vs) ≡ pos 0
    zero_there u =
        let new : List ℤ = with_at i y (scale a b) in
        let k : ℤ = dot u p in
        let firsts : ℤ = dot b (map first_of_vector others) in
        let count : suc (length (scale a b)) ≡ length vs = ap suc (length-scale a b ∙ h.one_each ∙ length-map_vectors (reduced p) others) ∙ length-without i vs pivot.within in
        let e1 : dot new (map (dot u) vs) ≡ number_at i new *ℤ number_at i (map (dot u) vs) +ℤ dot (without i new) (without i (map (dot u) vs)) =
        dot-without i new (map (dot u) vs) (length-with_at i y (scale a b) ∙ count ∙ sym (length-map (dot u) vs))
        in
        let room : i < suc (length (scale a b)) = omega (arith, count, pivot.within) in
        let e2 : number_at i new ≡ y = number_at-with_at i y (scale a b) room in
        let e3 : without i new ≡ scale a b = without-with_at i y (scale a b) room in
        let e4 : number_at i (map (dot u) vs) ≡ k = number_at-map (dot u) i vs [] pivot.within in
        let e5 : without i (map (dot u) vs) ≡ map (dot u) others = without-map (dot u) i vs in
        let e6 : dot (scale a b) (map (dot u) others) ≡ dot b (map (λ v. a *ℤ dot u v) others) =
        scale-dot a b (map (dot u) others) ∙ sym (dot-scale b a (map (dot u) others)) ∙ ap (dot b) (sym (map-scale a (dot u) others))
        in
        let e7 : map (λ v. a *ℤ dot u v) others ≡ map (λ v. dot (rest_of u) (reduced p v) +ℤ first_of_vector v *ℤ k) others =
        map-same (suc d) _ _ others (all_without _ i vs all) (λ v l. reduces d p v u (all_at _ i vs pivot.within all) l)
        in
        let e8 : dot b (map (λ v. dot (rest_of u) (reduced p v)) others) ≡ pos 0 = ap (dot b) (sym (map-map_vectors (dot (rest_of u)) (reduced p) others)) ∙ h.zero_there (rest_of u) in
        let e9 : dot b (map (λ v. first_of_vector v *ℤ k) others) ≡ k *ℤ firsts =
        ap (dot b) (map-same (suc d) _ _ others (all_without _ i vs all) (λ v l. *ℤ_comm (first_of_vector v) k) ∙ map-scale k first_of_vector others) ∙ dot-scale b k (map first_of_vector others)
        in
        e1 ∙ (rw (e2, e3, e4, e5, e6, e7, dot-sum b (λ v. dot (rest_of u) (reduced p v)) (λ v. first_of_vector v *ℤ k) others, e8, e9) (simp spread (omega (arith, ints))))

single : (vs : List (List ℤ)) → AllOfDimension 0 vs → 0 < length vs → IsDependency vs (unit (length vs) 0)
single [] all h = absurd (omega arith)
single (v ∷ vs) all h = record {
  one_each = ap suc (length-zeros (length vs));
  place = 0;
  within = omega arith;
  some = λ e. omega (arith, ints, e);
  zero_there = λ u. sym (dot-combine u (unit (length (v ∷ vs)) 0) (v ∷ vs)) ∙ at_empty u (combine (unit (length (v ∷ vs)) 0) (v ∷ vs)) (length-combine 0 (unit (length (v ∷ vs)) 0) (v ∷ vs) all (ap suc (length-zeros (length vs))) (omega arith));
}
  where
    at_empty : (u x : List ℤ) → length x ≡ 0 → dot u x ≡ pos 0
    at_empty [] x l = refl
    at_empty (k ∷ u) [] l = refl
    at_empty (k ∷ u) (a ∷ x) l = absurd (omega arith)

abbrev HasDependency : List (List ℤ) → Type 0
HasDependency vs = (b : List ℤ) × IsDependency vs b

abbrev AllDependent : ℕ → Type 0
AllDependent d = (vs : List (List ℤ)) → AllOfDimension d vs → d < length vs → HasDependency vs

through : (d : ℕ) → AllDependent d → (vs : List (List ℤ)) → AllOfDimension (suc d) vs → suc d < length vs → (i : ℕ) → IsPivot vs i → HasDependency vs
through d hyp vs all more i p =
    let others : List (List ℤ) = without i vs in
    let q : List ℤ = get_or vs i [] in
    let count : suc (length others) ≡ length vs = length-without i vs p.within in
    let found : HasDependency (map (reduced q) others) =
    hyp (map (reduced q) others) (reduced_all d q others (all_at _ i vs p.within all) (all_without _ i vs all)) (omega (arith, length-map_vectors (reduced q) others, count))
    in
    (with_at i (neg_ℤ (dot found.0 (map first_of_vector others))) (scale (first_of_vector q) found.0), with_pivot d i vs found.0 all p found.1)

below : (d : ℕ) → AllDependent d → (vs : List (List ℤ)) → AllOfDimension (suc d) vs → suc d < length vs → AllByRecursion (λ v. first_of_vector v ≡ pos 0) vs → HasDependency vs
below d hyp vs all more none =
    let found : HasDependency (map rest_of vs) = hyp (map rest_of vs) (rest_all d vs all) (omega (arith, length-map_vectors rest_of vs)) in
    (found.0, from_rests vs found.0 none found.1)

-- more than d vectors of d numbers are dependent
pub dependent : (d : ℕ) (vs : List (List ℤ)) → AllOfDimension d vs → d < length vs → (b : List ℤ) × IsDependency vs b
dependent zero vs all more = (unit (length vs) 0, single vs all more)
dependent (suc d) vs all more =
    elim (pivot_or_none vs) [
      | inl (i, p) ↦ through d (dependent d) vs all more i p
      | inr none ↦ below d (dependent d) vs all more none
    ]
