-- The values of a normal at forms: how large they are, and the restricted normal that they give.
use Rattle.std.proofs.Common.{◌≡◌, ◌≢◌, ℕ, ℤ, pos, ◌+ℤ◌, ◌*ℤ◌, ◌<ℤ◌, ◌+◌, ◌*◌, ◌^◌, ◌<◌, ◌≤◌, ap, arith, sym, ◌∙◌, subst, List, [], ◌∷◌, ◌++◌, length, map, take, get_or, nat_abs}
use Rattle.std.proofs.lemmas.Int.{ints}
use Rattle.std.proofs.lemmas.List.{take_more, map-append, length-map}
use Rattle.std.specs.List.{All, refill}
use Rattle.lt_model.specs.Padded.{lookup}
use Rattle.lt_model.specs.Vectors.{dot}
use Rattle.lt_model.proofs.Squares.{length-scale}
use Rattle.lt_num.specs.Divisors.{IsGcdOf, MadePrimitive}
use Rattle.lt_solve.proofs.Solved.{written}
use Rattle.lt_lattice.specs.Ranges.{IsWithin, IsBelow, size_of_dot}
use Rattle.lt_lattice.proofs.Dots.{size_within, within_below}
use Rattle.lt_lp.specs.Reduced.{IsReduced}
use Rattle.lt_lp.proofs.Reduces.{reduced, below_scale}
use Rattle.lt_lp.proofs.WallSums.{not_large}
use Rattle.lt_laws.specs.Sections.{restricted}
use Rattle.lt_section.specs.Filled.{filled, IsFilledOf}

-- ---- the values

abs_dot : (a b : List ℤ) → nat_abs (dot a b) ≤ size_of_dot a b
abs_dot [] b = omega arith
abs_dot (x ∷ a) [] = omega arith
abs_dot (x ∷ a) (y ∷ b) = more (x *ℤ y) (dot a b) (size_of_dot a b) (abs_dot a b)
  where
    more : (p q : ℤ) (s : ℕ) → nat_abs q ≤ s → nat_abs (p +ℤ q) ≤ nat_abs p + s
    more p q s h = omega (arith, ints)

pub value_small : (n q : List ℤ) → length n ≤ 21 → All (IsBelow (2 ^ 56)) n → All (IsWithin 4096) q → nat_abs (dot n q) < 2 ^ 80
value_small n q few hn hq =
    let s = size_within (2 ^ 56) 4096 n q (within_below (2 ^ 56) n hn) hq in
    let a = abs_dot n q in
    bound (nat_abs (dot n q)) (size_of_dot n q) (length n) a s few
  where
    bound : (x s l : ℕ) → x ≤ s → s ≤ l * (2 ^ 56 * 4096) → l ≤ 21 → x < 2 ^ 80
    bound x s l h k f = omega arith

pub values_more : (n : List ℤ) (fs : List (List ℤ)) (all new : List ℤ) (i : ℕ) (x : ℤ) → i < length fs → x ≡ dot n (get_or fs i []) → new ≡ all ++ x ∷ [] → all ≡ map (dot n) (take i fs) → new ≡ map (dot n) (take (i + 1) fs)
values_more n fs all new i x h v e a =
    e ∙ ap (λ (l : List ℤ). l ++ x ∷ []) a ∙ ap (λ (y : ℤ). map (dot n) (take i fs) ++ y ∷ []) v ∙ sym (ap (map (dot n)) (take_more fs i [] h) ∙ map-append (dot n) (take i fs) (get_or fs i [] ∷ []))

-- ---- the restricted normal

length-restricted : (fs : List (List ℤ)) (n : List ℤ) → length (restricted fs n) ≡ length fs
length-restricted fs n = length-map fs (dot n)

-- the first value isn't 0
pub first_value : (fs : List (List ℤ)) (n : List ℤ) → 0 < length fs → pos 0 <ℤ dot n (get_or fs 0 []) → lookup (restricted fs n) 0 ≢ pos 0
first_value [] n h p = absurd (omega arith)
first_value (f ∷ fs) n h p = λ e. (let q : dot n f ≡ pos 0 = e in absurd (omega (arith, ints, p, q)))

larger : (xs : List ℤ) → All (IsBelow (2 ^ 80)) xs → All (IsBelow (2 ^ 92)) xs
larger xs h = λ k d l. below (nat_abs (get_or xs k d)) (h k d l)
  where
    below : (x : ℕ) → x < 2 ^ 80 → x < 2 ^ 92
    below x h = omega arith

pub not_too_large : (fs : List (List ℤ)) (n : List ℤ) → 0 < length fs → pos 0 <ℤ dot n (get_or fs 0 []) → All (IsBelow (2 ^ 80)) (restricted fs n) → IsGcdOf (restricted fs n) (2 ^ 127) → ⊥
not_too_large fs n h p l g = not_large (restricted fs n) 0 (first_value fs n h p) (larger (restricted fs n) l) g

-- what is made of the values
pub record IsMade (fs : List (List ℤ)) (n short : List ℤ) : Type 0 where
  pub reduced_is : IsReduced (restricted fs n) short
  pub count : length short ≡ length fs
  pub below : All (IsBelow (2 ^ 80)) short

pub made : (fs : List (List ℤ)) (n short : List ℤ) (g : ℤ) → 0 < length fs → pos 0 <ℤ dot n (get_or fs 0 []) → All (IsBelow (2 ^ 80)) (restricted fs n) → MadePrimitive (restricted fs n) g short → IsMade fs n short
made fs n short g h p l m =
    let r : IsReduced (restricted fs n) short = reduced (restricted fs n) short g 0 (first_value fs n h p) m in
    record {
      reduced_is = r;
      count = sym (length-scale (pos r.factor) short) ∙ ap length (sym r.times) ∙ length-restricted fs n;
      below = below_scale (2 ^ 80) r.factor short r.some (subst (λ (x : List ℤ). All (IsBelow (2 ^ 80)) x) r.times l);
    }

-- the same as the code comes to it: the values are divided through a slice of the list that holds them
pub made_within : (fs : List (List ℤ)) (n values seen new now : List ℤ) (g : ℤ) → 0 < length fs → pos 0 <ℤ dot n (get_or fs 0 []) → values ≡ restricted fs n → All (IsBelow (2 ^ 80)) values → seen ≡ values → MadePrimitive seen g new → now ≡ refill (length values) values new → IsMade fs n now
made_within fs n values seen new now g h p v l s m w =
    let a : MadePrimitive values g new = subst (λ (x : List ℤ). MadePrimitive x g new) s m in
    let b : MadePrimitive (restricted fs n) g new = subst (λ (x : List ℤ). MadePrimitive x g new) v a in
    subst (IsMade fs n) (sym (w ∙ written values new g a)) (made fs n new g h p (subst (λ (x : List ℤ). All (IsBelow (2 ^ 80)) x) v l) b)

pub filled_of : (fs : List (List ℤ)) (n short x : List ℤ) → IsMade fs n short → x ≡ filled (length n) short → IsFilledOf fs n x
filled_of fs n short x m e = record { short = short; primitive = m.reduced_is.primitive; factor = m.reduced_is.factor; some = m.reduced_is.some; multiple = m.reduced_is.times; is = e }
