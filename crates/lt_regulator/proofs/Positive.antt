-- The excess of an outer vertex as a normal: it isn't zero, and divided by its greatest common divisor it is the regulator.
use Rattle.std.proofs.Common.{◌≡◌, ◌≢◌, ℕ, zero, suc, ℤ, pos, negsuc, ◌<ℤ◌, ◌<◌, ◌≤◌, ◌^◌, refl, ap, arith, sym, ◌∙◌, subst, List, [], ◌∷◌, length, unsigned_abs}
use Rattle.std.proofs.lemmas.Int.{ints}
use Rattle.std.specs.List.{All, Contains}
use Rattle.std.specs.Int.{◌∣◌}
use Rattle.std.proofs.lemmas.Nat.Gcd.{le_of_dvd}
use Rattle.std.proofs.lemmas.List.Elements.{All-head, All-tail}
use Rattle.lt_model.specs.Vectors.{scale, dot, zeros}
use Rattle.lt_model.specs.Forms.{numbers_of_form}
use Rattle.lt_model.specs.Simplices.{IsExpression}
use Rattle.lt_model.specs.Triangulations.{IsDelaunay}
use Rattle.lt_model.specs.Walls.{excess_normal}
use Rattle.lt_model.proofs.Opposite.{zeros-dot}
use Rattle.lt_model.proofs.Inequalities.{natural}
use Rattle.lt_geometry.specs.Regulators.{IsRegulatorAt}
use Rattle.lt_geometry.proofs.Regulators.{lies_above, length-at}
use Rattle.lt_num.specs.Divisors.{DividesEach, IsGcdOf, MadePrimitive}
use Rattle.lt_solve.proofs.Lowest.{IsDivided, divided, primitive_from_gcd, below_multiple}
use Rattle.lt_lattice.specs.Ranges.{IsBelow}
use Rattle.lt_regulator.specs.Regulated.{IsOuterExcess}

-- ---- numbers that aren't all 0 have no large common divisor

zeros_from_large : (xs : List ℤ) → DividesEach (2 ^ 127) xs → All (IsBelow (2 ^ 80)) xs → xs ≡ zeros (length xs)
zeros_from_large [] h l = refl
zeros_from_large (x ∷ xs) h l =
    let rest : xs ≡ zeros (length xs) = zeros_from_large xs h.1 (All-tail (IsBelow (2 ^ 80)) x xs l) in
    let here : x ≡ pos 0 = none x h.0 (All-head (IsBelow (2 ^ 80)) x xs l) in
    cc
  where
    none : (x : ℤ) → (2 ^ 127) ∣ unsigned_abs x → unsigned_abs x < 2 ^ 80 → x ≡ pos 0
    none (pos zero) d s = refl
    none (pos (suc n)) d s = let l : 2 ^ 127 ≤ suc n = le_of_dvd (let p : 0 < suc n = omega arith in p) d in absurd (omega arith)
    none (negsuc n) d s = let l : 2 ^ 127 ≤ suc n = le_of_dvd (let p : 0 < suc n = omega arith in p) d in absurd (omega arith)

pub not_too_large : (xs : List ℤ) → IsGcdOf xs (2 ^ 127) → xs ≢ zeros (length xs) → All (IsBelow (2 ^ 80)) xs → ⊥
not_too_large xs h n s = n (zeros_from_large xs h.divides s)

-- ---- the excess of an outer vertex

pub not_zero : (d : ℕ) (q : List ℤ) (t : List (List (List ℤ))) (s : List (List ℤ)) (i : ℕ) (old : List ℤ) → IsDelaunay d q t → Contains t s → i < suc d → IsOuterExcess d t s i old → old ≢ zeros (length old)
not_zero d q t s i old k m hi h e =
    let o = h.outer in
    let p : pos 0 <ℤ dot (excess_normal s h.vertex h.c h.b) q =
    subst (λ (x : List ℤ). pos 0 <ℤ dot (excess_normal s x h.c h.b) q) (sym o.vertex) (lies_above d q t s i o.next o.shift o.outer h.c h.b k m hi o.neighbour (subst (λ (x : List ℤ). IsExpression s x h.c h.b) o.vertex h.expression)) in
    let z : dot old q ≡ pos 0 = ap (λ (x : List ℤ). dot x q) e ∙ zeros-dot (length old) q in
    let p' : pos 0 <ℤ dot old q = subst (λ (x : List ℤ). pos 0 <ℤ dot x q) (sym h.value) p in
    omega (arith, ints, z, p')

-- what `primitive` makes of the excess normal is the regulator
pub record IsMade (d : ℕ) (t : List (List (List ℤ))) (s : List (List ℤ)) (i : ℕ) (n : List ℤ) : Type 0 where
  pub regulator : IsRegulatorAt d t s i n
  pub count : length n ≡ numbers_of_form d
  pub below : All (IsBelow (2 ^ 80)) n

pub made : (d : ℕ) (q : List ℤ) (t : List (List (List ℤ))) (s : List (List ℤ)) (i : ℕ) (old n : List ℤ) (g : ℤ) → IsDelaunay d q t → Contains t s → i < suc d → IsOuterExcess d t s i old → All (IsBelow (2 ^ 80)) old → MadePrimitive old g n → IsMade d t s i n
made d q t s i old n g k m hi h below p =
    let o = h.outer in
    let v : IsDivided old n g = divided old n g p (not_zero d q t s i old k m hi h) in
    let f = natural g v.positive in
    let multiple : excess_normal s h.vertex h.c h.b ≡ scale (pos f.0) n = sym h.value ∙ v.multiple ∙ ap (λ (l : ℤ). scale l n) f.1 in
    let r : IsRegulatorAt d t s i n = record {
      next = o.next;
      shift = o.shift;
      outer = o.outer;
      neighbour = o.neighbour;
      c = h.c;
      b = h.b;
      expression = subst (λ (x : List ℤ). IsExpression s x h.c h.b) o.vertex h.expression;
      primitive = primitive_from_gcd n v.lowest;
      factor = f.0;
      some = f.2;
      multiple = subst (λ (x : List ℤ). excess_normal s x h.c h.b ≡ scale (pos f.0) n) o.vertex multiple;
    } in
    record { regulator = r; count = length-at d q t s i n k m r; below = below_multiple (2 ^ 80) g n v.some (subst (λ (x : List ℤ). All (IsBelow (2 ^ 80)) x) v.multiple below) }

pub too_large : (d : ℕ) (q : List ℤ) (t : List (List (List ℤ))) (s : List (List ℤ)) (i : ℕ) (old : List ℤ) → IsDelaunay d q t → Contains t s → i < suc d → IsOuterExcess d t s i old → All (IsBelow (2 ^ 80)) old → IsGcdOf old (2 ^ 127) → ⊥
too_large d q t s i old k m hi h below g = not_too_large old g (not_zero d q t s i old k m hi h) below
