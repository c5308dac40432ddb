-- Lists divided by their greatest common divisor, unless all of their numbers are 0.
use Rattle.std.proofs.Common.{◌≡◌, ℕ, zero, suc, ℤ, pos, negsuc, ◌≤ℤ◌, ◌≤◌, ◌<◌, refl, ap, arith, sym, ◌∙◌, subst, List, length, take, nat_abs, inl, inr}
use Rattle.std.proofs.lemmas.Int.{ints}
use Rattle.std.proofs.lemmas.List.{length-take-le}
use Rattle.std.proofs.lemmas.List.Elements.{All-take}
use Rattle.std.specs.List.{refill}
use Rattle.lt_model.specs.Cones.{AreBelow}
use Rattle.lt_model.proofs.Squares.{length-scale}
use Rattle.lt_model.proofs.Points.{scale-one}
use Rattle.lt_model.proofs.Vectors.{map-is-scale}
use Rattle.lt_num.specs.Divisors.{MadePrimitive}
use Rattle.lt_solve.proofs.Solved.{written}
use Rattle.lt_solve.proofs.Lowest.{zero_scale}
use Rattle.lt_lp.proofs.Reduces.{primitive_from_gcd, below_scale}
use Rattle.lt_section.specs.Lowered.{IsLowered}

pub lowered : (old new : List ℤ) (g : ℤ) → MadePrimitive old g new → IsLowered old new
lowered old new (pos zero) m =
    let e : new ≡ old = m.zeros refl in
    record {
      factor = 1;
      some = omega arith;
      times = sym e ∙ sym (scale-one new);
      lowest = inr (e ∙ m.times ∙ map-is-scale (pos 0) new ∙ zero_scale new);
    }
lowered old new (pos (suc n)) m = record {
  factor = suc n;
  some = omega arith;
  times = m.times ∙ map-is-scale (pos (suc n)) new;
  lowest = inl (primitive_from_gcd new (m.primitive (λ e. absurd (not_zero n e))));
}
  where
    not_zero : (n : ℕ) → pos (suc n) ≡ pos 0 → ⊥
    not_zero n e = omega (arith, ints)
lowered old new (negsuc n) m = absurd (negative n m.positive)
  where
    negative : (n : ℕ) → pos 0 ≤ℤ negsuc n → ⊥
    negative n h = omega (arith, ints)

pub lowered_below : (n : ℕ) (old new : List ℤ) → IsLowered old new → AreBelow n old → AreBelow n new
lowered_below n old new h l = below_scale n h.factor new h.some (subst (AreBelow n) h.times l)

-- as the code comes to it: the front of a list is divided through a slice of the list that holds it
pub lowered_front : (front values seen new : List ℤ) (g : ℤ) → values ≡ front → seen ≡ values → MadePrimitive seen g new → IsLowered front (refill (length values) values new)
lowered_front front values seen new g v s m =
    let a : MadePrimitive values g new = subst (λ (x : List ℤ). MadePrimitive x g new) s m in
    subst (λ (x : List ℤ). IsLowered x (refill (length values) values new)) v (subst (IsLowered values) (sym (written values new g a)) (lowered values new g a))

pub front_below : (m n : ℕ) (xs : List ℤ) → AreBelow n xs → AreBelow n (take m xs)
front_below m n xs h = All-take (λ (x : ℤ). nat_abs x < n) m xs h

pub lowered_length : (m : ℕ) (w at : List ℤ) → IsLowered (take m w) at → m ≤ length w → length at ≡ m
lowered_length m w at h l = sym (length-scale (pos h.factor) at) ∙ ap length (sym h.times) ∙ length-take-le m w l
