-- What the test of a weight shows, and what is known of the regulators of a triangulation below it.
use Rattle.std.proofs.Common.{◌≡◌, ℕ, ℤ, pos, ◌≤ℤ◌, ◌<◌, ◌≤◌, ◌^◌, arith, sym, ◌∙◌, subst, true, false, T, List, length}
use Rattle.std.proofs.lemmas.Int.{ints, to_z-of_z}
use Rattle.std.proofs.Math.Nat.{min-le_left}
use Rattle.std.specs.Int.Signed.{le_z_yes}
use Rattle.std.specs.List.{All}
use mir.Val.{SFits, to_z, of_z}
use mir.Syntax.{w128}
use lib.Signed.{le_z}
use Rattle.lt_model.specs.Forms.{numbers_of_form}
use Rattle.lt_model.specs.Limits.{weight, weight_limit}
use Rattle.lt_model.specs.Triangulations.{IsDelaunay}
use Rattle.lt_model.specs.Walls.{AreRegulators}
use Rattle.lt_tableau.specs.Errors.{AreOfDimension}
use Rattle.lt_lp.specs.Positive.{IsPositiveAt}
use Rattle.lt_regulator.proofs.Distinct.{one_list, regulator_lengths, positive_at}
use Rattle.lt_locate.specs.Endings.{AreEdgesPositive, IsHeavy, IsOpen}

pub fits : (w : ℕ) → w ≤ 2 ^ 120 → SFits w128 (pos w)
fits w h = omega (arith, ints, h)

pub heavy : (w : ℕ) → le_z (pos (2 ^ 112)) (pos w) ≡ true → weight_limit ≤ w
heavy w e = let l : pos (2 ^ 112) ≤ℤ pos w = le_z_yes (subst T (sym e) tt) in omega (arith, ints, l)

light : (w : ℕ) → le_z (pos (2 ^ 112)) (pos w) ≡ false → w < weight_limit
light w e = omega (arith, ints, e)

module _ (d : ℕ) (a : List ℤ) (t : List (List (List ℤ))) (ns now : List (List ℤ)) (x : ℤ) (k : IsDelaunay d a t) (r : AreRegulators d t ns) (e : now ≡ ns) where
  same : AreOfDimension d now
  same = subst (λ (ms : List (List ℤ)). AreOfDimension d ms) (sym e) (regulator_lengths d a t ns k r)

  module _ (w : (n : ℕ) → AreOfDimension n now → x ≡ pos (weight n now)) where
    weight_is : x ≡ pos (weight d ns)
    weight_is = subst (λ (ms : List (List ℤ)). x ≡ pos (weight d ms)) e (w d same)

    kept : to_z w128 (of_z w128 x) ≡ pos (weight d ns)
    kept = rw weight_is (to_z-of_z w128 (pos (weight d ns)) (fits (weight d ns) (min-le_left (2 ^ 120) _)))

    pub heavy_there : le_z (pos (2 ^ 112)) (to_z w128 (of_z w128 x)) ≡ true → IsHeavy d t (to_z w128 (of_z w128 x))
    heavy_there h = (ns, r, kept, heavy (weight d ns) (rw kept at h))

    pub light_there : le_z (pos (2 ^ 112)) (to_z w128 (of_z w128 x)) ≡ false → weight d ns < weight_limit
    light_there h = light (weight d ns) (rw kept at h)

module _ (d : ℕ) (a q : List ℤ) (t : List (List (List ℤ))) (ns now : List (List ℤ)) (k : IsDelaunay d a t) (r : AreRegulators d t ns) (e : now ≡ ns) where
  pub all_lengths : AreOfDimension d now
  all_lengths = subst (λ (ms : List (List ℤ)). AreOfDimension d ms) (sym e) (regulator_lengths d a t ns k r)

  pub same_lengths : length q ≡ numbers_of_form d → All (λ x. length x ≡ length q) now
  same_lengths l i x h = all_lengths i x h ∙ sym l

  pub positive_there : (form : List ℤ) × IsPositiveAt form now
  positive_there = (a, subst (λ (ms : List (List ℤ)). IsPositiveAt a ms) (sym e) (positive_at d a t ns k r))

  pub all_light : weight d ns < weight_limit → (n : ℕ) × AreOfDimension n now × (weight n now < weight_limit)
  all_light l = (d, all_lengths, subst (λ (ms : List (List ℤ)). weight d ms < weight_limit) (sym e) l)

  pub opened : AreEdgesPositive d t q → weight d ns < weight_limit → IsOpen d t q
  opened p l = record { edges = p; light = λ ms s. subst (λ (xs : List (List ℤ)). weight d xs < weight_limit) (one_list d t ns ms r s) l }
