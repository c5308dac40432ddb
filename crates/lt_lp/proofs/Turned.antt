-- The list of the gains of the unit columns with their signs changed, and the wall that it gives.
use Rattle.std.proofs.Common.{◌≡◌, refl, sym, ◌∙◌, ap, ℕ, zero, suc, ◌+◌, ◌<◌, ◌^◌, ℤ, pos, neg_ℤ, ◌+ℤ◌, ◌*ℤ◌, ◌<ℤ◌, nat_abs, arith, List, [], ◌∷◌, ◌++◌, length, add-one}
use Rattle.std.proofs.lemmas.Int.{ints, by_lt_z}
use Rattle.std.proofs.lemmas.List.Elements.{All-cons}
use Rattle.lt_model.specs.Padded.{lookup}
use Rattle.lt_model.specs.Vectors.{dot}
use Rattle.lt_model.specs.Forms.{numbers_of_form}
use Rattle.lt_model.specs.Cones.{AreBelow, IsRightWall}
use Rattle.lt_model.proofs.Integers.{mul_zero_z}
use Rattle.lt_model.proofs.Ring.{ring, var, neg, ◌⊕◌, ◌⊗◌}
use Rattle.lt_model.proofs.Inequalities.{cancel_z, mul_le_mul_z}
use Rattle.lt_model.proofs.Vectors.{dot-scale, dot_comm}
use Rattle.lt_model.proofs.Squares.{length-scale}
use Rattle.lt_tableau.specs.Numbers.{column_at}
use Rattle.lt_tableau.specs.Table.{Table, units_of}
use Rattle.lt_lp.specs.Rule.{gain_of, listed, turned_gains}
use Rattle.lt_lp.specs.Reduced.{IsReduced}
use Rattle.lt_lp.proofs.WallSigns.{WallSigns}

pub length-listed : (m : ℕ) (y : ℕ → ℤ) → length (listed m y) ≡ m
length-listed zero y = refl
length-listed (suc m) y = ap suc (length-listed m (λ (q : ℕ). y (suc q)))

listed_last : (m : ℕ) (y : ℕ → ℤ) → listed (suc m) y ≡ listed m y ++ y m ∷ []
listed_last zero y = refl
listed_last (suc m) y = ap (λ (xs : List ℤ). y 0 ∷ xs) (listed_last m (λ (q : ℕ). y (suc q)))

pub listed_more : (m : ℕ) (y : ℕ → ℤ) → listed (m + 1) y ≡ listed m y ++ y m ∷ []
listed_more m y = rw add-one (listed_last m y)

pub lookup-listed : (m : ℕ) (y : ℕ → ℤ) (q : ℕ) → q < m → lookup (listed m y) q ≡ y q
lookup-listed zero y q h = absurd (omega arith)
lookup-listed (suc m) y zero h = refl
lookup-listed (suc m) y (suc q) h = lookup-listed m (λ (q : ℕ). y (suc q)) q (omega arith)

pub listed_below : (m n : ℕ) (y : ℕ → ℤ) → ((q : ℕ) → q < m → nat_abs (y q) < n) → AreBelow n (listed m y)
listed_below zero n y h = λ k d l. absurd (omega arith)
listed_below (suc m) n y h = All-cons (λ x. nat_abs x < n) (y 0) (listed m (λ (q : ℕ). y (suc q))) (h 0 (omega arith)) (listed_below m n (λ (q : ℕ). y (suc q)) (λ q l. h (suc q) (omega arith)))

dot_opposite : (m : ℕ) (y : ℕ → ℤ) (x : List ℤ) → dot (listed m (λ (q : ℕ). neg_ℤ (y q))) x ≡ neg_ℤ (dot (listed m y) x)
dot_opposite zero y x = refl
dot_opposite (suc m) y [] = refl
dot_opposite (suc m) y (a ∷ x) = rw (dot_opposite m (λ (q : ℕ). y (suc q)) x) (turn (y 0) a (dot (listed m (λ (q : ℕ). y (suc q))) x))
  where
    turn : (u a s : ℤ) → neg_ℤ u *ℤ a +ℤ neg_ℤ s ≡ neg_ℤ (u *ℤ a +ℤ s)
    turn u a s = ring (u ∷ a ∷ s ∷ []) (neg (var 0) ⊗ var 1 ⊕ neg (var 2)) (neg (var 0 ⊗ var 1 ⊕ var 2)) tt

pub positive_factor : (g : ℕ) (x : ℤ) → 0 < g → pos 0 <ℤ (pos g *ℤ x) → pos 0 <ℤ x
positive_factor g x p h = by_lt_z (pos 0) x (λ l. l) (λ l. (let m = mul_le_mul_z (pos g) x (pos 0) (omega (arith, ints)) l in let z = mul_zero_z (pos g) in absurd (omega (arith, ints))))

pub right_wall : (t : Table) (normals : List (List ℤ)) (k d : ℕ) (w : List ℤ) → WallSigns t normals k (numbers_of_form d) → IsReduced (turned_gains (numbers_of_form d) t) w → AreBelow (2 ^ 62) w → IsRightWall d normals k w
right_wall t normals k d w s r l = record {
  numbers = sym (length-scale (pos r.factor) w) ∙ ap length (sym r.times) ∙ length-listed n (λ (q : ℕ). neg_ℤ (gain_of t (units_of t + q)));
  primitive = r.primitive;
  below = l;
  zero_there = cancel_z (pos r.factor) (dot (column_at normals k) w) (pos 0) f (times (column_at normals k) ∙ none (dot (listed n y) (column_at normals k)) s.own ∙ sym (mul_zero_z (pos r.factor)));
  others = λ i h m. (let o = s.others i h m in let e = times (column_at normals i) in positive_factor r.factor (dot (column_at normals i) w) r.some (omega (arith, ints)));
}
  where
    n : ℕ
    n = numbers_of_form d

    y : ℕ → ℤ
    y q = gain_of t (units_of t + q)

    f : pos 0 <ℤ pos r.factor
    f = let a = r.some in omega (arith, ints)

    times : (v : List ℤ) → pos r.factor *ℤ dot v w ≡ neg_ℤ (dot (listed n y) v)
    times v = sym (dot-scale v (pos r.factor) w) ∙ ap (dot v) (sym r.times) ∙ dot_comm v (turned_gains n t) ∙ dot_opposite n y v

    none : (x : ℤ) → x ≡ pos 0 → neg_ℤ x ≡ pos 0
    none x e = rw e refl
