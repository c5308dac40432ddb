-- Turns are one by one as the number says, and a number and a triangulation have one scramble.
use Rattle.std.proofs.Common.{◌≡◌, ℕ, zero, suc, ℤ, ◌+◌, ◌*◌, ◌<◌, ◌≤◌, ◌≢◌, ◌-◌, ◌^◌, Bool, true, false, cond, ltb, eqb, pos, negsuc, nat_abs, inl, inr, add-one, refl, ap, arith, sym, ◌∙◌, subst, List}
use Rattle.std.proofs.lemmas.Bool.{cases_lt, ltb-true, ltb-false}
use Rattle.std.proofs.Math.Nat.{pow-suc}
use Rattle.lt_model.specs.Limits.{span, span_limit}
use Rattle.lt_model.specs.Matrices.{times}
use Rattle.lt_model.specs.Order.{simplex_cmp}
use Rattle.lt_model.proofs.Sets.{same_members, simplex_cmp_total}
use Rattle.lt_drill.specs.States.{after, drawn}
use Rattle.lt_drill.specs.Scrambles.{turn_row, turn_column, turn_number, turn_factor, IsImage, IsTurn, AreTurns, IsScramble}

-- three draws more
after_turn : (n x : ℕ) → after 3 (after (3 * n) x) ≡ after (3 * suc n) x
after_turn n x = let e : suc (suc (suc (3 * n))) ≡ 3 * suc n = omega arith in ap (λ k. after k x) e

pub drew : (n x before now : ℕ) → now ≡ after 3 before → before ≡ after (3 * n) x → now ≡ after (3 * (n + 1)) x
drew n x before now e is = rw add-one (e ∙ ap (after 3) is ∙ after_turn n x)

-- ---- one scramble

one_image : (d : ℕ) (u : List (List ℤ)) (t r s : List (List (List ℤ))) → IsImage d u t r → IsImage d u t s → r ≡ s
one_image d u t r s h k =
    same_members simplex_cmp simplex_cmp_total r s h.ascending k.ascending
    (λ m. (λ c. (k.carries.members m).1 ((h.carries.members m).0 c), λ c. (h.carries.members m).1 ((k.carries.members m).0 c)))

one_turn : (d : ℕ) (t : List (List (List ℤ))) (x : ℕ) (u v w : List (List ℤ)) → IsTurn d t x u v → IsTurn d t x u w → v ≡ w
one_turn d t x u v w h k =
    let same = one_image d (times (turn_factor d x) u) t h.image k.image h.is_image k.is_image in
    elim (cases_lt (span_limit d) (span h.image)) [
      | inl wide ↦ h.left wide ∙ sym (k.left (subst (λ r. span_limit d < span r) same wide))
      | inr narrow ↦ h.taken narrow ∙ sym (k.taken (subst (λ r. span r ≤ span_limit d) same narrow))
    ]

one_way : (n d : ℕ) (t : List (List (List ℤ))) (x : ℕ) (v w : List (List ℤ)) → AreTurns n d t x v → AreTurns n d t x w → v ≡ w
one_way zero d t x v w h k = h ∙ sym k
one_way (suc n) d t x v w (p, h, f) (q, k, g) =
    let same = one_way n d t x p q h k in
    one_turn d t (after (3 * n) x) q v w (subst (λ u. IsTurn d t (after (3 * n) x) u v) same f) g

pub one_scramble : (d x : ℕ) (t r s : List (List (List ℤ))) (u v : List (List ℤ)) → IsScramble d t x u r → IsScramble d t x v s → (u ≡ v) × (r ≡ s)
one_scramble d x t r s u v h k =
    let same = one_way 3 d t x u v h.turns k.turns in
    (same, one_image d v t r s (subst (λ w. IsImage d w t r) same h.is_image) k.is_image)

-- ---- what a turn draws

-- passing over the row, a number below d - 1 names another column
passed : (d r c : ℕ) (b : Bool) → b ≡ ltb c r → r < d → c < d - 1 → (cond b c (c + 1) < d) × (r ≢ cond b c (c + 1))
passed d r c true e hr hc = let lt : c < r = ltb-true c r (sym e) in (omega arith, λ f. omega (arith, f))
passed d r c false e hr hc = let ge : r ≤ c = ltb-false c r (sym e) in (omega arith, λ f. omega (arith, f))

pub row_below : (d x : ℕ) → 2 ≤ d → turn_row d x < d
row_below d x low = omega arith

pub column_below : (d x : ℕ) → 2 ≤ d → turn_column d x < d
column_below d x low = (passed d (turn_row d x) (drawn 2 x (d - 1)) (ltb (drawn 2 x (d - 1)) (turn_row d x)) refl (row_below d x low) (omega arith)).0

pub other_column : (d x : ℕ) → 2 ≤ d → turn_row d x ≢ turn_column d x
other_column d x low = (passed d (turn_row d x) (drawn 2 x (d - 1)) (ltb (drawn 2 x (d - 1)) (turn_row d x)) refl (row_below d x low) (omega arith)).1

one_or_less : (b : Bool) → nat_abs (cond b (pos 1) (negsuc 0)) ≤ 1
one_or_less true = omega arith
one_or_less false = omega arith

pub number_small : (x : ℕ) → nat_abs (turn_number x) ≤ 1
number_small x = one_or_less (eqb (drawn 3 x 2) 0)

-- ---- one turn more

-- the numbers are at most twice as large
pub doubled : (n : ℕ) → 2 * 2 ^ n ≡ 2 ^ suc n
doubled n = omega (arith, pow-suc 2 n)
