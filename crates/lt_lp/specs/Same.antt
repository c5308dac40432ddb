-- Whether two verdicts, rows or cones are the same; the tests hold of equal ones alone.
use Rattle.std.specs.Prelude.{◌≡◌, ℕ, ℤ, pos, List, [], Bool, true, false, ◌&&◌, ◌==◌}
use Rattle.std.proofs.Common.{ap, sym, ◌∙◌, subst}
use Rattle.std.proofs.lemmas.Bool.{false≢true}
use Rattle.std.proofs.lemmas.Bool.Decides.{Decides-and}
use Rattle.std.specs.Ordering.{int_eq}
use Rattle.std.specs.Bool.{Decides}
use Rattle.std.specs.Cmp.{IsPartialEquivalence, decided, partial_equiv_from_equiv, on_per, unsigned_Decides, signed_Decides}
use Rattle.std.specs.Cmp.Lexicographic.{pointwise, pointwise_decides}
use Rattle.lt_model.specs.Cones.{Verdict as Certificate, wall, combination, Row, Cone}
use Rattle.lt_lp.specs.declared.verdicts.Verdict.{Verdict}
use Rattle.lt_lp.specs.Verdicts.{verdict_of}

abbrev pub same_numbers : List ℤ → List ℤ → Bool
same_numbers xs ys = pointwise int_eq xs ys

abbrev pub same_term : ℕ × ℤ → ℕ × ℤ → Bool
same_term p q = (p.0 == q.0) && int_eq p.1 q.1

abbrev pub same_verdict : Certificate → Certificate → Bool
same_verdict (wall v) (wall w) = same_numbers v w
same_verdict (wall v) (combination b ts) = false
same_verdict (combination a ss) (wall w) = false
same_verdict (combination a ss) (combination b ts) = int_eq a b && pointwise same_term ss ts

abbrev pub same_row : Row → Row → Bool
same_row r s = same_numbers r.normal s.normal && same_verdict r.verdict s.verdict

abbrev pub same_cone : Cone → Cone → Bool
same_cone c e = pointwise same_row c.rows e.rows && same_numbers c.form e.form

-- ---- they hold of equal ones alone

both : {P Q R : Type 0} (a b : Bool) → Decides a P → Decides b Q → (P → Q → R) → (R → P) → (R → Q) → Decides (a && b) R
both a b p q f g h = let d = Decides-and a b p q in (λ e. f (d.0 e).0 (d.0 e).1, λ r. d.1 (g r, h r))

pub numbers_decide : (xs ys : List ℤ) → Decides (same_numbers xs ys) (xs ≡ ys)
numbers_decide xs ys = pointwise_decides signed_Decides xs ys

pair_of : (p q : ℕ × ℤ) → p.0 ≡ q.0 → p.1 ≡ q.1 → p ≡ q
pair_of p q e f = ap (λ i. (i, p.1)) e ∙ ap (λ x. (q.0, x)) f

term_decides : (p q : ℕ × ℤ) → Decides (same_term p q) (p ≡ q)
term_decides p q =
    both (p.0 == q.0) (int_eq p.1 q.1) (unsigned_Decides p.0 q.0) (signed_Decides p.1 q.1) (pair_of p q)
    (ap (λ (r : ℕ × ℤ). r.0)) (ap (λ (r : ℕ × ℤ). r.1))

abbrev is_wall : Certificate → Bool
is_wall (wall w) = true
is_wall (combination a ts) = false

abbrev form_in : Certificate → List ℤ
form_in (wall w) = w
form_in (combination a ts) = []

abbrev scale_in : Certificate → ℤ
scale_in (wall w) = pos 0
scale_in (combination a ts) = a

abbrev terms_in : Certificate → List (ℕ × ℤ)
terms_in (wall w) = []
terms_in (combination a ts) = ts

pub verdict_decides : (v w : Certificate) → Decides (same_verdict v w) (v ≡ w)
verdict_decides (wall v) (wall w) = (λ e. ap wall ((numbers_decide v w).0 e), λ e. (numbers_decide v w).1 (ap form_in e))
verdict_decides (wall v) (combination b ts) = (λ e. absurd (false≢true e), λ e. sym (ap is_wall e))
verdict_decides (combination a ss) (wall w) = (λ e. absurd (false≢true e), λ e. ap is_wall e)
verdict_decides (combination a ss) (combination b ts) =
    both (int_eq a b) (pointwise same_term ss ts) (signed_Decides a b) (pointwise_decides term_decides ss ts)
    (λ e f. ap (λ x. combination x ss) e ∙ ap (combination b) f) (ap scale_in) (ap terms_in)

row_of : (r s : Row) → r.normal ≡ s.normal → r.verdict ≡ s.verdict → r ≡ s
row_of r s e f =
    ap (λ (n : List ℤ). let x : Row = record { normal = n; verdict = r.verdict } in x) e
    ∙ ap (λ (v : Certificate). let x : Row = record { normal = s.normal; verdict = v } in x) f

pub row_decides : (r s : Row) → Decides (same_row r s) (r ≡ s)
row_decides r s =
    both (same_numbers r.normal s.normal) (same_verdict r.verdict s.verdict) (numbers_decide r.normal s.normal) (verdict_decides r.verdict s.verdict) (row_of r s)
    (ap (λ (x : Row). x.normal)) (ap (λ (x : Row). x.verdict))

cone_of : (c e : Cone) → c.rows ≡ e.rows → c.form ≡ e.form → c ≡ e
cone_of c e h k =
    ap (λ (rs : List Row). let x : Cone = record { rows = rs; form = c.form } in x) h
    ∙ ap (λ (f : List ℤ). let x : Cone = record { rows = e.rows; form = f } in x) k

pub cone_decides : (c e : Cone) → Decides (same_cone c e) (c ≡ e)
cone_decides c e =
    both (pointwise same_row c.rows e.rows) (same_numbers c.form e.form) (pointwise_decides row_decides c.rows e.rows) (numbers_decide c.form e.form) (cone_of c e)
    (ap (λ (x : Cone). x.rows)) (ap (λ (x : Cone). x.form))

-- ---- so they are equivalences

pub verdicts_equivalent : IsPartialEquivalence (λ (v w : Verdict). same_verdict (verdict_of v) (verdict_of w))
verdicts_equivalent = on_per verdict_of (partial_equiv_from_equiv (decided same_verdict verdict_decides))

pub rows_equivalent : IsPartialEquivalence same_row
rows_equivalent = partial_equiv_from_equiv (decided same_row row_decides)

pub cones_equivalent : IsPartialEquivalence same_cone
cones_equivalent = partial_equiv_from_equiv (decided same_cone cone_decides)

-- ---- a test of two parts, as the code makes it

module _ {P : Type 0} (a b : Bool) (d : Decides (a && b) P) where
  pub second_decides : (x y : Bool) → x ≡ a → x ≡ true → y ≡ b → Decides y P
  second_decides x y e t f = subst (λ z. Decides z P) (ap (λ z. z && b) (sym e ∙ t) ∙ sym f) d

  pub first_decides : (x : Bool) → x ≡ a → x ≡ false → Decides x P
  first_decides x e f = subst (λ z. Decides z P) (ap (λ z. z && b) (sym e ∙ f) ∙ sym f) d
