use Rattle.std.proofs.Common.{refl, false, true, rules, arith, ◌≡◌, sym, ◌∙◌, ap, ◌<◌, ◌≤◌, ◌*◌, ◌^◌, ◌+◌, ◌*ℤ◌, ℕ, ℤ, pos, List, [], length, get_or, nat_abs, FitsSigned, to_z, of_z, mul-le-mul}
use Rattle.std.specs.Int.{w128}
use Rattle.std.proofs.lemmas.Int.{to_z-of_z, unsigned_abs-mul, fits_signed_from_abs}
use native.Mathlib.Decide.{ℕ_discrete}
use Rattle.lt_model.specs.Padded.{lookup}
use Rattle.lt_tableau.proofs.Sums.{lookup_is}
use Rattle.lt_tableau.proofs.Turned.{get_or_any}
use Rattle.lt_lp.specs.Checks.{term_sum}
use Rattle.lt_lp.proofs.checks.sums_match.Goals as goal

product_fits : (x y : ℤ) → nat_abs x < 2 ^ 62 → nat_abs y < 2 ^ 56 → FitsSigned w128 (x *ℤ y)
product_fits x y h k =
    let a : nat_abs x ≤ 2 ^ 62 = omega arith in
    let b : nat_abs y ≤ 2 ^ 56 = omega arith in
    let p : nat_abs (x *ℤ y) ≤ 2 ^ 62 * 2 ^ 56 = rw (unsigned_abs-mul x y) (mul-le-mul a b) in
    fits_signed_from_abs w128 (x *ℤ y) (omega arith)

product_is : (normals : List (List ℤ)) (k j : ℕ) (ns d : List ℤ) (x : ℤ) → ns ≡ get_or normals k [] → get_or ns j (pos 0) ≡ lookup (get_or normals k []) j
product_is normals k j ns d x e = ap (λ (v : List ℤ). get_or v j (pos 0)) e ∙ sym (lookup_is (get_or normals k []) j)

pub returns-then-sum_at-scale : goal.returns-then-sum_at-scale
returns-then-sum_at-scale c =
    let ns = c.args.normals.now in
    let k = c.args.k in
    let j = c.loop-j.j in
    let e : c.numbers-numbers.result.now ≡ get_or ns k [] = c.numbers-numbers.ensures.value ∙ c.index-normals-k.is ∙ get_or_any ns k _ [] c.requires.place in
    let l : j < length (get_or ns k []) = rw (sym e) c.loop-j-test.true in
    let x : FitsSigned w128 (get_or c.numbers-numbers.result.now j (pos 0)) = search rules in
    let y = c.ranges.scale in
    let b : nat_abs (get_or c.numbers-numbers.result.now j (pos 0)) < 2 ^ 56 = rw e (c.requires.small k [] c.requires.place j (pos 0) l) in
    let f : FitsSigned w128 (c.args.scale *ℤ get_or c.numbers-numbers.result.now j (pos 0)) = product_fits c.args.scale (get_or c.numbers-numbers.result.now j (pos 0)) c.requires.scale b in
    let p = product_is ns k j c.numbers-numbers.result.now [] (pos 0) e in
    ((λ z. absurd (no z)), (λ h. (let q : c.sum_at.result ≡ c.args.scale *ℤ get_or c.numbers-numbers.result.now j (pos 0) = rw p (c.sum_at.ensures ∙ h j l) in absurd (c.if-sum_at-scale.true (simp to_z-of_z (ap (of_z w128) q))))))
  where
    no : false ≡ true → ⊥
    no z = cc

pub loop-j-preserved : goal.loop-j-preserved
loop-j-preserved c =
    let ns = c.args.normals.now in
    let k = c.args.k in
    let j = c.loop-j.j in
    let e : c.numbers-numbers.result.now ≡ get_or ns k [] = c.numbers-numbers.ensures.value ∙ c.index-normals-k.is ∙ get_or_any ns k _ [] c.requires.place in
    let l : j < length (get_or ns k []) = rw (sym e) c.loop-j-test.true in
    let x : FitsSigned w128 (get_or c.numbers-numbers.result.now j (pos 0)) = search rules in
    let y = c.ranges.scale in
    let w : FitsSigned w128 c.sum_at.result = search rules in
    let b : nat_abs (get_or c.numbers-numbers.result.now j (pos 0)) < 2 ^ 56 = rw e (c.requires.small k [] c.requires.place j (pos 0) l) in
    let f : FitsSigned w128 (c.args.scale *ℤ get_or c.numbers-numbers.result.now j (pos 0)) = product_fits c.args.scale (get_or c.numbers-numbers.result.now j (pos 0)) c.requires.scale b in
    let q : c.sum_at.result ≡ c.args.scale *ℤ get_or c.numbers-numbers.result.now j (pos 0) = simp to_z-of_z at (ap (to_z w128) c.if-sum_at-scale.false) in
    let r : term_sum ns j c.args.terms.now ≡ c.args.scale *ℤ lookup (get_or ns k []) j = sym c.sum_at.ensures ∙ q ∙ rw (product_is ns k j c.numbers-numbers.result.now [] (pos 0) e) refl in
    simp to_z-of_z (λ q b. pick ns k j c.args.terms.now c.args.scale r (simp to_z-of_z at c.loop-j.invariant) q b (ℕ_discrete q j))
  where
    pick : (ns : List (List ℤ)) (k j : ℕ) (ts : List (ℕ × ℤ)) (s : ℤ) → term_sum ns j ts ≡ s *ℤ lookup (get_or ns k []) j → ((q : ℕ) → q < j → term_sum ns q ts ≡ s *ℤ lookup (get_or ns k []) q) → (q : ℕ) → q < j + 1 → Dec (q ≡ j) → term_sum ns q ts ≡ s *ℤ lookup (get_or ns k []) q
    pick ns k j ts s r h q b (yes e) = rw e r
    pick ns k j ts s r h q b (no n) = h q (omega arith)
