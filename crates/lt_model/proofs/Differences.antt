-- Points are affinely independent exactly where their differences from the first of them are linearly independent.
use Rattle.std.proofs.Common.{◌≡◌, refl, ℕ, zero, suc, ℤ, pos, negsuc, neg_ℤ, ◌+ℤ◌, ◌*ℤ◌, ◌<◌, ap, arith, sym, ◌∙◌, List, [], ◌∷◌, length}
use Rattle.std.proofs.lemmas.Int.{ints}
use Rattle.lt_model.specs.Vectors.{scale, dot, total, combine, zeros, AreLinearlyIndependent}
use Rattle.lt_model.specs.Simplices.{AllOfDimension, AreIndependent, translate}
use Rattle.lt_model.proofs.Integers.{spread, triple_is}
use Rattle.lt_model.proofs.Vectors.{dot-plus, dot-scale}
use Rattle.lt_model.proofs.Squares.{length-scale}
use Rattle.lt_model.proofs.Excess.{same_from_dots, length-translate}
use Rattle.lt_model.proofs.Walk.{length-combine}
use Rattle.lt_model.proofs.Moved.{translate_all, dot-moved}
use Rattle.lt_model.proofs.Opposite.{length-zeros}

-- the points less v
abbrev differences : List ℤ → List (List ℤ) → List (List ℤ)
differences v vs = translate (scale (negsuc 0) v) vs

length-sum : (d : ℕ) (v : List ℤ) (vs : List (List ℤ)) (b : List ℤ) → 0 < length vs → AllOfDimension d (v ∷ vs) → length b ≡ length vs → length (combine b (differences v vs)) ≡ d
length-sum d v vs b some all l =
    let q : List ℤ = scale (negsuc 0) v in
    length-combine d b (translate q vs) (translate_all d q vs (length-scale (negsuc 0) v ∙ all.0) all.1) (l ∙ sym (length-translate q vs)) (omega (arith, length-translate q vs))

pub total-none : (n : ℕ) → total (zeros n) ≡ pos 0
total-none zero = omega (arith, ints)
total-none (suc n) = omega (arith, ints, total-none n)

opposite : (a x : ℤ) → neg_ℤ a *ℤ (negsuc 0 *ℤ x) ≡ a *ℤ x
opposite a x = simp spread (omega (arith, ints, triple_is))

pub independent_from_differences : (d : ℕ) (v : List ℤ) (vs : List (List ℤ)) → 0 < length vs → length vs ≡ d → AllOfDimension d (v ∷ vs) → AreLinearlyIndependent (translate (scale (negsuc 0) v) vs) → AreIndependent d (v ∷ vs)
independent_from_differences d v vs some few all free [] lb sum none = absurd (omega arith)
independent_from_differences d v vs some few all free (a ∷ b) lb sum none =
    let l : length b ≡ length vs = omega arith in
    let m : length (differences v vs) ≡ d = length-translate (scale (negsuc 0) v) vs ∙ few in
    let c : combine b (differences v vs) ≡ zeros d = same_from_dots (combine b (differences v vs)) (zeros d) (length-sum d v vs b some all l ∙ sym (length-zeros d)) (λ u. at u l) in
    let z : b ≡ zeros (length vs) = free b (l ∙ few ∙ sym m) (c ∙ ap zeros (sym m)) ∙ ap zeros (m ∙ sym few) in
    let s : total b ≡ pos 0 = ap total z ∙ total-none (length vs) in
    let h : a ≡ pos 0 = omega (arith, ints, s) in
    cc
  where
    at : (u : List ℤ) → length b ≡ length vs → dot u (combine b (differences v vs)) ≡ dot u (zeros d)
    at u l =
        let e : a *ℤ dot u v +ℤ dot u (combine b vs) ≡ dot u (zeros d) = sym (dot-plus u (scale a v) (combine b vs) ∙ (rw (dot-scale u a v) refl)) ∙ ap (dot u) none in
        let k : total b ≡ neg_ℤ a = omega (arith, ints) in
        dot-moved u (scale (negsuc 0) v) b vs l ∙ (rw (dot-scale u (negsuc 0) v, k) (done a (dot u v) (dot u (combine b vs)) (dot u (zeros d)) e))
      where
        done : (a x y z : ℤ) → a *ℤ x +ℤ y ≡ z → y +ℤ neg_ℤ a *ℤ (negsuc 0 *ℤ x) ≡ z
        done a x y z e = omega (arith, ints, e, opposite a x)

pub differences_from_independent : (d : ℕ) (v : List ℤ) (vs : List (List ℤ)) → 0 < length vs → length vs ≡ d → AllOfDimension d (v ∷ vs) → AreIndependent d (v ∷ vs) → AreLinearlyIndependent (translate (scale (negsuc 0) v) vs)
differences_from_independent d v vs some few all free b lb none =
    let m : length (differences v vs) ≡ length vs = length-translate (scale (negsuc 0) v) vs in
    let l : length b ≡ length vs = lb ∙ m in
    let a : ℤ = neg_ℤ (total b) in
    let c : combine (a ∷ b) (v ∷ vs) ≡ zeros d = same_from_dots (combine (a ∷ b) (v ∷ vs)) (zeros d) (length-combine d (a ∷ b) (v ∷ vs) all (ap suc l) (omega arith) ∙ sym (length-zeros d)) (λ u. at u l (none ∙ ap zeros (m ∙ few))) in
    let z : a ∷ b ≡ zeros (suc (length vs)) = free (a ∷ b) (ap suc l) (omega (arith, ints)) c in
    let same : zeros (length (differences v vs)) ≡ zeros (length vs) = ap zeros m in
    cc
  where
    at : (u : List ℤ) → length b ≡ length vs → combine b (differences v vs) ≡ zeros d → dot u (combine (neg_ℤ (total b) ∷ b) (v ∷ vs)) ≡ dot u (zeros d)
    at u l is =
        let e : dot u (combine b vs) +ℤ total b *ℤ (negsuc 0 *ℤ dot u v) ≡ dot u (zeros d) = sym (dot-moved u (scale (negsuc 0) v) b vs l ∙ (rw (dot-scale u (negsuc 0) v) refl)) ∙ ap (dot u) is in
        dot-plus u (scale (neg_ℤ (total b)) v) (combine b vs) ∙ (rw (dot-scale u (neg_ℤ (total b)) v) (done (total b) (dot u v) (dot u (combine b vs)) (dot u (zeros d)) e))
      where
        turned : (t x : ℤ) → t *ℤ (negsuc 0 *ℤ x) ≡ neg_ℤ t *ℤ x
        turned t x = simp spread (omega (arith, ints, triple_is))

        done : (t x y z : ℤ) → y +ℤ t *ℤ (negsuc 0 *ℤ x) ≡ z → neg_ℤ t *ℤ x +ℤ y ≡ z
        done t x y z e = omega (arith, ints, e, turned t x)
