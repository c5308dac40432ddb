-- Rows that are made normal by normal.
use Rattle.std.proofs.Common.{◌≡◌, ℕ, ℤ, ◌+◌, ◌<◌, ◌≤◌, ap, arith, sym, ◌∙◌, subst, List, [], ◌∷◌, ◌++◌, length, map, take, get_or, length-append}
use native.Mathlib.Decide.{dec_le}
use Rattle.std.proofs.lemmas.List.{take_more, map-append, length-map, length-take-le, get_or_append_left}
use Rattle.std.proofs.Math.Seq.{get_or-append_seam}
use Rattle.lt_tableau.specs.Errors.{AreOfDimension}
use Rattle.lt_section.specs.declared.answers.SectionRow.{SectionRow}
use Rattle.lt_section.specs.Rows.{normals_of}
use Rattle.lt_section.specs.Decided.{IsVerdictOn, AreVerdictsOn}

-- the rows of the first k filled normals
pub record AreRowsOf (fs ns xs : List (List ℤ)) (k : ℕ) (rows : List SectionRow) : Type 0 where
  pub normals : normals_of rows ≡ map (take (length fs)) (take k ns)
  pub verdicts : AreVerdictsOn fs ns xs rows

pub rows_more : (fs ns xs : List (List ℤ)) (k : ℕ) (rows new : List SectionRow) (row : SectionRow) → AreRowsOf fs ns xs k rows → k < length ns → row.normal.items ≡ take (length fs) (get_or ns k []) → ((d : ℕ) → AreOfDimension d ns → IsVerdictOn d fs ns xs k row.verdict) → new ≡ rows ++ row ∷ [] → AreRowsOf fs ns xs (k + 1) new
rows_more fs ns xs k rows new row h l n v e = record {
  normals = ap normals_of e ∙ map-append (λ (r : SectionRow). r.normal.items) rows (row ∷ []) ∙ ap (λ (x : List (List ℤ)). x ++ row.normal.items ∷ []) h.normals ∙ ap (λ (x : List ℤ). map (take (length fs)) (take k ns) ++ x ∷ []) n
      ∙ sym (ap (map (take (length fs))) (take_more ns k [] l) ∙ map-append (take (length fs)) (take k ns) (get_or ns k [] ∷ []));
  verdicts = λ d a i r li. subst (λ (x : List SectionRow). IsVerdictOn d fs ns xs i (get_or x i r).verdict) (sym e) (at d a i r (subst (λ (x : List SectionRow). i < length x) e li) (dec_le (length rows) i));
}
  where
    count : length rows ≡ k
    count = sym (length-map rows (λ (r : SectionRow). r.normal.items)) ∙ ap length h.normals ∙ length-map (take k ns) (take (length fs)) ∙ length-take-le k ns (omega arith)

    at : (d : ℕ) → AreOfDimension d ns → (i : ℕ) (r : SectionRow) → i < length (rows ++ row ∷ []) → Dec (length rows ≤ i) → IsVerdictOn d fs ns xs i (get_or (rows ++ row ∷ []) i r).verdict
    at d a i r li (no p) = subst (λ (x : SectionRow). IsVerdictOn d fs ns xs i x.verdict) (sym (get_or_append_left rows (row ∷ []) r i (omega arith))) (h.verdicts d a i r (omega arith))
    at d a i r li (yes p) =
        let s = length-append rows (row ∷ []) in
        let same : length rows ≡ i = omega (arith, li, s, p) in
        let last : get_or (rows ++ row ∷ []) i r ≡ row = ap (λ (j : ℕ). get_or (rows ++ row ∷ []) j r) (sym same) ∙ get_or-append_seam rows row [] r in
        let c = count in
        let here : k ≡ i = omega (arith, same, c) in
        subst (λ (x : SectionRow). IsVerdictOn d fs ns xs i x.verdict) (sym last) (subst (λ (j : ℕ). IsVerdictOn d fs ns xs j row.verdict) here (v d a))
