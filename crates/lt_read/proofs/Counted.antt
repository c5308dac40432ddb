-- The entries of a text in its ranges: each has a mark for each of its facets, and the matrices of their crosses are square. Proved;
-- `one_each` and `all_square` are what the check of crosses asks for, and `square_rows` tells the rows of such a matrix.
use Rattle.std.proofs.Common.{◌≡◌, ℕ, zero, suc, ◌+◌, ◌<◌, ◌≤◌, inl, inr, sym, ap, ◌∙◌, subst, arith, List, [], ◌∷◌, length, get_or}
use Rattle.std.proofs.lemmas.Bool.{cases_lt}
use Rattle.std.proofs.lemmas.List.{get_or_past}
use Rattle.std.proofs.lemmas.List.Elements.{All-from_recursion}
use Rattle.lt_model.specs.Atlases as model
use Rattle.lt_grammar.specs.Texts.{Mark, cross, heavy, Entry}
use Rattle.lt_grammar.specs.Ranges.{MarkFits, EntryFits, EntriesFit}
use Rattle.lt_read.specs.Refused.{entry_at, normals_of}
use Rattle.lt_read.specs.Built.{spelt_at, AreMarks, AreBuilt, IsSquareMark}
use Rattle.lt_read.proofs.Passing.{normals}
use Rattle.lt_read.proofs.Plain.{no_cross}

-- each entry is in the ranges of its place
pub entry_fits : (d j : ℕ) (es : List Entry) (k n : ℕ) → EntriesFit d j es → k < length es → n ≡ j + k → EntryFits d n (entry_at es k)
entry_fits d j [] k n h l e = absurd (omega (arith, l))
entry_fits d j (x ∷ es) zero n h l e = let s : j ≡ n = omega (arith, e) in subst (λ (m : ℕ). EntryFits d m x) s h.0
entry_fits d j (x ∷ es) (suc k) n h l e = entry_fits d (suc j) es k n h.1 (omega (arith, l)) (omega (arith, e))

square_cross : (d : ℕ) (m : Mark) → MarkFits d m → IsSquareMark d m
square_cross d m h k u e = let c : MarkFits d (cross k u) = subst (MarkFits d) e h in c.1.0

module _ (version d : ℕ) (es : List Entry) (bs : List model.Entry) (mss : List (List Mark)) (fits : EntriesFit d 0 es) (built : AreBuilt version d es bs) (marks : AreMarks es mss) (whole : length bs ≡ length es) (lists : length mss ≡ length es) where
  pub fits_at : (k : ℕ) → k < length es → EntryFits d k (entry_at es k)
  fits_at k l = entry_fits d 0 es k k fits l (omega arith)

  pub one_each : (k : ℕ) → k < length mss → length (get_or mss k []) ≡ length (model.facets (model.entry_at bs k))
  one_each k l =
      let here : k < length es = omega (arith, l, lists) in
      let there : k < length bs = omega (arith, here, whole) in
      let count = (fits_at k here).1.1.1.0 in
      let same : length (entry_at es k).marks ≡ length (normals_of (entry_at es k)) = omega (arith, count) in
      ap length (sym (marks k here)) ∙ same ∙ ap length (sym (normals version d es bs mss built marks k there))

  pub mark_fits : (p : ℕ × ℕ) → p.0 < length mss → p.1 < length (get_or mss p.0 []) → MarkFits d (spelt_at mss p)
  mark_fits p l s =
      let here : p.0 < length es = omega (arith, l, lists) in
      let all = subst (λ (ms : List Mark). (f : ℕ) (x : Mark) → f < length ms → MarkFits d (get_or ms f x)) (marks p.0 here) (All-from_recursion (MarkFits d) (entry_at es p.0).marks (fits_at p.0 here).1.1.1.1) in
      all p.1 (heavy 0) s

  -- what stands where no mark is
  past : (p : ℕ × ℕ) → length (get_or mss p.0 []) ≤ p.1 → spelt_at mss p ≡ heavy 0
  past p l = get_or_past (get_or mss p.0 []) p.1 (heavy 0) l

  pub past_entries : (p : ℕ × ℕ) → length mss ≤ p.0 → spelt_at mss p ≡ heavy 0
  past_entries p l = ap (λ (ms : List Mark). get_or ms p.1 (heavy 0)) (get_or_past mss p.0 [] l)

  pub all_square : (p : ℕ × ℕ) → IsSquareMark d (spelt_at mss p)
  all_square p =
      elim (cases_lt p.0 (length mss)) [
        | inr l ↦ λ k u e. absurd (no_cross (spelt_at mss p) k u (past_entries p l) e)
        | inl l ↦ elim (cases_lt p.1 (length (get_or mss p.0 []))) [
          | inl s ↦ square_cross d (spelt_at mss p) (mark_fits p l s)
          | inr s ↦ λ k u e. absurd (no_cross (spelt_at mss p) k u (past p s) e)
        ]
      ]
