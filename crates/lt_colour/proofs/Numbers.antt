-- Lists that are made number by number.
use Rattle.std.proofs.Common.{◌≡◌, ℕ, suc, ◌+◌, ◌<◌, ap, arith, sym, ◌∙◌, subst, List, [], ◌∷◌, ◌++◌, length, get_or, ℤ}
use Rattle.std.proofs.lemmas.List.{get_or_append_left, get_or_push}
use Rattle.std.proofs.lemmas.List.Sorted.{length_permutation}
use Rattle.std.specs.List.Sorted.{IsPermutation}
use borrow.Author.Count.{below_more}
use Rattle.lt_model.specs.Facets.{without}
use Rattle.lt_model.proofs.Walk.{length-without}

-- an ordered list of the members but one is shorter by one
pub length-others : (b sorted others : List ℤ) (i : ℕ) → i < length b → others ≡ without i b → IsPermutation others sorted → suc (length sorted) ≡ length b
length-others b sorted others i h e p = ap suc (length_permutation others sorted p ∙ ap length e) ∙ length-without i b h

-- what holds of each member at its place holds with one more
pub each_more : {X : Type 0} (P : ℕ → X → Type 0) (xs : List X) (y e : X) (n : ℕ) → length xs ≡ n → ((i : ℕ) → i < n → P i (get_or xs i e)) → P n y → (i : ℕ) → i < n + 1 → P i (get_or (xs ++ y ∷ []) i e)
each_more P xs y e n l h p =
    below_more (λ i. P i (get_or (xs ++ y ∷ []) i e)) n (λ i hi. subst (P i) (sym (get_or_append_left xs (y ∷ []) e i (omega (arith, hi, l)))) (h i hi)) (subst (P n) (sym (get_or_push xs y e n l)) p)
