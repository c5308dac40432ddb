-- Lines that are begun by a start, and the numbers of lists.
use Rattle.std.proofs.Common.{◌≡◌, ℕ, ℤ, List, [], ◌∷◌, ◌++◌, sym, ap, ◌∙◌, append_assoc}
use Rattle.std.proofs.lemmas.List.{append-nil}
use Rattle.lt_lines.specs.Lines.{spaced, behind_spaces, line}
use Rattle.lt_text.specs.Texts.{start}

-- a word and a number, and then the others
pub started_list : (word : List ℕ) (z : ℤ) (zs : List ℤ) → start word (z ∷ []) ++ line [] zs ≡ line word (z ∷ zs)
started_list word z zs =
    append_assoc word (spaced z ++ []) (behind_spaces zs ++ (10 ∷ []))
    ∙ ap (λ l. word ++ (l ++ (behind_spaces zs ++ (10 ∷ [])))) (append-nil (spaced z))
    ∙ ap (λ l. word ++ l) (sym (append_assoc (spaced z) (behind_spaces zs) (10 ∷ [])))
    ∙ sym (append_assoc word (spaced z ++ behind_spaces zs) (10 ∷ []))
