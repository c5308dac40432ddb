-- Entries that are written one after another.
use Rattle.std.proofs.Common.{◌≡◌, ℕ, suc, ◌+◌, ◌<◌, List, [], ◌∷◌, ◌++◌, take, drop, length, length-take, get_or, arith, sym, ap, subst, ◌∙◌, append_assoc, take-append-drop, drop-cons, Option}
use Rattle.std.proofs.lemmas.List.{append-nil, take_more}
use Rattle.lt_io.specs.Bytes.{AppendsFront}
use Rattle.lt_model.specs.Atlases.{Mark, Entry}
use Rattle.lt_text.specs.Gathered.{Gains}
use Rattle.lt_text.specs.Texts.{entry_text, entries_text}
use Rattle.lt_text.proofs.Composed.{gained_then, gained_then_front, front_of_all}

entries-append : (mss : List (List Mark)) (k : ℕ) (xs ys : List Entry) → entries_text mss k (xs ++ ys) ≡ entries_text mss k xs ++ entries_text mss (k + length xs) ys
entries-append mss k [] ys = ap (λ n. entries_text mss n ys) (omega arith)
entries-append mss k (x ∷ xs) ys =
    let e : suc k + length xs ≡ k + suc (length xs) = omega arith in
    let here = entry_text k x (get_or mss k []) in
    ap (λ l. here ++ l) (entries-append mss (suc k) xs ys ∙ ap (λ n. entries_text mss (suc k) xs ++ entries_text mss n ys) e)
    ∙ sym (append_assoc here (entries_text mss (suc k) xs) (entries_text mss (k + suc (length xs)) ys))

-- the entries before place i, the one there, and those after it
entries_at : (mss : List (List Mark)) (es : List Entry) (i : ℕ) (d : Entry) → i < length es → entries_text mss 0 (take i es) ++ (entry_text i (get_or es i d) (get_or mss i []) ++ entries_text mss (suc i) (drop (suc i) es)) ≡ entries_text mss 0 es
entries_at mss es i d lt =
    let n : 0 + length (take i es) ≡ i = omega (arith, length-take i es) in
    ap (λ k. entries_text mss 0 (take i es) ++ entries_text mss k (get_or es i d ∷ drop (suc i) es)) (sym n)
    ∙ sym (entries-append mss 0 (take i es) (get_or es i d ∷ drop (suc i) es))
    ∙ ap (λ l. entries_text mss 0 (take i es ++ l)) (sym (drop-cons es i d lt))
    ∙ ap (λ l. entries_text mss 0 l) (take-append-drop i es)

pub front_in_entries : (mss : List (List Mark)) (a b c : Option (List ℕ)) (p q : List ℕ) (es : List Entry) (i : ℕ) (d e : Entry) (ms : List Mark) → i < length es → e ≡ get_or es i d → ms ≡ get_or mss i [] → Gains a b p q (entries_text mss 0 (take i es)) → AppendsFront b c (q ++ entry_text i e ms) → AppendsFront a c (p ++ entries_text mss 0 es)
front_in_entries mss a b c p q es i d e ms lt is its m n =
    let before = entries_text mss 0 (take i es) in
    let after = entries_text mss (suc i) (drop (suc i) es) in
    let here = entry_text i e ms in
    subst (λ l. AppendsFront a c (p ++ l)) (append_assoc before here after ∙ ap (λ x. before ++ (entry_text i x ms ++ after)) is ∙ ap (λ x. before ++ (entry_text i (get_or es i d) x ++ after)) its ∙ entries_at mss es i d lt)
    (front_of_all a c p (before ++ here) after (gained_then_front a b c p q before here m n))

pub one_entry_more : (mss : List (List Mark)) (a b c : Option (List ℕ)) (p q r : List ℕ) (es : List Entry) (i : ℕ) (d e : Entry) (ms : List Mark) → i < length es → e ≡ get_or es i d → ms ≡ get_or mss i [] → Gains a b p q (entries_text mss 0 (take i es)) → Gains b c q r (entry_text i e ms) → Gains a c p r (entries_text mss 0 (take (i + 1) es))
one_entry_more mss a b c p q r es i d e ms lt is its m n =
    let before = entries_text mss 0 (take i es) in
    let long : 0 + length (take i es) ≡ i = omega (arith, length-take i es) in
    subst (λ l. Gains a c p r l)
    (ap (λ x. before ++ entry_text i x ms) is
    ∙ ap (λ x. before ++ entry_text i (get_or es i d) x) its
    ∙ ap (λ l. before ++ l) (sym (append-nil (entry_text i (get_or es i d) (get_or mss i []))))
    ∙ ap (λ k. before ++ entries_text mss k (get_or es i d ∷ [])) (sym long)
    ∙ sym (entries-append mss 0 (take i es) (get_or es i d ∷ []))
    ∙ ap (λ l. entries_text mss 0 l) (sym (take_more es i d lt)))
    (gained_then a b c p q r before (entry_text i e ms) m n)
