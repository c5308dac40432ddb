-- Words have a fault at one place at most, and are one command at most.
use Rattle.std.proofs.Common.{◌≡◌, ℕ, suc, ℤ, map, ◌+◌, ◌<◌, ◌≤◌, Bool, true, false, List, [], ◌∷◌, ◌++◌, length, take, drop, codes, refl, inl, inr, sym, ap, subst, ◌∙◌, arith, append_assoc}
use Rattle.std.proofs.lemmas.List.{take-append-drop, take-take}
use Rattle.std.proofs.lemmas.Fmt.{decimal_injective}
use Rattle.std.specs.Fmt.{decimal, signed_decimal}
use Rattle.std.specs.List.{All, flat_map}
use Rattle.lt_model.specs.Forms.{numbers_of_form}
use Rattle.lt_lattice.specs.Ranges.{IsWithin}
use Rattle.lt_scan.proofs.Numerals.{one_spelling}
use Rattle.lt_words.specs.declared.words.Command.{Command}
use Rattle.lt_words.specs.declared.words.Command.TheVariants.{Principal, Summary, Check, Run, Drill, Locate, Cover, Relevant, Shortest, Section, Merge, Convert}
use Rattle.lt_words.specs.declared.options.Setting.TheVariants.{Workers, Steps}
use Rattle.lt_words.specs.declared.options.Part.TheVariants.{Dimension, Resume, Ending, Named, Joined}
use Rattle.lt_words.specs.Grammar.{InRange, Item, dimension, setting, resuming, ending, setting_word, AreSpellings, numbers, times, IsChosen, MakeRun, AreGiven, SpellsForm, SpellsForms, Spells, Begins, FaultAt, most_crossings, most_of_form, most_in_section}
use Rattle.lt_words.specs.Parts.{part_word}
use Rattle.lt_model.specs.Limits.{step_limit}
use Rattle.lt_words.proofs.Chunks.{all_in_chunks, few_numbers, joined_parts}
use Rattle.lt_words.proofs.Decimals.{same_dimension}
use Rattle.lt_words.proofs.Ends.{no_items}
use Rattle.lt_words.proofs.Ranges.{few_turns}
use Rattle.lt_words.proofs.Spellings.{same_number, behind}
use Rattle.lt_words.proofs.Tails.{kind_of, first_word, same_kind}

-- fewer words of a front begin a command too
begins_before : (ws : List (List ℕ)) (p q : ℕ) → p ≤ q → Begins (take q ws) → Begins (take p ws)
begins_before ws p q le b =
    let front : take p (take q ws) ≡ take p ws = take-take p q ws le in
    let e : take p ws ++ (drop p (take q ws) ++ b.1) ≡ take q ws ++ b.1 = sym (append_assoc (take p ws) (drop p (take q ws)) b.1) ∙ ap (λ l. (l ++ drop p (take q ws)) ++ b.1) (sym front) ∙ ap (λ l. l ++ b.1) (take-append-drop p (take q ws)) in
    (b.0, drop p (take q ws) ++ b.1, b.2, subst (λ (l : List (List ℕ)). Spells b.0 l) (sym e) b.3)

no_later_fault : (ws : List (List ℕ)) (p q : ℕ) → FaultAt ws p → FaultAt ws q → p < q → ⊥
no_later_fault ws p q f h lt = f.here (omega (arith, h.within)) (begins_before ws (p + 1) q (omega arith) h.before)

-- words have their fault at one place
pub one_place : (ws : List (List ℕ)) (p q : ℕ) → FaultAt ws p → FaultAt ws q → p ≡ q
one_place ws p q f h = omega (arith, no_later_fault ws p q f h, no_later_fault ws q p h f)

-- ---- one command

-- words are one list of items at most
one_list : (items others : List Item) (ws : List (List ℕ)) → AreSpellings items ws → AreSpellings others ws → items ≡ others
one_list [] others ws e m = sym (no_items others (subst (AreSpellings others) e m))
one_list (dimension d ∷ items) others ws (own, rest, e, (r, o), m) n =
    let f : ws ≡ decimal d ∷ rest = e ∙ ap (λ (l : List (List ℕ)). l ++ rest) o in
    let (more, same, k) = behind (Dimension d) others rest r (subst (AreSpellings others) f n) in
    ap (λ l. dimension d ∷ l) (one_list items more rest m k) ∙ sym same
one_list (setting s v ∷ items) others ws (own, rest, e, (r, inl o), m) n =
    let f : ws ≡ setting_word s ∷ decimal v ∷ rest = e ∙ ap (λ (l : List (List ℕ)). l ++ rest) o in
    let (u, later, more, w, q, same, k) = behind (Named s) others (decimal v ∷ rest) tt (subst (AreSpellings others) f n) in
    let number : v ≡ u = same_number s v u r q (let g = w in cc) in
    let behind_it : later ≡ rest = let g = w in cc in
    ap (λ x. setting s x ∷ items) number ∙ ap (λ l. setting s u ∷ l) (one_list items more rest m (subst (AreSpellings more) behind_it k)) ∙ sym same
one_list (setting s v ∷ items) others ws (own, rest, e, (r, inr o), m) n =
    let f : ws ≡ part_word (Joined s v) ∷ rest = e ∙ ap (λ (l : List (List ℕ)). l ++ rest) o in
    let (more, same, k) = behind (Joined s v) others rest r (subst (AreSpellings others) f n) in
    ap (λ l. setting s v ∷ l) (one_list items more rest m k) ∙ sym same
one_list (resuming ∷ items) others ws (own, rest, e, o, m) n =
    let f : ws ≡ codes "--resume" ∷ rest = e ∙ ap (λ (l : List (List ℕ)). l ++ rest) o in
    let (more, same, k) = behind Resume others rest tt (subst (AreSpellings others) f n) in
    ap (λ l. resuming ∷ l) (one_list items more rest m k) ∙ sym same
one_list (ending ∷ items) others ws (own, rest, e, o, m) n =
    let f : ws ≡ codes "--" ∷ rest = e ∙ ap (λ (l : List (List ℕ)). l ++ rest) o in
    let (more, same, k) = behind Ending others rest tt (subst (AreSpellings others) f n) in
    ap (λ l. ending ∷ l) (one_list items more rest m k) ∙ sym same

one_chosen : (default : ℕ) (named : List ℕ) (n m : ℕ) → IsChosen default named n → IsChosen default named m → n ≡ m
one_chosen default named n m (inl e) (inl f) = cc
one_chosen default named n m (inl e) (inr f) = let g = f.0 in absurd (cc)
one_chosen default named n m (inr e) (inl f) = let g = e.0 in absurd (cc)
one_chosen default named n m (inr e) (inr f) = e.1 ∙ sym f.1

one_flag : (r q : Bool) → times r ≡ times q → r ≡ q
one_flag true true e = refl
one_flag true false e = absurd (omega (arith, e))
one_flag false true e = absurd (omega (arith, e))
one_flag false false e = refl

one_run : (d e w v s t : ℕ) (r q : Bool) (items : List Item) → MakeRun d w s r items → MakeRun e v t q items → Run d w s r ≡ Run e v t q
one_run d e w v s t r q items m n =
    let dimensions : d ≡ e = let f = m.one_dimension in let g = n.one_dimension in cc in
    let workers = one_chosen 1 (numbers Workers items) w v m.chosen_workers n.chosen_workers in
    let steps = one_chosen (step_limit e) (numbers Steps items) s t (subst (λ x. IsChosen (step_limit x) (numbers Steps items) s) dimensions m.chosen_steps) n.chosen_steps in
    let flags = one_flag r q (sym m.resumed ∙ n.resumed) in
    cc

same_runs : (d e w v s t : ℕ) (r q : Bool) (ws : List (List ℕ)) → Spells (Run d w s r) ws → Spells (Run e v t q) ws → Run d w s r ≡ Run e v t q
same_runs d e w v s t r q ws (rest, items, f, m, made) (later, others, g, n, done) =
    let same : later ≡ rest = cc in
    let list = one_list items others rest m (subst (AreSpellings others) same n) in
    one_run d e w v s t r q others (subst (MakeRun d w s r) list made) done

-- numbers have different words
same_integers : (xs ys : List ℤ) → All (IsWithin most_of_form) xs → All (IsWithin most_of_form) ys → map signed_decimal xs ≡ map signed_decimal ys → xs ≡ ys
same_integers [] [] small tiny e = refl
same_integers [] (y ∷ ys) small tiny e = absurd (cc)
same_integers (x ∷ xs) [] small tiny e = absurd (cc)
same_integers (x ∷ xs) (y ∷ ys) small tiny e =
    let here = small 0 x (omega arith) in
    let there = tiny 0 y (omega arith) in
    let first : x ≡ y = one_spelling x y (omega (arith, here)) (omega (arith, there)) (cc) in
    let rest : xs ≡ ys = same_integers xs ys (λ k d lt. small (suc k) d (omega (arith, lt))) (λ k d lt. tiny (suc k) d (omega (arith, lt))) (cc) in
    cc

-- so the words of a command on a form are those of one number of crossings and one form
same_form : (w : List ℕ) (s t : ℕ) (x y : List ℤ) (ws : List (List ℕ)) → s ≤ most_crossings → t ≤ most_crossings → All (IsWithin most_of_form) x → All (IsWithin most_of_form) y → SpellsForm w s x ws → SpellsForm w t y ws → (s ≡ t) × (x ≡ y)
same_form w s t x y ws few less small tiny f g =
    let e = f.words in
    let h = g.words in
    (decimal_injective s t (omega (arith, few)) (omega (arith, less)) (cc), same_integers x y small tiny (cc))

-- lists of one length that are joined to one list are the same
same_pieces : (n : ℕ) (fs gs : List (List ℤ)) → All (λ q. length q ≡ n) fs → All (λ q. length q ≡ n) gs → length fs ≡ length gs → flat_map (λ q. q) fs ≡ flat_map (λ q. q) gs → fs ≡ gs
same_pieces n [] [] long tall count e = refl
same_pieces n [] (g ∷ gs) long tall count e = absurd (omega (arith, count))
same_pieces n (f ∷ fs) [] long tall count e = absurd (omega (arith, count))
same_pieces n (f ∷ fs) (g ∷ gs) long tall count e =
    let here : length f ≡ length g = omega (arith, long 0 [] (omega arith), tall 0 [] (omega arith)) in
    let (first, behind) = joined_parts f g (flat_map (λ (q : List ℤ). q) fs) (flat_map (λ (q : List ℤ). q) gs) here e in
    let rest = same_pieces n fs gs (λ k d lt. long (suc k) d (omega (arith, lt))) (λ k d lt. tall (suc k) d (omega (arith, lt))) (omega (arith, count)) behind in
    cc

same_forms : (s t : ℕ) (x y : List (List ℤ)) (ws : List (List ℕ)) → s ≤ most_crossings → t ≤ most_crossings → AreGiven x → AreGiven y → SpellsForms s x ws → SpellsForms t y ws → (s ≡ t) × (x ≡ y)
same_forms s t x y ws few less given other f g =
    let e = f.words in
    let h = g.words in
    let most : most_in_section ≤ most_of_form = omega arith in
    let d : f.d ≡ g.d = same_dimension f.d g.d f.dimension g.dimension (cc) in
    let count : length x ≡ length y = decimal_injective (length x) (length y) (omega (arith, given.few, f.numbers 0 [] given.some, few_numbers f.d f.dimension)) (omega (arith, other.few, g.numbers 0 [] other.some, few_numbers g.d g.dimension)) (cc) in
    let joined = same_integers (flat_map (λ q. q) x) (flat_map (λ q. q) y) (wider (flat_map (λ q. q) x) (all_in_chunks most_in_section x given.within)) (wider (flat_map (λ q. q) y) (all_in_chunks most_in_section y other.within)) (cc) in (
      decimal_injective s t (omega (arith, few)) (omega (arith, less)) (cc),
      same_pieces (numbers_of_form f.d) x y f.numbers (subst (λ n. All (λ q. length q ≡ numbers_of_form n) y) (sym d) g.numbers) count joined,
    )
  where
    wider : (zs : List ℤ) → All (IsWithin most_in_section) zs → All (IsWithin most_of_form) zs
    wider zs all = λ k d lt. let a = all k d lt in omega (arith, a)

same_commands : (c c' : Command) (ws : List (List ℕ)) → kind_of c ≡ kind_of c' → InRange c → InRange c' → Spells c ws → Spells c' ws → c ≡ c'
same_commands (Principal d) (Principal e) ws k r q f g = ap (λ n. Principal n) (same_dimension d e r q (cc))
same_commands (Check d) (Check e) ws k r q f g = ap (λ n. Check n) (same_dimension d e r q (cc))
same_commands (Summary d true) (Summary e true) ws k r q f g = ap (λ n. Summary n true) (same_dimension d e r q (cc))
same_commands (Summary d false) (Summary e false) ws k r q f g = ap (λ n. Summary n false) (same_dimension d e r q (cc))
same_commands (Summary d true) (Summary e false) ws k r q f g = absurd (cc)
same_commands (Summary d false) (Summary e true) ws k r q f g = absurd (cc)
same_commands (Run d w s r) (Run e v t q) ws k range inside f g = same_runs d e w v s t r q ws f g
same_commands (Drill d s l) (Drill e t m) ws k (r, below, few) (q, under, less) f g =
    let dimensions : d ≡ e = same_dimension d e r q (cc) in
    let seeds : s ≡ t = decimal_injective s t below under (cc) in
    let turns : l ≡ m = decimal_injective l m (omega (arith, few, few_turns d)) (omega (arith, less, few_turns e)) (cc) in
    cc
same_commands (Locate s x) (Locate t y) ws k (few, small) (less, tiny) f g =
    let (steps, forms) = same_form (codes "locate") s t x y ws few less small tiny f g in cc
same_commands (Cover s x) (Cover t y) ws k (few, small) (less, tiny) f g =
    let (steps, forms) = same_form (codes "cover") s t x y ws few less small tiny f g in cc
same_commands (Relevant d i) (Relevant e j) ws k (r, few) (q, less) f g =
    let dimensions : d ≡ e = same_dimension d e r q (cc) in
    let entries : i ≡ j = decimal_injective i j (omega (arith, few)) (omega (arith, less)) (cc) in
    cc
same_commands (Shortest s x) (Shortest t y) ws k (few, small) (less, tiny) f g =
    let (steps, forms) = same_form (codes "shortest") s t x y ws few less small tiny f g in cc
same_commands (Section s x) (Section t y) ws k (few, small) (less, tiny) f g =
    let (steps, forms) = same_forms s t x.items y.items ws few less small tiny f g in
    ap (λ n. Section n x) steps ∙ ap (λ (z : List (List ℤ)). Section t (record { items = z })) forms
same_commands (Merge d) (Merge e) ws k r q f g = ap (λ n. Merge n) (same_dimension d e r q (cc))
same_commands (Convert d) (Convert e) ws k r q f g = ap (λ n. Convert n) (same_dimension d e r q (cc))
same_commands _ _ ws k r q f g = absurd (cc)

-- words spell one command at most
pub one_command : (c c' : Command) (ws : List (List ℕ)) → InRange c → InRange c' → Spells c ws → Spells c' ws → c ≡ c'
one_command c c' ws r q f g =
    let (rest, e) = first_word c ws f in
    let (later, h) = first_word c' ws g in
    same_commands c c' ws (same_kind (kind_of c) (kind_of c') (cc)) r q f g
