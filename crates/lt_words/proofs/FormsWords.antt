-- The words of a section, and where their faults are.
use Rattle.std.proofs.Common.{◌≡◌, ℕ, zero, suc, ℤ, pos, ◌+◌, ◌-◌, ◌*◌, ◌<◌, ◌≤◌, List, [], ◌∷◌, ◌++◌, length, map, get_or, refl, sym, ap, ◌∙◌, subst, arith, length-append}
use Rattle.std.specs.Prelude.{codes}
use Rattle.std.proofs.lemmas.List.{append-nil, get_or_at, get_or-map, length-map, map-append}
use Rattle.std.proofs.lemmas.List.Elements.{All-append, All-get_or}
use Rattle.std.proofs.lemmas.Fmt.{decimal_injective}
use Rattle.std.specs.Fmt.{decimal, signed_decimal}
use Rattle.std.specs.List.{All, flat_map}
use Rattle.std.proofs.lemmas.Grind.{flat_map-append}
use Rattle.lt_model.specs.Forms.{numbers_of_form}
use Rattle.lt_model.specs.Vectors.{zeros}
use Rattle.lt_model.proofs.Opposite.{length-zeros}
use Rattle.lt_lattice.specs.Ranges.{IsWithin}
use Rattle.lt_words.specs.declared.words.Kind.TheVariants as kind
use Rattle.lt_words.specs.Grammar.{IsDimension, FaultAt, most_crossings, most_in_section}
use Rattle.lt_words.specs.Parts.{HasFront, HasWord, HasWords, IsCut}
use Rattle.lt_words.proofs.Chunks.{zeros_within, few_numbers, length-chunks}
use Rattle.lt_words.proofs.FormWords.{front_with}
use Rattle.lt_words.proofs.Fronts.{front_alone}
use Rattle.lt_words.proofs.Tails.{later_fault}

times_mono : (a b n : ℕ) → a ≤ b → a * n ≤ b * n
times_mono zero b n le = omega arith
times_mono (suc a) zero n le = absurd (omega (arith, le))
times_mono (suc a) (suc b) n le = let rest = times_mono a b n (omega (arith, le)) in omega (arith, rest)

some_numbers : (d : ℕ) → IsDimension d → 0 < numbers_of_form d
some_numbers zero r = absurd (omega (arith, r.0))
some_numbers (suc d) r = omega arith

same_count : (d m k : ℕ) → IsDimension d → m ≤ numbers_of_form d → k ≤ numbers_of_form d → decimal k ≡ decimal m → k ≡ m
same_count d m k r few less e = let most = few_numbers d r in decimal_injective k m (omega (arith, less, most)) (omega (arith, few, most)) e

-- words, and more behind them
pub words_with : (ws vs us : List (List ℕ)) (place : ℕ) → HasWords ws place vs → HasWords ws (place + length vs) us → HasWords ws place (vs ++ us)
words_with ws [] us place has more i lt = subst (λ n. HasWord ws n (get_or us i [])) (omega arith) (more i lt)
words_with ws (v ∷ vs) us place has more zero lt = has 0 (omega arith)
words_with ws (v ∷ vs) us place has more (suc i) lt =
    let rest : HasWords ws (suc place) vs = λ j less. subst (λ n. HasWord ws n (get_or vs j [])) (omega arith) (has (suc j) (omega (arith, less))) in
    let later : HasWords ws (suc place + length vs) us = λ j less. subst (λ n. HasWord ws n (get_or us j [])) (omega arith) (more j less) in
    subst (λ n. HasWord ws n (get_or (vs ++ us) i [])) (omega arith) (words_with ws vs us (suc place) rest later i (omega (arith, lt)))

-- where the numbers of later forms are cut, the numbers of all are
pub cut_behind : (ws : List (List ℕ)) (start most n m i place at : ℕ) (zs : List ℤ) → length zs ≡ i * n → i < m → All (IsWithin most) zs → HasWords ws start (map signed_decimal zs) → at ≡ start + i * n → IsCut ws at n most place → IsCut ws start (m * n) most place
cut_behind ws start most n m i place at zs long lt small has e cut =
    let later : HasWords ws (start + length (map signed_decimal zs)) (map signed_decimal cut.numbers) = subst (λ k. HasWords ws k (map signed_decimal cut.numbers)) (omega (arith, e, long, length-map zs signed_decimal)) cut.words in
    record {
      numbers = zs ++ cut.numbers;
      few = fewer (omega (arith, lt)) (omega (arith, long, cut.few, length-append zs cut.numbers));
      within = All-append {X = ℤ} (IsWithin most) zs cut.numbers small cut.within;
      words = subst (HasWords ws start) (sym (map-append signed_decimal zs cut.numbers)) (words_with ws (map signed_decimal zs) (map signed_decimal cut.numbers) start has later);
      at = omega (arith, cut.at, e, long, length-append zs cut.numbers);
      none = cut.none;
    }
  where
    fewer : {k : ℕ} → suc i ≤ m → k < suc i * n → k < m * n
    fewer {k} le less = let grows = times_mono (suc i) m n le in omega (arith, less, grows)

-- the numbers of some forms, and those of the next
pub words_behind : (ws : List (List ℕ)) (start n i at : ℕ) (fs : List (List ℤ)) (q : List ℤ) → All (λ f. length f ≡ n) fs → length fs ≡ i → HasWords ws start (map signed_decimal (flat_map (λ f. f) fs)) → at ≡ start + i * n → HasWords ws at (map signed_decimal q) → HasWords ws start (map signed_decimal (flat_map (λ f. f) (fs ++ q ∷ [])))
words_behind ws start n i at fs q all count has e more =
    let zs = flat_map (λ (f : List ℤ). f) fs in
    let long = length-chunks n fs all in
    let here : HasWords ws (start + length (map signed_decimal zs)) (map signed_decimal q) = subst (λ k. HasWords ws k (map signed_decimal q)) (omega (arith, e, long, ap (λ (k : ℕ). k * n) count, length-map zs signed_decimal)) more in
    let joined : flat_map (λ (f : List ℤ). f) (fs ++ q ∷ []) ≡ zs ++ q = flat_map-append (λ (f : List ℤ). f) fs (q ∷ []) ∙ ap (λ (l : List ℤ). zs ++ l) (append-nil q) in
    subst (λ (l : List ℤ). HasWords ws start (map signed_decimal l)) (sym joined) (subst (HasWords ws start) (sym (map-append signed_decimal zs q)) (words_with ws (map signed_decimal zs) (map signed_decimal q) start has here))

-- ---- faults

-- no number of crossings stands behind the dimension
pub no_crossings : (ws : List (List ℕ)) (d : ℕ) → IsDimension d → HasFront ws (codes "section" ∷ decimal d ∷ []) → ((s : ℕ) → s ≤ most_crossings → HasWord ws 2 (decimal s) → ⊥) → FaultAt ws 2
no_crossings ws d r has none =
    let n = numbers_of_form d in
    let some : 0 < n = some_numbers d r in
    later_fault ws kind.Section d [] (decimal 0 ∷ decimal 1 ∷ map signed_decimal (zeros n)) (λ e. cc) r has
    (0, 1, zeros n, omega arith, omega arith, omega (arith, some), omega (arith, length-zeros n), zeros_within n, refl)
    (λ len t. let e = t.8 in absurd (cc))
    (λ v rest w t. let e = t.8 in none t.0 t.3 (w.0, w.1 ∙ cc))

-- no number of forms stands behind the number of crossings
pub no_count : (ws : List (List ℕ)) (d s : ℕ) → IsDimension d → s ≤ most_crossings → HasFront ws (codes "section" ∷ decimal d ∷ decimal s ∷ []) → ((m : ℕ) → 0 < m → m ≤ numbers_of_form d → HasWord ws 3 (decimal m) → ⊥) → FaultAt ws 3
no_count ws d s r few has none =
    let n = numbers_of_form d in
    let some : 0 < n = some_numbers d r in
    later_fault ws kind.Section d (decimal s ∷ []) (decimal 1 ∷ map signed_decimal (zeros n)) (λ e. cc) r has
    (s, 1, zeros n, few, omega arith, omega (arith, some), omega (arith, length-zeros n), zeros_within n, refl)
    (λ len t. let e = t.8 in absurd (cc))
    (λ v rest w t. let e = t.8 in none t.1 t.4 t.5 (w.0, w.1 ∙ cc))

-- one more number does not stand behind some
pub no_number : (ws : List (List ℕ)) (d s m place : ℕ) → IsDimension d → s ≤ most_crossings → 0 < m → m ≤ numbers_of_form d → HasFront ws (codes "section" ∷ decimal d ∷ decimal s ∷ decimal m ∷ []) → IsCut ws 4 (m * numbers_of_form d) most_in_section place → FaultAt ws place
no_number ws d s m place r few some most has cut =
    let zs = cut.numbers in
    let k = m * numbers_of_form d - length zs in
    let front = decimal s ∷ decimal m ∷ map signed_decimal zs in
    let more = map signed_decimal (zeros k) in
    let whole = front_with ws (codes "section" ∷ decimal d ∷ decimal s ∷ decimal m ∷ []) (map signed_decimal zs) has cut.words in
    let long : length (zs ++ zeros k) ≡ m * numbers_of_form d = omega (arith, length-append zs (zeros k), length-zeros k, cut.few) in
    let small = All-append {X = ℤ} (IsWithin most_in_section) zs (zeros k) cut.within (zeros_within k) in
    let at : length (codes "section" ∷ decimal d ∷ front) ≡ place = omega (arith, cut.at, length-map zs signed_decimal) in
    subst (FaultAt ws) at
    (later_fault ws kind.Section d front more (λ e. cc) r whole
    (s, m, zs ++ zeros k, few, some, most, long, small, ap (λ l. decimal s ∷ decimal m ∷ l) (sym (map-append signed_decimal zs (zeros k))))
    (λ len t.
    let same = same_count d m t.1 r most t.5 (let e = t.8 in cc) in
    omega (arith, cut.few, t.6, ap (λ (x : ℕ). x * numbers_of_form d) same, length-map zs signed_decimal, length-map t.2 signed_decimal, ap length t.8))
    (λ v rest w t.
    let same = same_count d m t.1 r most t.5 (let e = t.8 in cc) in
    let q = t.2 in
    let lt : length zs < length q = omega (arith, t.6, cut.few, ap (λ (x : ℕ). x * numbers_of_form d) same) in
    let here : v ≡ signed_decimal (get_or q (length zs) (pos 0)) =
    sym (get_or_at front v rest [] (suc (suc (length zs))) (omega (arith, length-map zs signed_decimal))) ∙ ap (λ (l : List (List ℕ)). get_or l (suc (suc (length zs))) []) t.8 ∙ get_or-map signed_decimal q (length zs) (pos 0) [] lt in
    cut.none (get_or q (length zs) (pos 0)) (All-get_or {X = ℤ} (IsWithin most_in_section) q (length zs) (pos 0) lt t.7) (subst (λ n. HasWord ws n (signed_decimal (get_or q (length zs) (pos 0)))) at (w.0, w.1 ∙ here))))

-- a word more than the numbers of the forms
pub word_behind_forms : (ws : List (List ℕ)) (d s m : ℕ) (zs : List ℤ) → IsDimension d → s ≤ most_crossings → 0 < m → m ≤ numbers_of_form d → length zs ≡ m * numbers_of_form d → All (IsWithin most_in_section) zs → HasFront ws (codes "section" ∷ decimal d ∷ decimal s ∷ decimal m ∷ map signed_decimal zs) → 4 + length zs < length ws → FaultAt ws (4 + length zs)
word_behind_forms ws d s m zs r few some most long small has more =
    let front = decimal s ∷ decimal m ∷ map signed_decimal zs in
    let at : length (codes "section" ∷ decimal d ∷ front) ≡ 4 + length zs = omega (arith, length-map zs signed_decimal) in
    subst (FaultAt ws) at
    (later_fault ws kind.Section d front [] (λ e. cc) r has (s, m, zs, few, some, most, long, small, append-nil front)
    (λ len t. omega (arith, len, more, at))
    (λ v rest w t.
    let same = same_count d m t.1 r most t.5 (let e = t.8 in cc) in
    omega (arith, long, t.6, ap (λ (x : ℕ). x * numbers_of_form d) same, length-map zs signed_decimal, length-map t.2 signed_decimal, length-append front (v ∷ rest), ap length t.8)))

-- no word stands behind the numbers
pub all_forms : (ws : List (List ℕ)) (d s m : ℕ) (zs : List ℤ) → HasFront ws (codes "section" ∷ decimal d ∷ decimal s ∷ decimal m ∷ map signed_decimal zs) → length ws ≤ 4 + length zs → ws ≡ codes "section" ∷ decimal d ∷ decimal s ∷ decimal m ∷ map signed_decimal zs
all_forms ws d s m zs has few =
    let front = codes "section" ∷ decimal d ∷ decimal s ∷ decimal m ∷ map signed_decimal zs in
    front_alone ws front has (omega (arith, few, length-map zs signed_decimal, ap length has.1, length-append front has.0))
