-- The words of a form, and where their faults are.
use Rattle.std.proofs.Common.{◌≡◌, ℕ, zero, suc, ℤ, pos, ◌+◌, ◌-◌, ◌<◌, ◌≤◌, List, [], ◌∷◌, ◌++◌, inl, inr, length, map, get_or, refl, sym, ap, ◌∙◌, subst, arith, append_assoc, length-append}
use Rattle.std.proofs.lemmas.List.{append-nil, get_or_at, get_or-map, length-map, map-append}
use Rattle.std.proofs.lemmas.List.Elements.{All-append, All-cons, All-nil, All-get_or}
use Rattle.std.specs.Fmt.{decimal, signed_decimal}
use Rattle.std.specs.List.{All}
use Rattle.lt_model.specs.Forms.{numbers_of_form}
use Rattle.lt_model.specs.Vectors.{zeros}
use Rattle.lt_model.proofs.Opposite.{length-zeros}
use Rattle.lt_lattice.specs.Ranges.{IsWithin}
use Rattle.lt_words.specs.declared.words.Kind.{Kind}
use Rattle.lt_words.specs.declared.words.Kind.TheVariants as kind
use Rattle.lt_words.specs.Grammar.{IsDimension, FaultAt, most_crossings, most_of_form}
use Rattle.lt_words.specs.Parts.{HasFront, HasWord, HasWords, IsCut, IsOnForm, kind_word}
use Rattle.lt_words.proofs.Fronts.{longer, front_alone}
use Rattle.lt_words.proofs.Tails.{IsEnd, IsFormEnd, later_fault}

-- ---- kinds

pub not_run : (k : Kind) → IsOnForm k → k ≡ kind.Run → ⊥
not_run k (inl e) r = cc
not_run k (inr (inl e)) r = cc
not_run k (inr (inr e)) r = cc

end_of : (k : Kind) (d : ℕ) (ts : List (List ℕ)) → IsOnForm k → IsFormEnd d ts → IsEnd d k ts
end_of k d ts (inl e) t = subst (λ l. IsEnd d l ts) (sym e) t
end_of k d ts (inr (inl e)) t = subst (λ l. IsEnd d l ts) (sym e) t
end_of k d ts (inr (inr e)) t = subst (λ l. IsEnd d l ts) (sym e) t

form_end : (k : Kind) (d : ℕ) (ts : List (List ℕ)) → IsOnForm k → IsEnd d k ts → IsFormEnd d ts
form_end k d ts (inl e) t = subst (λ l. IsEnd d l ts) e t
form_end k d ts (inr (inl e)) t = subst (λ l. IsEnd d l ts) e t
form_end k d ts (inr (inr e)) t = subst (λ l. IsEnd d l ts) e t

-- ---- words from a place on

-- the words begin with them, too
pub front_with : (ws front vs : List (List ℕ)) → HasFront ws front → HasWords ws (length front) vs → HasFront ws (front ++ vs)
front_with ws front [] has w = subst (HasFront ws) (sym (append-nil front)) has
front_with ws front (v ∷ vs) has w =
    let first = w 0 (omega arith) in
    let at : length front + 0 ≡ length front = omega arith in
    let one = longer ws front v has (subst (λ n. n < length ws) at first.0) (subst (λ n. get_or ws n [] ≡ v) at first.1) in
    let len : length (front ++ v ∷ []) ≡ suc (length front) = omega (arith, length-append front (v ∷ [])) in
    let next : HasWords ws (length (front ++ v ∷ [])) vs = λ i lt. subst (λ n. HasWord ws n (get_or vs i [])) (omega (arith, len)) (w (suc i) (omega (arith, lt))) in
    subst (HasFront ws) (append_assoc front (v ∷ []) vs) (front_with ws (front ++ v ∷ []) vs one next)

-- ---- faults

zeros_small : (n : ℕ) → All (IsWithin most_of_form) (zeros n)
zeros_small zero = All-nil {X = ℤ} (IsWithin most_of_form)
zeros_small (suc n) = All-cons {X = ℤ} (IsWithin most_of_form) (pos 0) (zeros n) (omega arith) (zeros_small n)

-- the words of a command on a form, up to some of the numbers
abbrev front_of : Kind → ℕ → ℕ → List ℤ → List (List ℕ)
front_of k d s zs = kind_word k ∷ decimal d ∷ decimal s ∷ map signed_decimal zs

-- no number of crossings stands behind the dimension
pub crossings_fault : (ws : List (List ℕ)) (k : Kind) (d : ℕ) → IsOnForm k → IsDimension d → HasFront ws (kind_word k ∷ decimal d ∷ []) → ((s : ℕ) → s ≤ most_crossings → HasWord ws 2 (decimal s) → ⊥) → FaultAt ws 2
crossings_fault ws k d on r has none =
    let n = numbers_of_form d in
    let goes : IsFormEnd d (decimal 0 ∷ map signed_decimal (zeros n)) = (0, zeros n, omega arith, length-zeros n, zeros_small n, refl) in
    later_fault ws k d [] (decimal 0 ∷ map signed_decimal (zeros n)) (not_run k on) r has (end_of k d (decimal 0 ∷ map signed_decimal (zeros n)) on goes)
    (λ len t. let e = (form_end k d [] on t).5 in absurd (cc))
    (λ v rest w t.
    let f = form_end k d (v ∷ rest) on t in
    let e = f.5 in none f.0 f.2 (w.0, w.1 ∙ cc))

-- one more number does not stand behind some
pub number_fault : (ws : List (List ℕ)) (k : Kind) (d s place : ℕ) → IsOnForm k → IsDimension d → s ≤ most_crossings → HasFront ws (kind_word k ∷ decimal d ∷ decimal s ∷ []) → IsCut ws 3 (numbers_of_form d) most_of_form place → FaultAt ws place
number_fault ws k d s place on r few has cut =
    let zs = cut.numbers in
    let m = numbers_of_form d - length zs in
    let front = decimal s ∷ map signed_decimal zs in
    let more = map signed_decimal (zeros m) in
    let whole = front_with ws (kind_word k ∷ decimal d ∷ decimal s ∷ []) (map signed_decimal zs) has cut.words in
    let long : length (zs ++ zeros m) ≡ numbers_of_form d = omega (arith, length-append zs (zeros m), length-zeros m, cut.few) in
    let small = All-append {X = ℤ} (IsWithin most_of_form) zs (zeros m) cut.within (zeros_small m) in
    let goes : IsFormEnd d (front ++ more) = (s, zs ++ zeros m, few, long, small, ap (λ l. decimal s ∷ l) (sym (map-append signed_decimal zs (zeros m)))) in
    let at : length (kind_word k ∷ decimal d ∷ front) ≡ place = omega (arith, cut.at, length-map zs signed_decimal) in
    subst (FaultAt ws) at
    (later_fault ws k d front more (not_run k on) r whole (end_of k d (front ++ more) on goes)
    (λ len t.
    let f = form_end k d front on t in
    omega (arith, cut.few, f.3, length-map zs signed_decimal, length-map f.1 signed_decimal, ap length f.5))
    (λ v rest w t.
    let f = form_end k d (front ++ v ∷ rest) on t in
    let q = f.1 in
    let lt : length zs < length q = omega (arith, f.3, cut.few) in
    let here : v ≡ signed_decimal (get_or q (length zs) (pos 0)) =
    sym (get_or_at front v rest [] (suc (length zs)) (omega (arith, length-map zs signed_decimal))) ∙ ap (λ (l : List (List ℕ)). get_or l (suc (length zs)) []) f.5 ∙ get_or-map signed_decimal q (length zs) (pos 0) [] lt in
    cut.none (get_or q (length zs) (pos 0)) (All-get_or {X = ℤ} (IsWithin most_of_form) q (length zs) (pos 0) lt f.4) (subst (λ n. HasWord ws n (signed_decimal (get_or q (length zs) (pos 0)))) at (w.0, w.1 ∙ here))))

-- a word more than the numbers of the form
pub word_behind_form : (ws : List (List ℕ)) (k : Kind) (d s : ℕ) (q : List ℤ) → IsOnForm k → IsDimension d → s ≤ most_crossings → length q ≡ numbers_of_form d → All (IsWithin most_of_form) q → HasFront ws (front_of k d s q) → length (front_of k d s q) < length ws → FaultAt ws (length (front_of k d s q))
word_behind_form ws k d s q on r few numbers small has more =
    let front = decimal s ∷ map signed_decimal q in
    later_fault ws k d front [] (not_run k on) r has (end_of k d (front ++ []) on (s, q, few, numbers, small, append-nil front))
    (λ len t. omega (arith, len, more))
    (λ v rest w t.
    let f = form_end k d (front ++ v ∷ rest) on t in
    omega (arith, f.3, numbers, length-map q signed_decimal, length-map f.1 signed_decimal, length-append front (v ∷ rest), ap length f.5))

-- no word stands behind the numbers
pub all_words : (ws : List (List ℕ)) (w : List ℕ) (d s : ℕ) (q : List ℤ) → HasFront ws (w ∷ decimal d ∷ decimal s ∷ map signed_decimal q) → length ws ≤ 3 + length q → ws ≡ w ∷ decimal d ∷ decimal s ∷ map signed_decimal q
all_words ws w d s q has few =
    let front = w ∷ decimal d ∷ decimal s ∷ map signed_decimal q in
    front_alone ws front has (omega (arith, few, length-map q signed_decimal, ap length has.1, length-append front has.0))
