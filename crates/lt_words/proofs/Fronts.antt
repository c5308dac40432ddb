-- Where the fault stands in words that begin with a known front.
use Rattle.std.proofs.Common.{◌≡◌, ℕ, ◌+◌, ◌<◌, List, [], ◌∷◌, ◌++◌, length, get_or, take, refl, sym, ap, ◌∙◌, subst, arith, append_assoc, length-append}
use Rattle.std.proofs.lemmas.List.{append-nil, get_or_at, take_at}
use Rattle.lt_words.specs.Grammar.{IsAccepted, Begins, FaultAt}
use Rattle.lt_words.specs.Parts.{HasFront}

-- a front of a command's words
pub begins : (front rest : List (List ℕ)) → IsAccepted (front ++ rest) → Begins front
begins front rest a = (a.0, rest, a.1, a.2)

accepted : (front : List (List ℕ)) → (b : Begins front) → IsAccepted (front ++ b.1)
accepted front b = (b.0, b.2, b.3)

-- words as many as their front are no more
pub front_alone : (ws front : List (List ℕ)) → HasFront ws front → length ws ≡ length front → ws ≡ front
front_alone ws front ([], e) len = e ∙ append-nil front
front_alone ws front (v ∷ rest, e) len = absurd (omega (arith, len, ap length e, length-append front (v ∷ rest)))

-- the front with the next word
pub longer : (ws front : List (List ℕ)) (v : List ℕ) → HasFront ws front → length front < length ws → get_or ws (length front) [] ≡ v → HasFront ws (front ++ v ∷ [])
longer ws front v ([], e) lt is = absurd (omega (arith, lt, ap length (e ∙ append-nil front)))
longer ws front v (w ∷ rest, e) lt is =
    let next : w ≡ v = sym (get_or_at front w rest [] (length front) refl) ∙ ap (λ (l : List (List ℕ)). get_or l (length front) []) (sym e) ∙ is in
    (rest, e ∙ ap (λ (z : List ℕ). front ++ z ∷ rest) next ∙ sym (append_assoc front (v ∷ []) rest))

front_taken : (ws front : List (List ℕ)) (n : ℕ) → HasFront ws front → length front ≡ n → take n ws ≡ front
front_taken ws front n h len = ap (take n) h.1 ∙ take_at front h.0 n len

-- the front begins a command and is none, and no word stands behind it
pub fault_at_end : (ws front : List (List ℕ)) → HasFront ws front → length ws ≡ length front → Begins front → (IsAccepted front → ⊥) → FaultAt ws (length front)
fault_at_end ws front h len before outside = record {
  within = omega (arith, len);
  before = subst Begins (sym (front_taken ws front (length front) h refl)) before;
  here = λ lt. absurd (omega (arith, lt, len));
  outside = λ a. outside (subst IsAccepted (front_alone ws front h len) a);
}

-- the front begins a command, and with the next word it begins none
pub fault_at_word : (ws front : List (List ℕ)) → HasFront ws front → length front < length ws → Begins front → ((rest : List (List ℕ)) → IsAccepted (front ++ get_or ws (length front) [] ∷ rest) → ⊥) → FaultAt ws (length front)
fault_at_word ws front h lt before none =
    let v = get_or ws (length front) [] in
    let next = longer ws front v h lt refl in
    let here : Begins (front ++ v ∷ []) → ⊥ = λ b. none b.1 (subst IsAccepted (append_assoc front (v ∷ []) b.1) (accepted (front ++ v ∷ []) b)) in
    record {
      within = omega (arith, lt);
      before = subst Begins (sym (front_taken ws front (length front) h refl)) before;
      here = λ _ b. here (subst Begins (front_taken ws (front ++ v ∷ []) (length front + 1) next (length-append front (v ∷ []))) b);
      outside = λ a. here (begins (front ++ v ∷ []) next.0 (subst IsAccepted next.1 a));
    }
