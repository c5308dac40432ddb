-- One word after the other behind `run`, and where the fault stands.
use Rattle.std.proofs.Common.{◌≡◌, ℕ, ◌+◌, ◌-◌, ◌<◌, ◌≤◌, List, [], ◌∷◌, ◌++◌, Option, Some, None, IfSome, IfNone, IfOk, IfErr, length, take, drop, get_or, refl, sym, ap, ◌∙◌, subst, arith, append_assoc, add_comm}
use Rattle.std.proofs.lemmas.List.{append-nil, length-take, length-drop, length-map, get_or-take, get_or-drop, get_or-map, take-append-drop, take_all, take_more}
use Rattle.std.specs.Option.{ok_or}
use Rattle.lt_words.specs.declared.words.Command.{Command}
use Rattle.lt_words.specs.declared.words.WordsError.TheVariants.{Fault}
use Rattle.lt_words.specs.declared.options.Options.{Options}
use Rattle.lt_words.specs.Grammar.{texts, InRange, Spells, Begins, FaultAt, place_of}
use Rattle.lt_words.specs.Parts.{HasFront}
use Rattle.lt_words.specs.Rests.{IsSound, IsRest, GoesTo, StopsAt, HasRead}
use denote.Ref.{Bor}
use Rattle.lt_words.proofs.Fronts.{fault_at_end, fault_at_word}
use Rattle.lt_words.proofs.Ends.{plain, some_rest}

-- with one word more
pub read_more : (ws : List (List ℕ)) (place : ℕ) (o next : Options) → place < length ws → HasRead (take place ws) o → GoesTo o (get_or ws place []) next → HasRead (take (place + 1) ws) next
read_more ws place o next lt read goes =
    let v = get_or ws place [] in
    let more : take (place + 1) ws ≡ take place ws ++ v ∷ [] = take_more ws place [] lt in
    λ c rest. (
      λ s. (goes c rest).0 ((read c (v ∷ rest)).0 (subst (Spells c) (ap (λ l. l ++ rest) more ∙ append_assoc (take place ws) (v ∷ []) rest) s)),
      λ r. subst (Spells c) (sym (append_assoc (take place ws) (v ∷ []) rest) ∙ ap (λ l. l ++ rest) (sym more)) ((read c (v ∷ rest)).1 ((goes c rest).1 r)),
    )

front_begins : (front : List (List ℕ)) (o : Options) → HasRead front o → IsSound o → Begins front
front_begins front o read sound = let (rest, range, r) = some_rest o sound in (plain o, rest, range, (read (plain o) rest).1 r)

taken : (ws : List (List ℕ)) (place : ℕ) → HasFront ws (take place ws)
taken ws place = (drop place ws, sym (take-append-drop place ws))

-- the word with which no command goes on
pub fault_here : (ws : List (List ℕ)) (place : ℕ) (o : Options) → place < length ws → HasRead (take place ws) o → IsSound o → StopsAt o (get_or ws place []) → FaultAt ws place
fault_here ws place o lt read sound stops =
    let front = take place ws in
    let len : length front ≡ place = length-take place ws ∙ omega (arith, lt) in
    subst (FaultAt ws) len
    (fault_at_word ws front (taken ws place) (omega (arith, len, lt)) (front_begins front o read sound)
    (λ rest a. stops a.0 rest ((read a.0 (get_or ws place [] ∷ rest)).0 (subst (λ k. Spells a.0 (front ++ get_or ws k [] ∷ rest)) len a.2))))

-- something is missing behind the last word
fault_behind : (ws : List (List ℕ)) (o : Options) → HasRead ws o → IsSound o → ((c : Command) → IsRest o c [] → ⊥) → FaultAt ws (length ws)
fault_behind ws o read sound missing = fault_at_end ws ws ([], sym (append-nil ws)) refl (front_begins ws o read sound) (λ a. missing a.0 ((read a.0 []).0 (subst (Spells a.0) (sym (append-nil ws)) a.2)))

-- nothing is missing
spelt_whole : (ws : List (List ℕ)) (o : Options) (c : Command) → HasRead ws o → IsRest o c [] → Spells c ws
spelt_whole ws o c read r = subst (Spells c) (append-nil ws) ((read c []).1 r)

-- the answer at the end of the words
pub end_fault : (ws : List (List ℕ)) (o : Options) (k : Option Command) (place : ℕ) → HasRead (take place ws) o → place ≡ length ws → IsSound o → IfNone k ((c : Command) → IsRest o c [] → ⊥) → IfErr (ok_or k (Fault place)) (λ e. FaultAt ws (place_of e))
end_fault ws o None place read len sound missing =
    let all : take place ws ≡ ws = ap (λ n. take n ws) len ∙ take_all (length ws) ws (omega arith) in
    subst (FaultAt ws) (sym len) (fault_behind ws o (subst (λ f. HasRead f o) all read) sound missing)
end_fault ws o (Some c) place read len sound missing = tt

pub end_spelt : (ws : List (List ℕ)) (o : Options) (k : Option Command) (place : ℕ) → HasRead (take place ws) o → place ≡ length ws → IfSome k InRange → IfSome k (λ c. IsRest o c []) → IfOk (ok_or k (Fault place)) (λ c. InRange c × Spells c ws)
end_spelt ws o (Some c) place read len range rest =
    let all : take place ws ≡ ws = ap (λ n. take n ws) len ∙ take_all (length ws) ws (omega arith) in
    (range, spelt_whole ws o c (subst (λ f. HasRead f o) all read) rest)
end_spelt ws o None place read len range rest = tt

-- ---- the words behind `run`, as the program goes through them

-- the word at a place of the tail
pub tail_word : (words : List (Bor (List ℕ))) (i : ℕ) (default : Bor (List ℕ)) → i < length (take (length words - 1) (drop 1 words)) → (get_or (take (length words - 1) (drop 1 words)) i default).now ≡ get_or (texts words) (i + 1) []
tail_word words i default lt =
    let few : i < length words - 1 = omega (arith, lt, length-take (length words - 1) (drop 1 words)) in
    let some : 1 + i < length words = omega arith in
    ap (λ w. w.now) (get_or-take (length words - 1) (drop 1 words) i default few ∙ get_or-drop 1 words i default) ∙ sym (get_or-map (λ w. w.now) words (1 + i) default [] some) ∙ ap (λ k. get_or (texts words) k []) (add_comm 1 i)

-- a place of the tail is one less than that of the words
pub tail_place : (words : List (Bor (List ℕ))) (i : ℕ) → i < length (take (length words - 1) (drop 1 words)) → i + 1 < length (texts words)
tail_place words i lt = omega (arith, lt, length-take (length words - 1) (drop 1 words), length-map words (λ w. w.now))

-- the end of the tail
pub tail_end : (words : List (Bor (List ℕ))) (i : ℕ) → 0 < length words → i ≤ length (take (length words - 1) (drop 1 words)) → length (take (length words - 1) (drop 1 words)) ≤ i → i + 1 ≡ length (texts words)
tail_end words i some high low = omega (arith, high, low, some, length-take (length words - 1) (drop 1 words), length-drop 1 words, length-map words (λ w. w.now))

-- words that begin with one are some
pub some_word : (words : List (Bor (List ℕ))) (w : List ℕ) → HasFront (texts words) (w ∷ []) → 0 < length words
some_word words w (rest, e) = omega (arith, ap length e, length-map words (λ w. w.now))
