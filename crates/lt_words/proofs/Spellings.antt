-- What the first of some words behind `run` is, and what it leaves.
use Rattle.std.proofs.Common.{◌≡◌, ℕ, ◌+◌, ◌<◌, ◌^◌, zero, suc, cond, eqb, List, [], ◌∷◌, ◌++◌, inl, inr, get_or, drop, codes, refl, sym, ap, ◌∙◌, subst, arith}
use Rattle.std.specs.Fmt.{decimal}
use Rattle.std.proofs.lemmas.Fmt.{decimal_digit, decimal_injective}
use Rattle.lt_words.specs.declared.options.Setting.{Setting}
use Rattle.lt_words.specs.declared.options.Setting.TheVariants.{Workers, Steps}
use Rattle.lt_words.specs.declared.options.Part.{Part}
use Rattle.lt_words.specs.declared.options.Part.TheVariants.{Dimension, Resume, Ending, Named, Joined}
use Rattle.lt_words.specs.Grammar.{IsDimension, IsInSetting, Item, dimension, setting, resuming, ending, setting_word, AreSpellings}
use Rattle.lt_words.specs.Parts.{part_word, IsPart}

-- ---- a word is one part at most

-- the part without its number
bare : Part → Part
bare (Dimension d) = Dimension 0
bare Resume = Resume
bare Ending = Ending
bare (Named s) = Named s
bare (Joined s n) = Joined s 0

-- the number of a part, or 0
number_in : Part → ℕ
number_in (Dimension d) = d
number_in Resume = 0
number_in Ending = 0
number_in (Named s) = 0
number_in (Joined s n) = n

-- the part with another number
numbered : Part → ℕ → Part
numbered (Dimension d) n = Dimension n
numbered Resume n = Resume
numbered Ending n = Ending
numbered (Named s) n = Named s
numbered (Joined s m) n = Joined s n

-- the part that a word is, without its number
decoded : List ℕ → Part
decoded w =
    cond (eqb (get_or w 0 0) 45)
    (cond (eqb (get_or w 2 0) 0)
    Ending
    (cond (eqb (get_or w 2 0) 114) Resume (cond (eqb (get_or w 2 0) 119) (cond (eqb (get_or w 9 0) 61) (Joined Workers 0) (Named Workers)) (cond (eqb (get_or w 7 0) 61) (Joined Steps 0) (Named Steps)))))
    (Dimension 0)

-- the bytes that spell its number
number_bytes : Part → List ℕ → List ℕ
number_bytes (Dimension d) w = w
number_bytes Resume w = decimal 0
number_bytes Ending w = decimal 0
number_bytes (Named s) w = decimal 0
number_bytes (Joined Workers n) w = drop 10 w
number_bytes (Joined Steps n) w = drop 8 w

joined_again : (p : Part) → numbered (bare p) (number_in p) ≡ p
unfolding bare number_in numbered
joined_again (Dimension d) = refl
joined_again Resume = refl
joined_again Ending = refl
joined_again (Named s) = refl
joined_again (Joined s n) = refl

dimension_decoded : (d : ℕ) → IsDimension d → decoded ((48 + d) ∷ []) ≡ Dimension 0
unfolding decoded
dimension_decoded zero r = absurd (omega (arith, r.0))
dimension_decoded (suc zero) r = absurd (omega (arith, r.0))
dimension_decoded (suc (suc zero)) r = refl
dimension_decoded (suc (suc (suc zero))) r = refl
dimension_decoded (suc (suc (suc (suc zero)))) r = refl
dimension_decoded (suc (suc (suc (suc (suc zero))))) r = refl
dimension_decoded (suc (suc (suc (suc (suc (suc zero)))))) r = refl
dimension_decoded (suc (suc (suc (suc (suc (suc (suc d))))))) r = absurd (omega (arith, r.1))

decoded_part : (p : Part) → IsPart p → decoded (part_word p) ≡ bare p
unfolding decoded bare
decoded_part (Dimension d) r = ap decoded (decimal_digit d (omega (arith, r.1))) ∙ dimension_decoded d r
decoded_part Resume r = refl
decoded_part Ending r = refl
decoded_part (Named Workers) r = refl
decoded_part (Named Steps) r = refl
decoded_part (Joined Workers n) r = refl
decoded_part (Joined Steps n) r = refl

number_spelt : (p : Part) → number_bytes (bare p) (part_word p) ≡ decimal (number_in p)
unfolding bare number_in number_bytes
number_spelt (Dimension d) = refl
number_spelt Resume = refl
number_spelt Ending = refl
number_spelt (Named s) = refl
number_spelt (Joined Workers n) = refl
number_spelt (Joined Steps n) = refl

small_setting : (s : Setting) (n : ℕ) → IsInSetting s n → n < 2 ^ 64
small_setting Workers n r = omega (arith, r.1)
small_setting Steps n r = omega (arith, r)

pub same_number : (s : Setting) (n m : ℕ) → IsInSetting s n → IsInSetting s m → decimal n ≡ decimal m → n ≡ m
same_number s n m r q is = decimal_injective n m (small_setting s n r) (small_setting s m q) is

small_part : (p : Part) → IsPart p → number_in p < 2 ^ 64
unfolding number_in
small_part (Dimension d) r = omega (arith, r.1)
small_part Resume r = omega arith
small_part Ending r = omega arith
small_part (Named s) r = omega arith
small_part (Joined s n) r = small_setting s n r

pub one_part : (p q : Part) → IsPart p → IsPart q → part_word p ≡ part_word q → p ≡ q
one_part p q r s e =
    let shape : bare p ≡ bare q = sym (decoded_part p r) ∙ ap decoded e ∙ decoded_part q s in
    let spelt : decimal (number_in p) ≡ decimal (number_in q) = sym (number_spelt p) ∙ ap (λ w. number_bytes (bare p) w) e ∙ ap (λ b. number_bytes b (part_word q)) shape ∙ number_spelt q in
    let number = decimal_injective (number_in p) (number_in q) (small_part p r) (small_part q s) spelt in
    sym (joined_again p) ∙ ap (λ b. numbered b (number_in p)) shape ∙ ap (numbered (bare q)) number ∙ joined_again q

-- ---- what a part is the first word of

-- the items are this one, and those that the words spell
abbrev pub Leads : Item → List Item → List (List ℕ) → Type 0
Leads i items ws = (more : List Item) × (items ≡ i ∷ more) × AreSpellings more ws

-- a setting, whose number is the next word, and then those that the words spell
abbrev pub LeadsNamed : Setting → List Item → List (List ℕ) → Type 0
LeadsNamed s items ws = (n : ℕ) × (rest : List (List ℕ)) × (more : List Item) × (ws ≡ decimal n ∷ rest) × IsInSetting s n × (items ≡ setting s n ∷ more) × AreSpellings more rest

abbrev pub Follows : Part → List Item → List (List ℕ) → Type 0
Follows (Dimension d) items ws = Leads (dimension d) items ws
Follows Resume items ws = Leads resuming items ws
Follows Ending items ws = Leads ending items ws
Follows (Named s) items ws = LeadsNamed s items ws
Follows (Joined s n) items ws = Leads (setting s n) items ws

-- the part that the first word is
record First (items : List Item) (v : List ℕ) (ws : List (List ℕ)) : Type 0 where
  part : Part
  is_part : IsPart part
  word : v ≡ part_word part
  follows : Follows part items ws

head_of : (v w : List ℕ) (ws own rest : List (List ℕ)) → v ∷ ws ≡ own ++ rest → own ≡ w ∷ [] → v ≡ w
head_of v w ws own rest e o = let f : v ∷ ws ≡ w ∷ rest = e ∙ ap (λ (l : List (List ℕ)). l ++ rest) o in cc

tail_of : (v w : List ℕ) (ws own rest : List (List ℕ)) → v ∷ ws ≡ own ++ rest → own ≡ w ∷ [] → rest ≡ ws
tail_of v w ws own rest e o = let f : v ∷ ws ≡ w ∷ rest = e ∙ ap (λ (l : List (List ℕ)). l ++ rest) o in cc

leads : (i : Item) (v w : List ℕ) (ws own rest : List (List ℕ)) (more : List Item) → v ∷ ws ≡ own ++ rest → own ≡ w ∷ [] → AreSpellings more rest → Leads i (i ∷ more) ws
leads i v w ws own rest more e o m = (more, refl, subst (AreSpellings more) (tail_of v w ws own rest e o) m)

first : (items : List Item) (v : List ℕ) (ws : List (List ℕ)) → AreSpellings items (v ∷ ws) → First items v ws
first [] v ws e = absurd (cc)
first (dimension d ∷ more) v ws (own, rest, e, (r, o), m) = record { part = Dimension d; is_part = r; word = head_of v _ ws own rest e o; follows = leads (dimension d) v _ ws own rest more e o m }
first (setting s n ∷ more) v ws (own, rest, e, (r, inl o), m) =
    let f : v ∷ ws ≡ setting_word s ∷ decimal n ∷ rest = e ∙ ap (λ (l : List (List ℕ)). l ++ rest) o in
    record { part = Named s; is_part = tt; word = cc; follows = (n, rest, more, cc, r, refl, m) }
first (setting s n ∷ more) v ws (own, rest, e, (r, inr o), m) = record { part = Joined s n; is_part = r; word = head_of v _ ws own rest e o; follows = leads (setting s n) v _ ws own rest more e o m }
first (resuming ∷ more) v ws (own, rest, e, o, m) = record { part = Resume; is_part = tt; word = head_of v _ ws own rest e o; follows = leads resuming v _ ws own rest more e o m }
first (ending ∷ more) v ws (own, rest, e, o, m) = record { part = Ending; is_part = tt; word = head_of v _ ws own rest e o; follows = leads ending v _ ws own rest more e o m }

-- a word that is no part leads no items
pub no_part : (items : List Item) (v : List ℕ) (ws : List (List ℕ)) → ((p : Part) → IsPart p → v ≡ part_word p → ⊥) → AreSpellings items (v ∷ ws) → ⊥
no_part items v ws none m = let f = first items v ws m in none f.part f.is_part f.word

-- what stands behind a part
pub behind : (p : Part) (items : List Item) (ws : List (List ℕ)) → IsPart p → AreSpellings items (part_word p ∷ ws) → Follows p items ws
behind p items ws r m =
    let f = first items (part_word p) ws m in
    subst (λ q. Follows q items ws) (one_part f.part p f.is_part r (sym f.word)) f.follows

leading : (i : Item) (w : List ℕ) (items : List Item) (ws : List (List ℕ)) → ((more : List Item) → AreSpellings more ws → AreSpellings (i ∷ more) (w ∷ ws)) → Leads i items ws → AreSpellings items (w ∷ ws)
leading i w items ws put (more, e, m) = subst (λ l. AreSpellings l (w ∷ ws)) (sym e) (put more m)

-- and the other way round
pub in_front : (p : Part) (items : List Item) (ws : List (List ℕ)) → IsPart p → Follows p items ws → AreSpellings items (part_word p ∷ ws)
in_front (Dimension d) items ws r f = leading (dimension d) (decimal d) items ws (λ more m. (decimal d ∷ [], ws, refl, (r, refl), m)) f
in_front Resume items ws r f = leading resuming (codes "--resume") items ws (λ more m. (codes "--resume" ∷ [], ws, refl, refl, m)) f
in_front Ending items ws r f = leading ending (codes "--") items ws (λ more m. (codes "--" ∷ [], ws, refl, refl, m)) f
in_front (Named s) items ws r (n, rest, more, w, in_setting, e, m) =
    subst (λ l. AreSpellings l (setting_word s ∷ ws)) (sym e)
    (subst (λ (l : List (List ℕ)). AreSpellings (setting s n ∷ more) (setting_word s ∷ l)) (sym w) (setting_word s ∷ decimal n ∷ [], rest, refl, (in_setting, inl refl), m))
in_front (Joined s n) items ws r f =
    leading (setting s n) (setting_word s ++ codes "=" ++ decimal n) items ws (λ more m. ((setting_word s ++ codes "=" ++ decimal n) ∷ [], ws, refl, (r, inr refl), m)) f
