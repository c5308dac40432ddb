-- What stands behind the first word of a command but `run`, and where its faults are.
use Rattle.std.proofs.Common.{◌≡◌, ℕ, ℤ, pos, ◌+◌, ◌*◌, ◌<◌, ◌≤◌, ◌^◌, Bool, true, false, cond, eqb, List, [], ◌∷◌, ◌++◌, ◌⊎◌, inl, inr, length, map, get_or, codes, Result, IfErr, refl, sym, ap, ◌∙◌, subst, arith, length-append}
use Rattle.std.proofs.lemmas.Bool.{cases_lt}
use Rattle.std.proofs.lemmas.List.{get_or-map}
use Rattle.std.proofs.lemmas.Result.{err_from_is_err_and}
use Rattle.std.specs.Result.{IsErrAnd}
use denote.Ref.{Bor}
use Rattle.std.specs.Fmt.{decimal, signed_decimal}
use Rattle.std.specs.List.{All, flat_map}
use Rattle.lt_model.specs.Forms.{numbers_of_form}
use Rattle.lt_lattice.specs.Ranges.{IsWithin}
use Rattle.lt_words.specs.declared.words.Command.{Command}
use Rattle.lt_words.specs.declared.words.Command.TheVariants.{Principal, Summary, Check, Run, Drill, Locate, Cover, Relevant, Shortest, Section, Merge, Convert}
use Rattle.lt_words.specs.declared.words.WordsError.{WordsError}
use Rattle.lt_words.specs.declared.words.WordsError.TheVariants.{Fault}
use Rattle.lt_words.specs.declared.words.Kind.{Kind}
use Rattle.lt_words.specs.declared.words.Kind.TheVariants as kind
use Rattle.lt_words.specs.Grammar.{texts, place_of, most_turns, most_crossings, most_of_form, most_in_section, most_entry, IsDimension, InRange, Spells, IsAccepted, FaultAt}
use Rattle.lt_words.specs.Parts.{kind_word, HasFront, HasWord}
use Rattle.lt_words.proofs.Chunks.{chunks, chunks_joined, length_of_chunks, chunks_long, chunks_within, length-chunks, all_in_chunks, given_forms, zeros_within}
use Rattle.lt_words.proofs.Decimals.{same_dimension}
use Rattle.lt_words.proofs.Fronts.{begins, front_alone, longer, fault_at_end, fault_at_word}

-- ---- kinds

abbrev pub kind_of : Command → Kind
kind_of (Principal d) = kind.Principal
kind_of (Summary d r) = kind.Summary
kind_of (Check d) = kind.Check
kind_of (Run d w s r) = kind.Run
kind_of (Drill d s l) = kind.Drill
kind_of (Locate s q) = kind.Locate
kind_of (Cover s q) = kind.Cover
kind_of (Relevant d e) = kind.Relevant
kind_of (Shortest s q) = kind.Shortest
kind_of (Section s fs) = kind.Section
kind_of (Merge d) = kind.Merge
kind_of (Convert d) = kind.Convert

-- a command begins with the word of its kind
pub first_word : (c : Command) (ws : List (List ℕ)) → Spells c ws → (rest : List (List ℕ)) × (ws ≡ kind_word (kind_of c) ∷ rest)
first_word (Principal d) ws e = (decimal d ∷ [], e)
first_word (Summary d r) ws e = (decimal d ∷ cond r (codes "--resume" ∷ []) [], e)
first_word (Check d) ws e = (decimal d ∷ [], e)
first_word (Run d w s r) ws (rest, items, e, m, made) = (rest, e)
first_word (Drill d s l) ws e = (decimal d ∷ decimal s ∷ decimal l ∷ [], e)
first_word (Locate s q) ws p = (decimal p.d ∷ decimal s ∷ map signed_decimal q, p.words)
first_word (Cover s q) ws p = (decimal p.d ∷ decimal s ∷ map signed_decimal q, p.words)
first_word (Relevant d k) ws e = (decimal d ∷ decimal k ∷ [], e)
first_word (Shortest s q) ws p = (decimal p.d ∷ decimal s ∷ map signed_decimal q, p.words)
first_word (Section s fs) ws p = (decimal p.d ∷ decimal s ∷ decimal (length fs.items) ∷ map signed_decimal (flat_map (λ q. q) fs.items), p.words)
first_word (Merge d) ws e = (decimal d ∷ [], e)
first_word (Convert d) ws e = (decimal d ∷ [], e)

-- a number that the first and the third byte of a word give
key : List ℕ → ℕ
key w = get_or w 0 0 + 3 * get_or w 2 0

kind_at : ℕ → Kind
kind_at n = cond (eqb n 427) kind.Principal (cond (eqb n 442) kind.Summary (cond (eqb n 402) kind.Check (cond (eqb n 415) kind.Drill (cond (eqb n 405) kind.Locate (cond (eqb n 453) kind.Cover (cond (eqb n 438) kind.Relevant (cond (eqb n 448) kind.Shortest (cond (eqb n 412) kind.Section (cond (eqb n 451) kind.Merge (cond (eqb n 429) kind.Convert kind.Run))))))))))

kind_again : (k : Kind) → kind_at (key (kind_word k)) ≡ k
unfolding kind_at key
kind_again kind.Principal = refl
kind_again kind.Summary = refl
kind_again kind.Check = refl
kind_again kind.Run = refl
kind_again kind.Drill = refl
kind_again kind.Locate = refl
kind_again kind.Cover = refl
kind_again kind.Relevant = refl
kind_again kind.Shortest = refl
kind_again kind.Section = refl
kind_again kind.Merge = refl
kind_again kind.Convert = refl

-- kinds have different words
pub same_kind : (k l : Kind) → kind_word k ≡ kind_word l → k ≡ l
same_kind k l e = sym (kind_again k) ∙ ap (λ w. kind_at (key w)) e ∙ kind_again l

-- ---- shapes

-- the number of crossings and the numbers of a form
abbrev pub IsFormEnd : ℕ → List (List ℕ) → Type 0
IsFormEnd d ts =
    (s : ℕ) × (q : List ℤ) × (s ≤ most_crossings) × (length q ≡ numbers_of_form d) × All (IsWithin most_of_form) q × (ts ≡ decimal s ∷ map signed_decimal q)

-- the number of crossings, the number of forms, and their numbers
abbrev pub IsFormsEnd : ℕ → List (List ℕ) → Type 0
IsFormsEnd d ts =
    (s : ℕ) × (m : ℕ) × (zs : List ℤ) × (s ≤ most_crossings) × (0 < m) × (m ≤ numbers_of_form d) × (length zs ≡ m * numbers_of_form d)
    × All (IsWithin most_in_section) zs × (ts ≡ decimal s ∷ decimal m ∷ map signed_decimal zs)

-- what stands behind the dimension
abbrev pub IsEnd : ℕ → Kind → List (List ℕ) → Type 0
IsEnd d kind.Principal ts = ts ≡ []
IsEnd d kind.Summary ts = (ts ≡ []) ⊎ (ts ≡ codes "--resume" ∷ [])
IsEnd d kind.Check ts = ts ≡ []
IsEnd d kind.Run ts = ⊥
IsEnd d kind.Drill ts = (s : ℕ) × (l : ℕ) × (s < 2 ^ 64) × (l ≤ most_turns d) × (ts ≡ decimal s ∷ decimal l ∷ [])
IsEnd d kind.Locate ts = IsFormEnd d ts
IsEnd d kind.Cover ts = IsFormEnd d ts
IsEnd d kind.Relevant ts = (k : ℕ) × (k ≤ most_entry) × (ts ≡ decimal k ∷ [])
IsEnd d kind.Shortest ts = IsFormEnd d ts
IsEnd d kind.Section ts = IsFormsEnd d ts
IsEnd d kind.Merge ts = ts ≡ []
IsEnd d kind.Convert ts = ts ≡ []

-- what stands behind the first word
abbrev IsTail : Kind → List (List ℕ) → Type 0
IsTail k ts = (d : ℕ) × (end : List (List ℕ)) × IsDimension d × (ts ≡ decimal d ∷ end) × IsEnd d k end

tail_of : (c : Command) (ts : List (List ℕ)) → InRange c → Spells c (kind_word (kind_of c) ∷ ts) → (kind_of c ≡ kind.Run → ⊥) → IsTail (kind_of c) ts
tail_of (Principal d) ts r e other = (d, [], r, cc, refl)
tail_of (Summary d true) ts r e other = (d, codes "--resume" ∷ [], r, cc, inr refl)
tail_of (Summary d false) ts r e other = (d, [], r, cc, inl refl)
tail_of (Check d) ts r e other = (d, [], r, cc, refl)
tail_of (Run d w s r) ts range e other = absurd (other refl)
tail_of (Drill d s l) ts (r, below, few) e other = (d, decimal s ∷ decimal l ∷ [], r, cc, (s, l, below, few, refl))
tail_of (Locate s q) ts (few, small) p other = let e = p.words in (p.d, decimal s ∷ map signed_decimal q, p.dimension, cc, (s, q, few, p.numbers, small, refl))
tail_of (Cover s q) ts (few, small) p other = let e = p.words in (p.d, decimal s ∷ map signed_decimal q, p.dimension, cc, (s, q, few, p.numbers, small, refl))
tail_of (Relevant d k) ts (r, few) e other = (d, decimal k ∷ [], r, cc, (k, few, refl))
tail_of (Shortest s q) ts (few, small) p other = let e = p.words in (p.d, decimal s ∷ map signed_decimal q, p.dimension, cc, (s, q, few, p.numbers, small, refl))
tail_of (Section s fs) ts (few, given) p other =
    let e = p.words in
    let n = numbers_of_form p.d in
    let zs = flat_map (λ q. q) fs.items in
    let first : length (get_or fs.items 0 []) ≡ n = p.numbers 0 [] given.some in (
      p.d,
      decimal s ∷ decimal (length fs.items) ∷ map signed_decimal zs,
      p.dimension,
      cc,
      (s, length fs.items, zs, few, given.some, subst (λ k. length fs.items ≤ k) first given.few, length-chunks n fs.items p.numbers, all_in_chunks most_in_section fs.items given.within, refl),
    )
tail_of (Merge d) ts r e other = (d, [], r, cc, refl)
tail_of (Convert d) ts r e other = (d, [], r, cc, refl)

tail : (k : Kind) (ts : List (List ℕ)) → (k ≡ kind.Run → ⊥) → IsAccepted (kind_word k ∷ ts) → IsTail k ts
tail k ts other (c, r, s) =
    let f = first_word c (kind_word k ∷ ts) s in
    let head : kind_word k ≡ kind_word (kind_of c) = let e = f.1 in cc in
    let same = same_kind k (kind_of c) head in
    subst (λ l. IsTail l ts) (sym same) (tail_of c ts r (subst (λ l. Spells c (kind_word l ∷ ts)) same s) (λ e. other (same ∙ e)))

accepts : (k : Kind) (ts : List (List ℕ)) → IsTail k ts → IsAccepted (kind_word k ∷ ts)
accepts kind.Principal ts (d, end, r, e, is) = (Principal d, r, ap (λ l. codes "principal" ∷ l) (e ∙ ap (λ l. decimal d ∷ l) is))
accepts kind.Summary ts (d, end, r, e, inl is) = (Summary d false, r, ap (λ l. codes "summary" ∷ l) (e ∙ ap (λ l. decimal d ∷ l) is))
accepts kind.Summary ts (d, end, r, e, inr is) = (Summary d true, r, ap (λ l. codes "summary" ∷ l) (e ∙ ap (λ l. decimal d ∷ l) is))
accepts kind.Check ts (d, end, r, e, is) = (Check d, r, ap (λ l. codes "check" ∷ l) (e ∙ ap (λ l. decimal d ∷ l) is))
accepts kind.Run ts (d, end, r, e, is) = absurd is
accepts kind.Drill ts (d, end, r, e, (s, l, below, few, is)) = (Drill d s l, (r, below, few), ap (λ m. codes "drill" ∷ m) (e ∙ ap (λ m. decimal d ∷ m) is))
accepts kind.Locate ts (d, end, r, e, (s, q, few, numbers, small, is)) = (
  Locate s q,
  (few, small),
  record { d = d; dimension = r; numbers = numbers; words = ap (λ m. codes "locate" ∷ m) (e ∙ ap (λ m. decimal d ∷ m) is) },
)
accepts kind.Cover ts (d, end, r, e, (s, q, few, numbers, small, is)) = (
  Cover s q,
  (few, small),
  record { d = d; dimension = r; numbers = numbers; words = ap (λ m. codes "cover" ∷ m) (e ∙ ap (λ m. decimal d ∷ m) is) },
)
accepts kind.Relevant ts (d, end, r, e, (k, few, is)) = (Relevant d k, (r, few), ap (λ m. codes "relevant" ∷ m) (e ∙ ap (λ m. decimal d ∷ m) is))
accepts kind.Shortest ts (d, end, r, e, (s, q, few, numbers, small, is)) = (
  Shortest s q,
  (few, small),
  record { d = d; dimension = r; numbers = numbers; words = ap (λ m. codes "shortest" ∷ m) (e ∙ ap (λ m. decimal d ∷ m) is) },
)
accepts kind.Section ts (d, end, r, e, (s, m, zs, few, some, most, long, small, is)) =
    let n = numbers_of_form d in
    let fs = chunks n m zs in
    let whole : flat_map (λ q. q) fs ≡ zs = chunks_joined n m zs long in
    let count : length fs ≡ m = length_of_chunks n m zs in
    let numbers = chunks_long n m zs long in (
      Section s (record { items = fs }),
      (few, given_forms n fs (subst (λ k. 0 < k) (sym count) some) (subst (λ k. k ≤ n) (sym count) most) numbers (chunks_within n m zs most_in_section long small)),
      record {
        d = d;
        dimension = r;
        numbers = numbers;
        words = ap (λ l. codes "section" ∷ l) (e ∙ ap (λ l. decimal d ∷ l) is) ∙ ap (λ k. codes "section" ∷ decimal d ∷ decimal s ∷ decimal k ∷ map signed_decimal zs) (sym count)
            ∙ ap (λ l. codes "section" ∷ decimal d ∷ decimal s ∷ decimal (length fs) ∷ map signed_decimal l) (sym whole);
      },
    )
accepts kind.Merge ts (d, end, r, e, is) = (Merge d, r, ap (λ l. codes "merge" ∷ l) (e ∙ ap (λ l. decimal d ∷ l) is))
accepts kind.Convert ts (d, end, r, e, is) = (Convert d, r, ap (λ l. codes "convert" ∷ l) (e ∙ ap (λ l. decimal d ∷ l) is))

-- ---- faults

-- behind the first words `front` of a tail, which can be continued by `more`
tail_fault : (ws : List (List ℕ)) (k : Kind) (front more : List (List ℕ)) → (k ≡ kind.Run → ⊥) → HasFront ws (kind_word k ∷ front) → IsTail k (front ++ more) → (length ws ≡ length (kind_word k ∷ front) → IsTail k front → ⊥) → ((v : List ℕ) (rest : List (List ℕ)) → HasWord ws (length (kind_word k ∷ front)) v → IsTail k (front ++ v ∷ rest) → ⊥) → FaultAt ws (length (kind_word k ∷ front))
tail_fault ws k front more other has goes outside here =
    let whole = kind_word k ∷ front in
    let before = begins whole more (accepts k (front ++ more) goes) in
    elim (cases_lt (length whole) (length ws)) [
      | inl lt ↦ fault_at_word ws whole has lt before (λ rest a. here (get_or ws (length whole) []) rest (lt, refl) (tail k (front ++ get_or ws (length whole) [] ∷ rest) other a))
      | inr ge ↦ let len : length ws ≡ length whole = omega (arith, ge, ap length has.1, length-append whole has.0) in
          fault_at_end ws whole has len before (λ a. outside len (tail k front other a))
    ]

-- no crossings, and a form of zeros
zero_form : (end : List (List ℕ)) × IsFormEnd 2 end
zero_form =
    let zero = pos 0 ∷ pos 0 ∷ pos 0 ∷ [] in (decimal 0 ∷ map signed_decimal zero, (0, zero, omega arith, refl, zeros_within 3, refl))

-- no crossings, and one form of zeros
zero_section : (end : List (List ℕ)) × IsFormsEnd 2 end
zero_section =
    let zero = pos 0 ∷ pos 0 ∷ pos 0 ∷ [] in
    (decimal 0 ∷ decimal 1 ∷ map signed_decimal zero, (0, 1, zero, omega arith, omega arith, omega arith, refl, zeros_within 3, refl))

some_end : (k : Kind) → (k ≡ kind.Run → ⊥) → (end : List (List ℕ)) × IsEnd 2 k end
some_end kind.Principal other = ([], refl)
some_end kind.Summary other = ([], inl refl)
some_end kind.Check other = ([], refl)
some_end kind.Run other = absurd (other refl)
some_end kind.Drill other = (decimal 0 ∷ decimal 0 ∷ [], (0, 0, omega arith, omega arith, refl))
some_end kind.Locate other = zero_form
some_end kind.Cover other = zero_form
some_end kind.Relevant other = (decimal 0 ∷ [], (0, omega arith, refl))
some_end kind.Shortest other = zero_form
some_end kind.Section other = zero_section
some_end kind.Merge other = ([], refl)
some_end kind.Convert other = ([], refl)

-- no dimension stands behind the first word
pub dimension_fault : (ws : List (List ℕ)) (k : Kind) → (k ≡ kind.Run → ⊥) → HasFront ws (kind_word k ∷ []) → ((d : ℕ) → IsDimension d → HasWord ws 1 (decimal d) → ⊥) → FaultAt ws 1
dimension_fault ws k other has none =
    let (end, is) = some_end k other in
    tail_fault ws k [] (decimal 2 ∷ end) other has (2, end, (omega arith, omega arith), refl, is)
    (λ len t. let e = t.3 in absurd (cc))
    (λ v rest w t. let e = t.3 in none t.0 t.2 (w.0, w.1 ∙ cc))

-- what stands behind a dimension is the end for that dimension
end_at : (k : Kind) (d : ℕ) (end : List (List ℕ)) → IsDimension d → IsTail k (decimal d ∷ end) → IsEnd d k end
end_at k d end r (n, more, q, e, is) =
    let same : n ≡ d = same_dimension n d q r (cc) in
    let behind : more ≡ end = cc in
    subst (λ ts. IsEnd d k ts) behind (subst (λ m. IsEnd m k more) same is)

-- the fault stands behind the dimension
pub later_fault : (ws : List (List ℕ)) (k : Kind) (d : ℕ) (front more : List (List ℕ)) → (k ≡ kind.Run → ⊥) → IsDimension d → HasFront ws (kind_word k ∷ decimal d ∷ front) → IsEnd d k (front ++ more) → (length ws ≡ length (kind_word k ∷ decimal d ∷ front) → IsEnd d k front → ⊥) → ((v : List ℕ) (rest : List (List ℕ)) → HasWord ws (length (kind_word k ∷ decimal d ∷ front)) v → IsEnd d k (front ++ v ∷ rest) → ⊥) → FaultAt ws (length (kind_word k ∷ decimal d ∷ front))
later_fault ws k d front more other r has goes outside here =
    tail_fault ws k (decimal d ∷ front) more other has (d, front ++ more, r, refl, goes)
    (λ len t. outside len (end_at k d front r t))
    (λ v rest w t. here v rest w (end_at k d (front ++ v ∷ rest) r t))

-- the words begin with the dimension, too
pub with_dimension : (ws : List (List ℕ)) (k : Kind) (d : ℕ) → HasFront ws (kind_word k ∷ []) → HasWord ws 1 (decimal d) → HasFront ws (kind_word k ∷ decimal d ∷ [])
with_dimension ws k d has w = longer ws (kind_word k ∷ []) (decimal d) has w.0 w.1

-- the words of a drill begin with the seed behind it, and with the number of turns
pub with_seed : (ws : List (List ℕ)) (d s : ℕ) → HasFront ws (codes "drill" ∷ decimal d ∷ []) → HasWord ws 2 (decimal s) → HasFront ws (codes "drill" ∷ decimal d ∷ decimal s ∷ [])
with_seed ws d s has w = longer ws (codes "drill" ∷ decimal d ∷ []) (decimal s) has w.0 w.1

pub with_turns : (ws : List (List ℕ)) (d s l : ℕ) → HasFront ws (codes "drill" ∷ decimal d ∷ decimal s ∷ []) → HasWord ws 3 (decimal l) → HasFront ws (codes "drill" ∷ decimal d ∷ decimal s ∷ decimal l ∷ [])
with_turns ws d s l has w = longer ws (codes "drill" ∷ decimal d ∷ decimal s ∷ []) (decimal l) has w.0 w.1

-- a word more than `principal D` or `check D`
pub third_word : (ws : List (List ℕ)) (k : Kind) (d : ℕ) → (k ≡ kind.Run → ⊥) → IsDimension d → HasFront ws (kind_word k ∷ decimal d ∷ []) → IsEnd d k [] → ((v : List ℕ) (rest : List (List ℕ)) → HasWord ws 2 v → IsEnd d k (v ∷ rest) → ⊥) → 2 < length ws → FaultAt ws 2
third_word ws k d other r has end here more = later_fault ws k d [] [] other r has end (λ len t. omega (arith, len, more)) here

-- a word more than `summary D --resume`
pub fourth_word : (ws : List (List ℕ)) (d : ℕ) → IsDimension d → HasFront ws (codes "summary" ∷ decimal d ∷ codes "--resume" ∷ []) → 3 < length ws → FaultAt ws 3
fourth_word ws d r has more = later_fault ws kind.Summary d (codes "--resume" ∷ []) [] (λ e. cc) r has (inr refl) (λ len t. omega (arith, len, more)) (λ v rest w t. elim t [ inl e ↦ cc | inr e ↦ cc ])

-- no seed stands behind `drill D`
pub seed_fault : (ws : List (List ℕ)) (d : ℕ) → IsDimension d → HasFront ws (codes "drill" ∷ decimal d ∷ []) → ((s : ℕ) → s < 2 ^ 64 → HasWord ws 2 (decimal s) → ⊥) → FaultAt ws 2
seed_fault ws d r has none =
    later_fault ws kind.Drill d [] (decimal 0 ∷ decimal 0 ∷ []) (λ e. cc) r has (0, 0, omega arith, omega arith, refl)
    (λ len t. let e = t.4 in absurd (cc))
    (λ v rest w t. let e = t.4 in none t.0 t.2 (w.0, w.1 ∙ cc))

-- and no number of turns behind the seed
pub turns_fault : (ws : List (List ℕ)) (d s : ℕ) → IsDimension d → s < 2 ^ 64 → HasFront ws (codes "drill" ∷ decimal d ∷ decimal s ∷ []) → ((l : ℕ) → l ≤ most_turns d → HasWord ws 3 (decimal l) → ⊥) → FaultAt ws 3
turns_fault ws d s r below has none =
    later_fault ws kind.Drill d (decimal s ∷ []) (decimal 0 ∷ []) (λ e. cc) r has (s, 0, below, omega arith, refl)
    (λ len t. let e = t.4 in absurd (cc))
    (λ v rest w t. let e = t.4 in none t.1 t.3 (w.0, w.1 ∙ cc))

-- a word more than `drill D SEED LENGTH`
pub fifth_word : (ws : List (List ℕ)) (d s l : ℕ) → IsDimension d → s < 2 ^ 64 → l ≤ most_turns d → HasFront ws (codes "drill" ∷ decimal d ∷ decimal s ∷ decimal l ∷ []) → 4 < length ws → FaultAt ws 4
fifth_word ws d s l r below few has more =
    later_fault ws kind.Drill d (decimal s ∷ decimal l ∷ []) [] (λ e. cc) r has (s, l, below, few, refl)
    (λ len t. omega (arith, len, more))
    (λ v rest w t. let e = t.4 in cc)

-- no number of an entry stands behind `relevant D`
pub entry_fault : (ws : List (List ℕ)) (d : ℕ) → IsDimension d → HasFront ws (codes "relevant" ∷ decimal d ∷ []) → ((k : ℕ) → k ≤ most_entry → HasWord ws 2 (decimal k) → ⊥) → FaultAt ws 2
entry_fault ws d r has none =
    later_fault ws kind.Relevant d [] (decimal 0 ∷ []) (λ e. cc) r has (0, omega arith, refl)
    (λ len t. let e = t.2 in absurd (cc))
    (λ v rest w t. let e = t.2 in none t.0 t.1 (w.0, w.1 ∙ cc))

-- a word more than `relevant D K`
pub word_behind_entry : (ws : List (List ℕ)) (d k : ℕ) → IsDimension d → k ≤ most_entry → HasFront ws (codes "relevant" ∷ decimal d ∷ decimal k ∷ []) → 3 < length ws → FaultAt ws 3
word_behind_entry ws d k r few has more =
    later_fault ws kind.Relevant d (decimal k ∷ []) [] (λ e. cc) r has (k, few, refl)
    (λ len t. omega (arith, len, more))
    (λ v rest w t. let e = t.2 in cc)

-- the words begin with the number of an entry, too
pub with_entry : (ws : List (List ℕ)) (d k : ℕ) → HasFront ws (codes "relevant" ∷ decimal d ∷ []) → HasWord ws 2 (decimal k) → HasFront ws (codes "relevant" ∷ decimal d ∷ decimal k ∷ [])
with_entry ws d k has w = longer ws (codes "relevant" ∷ decimal d ∷ []) (decimal k) has w.0 w.1

-- ---- the first word

-- no word
pub no_word : (ws : List (List ℕ)) → length ws ≡ 0 → FaultAt ws 0
no_word ws len = fault_at_end ws [] (ws, refl) len (begins [] _ (accepts kind.Principal (decimal 2 ∷ []) (2, [], (omega arith, omega arith), refl, refl))) (λ a. let f = (first_word a.0 [] a.2).1 in cc)

-- another first word
pub other_kind : (ws : List (List ℕ)) → 0 < length ws → ((k : Kind) → get_or ws 0 [] ≡ kind_word k → ⊥) → FaultAt ws 0
other_kind ws some other =
    fault_at_word ws [] (ws, refl) some (begins [] _ (accepts kind.Principal (decimal 2 ∷ []) (2, [], (omega arith, omega arith), refl, refl)))
    (λ rest a. let f = (first_word a.0 (get_or ws 0 [] ∷ rest) a.2).1 in other (kind_of a.0) (cc))

-- ---- answers

-- what is said of an error at the exit of a `?`
pub answer_at_exit : {X : Type 0} (r : Result X WordsError) (e : WordsError) (Says : WordsError → Type 0) → IsErrAnd r (λ y. y ≡ e) → Says e → IfErr r Says
answer_at_exit {X} r e Says at is =
    let p = err_from_is_err_and r at in
    subst (λ x. IfErr x Says) (sym p.1) (subst Says (sym p.2) is)

-- the fault that is answered at the exit of a `?`, as a caller's
pub fault_above : {X : Type 0} (r : Result X WordsError) (e : WordsError) (ws : List (List ℕ)) → IsErrAnd r (λ y. y ≡ e) → FaultAt ws (place_of e) → IfErr r (λ y. FaultAt ws (place_of y))
fault_above {X} r e ws at fault = answer_at_exit r e (λ y. FaultAt ws (place_of y)) at fault

-- the fault that is answered at the exit of a `?`
pub fault_at_exit : {X : Type 0} (r : Result X WordsError) (e : WordsError) (ws : List (List ℕ)) (place : ℕ) → IsErrAnd r (λ y. y ≡ e) → e ≡ Fault place → FaultAt ws place → IfErr r (λ y. FaultAt ws (place_of y))
fault_at_exit {X} r e ws place at is fault = fault_above r e ws at (subst (λ y. FaultAt ws (place_of y)) (sym is) fault)

-- the same for commands of some kinds
pub cut_at_exit : {X : Type 0} {Is : Kind → Type 0} (r : Result X WordsError) (e : WordsError) (ws : List (List ℕ)) → IsErrAnd r (λ y. y ≡ e) → ((k : Kind) → Is k → HasFront ws (kind_word k ∷ []) → FaultAt ws (place_of e)) → IfErr r (λ y. (k : Kind) → Is k → HasFront ws (kind_word k ∷ []) → FaultAt ws (place_of y))
cut_at_exit {X} {Is} r e ws at fault = answer_at_exit r e (λ y. (k : Kind) → Is k → HasFront ws (kind_word k ∷ []) → FaultAt ws (place_of y)) at fault

pub place_at_exit : {X : Type 0} {Is : Kind → Type 0} (r : Result X WordsError) (e : WordsError) (ws : List (List ℕ)) (place : ℕ) → IsErrAnd r (λ y. y ≡ e) → e ≡ Fault place → ((k : Kind) → Is k → HasFront ws (kind_word k ∷ []) → FaultAt ws place) → IfErr r (λ y. (k : Kind) → Is k → HasFront ws (kind_word k ∷ []) → FaultAt ws (place_of y))
place_at_exit {X} {Is} r e ws place at is fault =
    cut_at_exit {X = X} {Is = Is} r e ws at (subst (λ (y : WordsError). (k : Kind) → Is k → HasFront ws (kind_word k ∷ []) → FaultAt ws (place_of y)) (sym is) fault)

-- the word at a place, as the program reads it
pub word_here : (words : List (Bor (List ℕ))) (place : ℕ) (default : Bor (List ℕ)) → place < length words → (get_or words place default).now ≡ get_or (texts words) place []
word_here words place default lt = sym (get_or-map (λ w. w.now) words place default [] lt)

-- the first word of a command
pub first_is : (words : List (Bor (List ℕ))) (default : Bor (List ℕ)) (w : List ℕ) → 0 < length words → (get_or words 0 default).now ≡ w → HasFront (texts words) (w ∷ [])
first_is [] default w some is = absurd (omega (arith, some))
first_is (v ∷ words) default w some is = (texts words, ap (λ u. u ∷ texts words) is)

-- whether `--resume` stands behind the dimension, the words end behind it
pub summary_spelt : (ws : List (List ℕ)) (d : ℕ) (resume : Bool) (place : ℕ) → HasFront ws (codes "summary" ∷ decimal d ∷ []) → (resume ≡ true → HasWord ws 2 (codes "--resume")) → (resume ≡ true → place ≡ 3) → (resume ≡ false → place ≡ 2) → length ws ≤ place → ws ≡ codes "summary" ∷ decimal d ∷ cond resume (codes "--resume" ∷ []) []
summary_spelt ws d true place has is three two few =
    let w = is refl in
    front_alone ws (codes "summary" ∷ decimal d ∷ codes "--resume" ∷ []) (longer ws (codes "summary" ∷ decimal d ∷ []) (codes "--resume") has w.0 w.1) (omega (arith, few, three refl, w.0))
summary_spelt ws d false place has is three two few =
    front_alone ws (codes "summary" ∷ decimal d ∷ []) has (omega (arith, few, two refl, ap length has.1, length-append (codes "summary" ∷ decimal d ∷ []) has.0))

-- and else the fault is the word there
pub summary_fault : (ws : List (List ℕ)) (d : ℕ) (resume : Bool) (place : ℕ) → IsDimension d → HasFront ws (codes "summary" ∷ decimal d ∷ []) → (resume ≡ true → HasWord ws 2 (codes "--resume")) → (HasWord ws 2 (codes "--resume") → resume ≡ true) → (resume ≡ true → place ≡ 3) → (resume ≡ false → place ≡ 2) → place < length ws → FaultAt ws place
summary_fault ws d true place r has is only three two more =
    let w = is refl in
    let at = three refl in
    subst (FaultAt ws) (sym at) (fourth_word ws d r (longer ws (codes "summary" ∷ decimal d ∷ []) (codes "--resume") has w.0 w.1) (omega (arith, at, more)))
summary_fault ws d false place r has is only three two more =
    let at = two refl in
    subst (FaultAt ws) (sym at) (third_word ws kind.Summary d (λ e. cc) r has (inl refl) (λ v rest w t. elim t [ inl e ↦ cc | inr e ↦ let no = only (w.0, w.1 ∙ cc) in cc ]) (omega (arith, at, more)))
