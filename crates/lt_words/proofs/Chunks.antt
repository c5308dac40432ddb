-- A list of numbers cut into pieces of one length.
use Rattle.std.proofs.Common.{◌≡◌, ◌<◌, ℕ, zero, suc, ℤ, pos, ◌*◌, ◌≤◌, List, [], ◌∷◌, ◌++◌, length, get_or, take, drop, refl, sym, ap, ◌∙◌, subst, arith, length-append}
use Rattle.std.proofs.lemmas.List.{take-append-drop, length-drop, length-take-le, take_at, drop_at}
use Rattle.std.proofs.lemmas.List.Elements.{All-append, All-cons, All-nil, All-take, All-drop}
use Rattle.std.specs.List.{All, flat_map}
use Rattle.lt_model.specs.Vectors.{zeros}
use Rattle.lt_model.specs.Forms.{numbers_of_form}
use Rattle.lt_lattice.specs.Ranges.{IsWithin}
use Rattle.lt_words.specs.Grammar.{IsDimension, AreGiven, most_in_section}

pub zeros_within : {most : ℕ} (n : ℕ) → All (IsWithin most) (zeros n)
zeros_within {most} zero = All-nil {X = ℤ} (IsWithin most)
zeros_within {most} (suc n) = All-cons {X = ℤ} (IsWithin most) (pos 0) (zeros n) (omega arith) (zeros_within {most = most} n)

-- a form has 21 numbers at most
pub few_numbers : (d : ℕ) → IsDimension d → numbers_of_form d ≤ 21
few_numbers zero r = omega arith
few_numbers (suc zero) r = omega arith
few_numbers (suc (suc zero)) r = omega arith
few_numbers (suc (suc (suc zero))) r = omega arith
few_numbers (suc (suc (suc (suc zero)))) r = omega arith
few_numbers (suc (suc (suc (suc (suc zero))))) r = omega arith
few_numbers (suc (suc (suc (suc (suc (suc zero)))))) r = omega arith
few_numbers (suc (suc (suc (suc (suc (suc (suc d))))))) r = absurd (omega (arith, r.1))

-- the first m pieces of n numbers
pub chunks : ℕ → ℕ → List ℤ → List (List ℤ)
chunks n zero zs = []
chunks n (suc m) zs = take n zs ∷ chunks n m (drop n zs)

pub length_of_chunks : (n m : ℕ) (zs : List ℤ) → length (chunks n m zs) ≡ m
unfolding chunks
length_of_chunks n zero zs = refl
length_of_chunks n (suc m) zs = ap suc (length_of_chunks n m (drop n zs))

rest_long : (n m : ℕ) (zs : List ℤ) → length zs ≡ suc m * n → length (drop n zs) ≡ m * n
rest_long n m zs e = omega (arith, e, length-drop n zs)

pub chunks_joined : (n m : ℕ) (zs : List ℤ) → length zs ≡ m * n → flat_map (λ q. q) (chunks n m zs) ≡ zs
unfolding chunks
chunks_joined n zero [] e = refl
chunks_joined n zero (z ∷ zs) e = absurd (omega (arith, e))
chunks_joined n (suc m) zs e = ap (λ (l : List ℤ). take n zs ++ l) (chunks_joined n m (drop n zs) (rest_long n m zs e)) ∙ take-append-drop n zs

pub chunks_long : (n m : ℕ) (zs : List ℤ) → length zs ≡ m * n → All (λ q. length q ≡ n) (chunks n m zs)
unfolding chunks
chunks_long n zero zs e = All-nil {X = List ℤ} (λ q. length q ≡ n)
chunks_long n (suc m) zs e = All-cons {X = List ℤ} (λ q. length q ≡ n) (take n zs) (chunks n m (drop n zs)) (length-take-le n zs (omega (arith, e))) (chunks_long n m (drop n zs) (rest_long n m zs e))

pub chunks_within : (n m : ℕ) (zs : List ℤ) (most : ℕ) → length zs ≡ m * n → All (IsWithin most) zs → All (All (IsWithin most)) (chunks n m zs)
unfolding chunks
chunks_within n zero zs most e small = All-nil {X = List ℤ} (All (IsWithin most))
chunks_within n (suc m) zs most e small =
    All-cons {X = List ℤ} (All (IsWithin most)) (take n zs) (chunks n m (drop n zs)) (All-take {X = ℤ} (IsWithin most) n zs small) (chunks_within n m (drop n zs) most (rest_long n m zs e) (All-drop {X = ℤ} (IsWithin most) n zs small))

pub length-chunks : (n : ℕ) (fs : List (List ℤ)) → All (λ q. length q ≡ n) fs → length (flat_map (λ q. q) fs) ≡ length fs * n
length-chunks n [] all = omega arith
length-chunks n (f ∷ fs) all =
    let first : length f ≡ n = all 0 [] (omega arith) in
    let rest = length-chunks n fs (λ k d lt. all (suc k) d (omega (arith, lt))) in
    omega (arith, first, rest, length-append f (flat_map (λ (q : List ℤ). q) fs))

pub all_in_chunks : (most : ℕ) (fs : List (List ℤ)) → All (All (IsWithin most)) fs → All (IsWithin most) (flat_map (λ q. q) fs)
all_in_chunks most [] all = All-nil {X = ℤ} (IsWithin most)
all_in_chunks most (f ∷ fs) all = All-append {X = ℤ} (IsWithin most) f (flat_map (λ (q : List ℤ). q) fs) (all 0 [] (omega arith)) (all_in_chunks most fs (λ k d lt. all (suc k) d (omega (arith, lt))))

-- what is joined at one place is the same on both sides of it
pub joined_parts : (f g xs ys : List ℤ) → length f ≡ length g → f ++ xs ≡ g ++ ys → (f ≡ g) × (xs ≡ ys)
joined_parts f g xs ys n e = (
  sym (take_at f xs (length g) n) ∙ ap (take (length g)) e ∙ take_at g ys (length g) refl,
  sym (drop_at f xs (length g) n) ∙ ap (drop (length g)) e ∙ drop_at g ys (length g) refl,
)

-- so many forms with as many numbers are those of a section
pub given_forms : (n : ℕ) (fs : List (List ℤ)) → 0 < length fs → length fs ≤ n → All (λ q. length q ≡ n) fs → All (All (IsWithin most_in_section)) fs → AreGiven fs
given_forms n fs some few numbers within =
    let first : length (get_or fs 0 []) ≡ n = numbers 0 [] some in
    record { some = some; few = subst (λ k. length fs ≤ k) (sym first) few; same = λ k d lt. numbers k d lt ∙ sym first; within = within }
