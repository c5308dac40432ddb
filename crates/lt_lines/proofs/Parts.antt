-- Some pieces of a list were written whole, and of the next a front.
use Rattle.std.specs.Fmt.{signed_decimal}
use Rattle.lt_lines.specs.Lines.{line, numbers_line}
use Rattle.std.proofs.Common.{◌≡◌, ℕ, suc, ◌-◌, ◌<◌, ℤ, pos, List, [], ◌∷◌, ◌++◌, take, drop, length, get_or, arith, refl, sym, ap, subst, ◌∙◌, drop-cons, take-append-drop, Option}
use Rattle.std.specs.Io.KnownBytes.{Appends}
use Rattle.std.specs.List.{flat_map}
use Rattle.std.proofs.lemmas.List.{take_rest}
use Rattle.std.proofs.lemmas.List.Concat.{flat_map-append, flat_map-cons}
use Rattle.lt_io.specs.Bytes.{AppendsFront}
use Rattle.lt_io.proofs.Compose.{appended_then_front, front_of_more}

-- the pieces of the items before place i, the piece of that item, and the pieces of the items after it
pub pieces_at : {X : Type 0} (piece : X → List ℕ) (xs : List X) (i : ℕ) (d : X) → i < length xs → flat_map piece (take i xs) ++ (piece (get_or xs i d) ++ flat_map piece (drop (suc i) xs)) ≡ flat_map piece xs
pieces_at piece xs i d lt =
    ap (λ l. flat_map piece (take i xs) ++ l) (sym (flat_map-cons piece (get_or xs i d) (drop (suc i) xs)))
    ∙ sym (flat_map-append piece (take i xs) (get_or xs i d ∷ drop (suc i) xs))
    ∙ ap (λ l. flat_map piece (take i xs ++ l)) (sym (drop-cons xs i d lt))
    ∙ ap (λ l. flat_map piece l) (take-append-drop i xs)

-- whole pieces before place i, and a front of the piece there, are a front of all pieces
pub front_of_pieces : {X : Type 0} (piece : X → List ℕ) (a b c : Option (List ℕ)) (xs : List X) (i : ℕ) (d : X) → i < length xs → Appends a b (flat_map piece (take i xs)) → AppendsFront b c (piece (get_or xs i d)) → AppendsFront a c (flat_map piece xs)
front_of_pieces piece a b c xs i d lt p q =
    subst (λ l. AppendsFront a c l) (pieces_at piece xs i d lt) (appended_then_front a b c _ _ p (front_of_more b c (piece (get_or xs i d)) (flat_map piece (drop (suc i) xs)) q))

first_and_rest : (zs : List ℤ) → 0 < length zs → line (signed_decimal (get_or zs 0 (pos 0))) (drop 1 zs) ≡ numbers_line zs
first_and_rest [] lt = absurd (omega (arith, lt))
first_and_rest (z ∷ zs) lt = refl

-- a line of numbers is a line of its first number and the others
pub first_of_line : (zs : List ℤ) → 0 < length zs → line (signed_decimal (get_or zs 0 (pos 0))) (take (length zs - 1) (drop 1 zs)) ≡ numbers_line zs
first_of_line zs lt = ap (λ l. line (signed_decimal (get_or zs 0 (pos 0))) l) (take_rest zs 1) ∙ first_and_rest zs lt
