-- Pieces of a list that are written one after another by way of a block.
use Rattle.std.proofs.Common.{◌≡◌, ℕ, suc, ◌+◌, ◌<◌, List, [], ◌∷◌, ◌++◌, take, drop, length, get_or, map, refl, sym, ap, subst, ◌∙◌, append_assoc, Option}
use Rattle.std.specs.List.{flat_map}
use Rattle.std.proofs.lemmas.List.{append-nil, take_more}
use Rattle.std.proofs.lemmas.List.Concat.{flat_map-append}
use Rattle.lt_io.specs.Bytes.{AppendsFront}
use Rattle.lt_lines.proofs.Parts.{pieces_at}
use Rattle.lt_text.specs.Gathered.{Gains}
use Rattle.lt_text.proofs.Composed.{gained_then, gained_then_front, front_of_all}

-- whole pieces before place i, and a front of the piece there, are a front of all pieces
pub front_in_pieces : {X : Type 0} (piece : X → List ℕ) (a b c : Option (List ℕ)) (p q : List ℕ) (xs : List X) (i : ℕ) (x d : X) → i < length xs → x ≡ get_or xs i d → Gains a b p q (flat_map piece (take i xs)) → AppendsFront b c (q ++ piece x) → AppendsFront a c (p ++ flat_map piece xs)
front_in_pieces piece a b c p q xs i x d lt is m n =
    let before = flat_map piece (take i xs) in
    let after = flat_map piece (drop (suc i) xs) in
    subst (λ l. AppendsFront a c (p ++ l)) (append_assoc before (piece x) after ∙ ap (λ y. before ++ (piece y ++ after)) is ∙ pieces_at piece xs i d lt)
    (front_of_all a c p (before ++ piece x) after (gained_then_front a b c p q before (piece x) m n))

-- whole pieces before place i, and the whole piece there
pub one_piece_more : {X : Type 0} (piece : X → List ℕ) (a b c : Option (List ℕ)) (p q r : List ℕ) (xs : List X) (i : ℕ) (x d : X) → i < length xs → x ≡ get_or xs i d → Gains a b p q (flat_map piece (take i xs)) → Gains b c q r (piece x) → Gains a c p r (flat_map piece (take (i + 1) xs))
one_piece_more piece a b c p q r xs i x d lt is m n =
    let before = flat_map piece (take i xs) in
    subst (λ l. Gains a c p r l)
    (ap (λ l. before ++ l) (sym (append-nil (piece x))) ∙ sym (flat_map-append piece (take i xs) (x ∷ [])) ∙ ap (λ y. flat_map piece (take i xs ++ y ∷ [])) is ∙ ap (λ l. flat_map piece l) (sym (take_more xs i d lt)))
    (gained_then a b c p q r before (piece x) m n)

pub flat_map-map : {X Y : Type 0} (piece : Y → List ℕ) (f : X → Y) (xs : List X) → flat_map piece (map f xs) ≡ flat_map (λ x. piece (f x)) xs
flat_map-map piece f [] = refl
flat_map-map piece f (x ∷ xs) = ap (λ l. piece (f x) ++ l) (flat_map-map piece f xs)
