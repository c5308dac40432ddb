-- The differences of points from the first, written number by number.
use Rattle.std.proofs.Common.{◌≡◌, ℕ, zero, suc, ℤ, negsuc, ◌+◌, ◌-◌, ◌*◌, ◌<◌, ◌≤◌, refl, ap, arith, sym, ◌∙◌, List, [], ◌∷◌, ◌++◌, length, drop, mul-le-mul}
use Rattle.std.proofs.lemmas.List.{length-append, length-drop}
use Rattle.lt_model.specs.Vectors.{scale, zeros}
use Rattle.lt_model.specs.Simplices.{AllOfDimension, translate, IsClass}
use Rattle.lt_model.specs.Flat.{flat, rows}
use Rattle.lt_model.proofs.Flat.{length-flat, rows-flat}
use Rattle.lt_model.proofs.Squares.{length-scale}
use Rattle.lt_model.proofs.Excess.{length-translate}
use Rattle.lt_model.proofs.Moved.{translate_all}
use Rattle.lt_model.specs.Matrices.{IsSquare}
use Rattle.std.specs.List.{All, AllByRecursion}
use Rattle.std.proofs.lemmas.List.Elements.{All-nil, All-append}
use Rattle.lt_triang.specs.Flat.{columns_of}
use Rattle.lt_triang.proofs.Gaps.{minus-zeros}

pub drop_dimension : (d i : ℕ) (ps : List (List ℤ)) → AllOfDimension d ps → AllOfDimension d (drop i ps)
drop_dimension d zero ps all = all
drop_dimension d (suc i) [] all = tt
drop_dimension d (suc i) (p ∷ ps) all = drop_dimension d i ps all.1

-- how many numbers are still to be written
pub length-rest : (d i : ℕ) (ps : List (List ℤ)) (q : List ℤ) → AllOfDimension d ps → length q ≡ d → length (flat (translate q (drop i ps))) ≡ (length ps - i) * d
length-rest d i ps q all l =
    length-flat d (translate q (drop i ps)) (translate_all d q (drop i ps) l (drop_dimension d i ps all))
    ∙ ap (λ n. n * d) (length-translate q (drop i ps) ∙ length-drop i ps)

-- all numbers are written: as many columns as numbers in each
pub length-columns : (d : ℕ) (ps : List (List ℤ)) → length ps ≡ suc d → AllOfDimension d ps → length (flat (columns_of ps)) ≡ d * d
length-columns d [] l all = absurd (omega arith)
length-columns d (p ∷ ps) l all =
    let rest = length-rest d 1 (p ∷ ps) (scale (negsuc 0) p) all (length-scale (negsuc 0) p ∙ all.0) in
    rest ∙ ap (λ n. n * d) (let e : suc (length ps) - 1 ≡ d = omega (arith, l) in e)

-- there is room for one point more
pub room : (d i n k : ℕ) (ps : List (List ℤ)) (q all : List ℤ) → length ps ≡ suc d → d ≤ 6 → AllOfDimension d ps → length q ≡ d → k ≡ d → i < length ps → all ++ flat (translate q (drop i ps)) ≡ flat (columns_of ps) → n ≡ length all → n + k ≤ 36
room d i n k ps q all l few dims lq lk p e en =
    let whole : length all + length (flat (translate q (drop i ps))) ≡ d * d = sym (length-append all (flat (translate q (drop i ps)))) ∙ ap length e ∙ length-columns d ps l dims in
    let rest : length (flat (translate q (drop i ps))) ≡ (length ps - i) * d = length-rest d i ps q dims lq in
    let some : 1 * d ≤ (length ps - i) * d = mul-le-mul (omega (arith, p)) (least d) in
    let square : d * d ≤ 36 = mul-le-mul few few in
    omega (arith, whole, rest, some, square, en, lk)
  where
    least : (d : ℕ) → d ≤ d
    least d = omega arith

-- what holds of the numbers of each row holds of all
pub All-flat : (P : ℤ → Type 0) (u : List (List ℤ)) → AllByRecursion (All P) u → All P (flat u)
All-flat P [] h = All-nil P
All-flat P (r ∷ u) h = All-append P r (flat u) h.0 (All-flat P u h.1)

pub rows-columns : (d : ℕ) (ps : List (List ℤ)) → length ps ≡ suc d → AllOfDimension d ps → rows d (flat (columns_of ps)) ≡ columns_of ps
rows-columns d [] l all = absurd (omega arith)
rows-columns d (p ∷ ps) l all =
    let q : List ℤ = scale (negsuc 0) p in
    let square : IsSquare d (translate q ps) = record { rows = length-translate q ps ∙ (omega (arith, l)); columns = translate_all d q ps (length-scale (negsuc 0) p ∙ all.0) all.1 } in
    rows-flat d (translate q ps) square

-- the first vertex of a class is 0
pub columns-class : (d : ℕ) (s : List (List ℤ)) → IsClass d s → columns_of s ≡ drop 1 s
columns-class d [] k = refl
columns-class d (v ∷ vs) k = ap (λ p. translate (scale (negsuc 0) p) vs) k.first ∙ kept vs k.simplex.points.1
  where
    kept : (vs : List (List ℤ)) → AllOfDimension d vs → translate (scale (negsuc 0) (zeros d)) vs ≡ vs
    kept [] all = refl
    kept (v ∷ vs) all = rw (minus-zeros d v all.0, kept vs all.1) refl
