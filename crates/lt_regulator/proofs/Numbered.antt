-- The numbers of an excess at pairs of coordinates, and the signs of its multiples.
use Rattle.std.proofs.Common.{◌≡◌, ℕ, zero, suc, ℤ, pos, negsuc, ◌*ℤ◌, ◌-ℤ◌, ◌+ℤ◌, ◌<◌, ◌≤◌, ◌+◌, refl, ap, ap₂, arith, sym, ◌∙◌, List, [], ◌∷◌, ◌++◌, length, map, drop, get_or, drop-cons, add-one}
use Rattle.std.proofs.lemmas.Int.{ints}
use Rattle.std.proofs.lemmas.List.{drop_all, length-drop}
use Rattle.lt_model.specs.Vectors.{dot, scale, combine, zeros}
use Rattle.lt_model.specs.Forms.{squares, numbers_of_form}
use Rattle.lt_model.specs.Facets.{number_at}
use Rattle.lt_model.specs.Simplices.{AllOfDimension}
use Rattle.lt_model.specs.Walls.{excess_normal}
use Rattle.lt_model.proofs.Flat.{number_at-combine}
use Rattle.lt_model.proofs.Opposite.{length-zeros}
use Rattle.lt_model.proofs.Walk.{number_at-scale, number_at-plus}
use Rattle.lt_lattice.proofs.Products.{length-squares}
use Rattle.lt_regulator.specs.Signed.{product_at, excess_at}

-- what is summed once the first vertices are taken off
abbrev pub IsLeft : ℕ → ℕ → List (List ℤ) → List ℤ → ℤ → List ℤ → ℕ → ℤ → Type 0
IsLeft i j s w c b m sum = sum -ℤ dot (drop m b) (map (product_at i j) (drop m s)) ≡ excess_at i j s w c b

-- place k is where row i of the products begins
abbrev pub IsRowAt : ℕ → ℕ → ℕ → Type 0
IsRowAt d i k = (x : List ℤ) → length x ≡ d → drop k (squares x) ≡ squares (drop i x)

-- place k is that of the coordinates i and j
abbrev pub IsPlaceAt : ℕ → ℕ → ℕ → ℕ → Type 0
IsPlaceAt d i j k = (x : List ℤ) → length x ≡ d → drop k (squares x) ≡ scale (number_at i x) (drop j x) ++ squares (drop (i + 1) x)

-- one vertex more
pub left_more : (i j m : ℕ) (s : List (List ℤ)) (w : List ℤ) (c : ℤ) (b : List ℤ) (sum term : ℤ) → IsLeft i j s w c b m sum → m < length s → length b ≡ length s →
    term ≡ get_or b m (pos 0) *ℤ product_at i j (get_or s m []) → IsLeft i j s w c b (m + 1) (sum -ℤ term)
left_more i j m s w c b sum term h p l e =
    let tail : ℤ = dot (drop (m + 1) b) (map (product_at i j) (drop (m + 1) s)) in
    let n : dot (drop m b) (map (product_at i j) (drop m s)) ≡ get_or b m (pos 0) *ℤ product_at i j (get_or s m []) +ℤ tail = next (omega (arith, l, p)) in
    moved sum term (get_or b m (pos 0) *ℤ product_at i j (get_or s m [])) tail e ∙ ap (λ z. sum -ℤ z) (sym n) ∙ h
  where
    next : m < length b → dot (drop m b) (map (product_at i j) (drop m s)) ≡ get_or b m (pos 0) *ℤ product_at i j (get_or s m []) +ℤ dot (drop (m + 1) b) (map (product_at i j) (drop (m + 1) s))
    next q = rw (add-one m, drop-cons b m (pos 0), drop-cons s m []) refl

    moved : (x y z v : ℤ) → y ≡ z → x -ℤ y -ℤ v ≡ x -ℤ (z +ℤ v)
    moved x y z v e = omega (arith, ints, e)

-- ---- places

drop_next : (k : ℕ) (y : List ℤ) (a : ℤ) (r : List ℤ) → drop k y ≡ a ∷ r → drop (suc k) y ≡ r
drop_next zero [] a r h = absurd cc
drop_next zero (b ∷ y) a r h = ap tail h
  where
    tail : List ℤ → List ℤ
    tail [] = []
    tail (x ∷ xs) = xs
drop_next (suc k) [] a r h = absurd cc
drop_next (suc k) (b ∷ y) a r h = drop_next k y a r h

first_at : (k : ℕ) (y : List ℤ) (a : ℤ) (r : List ℤ) → drop k y ≡ a ∷ r → (k < length y) × (number_at k y ≡ a)
first_at zero [] a r h = absurd cc
first_at zero (b ∷ y) a r h = (omega arith, ap head h)
  where
    head : List ℤ → ℤ
    head [] = pos 0
    head (x ∷ xs) = x
first_at (suc k) [] a r h = absurd cc
first_at (suc k) (b ∷ y) a r h = let f = first_at k y a r h in (omega (arith, f.0), f.1)

row_at : (d i j k : ℕ) (x : List ℤ) → IsPlaceAt d i j k → length x ≡ d → j < d → drop k (squares x) ≡ product_at i j x ∷ (scale (number_at i x) (drop (j + 1) x) ++ squares (drop (i + 1) x))
row_at d i j k x h l p = h x l ∙ opened (omega (arith, l, p))
  where
    opened : j < length x → scale (number_at i x) (drop j x) ++ squares (drop (i + 1) x) ≡ product_at i j x ∷ (scale (number_at i x) (drop (j + 1) x) ++ squares (drop (i + 1) x))
    opened q = rw (add-one j, drop-cons x j (pos 0)) refl

-- the first pair of a row
pub row_start : (d i k : ℕ) → IsRowAt d i k → i < d → IsPlaceAt d i i k
row_start d i k h p x l = h x l ∙ opened (omega (arith, l, p))
  where
    opened : i < length x → squares (drop i x) ≡ scale (number_at i x) (drop i x) ++ squares (drop (i + 1) x)
    opened q = rw (add-one i, drop-cons x i (pos 0)) refl

-- behind the last pair of a row the next row begins
pub row_end : (d i j k : ℕ) → IsPlaceAt d i j k → d ≤ j → IsRowAt d (i + 1) k
row_end d i j k h p x l = h x l ∙ ap (λ (y : List ℤ). scale (number_at i x) y ++ squares (drop (i + 1) x)) (drop_all j x (omega (arith, l, p)))

-- behind the last row there are no more places
pub rows_below : (d i k : ℕ) → IsRowAt d i k → d ≤ i → numbers_of_form d ≤ k
rows_below d i k h p =
    let x : List ℤ = zeros d in
    let l : length x ≡ d = length-zeros d in
    let none : drop k (squares x) ≡ [] = h x l ∙ ap squares (drop_all i x (omega (arith, l, p))) in
    omega (arith, ap length none, length-drop k (squares x), length-squares x, ap numbers_of_form l)

-- the place of the next pair
pub place_more : (d i j k : ℕ) → IsPlaceAt d i j k → j < d → IsPlaceAt d i (j + 1) (k + 1)
place_more d i j k h p x l = rw (add-one k) (drop_next k (squares x) (product_at i j x) (scale (number_at i x) (drop (j + 1) x) ++ squares (drop (i + 1) x)) (row_at d i j k x h l p))

-- the number at the place
pub square_at : (d i j k : ℕ) → IsPlaceAt d i j k → j < d → (x : List ℤ) → length x ≡ d → number_at k (squares x) ≡ product_at i j x
square_at d i j k h p x l = (first_at k (squares x) (product_at i j x) (scale (number_at i x) (drop (j + 1) x) ++ squares (drop (i + 1) x)) (row_at d i j k x h l p)).1

-- it is one of the places of a form
pub place_below : (d i j k : ℕ) → IsPlaceAt d i j k → j < d → k < numbers_of_form d
place_below d i j k h p =
    let x : List ℤ = zeros d in
    let l : length x ≡ d = length-zeros d in
    let f = first_at k (squares x) (product_at i j x) (scale (number_at i x) (drop (j + 1) x) ++ squares (drop (i + 1) x)) (row_at d i j k x h l p) in
    omega (arith, f.0, length-squares x, ap numbers_of_form l)

-- ---- the numbers of an excess

each_square : (d i j k : ℕ) → IsPlaceAt d i j k → j < d → (s : List (List ℤ)) → AllOfDimension d s → map (number_at k) (map squares s) ≡ map (product_at i j) s
each_square d i j k h p [] dims = refl
each_square d i j k h p (v ∷ s) dims = ap₂ ◌∷◌ (square_at d i j k h p v dims.0) (each_square d i j k h p s dims.1)

pub number_of_excess : (d i j k : ℕ) → IsPlaceAt d i j k → j < d → (s : List (List ℤ)) (w : List ℤ) (c : ℤ) (b : List ℤ) → AllOfDimension d s → length w ≡ d → number_at k (excess_normal s w c b) ≡ excess_at i j s w c b
number_of_excess d i j k h p s w c b dims l =
    let a : number_at k (scale c (squares w)) ≡ c *ℤ product_at i j w = number_at-scale k c (squares w) ∙ ap (λ z. c *ℤ z) (square_at d i j k h p w l) in
    let e : number_at k (combine b (map squares s)) ≡ dot b (map (product_at i j) s) = number_at-combine k b (map squares s) ∙ ap (dot b) (each_square d i j k h p s dims) in
    number_at-plus k (scale c (squares w)) (scale (negsuc 0) (combine b (map squares s))) ∙ ap₂ ◌+ℤ◌ a (number_at-scale k (negsuc 0) (combine b (map squares s)) ∙ ap (λ z. negsuc 0 *ℤ z) e) ∙ less (c *ℤ product_at i j w) (dot b (map (product_at i j) s))
  where
    less : (x y : ℤ) → x +ℤ negsuc 0 *ℤ y ≡ x -ℤ y
    less x y = omega (arith, ints)

-- where one number is no positive multiple, the excess is none
pub no_multiple : (d i j k : ℕ) → IsPlaceAt d i j k → j < d → (s : List (List ℤ)) (w : List ℤ) (c : ℤ) (b n : List ℤ) → AllOfDimension d s → length w ≡ d →
    ((f : ℕ) → 0 < f → excess_at i j s w c b ≡ pos f *ℤ number_at k n → ⊥) → (f : ℕ) → 0 < f → excess_normal s w c b ≡ scale (pos f) n → ⊥
no_multiple d i j k h p s w c b n dims l none f some e =
    none f some (sym (number_of_excess d i j k h p s w c b dims l) ∙ ap (number_at k) e ∙ number_at-scale k (pos f) n)
