-- Vectors: lists of whole numbers. Sums pad the shorter list with zeros, so that their laws need no lengths.
use Rattle.std.specs.Prelude.{ℕ, zero, suc, ℤ, pos, negsuc, ◌+ℤ◌, ◌*ℤ◌, List, [], ◌∷◌, length, ◌≡◌}

-- the sum of two vectors, place by place; the shorter one counts as if zeros followed it
abbrev pub plus : List ℤ → List ℤ → List ℤ
plus [] ys = ys
plus (x ∷ xs) [] = x ∷ xs
plus (x ∷ xs) (y ∷ ys) = (x +ℤ y) ∷ plus xs ys

-- c times a vector
abbrev pub scale : ℤ → List ℤ → List ℤ
scale c [] = []
scale c (x ∷ xs) = (c *ℤ x) ∷ scale c xs

-- the difference of two vectors
abbrev pub minus : List ℤ → List ℤ → List ℤ
minus xs ys = plus xs (scale (negsuc 0) ys)

-- the sum of the products of equal places: N(Q) for a normal N and a form Q
abbrev pub dot : List ℤ → List ℤ → ℤ
dot [] ys = pos 0
dot (x ∷ xs) [] = pos 0
dot (x ∷ xs) (y ∷ ys) = x *ℤ y +ℤ dot xs ys

-- the vector of n zeros
abbrev pub zeros : ℕ → List ℤ
zeros zero = []
zeros (suc n) = pos 0 ∷ zeros n

-- the vector of n ones
abbrev pub ones : ℕ → List ℤ
ones zero = []
ones (suc n) = pos 1 ∷ ones n

-- the vector of n numbers with 1 at place k and 0 elsewhere
abbrev pub unit : ℕ → ℕ → List ℤ
unit zero k = []
unit (suc n) zero = pos 1 ∷ zeros n
unit (suc n) (suc k) = pos 0 ∷ unit n k

-- the sum of a list of numbers
abbrev pub total : List ℤ → ℤ
total [] = pos 0
total (x ∷ xs) = x +ℤ total xs

-- the sum of the b_i v_i
abbrev pub combine : List ℤ → List (List ℤ) → List ℤ
combine [] vs = []
combine (b ∷ bs) [] = []
combine (b ∷ bs) (v ∷ vs) = plus (scale b v) (combine bs vs)

-- 1 alone divides all numbers of the list; so a list of zeros is not primitive
abbrev pub IsPrimitive : List ℤ → Type 0
IsPrimitive n = (g : ℕ) (m : List ℤ) → n ≡ scale (pos g) m → g ≡ 1

-- no numbers but zeros combine the d vectors of d numbers to 0
abbrev pub AreLinearlyIndependent : List (List ℤ) → Type 0
AreLinearlyIndependent vs =
    (b : List ℤ) → length b ≡ length vs → combine b vs ≡ zeros (length vs) → b ≡ zeros (length vs)
