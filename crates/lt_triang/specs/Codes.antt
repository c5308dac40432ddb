-- Numbers by which facets are found: the same for all translates of a facet.
use Rattle.std.specs.Prelude.{ℕ, ℤ, pos, ◌+ℤ◌, ◌-ℤ◌, ◌*ℤ◌, ◌%◌, ◌/◌, ◌*◌, ◌^◌, List, [], ◌∷◌, map, get_or, length, nat_abs}
use Rattle.lt_model.specs.Facets.{without}

-- the numbers as digits to the base 31, after the number h
abbrev pub coordinate_digits : ℤ → List ℤ → ℤ
coordinate_digits h [] = h
coordinate_digits h (x ∷ xs) = coordinate_digits (pos 31 *ℤ h +ℤ x) xs

abbrev pub point_code : List ℤ → ℤ
point_code v = coordinate_digits (pos 0) v

-- the numbers as digits to the base 7, after the number h
abbrev pub point_digits : ℤ → List ℤ → ℤ
point_digits h [] = h
point_digits h (x ∷ xs) = point_digits (pos 7 *ℤ h +ℤ x) xs

-- the code of points with these codes
abbrev pub digits_of : List ℤ → ℤ
digits_of xs = point_digits (pos 0) (map (λ x. x -ℤ get_or xs 0 (pos 0)) xs)

-- the codes of the points, less that of the first
abbrev pub code_differences : List (List ℤ) → List ℤ
code_differences vs = map (λ v. point_code v -ℤ point_code (get_or vs 0 [])) vs

abbrev pub facet_code : List (List ℤ) → ℤ
facet_code vs = point_digits (pos 0) (code_differences vs)

-- the code multiplied by an odd number, and of 64 bits of the product the upper half
abbrev pub spread : ℤ → ℕ
spread x = ((nat_abs x * 0x9E37_79B9_7F4A_7C15) % (2 ^ 64)) / (2 ^ 32)

-- the bucket, of so many, of facet j of the class at place n
abbrev pub bucket_of : List (List (List ℤ)) → ℕ → ℕ → ℕ
bucket_of t n j = spread (facet_code (without j (get_or t n []))) % (4 * length t)
