-- Scrambled triangulations: images under products of three drawn factors.
use Rattle.std.specs.Prelude.{ℕ, zero, suc, ℤ, pos, negsuc, ◌+◌, ◌-◌, ◌*◌, ◌<◌, ◌≤◌, ◌≡◌, cond, nat_lt, nat_eq, List, slice_set}
use Rattle.std.specs.List.Sorted.{IsStrictlySortedBy}
use Rattle.lt_model.specs.Flat.{rows}
use Rattle.lt_model.specs.Limits.{span, span_limit}
use Rattle.lt_model.specs.Matrices.{times, identity, IsInverse, Carries}
use Rattle.lt_model.specs.Order.{simplex_cmp}
use Rattle.lt_model.specs.Vectors.{unit}
use Rattle.lt_triang.specs.Kept.{IsTriangulation, dimension_of}
use Rattle.lt_drill.specs.States.{after, drawn}

-- the identity with the number z in row i and column j
abbrev pub factor : ℕ → ℕ → ℕ → ℤ → List (List ℤ)
factor d i j z = slice_set (identity d) i (slice_set (unit d i) j z)

-- the row of the factor of a turn, before which the generator's number was x
abbrev pub turn_row : ℕ → ℕ → ℕ
turn_row d x = drawn 1 x d

-- its column: another place than the row
abbrev pub turn_column : ℕ → ℕ → ℕ
turn_column d x = cond (nat_lt (drawn 2 x (d - 1)) (turn_row d x)) (drawn 2 x (d - 1)) (drawn 2 x (d - 1) + 1)

-- its number: 1 or -1
abbrev pub turn_number : ℕ → ℤ
turn_number x = cond (nat_eq (drawn 3 x 2) 0) (pos 1) (negsuc 0)

-- the factor
abbrev pub turn_factor : ℕ → ℕ → List (List ℤ)
turn_factor d x = factor d (turn_row d x) (turn_column d x) (turn_number x)

-- the ascending list of the classes of the images
pub record IsImage (d : ℕ) (u : List (List ℤ)) (t r : List (List (List ℤ))) : Type 0 where
  pub carries : Carries d u t r
  pub ascending : IsStrictlySortedBy simplex_cmp r

-- A turn makes v of u: the product of the factor and u, unless the image under the product has a span above the limit;
-- then it leaves u.
pub record IsTurn (d : ℕ) (t : List (List (List ℤ))) (x : ℕ) (u v : List (List ℤ)) : Type 0 where
  pub image : List (List (List ℤ))
  pub is_image : IsImage d (times (turn_factor d x) u) t image
  pub taken : span image ≤ span_limit d → v ≡ times (turn_factor d x) u
  pub left : span_limit d < span image → v ≡ u

-- so many turns, each with three draws, make v of the identity
abbrev pub AreTurns : ℕ → ℕ → List (List (List ℤ)) → ℕ → List (List ℤ) → Type 0
AreTurns zero d t x v = v ≡ identity d
AreTurns (suc n) d t x v = (u : List (List ℤ)) × AreTurns n d t x u × IsTurn d t (after (3 * n) x) u v

-- three turns make u, and r is the image of t under u
pub record IsScramble (d : ℕ) (t : List (List (List ℤ))) (x : ℕ) (u : List (List ℤ)) (r : List (List (List ℤ)))
    : Type 0 where
  pub turns : AreTurns 3 d t x u
  pub is_image : IsImage d u t r

-- the same, with the numbers of u row by row
abbrev pub IsScrambleOf : List (List (List ℤ)) → ℕ → List ℤ → List (List (List ℤ)) → Type 0
IsScrambleOf t x u r = IsScramble (dimension_of t) t x (rows (dimension_of t) u) r

-- ---- images within the limit of spans

-- the image is a triangulation, so its span is within the limit
pub record IsNarrowImage (d : ℕ) (u : List (List ℤ)) (t r : List (List (List ℤ))) : Type 0 where
  pub carries : Carries d u t r
  pub triangulation : IsTriangulation d r

-- the image has a span above the limit
pub record HasWideImage (d : ℕ) (u : List (List ℤ)) (t : List (List (List ℤ))) : Type 0 where
  pub list : List (List (List ℤ))
  pub is_image : IsImage d u t list
  pub wide : span_limit d < span list

-- both, with the numbers of u row by row
abbrev pub IsNarrowImageOf : List (List (List ℤ)) → List ℤ → List (List (List ℤ)) → Type 0
IsNarrowImageOf t u r = IsNarrowImage (dimension_of t) (rows (dimension_of t) u) t r

abbrev pub HasWideImageOf : List (List (List ℤ)) → List ℤ → Type 0
HasWideImageOf t u = HasWideImage (dimension_of t) (rows (dimension_of t) u) t

-- the matrix has a whole inverse
abbrev pub HasInverse : ℕ → List (List ℤ) → Type 0
HasInverse d u = (v : List (List ℤ)) × IsInverse d u v
