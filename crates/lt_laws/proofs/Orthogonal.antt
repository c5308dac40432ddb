-- Fewer rows than they have numbers are orthogonal to some list that is not 0.
use Rattle.std.proofs.Common.{◌≡◌, ◌≢◌, ℕ, zero, suc, ℤ, pos, ◌<◌, refl, ap, ap₂, arith, sym, ◌∙◌, List, [], ◌∷◌, length, map, get_or}
use Rattle.std.specs.List.{Contains}
use Rattle.lt_model.proofs.Walk.{length-map, number_at-map}
use Rattle.lt_model.proofs.Opposite.{unit-dot}
use Rattle.lt_model.proofs.Dependent.{dependent, IsDependency}
use Rattle.lt_model.specs.Vectors.{dot, unit}
use Rattle.lt_model.specs.Simplices.{AllOfDimension}
use Rattle.lt_model.specs.Facets.{number_at}
use Rattle.lt_geometry.proofs.Parity.{index_of}

abbrev columns : ℕ → ℕ → List (List ℤ) → List (List ℤ)
columns j zero rows = []
columns j (suc n) rows = map (number_at j) rows ∷ columns (suc j) n rows

abbrev slice : ℕ → ℕ → List ℤ → List ℤ
slice j zero r = []
slice j (suc n) r = number_at j r ∷ slice (suc j) n r

length-columns : (j n : ℕ) (rows : List (List ℤ)) → length (columns j n rows) ≡ n
length-columns j zero rows = refl
length-columns j (suc n) rows = ap suc (length-columns (suc j) n rows)

all_columns : (j n : ℕ) (rows : List (List ℤ)) → AllOfDimension (length rows) (columns j n rows)
all_columns j zero rows = tt
all_columns j (suc n) rows = (length-map (number_at j) rows, all_columns (suc j) n rows)

slice-tail : (j n : ℕ) (x : ℤ) (r : List ℤ) → slice (suc j) n (x ∷ r) ≡ slice j n r
slice-tail j zero x r = refl
slice-tail j (suc n) x r = ap (λ (l : List ℤ). number_at j r ∷ l) (slice-tail (suc j) n x r)

slice-whole : (n : ℕ) (r : List ℤ) → length r ≡ n → slice 0 n r ≡ r
slice-whole zero [] l = refl
slice-whole zero (x ∷ r) l = absurd (omega arith)
slice-whole (suc n) [] l = absurd (omega arith)
slice-whole (suc n) (x ∷ r) l = ap (λ (y : List ℤ). x ∷ y) (slice-tail 0 n x r ∙ slice-whole n r (omega arith))

at_row : (rows : List (List ℤ)) (i : ℕ) → i < length rows → (j n : ℕ) → map (dot (unit (length rows) i)) (columns j n rows) ≡ slice j n (get_or rows i [])
at_row rows i h j zero = refl
at_row rows i h j (suc n) =
    ap₂ (λ (x : ℤ) (l : List ℤ). x ∷ l)
    (unit-dot (length rows) i (map (number_at j) rows) (length-map (number_at j) rows) ∙ number_at-map (number_at j) i rows [] h)
    (at_row rows i h (suc j) n)

pub record IsOrthogonal (n : ℕ) (rows : List (List ℤ)) (b : List ℤ) : Type 0 where
  pub count : length b ≡ n
  pub place : ℕ
  pub some : number_at place b ≢ pos 0
  pub each : (r : List ℤ) → Contains rows r → dot b r ≡ pos 0

pub orthogonal : (n : ℕ) (rows : List (List ℤ)) → ((r : List ℤ) → Contains rows r → length r ≡ n) → length rows < n → (b : List ℤ) × IsOrthogonal n rows b
orthogonal n rows all short =
    let f = dependent (length rows) (columns 0 n rows) (all_columns 0 n rows) (omega (arith, short, length-columns 0 n rows)) in (
      f.0,
      record { count = f.1.one_each ∙ length-columns 0 n rows; place = f.1.place; some = f.1.some; each = λ r c. each f.0 f.1 r c (index_of rows r c) },
    )
  where
    each : (b : List ℤ) → IsDependency (columns 0 n rows) b → (r : List ℤ) → Contains rows r → (i : ℕ) × (i < length rows) × (get_or rows i [] ≡ r) → dot b r ≡ pos 0
    each b h r c (i, l, e) = ap (dot b) (sym (at_row rows i l 0 n ∙ ap (slice 0 n) e ∙ slice-whole n r (all r c))) ∙ h.zero_there (unit (length rows) i)
