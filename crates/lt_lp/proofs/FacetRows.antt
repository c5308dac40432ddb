-- The rows with a wall form, counted row by row.
use Rattle.std.proofs.Common.{◌≡◌, ℕ, ℤ, zero, suc, ◌+◌, ◌<◌, refl, ap, arith, sym, ◌∙◌, subst, List, [], ◌∷◌, ◌++◌, length, take, get_or, Bool, true, false}
use Rattle.std.specs.Prelude.{cond}
use Rattle.std.proofs.lemmas.List.{take_more}
use Rattle.lt_model.specs.Cones.{Verdict, wall, combination, Row}
use Rattle.lt_model.specs.Atlases.{facets_of, facet_if}
use Rattle.lt_lp.specs.Facets.{has_wall, wall_rows}

abbrev pub one_if : Bool → ℕ
one_if true = 1
one_if false = 0

-- the number of rows with a wall form among the first
abbrev pub walls : ℕ → List Row → ℕ
walls k rows = length (facets_of (take k rows))

long_more : (v : Verdict) (n : List ℤ) (ns : List (List ℤ)) → length (facet_if v n ns) ≡ one_if (has_wall v) + length ns
long_more (wall w) n ns = omega arith
long_more (combination f ts) n ns = omega arith

facets_of-more : (rows : List Row) (r : Row) → length (facets_of (rows ++ r ∷ [])) ≡ length (facets_of rows) + one_if (has_wall r.verdict)
facets_of-more [] r = let e = long_more r.verdict r.normal [] in omega arith
facets_of-more (x ∷ rows) r =
    let a = long_more x.verdict x.normal (facets_of (rows ++ r ∷ [])) in
    let b = long_more x.verdict x.normal (facets_of rows) in
    let e = facets_of-more rows r in
    omega arith

pub walls_more : (rows : List Row) (k : ℕ) (r : Row) → k < length rows → r ≡ get_or rows k r → walls (k + 1) rows ≡ walls k rows + one_if (has_wall r.verdict)
walls_more rows k r h e =
    ap (λ (l : List Row). length (facets_of l)) (take_more rows k r h ∙ ap (λ (x : Row). take k rows ++ x ∷ []) (sym e)) ∙ facets_of-more (take k rows) r

-- the row at place k is the one after the walls before it
pub record IsFacetRow (rows : List Row) (r : Row) (i : ℕ) : Type 0 where
  pub row : r ≡ get_or (wall_rows rows) i r
  pub normal : r.normal ≡ get_or (facets_of rows) i []

place_in : (v : Verdict) (x : Row) (rows : List Row) (r : Row) (i : ℕ) → IsFacetRow rows r i →
    (r ≡ get_or (cond (has_wall v) (x ∷ wall_rows rows) (wall_rows rows)) (one_if (has_wall v) + i) r) × (r.normal ≡ get_or (facet_if v x.normal (facets_of rows)) (one_if (has_wall v) + i) [])
place_in (wall w) x rows r i h =
    let e : 1 + i ≡ suc i = omega arith in
    rw e (h.row, h.normal)
place_in (combination f ts) x rows r i h =
    let e : 0 + i ≡ i = omega arith in
    rw e (h.row, h.normal)

first_in : (v : Verdict) (x : Row) (rows : List Row) → has_wall v ≡ true → (x ≡ get_or (cond (has_wall v) (x ∷ wall_rows rows) (wall_rows rows)) 0 x) × (x.normal ≡ get_or (facet_if v x.normal (facets_of rows)) 0 [])
first_in (wall w) x rows e = (refl, refl)
first_in (combination f ts) x rows e = absurd (cc)

pub facet_row : (rows : List Row) (k : ℕ) (r : Row) → k < length rows → r ≡ get_or rows k r → has_wall r.verdict ≡ true → IsFacetRow rows r (walls k rows)
facet_row [] k r h e w = absurd (omega arith)
facet_row (x ∷ rows) zero r h e w =
    let f = first_in r.verdict r rows w in
    let g : IsFacetRow (r ∷ rows) r 0 = record { row = f.0; normal = f.1 } in
    subst (λ (y : Row). IsFacetRow (y ∷ rows) r 0) e g
facet_row (x ∷ rows) (suc k) r h e w =
    let f = place_in x.verdict x rows r (walls k rows) (facet_row rows k r (omega arith) e w) in
    let l = long_more x.verdict x.normal (facets_of (take k rows)) in
    let is : one_if (has_wall x.verdict) + walls k rows ≡ walls (suc k) (x ∷ rows) = sym l in
    subst (λ (i : ℕ). IsFacetRow (x ∷ rows) r i) is (record { row = f.0; normal = f.1 })
