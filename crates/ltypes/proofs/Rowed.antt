-- The numbers of facets and of dead ones, row by row.
use Rattle.std.proofs.Common.{◌≡◌, ℕ, zero, suc, ◌+◌, ◌<◌, List, [], ◌∷◌, length, get_or, take, subst, arith}
use Rattle.lt_section.specs.declared.answers.SectionRow.{SectionRow}
use Rattle.ltypes.specs.Sections.{one_if_facet, one_if_dead, facets, dead}

facets_next : (rows : List SectionRow) (i : ℕ) (d : SectionRow) → i < length rows → facets (take (suc i) rows) ≡ facets (take i rows) + one_if_facet (get_or rows i d).verdict
facets_next [] i d lt = absurd (omega (arith, lt))
facets_next (r ∷ rows) zero d lt = omega arith
facets_next (r ∷ rows) (suc i) d lt = let rest = facets_next rows i d (omega (arith, lt)) in omega (arith, rest)

pub facets_more : (rows : List SectionRow) (i : ℕ) (d : SectionRow) → i < length rows → facets (take (i + 1) rows) ≡ facets (take i rows) + one_if_facet (get_or rows i d).verdict
facets_more rows i d lt =
    let next : suc i ≡ i + 1 = omega arith in
    subst (λ n. facets (take n rows) ≡ facets (take i rows) + one_if_facet (get_or rows i d).verdict) next (facets_next rows i d lt)

dead_next : (rows : List SectionRow) (i : ℕ) (d : SectionRow) → i < length rows → dead (take (suc i) rows) ≡ dead (take i rows) + one_if_dead (get_or rows i d).verdict
dead_next [] i d lt = absurd (omega (arith, lt))
dead_next (r ∷ rows) zero d lt = omega arith
dead_next (r ∷ rows) (suc i) d lt = let rest = dead_next rows i d (omega (arith, lt)) in omega (arith, rest)

pub dead_more : (rows : List SectionRow) (i : ℕ) (d : SectionRow) → i < length rows → dead (take (i + 1) rows) ≡ dead (take i rows) + one_if_dead (get_or rows i d).verdict
dead_more rows i d lt =
    let next : suc i ≡ i + 1 = omega arith in
    subst (λ n. dead (take n rows) ≡ dead (take i rows) + one_if_dead (get_or rows i d).verdict) next (dead_next rows i d lt)
