-- Two right cones of a triangulation have the same facets.
use Rattle.std.proofs.Common.{◌≡◌, ℕ, suc, ℤ, ◌<◌, refl, ap, arith, sym, ◌∙◌, subst, List, [], ◌∷◌, length, get_or, Bool, true, false}
use Rattle.std.proofs.lemmas.List.{length-map}
use Rattle.lt_model.specs.Order.{number_list_cmp}
use Rattle.lt_model.specs.Cones.{Verdict, wall, combination, Row, Cone, IsRightCone, normals}
use Rattle.lt_model.specs.Atlases.{facets_of, facet_if}
use Rattle.lt_model.proofs.Sets.{number_list_cmp_total}
use Rattle.lt_lp.specs.Facets.{has_wall}
use Rattle.lt_lp.proofs.ConeFacets.{one_place, IsWallRow, wall_row, row_of_wall, facets_exact, normals_at}
use Rattle.lt_regulator.proofs.Distinct.{one_list}

wall_of : (v : Verdict) → has_wall v ≡ true → (w : List ℤ) × (v ≡ wall w)
wall_of (wall w) e = (w, refl)
wall_of (combination factor terms) e = absurd (cc)

both : (a b : Bool) → (a ≡ true → b ≡ true) → (b ≡ true → a ≡ true) → a ≡ b
both true b there back = sym (there refl)
both false true there back = back refl
both false false there back = refl

one_step : (v w : Verdict) (n m : List ℤ) (ns ms : List (List ℤ)) → has_wall v ≡ has_wall w → n ≡ m → ns ≡ ms → facet_if v n ns ≡ facet_if w m ms
one_step (wall x) (wall y) n m ns ms h e f = cc
one_step (wall x) (combination factor terms) n m ns ms h e f = absurd (cc)
one_step (combination factor terms) (wall y) n m ns ms h e f = absurd (cc)
one_step (combination factor terms) (combination factor' terms') n m ns ms h e f = f

-- rows with the same normals and the same kinds of verdicts
by_rows : (rows es : List Row) → normals rows ≡ normals es → ((k : ℕ) (r : Row) → k < length rows → has_wall (get_or rows k r).verdict ≡ has_wall (get_or es k r).verdict) → facets_of rows ≡ facets_of es
by_rows [] [] e h = refl
by_rows [] (y ∷ es) e h = absurd (cc)
by_rows (x ∷ rows) [] e h = absurd (cc)
by_rows (x ∷ rows) (y ∷ es) e h =
    let n : x.normal ≡ y.normal = cc in
    let ns : normals rows ≡ normals es = cc in
    one_step x.verdict y.verdict x.normal y.normal (facets_of rows) (facets_of es) (h 0 x (omega arith)) n (by_rows rows es ns (λ k r l. h (suc k) r (omega arith)))

-- a wall in one cone is one in the other
carried : (d : ℕ) (t : List (List (List ℤ))) (c e : Cone) → IsRightCone d t c → IsRightCone d t e → normals c.rows ≡ normals e.rows → (i : ℕ) (r : Row) → i < length c.rows → has_wall (get_or c.rows i r).verdict ≡ true → has_wall (get_or e.rows i r).verdict ≡ true
carried d t c e h k ns i r lt is =
    let n : List ℤ = (get_or c.rows i r).normal in
    let w = wall_of (get_or c.rows i r).verdict is in
    let there = wall_row e.rows n ((facets_exact d t e k n).0 ((facets_exact d t c h n).1 (row_of_wall c.rows i r w.0 lt w.1))) in
    let j : ℕ = there.0 in
    let row : IsWallRow e.rows n j there.1 = there.2 in
    let long : length (normals e.rows) ≡ length e.rows = length-map e.rows (λ (x : Row). x.normal) in
    let count : length (normals c.rows) ≡ length c.rows = length-map c.rows (λ (x : Row). x.normal) in
    let same_count : length (normals c.rows) ≡ length (normals e.rows) = ap (length {A = List ℤ}) ns in
    let within : j < length e.rows = row.within in
    let here : get_or (normals e.rows) i [] ≡ n = ap (λ (l : List (List ℤ)). get_or l i []) (sym ns) ∙ normals_at c.rows i r lt in
    let at : get_or (normals e.rows) j [] ≡ n = normals_at e.rows j r within ∙ row.normal r in
    let same : j ≡ i = one_place number_list_cmp number_list_cmp_total (normals e.rows) j i [] k.regulators.ascending (omega (arith, within, long)) (omega (arith, lt, count, same_count)) (at ∙ sym here) in
    subst (λ (m : ℕ). has_wall (get_or e.rows m r).verdict ≡ true) same (ap has_wall (row.verdict r))

pub one_facets : (d : ℕ) (t : List (List (List ℤ))) (c e : Cone) → IsRightCone d t c → IsRightCone d t e → facets_of c.rows ≡ facets_of e.rows
one_facets d t c e h k =
    let ns : normals c.rows ≡ normals e.rows = one_list d t (normals c.rows) (normals e.rows) h.regulators k.regulators in
    let count : length c.rows ≡ length e.rows = sym (length-map c.rows (λ (x : Row). x.normal)) ∙ ap (length {A = List ℤ}) ns ∙ length-map e.rows (λ (x : Row). x.normal) in
    by_rows c.rows e.rows ns (λ i r lt. both (has_wall (get_or c.rows i r).verdict) (has_wall (get_or e.rows i r).verdict) (carried d t c e h k ns i r lt) (carried d t e c k h (sym ns) i r (omega (arith, lt, count))))
