-- An entry has at most 2^29 rows, and no more facets: it is the Delaunay triangulation of some form, whose regulators are few.
use Rattle.std.proofs.Common.{ℕ, ◌^◌, ◌<◌, ◌≤◌, arith, List, [], length, get_or}
use Rattle.std.proofs.lemmas.List.{length-map}
use Rattle.lt_model.specs.Cones.{Row, Cone, IsRightCone, normals}
use Rattle.lt_model.specs.Walls.{IsAcross}
use Rattle.lt_model.specs.Atlases.{Classes, Mark, Entry, Atlas, entry_at}
use Rattle.lt_model.specs.RightAtlases.{AreRight}
use Rattle.lt_model.specs.Logs.{IsCandidate}
use Rattle.lt_model.proofs.Atlases.{facets_most}
use Rattle.lt_geometry.proofs.Fewness.{few_regulators}
use Rattle.lt_core.proofs.Crossings.{HasForm, across_form, across_laws}
use Rattle.lt_core.proofs.Reaching.{entry_form}

pub few_rows : (d : ℕ) (t : Classes) (c : Cone) → 2 ≤ d → d ≤ 6 → HasForm d t → IsRightCone d t c → length c.rows ≤ 2 ^ 29
few_rows d t c low high form h =
    let k = few_regulators d form.0 t (normals c.rows) low high form.1 h.regulators in
    let l = length-map c.rows (λ (r : Row). r.normal) in
    omega (arith, k, l)

-- the marks of an entry
pub few_marks : (d : ℕ) (es : List Entry) (ms : List (List Mark)) → 2 ≤ d → d ≤ 6 → AreRight (IsAcross d) d es ms → (k : ℕ) → k < length ms → length (get_or ms k []) < 2 ^ 32
few_marks d es ms low high h k l =
    let lists = h.lists in
    let here : k < length es = omega (arith, l, lists) in
    let form = entry_form (IsAcross d) d (across_laws d low) es ms h k here in
    let most = facets_most (entry_at es k).cone.rows in
    let few = few_rows d (entry_at es k).triangulation (entry_at es k).cone low high form (h.entries k here).cone in
    let each = h.each k here in
    omega (arith, most, few, each)

-- the rows of an entry that is to be appended
pub few_new_rows : (a : Atlas) (p n : ℕ) (e : Entry) → 2 ≤ a.dimension → a.dimension ≤ 6 → IsCandidate (IsAcross a.dimension) a p n e → length e.cone.rows ≤ 2 ^ 29
few_new_rows a p n e low high c = few_rows a.dimension e.triangulation e.cone low high (across_form a.dimension _ e.triangulation _ c.is_across) c.right.cone
