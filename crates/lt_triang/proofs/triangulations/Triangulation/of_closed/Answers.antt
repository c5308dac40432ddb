use Rattle.std.proofs.Common.{arith, ◌≡◌, ◌-◌, suc, ℕ, ℤ, List, Err, length, get_or, [], ap, ◌∙◌, subst}
use Rattle.std.proofs.lemmas.List.Elements.{Contains-get_or}
use Rattle.lt_model.specs.Simplices.{IsClass}
use Rattle.lt_triang.specs.Across.{IsFirstOpen}
use Rattle.lt_triang.specs.Kept.{IsTriangulation}
use Rattle.lt_triang.specs.Walled.{AreRows}
use Rattle.lt_triang.proofs.Expressed.{dimension_is}
use Rattle.lt_triang.proofs.Made.{classes_of, not_open}
use Rattle.lt_triang.proofs.triangulations.Triangulation.of_closed.Goals as goal

less_one : (d n : ℕ) → n ≡ suc d → n - 1 ≡ d
less_one d n e = omega arith

-- the triangulation in the dimension that is read from its first class
here : (d : ℕ) (t : List (List (List ℤ))) → IsClass d (get_or t 0 []) → (e : ℕ) × IsTriangulation e t → IsTriangulation d t
here d t k (e, h) = subst (λ (n : ℕ). IsTriangulation n t) (dimension_is e t h ∙ less_one d (length (get_or t 0 [])) k.simplex.count) h

none_open : (d : ℕ) (t : List (List (List ℤ))) (n i : ℕ) → IsTriangulation d t → IsFirstOpen d t n i → ⊥
none_open d t n i h f = not_open d t (get_or t n []) i h (Contains-get_or t n [] f.member) f.facet.place (λ m j g l. f.facet.none m j g l)

pub rows_of-requires : goal.rows_of-requires
rows_of-requires c =
    let t = c.args.classes.items in
    let k : IsClass c.dimension_of-d.result (get_or t 0 []) = rw c.as_slice.ensures.value at c.dimension_of-d.ensures in
    rw c.as_slice-2.ensures.value (classes_of c.dimension_of-d.result t (here c.dimension_of-d.result t k c.requires))

pub unreachable-requires : goal.unreachable-requires
unreachable-requires c =
    let t = c.args.classes.items in
    let k : IsClass c.dimension_of-d.result (get_or t 0 []) = rw c.as_slice.ensures.value at c.dimension_of-d.ensures in
    let f : IsFirstOpen c.dimension_of-d.result t c.in-Err-OpenFacet.field-0-0 c.in-Err-OpenFacet.field-0-1 =
    rw c.as_slice-2.ensures.value at c.rows_of.ensures.«open» c.in-Err-OpenFacet.field-0-0 c.in-Err-OpenFacet.field-0-1 (c.in-Err-OpenFacet.is ∙ ap Err c.in-Err-OpenFacet.field-0-is) in
    none_open c.dimension_of-d.result t c.in-Err-OpenFacet.field-0-0 c.in-Err-OpenFacet.field-0-1 (here c.dimension_of-d.result t k c.requires) f

pub invariant_of-result : goal.invariant_of-result
invariant_of-result c =
    let t = c.args.classes.items in
    let d = c.dimension_of-d.result in
    let k : IsClass d (get_or t 0 []) = rw c.as_slice.ensures.value at c.dimension_of-d.ensures in
    let r : AreRows d t (length t) c.in-Ok.rows.items = rw c.as_slice-2.ensures.value at c.in-Ok.ensures.rows in
    (d, here d t k c.requires, r)
