-- The dimension of a Delaunay triangulation is that of its first member.
use Rattle.std.proofs.Common.{◌≡◌, ℕ, ℤ, List, [], get_or, arith, subst}
use Rattle.std.proofs.lemmas.List.Elements.{Contains-get_or}
use Rattle.lt_model.specs.Simplices.{IsClass}
use Rattle.lt_model.specs.Triangulations.{IsDelaunay}
use Rattle.lt_triang.specs.Kept.{dimension_of, IsOfSomeForm}

pub delaunay_dimension : (d : ℕ) (q : List ℤ) (t : List (List (List ℤ))) → IsDelaunay d q t → d ≡ dimension_of t
delaunay_dimension d q t h =
    let k : IsClass d (get_or t 0 []) = ((h.members (get_or t 0 [])).0 (Contains-get_or t 0 [] h.occupied)).0 in
    omega (arith, k.simplex.count)

pub some_form : (d : ℕ) (q : List ℤ) (t : List (List (List ℤ))) → IsDelaunay d q t → IsOfSomeForm t
some_form d q t h = (q, subst (λ (e : ℕ). IsDelaunay e q t) (delaunay_dimension d q t h) h)
