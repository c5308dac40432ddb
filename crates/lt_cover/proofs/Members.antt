-- A member of a Delaunay triangulation at its place: its dimension and its measures.
use Rattle.std.proofs.Common.{◌≡◌, ℕ, ℤ, ◌-◌, ◌*◌, ◌^◌, ◌<◌, ◌≤◌, arith, sym, subst, List, [], length, get_or}
use Rattle.std.specs.List.{All, Contains}
use Rattle.std.proofs.lemmas.List.Elements.{Contains-get_or}
use Rattle.lt_model.specs.Simplices.{IsClass}
use Rattle.lt_model.specs.Limits.{span_limit}
use Rattle.lt_model.specs.Triangulations.{IsDelaunay}
use Rattle.lt_lattice.specs.Ranges.{IsWithin}
use Rattle.lt_num.specs.Fractions.{Ratio}
use Rattle.lt_triang.specs.Bounds.{AreNear}
use Rattle.lt_cover.specs.Covers.{IsRadius, AreShort}
use Rattle.lt_cover.specs.Gram.{IsMeasured}
use Rattle.lt_cover.proofs.Measures.{measured}

module _ (d : ℕ) (q : List ℤ) (t : List (List (List ℤ))) (k : ℕ) (s : List (List ℤ)) (del : IsDelaunay d q t) (l : k < length t) (here : s ≡ get_or t k []) where
  member : Contains t s
  member = subst (λ (u : List (List ℤ)). Contains t u) (sym here) (Contains-get_or t k [] l)

  is_class : IsClass d s
  is_class = ((del.members s).0 member).0

  own_dimension : d ≡ length s - 1
  own_dimension = let c = is_class.simplex.count in omega (arith, c)

  same_dimension : (e : ℕ) → IsClass e s → e ≡ d
  same_dimension e c = let a = is_class.simplex.count in let b = c.simplex.count in omega (arith, a, b)

  pub member_measured : (e : ℕ) → IsClass e s → AreNear (2 * span_limit e) s → 2 ≤ e → e ≤ 6 → AreShort d q t → All (IsWithin (2 ^ 40)) q → IsMeasured (length s - 1) q s
  member_measured e c near low high short within =
      let same = same_dimension e c in
      let near' : AreNear (2 * span_limit d) s = subst (λ (n : ℕ). AreNear (2 * span_limit n) s) same near in
      subst (λ (n : ℕ). IsMeasured n q s) own_dimension (measured d q t s (omega (arith, same, low)) (omega (arith, same, high)) del short within member near')

  pub member_radius : (r : Ratio) → IsRadius (length s - 1) q s r → IsRadius d q (get_or t k []) r
  member_radius r h = subst (λ (u : List (List ℤ)). IsRadius d q u r) here (subst (λ (n : ℕ). IsRadius n q s r) (sym own_dimension) h)
