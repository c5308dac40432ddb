-- The edges of a triangulation are the relevant vectors of each of its forms.
use Rattle.std.proofs.Common.{ℕ, ℤ, negsuc, arith, subst, List, ◌⊎◌, inl, inr}
use Rattle.std.proofs.lemmas.Int.{ints}
use Rattle.std.specs.List.{Contains}
use Rattle.lt_model.proofs.Opposite.{length-zeros}
use Rattle.lt_model.specs.Vectors.{scale, zeros}
use Rattle.lt_model.specs.Triangulations.{IsDelaunay}
use Rattle.lt_geometry.proofs.Parity.{value-zeros}
use Rattle.lt_laws.specs.Edges.{IsEdge, AreOfOneParity, IsOnlyShortest}
use Rattle.lt_laws.proofs.EdgeCount.{edge_not_zero}
use Rattle.lt_laws.proofs.Shortest.{HasPlace, edge_place, edge_shortest, place_least, parity_back, parities_have_one_edge}
use Rattle.lt_locate.specs.Edges.{AreEdges}
use Rattle.lt_relevant.specs.Relevant.{IsOdd, HasOne, AreRelevant}

module _ (d : ℕ) (q : List ℤ) (t : List (List (List ℤ))) (vs : List (List ℤ)) (del : IsDelaunay d q t) (h : AreEdges d t vs) where
  not_even : (x : List ℤ) → IsEdge d t x → HasPlace d q x → AreOfOneParity d (zeros d) x → ⊥
  not_even x e p k =
      let l = place_least d q x (zeros d) p (parity_back d (zeros d) x (length-zeros d) k) in
      let g = del.positive.positive x p.dimension (edge_not_zero d t x e) in
      omega (arith, ints, l, g, value-zeros d q)

  odd : (x : List ℤ) → Contains vs x → IsOdd d x
  odd x c =
      let e = (h.members x).0 c in
      let p = edge_place d q t x del e in
      record { dimension = p.dimension; odd = not_even x e p }

  one : (y : List ℤ) → IsOdd d y → HasOne d vs y
  one y o =
      let e = parities_have_one_edge d q t y del o.dimension o.odd in
      record { vector = e.edge; listed = (h.members e.edge).1 e.is_edge; parity = e.parity; only = λ x c k. e.only x ((h.members x).0 c) k }

  all : (x : List ℤ) → IsOdd d x → IsOnlyShortest d q x → Contains vs x ⊎ Contains vs (scale (negsuc 0) x)
  all x o s =
      let e = parities_have_one_edge d q t x del o.dimension o.odd in
      let p = edge_place d q t e.edge del e.is_edge in
      let l = place_least d q e.edge x p e.parity in
      let c = (h.members e.edge).1 e.is_edge in
      elim (s e.edge p.dimension (parity_back d e.edge x p.dimension e.parity)) [
        | inl k ↦ absurd (omega (arith, ints, k, l))
        | inr (inl k) ↦ inl (subst (λ (z : List ℤ). Contains vs z) k c)
        | inr (inr k) ↦ inr (subst (λ (z : List ℤ). Contains vs z) k c)
      ]

  pub edges_are_relevant : AreRelevant d q vs
  edges_are_relevant = record { odd = odd; one = one; shortest = λ x c. edge_shortest d q x (edge_place d q t x del ((h.members x).0 c)); all = all }
