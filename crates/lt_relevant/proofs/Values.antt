-- The edges with the least value of all edges are the shortest vectors.
use Rattle.std.proofs.Common.{◌≡◌, ◌≢◌, ℕ, ℤ, negsuc, ◌≤ℤ◌, ◌<◌, arith, sym, ◌∙◌, ap, subst, List, [], length, get_or, filter, ◌⊎◌, inl, inr}
use Rattle.std.proofs.lemmas.Int.{ints}
use Rattle.std.specs.List.{Contains}
use Rattle.std.specs.Ordering.{int_eq}
use Rattle.std.proofs.lemmas.Bool.Decides.{Decides-int_eq}
use Rattle.std.proofs.lemmas.List.{get_or_default}
use Rattle.std.proofs.lemmas.List.Elements.{Contains-get_or}
use Rattle.std.proofs.lemmas.List.Kept.{IsStrictlySortedBy-filter}
use Rattle.lt_model.specs.Order.{number_list_cmp}
use Rattle.lt_model.specs.Vectors.{scale, zeros}
use Rattle.lt_model.specs.Forms.{value}
use Rattle.lt_model.specs.Triangulations.{IsDelaunay}
use Rattle.lt_geometry.proofs.Parity.{value-zeros, value-negative}
use Rattle.lt_laws.specs.Edges.{IsEdge}
use Rattle.lt_laws.proofs.EdgeCount.{edge_not_zero, least_edges_are_shortest}
use Rattle.lt_laws.proofs.Shortest.{edge_place, shortest_are_edges}
use Rattle.lt_locate.specs.Edges.{AreEdges}
use Rattle.lt_relevant.specs.Shortest.{IsShortest, IsLeastOf}
use Rattle.lt_model.proofs.Filtered.{passing_in, from_filter, passes}

-- the points of the list with the value l
abbrev pub those_at : List ℤ → ℤ → List (List ℤ) → List (List ℤ)
those_at q l es = filter (λ x. int_eq (value q x) l) es

module _ (d : ℕ) (q : List ℤ) (t : List (List (List ℤ))) (es : List (List ℤ)) (l : ℤ) (del : IsDelaunay d q t) (h : AreEdges d t es) where
  pub edge_of : (x : List ℤ) → Contains (those_at q l es) x → IsEdge d t x
  edge_of x c = (h.members x).0 (from_filter (λ y. int_eq (value q y) l) es x c)

  value_of : (x : List ℤ) → Contains (those_at q l es) x → value q x ≡ l
  value_of x c = (Decides-int_eq (value q x) l).0 (passes (λ y. int_eq (value q y) l) es x c)

  listed : (x : List ℤ) → IsEdge d t x → value q x ≡ l → Contains (those_at q l es) x
  listed x e v = passing_in (λ y. int_eq (value q y) l) es x ((h.members x).1 e) ((Decides-int_eq (value q x) l).1 v)

  below_edges : ((k : ℕ) → k < length es → l ≤ℤ value q (get_or es k [])) → (x : List ℤ) → IsEdge d t x → l ≤ℤ value q x
  below_edges b x e = go ((h.members x).1 e)
    where
      go : Contains es x → l ≤ℤ value q x
      go (k, i, s) = subst (λ (z : List ℤ). l ≤ℤ value q z) (get_or_default es k [] x i ∙ s) (b k i)

  module _ (least : IsLeastOf q es (length es) l) where
    -- the edge with the least value
    abbrev u : List ℤ
    u = get_or es least.place []

    edge_u : IsEdge d t u
    edge_u = (h.members u).0 (Contains-get_or es least.place [] least.within)

    none_below : (x : List ℤ) → length x ≡ d → x ≢ zeros d → l ≤ℤ value q x
    none_below x lx n =
        subst (λ (v : ℤ). v ≤ℤ value q x) (sym least.is)
        (least_edges_are_shortest d q t u del (λ y e. subst (λ (v : ℤ). v ≤ℤ value q y) least.is (below_edges least.below y e)) x lx n)

    not_zero : (x : List ℤ) → value q x ≡ l → x ≢ zeros d
    not_zero x v z =
        let g = del.positive.positive u (edge_place d q t u del edge_u).dimension (edge_not_zero d t u edge_u) in
        let i = least.is in
        let w = ap (value q) z in
        omega (arith, ints, v, g, i, w, value-zeros d q)

    all : (x : List ℤ) → length x ≡ d → value q x ≡ l → Contains (those_at q l es) x ⊎ Contains (those_at q l es) (scale (negsuc 0) x)
    all x lx v =
        elim (shortest_are_edges d q t x del lx (not_zero x v) (λ z lz n. subst (λ (w : ℤ). w ≤ℤ value q z) (sym v) (none_below z lz n))) [
          | inl e ↦ inl (listed x e v)
          | inr e ↦ inr (listed (scale (negsuc 0) x) e (value-negative q x ∙ v))
        ]

    occupied : Contains (those_at q l es) u → 0 < length (those_at q l es)
    occupied (k, i, s) = omega arith

    pub edges_are_shortest : IsShortest d q l (those_at q l es)
    edges_are_shortest = record {
      occupied = occupied (listed u edge_u (sym least.is));
      ascending = IsStrictlySortedBy-filter number_list_cmp (λ x. int_eq (value q x) l) es h.ascending;
      dimension = λ x c. (edge_place d q t x del (edge_of x c)).dimension;
      positive = λ x c. (edge_of x c).positive;
      value_is = value_of;
      none_below = none_below;
      all = all;
    }
