-- The points of the cells of the members, one after the other, are those of all cells.
use Rattle.std.proofs.Common.{◌≡◌, ℕ, suc, ℤ, ◌<◌, ◌-◌, ◌+◌, arith, ap₂, sym, ◌∙◌, subst, List, [], ◌∷◌, ◌++◌, length, map, take, get_or, inl, inr, ◌↔◌}
use Rattle.std.specs.List.{Contains, All}
use Rattle.std.specs.List.Sorted.{IsStrictlySortedBy}
use Rattle.std.proofs.lemmas.List.{get_or_default, map-append, take_more}
use Rattle.std.proofs.lemmas.List.Elements.{Contains-get_or, Contains-push, Contains-push_cases, Contains-append_left}
use Rattle.lt_model.proofs.Sets.{Contains-head, Contains-tail, Contains-cases, Contains-none}
use Rattle.lt_model.specs.Order.{simplex_cmp}
use Rattle.lt_model.specs.Simplices.{IsExpression}
use Rattle.lt_model.specs.Facets.{IsBeyond}
use Rattle.lt_model.specs.Walls.{IsPair}
use Rattle.lt_geometry.proofs.WalkEnds.{not_vertex}
use Rattle.lt_geometry.proofs.Regulators.{from_pair}
use Rattle.lt_geometry.proofs.ExchangeLaws.{any_pair, one_outer}
use Rattle.lt_flip.specs.Outers.{HasNoFacet, IsOuterOf}
use Rattle.lt_flip.specs.Cells.{Cell, IsMovedFrom, AreCellPoints, HasCellOf, AreCellPointsBelow, AreAllCellPoints, points_of, AreCells}
use Rattle.lt_triang.specs.Flat.{IsFlat}
use Rattle.lt_flip.proofs.Collected.{IsFlippable, next_too}
use Rattle.lt_flip.proofs.SortedPoints.{same_moved}

-- the outer vertex is no vertex of the member
pub outer_outside : (d : ℕ) (a : List ℤ) (t : List (List (List ℤ))) (s : List (List ℤ)) (n w : List ℤ) (c : ℤ) (b : List ℤ) → IsFlippable d a t n → Contains t s → IsOuterOf d t s n w c b → Contains s w → ⊥
outer_outside d a t s n w c b k ms o h =
    let x : IsBeyond s o.facet w = subst (IsBeyond s o.facet) (sym o.outer.vertex) o.outer.neighbour.beyond in
    not_vertex d s w x.coefficients x.scale o.facet ((k.delaunay.members s).0 ms).0.simplex o.dimension h x.expression x.negative

still_there : (d : ℕ) (t : List (List (List ℤ))) (n : List ℤ) (s : List (List ℤ)) (all more : List (List (List ℤ))) → ((r : List (List ℤ)) → Contains all r → Contains more r) → HasCellOf d t n s all → HasCellOf d t n s more
still_there d t n s all more f (inl h) = inl h
still_there d t n s all more f (inr (ps, c, g)) = inr (ps, f ps c, g)

pub no_cell_more : (d : ℕ) (t : List (List (List ℤ))) (n : List ℤ) (m : ℕ) (all : List (List (List ℤ))) → AreCellPointsBelow d t n m all → HasNoFacet d t (get_or t m []) n → AreCellPointsBelow d t n (suc m) all
no_cell_more d t n m all h none = record { only = h.only; each = next_too (λ i. HasCellOf d t n (get_or t i []) all) m h.each (inl none) }

pub cell_more : (d : ℕ) (a : List ℤ) (t : List (List (List ℤ))) (n : List ℤ) (m : ℕ) (all : List (List (List ℤ))) (w : List ℤ) (c : ℤ) (b : List ℤ) (s ps : List (List ℤ)) → IsFlippable d a t n → m < length t → AreCellPointsBelow d t n m all → IsOuterOf d t (get_or t m []) n w c b →
    s ≡ get_or t m [] → IsMovedFrom d (w ∷ s) ps → AreCellPointsBelow d t n (suc m) (all ++ ps ∷ [])
cell_more d a t n m all w c b s ps k hm h o is mv = record {
  only = λ r x. elim (Contains-push_cases all ps r x) [ inl y ↦ h.only r y | inr e ↦ subst (AreCellPoints d t n) e own ];
  each = next_too (λ i. HasCellOf d t n (get_or t i []) (all ++ ps ∷ [])) m (λ i l. still_there d t n (get_or t i []) all (all ++ ps ∷ []) (λ r x. Contains-append_left all (ps ∷ []) r x) (h.each i l))
      (inr (ps, Contains-push all ps, λ v e g pair. subst (λ (z : List ℤ). IsMovedFrom d (z ∷ get_or t m []) ps) (same v e g pair) moved));
}
  where
    r : List (List ℤ)
    r = get_or t m []

    mr : Contains t r
    mr = Contains-get_or t m [] hm

    moved : IsMovedFrom d (w ∷ r) ps
    moved = subst (λ (l : List (List ℤ)). IsMovedFrom d (w ∷ l) ps) is mv

    own : AreCellPoints d t n ps
    own = record {
      base = r;
      vertex = w;
      c = c;
      b = b;
      pair = subst (λ (z : List ℤ). IsPair d t n r z c b) (sym o.outer.vertex)
          (any_pair d a t r o.facet n o.outer.next o.outer.shift o.outer.outer c b k.delaunay mr o.place o.regulator o.outer.neighbour (subst (λ (z : List ℤ). IsExpression r z c b) o.outer.vertex o.expression));
      moved = moved;
    }

    same : (v : List ℤ) (e : ℤ) (g : List ℤ) → IsPair d t n r v e g → w ≡ v
    same v e g pair =
        o.outer.vertex ∙ one_outer d a n t r o.facet pair.facet o.outer.next pair.next o.outer.shift pair.shift o.outer.outer pair.outer k.two k.delaunay k.facet mr o.place pair.place o.regulator (from_pair d t n r v e g pair) o.outer.neighbour pair.neighbour
        ∙ sym pair.vertex

pub all_cells : (d : ℕ) (t : List (List (List ℤ))) (n : List ℤ) (all : List (List (List ℤ))) → AreCellPointsBelow d t n (length t) all → AreAllCellPoints d t n all
all_cells d t n all h ps = (h.only ps, to)
  where
    to : AreCellPoints d t n ps → Contains all ps
    to x =
        let (i, l, e) = x.pair.member in
        let at : HasCellOf d t n x.base all = subst (λ (z : List (List ℤ)). HasCellOf d t n z all) (get_or_default t i [] x.base l ∙ e) (h.each i l) in
        elim at [
          | inl none ↦ absurd (none x.pair.facet x.pair.place (from_pair d t n x.base x.vertex x.c x.b x.pair))
          | inr (qs, c, f) ↦ subst (Contains all) (same_moved d (x.vertex ∷ x.base) qs ps (f x.vertex x.c x.b x.pair) x.moved) c
        ]

-- all lists have d + 2 points
pub cell_count : (d : ℕ) (t : List (List (List ℤ))) (n : List ℤ) (ps : List (List ℤ)) → AreCellPoints d t n ps → length ps - 2 ≡ d
cell_count d t n ps h = omega (arith, h.moved.shape.count)

-- ---- with their dependencies

pub points_more : (cells : List Cell) (c : Cell) (all : List (List (List ℤ))) (i : ℕ) (s : List (List ℤ)) → i < length all → points_of cells ≡ take i all → c.points ≡ s → s ≡ get_or all i s → points_of (cells ++ c ∷ []) ≡ take (i + 1) all
points_more cells c all i s l h is e = map-append (λ k. k.points) cells (c ∷ []) ∙ ap₂ (λ (x : List (List (List ℤ))) (y : List (List ℤ)). x ++ y ∷ []) h (is ∙ e) ∙ sym (take_more all i s l)

pub cells_there : (d : ℕ) (t : List (List (List ℤ))) (n : List ℤ) (cells : List Cell) (all given : List (List (List ℤ))) → points_of cells ≡ all → IsStrictlySortedBy simplex_cmp all → ((ps : List (List ℤ)) → Contains all ps ↔ Contains given ps) → AreAllCellPoints d t n given → All (λ c. IsFlat (length c.points - 2) c.points c.terms) cells → AreCells d t n cells
cells_there d t n cells all given is up same h flat = record {
  ascending = subst (IsStrictlySortedBy simplex_cmp) (sym is) up;
  members = members;
  dependencies = λ k c l. at k c l (flat k c l);
}
  where
    members : AreAllCellPoints d t n (points_of cells)
    members ps = (λ c. (h ps).0 ((same ps).0 (subst (λ (r : List (List (List ℤ))). Contains r ps) is c)), λ x. subst (λ (r : List (List (List ℤ))). Contains r ps) (sym is) ((same ps).1 ((h ps).1 x)))

    at : (k : ℕ) (c : Cell) → k < length cells → IsFlat (length (get_or cells k c).points - 2) (get_or cells k c).points (get_or cells k c).terms → IsFlat d (get_or cells k c).points (get_or cells k c).terms
    at k c l f =
        let ps = (get_or cells k c).points in
        let m : Contains (points_of cells) ps = mapped (λ z. z.points) cells (get_or cells k c) (Contains-get_or cells k c l) in
        subst (λ (e : ℕ). IsFlat e ps (get_or cells k c).terms) (cell_count d t n ps ((members ps).0 m)) f
      where
        mapped : (g : Cell → List (List ℤ)) (xs : List Cell) (x : Cell) → Contains xs x → Contains (map g xs) (g x)
        mapped g [] x m = Contains-none x m
        mapped g (y ∷ xs) x m = elim (Contains-cases y xs x m) [ inl e ↦ subst (λ z. Contains (g y ∷ map g xs) (g z)) e (Contains-head (g y) (map g xs)) | inr r ↦ Contains-tail (g y) (map g xs) (g x) (mapped g xs x r) ]
