-- The edges of a triangulation: one for each parity, the only shortest of it.
use Rattle.std.proofs.Common.{◌≡◌, ◌≢◌, ℕ, zero, suc, ℤ, pos, negsuc, ◌+ℤ◌, ◌*ℤ◌, ◌≤ℤ◌, ◌<◌, refl, ap, arith, sym, ◌∙◌, subst, List, [], ◌∷◌, length, get_or, ◌⊎◌, inl, inr}
use Rattle.std.proofs.lemmas.Int.{ints, by_lt_z}
use Rattle.std.specs.List.{Contains}
use Rattle.std.specs.declared.cmp.Ordering.{Ordering}
use Rattle.std.specs.declared.cmp.Ordering.TheVariants.{Less, Equal, Greater}
use Rattle.std.specs.Ordering.{ordering_reverse}
use Rattle.lt_model.proofs.Ring.{ring, var, num, ◌⊕◌, ◌⊗◌}
use Rattle.lt_model.proofs.Vectors.{dot-plus, dot-scale}
use Rattle.lt_model.proofs.Squares.{length-scale, length-plus, squares-scale}
use Rattle.lt_model.proofs.Excess.{same_from_dots, length-translate}
use Rattle.lt_model.proofs.Opposite.{length-zeros}
use Rattle.lt_model.proofs.Moved.{simplex_moved, Contains-translate}
use Rattle.lt_geometry.proofs.LocalWalk.{empty_moved}
use Rattle.lt_model.proofs.Sets.{never_below_itself, number_list_cmp_total}
use Rattle.lt_model.specs.Order.{number_list_cmp}
use Rattle.lt_model.specs.Vectors.{plus, minus, scale, dot, zeros}
use Rattle.lt_model.specs.Forms.{squares, value}
use Rattle.lt_model.specs.Simplices.{IsClass, translate}
use Rattle.lt_model.specs.Triangulations.{IsDelaunay}
use Rattle.lt_model.proofs.Points.{minus_itself, opposite_twice}
use Rattle.lt_model.proofs.Translates.{from_translate}
use Rattle.lt_laws.specs.Edges.{IsEdge, AreOfOneParity, IsOnlyShortest, HasOneEdge}
use Rattle.lt_geometry.proofs.Closed.{get_dimension}
use Rattle.lt_geometry.proofs.Parity.{IsPlaced, nearest, stays, turns, index_of}
use Rattle.lt_geometry.proofs.EdgeLists.{not_both, exact_points}
use Rattle.lt_geometry.proofs.Fewness.{scale-zeros}
use Rattle.lt_geometry.proofs.LocalWalk.{zeros-plus}
use Rattle.lt_laws.proofs.Negated.{cmp-turned}
use Rattle.lt_laws.proofs.Halves.{has_halves, length-minus}

-- ---- an edge in a simplex that has 0 as a vertex

pub record HasPlace (d : ℕ) (q x : List ℤ) : Type 0 where
  pub simplex : List (List ℤ)
  pub placed : IsPlaced d q simplex
  pub vertex : Contains simplex x
  pub dimension : length x ≡ d

get_translate : (p : List ℤ) (vs : List (List ℤ)) (i : ℕ) → i < length vs → get_or (translate p vs) i [] ≡ plus (get_or vs i []) p
get_translate p [] i h = absurd (omega arith)
get_translate p (v ∷ vs) zero h = refl
get_translate p (v ∷ vs) (suc i) h = get_translate p vs i (omega arith)

member_dimension : (d : ℕ) (s : List (List ℤ)) (v : List ℤ) → IsClass d s → Contains s v → length v ≡ d
member_dimension d s v c m = let i = index_of s v m in ap length (sym i.2) ∙ get_dimension d s i.0 c.simplex.points i.1

pub edge_place : (d : ℕ) (q : List ℤ) (t : List (List (List ℤ))) (x : List ℤ) → IsDelaunay d q t → IsEdge d t x → HasPlace d q x
edge_place d q t x del e =
    let c = (del.members e.owner).0 e.member in
    let i = index_of e.owner e.from e.has_from in
    let lf : length e.from ≡ d = member_dimension d e.owner e.from c.0 e.has_from in
    let lt : length e.to ≡ d = member_dimension d e.owner e.to c.0 e.has_to in
    let p : List ℤ = scale (negsuc 0) e.from in
    let lp : length p ≡ d = length-scale (negsuc 0) e.from ∙ lf in
    record {
      simplex = translate p e.owner;
      placed = record {
        simplex = simplex_moved d e.owner p lp c.0.simplex;
        empty = empty_moved d q e.owner p c.0.simplex lp c.1;
        place = i.0;
        within = omega (arith, length-translate p e.owner, i.1);
        origin = get_translate p e.owner i.0 i.1 ∙ ap (λ (v : List ℤ). plus v p) i.2 ∙ minus_itself d e.from lf;
      };
      vertex = subst (λ (v : List ℤ). Contains (translate p e.owner) v) (sym e.difference) (Contains-translate e.owner p e.to e.has_to);
      dimension = ap length e.difference ∙ length-minus d e.to e.from lt lf;
    }

-- ---- the relation of parity

length-doubled : (d : ℕ) (x z : List ℤ) → length x ≡ d → length z ≡ d → length (plus x (scale (pos 2) z)) ≡ d
length-doubled d x z lx lz = length-plus x (scale (pos 2) z) (lx ∙ sym (length-scale (pos 2) z ∙ lz)) ∙ lx

-- where each linear function says it
pub parity_from : (d : ℕ) (x y z : List ℤ) → length x ≡ d → length y ≡ d → length z ≡ d → ((u : List ℤ) → dot u y ≡ dot u x +ℤ pos 2 *ℤ dot u z) → AreOfOneParity d x y
parity_from d x y z lx ly lz h = record {
  half = z;
  dimension = lz;
  is = same_from_dots y (plus x (scale (pos 2) z)) (ly ∙ sym (length-doubled d x z lx lz)) (λ u. h u ∙ sym (dot-plus u x (scale (pos 2) z) ∙ ap (λ n. dot u x +ℤ n) (dot-scale u (pos 2) z)));
}

pub at_parity : (d : ℕ) (x y : List ℤ) (h : AreOfOneParity d x y) (u : List ℤ) → dot u y ≡ dot u x +ℤ pos 2 *ℤ dot u h.half
at_parity d x y h u = ap (dot u) h.is ∙ dot-plus u x (scale (pos 2) h.half) ∙ ap (λ n. dot u x +ℤ n) (dot-scale u (pos 2) h.half)

pub parity_length : (d : ℕ) (x y : List ℤ) → length x ≡ d → AreOfOneParity d x y → length y ≡ d
parity_length d x y lx h = ap length h.is ∙ length-doubled d x h.half lx h.dimension

pub parity_back : (d : ℕ) (x y : List ℤ) → length x ≡ d → AreOfOneParity d x y → AreOfOneParity d y x
parity_back d x y lx h =
    parity_from d y x (scale (negsuc 0) h.half) (parity_length d x y lx h) lx (length-scale (negsuc 0) h.half ∙ h.dimension) (λ u. omega (arith, ints, at_parity d x y h u, dot-scale u (negsuc 0) h.half))

pub parity_on : (d : ℕ) (x y w : List ℤ) → length x ≡ d → AreOfOneParity d x y → AreOfOneParity d y w → AreOfOneParity d x w
parity_on d x y w lx h k =
    parity_from d x w (plus h.half k.half) lx (parity_length d y w (parity_length d x y lx h) k) (length-plus h.half k.half (h.dimension ∙ sym k.dimension) ∙ h.dimension)
    (λ u. omega (arith, ints, at_parity d x y h u, at_parity d y w k u, dot-plus u h.half k.half))

-- ---- the only shortest

pub place_least : (d : ℕ) (q x y : List ℤ) → HasPlace d q x → AreOfOneParity d x y → value q x ≤ℤ value q y
place_least d q x y p h = subst (λ (v : List ℤ). value q x ≤ℤ value q v) (sym h.is) (nearest d q p.simplex x h.half p.placed p.vertex h.dimension).least

pub place_tied : (d : ℕ) (q x y : List ℤ) → HasPlace d q x → AreOfOneParity d x y → value q x ≡ value q y → (y ≡ x) ⊎ (y ≡ scale (negsuc 0) x)
place_tied d q x y p h e =
    let n = nearest d q p.simplex x h.half p.placed p.vertex h.dimension in
    elim (n.tied (e ∙ ap (value q) h.is)) [
      | inl z ↦ inl (h.is ∙ stays d x h.half p.dimension z)
      | inr z ↦ inr (h.is ∙ turns d x h.half p.dimension h.dimension z)
    ]

pub edge_shortest : (d : ℕ) (q x : List ℤ) → HasPlace d q x → IsOnlyShortest d q x
edge_shortest d q x p y ly h =
    let l = place_least d q x y p h in
    by_lt_z (value q x) (value q y) (λ k. inl k) (λ k. inr (place_tied d q x y p h (equal (value q x) (value q y) l k)))
  where
    equal : (a b : ℤ) → a ≤ℤ b → b ≤ℤ a → a ≡ b
    equal a b h k = omega (arith, ints)

pub one_edge : (d : ℕ) (q : List ℤ) (t : List (List (List ℤ))) (x y : List ℤ) → IsDelaunay d q t → IsEdge d t x → IsEdge d t y → AreOfOneParity d x y → y ≡ x
one_edge d q t x y del ex ey h =
    let px = edge_place d q t x del ex in
    let py = edge_place d q t y del ey in
    let a = place_least d q x y px h in
    let b = place_least d q y x py (parity_back d x y px.dimension h) in
    elim (place_tied d q x y px h (omega (arith, ints, a, b))) [
      | inl e ↦ e
      | inr e ↦ absurd (not_both d x ex.positive (subst (λ (w : List ℤ). number_list_cmp (zeros d) w ≡ Less) e ey.positive) px.dimension)
    ]

-- ---- each parity has one

above_turned : (d : ℕ) (x : List ℤ) → length x ≡ d → number_list_cmp (zeros d) x ≡ Greater → number_list_cmp (zeros d) (scale (negsuc 0) x) ≡ Less
above_turned d x lx h =
    ap (λ (z : List ℤ). number_list_cmp z (scale (negsuc 0) x)) (sym (scale-zeros (negsuc 0) d)) ∙ cmp-turned x (zeros d) (lx ∙ sym (length-zeros d)) ∙ number_list_cmp_total.antisymm x (zeros d) ∙ ap ordering_reverse h

minus_turned : (d : ℕ) (v w : List ℤ) → length v ≡ d → length w ≡ d → minus v w ≡ scale (negsuc 0) (minus w v)
minus_turned d v w lv lw =
    same_from_dots (minus v w) (scale (negsuc 0) (minus w v)) (length-minus d v w lv lw ∙ sym (length-minus d w v lw lv) ∙ sym (length-scale (negsuc 0) (minus w v)))
    (λ u. dot-plus u v (scale (negsuc 0) w) ∙ ap (λ n. dot u v +ℤ n) (dot-scale u (negsuc 0) w) ∙ end (dot u v) (dot u w) ∙ ap (λ n. negsuc 0 *ℤ n) (sym (dot-plus u w (scale (negsuc 0) v) ∙ ap (λ n. dot u w +ℤ n) (dot-scale u (negsuc 0) v))) ∙ sym (dot-scale u (negsuc 0) (minus w v)))
  where
    end : (a b : ℤ) → a +ℤ negsuc 0 *ℤ b ≡ negsuc 0 *ℤ (b +ℤ negsuc 0 *ℤ a)
    end a b = ring (a ∷ b ∷ []) (var 0 ⊕ num (negsuc 0) ⊗ var 1) (num (negsuc 0) ⊗ (var 1 ⊕ num (negsuc 0) ⊗ var 0)) tt

pub record HasEdge (d : ℕ) (t : List (List (List ℤ))) (y : List ℤ) : Type 0 where
  pub edge : List ℤ
  pub is_edge : IsEdge d t edge
  pub parity : AreOfOneParity d edge y

pub has_edge : (d : ℕ) (q : List ℤ) (t : List (List (List ℤ))) (y : List ℤ) → IsDelaunay d q t → length y ≡ d → (AreOfOneParity d (zeros d) y → ⊥) → HasEdge d t y
has_edge d q t y del ly n =
    let h = has_halves d q t y del ly in
    let c = ((del.members h.owner).0 h.member).0 in
    let v = from_translate h.shift h.owner h.left h.has_left in
    let w = from_translate h.shift h.owner h.right h.has_right in
    go h.owner h.shift h.left h.right v.0 w.0 h.member h.dimension v.1 w.1 v.2 w.2 (member_dimension d h.owner v.0 c v.1) (member_dimension d h.owner w.0 c w.1) h.is (number_list_cmp (zeros d) (minus w.0 v.0)) refl
  where
    halves : (l r v w p u : List ℤ) → plus v p ≡ l → plus w p ≡ r → r ≡ minus y l → dot u v +ℤ dot u w +ℤ pos 2 *ℤ dot u p ≡ dot u y
    halves l r v w p u el er is =
        let e1 : dot u v +ℤ dot u p ≡ dot u l = sym (dot-plus u v p) ∙ ap (dot u) el in
        let e2 : dot u w +ℤ dot u p ≡ dot u r = sym (dot-plus u w p) ∙ ap (dot u) er in
        let e3 : dot u r ≡ dot u y +ℤ negsuc 0 *ℤ dot u l = ap (dot u) is ∙ dot-plus u y (scale (negsuc 0) l) ∙ ap (λ n. dot u y +ℤ n) (dot-scale u (negsuc 0) l) in
        omega (arith, ints, e1, e2, e3)

    -- y is w - v and twice v + p
    sum : (l r v w p : List ℤ) → length v ≡ d → length w ≡ d → length p ≡ d → ((u : List ℤ) → dot u v +ℤ dot u w +ℤ pos 2 *ℤ dot u p ≡ dot u y) → AreOfOneParity d (minus w v) y
    sum l r v w p lv lw lp e =
        parity_from d (minus w v) y (plus v p) (length-minus d w v lw lv) ly (length-plus v p (lv ∙ sym lp) ∙ lv)
        (λ u. omega (arith, ints, e u, dot-plus u w (scale (negsuc 0) v), dot-scale u (negsuc 0) v, dot-plus u v p))

    swap : (v w p u : List ℤ) → dot u v +ℤ dot u w +ℤ pos 2 *ℤ dot u p ≡ dot u y → dot u w +ℤ dot u v +ℤ pos 2 *ℤ dot u p ≡ dot u y
    swap v w p u e = omega (arith, ints, e)

    go : (s : List (List ℤ)) (p l r v w : List ℤ) → Contains t s → length p ≡ d → Contains s v → Contains s w → plus v p ≡ l → plus w p ≡ r → length v ≡ d → length w ≡ d → r ≡ minus y l → (o : Ordering) → number_list_cmp (zeros d) (minus w v) ≡ o → HasEdge d t y
    go s p l r v w m lp cv cw el er lv lw is Less o = record {
      edge = minus w v;
      is_edge = record { owner = s; member = m; from = v; to = w; has_from = cv; has_to = cw; difference = refl; positive = o };
      parity = sum l r v w p lv lw lp (λ u. halves l r v w p u el er is);
    }
    go s p l r v w m lp cv cw el er lv lw is Equal o =
        let z : zeros d ≡ minus w v = exact_points (zeros d) (minus w v) o in
        absurd (n (subst (λ (x : List ℤ). AreOfOneParity d x y) (sym z) (sum l r v w p lv lw lp (λ u. halves l r v w p u el er is))))
    go s p l r v w m lp cv cw el er lv lw is Greater o = record {
      edge = minus v w;
      is_edge = record {
        owner = s;
        member = m;
        from = w;
        to = v;
        has_from = cw;
        has_to = cv;
        difference = refl;
        positive = ap (number_list_cmp (zeros d)) (minus_turned d v w lv lw) ∙ above_turned d (minus w v) (length-minus d w v lw lv) o;
      };
      parity = sum l r w v p lw lv lp (λ u. swap v w p u (halves l r v w p u el er is));
    }

pub parities_have_one_edge : (d : ℕ) (q : List ℤ) (t : List (List (List ℤ))) (y : List ℤ) → IsDelaunay d q t → length y ≡ d → (AreOfOneParity d (zeros d) y → ⊥) → HasOneEdge d q t y
parities_have_one_edge d q t y del ly n =
    let h = has_edge d q t y del ly n in
    let p = edge_place d q t h.edge del h.is_edge in
    record {
      edge = h.edge;
      is_edge = h.is_edge;
      parity = h.parity;
      only = λ x e k. one_edge d q t h.edge x del h.is_edge e (parity_on d h.edge y x p.dimension h.parity (parity_back d x y (edge_place d q t x del e).dimension k));
      shortest = edge_shortest d q h.edge p;
    }

-- ---- shortest points

pub shortest_are_edges : (d : ℕ) (q : List ℤ) (t : List (List (List ℤ))) (x : List ℤ) → IsDelaunay d q t → length x ≡ d → x ≢ zeros d → ((z : List ℤ) → length z ≡ d → z ≢ zeros d → value q x ≤ℤ value q z) → IsEdge d t x ⊎ IsEdge d t (scale (negsuc 0) x)
shortest_are_edges d q t x del lx some least =
    let h = parities_have_one_edge d q t x del lx even in
    let p = edge_place d q t h.edge del h.is_edge in
    let not_zero : h.edge ≢ zeros d = λ e. never_below_itself number_list_cmp number_list_cmp_total (zeros d) (subst (λ (w : List ℤ). number_list_cmp (zeros d) w ≡ Less) e h.is_edge.positive) in
    let l = least h.edge p.dimension not_zero in
    elim (h.shortest x lx h.parity) [
      | inl k ↦ absurd (omega (arith, ints, k, l))
      | inr (inl e) ↦ inl (subst (λ (w : List ℤ). IsEdge d t w) (sym e) h.is_edge)
      | inr (inr e) ↦ inr (subst (λ (w : List ℤ). IsEdge d t w) (sym (ap (scale (negsuc 0)) e ∙ opposite_twice h.edge)) h.is_edge)
    ]
  where
    even : AreOfOneParity d (zeros d) x → ⊥
    even h =
        let z : List ℤ = h.half in
        let e : x ≡ scale (pos 2) z = h.is ∙ zeros-plus d (scale (pos 2) z) (length-scale (pos 2) z ∙ h.dimension) in
        let v : value q x ≡ pos 4 *ℤ value q z = ap (value q) e ∙ ap (dot q) (squares-scale (pos 2) z) ∙ dot-scale q (pos 2 *ℤ pos 2) (squares z) in
        let n : z ≢ zeros d = λ k. some (e ∙ ap (scale (pos 2)) k ∙ scale-zeros (pos 2) d) in
        let g = del.positive.positive z h.dimension n in
        let l = least z h.dimension n in
        omega (arith, ints, v, g, l)
