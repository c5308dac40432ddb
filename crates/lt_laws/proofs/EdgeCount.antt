-- As many edges as parities but that of 0, and an edge below each point.
use Rattle.std.proofs.Common.{◌≡◌, ◌≢◌, ℕ, zero, suc, ℤ, pos, negsuc, ◌+ℤ◌, ◌*ℤ◌, ◌<ℤ◌, ◌≤ℤ◌, nat_abs, ◌<◌, ◌≤◌, ◌^◌, ◌%◌, refl, ap, ap₂, arith, sym, ◌∙◌, subst, List, [], ◌∷◌, length, map, ◌⊎◌, ◌↔◌, inl, inr}
use Rattle.std.proofs.lemmas.Int.{ints}
use Rattle.std.specs.List.{Contains}
use Rattle.std.specs.List.Sorted.{IsStrictlySortedBy}
use Rattle.std.specs.declared.cmp.Ordering.TheVariants.{Less}
use Rattle.std.proofs.lemmas.List.Elements.{Contains-append_cases}
use Rattle.lt_model.proofs.Vectors.{dot-scale}
use Rattle.lt_model.proofs.Squares.{length-scale, squares-scale}
use Rattle.lt_model.proofs.Opposite.{length-zeros}
use Rattle.lt_model.proofs.Sets.{Contains-head, Contains-tail, Contains-cases, Contains-none, never_below_itself, number_list_cmp_total}
use Rattle.lt_model.specs.Order.{number_list_cmp}
use Rattle.lt_model.specs.Vectors.{plus, scale, dot, zeros}
use Rattle.lt_model.specs.Forms.{squares, value}
use Rattle.lt_model.specs.Triangulations.{IsDelaunay}
use Rattle.lt_laws.specs.Edges.{IsEdge, AreOfOneParity}
use Rattle.lt_geometry.proofs.Choices.{fit}
use Rattle.lt_geometry.proofs.Parity.{odd, parity, half, doubled, value-zeros, value-negative}
use Rattle.lt_geometry.proofs.EdgeLists.{bit_lists, length-bits, bits_has}
use Rattle.lt_geometry.proofs.Fewness.{scale-zeros}
use Rattle.lt_geometry.proofs.LocalWalk.{zeros-plus}
use Rattle.lt_geometry.proofs.Rearranged.{IsDistinct, distinct_append}
use Rattle.lt_geometry.proofs.Sorting.{sorted_is_distinct}
use Rattle.lt_laws.proofs.Listing.{map_from}
use Rattle.lt_laws.proofs.Shortest.{HasEdge, has_edge, edge_place, place_least, one_edge, edge_shortest}

-- ---- one parity, by bits

same_bit : (a b h : ℤ) → b ≡ a +ℤ pos 2 *ℤ h → odd a ≡ odd b
same_bit a b h e =
    let p = half a in
    let q = half b in
    by (odd a) (odd b) p.0 q.0 h (omega arith) (omega arith) (omega (arith, ints, e, p.1, q.1))
  where
    by : (m n : ℕ) (x y h : ℤ) → m < 2 → n < 2 → pos n +ℤ pos 2 *ℤ y ≡ pos m +ℤ pos 2 *ℤ x +ℤ pos 2 *ℤ h → m ≡ n
    by m n x y h l k e = omega (arith, ints, e)

same_bits : (d : ℕ) (x z : List ℤ) → length x ≡ d → length z ≡ d → parity x ≡ parity (plus x (scale (pos 2) z))
same_bits zero [] [] lx lz = refl
same_bits zero [] (c ∷ z) lx lz = absurd (omega arith)
same_bits zero (a ∷ x) z lx lz = absurd (omega arith)
same_bits (suc d) [] z lx lz = absurd (omega arith)
same_bits (suc d) (a ∷ x) [] lx lz = absurd (omega arith)
same_bits (suc d) (a ∷ x) (c ∷ z) lx lz = ap₂ (λ (n : ℕ) (l : List ℕ). n ∷ l) (same_bit a (a +ℤ pos 2 *ℤ c) c refl) (same_bits d x z (omega arith) (omega arith))

pub bits_from : (d : ℕ) (x y : List ℤ) → length x ≡ d → AreOfOneParity d x y → parity x ≡ parity y
bits_from d x y lx h = same_bits d x h.half lx h.dimension ∙ ap parity (sym h.is)

pub parity_of_bits : (d : ℕ) (x y : List ℤ) → length x ≡ d → length y ≡ d → parity x ≡ parity y → AreOfOneParity d x y
parity_of_bits d x y lx ly e = let r = doubled d x y lx ly e in record { half = r.0; dimension = r.1; is = r.2 }

-- ---- no edge has the parity of 0

pub edge_not_zero : (d : ℕ) (t : List (List (List ℤ))) (x : List ℤ) → IsEdge d t x → x ≢ zeros d
edge_not_zero d t x e z = never_below_itself number_list_cmp number_list_cmp_total (zeros d) (subst (λ (w : List ℤ). number_list_cmp (zeros d) w ≡ Less) z e.positive)

edge_odd : (d : ℕ) (q : List ℤ) (t : List (List (List ℤ))) (x : List ℤ) → IsDelaunay d q t → IsEdge d t x → AreOfOneParity d x (zeros d) → ⊥
edge_odd d q t x del e h =
    let p = edge_place d q t x del e in
    let l = place_least d q x (zeros d) p h in
    let g = del.positive.positive x p.dimension (edge_not_zero d t x e) in
    omega (arith, ints, l, g, value-zeros d q)

-- ---- the lists of bits differ, and each is a parity

cons_apart : (b : ℕ) (ls : List (List ℕ)) → IsDistinct ls → IsDistinct (map (λ l. b ∷ l) ls)
cons_apart b [] a = tt
cons_apart b (l ∷ ls) a = (
  λ c. (let f = map_from (λ (r : List ℕ). b ∷ r) ls (b ∷ l) c in let e : f.0 ≡ l = tail f.0 l f.2 in a.0 (subst (λ (r : List ℕ). Contains ls r) e f.1)),
  cons_apart b ls a.1,
)
  where
    tail : (m l : List ℕ) → b ∷ m ≡ b ∷ l → m ≡ l
    tail m l e = cc

pub bits_apart : (d : ℕ) → IsDistinct (bit_lists d)
bits_apart zero = (λ c. Contains-none [] c, tt)
bits_apart (suc d) =
    distinct_append (map (λ (l : List ℕ). 0 ∷ l) (bit_lists d)) (map (λ (l : List ℕ). 1 ∷ l) (bit_lists d)) (cons_apart 0 (bit_lists d) (bits_apart d)) (cons_apart 1 (bit_lists d) (bits_apart d))
    (λ l c e. (let f = map_from (λ (r : List ℕ). 0 ∷ r) (bit_lists d) l c in let g = map_from (λ (r : List ℕ). 1 ∷ r) (bit_lists d) l e in never f.0 g.0 (f.2 ∙ sym g.2)))
  where
    never : (l m : List ℕ) → 0 ∷ l ≡ 1 ∷ m → ⊥
    never l m e =
        let z : (◌≡◌) {A = ℕ} 0 1 = cc in
        omega (arith, z)

pub record IsBits (d : ℕ) (l : List ℕ) : Type 0 where
  pub dimension : length (map pos l) ≡ d
  pub own : parity (map pos l) ≡ l

bits_are : (d : ℕ) (l : List ℕ) → Contains (bit_lists d) l → IsBits d l
bits_are zero l c = elim (Contains-cases [] [] l c) [ inl e ↦ subst (λ (r : List ℕ). IsBits 0 r) e (record { dimension = refl; own = refl }) | inr m ↦ Contains-none l m ]
bits_are (suc d) l c =
    elim (Contains-append_cases (map (λ (r : List ℕ). 0 ∷ r) (bit_lists d)) (map (λ (r : List ℕ). 1 ∷ r) (bit_lists d)) l c) [
      | inl h ↦ (let f = map_from (λ (r : List ℕ). 0 ∷ r) (bit_lists d) l h in subst (λ (r : List ℕ). IsBits (suc d) r) f.2 (longer 0 f.0 refl (bits_are d f.0 f.1)))
      | inr h ↦ (let f = map_from (λ (r : List ℕ). 1 ∷ r) (bit_lists d) l h in subst (λ (r : List ℕ). IsBits (suc d) r) f.2 (longer 1 f.0 refl (bits_are d f.0 f.1)))
    ]
  where
    longer : (b : ℕ) (m : List ℕ) → b % 2 ≡ b → IsBits d m → IsBits (suc d) (b ∷ m)
    longer b m e h = record { dimension = ap suc h.dimension; own = ap₂ (λ (n : ℕ) (r : List ℕ). n ∷ r) e h.own }

all_even : (d : ℕ) (y : List ℤ) → length y ≡ d → (parity (zeros d) ≡ parity y) ⊎ (parity (zeros d) ≢ parity y)
all_even zero [] l = inl refl
all_even zero (a ∷ y) l = absurd (omega arith)
all_even (suc d) [] l = absurd (omega arith)
all_even (suc d) (a ∷ y) l = by (odd a) (parity y) (all_even d y (omega arith))
  where
    by : (n : ℕ) (p : List ℕ) → (parity (zeros d) ≡ p) ⊎ (parity (zeros d) ≢ p) → (0 ∷ parity (zeros d) ≡ n ∷ p) ⊎ (0 ∷ parity (zeros d) ≢ n ∷ p)
    by zero p (inl e) = inl (ap (λ (r : List ℕ). 0 ∷ r) e)
    by zero p (inr n) = inr (λ e. n (tail e))
      where
        tail : 0 ∷ parity (zeros d) ≡ 0 ∷ p → parity (zeros d) ≡ p
        tail e = cc
    by (suc n) p h = inr (λ e. head e)
      where
        head : 0 ∷ parity (zeros d) ≡ suc n ∷ p → ⊥
        head e =
            let z : zero ≡ suc n = cc in
            omega (arith, z)

-- ---- the count

pub edges_are_parities : (d : ℕ) (q : List ℤ) (t : List (List (List ℤ))) (es : List (List ℤ)) → IsDelaunay d q t → IsStrictlySortedBy number_list_cmp es → ((x : List ℤ) → Contains es x ↔ IsEdge d t x) → suc (length es) ≡ 2 ^ d
edges_are_parities d q t es del sorted members =
    let apart : IsDistinct es = sorted_is_distinct number_list_cmp number_list_cmp_total es sorted in
    let few : suc (length es) ≤ length (bit_lists d) =
    fit (λ (x : List ℤ) (l : List ℕ). parity x ≡ l) (zeros d ∷ es) (bit_lists d) (λ c. edge_not_zero d t (zeros d) ((members (zeros d)).0 c) refl, apart) (λ x c. (parity x, bits_has d x (length_of x (split x c)), refl)) (λ x y l c c' e e'. same x y (split x c) (split y c') (e ∙ sym e'))
    in
    let many : length (bit_lists d) ≤ suc (length es) =
    fit (λ (l : List ℕ) (x : List ℤ). parity x ≡ l) (bit_lists d) (zeros d ∷ es) (bits_apart d) (λ l c. owner l (bits_are d l c)) (λ l m x c c' e e'. sym e ∙ e')
    in
    omega (arith, few, many, length-bits d)
  where
    split : (x : List ℤ) → Contains (zeros d ∷ es) x → (zeros d ≡ x) ⊎ IsEdge d t x
    split x c = elim (Contains-cases (zeros d) es x c) [ inl e ↦ inl e | inr r ↦ inr ((members x).0 r) ]

    length_of : (x : List ℤ) → (zeros d ≡ x) ⊎ IsEdge d t x → length x ≡ d
    length_of x (inl e) = ap length (sym e) ∙ length-zeros d
    length_of x (inr e) = (edge_place d q t x del e).dimension

    same : (x y : List ℤ) → (zeros d ≡ x) ⊎ IsEdge d t x → (zeros d ≡ y) ⊎ IsEdge d t y → parity x ≡ parity y → x ≡ y
    same x y (inl e) (inl f) p = sym e ∙ f
    same x y (inl e) (inr f) p = absurd (edge_odd d q t y del f (parity_of_bits d y (zeros d) (edge_place d q t y del f).dimension (length-zeros d) (sym p ∙ ap parity (sym e))))
    same x y (inr e) (inl f) p = absurd (edge_odd d q t x del e (parity_of_bits d x (zeros d) (edge_place d q t x del e).dimension (length-zeros d) (p ∙ ap parity (sym f))))
    same x y (inr e) (inr f) p = sym (one_edge d q t x y del e f (parity_of_bits d x y (edge_place d q t x del e).dimension (edge_place d q t y del f).dimension p))

    found : (l : List ℕ) → IsBits d l → HasEdge d t (map pos l) → (x : List ℤ) × Contains (zeros d ∷ es) x × (parity x ≡ l)
    found l b h = (h.edge, Contains-tail (zeros d) es h.edge ((members h.edge).1 h.is_edge), bits_from d h.edge (map pos l) (edge_place d q t h.edge del h.is_edge).dimension h.parity ∙ b.own)

    owner : (l : List ℕ) → IsBits d l → (x : List ℤ) × Contains (zeros d ∷ es) x × (parity x ≡ l)
    owner l b =
        elim (all_even d (map pos l) b.dimension) [
          | inl e ↦ (zeros d, Contains-head (zeros d) es, e ∙ b.own)
          | inr n ↦ found l b (has_edge d q t (map pos l) del b.dimension (λ h. n (bits_from d (zeros d) (map pos l) (length-zeros d) h)))
        ]

-- ---- an edge below each point

pub Below : ℕ → List ℤ → List (List (List ℤ)) → List ℤ → Type 0
Below d q t z = (u : List ℤ) × IsEdge d t u × ((value q u <ℤ value q z) ⊎ ((z ≡ u) ⊎ (z ≡ scale (negsuc 0) u)))

by_fuel : (d : ℕ) (q : List ℤ) (t : List (List (List ℤ))) (fuel : ℕ) (z : List ℤ) → IsDelaunay d q t → length z ≡ d → z ≢ zeros d → value q z <ℤ pos fuel → Below d q t z
unfolding Below
by_fuel d q t zero z del lz n h = absurd (omega (arith, ints, h, del.positive.positive z lz n))
by_fuel d q t (suc fuel) z del lz n h =
    elim (all_even d z lz) [
      | inr odd ↦ here (has_edge d q t z del lz (λ k. odd (bits_from d (zeros d) z (length-zeros d) k)))
      | inl even ↦ there (doubled d (zeros d) z (length-zeros d) lz even) (by_fuel d q t fuel)
    ]
  where
    here : HasEdge d t z → (u : List ℤ) × IsEdge d t u × ((value q u <ℤ value q z) ⊎ ((z ≡ u) ⊎ (z ≡ scale (negsuc 0) u)))
    here e = (e.edge, e.is_edge, edge_shortest d q e.edge (edge_place d q t e.edge del e.is_edge) z lz e.parity)

    there : ((r : List ℤ) × (length r ≡ d) × (z ≡ plus (zeros d) (scale (pos 2) r))) → ((r : List ℤ) → IsDelaunay d q t → length r ≡ d → r ≢ zeros d → value q r <ℤ pos fuel → Below d q t r) → (u : List ℤ) × IsEdge d t u × ((value q u <ℤ value q z) ⊎ ((z ≡ u) ⊎ (z ≡ scale (negsuc 0) u)))
    there r again =
        let e : z ≡ scale (pos 2) r.0 = r.2 ∙ zeros-plus d (scale (pos 2) r.0) (length-scale (pos 2) r.0 ∙ r.1) in
        let v : value q z ≡ pos 4 *ℤ value q r.0 = ap (value q) e ∙ ap (dot q) (squares-scale (pos 2) r.0) ∙ dot-scale q (pos 2 *ℤ pos 2) (squares r.0) in
        let m : r.0 ≢ zeros d = λ k. n (e ∙ ap (scale (pos 2)) k ∙ scale-zeros (pos 2) d) in
        let g = del.positive.positive r.0 r.1 m in
        let b = again r.0 del r.1 m (omega (arith, ints, h, v, g)) in
        (b.0, b.1, inl (less b.0 r.0 v g b.2))
      where
        less : (u r : List ℤ) → value q z ≡ pos 4 *ℤ value q r → pos 0 <ℤ value q r → (value q u <ℤ value q r) ⊎ ((r ≡ u) ⊎ (r ≡ scale (negsuc 0) u)) → value q u <ℤ value q z
        less u r v g (inl k) = omega (arith, ints, v, g, k)
        less u r v g (inr (inl k)) = omega (arith, ints, v, g, ap (value q) k)
        less u r v g (inr (inr k)) = omega (arith, ints, v, g, ap (value q) k, value-negative q u)

pub edges_reach_below : (d : ℕ) (q : List ℤ) (t : List (List (List ℤ))) (z : List ℤ) → IsDelaunay d q t → length z ≡ d → z ≢ zeros d → (u : List ℤ) × IsEdge d t u × ((value q u <ℤ value q z) ⊎ ((z ≡ u) ⊎ (z ≡ scale (negsuc 0) u)))
unfolding Below
edges_reach_below d q t z del lz n = by_fuel d q t (suc (nat_abs (value q z))) z del lz n (enough (value q z))
  where
    enough : (x : ℤ) → x <ℤ pos (suc (nat_abs x))
    enough x = omega (arith, ints)

pub least_edges_are_shortest : (d : ℕ) (q : List ℤ) (t : List (List (List ℤ))) (u : List ℤ) → IsDelaunay d q t → ((x : List ℤ) → IsEdge d t x → value q u ≤ℤ value q x) → (z : List ℤ) → length z ≡ d → z ≢ zeros d → value q u ≤ℤ value q z
least_edges_are_shortest d q t u del least z lz n =
    let (x, e, c) = edges_reach_below d q t z del lz n in
    let l = least x e in
    elim c [
      | inl b ↦ omega (arith, ints, l, b)
      | inr (inl same) ↦ subst (λ (y : List ℤ). value q u ≤ℤ value q y) (sym same) l
      | inr (inr same) ↦ subst (λ (y : ℤ). value q u ≤ℤ y) (sym (ap (value q) same ∙ value-negative q x)) l
    ]
