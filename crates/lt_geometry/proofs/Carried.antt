-- The image of a Delaunay triangulation is one.
use Rattle.std.proofs.lemmas.List.Elements.{Contains-get_or}
use Rattle.std.proofs.lemmas.List.{get_or_default}
use Rattle.std.proofs.Common.{◌≡◌, ℕ, zero, suc, ℤ, pos, negsuc, ◌+ℤ◌, ◌*ℤ◌, ◌<ℤ◌, ◌≤ℤ◌, ◌<◌, refl, ap, arith, sym, ◌∙◌, subst, List, [], ◌∷◌, length, map, get_or}
use Rattle.std.proofs.lemmas.Int.{ints}
use Rattle.std.specs.List.{Contains}
use Rattle.std.specs.List.Sorted.{IsStrictlySortedBy, IsPermutation}
use Rattle.lt_model.specs.Facets.{without, number_at, IsNeighbour, IsClosed}
use Rattle.lt_model.specs.Forms.{IsPositiveDefinite, value}
use Rattle.lt_model.specs.Matrices.{apply, Carries}
use Rattle.lt_model.specs.Order.{number_list_cmp, simplex_cmp}
use Rattle.lt_model.specs.Simplices.{AllOfDimension, IsClass, IsExpression, IsStrictlyEmpty, excess, translate}
use Rattle.lt_model.specs.Triangulations.{IsDelaunay}
use Rattle.lt_model.specs.Vectors.{plus, scale, dot, zeros}
use Rattle.lt_model.proofs.Dependent.{length-map_vectors}
use Rattle.lt_model.proofs.Excess.{same_from_dots, length-translate}
use Rattle.lt_model.proofs.Moved.{translate_all, Contains-translate}
use Rattle.lt_model.proofs.Sets.{same_members, number_list_cmp_total}
use Rattle.lt_model.proofs.Squares.{length-scale, length-plus}
use Rattle.lt_model.proofs.Translates.{ascending_translate}
use Rattle.lt_model.proofs.Vectors.{dot-plus, dot-scale}
use Rattle.lt_model.proofs.Points.{length-apply}
use Rattle.lt_geometry.specs.Carrying.{AreClasses}
use Rattle.lt_geometry.proofs.Images.{IsImage, image_rearranged, class_distinct, IsCarried, carried_back, HasCarried, has_carried, HasOrigin, carries_to, carries_from, carries_undone}
use Rattle.lt_geometry.proofs.Induced.{pulled, value-pulled, length-pulled}
use Rattle.lt_geometry.proofs.Matrices.{IsUndone, undone_back, apply-plus, apply-zeros}
use Rattle.lt_geometry.proofs.Motions.{moved, IsMotion, motion_back, moved_back, length-moved, moved_all, mapped, IsMapped, length_of_member, expression_moved_by, expression_rearranged, excess_rearranged, excess_moved_by}
use Rattle.lt_geometry.proofs.Rearranged.{IsRearranged, IsDistinct, rearrange, same_place, placed, HasPlace, Contains-without, Contains-with, not_in_without}
use Rattle.lt_geometry.proofs.Sorting.{sorted_is_distinct, sorted_without}

pub get-map : (f : List ℤ → List ℤ) (vs : List (List ℤ)) (i : ℕ) (a b : List ℤ) → i < length vs → get_or (map f vs) i a ≡ f (get_or vs i b)
get-map f [] i a b h = absurd (omega arith)
get-map f (v ∷ vs) zero a b h = refl
get-map f (v ∷ vs) (suc i) a b h = get-map f vs i a b (omega arith)

-- ---- expressions and excesses

pub carried_rearranged : (d : ℕ) (u v : List (List ℤ)) (s s2 : List (List ℤ)) → (h : IsCarried d u v s s2) → IsRearranged (map (moved u h.shift) s) s2
carried_rearranged d u v s s2 h = image_rearranged d u h.shift s s2 h.image (class_distinct d s2 h.target) (h.origin.simplex.count ∙ sym h.target.simplex.count)

-- the numbers b of s in the order of s2
abbrev pub carried_numbers : (d : ℕ) (u v : List (List ℤ)) (s s2 : List (List ℤ)) → IsCarried d u v s s2 → List ℤ → List ℤ
carried_numbers d u v s s2 h b = rearrange (map (moved u h.shift) s) s2 (carried_rearranged d u v s s2 h) b

pub carried_expression : (d : ℕ) (u v : List (List ℤ)) (s s2 : List (List ℤ)) (x b : List ℤ) (c : ℤ) → (h : IsCarried d u v s s2) → IsExpression s x c b → IsExpression s2 (moved u h.shift x) c (carried_numbers d u v s s2 h b)
carried_expression d u v s s2 x b c h e =
    let lu : length u ≡ d = h.motion.undone.square.rows in
    expression_rearranged d (map (moved u h.shift) s) s2 (carried_rearranged d u v s s2 h) (moved u h.shift x) b c (moved_all d u h.shift s lu h.motion.shift) h.target.simplex.points (omega (arith, length-map_vectors (moved u h.shift) s, h.origin.simplex.count))
    (expression_moved_by d u h.shift s x b c lu h.motion.shift (omega (arith, h.origin.simplex.count)) e)

-- q2 has at the image of each point the value of q at the point
abbrev pub Agree : ℕ → List (List ℤ) → List ℤ → List ℤ → Type 0
Agree d u q q2 = (y : List ℤ) → length y ≡ d → value q2 (apply u y) ≡ value q y

pub agree_back : (d : ℕ) (u v : List (List ℤ)) (q q2 : List ℤ) → IsUndone d u v → Agree d u q q2 → Agree d v q2 q
agree_back d u v q q2 h a y ly = sym (a (apply v y) (length-apply v y ∙ h.other.rows)) ∙ ap (value q2) (h.right y ly)

pub agree_pulled : (d : ℕ) (u v : List (List ℤ)) (q : List ℤ) → IsUndone d u v → Agree d u q (pulled q v)
agree_pulled d u v q h y ly = value-pulled d q v (apply u y) h.other.columns (length-apply u y ∙ h.square.rows) ∙ ap (value q) (h.left y ly)

pub carried_excess : (d : ℕ) (u v : List (List ℤ)) (q q2 : List ℤ) (s s2 : List (List ℤ)) (x b : List ℤ) (c : ℤ) → (h : IsCarried d u v s s2) → Agree d u q q2 → length x ≡ d → IsExpression s x c b →
    excess q2 s2 (moved u h.shift x) c (carried_numbers d u v s s2 h b) ≡ excess q s x c b
carried_excess d u v q q2 s s2 x b c h agree lx e =
    let lu : length u ≡ d = h.motion.undone.square.rows in
    excess_rearranged q2 (map (moved u h.shift) s) s2 (carried_rearranged d u v s s2 h) (moved u h.shift x) b c (e.one_each ∙ sym (length-map_vectors (moved u h.shift) s))
    ∙ excess_moved_by d q q2 u h.shift s x b c lu h.motion.shift h.origin.simplex.points lx (omega (arith, h.origin.simplex.count)) agree e

-- a strictly empty class has a strictly empty image
pub carried_empty : (d : ℕ) (u v : List (List ℤ)) (q q2 : List ℤ) (s s2 : List (List ℤ)) → IsCarried d u v s s2 → Agree d u q q2 → IsStrictlyEmpty d q s → IsStrictlyEmpty d q2 s2
unfolding carried_back
carried_empty d u v q q2 s s2 h agree empty = record {
  outside = λ x c b lx e. subst (λ (n : ℤ). pos 0 ≤ℤ n) (same x b c lx e) (empty.outside (moved v h.back x) c (numbers b) (lx_back x) (expression x b c e));
  touches = λ x c b lx e z.
      subst (λ (y : List ℤ). Contains s2 y) (moved_back d v h.back u h.shift x (motion_back d u h.shift v h.back h.motion) lx)
      (h.image.to (moved v h.back x) (empty.touches (moved v h.back x) c (numbers b) (lx_back x) (expression x b c e) (same x b c lx e ∙ z)));
}
  where
    k : IsCarried d v u s2 s
    k = carried_back d u v s s2 h

    numbers : List ℤ → List ℤ
    numbers b = carried_numbers d v u s2 s k b

    lx_back : (x : List ℤ) → length (moved v h.back x) ≡ d
    lx_back x = length-moved d v h.back x h.motion.undone.other.rows h.motion.back_shift

    expression : (x b : List ℤ) (c : ℤ) → IsExpression s2 x c b → IsExpression s (moved v h.back x) c (numbers b)
    expression x b c e = carried_expression d v u s2 s x b c k e

    same : (x b : List ℤ) (c : ℤ) → length x ≡ d → IsExpression s2 x c b → excess q s (moved v h.back x) c (numbers b) ≡ excess q2 s2 x c b
    same x b c lx e = carried_excess d v u q2 q s2 s x b c k (agree_back d u v q q2 h.motion.undone agree) lx e

-- ---- places

-- where the image of vertex i stands, and that its number goes with it
pub record HasCarriedPlace (d : ℕ) (u v : List (List ℤ)) (s s2 : List (List ℤ)) (h : IsCarried d u v s s2) (i : ℕ) : Type 0 where
  pub place : ℕ
  pub within : place < suc d
  pub vertex : get_or s2 place [] ≡ moved u h.shift (get_or s i [])
  pub number : (b : List ℤ) → length b ≡ length s → number_at place (carried_numbers d u v s s2 h b) ≡ number_at i b
  pub others : (b : List ℤ) → length b ≡ length s → IsPermutation (without i b) (without place (carried_numbers d u v s s2 h b))

pub carried_place : (d : ℕ) (u v : List (List ℤ)) (s s2 : List (List ℤ)) (i : ℕ) → (h : IsCarried d u v s s2) → i < suc d → HasCarriedPlace d u v s s2 h i
carried_place d u v s s2 i h hi = at (h.image.to (get_or s i []) (Contains-get_or s i [] li))
  where
    li : i < length s
    li = omega (arith, h.origin.simplex.count)

    at : Contains s2 (moved u h.shift (get_or s i [])) → HasCarriedPlace d u v s s2 h i
    at c =
        let p : HasPlace (map (moved u h.shift) s) s2 (carried_rearranged d u v s s2 h) c.0 = placed (map (moved u h.shift) s) s2 (carried_rearranged d u v s s2 h) c.0 c.1 in
        let is : get_or s2 c.0 [] ≡ moved u h.shift (get_or s i []) = get_or_default s2 c.0 [] (moved u h.shift (get_or s i [])) c.1 ∙ c.2 in
        let lk : p.place < length s = omega (arith, p.within, length-map_vectors (moved u h.shift) s) in
        let images : moved u h.shift (get_or s p.place []) ≡ moved u h.shift (get_or s i []) = sym (get-map (moved u h.shift) s p.place [] [] lk) ∙ p.member ∙ is in
        let points : get_or s p.place [] ≡ get_or s i [] =
        sym (moved_back d u h.shift v h.back (get_or s p.place []) h.motion (length_of_member d s (get_or s p.place []) h.origin.simplex.points (Contains-get_or s p.place [] lk)))
        ∙ ap (moved v h.back) images ∙ moved_back d u h.shift v h.back (get_or s i []) h.motion (length_of_member d s (get_or s i []) h.origin.simplex.points (Contains-get_or s i [] li))
        in
        let places : p.place ≡ i = same_place s p.place i [] (class_distinct d s h.origin) lk li points in
        record {
          place = c.0;
          within = omega (arith, c.1, h.target.simplex.count);
          vertex = is;
          number = λ b lb. p.number b (lb ∙ sym (length-map_vectors (moved u h.shift) s)) ∙ ap (λ n. number_at n b) places;
          others = λ b lb. subst (λ (n : ℕ). IsPermutation (without n b) (without c.0 (carried_numbers d u v s s2 h b))) places (p.others b (lb ∙ sym (length-map_vectors (moved u h.shift) s)));
        }

-- ---- facets

pub image_without : (d : ℕ) (u : List (List ℤ)) (t : List ℤ) (v : List (List ℤ)) (r : List ℤ) (s s2 : List (List ℤ)) (i i2 : ℕ) → IsMotion d u t v r → IsImage u t s s2 → AllOfDimension d s → IsDistinct s → IsDistinct s2 → i < length s → i2 < length s2 →
    get_or s2 i2 [] ≡ moved u t (get_or s i []) → IsImage u t (without i s) (without i2 s2)
image_without d u t v r s s2 i i2 m h all ds ds2 hi hi2 is = record {
  to = λ x c. Contains-without s2 i2 (moved u t x) [] (h.to x (Contains-with s i x c)) (λ e. not_in_without s i [] ds hi (subst (λ (z : List ℤ). Contains (without i s) z) (injective x (Contains-with s i x c) (sym e ∙ is)) c));
  from = λ y c. from y c (h.from y (Contains-with s2 i2 y c));
}
  where
    injective : (x : List ℤ) → Contains s x → moved u t x ≡ moved u t (get_or s i []) → x ≡ get_or s i []
    injective x c e =
        sym (moved_back d u t v r x m (length_of_member d s x all c)) ∙ ap (moved v r) e ∙ moved_back d u t v r (get_or s i []) m (length_of_member d s (get_or s i []) all (Contains-get_or s i [] hi))

    from : (y : List ℤ) → Contains (without i2 s2) y → ((x : List ℤ) × Contains s x × (moved u t x ≡ y)) → (x : List ℤ) × Contains (without i s) x × (moved u t x ≡ y)
    from y c (x, k, e) =
        (x, Contains-without s i x [] k (λ f. not_in_without s2 i2 [] ds2 hi2 (subst (λ (z : List ℤ). Contains (without i2 s2) z) (sym e ∙ ap (moved u t) (sym f) ∙ sym is) c)), e)

pub image_members : (u : List (List ℤ)) (t : List ℤ) (s p q : List (List ℤ)) → IsImage u t s p → IsImage u t s q → (y : List ℤ) → Contains p y → Contains q y
image_members u t s p q h k y c = at (h.from y c)
  where
    at : ((x : List ℤ) × Contains s x × (moved u t x ≡ y)) → Contains q y
    at (x, m, e) = subst (λ (z : List ℤ). Contains q z) e (k.to x m)

-- ---- neighbours

-- the shift of the image of a neighbour
abbrev pub carried_shift : List (List ℤ) → List ℤ → List ℤ → List ℤ → List ℤ
carried_shift u t p n = plus (plus (apply u p) t) (scale (negsuc 0) n)

pub length-carried_shift : (d : ℕ) (u : List (List ℤ)) (t p n : List ℤ) → length u ≡ d → length t ≡ d → length n ≡ d → length (carried_shift u t p n) ≡ d
length-carried_shift d u t p n lu lt ln =
    length-plus (moved u t p) (scale (negsuc 0) n) (length-moved d u t p lu lt ∙ sym (length-scale (negsuc 0) n ∙ ln)) ∙ length-moved d u t p lu lt

moved_and_shifted : (d : ℕ) (u : List (List ℤ)) (t p n y : List ℤ) → length u ≡ d → length t ≡ d → length n ≡ d → plus (moved u n y) (carried_shift u t p n) ≡ moved u t (plus y p)
moved_and_shifted d u t p n y lu lt ln =
    let l1 : length (moved u n y) ≡ d = length-moved d u n y lu ln in
    same_from_dots (plus (moved u n y) (carried_shift u t p n)) (moved u t (plus y p))
    (length-plus (moved u n y) (carried_shift u t p n) (l1 ∙ sym (length-carried_shift d u t p n lu lt ln)) ∙ l1 ∙ sym (length-moved d u t (plus y p) lu lt)) at
  where
    at : (w : List ℤ) → dot w (plus (moved u n y) (carried_shift u t p n)) ≡ dot w (moved u t (plus y p))
    at w =
        let e1 : dot w (moved u n y) ≡ dot w (apply u y) +ℤ dot w n = dot-plus w (apply u y) n in
        let e2 : dot w (carried_shift u t p n) ≡ dot w (moved u t p) +ℤ dot w (scale (negsuc 0) n) = dot-plus w (moved u t p) (scale (negsuc 0) n) in
        let e3 : dot w (moved u t p) ≡ dot w (apply u p) +ℤ dot w t = dot-plus w (apply u p) t in
        let e4 : dot w (scale (negsuc 0) n) ≡ negsuc 0 *ℤ dot w n = dot-scale w (negsuc 0) n in
        let e5 : dot w (moved u t (plus y p)) ≡ dot w (apply u (plus y p)) +ℤ dot w t = dot-plus w (apply u (plus y p)) t in
        let e6 : dot w (apply u (plus y p)) ≡ dot w (apply u y) +ℤ dot w (apply u p) = ap (dot w) (apply-plus u y p) ∙ dot-plus w (apply u y) (apply u p) in
        let e7 = dot-plus w (moved u n y) (carried_shift u t p n) in
        omega (arith, ints, e1, e2, e3, e4, e5, e6, e7)

pub image_translated : (d : ℕ) (u : List (List ℤ)) (t p n : List ℤ) (s s2 : List (List ℤ)) → length u ≡ d → length t ≡ d → length n ≡ d → IsImage u n s s2 → IsImage u t (translate p s) (translate (carried_shift u t p n) s2)
image_translated d u t p n s s2 lu lt ln h = record {
  to = λ x c. to x (mapped (λ y. plus y p) s x c);
  from = λ z c. from z (mapped (λ y. plus y (carried_shift u t p n)) s2 z c);
}
  where
    to : (x : List ℤ) → IsMapped (λ y. plus y p) s x → Contains (translate (carried_shift u t p n) s2) (moved u t x)
    to x m =
        subst (λ (z : List ℤ). Contains (translate (carried_shift u t p n) s2) z) (moved_and_shifted d u t p n m.from lu lt ln ∙ ap (moved u t) m.is)
        (Contains-translate s2 (carried_shift u t p n) (moved u n m.from) (h.to m.from m.member))

    from : (z : List ℤ) → IsMapped (λ y. plus y (carried_shift u t p n)) s2 z → (x : List ℤ) × Contains (translate p s) x × (moved u t x ≡ z)
    from z m = at (h.from m.from m.member)
      where
        at : ((x : List ℤ) × Contains s x × (moved u n x ≡ m.from)) → (x : List ℤ) × Contains (translate p s) x × (moved u t x ≡ z)
        at (x, c, e) = (plus x p, Contains-translate s p x c, sym (moved_and_shifted d u t p n x lu lt ln) ∙ ap (λ y. plus y (carried_shift u t p n)) e ∙ m.is)

-- the neighbour across facet i goes to the neighbour across the image of the facet
pub record HasCarriedNeighbour (d : ℕ) (u v : List (List ℤ)) (t2 : List (List (List ℤ))) (s s2 : List (List ℤ)) (h : IsCarried d u v s s2) (i : ℕ) (next2 : List (List ℤ)) (w : List ℤ) : Type 0 where
  pub facet : HasCarriedPlace d u v s s2 h i
  pub shift : List ℤ
  pub outer : ℕ
  pub neighbour : IsNeighbour d t2 s2 facet.place next2 shift outer
  pub vertex : get_or (translate shift next2) outer [] ≡ moved u h.shift w

pub carried_neighbour : (d : ℕ) (u v : List (List ℤ)) (t t2 : List (List (List ℤ))) (s s2 next next2 : List (List ℤ)) (p : List ℤ) (i j : ℕ) → (h : IsCarried d u v s s2) → IsCarried d u v next next2 → Contains t2 next2 → i < suc d → IsNeighbour d t s i next p j →
    HasCarriedNeighbour d u v t2 s s2 h i next2 (get_or (translate p next) j [])
carried_neighbour d u v t t2 s s2 next next2 p i j h k member hi n = record {
  facet = f;
  shift = p2;
  outer = g.place;
  neighbour = record {
    member = member;
    dimension = lp2;
    place = g.within;
    facet = same_members number_list_cmp number_list_cmp_total (without g.place a2) (without f.place s2)
        (sorted_without number_list_cmp number_list_cmp_total g.place a2 asc_a2) (sorted_without number_list_cmp number_list_cmp_total f.place s2 h.target.ascending)
        (λ y. (image_members u h.shift (without i s) (without g.place a2) (without f.place s2) facet_a facet_s y, image_members u h.shift (without i s) (without f.place s2) (without g.place a2) facet_s facet_a y));
    beyond = record {
      scale = n.beyond.scale;
      coefficients = carried_numbers d u v s s2 h n.beyond.coefficients;
      expression = subst (λ (w : List ℤ). IsExpression s2 w n.beyond.scale (carried_numbers d u v s s2 h n.beyond.coefficients)) (sym vertex) (carried_expression d u v s s2 (get_or (translate p next) j []) n.beyond.coefficients n.beyond.scale h n.beyond.expression);
      negative = subst (λ (z : ℤ). z <ℤ pos 0) (sym (f.number n.beyond.coefficients n.beyond.expression.one_each)) n.beyond.negative;
    };
  };
  vertex = vertex;
}
  where
    lu : length u ≡ d
    lu = h.motion.undone.square.rows

    p2 : List ℤ
    p2 = carried_shift u h.shift p k.shift

    lp2 : length p2 ≡ d
    lp2 = length-carried_shift d u h.shift p k.shift lu h.motion.shift k.motion.shift

    f : HasCarriedPlace d u v s s2 h i
    f = carried_place d u v s s2 i h hi

    g : HasCarriedPlace d u v next next2 k j
    g = carried_place d u v next next2 j k n.place

    a : List (List ℤ)
    a = translate p next

    a2 : List (List ℤ)
    a2 = translate p2 next2

    asc_a : IsStrictlySortedBy number_list_cmp a
    asc_a = ascending_translate d p next n.dimension k.origin.simplex.points k.origin.ascending

    asc_a2 : IsStrictlySortedBy number_list_cmp a2
    asc_a2 = ascending_translate d p2 next2 lp2 k.target.simplex.points k.target.ascending

    within_next : j < length next
    within_next = omega (arith, k.origin.simplex.count, n.place)

    within_next2 : g.place < length next2
    within_next2 = omega (arith, k.target.simplex.count, g.within)

    vertex : get_or a2 g.place [] ≡ moved u h.shift (get_or a j [])
    vertex =
        get-map (λ y. plus y p2) next2 g.place [] [] within_next2 ∙ ap (λ y. plus y p2) g.vertex ∙ moved_and_shifted d u h.shift p k.shift (get_or next j []) lu h.motion.shift k.motion.shift
        ∙ ap (moved u h.shift) (sym (get-map (λ y. plus y p) next j [] [] within_next))

    facet_a : IsImage u h.shift (without i s) (without g.place a2)
    facet_a =
        subst (λ (l : List (List ℤ)). IsImage u h.shift l (without g.place a2)) n.facet
        (image_without d u h.shift v h.back a a2 j g.place h.motion (image_translated d u h.shift p k.shift next next2 lu h.motion.shift k.motion.shift k.image) (translate_all d p next n.dimension k.origin.simplex.points)
        (sorted_is_distinct number_list_cmp number_list_cmp_total a asc_a) (sorted_is_distinct number_list_cmp number_list_cmp_total a2 asc_a2)
        (omega (arith, length-translate p next, within_next)) (omega (arith, length-translate p2 next2, within_next2)) vertex)

    facet_s : IsImage u h.shift (without i s) (without f.place s2)
    facet_s =
        image_without d u h.shift v h.back s s2 i f.place h.motion h.image h.origin.simplex.points (class_distinct d s h.origin) (class_distinct d s2 h.target)
        (omega (arith, h.origin.simplex.count)) (omega (arith, h.target.simplex.count, f.within)) f.vertex

-- ---- closed

pub closed_carried : (d : ℕ) (u : List (List ℤ)) (t t2 : List (List (List ℤ))) → AreClasses d t → Carries d u t t2 → IsClosed d t → IsClosed d t2
unfolding carried_back
closed_carried d u t t2 classes h closed s2 i2 m hi2 = at (carries_from d u t t2 s2 classes h m)
  where
    at : HasOrigin d u h.inverse t s2 → (next : List (List ℤ)) × (p : List ℤ) × (j : ℕ) × IsNeighbour d t2 s2 i2 next p j
    at o = across (closed o.list i.place o.member i.within)
      where
        v : List (List ℤ)
        v = h.inverse

        back : IsCarried d v u s2 o.list
        back = carried_back d u v o.list s2 o.is

        i : HasCarriedPlace d v u s2 o.list back i2
        i = carried_place d v u s2 o.list i2 back hi2

        across : ((next : List (List ℤ)) × (p : List ℤ) × (j : ℕ) × IsNeighbour d t o.list i.place next p j) → (next : List (List ℤ)) × (p : List ℤ) × (j : ℕ) × IsNeighbour d t2 s2 i2 next p j
        across (next, p, j, n) =
            let k : HasCarried d u v next = has_carried d u v next (carries_undone d u t t2 h) (classes next n.member) in
            let r : HasCarriedNeighbour d u v t2 o.list s2 o.is i.place k.list (get_or (translate p next) j []) = carried_neighbour d u v t t2 o.list s2 next k.list p i.place j o.is k.is (carries_to d u t t2 next k.list h n.member k.is) i.within n in
            let l2 : i2 < length s2 = omega (arith, o.is.target.simplex.count, hi2) in
            let points : get_or s2 r.facet.place [] ≡ get_or s2 i2 [] =
            r.facet.vertex ∙ ap (moved u o.is.shift) i.vertex
            ∙ moved_back d v o.is.back u o.is.shift (get_or s2 i2 []) (motion_back d u o.is.shift v o.is.back o.is.motion) (length_of_member d s2 (get_or s2 i2 []) o.is.target.simplex.points (Contains-get_or s2 i2 [] l2))
            in
            let places : r.facet.place ≡ i2 = same_place s2 r.facet.place i2 [] (class_distinct d s2 o.is.target) (omega (arith, o.is.target.simplex.count, r.facet.within)) l2 points in
            (k.list, r.shift, r.outer, subst (λ (e : ℕ). IsNeighbour d t2 s2 e k.list r.shift r.outer) places r.neighbour)

-- ---- Delaunay

pub positive_pulled : (d : ℕ) (u v : List (List ℤ)) (q : List ℤ) → IsUndone d u v → IsPositiveDefinite d q → IsPositiveDefinite d (pulled q v)
positive_pulled d u v q h k = record {
  numbers = length-pulled d q v h.other k.numbers;
  positive = λ x lx some. subst (λ (n : ℤ). pos 0 <ℤ n) (sym (value-pulled d q v x h.other.columns lx))
      (k.positive (apply v x) (length-apply v x ∙ h.other.rows) (λ e. some (sym (h.right x lx) ∙ ap (apply u) e ∙ apply-zeros u d ∙ ap zeros h.square.rows)));
}

-- the image of the Delaunay triangulation of q is that of q at the inverse images
pub delaunay_carried : (d : ℕ) (u : List (List ℤ)) (t t2 : List (List (List ℤ))) (q : List ℤ) → (h : Carries d u t t2) → IsStrictlySortedBy simplex_cmp t2 → IsDelaunay d q t → IsDelaunay d (pulled q h.inverse) t2
delaunay_carried d u t t2 q h asc k = record {
  positive = positive_pulled d u v q undo k.positive;
  occupied = occupied;
  ascending = asc;
  members = λ s2. (λ m. members_to s2 (carries_from d u t t2 s2 classes h m), λ m. members_from s2 m.0 m.1);
  closed = closed_carried d u t t2 classes h k.closed;
}
  where
    v : List (List ℤ)
    v = h.inverse

    undo : IsUndone d u v
    undo = carries_undone d u t t2 h

    classes : AreClasses d t
    classes s m = ((k.members s).0 m).0

    agree : Agree d u q (pulled q v)
    agree = agree_pulled d u v q undo

    occupied : 0 < length t2
    occupied = at (Contains-get_or t 0 [] k.occupied)
      where
        at : Contains t (get_or t 0 []) → 0 < length t2
        at m =
            let c = has_carried d u v (get_or t 0 []) undo (classes (get_or t 0 []) m) in
            within (carries_to d u t t2 (get_or t 0 []) c.list h m c.is)
          where
            within : {s : List (List ℤ)} → Contains t2 s → 0 < length t2
            within (i, l, e) = omega (arith, l)

    members_to : (s2 : List (List ℤ)) → HasOrigin d u v t s2 → IsClass d s2 × IsStrictlyEmpty d (pulled q v) s2
    members_to s2 o = (o.is.target, carried_empty d u v q (pulled q v) o.list s2 o.is agree ((k.members o.list).0 o.member).1)

    members_from : (s2 : List (List ℤ)) → IsClass d s2 → IsStrictlyEmpty d (pulled q v) s2 → Contains t2 s2
    members_from s2 c e =
        let o = has_carried d v u s2 (undone_back d u v undo) c in
        let m : Contains t o.list = (k.members o.list).1 (o.is.target, carried_empty d v u (pulled q v) q s2 o.list o.is (agree_back d u v q (pulled q v) undo agree) e) in
        carries_to d u t t2 o.list s2 h m (carried_back d v u s2 o.list o.is)
