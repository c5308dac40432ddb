-- The outer vertex of a neighbour lies near all vertices of the member.
use Rattle.std.proofs.Common.{◌≡◌, ℕ, suc, ℤ, negsuc, ◌+◌, ◌*◌, ◌<◌, ap, ap₂, arith, sym, ◌∙◌, subst, List, [], ◌∷◌, length, get_or, ◌⊎◌, inl, inr, ◌+ℤ◌, ◌*ℤ◌}
use Rattle.std.proofs.lemmas.Int.{ints}
use Rattle.std.specs.List.{All, Contains}
use Rattle.std.proofs.lemmas.List.Elements.{Contains-get_or}
use Rattle.lt_model.proofs.Sets.{Contains-cases, each_holds}
use Rattle.lt_model.proofs.Squares.{length-plus}
use Rattle.lt_model.proofs.Vectors.{dot-plus, dot-scale}
use Rattle.lt_model.proofs.Excess.{same_from_dots, length-translate}
use Rattle.lt_model.proofs.Moved.{translate_all}
use Rattle.lt_model.specs.Limits.{span_limit}
use Rattle.lt_model.specs.Vectors.{plus, minus, scale, dot}
use Rattle.lt_model.specs.Simplices.{AllOfDimension, IsClass, translate}
use Rattle.lt_model.specs.Facets.{without, IsNeighbour}
use Rattle.lt_model.proofs.Translates.{from_translate}
use Rattle.lt_lattice.specs.Ranges.{IsWithin}
use Rattle.lt_triang.specs.Across.{IsOuterVertex}
use Rattle.lt_triang.specs.Bounds.{AreNear}
use Rattle.lt_triang.specs.Kept.{IsTriangulation}
use Rattle.lt_triang.proofs.Gaps.{member_near, double_limit}
use Rattle.lt_lattice.proofs.Padded.{length-minus}
use Rattle.lt_triang.proofs.Least.{minus-plus}
use Rattle.lt_triang.proofs.Shifts.{within_plus, within_more, count_without, contains_without}
use Rattle.lt_triang.proofs.Made.{classes_of}

minus_split : (d : ℕ) (x u y : List ℤ) → length x ≡ d → length u ≡ d → length y ≡ d → plus (minus x u) (minus u y) ≡ minus x y
minus_split d x u y lx lu ly =
    let l1 : length (minus x u) ≡ d = length-minus x u (lx ∙ sym lu) ∙ lx in
    let l2 : length (minus u y) ≡ d = length-minus u y (lu ∙ sym ly) ∙ lu in
    let l3 : length (minus x y) ≡ d = length-minus x y (lx ∙ sym ly) ∙ lx in
    same_from_dots (plus (minus x u) (minus u y)) (minus x y) (length-plus (minus x u) (minus u y) (l1 ∙ sym l2) ∙ l1 ∙ sym l3)
    (λ v. end v (dot-plus v (minus x u) (minus u y)) (dot-plus v x (scale (negsuc 0) u)) (dot-scale v (negsuc 0) u) (dot-plus v u (scale (negsuc 0) y)) (dot-scale v (negsuc 0) y) (dot-plus v x (scale (negsuc 0) y)))
  where
    end : (v : List ℤ) → dot v (plus (minus x u) (minus u y)) ≡ dot v (minus x u) +ℤ dot v (minus u y) → dot v (minus x u) ≡ dot v x +ℤ dot v (scale (negsuc 0) u) → dot v (scale (negsuc 0) u) ≡ negsuc 0 *ℤ dot v u →
        dot v (minus u y) ≡ dot v u +ℤ dot v (scale (negsuc 0) y) → dot v (scale (negsuc 0) y) ≡ negsuc 0 *ℤ dot v y → dot v (minus x y) ≡ dot v x +ℤ dot v (scale (negsuc 0) y) → dot v (plus (minus x u) (minus u y)) ≡ dot v (minus x y)
    end v a b c e f g = omega (arith, ints, a, b, c, e, f, g)

pub near_translate : (d m : ℕ) (p : List ℤ) (vs : List (List ℤ)) → length p ≡ d → AllOfDimension d vs → AreNear m vs → AreNear m (translate p vs)
near_translate d m p vs lp all near x y cx cy =
    let u = from_translate p vs x cx in
    let v = from_translate p vs y cy in
    let lu : length u.0 ≡ d = each_holds (λ z. length z ≡ d) vs u.0 all u.1 in
    let lv : length v.0 ≡ d = each_holds (λ z. length z ≡ d) vs v.0 all v.1 in
    subst (λ (z : List ℤ). All (IsWithin m) z) (sym (minus-plus d u.0 v.0 p lu lv lp) ∙ ap₂ minus u.2 v.2) (near u.0 v.0 u.1 v.1)

pub record IsNearOuter (d : ℕ) (s : List (List ℤ)) (w : List ℤ) : Type 0 where
  pub dimension : length w ≡ d
  pub near : AreNear (2 * span_limit d) (w ∷ s)

pub outer_near : (d : ℕ) (t : List (List (List ℤ))) (s : List (List ℤ)) (i : ℕ) (w : List ℤ) → IsTriangulation d t → Contains t s → i < suc d → IsOuterVertex d t s i w → IsNearOuter d s w
outer_near d t s i w h ms hi o = record { dimension = lw; near = near }
  where
    m : ℕ
    m = span_limit d

    next : List (List ℤ)
    next = o.next

    nb : IsNeighbour d t s i o.next o.shift o.outer
    nb = o.neighbour

    k : IsClass d s
    k = h.classes s ms

    k' : IsClass d next
    k' = h.classes next nb.member

    moved : List (List ℤ)
    moved = translate o.shift next

    lm : length moved ≡ suc d
    lm = length-translate o.shift next ∙ k'.simplex.count

    all : AllOfDimension d moved
    all = translate_all d o.shift next nb.dimension k'.simplex.points

    own : AreNear m s
    own = member_near d t s (classes_of d t h) ms

    there : AreNear m moved
    there = near_translate d m o.shift next nb.dimension k'.simplex.points (member_near d t next (classes_of d t h) nb.member)

    cw : Contains moved w
    cw = subst (Contains moved) (sym o.vertex) (Contains-get_or moved o.outer [] (omega (arith, lm, nb.place)))

    lw : length w ≡ d
    lw = each_holds (λ z. length z ≡ d) moved w all cw

    some : 0 < length (without i s)
    some = count_without d i s h.low k.simplex.count hi

    u : List ℤ
    u = get_or (without i s) 0 []

    us : Contains s u
    us = contains_without i s u (Contains-get_or (without i s) 0 [] some)

    um : Contains moved u
    um = contains_without o.outer moved u (subst (λ (l : List (List ℤ)). Contains l u) (sym nb.facet) (Contains-get_or (without i s) 0 [] some))

    lu : length u ≡ d
    lu = each_holds (λ z. length z ≡ d) s u k.simplex.points us

    twice : (x : List ℤ) → All (IsWithin (m + m)) x → All (IsWithin (2 * m)) x
    twice x = within_more (m + m) (2 * m) x (omega (arith, double_limit d))

    step : (x y : List ℤ) → length x ≡ d → length y ≡ d → All (IsWithin m) (minus x u) → All (IsWithin m) (minus u y) → All (IsWithin (2 * m)) (minus x y)
    step x y lx ly a b =
        let l1 : length (minus x u) ≡ d = length-minus x u (lx ∙ sym lu) ∙ lx in
        let l2 : length (minus u y) ≡ d = length-minus u y (lu ∙ sym ly) ∙ lu in
        twice (minus x y) (subst (λ (z : List ℤ). All (IsWithin (m + m)) z) (minus_split d x u y lx lu ly) (within_plus m m (minus x u) (minus u y) (l1 ∙ sym l2) a b))

    near : AreNear (2 * m) (w ∷ s)
    near x y cx cy = go (Contains-cases w s x cx) (Contains-cases w s y cy)
      where
        at_w : (z : List ℤ) → w ≡ z → (All (IsWithin m) (minus z u)) × (All (IsWithin m) (minus u z)) × (length z ≡ d)
        at_w z e = (subst (λ (v : List ℤ). All (IsWithin m) (minus v u)) e (there w u cw um), subst (λ (v : List ℤ). All (IsWithin m) (minus u v)) e (there u w um cw), sym (ap length e) ∙ lw)

        in_s : (z : List ℤ) → Contains s z → (All (IsWithin m) (minus z u)) × (All (IsWithin m) (minus u z)) × (length z ≡ d)
        in_s z c = (own z u c us, own u z us c, each_holds (λ v. length v ≡ d) s z k.simplex.points c)

        both : (z : List ℤ) → (w ≡ z) ⊎ Contains s z → (All (IsWithin m) (minus z u)) × (All (IsWithin m) (minus u z)) × (length z ≡ d)
        both z (inl e) = at_w z e
        both z (inr c) = in_s z c

        go : (w ≡ x) ⊎ Contains s x → (w ≡ y) ⊎ Contains s y → All (IsWithin (2 * m)) (minus x y)
        go p q = step x y (both x p).2 (both y q).2 (both x p).0 (both y q).1
