-- Each matrix that carries comes from an order of the vertices of a member.
use Rattle.std.proofs.lemmas.List.Elements.{Contains-get_or}
use Rattle.std.proofs.lemmas.List.{get_or_default}
use Rattle.std.proofs.Common.{◌≡◌, ℕ, zero, suc, ℤ, pos, negsuc, ◌-ℤ◌, ◌*ℤ◌, ◌<ℤ◌, ◌<◌, ◌≤◌, ◌⊎◌, refl, ap, arith, sym, ◌∙◌, subst, List, [], ◌∷◌, length, map, get_or, inl, inr}
use Rattle.std.proofs.lemmas.Int.{ints}
use Rattle.std.specs.List.{Contains}
use Rattle.lt_model.specs.Matrices.{apply, IsSquare, Carries}
use Rattle.lt_model.specs.Principal.{IsOrder}
use Rattle.lt_model.specs.Simplices.{IsSimplex, IsClass, IsClassOf, translate}
use Rattle.lt_model.specs.Vectors.{plus, minus, scale, dot, combine, zeros}
use Rattle.lt_model.proofs.Dependent.{zero_or_not, mul-not_zero}
use Rattle.lt_model.proofs.Excess.{dot-combine, same_from_dots}
use Rattle.lt_model.proofs.Expressions.{has_weighted, HasWeighted}
use Rattle.lt_model.proofs.Integers.{spread}
use Rattle.lt_model.proofs.Sets.{Contains-head, Contains-tail, Contains-cases, Contains-none, Contains-map}
use Rattle.lt_model.proofs.Squares.{length-scale}
use Rattle.lt_model.proofs.Vectors.{dot-scale, plus_comm}
use Rattle.lt_model.proofs.Moved.{plus-back}
use Rattle.lt_model.proofs.Points.{length-apply, plus-zeros}
use Rattle.lt_geometry.proofs.Images.{class_distinct, IsCarried, has_carried, carries_to, carries_undone}
use Rattle.lt_geometry.proofs.Matrices.{apply-scale, apply-zeros, dot-apply, same_matrices}
use Rattle.lt_geometry.proofs.Motions.{moved, length_of_member, IsMapped, mapped}
use Rattle.lt_geometry.proofs.Rearranged.{IsDistinct, same_place, no_longer}
pub use Rattle.lt_geometry.specs.Carrying.{AreClasses, IsCandidate, IsFromAnOrder}

-- ---- a matrix is determined by the images of the vertices of a simplex

cancel : (c a b : ℤ) → pos 0 <ℤ c → c *ℤ a ≡ c *ℤ b → a ≡ b
cancel c a b h e =
    elim (zero_or_not (a -ℤ b)) [
      | inl z ↦ equal a b z
      | inr n ↦ absurd (mul-not_zero c (a -ℤ b) (λ z. positive c h z) n (spread_out c a b ∙ (difference (c *ℤ a) (c *ℤ b) e)))
    ]
  where
    equal : (a b : ℤ) → a -ℤ b ≡ pos 0 → a ≡ b
    equal a b z = omega (arith, ints, z)

    positive : (c : ℤ) → pos 0 <ℤ c → c ≡ pos 0 → ⊥
    positive c h z = omega (arith, ints, h, z)

    spread_out : (c a b : ℤ) → c *ℤ (a -ℤ b) ≡ c *ℤ a -ℤ c *ℤ b
    spread_out c a b = simp spread (omega (arith, ints))

    difference : (x y : ℤ) → x ≡ y → x -ℤ y ≡ pos 0
    difference x y e = omega (arith, ints, e)

pub map_same_members : (f g : List ℤ → ℤ) (vs : List (List ℤ)) → ((x : List ℤ) → Contains vs x → f x ≡ g x) → map f vs ≡ map g vs
map_same_members f g [] h = refl
map_same_members f g (v ∷ vs) h = rw (h v (Contains-head v vs), map_same_members f g vs (λ x c. h x (Contains-tail v vs x c))) refl

pub same_on_simplex : (d : ℕ) (s : List (List ℤ)) (u w : List (List ℤ)) → IsSimplex d s → IsSquare d u → IsSquare d w → ((x : List ℤ) → Contains s x → apply u x ≡ apply w x) → u ≡ w
same_on_simplex d s u w simplex su sw h = same_matrices d u w su.columns sw.columns (su.rows ∙ sym sw.rows) (λ x lx. at x (has_weighted d s (pos 1) x simplex lx))
  where
    sum : (u : List (List ℤ)) (y x : List ℤ) (k : HasWeighted s (pos 1) x) → k.c *ℤ dot y (apply u x) ≡ dot k.b (map (λ v. dot y (apply u v)) s)
    sum u y x k =
        sym (dot-scale y k.c (apply u x)) ∙ ap (dot y) (sym (apply-scale u k.c x) ∙ ap (apply u) (sym k.is.point)) ∙ dot-apply y u (combine k.b s) ∙ dot-combine (combine y u) k.b s ∙ ap (dot k.b) (each s)
      where
        each : (vs : List (List ℤ)) → map (dot (combine y u)) vs ≡ map (λ v. dot y (apply u v)) vs
        each [] = refl
        each (v ∷ vs) = rw (each vs, ← dot-apply y u v) refl

    at : (x : List ℤ) → HasWeighted s (pos 1) x → apply u x ≡ apply w x
    at x k =
        same_from_dots (apply u x) (apply w x) (length-apply u x ∙ su.rows ∙ sym (length-apply w x ∙ sw.rows))
        (λ y. cancel k.c (dot y (apply u x)) (dot y (apply w x)) k.is.positive (sum u y x k ∙ ap (dot k.b) (map_same_members (λ v. dot y (apply u v)) (λ v. dot y (apply w v)) s (λ v c. ap (dot y) (h v c))) ∙ sym (sum w y x k)))

-- an order of the vertices has at most one candidate
pub one_candidate : (d : ℕ) (s s2 : List (List ℤ)) (p : List ℕ) (u w : List (List ℤ)) → IsSimplex d s → IsCandidate d s s2 p u → IsCandidate d s s2 p w → u ≡ w
one_candidate d s s2 p u w simplex h k = same_on_simplex d s u w simplex h.square k.square (λ x c. at x c)
  where
    at : (x : List ℤ) → Contains s x → apply u x ≡ apply w x
    at x (i, l, e) =
        let is : get_or s i [] ≡ x = get_or_default s i [] x l ∙ e in
        let hi : i < suc d = omega (arith, simplex.count, l) in
        ap (apply u) (sym is) ∙ h.images i hi ∙ sym (k.images i hi) ∙ ap (apply w) is

-- ---- each matrix that carries is a candidate

-- the places in s2 of the moved points
abbrev places : (f : List ℤ → List ℤ) (vs s2 : List (List ℤ)) → ((x : List ℤ) → Contains vs x → Contains s2 (f x)) → List ℕ
places f [] s2 h = []
places f (v ∷ vs) s2 h = (h v (Contains-head v vs)).0 ∷ places f vs s2 (λ x c. h x (Contains-tail v vs x c))

length-places : (f : List ℤ → List ℤ) (vs s2 : List (List ℤ)) (h : (x : List ℤ) → Contains vs x → Contains s2 (f x)) → length (places f vs s2 h) ≡ length vs
length-places f [] s2 h = refl
length-places f (v ∷ vs) s2 h = ap suc (length-places f vs s2 (λ x c. h x (Contains-tail v vs x c)))

record IsPlaceOf (s2 : List (List ℤ)) (y : List ℤ) (k : ℕ) : Type 0 where
  within : k < length s2
  is : get_or s2 k [] ≡ y

place_at : (f : List ℤ → List ℤ) (vs s2 : List (List ℤ)) (h : (x : List ℤ) → Contains vs x → Contains s2 (f x)) (i : ℕ) → i < length vs → IsPlaceOf s2 (f (get_or vs i [])) (get_or (places f vs s2 h) i 0)
place_at f [] s2 h i l = absurd (omega arith)
place_at f (v ∷ vs) s2 h zero l =
    let c : Contains s2 (f v) = h v (Contains-head v vs) in
    record { within = c.1; is = get_or_default s2 c.0 [] (f v) c.1 ∙ c.2 }
place_at f (v ∷ vs) s2 h (suc i) l = place_at f vs s2 (λ x c. h x (Contains-tail v vs x c)) i (omega arith)

pub carried_order : (d : ℕ) (t2 : List (List (List ℤ))) (u v : List (List ℤ)) (s s2 : List (List ℤ)) → Contains t2 s2 → IsCarried d u v s s2 → IsFromAnOrder d t2 s u
carried_order d t2 u v s s2 m k = record {
  to = s2;
  member = m;
  order = p;
  is_order = record { count = lp ∙ k.origin.simplex.count; each = λ j hj. each j hj (k.image.from (get_or s2 j []) (Contains-get_or s2 j [] (omega (arith, k.target.simplex.count, hj)))) };
  candidate = record { square = k.motion.undone.square; images = images };
}
  where
    f : List ℤ → List ℤ
    f = moved u k.shift

    p : List ℕ
    p = places (moved u k.shift) s s2 k.image.to

    lp : length p ≡ length s
    lp = length-places f s s2 k.image.to

    place : (i : ℕ) → i < suc d → IsPlaceOf s2 (moved u k.shift (get_or s i [])) (get_or p i 0)
    place i hi = place_at f s s2 k.image.to i (omega (arith, k.origin.simplex.count, hi))

    each : (j : ℕ) → j < suc d → ((x : List ℤ) × Contains s x × (moved u k.shift x ≡ get_or s2 j [])) → Contains p j
    each j hj (x, (i, l, e), is) =
        let hi : i < suc d = omega (arith, k.origin.simplex.count, l) in
        let q : IsPlaceOf s2 (moved u k.shift (get_or s i [])) (get_or p i 0) = place i hi in
        let points : get_or s2 (get_or p i 0) [] ≡ get_or s2 j [] = q.is ∙ ap (moved u k.shift) (get_or_default s i [] x l ∙ e) ∙ is in
        let same : get_or p i 0 ≡ j = same_place s2 (get_or p i 0) j [] (class_distinct d s2 k.target) q.within (omega (arith, k.target.simplex.count, hj)) points in
        let li : i < length p = omega (arith, lp, l) in
        (i, li, get_or_default p i j 0 li ∙ same)

    first : get_or s2 (get_or p 0 0) [] ≡ k.shift
    first =
        (place 0 (omega arith)).is ∙ ap (λ x. plus (apply u x) k.shift) k.origin.first ∙ ap (λ x. plus x k.shift) (apply-zeros u d ∙ ap zeros k.motion.undone.square.rows) ∙ plus_comm (zeros d) k.shift
        ∙ plus-zeros d k.shift k.motion.shift

    images : (i : ℕ) → i < suc d → apply u (get_or s i []) ≡ minus (get_or s2 (get_or p i 0) []) (get_or s2 (get_or p 0 0) [])
    images i hi =
        sym (ap (λ x. minus x (get_or s2 (get_or p 0 0) [])) (place i hi).is ∙ ap (minus (moved u k.shift (get_or s i []))) first
        ∙ plus-back d (apply u (get_or s i [])) k.shift (length-apply u (get_or s i []) ∙ k.motion.undone.square.rows) k.motion.shift)

-- a matrix that carries t onto t2 is the candidate of some member of t2 and some order, for each member s of t
pub carries_is_candidate : (d : ℕ) (u : List (List ℤ)) (t t2 : List (List (List ℤ))) (s : List (List ℤ)) → AreClasses d t → Carries d u t t2 → Contains t s → IsFromAnOrder d t2 s u
carries_is_candidate d u t t2 s classes h m =
    let k = has_carried d u h.inverse s (carries_undone d u t t2 h) (classes s m) in
    carried_order d t2 u h.inverse s k.list (carries_to d u t t2 s k.list h m k.is) k.is

-- ---- a member and a matrix have one order

-- ---- an order's numbers are below its length

-- the numbers from n down to 0
abbrev pub down_from : ℕ → List ℕ
down_from zero = []
down_from (suc n) = n ∷ down_from n

pub down_below : (n k : ℕ) → Contains (down_from n) k → k < n
down_below zero k c = Contains-none k c
down_below (suc n) k c = elim (Contains-cases n (down_from n) k c) [ inl e ↦ omega (arith, e) | inr r ↦ let h = down_below n k r in omega (arith, h) ]

pub length-down : (n : ℕ) → length (down_from n) ≡ n
length-down zero = refl
length-down (suc n) = ap suc (length-down n)

pub distinct_down : (n : ℕ) → IsDistinct (down_from n)
distinct_down zero = tt
distinct_down (suc n) = (λ c. let h = down_below n n c in omega (arith, h), distinct_down n)

-- a list of n numbers that holds each number below n holds no other
pub below : (p : List ℕ) (n m : ℕ) → length p ≡ n → n ≡ m → ((j : ℕ) → j < n → Contains p j) → (i : ℕ) → i < n → get_or p i 0 < m
below p n m lp e each i hi = by (get_or p i 0) refl (lt_or_ge (get_or p i 0) m)
  where
    lt_or_ge : (a b : ℕ) → (a < b) ⊎ (b ≤ a)
    lt_or_ge a zero = inr (omega arith)
    lt_or_ge zero (suc b) = inl (omega arith)
    lt_or_ge (suc a) (suc b) = elim (lt_or_ge a b) [ inl h ↦ inl (omega (arith, h)) | inr h ↦ inr (omega (arith, h)) ]

    by : (k : ℕ) → get_or p i 0 ≡ k → (k < m) ⊎ (m ≤ k) → k < m
    by k is (inl h) = h
    by k is (inr h) =
        let li : i < length p = omega (arith, lp, hi) in
        let others : length (k ∷ down_from n) ≤ length p =
        no_longer p (k ∷ down_from n) (λ c. (let b = down_below n k c in omega (arith, b, h, e)), distinct_down n)
        (λ x c. elim (Contains-cases k (down_from n) x c) [
          | inl f ↦ subst (λ (z : ℕ). Contains p z) (is ∙ f) (Contains-get_or p i 0 li)
          | inr r ↦ each x (down_below n x r)
        ])
        in
        absurd (omega (arith, others, length-down n, lp))

-- the class of the image of s under a candidate is the class whose vertices it is made from
pub candidate_class : (d : ℕ) (s s2 : List (List ℤ)) (p : List ℕ) (u : List (List ℤ)) → IsClass d s → IsClass d s2 → IsOrder (suc d) p → IsCandidate d s s2 p u → IsClassOf d (map (apply u) s) s2
candidate_class d s s2 p u c c2 o k = record {
  shift = scale (negsuc 0) (get_or s2 (get_or p 0 0) []);
  dimension = length-scale (negsuc 0) (get_or s2 (get_or p 0 0) []) ∙ length_of_member d s2 (get_or s2 (get_or p 0 0) []) c2.simplex.points (Contains-get_or s2 (get_or p 0 0) [] first_within);
  «class» = c2;
  same = λ y. (λ m. to y (mapped (apply u) s y m), λ m. from y (mapped (λ x. plus x t) s2 y m));
}
  where
    t : List ℤ
    t = scale (negsuc 0) (get_or s2 (get_or p 0 0) [])

    within : (i : ℕ) → i < suc d → get_or p i 0 < length s2
    within i hi = below p (suc d) (length s2) o.count (sym c2.simplex.count) o.each i hi

    first_within : get_or p 0 0 < length s2
    first_within = within 0 (omega arith)

    to : (y : List ℤ) → IsMapped (apply u) s y → Contains (translate t s2) y
    to y m = at m.member
      where
        at : Contains s m.from → Contains (translate t s2) y
        at (i, l, e) =
            let hi : i < suc d = omega (arith, c.simplex.count, l) in
            let is : plus (get_or s2 (get_or p i 0) []) t ≡ y = sym (k.images i hi) ∙ ap (apply u) (get_or_default s i [] m.from l ∙ e) ∙ m.is in
            subst (λ (z : List ℤ). Contains (translate t s2) z) is (Contains-map (λ x. plus x t) s2 (get_or s2 (get_or p i 0) []) (Contains-get_or s2 (get_or p i 0) [] (within i hi)))

    from : (y : List ℤ) → IsMapped (λ x. plus x t) s2 y → Contains (map (apply u) s) y
    from y m = at m.member
      where
        at : Contains s2 m.from → Contains (map (apply u) s) y
        at (j, l, e) = found (o.each j (omega (arith, c2.simplex.count, l)))
          where
            found : Contains p j → Contains (map (apply u) s) y
            found (i, li, f) =
                let hi : i < suc d = omega (arith, o.count, li) in
                let same : get_or p i 0 ≡ j = get_or_default p i 0 j li ∙ f in
                let is : apply u (get_or s i []) ≡ y =
                k.images i hi ∙ ap (λ (x : List ℤ). plus x t) (ap (λ n. get_or s2 n []) same ∙ get_or_default s2 j [] m.from l ∙ e) ∙ m.is
                in
                subst (λ (z : List ℤ). Contains (map (apply u) s) z) is (Contains-map (apply u) s (get_or s i []) (Contains-get_or s i [] (omega (arith, c.simplex.count, hi))))
