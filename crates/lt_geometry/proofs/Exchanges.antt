-- Flips of the plane's principal triangulation, given what is known of its facets.
use Rattle.std.proofs.Common.{◌≡◌, ℕ, zero, suc, ℤ, pos, negsuc, ◌+ℤ◌, ◌*ℤ◌, ◌<ℤ◌, ◌<◌, refl, arith, sym, subst, List, [], ◌∷◌, length, ◌⊎◌, inl, inr}
use Rattle.std.proofs.lemmas.Int.{ints}
use Rattle.std.specs.List.{Contains}
use Rattle.std.specs.List.Sorted.{IsStrictlySortedBy}
use Rattle.std.specs.declared.cmp.Ordering.TheVariants.{Less}
use Rattle.lt_model.specs.Order.{number_list_cmp, simplex_cmp}
use Rattle.lt_model.specs.Vectors.{scale, zeros, combine}
use Rattle.lt_model.specs.Simplices.{AreIndependent, IsClass, IsClassOf, translate}
use Rattle.lt_model.specs.Facets.{without, number_at}
use Rattle.lt_model.specs.Walls.{IsPair}
use Rattle.lt_model.specs.Flips.{IsExchanged, IsFlipOf}
use Rattle.lt_model.proofs.Ring.{ring, var, num, ◌⊗◌}
use Rattle.lt_model.proofs.Walk.{number_at-scale}
use Rattle.lt_geometry.specs.Plane.{point, left_class, right_class, plane}
use Rattle.lt_geometry.proofs.Classes.{one_class}
use Rattle.lt_geometry.proofs.Plane.{plane_cases}
use Rattle.lt_geometry.proofs.PlanePairs.{IsKnown, known_pair, that}

-- two vectors of the plane that no numbers but zeros combine to 0
abbrev pub AreApart : List ℤ → List ℤ → Type 0
AreApart v w = (y z : ℤ) → combine (y ∷ z ∷ []) (v ∷ w ∷ []) ≡ zeros 2 → (y ≡ pos 0) × (z ≡ pos 0)

three_independent : (a b c d : ℤ) → AreApart (point a b) (point c d) → AreIndependent 2 (point (pos 0) (pos 0) ∷ point a b ∷ point c d ∷ [])
three_independent a b c d apart [] l sum none = absurd (omega arith)
three_independent a b c d apart (x ∷ []) l sum none = absurd (omega arith)
three_independent a b c d apart (x ∷ y ∷ []) l sum none = absurd (omega arith)
three_independent a b c d apart (x ∷ y ∷ z ∷ w ∷ rest) l sum none = absurd (omega arith)
three_independent a b c d apart (x ∷ y ∷ z ∷ []) l sum none =
    let e1 : x *ℤ pos 0 +ℤ (y *ℤ a +ℤ z *ℤ c) ≡ pos 0 = cc in
    let e2 : x *ℤ pos 0 +ℤ (y *ℤ b +ℤ z *ℤ d) ≡ pos 0 = cc in
    let f1 : y *ℤ a +ℤ z *ℤ c ≡ pos 0 = omega (arith, ints, e1) in
    let f2 : y *ℤ b +ℤ z *ℤ d ≡ pos 0 = omega (arith, ints, e2) in
    let zs = apart y z cc in
    let x0 : x ≡ pos 0 = omega (arith, ints, sum, zs.0, zs.1) in
    let y0 : y ≡ pos 0 = zs.0 in
    let z0 : z ≡ pos 0 = zs.1 in
    cc

three_ascending : (u v w : List ℤ) → number_list_cmp u v ≡ Less → number_list_cmp u w ≡ Less → number_list_cmp v w ≡ Less → IsStrictlySortedBy number_list_cmp (u ∷ v ∷ w ∷ [])
unfolding IsStrictlySortedBy
three_ascending u v w a b c = ((a, (b, tt)), ((c, tt), (tt, tt)))

pub three_class : (a b c d : ℤ) → number_list_cmp (point (pos 0) (pos 0)) (point a b) ≡ Less → number_list_cmp (point (pos 0) (pos 0)) (point c d) ≡ Less → number_list_cmp (point a b) (point c d) ≡ Less →
    AreApart (point a b) (point c d) → IsClass 2 (point (pos 0) (pos 0) ∷ point a b ∷ point c d ∷ [])
three_class a b c d h k m apart = record {
  simplex = record { count = refl; points = (refl, (refl, (refl, tt))); independent = three_independent a b c d apart };
  ascending = three_ascending (point (pos 0) (pos 0)) (point a b) (point c d) h k m;
  first = refl;
}

-- ---- the class of the points without the one at place k

pub at0 : {a b c : List ℤ} → Contains (a ∷ b ∷ c ∷ []) a
at0 = (0, omega arith, refl)

pub at1 : {a b c : List ℤ} → Contains (a ∷ b ∷ c ∷ []) b
at1 = (1, omega arith, refl)

pub at2 : {a b c : List ℤ} → Contains (a ∷ b ∷ c ∷ []) c
at2 = (2, omega arith, refl)

within : {a b c : List ℤ} (ys : List (List ℤ)) → Contains ys a → Contains ys b → Contains ys c → (x : List ℤ) → Contains (a ∷ b ∷ c ∷ []) x → Contains ys x
within ys ha hb hc x (zero, p, e) = subst (Contains ys) e ha
within ys ha hb hc x (suc zero, p, e) = subst (Contains ys) e hb
within ys ha hb hc x (suc (suc zero), p, e) = subst (Contains ys) e hc
within ys ha hb hc x (suc (suc (suc k)), p, e) = absurd (omega arith)

-- the class without the point at place k; where the dependency is negative there, it lies across
pub record HasOutcome (flipped : List (List (List ℤ))) (s : List (List ℤ)) (w b : List ℤ) (k : ℕ) : Type 0 where
  pub outcome : List (List ℤ)
  pub class_of : IsClassOf 2 (without k (w ∷ s)) outcome
  pub side : (number_at k (pos 1 ∷ scale (negsuc 0) b) ≡ pos 1) ⊎ ((number_at k (pos 1 ∷ scale (negsuc 0) b) ≡ negsuc 0) × Contains flipped outcome)

abbrev pub HasOutcomes : List (List (List ℤ)) → List (List ℤ) → List ℤ → List ℤ → Type 0
HasOutcomes flipped s w b = (k : ℕ) → k < 4 → HasOutcome flipped s w b k

-- the points a, b, c are x, y, z in some order, and these are the class moved by p
pub arranged : {ps cls : List (List ℤ)} {a b c x y z : List ℤ} (p : List ℤ) → length p ≡ 2 → IsClass 2 cls → ps ≡ a ∷ b ∷ c ∷ [] → translate p cls ≡ x ∷ y ∷ z ∷ [] →
    Contains (x ∷ y ∷ z ∷ []) a → Contains (x ∷ y ∷ z ∷ []) b → Contains (x ∷ y ∷ z ∷ []) c →
    Contains (a ∷ b ∷ c ∷ []) x → Contains (a ∷ b ∷ c ∷ []) y → Contains (a ∷ b ∷ c ∷ []) z → IsClassOf 2 ps cls
arranged {ps} {cls} {a} {b} {c} {x} {y} {z} p l k e f ha hb hc hx hy hz = record {
  shift = p;
  dimension = l;
  «class» = k;
  same = λ v. (into v, from v);
}
  where
    into : (v : List ℤ) → Contains ps v → Contains (translate p cls) v
    into v h = subst (λ (q : List (List ℤ)). Contains q v) (sym f) (within (x ∷ y ∷ z ∷ []) ha hb hc v (subst (λ (q : List (List ℤ)). Contains q v) e h))

    from : (v : List ℤ) → Contains (translate p cls) v → Contains ps v
    from v h = subst (λ (q : List (List ℤ)). Contains q v) (sym e) (within (a ∷ b ∷ c ∷ []) hx hy hz v (subst (λ (q : List (List ℤ)). Contains q v) f h))

-- the class without a point of the positive side
pub kept : {flipped : List (List (List ℤ))} {s cls : List (List ℤ)} {w bs a b c x y z : List ℤ} {k : ℕ} → IsClass 2 cls → number_at k (pos 1 ∷ scale (negsuc 0) bs) ≡ pos 1 →
    (p : List ℤ) → length p ≡ 2 → without k (w ∷ s) ≡ a ∷ b ∷ c ∷ [] → translate p cls ≡ x ∷ y ∷ z ∷ [] →
    Contains (x ∷ y ∷ z ∷ []) a → Contains (x ∷ y ∷ z ∷ []) b → Contains (x ∷ y ∷ z ∷ []) c →
    Contains (a ∷ b ∷ c ∷ []) x → Contains (a ∷ b ∷ c ∷ []) y → Contains (a ∷ b ∷ c ∷ []) z → HasOutcome flipped s w bs k
kept {cls = cls} i n p l e f ha hb hc hx hy hz = record { outcome = cls; class_of = arranged p l i e f ha hb hc hx hy hz; side = inl n }

-- the class without a point of the negative side lies across
pub made : {flipped : List (List (List ℤ))} {s cls : List (List ℤ)} {w bs a b c x y z : List ℤ} {k : ℕ} → IsClass 2 cls → Contains flipped cls → number_at k (pos 1 ∷ scale (negsuc 0) bs) ≡ negsuc 0 →
    (p : List ℤ) → length p ≡ 2 → without k (w ∷ s) ≡ a ∷ b ∷ c ∷ [] → translate p cls ≡ x ∷ y ∷ z ∷ [] →
    Contains (x ∷ y ∷ z ∷ []) a → Contains (x ∷ y ∷ z ∷ []) b → Contains (x ∷ y ∷ z ∷ []) c →
    Contains (a ∷ b ∷ c ∷ []) x → Contains (a ∷ b ∷ c ∷ []) y → Contains (a ∷ b ∷ c ∷ []) z → HasOutcome flipped s w bs k
made {cls = cls} i m n p l e f ha hb hc hx hy hz = record { outcome = cls; class_of = arranged p l i e f ha hb hc hx hy hz; side = inr (n, m) }

-- ---- what is known of a facet with regard to the regulator n

pub data AtFacet (n : List ℤ) (flipped : List (List (List ℤ))) (s : List (List ℤ)) (i : ℕ) : Type 0 where
  is_other : (w b m : List ℤ) → IsKnown s i w b m → (n ≡ m → ⊥) → AtFacet n flipped s i
  is_turned : (w b : List ℤ) → IsKnown s i w b n → HasOutcomes flipped s w b → AtFacet n flipped s i

pub other : {n m w b : List ℤ} {flipped : List (List (List ℤ))} {s : List (List ℤ)} {i : ℕ} → IsKnown s i w b m → (n ≡ m → ⊥) → AtFacet n flipped s i
other {m = m} {w = w} {b = b} k h = is_other w b m k h

pub turned : {n w b : List ℤ} {flipped : List (List (List ℤ))} {s : List (List ℤ)} {i : ℕ} → IsKnown s i w b n → HasOutcomes flipped s w b → AtFacet n flipped s i
turned {w = w} {b = b} k h = is_turned w b k h

-- the classes without a point of the negative side lie across
abbrev pub LiesAcross : List (List (List ℤ)) → List (List ℤ) → List ℤ → ℤ → List ℤ → Type 0
LiesAcross flipped s w c b =
    (k : ℕ) (cls : List (List ℤ)) → k < 4 → pos 0 <ℤ (negsuc 0 *ℤ number_at k (c ∷ scale (negsuc 0) b)) → IsClassOf 2 (without k (w ∷ s)) cls → Contains flipped cls

term_scaled : (c : ℤ) (b : List ℤ) (k : ℕ) → number_at k (c ∷ scale (negsuc 0) (scale c b)) ≡ c *ℤ number_at k (pos 1 ∷ scale (negsuc 0) b)
term_scaled c b zero = omega (arith, ints)
term_scaled c b (suc k) = rw (number_at-scale k (negsuc 0) (scale c b), number_at-scale k c b, number_at-scale k (negsuc 0) b) (end c (number_at k b))
  where
    end : (c x : ℤ) → negsuc 0 *ℤ (c *ℤ x) ≡ c *ℤ (negsuc 0 *ℤ x)
    end c x = ring (c ∷ x ∷ []) (num (negsuc 0) ⊗ (var 0 ⊗ var 1)) (var 0 ⊗ (num (negsuc 0) ⊗ var 1)) tt

scaled_across : (flipped : List (List (List ℤ))) (s : List (List ℤ)) (w b : List ℤ) (c : ℤ) → pos 0 <ℤ c → HasOutcomes flipped s w b → LiesAcross flipped s w c (scale c b)
scaled_across flipped s w b c p o k cls l q h = at (o k l) (subst (λ (x : ℤ). pos 0 <ℤ (negsuc 0 *ℤ x)) (term_scaled c b k) q)
  where
    at : (r : HasOutcome flipped s w b k) → pos 0 <ℤ (negsuc 0 *ℤ (c *ℤ number_at k (pos 1 ∷ scale (negsuc 0) b))) → Contains flipped cls
    at r side = elim r.side [
      | inr e ↦ subst (Contains flipped) (one_class 2 (without k (w ∷ s)) r.outcome cls r.class_of h) e.1
      | inl e ↦ let one : pos 0 <ℤ (negsuc 0 *ℤ (c *ℤ pos 1)) = rw e at side in absurd (omega (arith, ints, p, one))
    ]

across : (n : List ℤ) (flipped : List (List (List ℤ))) (s : List (List ℤ)) → ((i : ℕ) → i < 3 → AtFacet n flipped s i) → (w : List ℤ) (c : ℤ) (b : List ℤ) → IsPair 2 plane n s w c b → LiesAcross flipped s w c b
across n flipped s at w c b h = elim (at h.facet h.place) [
  | is_other v a m k o ↦ absurd (o (that s h.facet v a m k n w c b h refl).normal)
  | is_turned v a k o ↦
      let e = that s h.facet v a n k n w c b h refl in
      let r : LiesAcross flipped s v c (scale c a) = scaled_across flipped s v a c h.expression.positive o in
      subst (λ (x : List ℤ). LiesAcross flipped s w c x) (sym e.multiple) (subst (λ (x : List ℤ). LiesAcross flipped s x c (scale c a)) (sym e.vertex) r)
]

-- a known facet and one of its four points give an exchanged class
pub exchanged : {n w b : List ℤ} {s cls : List (List ℤ)} {i : ℕ} → IsKnown s i w b n → (sign : ℤ) (k : ℕ) → k < 4 → pos 0 <ℤ (sign *ℤ number_at k (pos 1 ∷ scale (negsuc 0) b)) → IsClassOf 2 (without k (w ∷ s)) cls → IsExchanged 2 plane n sign cls
exchanged {n} {w} {b} {s} {cls} {i} known sign k l side h = record {
  base = s;
  vertex = w;
  c = pos 1;
  b = b;
  pair = known_pair s i w b n known;
  place = k;
  within = l;
  side = side;
  class_of = h;
}

-- the flip, where the two members and the two classes across are exchanged
pub flip : {n : List ℤ} {x y : List (List ℤ)} → IsStrictlySortedBy simplex_cmp (x ∷ y ∷ []) →
    ((i : ℕ) → i < 3 → AtFacet n (x ∷ y ∷ []) left_class i) → ((i : ℕ) → i < 3 → AtFacet n (x ∷ y ∷ []) right_class i) →
    IsExchanged 2 plane n (pos 1) left_class → IsExchanged 2 plane n (pos 1) right_class → IsExchanged 2 plane n (negsuc 0) x → IsExchanged 2 plane n (negsuc 0) y → IsFlipOf 2 plane n (x ∷ y ∷ [])
flip {n} {x} {y} sorted at_left at_right out_left out_right in_x in_y = record { ascending = sorted; members = λ s. (into s, from s) }
  where
    into : (s : List (List ℤ)) → Contains (x ∷ y ∷ []) s → (Contains plane s × (IsExchanged 2 plane n (pos 1) s → ⊥)) ⊎ IsExchanged 2 plane n (negsuc 0) s
    into s (zero, p, e) = inr (subst (IsExchanged 2 plane n (negsuc 0)) e in_x)
    into s (suc zero, p, e) = inr (subst (IsExchanged 2 plane n (negsuc 0)) e in_y)
    into s (suc (suc k), p, e) = absurd (omega arith)

    of_pair : (r : List (List ℤ)) (w : List ℤ) (c : ℤ) (b : List ℤ) → IsPair 2 plane n r w c b → LiesAcross (x ∷ y ∷ []) r w c b
    of_pair r w c b h = elim (plane_cases r h.member) [
      | inl e ↦ subst (λ (q : List (List ℤ)). LiesAcross (x ∷ y ∷ []) q w c b) e (across n (x ∷ y ∷ []) left_class at_left w c b (subst (λ (q : List (List ℤ)). IsPair 2 plane n q w c b) (sym e) h))
      | inr e ↦ subst (λ (q : List (List ℤ)). LiesAcross (x ∷ y ∷ []) q w c b) e (across n (x ∷ y ∷ []) right_class at_right w c b (subst (λ (q : List (List ℤ)). IsPair 2 plane n q w c b) (sym e) h))
    ]

    kept_out : (s : List (List ℤ)) → Contains plane s → IsExchanged 2 plane n (pos 1) s
    kept_out s m = elim (plane_cases s m) [ inl e ↦ subst (IsExchanged 2 plane n (pos 1)) e out_left | inr e ↦ subst (IsExchanged 2 plane n (pos 1)) e out_right ]

    from : (s : List (List ℤ)) → (Contains plane s × (IsExchanged 2 plane n (pos 1) s → ⊥)) ⊎ IsExchanged 2 plane n (negsuc 0) s → Contains (x ∷ y ∷ []) s
    from s (inl h) = absurd (h.1 (kept_out s h.0))
    from s (inr h) = of_pair h.base h.vertex h.c h.b h.pair h.place s h.within h.side h.class_of
