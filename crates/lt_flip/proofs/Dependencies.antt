-- The affine dependency of d + 2 points from an expression of the last, or from a dependency of the others.
use Rattle.std.proofs.Common.{◌≡◌, ℕ, zero, suc, ℤ, pos, negsuc, neg_ℤ, ◌+ℤ◌, ◌*ℤ◌, ◌<ℤ◌, ◌≤ℤ◌, ◌<◌, ◌≤◌, ◌+◌, ◌-◌, ◌*◌, ◌^◌, refl, ap, ap₂, arith, sym, ◌∙◌, subst, List, [], ◌∷◌, ◌++◌, length, length-append, map, take, get_or, nat_abs, inl, inr}
use Rattle.std.proofs.lemmas.Int.{ints}
use Rattle.std.specs.List.{All, AllByRecursion, Contains}
use Rattle.std.specs.List.Sorted.{IsStrictlySortedBy}
use Rattle.std.specs.declared.cmp.Ordering.TheVariants.{Less}
use Rattle.std.proofs.lemmas.List.Elements.{All-head, All-tail, All-append, All-cons, All-nil, Contains-get_or}
use Rattle.lt_model.proofs.Ring.{ring, var, num, neg, ◌⊕◌, ◌⊗◌}
use Rattle.lt_model.proofs.Vectors.{dot_comm, dot-scale}
use Rattle.lt_model.proofs.Excess.{dot-combine, same_from_dots}
use Rattle.lt_model.proofs.Walk.{length-combine, length-map}
use Rattle.lt_model.proofs.Opposite.{length-zeros, zeros-dot}
use Rattle.lt_model.proofs.Sets.{each_holds}
use Rattle.lt_model.specs.Cones.{AreBelow}
use Rattle.lt_model.specs.Limits.{span_limit}
use Rattle.lt_model.specs.Order.{number_list_cmp}
use Rattle.lt_model.specs.Vectors.{minus, scale, dot, total, combine, zeros, IsPrimitive}
use Rattle.lt_model.specs.Simplices.{AllOfDimension, IsClass, IsExpression}
use Rattle.lt_model.proofs.Points.{all_appended}
use Rattle.lt_geometry.proofs.Classes.{one_class, own_class}
use Rattle.lt_geometry.proofs.Reading.{dot-append_both}
use Rattle.lt_lattice.specs.Ranges.{IsWithin}
use Rattle.lt_triang.specs.Bounds.{AreNear}
use Rattle.lt_triang.specs.Flat.{IsClassAt, IsFlat, leading}
use Rattle.lt_triang.proofs.Gaps.{minus-zeros}
use Rattle.lt_triang.proofs.Signs.{IsRawFlat, flat_from_raw, leading_primitive, leading-opposite}
use Rattle.lt_flip.specs.Ascending.{AreAscending}

-- ---- the first points and the last one

split_last : {X : Type 0} → (n : ℕ) (xs : List X) (x : X) → length xs ≡ suc n → x ≡ get_or xs n x → take n xs ++ x ∷ [] ≡ xs
split_last n [] x l e = absurd (omega arith)
split_last zero (y ∷ []) x l e = ap (λ z. z ∷ []) e
split_last zero (y ∷ z ∷ xs) x l e = absurd (omega arith)
split_last (suc n) (y ∷ xs) x l e = ap (λ t. y ∷ t) (split_last n xs x (omega arith) e)

all_taken : (P : List ℤ → Type 0) (n : ℕ) (vs : List (List ℤ)) → AllByRecursion P vs → AllByRecursion P (take n vs)
all_taken P zero vs h = tt
all_taken P (suc n) [] h = tt
all_taken P (suc n) (v ∷ vs) h = (h.0, all_taken P n vs h.1)

ascending_taken : (n : ℕ) (vs : List (List ℤ)) → IsStrictlySortedBy number_list_cmp vs → IsStrictlySortedBy number_list_cmp (take n vs)
unfolding IsStrictlySortedBy
ascending_taken zero vs h = tt
ascending_taken (suc n) [] h = tt
ascending_taken (suc n) (v ∷ vs) h = (all_taken (λ y. number_list_cmp v y ≡ Less) n vs h.0, ascending_taken n vs h.1)

length_taken : {X : Type 0} → (n : ℕ) (xs : List X) → n ≤ length xs → length (take n xs) ≡ n
length_taken zero xs h = refl
length_taken (suc n) [] h = absurd (omega arith)
length_taken (suc n) (x ∷ xs) h = ap suc (length_taken n xs (omega arith))

first_taken : (n : ℕ) (vs : List (List ℤ)) → get_or (take (suc n) vs) 0 [] ≡ get_or vs 0 []
first_taken n [] = refl
first_taken n (v ∷ vs) = refl

-- ---- numbers with one more

total-append : (b : List ℤ) (y : ℤ) → total (b ++ y ∷ []) ≡ total b +ℤ y
total-append [] y = omega (arith, ints)
total-append (a ∷ b) y = let e = total-append b y in omega (arith, ints, e)

map-append : (g : List ℤ → ℤ) (vs : List (List ℤ)) (x : List ℤ) → map g (vs ++ x ∷ []) ≡ map g vs ++ g x ∷ []
map-append g [] x = refl
map-append g (v ∷ vs) x = ap (λ l. g v ∷ l) (map-append g vs x)

raw_more : (d : ℕ) (vs : List (List ℤ)) (x b : List ℤ) (y : ℤ) → AllOfDimension d vs → length x ≡ d → length b ≡ length vs → total b +ℤ y ≡ pos 0 → ((u : List ℤ) → dot b (map (dot u) vs) +ℤ y *ℤ dot u x ≡ pos 0) → IsPrimitive (b ++ y ∷ []) → IsRawFlat d (vs ++ x ∷ []) (b ++ y ∷ [])
raw_more d vs x b y all lx lb t at p =
    let l1 = length-append b (y ∷ []) in
    let l2 = length-append vs (x ∷ []) in
    let each : length (b ++ y ∷ []) ≡ length (vs ++ x ∷ []) = omega (arith, l1, l2, lb) in
    record {
      one_each = each;
      total_is = total-append b y ∙ t;
      sum = same_from_dots (combine (b ++ y ∷ []) (vs ++ x ∷ [])) (zeros d) (length-combine d (b ++ y ∷ []) (vs ++ x ∷ []) (all_appended d vs x all lx) each (omega (arith, l2)) ∙ sym (length-zeros d))
          (λ u. dot-combine u (b ++ y ∷ []) (vs ++ x ∷ []) ∙ ap (dot (b ++ y ∷ [])) (map-append (dot u) vs x) ∙ dot-append_both b (y ∷ []) (map (dot u) vs) (dot u x ∷ []) (lb ∙ sym (length-map (dot u) vs))
          ∙ ring (dot b (map (dot u) vs) ∷ y ∷ dot u x ∷ []) (var 0 ⊕ (var 1 ⊗ var 2 ⊕ num (pos 0))) (var 0 ⊕ var 1 ⊗ var 2) tt ∙ at u ∙ sym (dot_comm u (zeros d) ∙ zeros-dot d u));
      primitive = p;
    }

-- a multiple of numbers with one more
record IsSplit (k : ℤ) (b : List ℤ) (y : ℤ) : Type 0 where
  front : List ℤ
  last : ℤ
  front_is : b ≡ scale k front
  last_is : y ≡ k *ℤ last

split_multiple : (k : ℤ) (b : List ℤ) (y : ℤ) (m : List ℤ) → b ++ y ∷ [] ≡ scale k m → IsSplit k b y
split_multiple k [] y [] e = absurd (cc)
split_multiple k [] y (z ∷ []) e = record { front = []; last = z; front_is = refl; last_is = cc }
split_multiple k [] y (z ∷ w ∷ m) e = absurd (cc)
split_multiple k (a ∷ b) y [] e = absurd (cc)
split_multiple k (a ∷ b) y (z ∷ m) e =
    let r = split_multiple k b y m (cc) in
    record { front = z ∷ r.front; last = r.last; front_is = (let h : a ≡ k *ℤ z = cc in ap₂ (λ (u : ℤ) (l : List ℤ). u ∷ l) h r.front_is); last_is = r.last_is }

last_primitive : (c : ℤ) (b : List ℤ) → IsPrimitive (c ∷ b) → IsPrimitive (b ++ neg_ℤ c ∷ [])
last_primitive c b h g m e =
    let s = split_multiple (pos g) b (neg_ℤ c) m e in
    let n : c ≡ pos g *ℤ neg_ℤ s.last = omega (arith, ints, s.last_is, ring (pos g ∷ s.last ∷ []) (var 0 ⊗ neg (var 1)) (neg (var 0 ⊗ var 1)) tt) in
    h g (neg_ℤ s.last ∷ s.front) (ap₂ (λ (u : ℤ) (l : List ℤ). u ∷ l) n s.front_is)

zero_primitive : (b : List ℤ) → IsPrimitive b → IsPrimitive (b ++ pos 0 ∷ [])
zero_primitive b h g m e = let s = split_multiple (pos g) b (pos 0) m e in h g s.front s.front_is

leading-append : (b ys : List ℤ) → pos 0 <ℤ leading b → leading (b ++ ys) ≡ leading b
leading-append [] ys h = absurd (omega (arith, ints, h))
leading-append (pos zero ∷ b) ys h = leading-append b ys h
leading-append (pos (suc n) ∷ b) ys h = refl
leading-append (negsuc n ∷ b) ys h = refl

-- ---- the points of a cell

record IsLast (d : ℕ) (ps vs : List (List ℤ)) (x : List ℤ) : Type 0 where
  is : vs ++ x ∷ [] ≡ ps
  count : length vs ≡ suc d
  points : AllOfDimension d vs
  ascending : IsStrictlySortedBy number_list_cmp vs
  first : get_or vs 0 [] ≡ zeros d
  dimension : length x ≡ d

last_of : (d : ℕ) (ps : List (List ℤ)) (x : List ℤ) → AreAscending d ps → x ≡ get_or ps (d + 1) x → IsLast d ps (take (d + 1) ps) x
last_of d ps x h e =
    let n : suc d ≡ d + 1 = omega arith in
    subst (λ (m : ℕ). IsLast d ps (take m ps) x) n (record {
      is = split_last (suc d) ps x h.count (subst (λ (m : ℕ). x ≡ get_or ps m x) (sym n) e);
      count = length_taken (suc d) ps (omega (arith, h.count));
      points = all_taken (λ v. length v ≡ d) (suc d) ps h.dimension;
      ascending = ascending_taken (suc d) ps h.ascending;
      first = first_taken d ps ∙ h.first;
      dimension = ap length e ∙ each_holds (λ v. length v ≡ d) ps (get_or ps (d + 1) x) h.dimension (Contains-get_or ps (d + 1) x (omega (arith, h.count)));
    })

pub last_near : (d : ℕ) (ps : List (List ℤ)) (x : List ℤ) → AreAscending d ps → AreNear (2 * span_limit d) ps → x ≡ get_or ps (d + 1) x → All (IsWithin (2 * span_limit (length x))) x
last_near d ps x h near e =
    let l = last_of d ps x h e in
    let c : Contains ps x = subst (Contains ps) (sym e) (Contains-get_or ps (d + 1) x (omega (arith, h.count))) in
    let f : Contains ps (get_or ps 0 []) = Contains-get_or ps 0 [] (omega (arith, h.count)) in
    let w : All (IsWithin (2 * span_limit d)) (minus x (get_or ps 0 [])) = near x (get_or ps 0 []) c f in
    let v : All (IsWithin (2 * span_limit d)) x = subst (λ (z : List ℤ). All (IsWithin (2 * span_limit d)) z) (ap (minus x) h.first ∙ minus-zeros d x l.dimension) w in
    subst (λ (n : ℕ). All (IsWithin (2 * span_limit n)) x) (sym l.dimension) v

pub from_expression : (d : ℕ) (ps : List (List ℤ)) (x : List ℤ) (s : List (List ℤ)) (p : List ℤ) (c : ℤ) (b : List ℤ) → AreAscending d ps → x ≡ get_or ps (d + 1) x → IsClassAt (length (take (d + 1) ps) - 1) (take (d + 1) ps) s p → IsExpression s x c b → IsPrimitive (c ∷ b) → IsRawFlat d ps (b ++ neg_ℤ c ∷ [])
from_expression d ps x s p c b h e at x_is prim =
    let l = last_of d ps x h e in
    let vs = take (d + 1) ps in
    let k : IsClassAt d vs s p = subst (λ (n : ℕ). IsClassAt n vs s p) (omega (arith, l.count)) at in
    let own : IsClass d vs = record { simplex = record { count = l.count; points = l.points; independent = k.independent }; ascending = l.ascending; first = l.first } in
    let same : s ≡ vs = one_class d vs s vs (record { shift = p; dimension = k.dimension; «class» = k.«class»; same = k.same }) (own_class d vs own) in
    let y : IsExpression vs x c b = subst (λ (r : List (List ℤ)). IsExpression r x c b) same x_is in
    subst (λ (r : List (List ℤ)). IsRawFlat d r (b ++ neg_ℤ c ∷ [])) l.is
    (raw_more d vs x b (neg_ℤ c) l.points l.dimension y.one_each (omega (arith, ints, y.sum)) (λ u. at_u u vs y) (last_primitive c b prim))
  where
    at_u : (u : List ℤ) (vs : List (List ℤ)) → IsExpression vs x c b → dot b (map (dot u) vs) +ℤ neg_ℤ c *ℤ dot u x ≡ pos 0
    at_u u vs y =
        let f : dot b (map (dot u) vs) ≡ c *ℤ dot u x = sym (dot-combine u b vs) ∙ ap (dot u) y.point ∙ dot-scale u c x in
        ap (λ z. z +ℤ neg_ℤ c *ℤ dot u x) f ∙ ring (c ∷ dot u x ∷ []) (var 0 ⊗ var 1 ⊕ neg (var 0) ⊗ var 1) (num (pos 0)) tt

pub from_flat : (d : ℕ) (ps : List (List ℤ)) (x : List ℤ) (b : List ℤ) → AreAscending d ps → x ≡ get_or ps (d + 1) x → IsFlat (length (take (d + 1) ps) - 1) (take (d + 1) ps) b → IsFlat d ps (b ++ pos 0 ∷ [])
from_flat d ps x b h e f =
    let l = last_of d ps x h e in
    let vs = take (d + 1) ps in
    let k : IsFlat d vs b = subst (λ (n : ℕ). IsFlat n vs b) (omega (arith, l.count)) f in
    let raw : IsRawFlat d ps (b ++ pos 0 ∷ []) = subst (λ (r : List (List ℤ)). IsRawFlat d r (b ++ pos 0 ∷ [])) l.is
    (raw_more d vs x b (pos 0) l.points l.dimension k.one_each (omega (arith, ints, k.total_is)) (λ u. at_u u vs k) (zero_primitive b k.primitive))
    in
    flat_from_raw d ps (b ++ pos 0 ∷ []) (b ++ pos 0 ∷ []) (omega (arith, h.count)) h.dimension raw (inl refl) (subst (λ z. pos 0 <ℤ z) (sym (leading-append b (pos 0 ∷ []) k.sign)) k.sign)
  where
    at_u : (u : List ℤ) (vs : List (List ℤ)) → IsFlat d vs b → dot b (map (dot u) vs) +ℤ pos 0 *ℤ dot u x ≡ pos 0
    at_u u vs k =
        let g : dot b (map (dot u) vs) ≡ pos 0 = sym (dot-combine u b vs) ∙ ap (dot u) k.sum ∙ dot_comm u (zeros d) ∙ zeros-dot d u in
        ap (λ z. z +ℤ pos 0 *ℤ dot u x) g ∙ ring (dot u x ∷ []) (num (pos 0) ⊕ num (pos 0) ⊗ var 0) (num (pos 0)) tt

-- with the first number that isn't 0 positive
pub turned_flat : (d : ℕ) (ps : List (List ℤ)) (raw : List ℤ) → AreAscending d ps → IsRawFlat d ps raw → leading raw <ℤ pos 0 → IsFlat d ps (scale (negsuc 0) raw)
turned_flat d ps raw h r n = flat_from_raw d ps raw (scale (negsuc 0) raw) (omega (arith, h.count)) h.dimension r (inr refl) (let e = leading-opposite raw in omega (arith, ints, e, n))

pub kept_flat : (d : ℕ) (ps : List (List ℤ)) (raw : List ℤ) → AreAscending d ps → IsRawFlat d ps raw → pos 0 ≤ℤ leading raw → IsFlat d ps raw
kept_flat d ps raw h r n = flat_from_raw d ps raw raw (omega (arith, h.count)) h.dimension r (inl refl) (let e = leading_primitive raw r.primitive in omega (arith, ints, e, n))

pub within_terms : (c : ℤ) (b : List ℤ) → AreBelow (2 ^ 59) (c ∷ b) → All (IsWithin (2 ^ 63)) (b ++ neg_ℤ c ∷ [])
within_terms c b h =
    All-append (IsWithin (2 ^ 63)) b (neg_ℤ c ∷ []) (λ k d l. more (get_or b k d) (All-tail (λ x. nat_abs x < 2 ^ 59) c b h k d l))
    (All-cons (IsWithin (2 ^ 63)) (neg_ℤ c) [] (turned c (All-head (λ x. nat_abs x < 2 ^ 59) c b h)) (All-nil (IsWithin (2 ^ 63))))
  where
    more : (x : ℤ) → nat_abs x < 2 ^ 59 → nat_abs x ≤ 2 ^ 63
    more x h = omega arith

    turned : (x : ℤ) → nat_abs x < 2 ^ 59 → nat_abs (neg_ℤ x) ≤ 2 ^ 63
    turned x h = omega (arith, ints)
