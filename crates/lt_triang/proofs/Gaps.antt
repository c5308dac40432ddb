-- A span bounds the differences of vertices.
use Rattle.std.proofs.Common.{◌≡◌, ℕ, zero, suc, ℤ, pos, negsuc, ◌+ℤ◌, ◌*ℤ◌, drop, ◌<◌, ◌≤◌, ◌+◌, ◌*◌, ◌^◌, Bool, true, false, cond, refl, ap, arith, subst, List, [], ◌∷◌, length, map, get_or, nat_abs, max}
use Rattle.std.proofs.lemmas.Int.{ints}
use Rattle.std.proofs.lemmas.List.{drop_more, drop_all}
use Rattle.std.specs.Prelude.{nat_le}
use Rattle.std.specs.List.{All, AllByRecursion, Contains}
use Rattle.std.proofs.lemmas.List.Elements.{Contains-get_or, All-contains}
use Rattle.lt_model.proofs.Sets.{Contains-head, Contains-tail, Contains-map}
use Rattle.lt_model.specs.Limits.{greatest, gap, class_span, span, span_limit}
use Rattle.lt_model.specs.Vectors.{minus, zeros}
use Rattle.lt_model.specs.Simplices.{AllOfDimension, IsClass}
use Rattle.lt_lattice.specs.Ranges.{IsWithin}
use Rattle.lt_triang.specs.Bounds.{AreWithin, AreNear}
use Rattle.lt_triang.specs.Kept.{AreClasses}

-- ---- the limit on spans

limit_of : (b : Bool) → cond b 400 100 ≤ 400
limit_of true = omega arith
limit_of false = omega arith

pub small_limit : (d : ℕ) → span_limit d ≤ 400
small_limit d = limit_of (nat_le d 5)

-- points of a class that are moved by twice the limit stay points
pub twice_limit : (d : ℕ) → span_limit d + span_limit d ≤ 2 ^ 20
twice_limit d = omega (arith, small_limit d)

pub double_limit : (d : ℕ) → 2 * span_limit d ≡ span_limit d + span_limit d
double_limit d = omega arith

-- ---- spans

pub le_greatest : (xs : List ℕ) (n : ℕ) → Contains xs n → n ≤ greatest xs
le_greatest [] n (k, p, e) = absurd (omega arith)
le_greatest (x ∷ xs) n (zero, p, e) = omega (arith, e)
le_greatest (x ∷ xs) n (suc k, p, e) = omega (arith, le_greatest xs n (k, omega arith, e))

gap_within : (m : ℕ) (z : List ℤ) → greatest (map nat_abs z) ≤ m → All (IsWithin m) z
gap_within m z le k e p = omega (arith, le_greatest (map nat_abs z) (nat_abs (get_or z k e)) (Contains-map nat_abs z (get_or z k e) (Contains-get_or z k e p)))

pub minus-zeros : (d : ℕ) (v : List ℤ) → length v ≡ d → minus v (zeros d) ≡ v
minus-zeros zero [] l = refl
minus-zeros zero (a ∷ v) l = absurd (omega arith)
minus-zeros (suc d) [] l = absurd (omega arith)
minus-zeros (suc d) (a ∷ v) l =
    let e : a +ℤ negsuc 0 *ℤ pos 0 ≡ a = omega (arith, ints) in
    rw (e, minus-zeros d v (omega arith)) refl

pub within_from_near : (m d : ℕ) (s : List (List ℤ)) → IsClass d s → AreNear m s → AreWithin m s
within_from_near m d s k near =
    let first : Contains s (zeros d) = subst (λ (w : List ℤ). Contains s w) k.first (Contains-get_or s 0 [] (omega (arith, k.simplex.count))) in
    each s k.simplex.points (λ x c. near x (zeros d) c first)
  where
    each : (vs : List (List ℤ)) → AllOfDimension d vs → ((x : List ℤ) → Contains vs x → All (IsWithin m) (minus x (zeros d))) → AllByRecursion (All (IsWithin m)) vs
    each [] all h = tt
    each (v ∷ vs) all h =
        (subst (λ (w : List ℤ). All (IsWithin m) w) (minus-zeros d v all.0) (h v (Contains-head v vs)), each vs all.1 (λ x c. h x (Contains-tail v vs x c)))

-- the span of points tells how near they are
pub near_from_class_span : (m : ℕ) (s : List (List ℤ)) → class_span s ≤ m → AreNear m s
near_from_class_span m s le x y cx cy =
    gap_within m (minus x y)
    (omega (arith, le, le_greatest (map (λ v. greatest (map (gap v) s)) s) (greatest (map (gap x) s)) (Contains-map (λ v. greatest (map (gap v) s)) s x cx), le_greatest (map (gap x) s) (gap x y) (Contains-map (gap x) s y cy)))

pub near_from_span : (m : ℕ) (t : List (List (List ℤ))) (s : List (List ℤ)) → span t ≤ m → Contains t s → AreNear m s
near_from_span m t s le c = near_from_class_span m s (omega (arith, le, le_greatest (map class_span t) (class_span s) (Contains-map class_span t s c)))

pub greatest_at_most : {X : Type 0} (f : X → ℕ) (xs : List X) (m : ℕ) → ((x : X) → Contains xs x → f x ≤ m) → greatest (map f xs) ≤ m
greatest_at_most f [] m h = omega arith
greatest_at_most f (x ∷ xs) m h = omega (arith, h x (Contains-head x xs), greatest_at_most f xs m (λ y c. h y (Contains-tail x xs y c)))

gap_from_within : (m : ℕ) (z : List ℤ) → All (IsWithin m) z → greatest (map nat_abs z) ≤ m
gap_from_within m z all = greatest_at_most nat_abs z m (λ x c. All-contains (IsWithin m) z x all c)

pub class_span_from_near : (m : ℕ) (s : List (List ℤ)) → AreNear m s → class_span s ≤ m
class_span_from_near m s near = greatest_at_most (λ v. greatest (map (gap v) s)) s m (λ x cx. greatest_at_most (gap x) s m (λ y cy. gap_from_within m (minus x y) (near x y cx cy)))

pub member_near : (d : ℕ) (t : List (List (List ℤ))) (s : List (List ℤ)) → AreClasses d t → Contains t s → AreNear (span_limit d) s
member_near d t s h c = near_from_span (span_limit d) t s h.narrow c

-- ---- the greatest so far

greatest-drop : (xs : List ℕ) (i : ℕ) → i < length xs → greatest (drop i xs) ≡ max (get_or xs i 0) (greatest (drop (i + 1) xs))
greatest-drop xs i h = rw (drop_more xs i 0 h) refl

-- one number more
pub widest_more : (xs : List ℕ) (i w x n : ℕ) → i < length xs → x ≡ get_or xs i 0 → max w (greatest (drop i xs)) ≡ n → max (max w x) (greatest (drop (i + 1) xs)) ≡ n
widest_more xs i w x n h e k = omega (arith, greatest-drop xs i h, e, k)

-- no number is left
pub widest_all : (xs : List ℕ) (i w n : ℕ) → length xs ≤ i → max w (greatest (drop i xs)) ≡ n → w ≡ n
widest_all xs i w n h k = let e = drop_all i xs h in let m : max w (greatest []) ≡ n = rw e at k in omega (arith, m)

pub get_or-map_at : {X : Type 0} (f : X → ℕ) (xs : List X) (i : ℕ) (x : X) → i < length xs → x ≡ get_or xs i x → f x ≡ get_or (map f xs) i 0
get_or-map_at f [] i x h e = absurd (omega arith)
get_or-map_at f (y ∷ xs) zero x h e = ap f e
get_or-map_at f (y ∷ xs) (suc i) x h e = get_or-map_at f xs i x (omega arith) e
