-- The wall of a facet, seen from the other side, is the wall of that facet of the neighbour.
use Rattle.std.proofs.Common.{◌≡◌, ℕ, zero, suc, ℤ, pos, negsuc, ◌*ℤ◌, ◌<ℤ◌, neg_ℤ, ◌<◌, ◌≤◌, ◌^◌, refl, ap, ap₂, arith, sym, ◌∙◌, subst, List, [], ◌∷◌, inr, length, get_or, nat_abs}
use Rattle.std.proofs.lemmas.Int.{ints}
use Rattle.std.specs.List.{All, insert, remove}
use Rattle.std.proofs.lemmas.List.Elements.{All-nil, All-cons, All-head, All-tail, Contains-get_or}
use Rattle.std.proofs.lemmas.List.{get_or_default}
use Rattle.lt_model.proofs.Integers.{mul_neg_z}
use Rattle.lt_model.proofs.Moved.{simplex_moved, translate-back}
use Rattle.lt_model.proofs.Points.{get_dimension}
use Rattle.lt_model.proofs.Squares.{length-scale}
use Rattle.lt_model.proofs.Translates.{without-translate, get-translate}
use Rattle.lt_model.proofs.Walk.{number_at-scale, without-with_at, number_at-with_at, length-without}
use Rattle.lt_model.specs.Cones.{AreBelow}
use Rattle.lt_model.specs.Facets.{number_at, without, with_at, IsBeyond}
use Rattle.lt_model.specs.Simplices.{IsClass, IsSimplex, IsExpression, translate}
use Rattle.lt_model.specs.Vectors.{plus, scale, IsPrimitive}
use Rattle.lt_walls.proofs.Beside.{IsBeside, turned, turned_expression, turned_number, expression_moved}
use Rattle.lt_triang.specs.Across.{IsFacing}
use Rattle.lt_triang.specs.Indexed.{IsOuterIn}
use Rattle.lt_triang.specs.Kept.{AreClasses}
use Rattle.lt_triang.specs.Walled.{shift_to, vertex_to, IsWall, HasPlaces, IsMirrored, IsWallTo}
use Rattle.lt_triang.specs.declared.walls.Wall.{Wall}
use Rattle.lt_triang.proofs.Beyond.{negative_from}
use Rattle.lt_triang.proofs.Shifts.{only_shift, count_without, remove_is}
use Rattle.lt_triang.proofs.Walled.{kept_all, outer_same}

-- ---- lists with a number less, and a number more

insert_is : {X : Type 0} (xs : List X) (i : ℕ) (y : X) → i ≤ length xs → insert xs i y ≡ with_at i y xs
insert_is [] zero y h = refl
insert_is [] (suc i) y h = absurd (omega arith)
insert_is (x ∷ xs) zero y h = refl
insert_is (x ∷ xs) (suc i) y h = ap (λ l. x ∷ l) (insert_is xs i y (omega arith))

without-scale : (i : ℕ) (k : ℤ) (x : List ℤ) → without i (scale k x) ≡ scale k (without i x)
without-scale i k [] = refl
without-scale zero k (a ∷ x) = refl
without-scale (suc i) k (a ∷ x) = ap (λ l. (k *ℤ a) ∷ l) (without-scale i k x)

with_at-scale : (i : ℕ) (k y : ℤ) (x : List ℤ) → with_at i (k *ℤ y) (scale k x) ≡ scale k (with_at i y x)
with_at-scale zero k y x = refl
with_at-scale (suc i) k y [] = refl
with_at-scale (suc i) k y (a ∷ x) = ap (λ l. (k *ℤ a) ∷ l) (with_at-scale i k y x)

with_at-without : (i : ℕ) (x : List ℤ) → i < length x → with_at i (number_at i x) (without i x) ≡ x
with_at-without i [] h = absurd (omega arith)
with_at-without zero (a ∷ x) h = refl
with_at-without (suc i) (a ∷ x) h = ap (λ l. a ∷ l) (with_at-without i x (omega arith))

all-without : (P : ℤ → Type 0) (i : ℕ) (x : List ℤ) → All P x → All P (without i x)
all-without P i [] h = All-nil P
all-without P zero (a ∷ x) h = All-tail P a x h
all-without P (suc i) (a ∷ x) h = All-cons P a (without i x) (All-head P a x h) (all-without P i x (All-tail P a x h))

all-with_at : (P : ℤ → Type 0) (i : ℕ) (y : ℤ) (x : List ℤ) → P y → All P x → All P (with_at i y x)
all-with_at P zero y x p h = All-cons P y x p h
all-with_at P (suc i) y [] p h = All-cons P y [] p h
all-with_at P (suc i) y (a ∷ x) p h = All-cons P a (with_at i y x) (All-head P a x h) (all-with_at P i y x p (All-tail P a x h))

-- ---- the numbers seen from the other side

abbrev mirrored : ℕ → ℕ → ℤ → List ℤ → List ℤ
mirrored i j c b = neg_ℤ (number_at i b) ∷ turned i j c b

negated_multiple : (a k x : ℤ) → neg_ℤ a ≡ k *ℤ x → a ≡ k *ℤ neg_ℤ x
negated_multiple a k x e = omega (arith, ints, e, mul_neg_z k x)

-- what divides the numbers divides them on the other side
mirrored_primitive : (i j : ℕ) (c : ℤ) (b : List ℤ) → i < length b → j < length b → IsPrimitive (c ∷ b) → IsPrimitive (mirrored i j c b)
mirrored_primitive i j c b li lj h g [] e = absurd (cc)
mirrored_primitive i j c b li lj h g (x ∷ m) e = h g (neg_ℤ (number_at j m) ∷ with_at i (neg_ℤ x) (without j m)) (ap₂ (λ (y : ℤ) (l : List ℤ). y ∷ l) first rest)
  where
    head : neg_ℤ (number_at i b) ≡ pos g *ℤ x
    head = cc

    tail : turned i j c b ≡ scale (pos g) m
    tail = cc

    place : j < suc (length (without i b))
    place = omega (arith, length-without i b li, lj)

    first : c ≡ pos g *ℤ neg_ℤ (number_at j m)
    first = negated_multiple c (pos g) (number_at j m) (sym (number_at-with_at j (neg_ℤ c) (without i b) place) ∙ ap (number_at j) tail ∙ number_at-scale j (pos g) m)

    others : without i b ≡ scale (pos g) (without j m)
    others = sym (without-with_at j (neg_ℤ c) (without i b) place) ∙ ap (without j) tail ∙ without-scale j (pos g) m

    rest : b ≡ scale (pos g) (with_at i (neg_ℤ x) (without j m))
    rest = sym (with_at-without i b li) ∙ ap₂ (with_at i) (negated_multiple (number_at i b) (pos g) x head) others ∙ with_at-scale i (pos g) (neg_ℤ x) (without j m)

mirrored_below : (n i j : ℕ) (c : ℤ) (b : List ℤ) → i < length b → AreBelow n (c ∷ b) → AreBelow n (mirrored i j c b)
mirrored_below n i j c b li h =
    let P : ℤ → Type 0 = λ x. nat_abs x < n in
    let rest : All P b = All-tail P c b h in
    All-cons P (neg_ℤ (number_at i b)) (turned i j c b) (negated (number_at i b) (rest i (pos 0) li)) (all-with_at P j (neg_ℤ c) (without i b) (negated c (All-head P c b h)) (all-without P i b rest))
  where
    negated : (x : ℤ) → nat_abs x < n → nat_abs (neg_ℤ x) < n
    negated x h = omega (arith, ints)

-- ---- the facet seen from the other side

pub record IsAcross (d : ℕ) (s : List (List ℤ)) (i : ℕ) (next : List (List ℤ)) (j : ℕ) (c : ℤ) (b : List ℤ) : Type 0 where
  pub facing : IsFacing d s i next (shift_to s i next j) j
  pub outer : IsOuterIn s next (shift_to s i next j) j (vertex_to s i next j) c b

pub other_side : (d : ℕ) (s : List (List ℤ)) (i : ℕ) (next : List (List ℤ)) (j : ℕ) (c : ℤ) (b : List ℤ) → 2 ≤ d → IsClass d s → IsClass d next → i < suc d → j < suc d → IsAcross d s i next j c b → IsAcross d next j s i (neg_ℤ (number_at i b)) (turned i j c b)
other_side d s i next j c b low k k' li lj h = record {
  facing = subst (λ (q : List ℤ). IsFacing d next j s q i) shift facing;
  outer = record {
    vertex = refl;
    expression = subst (λ (q : List ℤ). IsExpression next (plus (get_or s i []) q) (neg_ℤ (number_at i b)) (turned i j c b)) shift expression;
    primitive = mirrored_primitive i j c b ib jb h.outer.primitive;
    below = mirrored_below (2 ^ 59) i j c b ib h.outer.below;
  };
}
  where
    p : List ℤ
    p = shift_to s i next j

    back : List ℤ
    back = scale (negsuc 0) p

    is : i < length s
    is = omega (arith, k.simplex.count, li)

    jn : j < length next
    jn = omega (arith, k'.simplex.count, lj)

    ib : i < length b
    ib = omega (arith, is, h.outer.expression.one_each)

    jb : j < length b
    jb = omega (arith, k.simplex.count, lj, h.outer.expression.one_each)

    moved : IsSimplex d (translate p next)
    moved = simplex_moved d next p h.facing.dimension k'.simplex

    there : get_or (translate p next) j [] ≡ vertex_to s i next j
    there = get-translate p j next [] [] jn

    beside : IsBeside d s i (translate p next) j c b
    beside = record {
      simplex = k.simplex;
      second = moved;
      place = is;
      second_place = omega (arith, moved.count, lj);
      facet = h.facing.facet;
      expression = subst (λ (v : List ℤ). IsExpression s v c b) (sym there) h.outer.expression;
    }

    negative : number_at i b <ℤ pos 0
    negative = negative_from d s i (vertex_to s i next j) c b k h.outer.expression (subst (λ (v : List ℤ). IsBeyond s i v) there h.facing.beyond)

    dimension : length back ≡ d
    dimension = length-scale (negsuc 0) p ∙ h.facing.dimension

    again : translate back (translate p next) ≡ next
    again = translate-back d next p k'.simplex.points h.facing.dimension

    expression : IsExpression next (plus (get_or s i []) back) (neg_ℤ (number_at i b)) (turned i j c b)
    expression = subst (λ (l : List (List ℤ)). IsExpression l (plus (get_or s i []) back) (neg_ℤ (number_at i b)) (turned i j c b)) again
        (expression_moved d (translate p next) back (get_or s i []) (turned i j c b) (neg_ℤ (number_at i b)) moved dimension (get_dimension d i s [] k.simplex.points is) (turned_expression beside negative))

    facing : IsFacing d next j s back i
    facing = record {
      dimension = dimension;
      facet = without-translate back i s ∙ ap (translate back) (sym h.facing.facet) ∙ sym (without-translate back j (translate p next)) ∙ ap (without j) again;
      beyond = record {
        scale = neg_ℤ (number_at i b);
        coefficients = turned i j c b;
        expression = subst (λ (v : List ℤ). IsExpression next v (neg_ℤ (number_at i b)) (turned i j c b)) (sym (get-translate back i s [] [] is)) expression;
        negative = omega (arith, ints, turned_number beside, h.outer.expression.positive);
      };
    }

    shift : back ≡ shift_to next j s i
    shift = (only_shift d next j s i back k.simplex.points (count_without d i s low k.simplex.count li) facing).0

-- ---- walls

pub wall_places : (d : ℕ) (t : List (List (List ℤ))) (m j : ℕ) (w : Wall) → AreClasses d t → m < length t → j < suc d → IsWall d t (get_or t m []) j w → HasPlaces w j
wall_places d t m j w h lm lj k c b e =
    let s : IsClass d (get_or t m []) = h.classes (get_or t m []) (Contains-get_or t m [] lm) in
    let all : k.coefficients ≡ b = (let both = kept_all (k.scale ∷ k.coefficients) w.numbers.items c b k.numbers e in cc) in
    let l : length b ≡ suc d = sym (ap length all) ∙ k.outer.expression.one_each ∙ s.simplex.count in
    (omega (arith, l, lj), omega (arith, l, k.first.place))

-- the numbers that are kept, as scale and coefficients
record HasParts (all : List ℤ) : Type 0 where
  scale : ℤ
  coefficients : List ℤ
  is : all ≡ scale ∷ coefficients

parts : (all : List ℤ) → (all ≡ [] → ⊥) → HasParts all
parts [] some = absurd (some refl)
parts (c ∷ b) some = record { scale = c; coefficients = b; is = refl }

pub places_within : (w : Wall) (j : ℕ) → HasPlaces w j → (w.numbers.items ≡ [] → ⊥) → (suc j < length w.numbers.items) × (suc w.vertex < length w.numbers.items)
places_within w j h some =
    let k = parts w.numbers.items some in
    let l : length w.numbers.items ≡ suc (length k.coefficients) = ap length k.is in
    let places = h k.scale k.coefficients k.is in
    (omega (arith, l, places.0), omega (arith, l, places.1))

-- the scale x and the number y at place j taken out and put in with their signs changed, each in the other's part
pub numbers_mirrored : (w v : Wall) (m j : ℕ) (xs ys : List ℤ) (x y : ℤ) → HasPlaces w j → (w.numbers.items ≡ [] → ⊥) → x ≡ get_or w.numbers.items 0 x → xs ≡ remove w.numbers.items 0 → y ≡ get_or xs j y → ys ≡ remove xs j →
    v.class ≡ m → v.vertex ≡ j → v.numbers.items ≡ neg_ℤ y ∷ insert ys w.vertex (neg_ℤ x) → IsMirrored w m j v
numbers_mirrored w v m j xs ys x y h some ex exs ey eys em ej e = record {
  scale = k.scale;
  coefficients = b;
  kept = k.is;
  class = em;
  vertex = ej;
  numbers = e ∙ ap₂ (λ (z : ℤ) (l : List ℤ). z ∷ l) (ap neg_ℤ turned_is) (insert_is ys w.vertex (neg_ℤ x) room ∙ ap₂ (with_at w.vertex) (ap neg_ℤ scale_is) left);
}
  where
    k : HasParts w.numbers.items
    k = parts w.numbers.items some

    b : List ℤ
    b = k.coefficients

    rest : xs ≡ b
    rest = exs ∙ ap (λ (l : List ℤ). remove l 0) k.is

    left : ys ≡ without j b
    left = eys ∙ ap (λ (l : List ℤ). remove l j) rest ∙ remove_is b j

    room : w.vertex ≤ length ys
    room = (let places = h k.scale b k.is in omega (arith, places.0, places.1, length-without j b places.0, ap length left))

    scale_is : x ≡ k.scale
    scale_is = ex ∙ ap (λ (l : List ℤ). get_or l 0 x) k.is

    turned_is : y ≡ number_at j b
    turned_is = ey ∙ ap (λ (l : List ℤ). get_or l j y) rest ∙ get_or_default b j y (pos 0) (h k.scale b k.is).0

pub wall_mirrored : (d : ℕ) (t : List (List (List ℤ))) (n i m j : ℕ) (w v : Wall) → AreClasses d t → m < length t → j < suc d → IsWall d t (get_or t m []) j w → w.class ≡ n → w.vertex ≡ i → IsMirrored w m j v → IsWallTo d t (get_or t n []) i m j v
wall_mirrored d t n i m j w v h lm lj k en ei x =
    rw (← en, ← ei) (record {
      class = x.class;
      vertex = x.vertex;
      scale = neg_ℤ (number_at j x.coefficients);
      coefficients = turned j w.vertex x.scale x.coefficients;
      facing = o.facing;
      outer = o.outer;
      numbers = inr x.numbers;
    })
  where
    s : List (List ℤ)
    s = get_or t m []

    next : List (List ℤ)
    next = get_or t w.class []

    a : IsAcross d s j next w.vertex x.scale x.coefficients
    a = record {
      facing = k.first.facing;
      outer = outer_same s next (shift_to s j next w.vertex) w.vertex (vertex_to s j next w.vertex) k.scale k.coefficients x.scale x.coefficients k.outer (kept_all (k.scale ∷ k.coefficients) w.numbers.items x.scale x.coefficients k.numbers x.kept);
    }

    o : IsAcross d next w.vertex s j (neg_ℤ (number_at j x.coefficients)) (turned j w.vertex x.scale x.coefficients)
    o = other_side d s j next w.vertex x.scale x.coefficients h.low (h.classes s (Contains-get_or t m [] lm)) (h.classes next (Contains-get_or t w.class [] k.first.member)) lj k.first.place a
