-- The negatives of the points of a simplex, in the order turned round.
use Rattle.std.proofs.Common.{◌≡◌, ◌≢◌, ℕ, zero, suc, ℤ, pos, negsuc, ◌+ℤ◌, ◌-ℤ◌, ◌*ℤ◌, ◌<ℤ◌, ◌≤ℤ◌, ◌-◌, ◌<◌, ◌≤◌, refl, ap, ap₂, arith, sym, ◌∙◌, subst, List, [], ◌∷◌, ◌++◌, length, map, get_or, reverse, ◌⊎◌, inl, inr}
use Rattle.std.proofs.lemmas.Int.{ints}
use Rattle.std.proofs.lemmas.List.{length-reverse, reverse-reverse, get_or-reverse, get_or-map}
use Rattle.std.proofs.lemmas.Grind.{reverse_onto}
use Rattle.std.specs.List.{Contains, AllByRecursion}
use Rattle.std.specs.List.Sorted.{IsStrictlySortedBy}
use Rattle.std.specs.declared.cmp.Ordering.{Ordering}
use Rattle.std.specs.declared.cmp.Ordering.TheVariants.{Less, Equal, Greater}
use Rattle.std.specs.Ordering.{MatchOrdering, int_cmp, ordering_then}
use Rattle.std.specs.Cmp.{int_cmp_is, int_ranks}
use Rattle.std.proofs.lemmas.List.Elements.{Contains-append_left, Contains-append_right}
use Rattle.lt_model.proofs.Ring.{ring, var, num, ◌⊗◌}
use Rattle.lt_model.proofs.Vectors.{dot-plus, dot-scale, dot_comm, scale-plus}
use Rattle.lt_model.proofs.Squares.{length-scale}
use Rattle.lt_model.proofs.Excess.{dot-combine, same_from_dots, scale-dot}
use Rattle.lt_model.proofs.Walk.{length-combine, length-map}
use Rattle.lt_geometry.proofs.LocalWalk.{zeros-plus}
use Rattle.lt_geometry.proofs.Fewness.{scale-zeros}
use Rattle.lt_model.proofs.Opposite.{length-zeros, zeros-dot}
use Rattle.lt_model.proofs.Dependent.{map-map_vectors, length-map_vectors}
use Rattle.lt_model.proofs.Moved.{translate-back, simplex_moved}
use Rattle.lt_geometry.proofs.LocalWalk.{empty_moved}
use Rattle.lt_model.proofs.Sets.{Contains-head, Contains-tail, Contains-cases, Contains-none, same_members, number_list_cmp_total}
use Rattle.lt_model.specs.Order.{number_list_cmp}
use Rattle.lt_model.specs.Vectors.{plus, scale, dot, total, combine, zeros}
use Rattle.lt_model.specs.Forms.{value}
use Rattle.lt_model.specs.Simplices.{AllOfDimension, IsSimplex, IsClass, IsClassOf, IsExpression, IsStrictlyEmpty, excess, translate}
use Rattle.lt_model.specs.Triangulations.{IsDelaunay}
use Rattle.lt_model.specs.Negatives.{negated, negative}
use Rattle.lt_model.proofs.Translates.{ascending_translate, from_translate}
use Rattle.lt_model.proofs.Points.{minus_itself, opposite_twice}
use Rattle.lt_geometry.proofs.Reading.{dot-append_both}
use Rattle.lt_geometry.proofs.Closed.{get_dimension}
use Rattle.lt_geometry.proofs.Parity.{value-negative, one_of_two, index_of}
use Rattle.lt_geometry.proofs.Classes.{first_of_translate}
use Rattle.lt_geometry.proofs.Sides.{at_place}

module _ {X : Type 0} where
  reverse_more : (x : X) (xs : List X) → reverse (x ∷ xs) ≡ reverse xs ++ (x ∷ [])
  reverse_more x xs = reverse_onto xs x []

  pub reverse_has : (xs : List X) (x : X) → Contains xs x → Contains (reverse xs) x
  reverse_has [] x c = c
  reverse_has (y ∷ xs) x c =
      rw (reverse_more y xs) (elim (Contains-cases y xs x c) [
        | inl e ↦ Contains-append_right (reverse xs) (y ∷ []) x (subst (λ (w : X). Contains (y ∷ []) w) e (Contains-head y []))
        | inr r ↦ Contains-append_left (reverse xs) (y ∷ []) x (reverse_has xs x r)
      ])

  pub reverse_from : (xs : List X) (x : X) → Contains (reverse xs) x → Contains xs x
  reverse_from xs x c = subst (λ (l : List X). Contains l x) (reverse-reverse xs) (reverse_has (reverse xs) x c)

  all-append : (P : X → Type 0) (xs ys : List X) → AllByRecursion P xs → AllByRecursion P ys → AllByRecursion P (xs ++ ys)
  all-append P [] ys a b = b
  all-append P (x ∷ xs) ys a b = (a.0, all-append P xs ys a.1 b)

  pub all-reverse : (P : X → Type 0) (xs : List X) → AllByRecursion P xs → AllByRecursion P (reverse xs)
  all-reverse P [] a = tt
  all-reverse P (x ∷ xs) a = rw (reverse_more x xs) (all-append P (reverse xs) (x ∷ []) (all-reverse P xs a.1) (a.0, tt))

map-reverse : {X Y : Type 0} (f : X → Y) (xs : List X) → map f (reverse xs) ≡ reverse (map f xs)
map-reverse f [] = refl
map-reverse {X} {Y} f (x ∷ xs) = ap (map f) (reverse_more x xs) ∙ append (reverse xs) (x ∷ []) ∙ ap (λ (l : List Y). l ++ (f x ∷ [])) (map-reverse f xs) ∙ sym (reverse_more (f x) (map f xs))
  where
    append : (a b : List X) → map f (a ++ b) ≡ map f a ++ map f b
    append [] b = refl
    append (z ∷ a) b = ap (λ (l : List Y). f z ∷ l) (append a b)

dot-reverse : (b u : List ℤ) → length b ≡ length u → dot (reverse b) (reverse u) ≡ dot b u
dot-reverse [] [] l = refl
dot-reverse [] (y ∷ u) l = absurd (omega arith)
dot-reverse (a ∷ b) [] l = absurd (omega arith)
dot-reverse (a ∷ b) (y ∷ u) l =
    let same : length b ≡ length u = omega arith in
    let e = dot-append_both (reverse b) (a ∷ []) (reverse u) (y ∷ []) (length-reverse b ∙ same ∙ sym (length-reverse u)) in
    ap₂ dot (reverse_more a b) (reverse_more y u) ∙ omega (arith, ints, e, dot-reverse b u same)

total-append : (a b : List ℤ) → total (a ++ b) ≡ total a +ℤ total b
total-append [] b = omega (arith, ints)
total-append (x ∷ a) b = omega (arith, ints, total-append a b)

total-reverse : (b : List ℤ) → total (reverse b) ≡ total b
total-reverse [] = refl
total-reverse (a ∷ b) = ap total (reverse_more a b) ∙ omega (arith, ints, total-append (reverse b) (a ∷ []), total-reverse b)

reverse-zeros : (n : ℕ) → reverse (zeros n) ≡ zeros n
reverse-zeros zero = refl
reverse-zeros (suc n) = reverse_more (pos 0) (zeros n) ∙ ap (λ (l : List ℤ). l ++ (pos 0 ∷ [])) (reverse-zeros n) ∙ last n
  where
    last : (n : ℕ) → zeros n ++ (pos 0 ∷ []) ≡ pos 0 ∷ zeros n
    last zero = refl
    last (suc n) = ap (λ (l : List ℤ). pos 0 ∷ l) (last n)

pub map_each : (f g : List ℤ → ℤ) (vs : List (List ℤ)) → ((v : List ℤ) → f v ≡ g v) → map f vs ≡ map g vs
map_each f g [] h = refl
map_each f g (v ∷ vs) h = ap₂ (λ (x : ℤ) (l : List ℤ). x ∷ l) (h v) (map_each f g vs h)

-- ---- the negatives

abbrev pub turned_round : List (List ℤ) → List (List ℤ)
turned_round vs = reverse (negated vs)

length-turned : (vs : List (List ℤ)) → length (turned_round vs) ≡ length vs
length-turned vs = length-reverse (negated vs) ∙ length-map_vectors (scale (negsuc 0)) vs

dot-turned : (g : List ℤ → ℤ) (b : List ℤ) (vs : List (List ℤ)) → length b ≡ length vs → dot b (map g (turned_round vs)) ≡ dot (reverse b) (map (λ v. g (scale (negsuc 0) v)) vs)
dot-turned g b vs l =
    let e : map g (turned_round vs) ≡ reverse (map g (negated vs)) = map-reverse g (negated vs) in
    let f : map g (negated vs) ≡ map (λ v. g (scale (negsuc 0) v)) vs = map-map_vectors g (scale (negsuc 0)) vs in
    let lb : length (reverse b) ≡ length (map (λ v. g (scale (negsuc 0) v)) vs) = length-reverse b ∙ l ∙ sym (length-map (λ v. g (scale (negsuc 0) v)) vs) in
    ap (dot b) (e ∙ ap reverse f) ∙ ap (λ (x : List ℤ). dot x (reverse (map (λ v. g (scale (negsuc 0) v)) vs))) (sym (reverse-reverse b)) ∙ dot-reverse (reverse b) (map (λ v. g (scale (negsuc 0) v)) vs) lb

turned_value : (q b : List ℤ) (vs : List (List ℤ)) → length b ≡ length vs → dot b (map (value q) (turned_round vs)) ≡ dot (reverse b) (map (value q) vs)
turned_value q b vs l = dot-turned (value q) b vs l ∙ ap (dot (reverse b)) (map_each (λ v. value q (scale (negsuc 0) v)) (value q) vs (value-negative q))

turned_linear : (u b : List ℤ) (vs : List (List ℤ)) → length b ≡ length vs → dot u (combine b (turned_round vs)) ≡ negsuc 0 *ℤ dot u (combine (reverse b) vs)
turned_linear u b vs l =
    let e : (v : List ℤ) → dot u (scale (negsuc 0) v) ≡ dot (scale (negsuc 0) u) v = λ v. dot-scale u (negsuc 0) v ∙ sym (scale-dot (negsuc 0) u v) in
    dot-combine u b (turned_round vs) ∙ dot-turned (dot u) b vs l ∙ ap (dot (reverse b)) (map_each (λ v. dot u (scale (negsuc 0) v)) (dot (scale (negsuc 0) u)) vs e) ∙ sym (dot-combine (scale (negsuc 0) u) (reverse b) vs) ∙ scale-dot (negsuc 0) u (combine (reverse b) vs)

negated_all : (d : ℕ) (vs : List (List ℤ)) → AllOfDimension d vs → AllOfDimension d (negated vs)
negated_all d [] a = tt
negated_all d (v ∷ vs) a = (length-scale (negsuc 0) v ∙ a.0, negated_all d vs a.1)

turned_all : (d : ℕ) (vs : List (List ℤ)) → AllOfDimension d vs → AllOfDimension d (turned_round vs)
turned_all d vs a = all-reverse (λ v. length v ≡ d) (negated vs) (negated_all d vs a)

pub turned_simplex : (d : ℕ) (vs : List (List ℤ)) → IsSimplex d vs → IsSimplex d (turned_round vs)
turned_simplex d vs s = record {
  count = length-turned vs ∙ s.count;
  points = turned_all d vs s.points;
  independent = λ b lb sum none. independent b (lb ∙ length-turned vs) sum none;
}
  where
    independent : (b : List ℤ) → length b ≡ length vs → total b ≡ pos 0 → combine b (turned_round vs) ≡ zeros d → b ≡ zeros (length (turned_round vs))
    independent b lb sum none =
        let l1 : length (combine (reverse b) vs) ≡ d = length-combine d (reverse b) vs s.points (length-reverse b ∙ lb) (omega (arith, s.count)) in
        let at : (u : List ℤ) → dot u (combine (reverse b) vs) ≡ dot u (zeros d) = λ u.
        let e : negsuc 0 *ℤ dot u (combine (reverse b) vs) ≡ dot u (zeros d) = sym (turned_linear u b vs lb) ∙ ap (dot u) none in
        let z : dot u (zeros d) ≡ pos 0 = dot_comm u (zeros d) ∙ zeros-dot d u in
        omega (arith, ints, e, z)
        in
        let e : reverse b ≡ zeros (length vs) = s.independent (reverse b) (length-reverse b ∙ lb) (total-reverse b ∙ sum) (same_from_dots (combine (reverse b) vs) (zeros d) (l1 ∙ sym (length-zeros d)) at) in
        sym (reverse-reverse b) ∙ ap reverse e ∙ reverse-zeros (length vs) ∙ ap zeros (sym (length-turned vs))

turned_expression_back : (d : ℕ) (vs : List (List ℤ)) (x : List ℤ) (c : ℤ) (b : List ℤ) → IsSimplex d vs → length x ≡ d → IsExpression (turned_round vs) x c b → IsExpression vs (scale (negsuc 0) x) c (reverse b)
turned_expression_back d vs x c b s lx e =
    let lb : length b ≡ length vs = e.one_each ∙ length-turned vs in
    let l1 : length (combine (reverse b) vs) ≡ d = length-combine d (reverse b) vs s.points (length-reverse b ∙ lb) (omega (arith, s.count)) in
    record {
      positive = e.positive;
      one_each = length-reverse b ∙ lb;
      point = same_from_dots (combine (reverse b) vs) (scale c (scale (negsuc 0) x)) (l1 ∙ sym lx ∙ sym (length-scale (negsuc 0) x) ∙ sym (length-scale c (scale (negsuc 0) x)))
          (λ u. end c (dot u x) (dot u (combine (reverse b) vs)) (sym (turned_linear u b vs lb) ∙ ap (dot u) e.point ∙ dot-scale u c x) ∙ ap (λ n. c *ℤ n) (sym (dot-scale u (negsuc 0) x)) ∙ sym (dot-scale u c (scale (negsuc 0) x)));
      sum = total-reverse b ∙ e.sum;
    }
  where
    end : (c x y : ℤ) → negsuc 0 *ℤ y ≡ c *ℤ x → y ≡ c *ℤ (negsuc 0 *ℤ x)
    end c x y h =
        let own : c *ℤ (negsuc 0 *ℤ x) ≡ negsuc 0 *ℤ (c *ℤ x) = ring (c ∷ x ∷ []) (var 0 ⊗ (num (negsuc 0) ⊗ var 1)) (num (negsuc 0) ⊗ (var 0 ⊗ var 1)) tt in
        omega (arith, ints, own, h)

negated_has : (vs : List (List ℤ)) (x : List ℤ) → Contains vs x → Contains (negated vs) (scale (negsuc 0) x)
negated_has [] x c = Contains-none x c
negated_has (v ∷ vs) x c =
    elim (Contains-cases v vs x c) [
      | inl e ↦ subst (λ (w : List ℤ). Contains (negated (v ∷ vs)) (scale (negsuc 0) w)) e (Contains-head (scale (negsuc 0) v) (negated vs))
      | inr r ↦ Contains-tail (scale (negsuc 0) v) (negated vs) (scale (negsuc 0) x) (negated_has vs x r)
    ]

pub turned_empty : (d : ℕ) (q : List ℤ) (vs : List (List ℤ)) → IsSimplex d vs → IsStrictlyEmpty d q vs → IsStrictlyEmpty d q (turned_round vs)
turned_empty d q vs s e = record {
  outside = λ x c b lx h. subst (λ (n : ℤ). pos 0 ≤ℤ n) (sym (same x c b lx h)) (e.outside (scale (negsuc 0) x) c (reverse b) (length-scale (negsuc 0) x ∙ lx) (turned_expression_back d vs x c b s lx h));
  touches = λ x c b lx h z.
      let m : Contains vs (scale (negsuc 0) x) = e.touches (scale (negsuc 0) x) c (reverse b) (length-scale (negsuc 0) x ∙ lx) (turned_expression_back d vs x c b s lx h) (sym (same x c b lx h) ∙ z) in
      reverse_has (negated vs) x (subst (λ (w : List ℤ). Contains (negated vs) w) (opposite_twice x) (negated_has vs (scale (negsuc 0) x) m));
}
  where
    same : (x : List ℤ) (c : ℤ) (b : List ℤ) → length x ≡ d → IsExpression (turned_round vs) x c b → excess q (turned_round vs) x c b ≡ excess q vs (scale (negsuc 0) x) c (reverse b)
    same x c b lx h = ap₂ (λ (m n : ℤ). c *ℤ m -ℤ n) (sym (value-negative q x)) (turned_value q b vs (h.one_each ∙ length-turned vs))

-- ---- they ascend

int_cmp-turned : (a b : ℤ) → int_cmp (negsuc 0 *ℤ b) (negsuc 0 *ℤ a) ≡ int_cmp a b
int_cmp-turned a b = sym (int_cmp_is (negsuc 0 *ℤ b) (negsuc 0 *ℤ a) (int_cmp a b) (turn a b (int_cmp a b) (int_ranks a b)))
  where
    turn : (a b : ℤ) (r : Ordering) → MatchOrdering r (a <ℤ b) (a ≡ b) (b <ℤ a) → MatchOrdering r ((negsuc 0 *ℤ b) <ℤ (negsuc 0 *ℤ a)) (negsuc 0 *ℤ b ≡ negsuc 0 *ℤ a) ((negsuc 0 *ℤ a) <ℤ (negsuc 0 *ℤ b))
    turn a b Less h = omega (arith, ints, h)
    turn a b Equal h = omega (arith, ints, h)
    turn a b Greater h = omega (arith, ints, h)

pub cmp-turned : (x y : List ℤ) → length x ≡ length y → number_list_cmp (scale (negsuc 0) y) (scale (negsuc 0) x) ≡ number_list_cmp x y
cmp-turned [] [] l = refl
cmp-turned [] (b ∷ y) l = absurd (omega arith)
cmp-turned (a ∷ x) [] l = absurd (omega arith)
cmp-turned (a ∷ x) (b ∷ y) l = ap₂ (λ (r s : Ordering). ordering_then r s) (int_cmp-turned a b) (cmp-turned x y (omega arith))

sorted_last : (xs : List (List ℤ)) (y : List ℤ) → IsStrictlySortedBy number_list_cmp xs → AllByRecursion (λ x. number_list_cmp x y ≡ Less) xs → IsStrictlySortedBy number_list_cmp (xs ++ (y ∷ []))
unfolding IsStrictlySortedBy
sorted_last [] y s a = (tt, tt)
sorted_last (x ∷ xs) y s a = (all-append (λ z. number_list_cmp x z ≡ Less) xs (y ∷ []) s.0 (a.0, tt), sorted_last xs y s.1 a.1)

below_turned : (d : ℕ) (v : List ℤ) (vs : List (List ℤ)) → length v ≡ d → AllOfDimension d vs → AllByRecursion (λ z. number_list_cmp v z ≡ Less) vs → AllByRecursion (λ z. number_list_cmp z (scale (negsuc 0) v) ≡ Less) (negated vs)
below_turned d v [] lv all h = tt
below_turned d v (w ∷ vs) lv all h = (cmp-turned v w (lv ∙ sym all.0) ∙ h.0, below_turned d v vs lv all.1 h.1)

pub turned_ascending : (d : ℕ) (vs : List (List ℤ)) → AllOfDimension d vs → IsStrictlySortedBy number_list_cmp vs → IsStrictlySortedBy number_list_cmp (turned_round vs)
unfolding IsStrictlySortedBy
turned_ascending d [] all s = tt
turned_ascending d (v ∷ vs) all s =
    subst (IsStrictlySortedBy number_list_cmp) (sym (reverse_more (scale (negsuc 0) v) (negated vs))) (sorted_last (turned_round vs) (scale (negsuc 0) v) (turned_ascending d vs all.1 s.1) (all-reverse (λ z. number_list_cmp z (scale (negsuc 0) v) ≡ Less) (negated vs) (below_turned d v vs all.0 all.1 s.0)))

-- ---- the class of a set of points is unique

pub one_class : (d : ℕ) (ps s s' : List (List ℤ)) → IsClassOf d ps s → IsClassOf d ps s' → s ≡ s'
one_class d ps s s' h k =
    let ch = h.«class» in
    let ck = k.«class» in
    let up : translate h.shift s ≡ translate k.shift s' =
    same_members number_list_cmp number_list_cmp_total (translate h.shift s) (translate k.shift s') (ascending_translate d h.shift s h.dimension ch.simplex.points ch.ascending) (ascending_translate d k.shift s' k.dimension ck.simplex.points ck.ascending)
    (λ x. (λ c. (k.same x).0 ((h.same x).1 c), λ c. (h.same x).0 ((k.same x).1 c)))
    in
    let first : (r : List (List ℤ)) (p : List ℤ) → IsClass d r → length p ≡ d → get_or (translate p r) 0 [] ≡ p = λ r p c l. first_of_translate p r (omega (arith, c.simplex.count)) ∙ ap (λ (v : List ℤ). plus v p) c.first ∙ zeros-plus d p l in
    let shifts : h.shift ≡ k.shift = sym (first s h.shift ch h.dimension) ∙ ap (λ (l : List (List ℤ)). get_or l 0 []) up ∙ first s' k.shift ck k.dimension in
    sym (translate-back d s h.shift ch.simplex.points h.dimension) ∙ ap₂ (λ (p : List ℤ) (r : List (List ℤ)). translate (scale (negsuc 0) p) r) shifts up ∙ translate-back d s' k.shift ck.simplex.points k.dimension

-- ---- the negative of a class

abbrev last_of : List (List ℤ) → List ℤ
last_of s = get_or s (length s - 1) []

-- the last point takes the first of the points turned round to 0
first_turned : (s : List (List ℤ)) → 0 < length s → last_of s ≡ scale (negsuc 0) (get_or (turned_round s) 0 [])
first_turned s some =
    let n : length (negated s) ≡ length s = length-map_vectors (scale (negsuc 0)) s in
    let i : length (negated s) - 1 - 0 ≡ length s - 1 = omega (arith, n) in
    let e : get_or (turned_round s) 0 [] ≡ scale (negsuc 0) (get_or s (length s - 1) []) =
    get_or-reverse (negated s) 0 [] (omega (arith, n, some)) ∙ ap (λ (k : ℕ). get_or (negated s) k []) i ∙ get_or-map (scale (negsuc 0)) s (length s - 1) [] [] (omega (arith, some)) in
    sym (opposite_twice (get_or s (length s - 1) [])) ∙ ap (scale (negsuc 0)) (sym e)

last_dimension : (d : ℕ) (s : List (List ℤ)) → IsSimplex d s → length (last_of s) ≡ d
last_dimension d s h = get_dimension d s (length s - 1) h.points (omega (arith, h.count))

pub negative_is_class : (d : ℕ) (s : List (List ℤ)) → IsClass d s → IsClass d (negative s)
negative_is_class d s c =
    let t = turned_simplex d s c.simplex in
    let w : List ℤ = get_or (turned_round s) 0 [] in
    let lw : length w ≡ d = get_dimension d (turned_round s) 0 t.points (omega (arith, t.count)) in
    let p : List ℤ = last_of s in
    let lp : length p ≡ d = last_dimension d s c.simplex in
    record {
      simplex = simplex_moved d (turned_round s) p lp t;
      ascending = ascending_translate d p (turned_round s) lp t.points (turned_ascending d s c.simplex.points c.ascending);
      first = first_of_translate p (turned_round s) (omega (arith, t.count)) ∙ ap (plus w) (first_turned s (omega (arith, c.simplex.count))) ∙ minus_itself d w lw;
    }

pub negative_of : (d : ℕ) (s : List (List ℤ)) → IsClass d s → IsClassOf d (negated s) (negative s)
negative_of d s c =
    let t = turned_simplex d s c.simplex in
    let p : List ℤ = last_of s in
    let lp : length p ≡ d = last_dimension d s c.simplex in
    let back : translate (scale (negsuc 0) p) (negative s) ≡ turned_round s = translate-back d (turned_round s) p t.points lp in
    record {
      shift = scale (negsuc 0) p;
      dimension = length-scale (negsuc 0) p ∙ lp;
      «class» = negative_is_class d s c;
      same = λ x. (λ m. subst (λ (l : List (List ℤ)). Contains l x) (sym back) (reverse_has (negated s) x m), λ m. reverse_from (negated s) x (subst (λ (l : List (List ℤ)). Contains l x) back m));
    }

pub negative_empty : (d : ℕ) (q : List ℤ) (s : List (List ℤ)) → IsClass d s → IsStrictlyEmpty d q s → IsStrictlyEmpty d q (negative s)
negative_empty d q s c e =
    empty_moved d q (turned_round s) (last_of s) (turned_simplex d s c.simplex) (last_dimension d s c.simplex) (turned_empty d q s c.simplex e)

-- ---- the negative of the negative

negated-translate : (p : List ℤ) (vs : List (List ℤ)) → negated (translate p vs) ≡ translate (scale (negsuc 0) p) (negated vs)
negated-translate p [] = refl
negated-translate p (v ∷ vs) = ap₂ (λ (x : List ℤ) (l : List (List ℤ)). x ∷ l) (scale-plus (negsuc 0) v p) (negated-translate p vs)

negated-negated : (vs : List (List ℤ)) → negated (negated vs) ≡ vs
negated-negated [] = refl
negated-negated (v ∷ vs) = ap₂ (λ (x : List ℤ) (l : List (List ℤ)). x ∷ l) (opposite_twice v) (negated-negated vs)

turned-moved : (p : List ℤ) (s : List (List ℤ)) → turned_round (translate p (turned_round s)) ≡ translate (scale (negsuc 0) p) s
turned-moved p s =
    let e : reverse (negated (turned_round s)) ≡ s = ap reverse (map-reverse (scale (negsuc 0)) (negated s) ∙ ap reverse (negated-negated s)) ∙ reverse-reverse s in
    ap reverse (negated-translate p (turned_round s)) ∙ sym (map-reverse (λ v. plus v (scale (negsuc 0) p)) (negated (turned_round s))) ∙ ap (translate (scale (negsuc 0) p)) e

-- the last point stays where it is
last_stays : (d : ℕ) (s : List (List ℤ)) → IsClass d s → last_of (negative s) ≡ last_of s
last_stays d s c =
    let p : List ℤ = get_or s (length s - 1) [] in
    let lp : length p ≡ d = last_dimension d s c.simplex in
    let n : length (turned_round s) ≡ length s = length-turned s in
    let m : length (negative s) ≡ length s = length-map_vectors (λ v. plus v p) (turned_round s) ∙ n in
    let k : length (negated s) - 1 - (length s - 1) ≡ 0 = (let l = length-map_vectors (scale (negsuc 0)) s in omega (arith, l)) in
    let before : get_or (turned_round s) (length s - 1) [] ≡ scale (negsuc 0) (zeros d) =
    get_or-reverse (negated s) (length s - 1) [] (let l = length-map_vectors (scale (negsuc 0)) s in omega (arith, l, c.simplex.count)) ∙ ap (λ (i : ℕ). get_or (negated s) i []) k ∙ get_or-map (scale (negsuc 0)) s 0 [] [] (omega (arith, c.simplex.count)) ∙ ap (scale (negsuc 0)) c.first in
    let e : get_or (negative s) (length s - 1) [] ≡ p =
    get_or-map (λ v. plus v p) (turned_round s) (length s - 1) [] [] (omega (arith, n, c.simplex.count)) ∙ ap (λ (v : List ℤ). plus v p) (before ∙ scale-zeros (negsuc 0) d) ∙ zeros-plus d p lp in
    ap (λ (i : ℕ). get_or (negative s) (i - 1) []) m ∙ e

pub negative-negative : (d : ℕ) (s : List (List ℤ)) → IsClass d s → negative (negative s) ≡ s
negative-negative d s c =
    let p : List ℤ = get_or s (length s - 1) [] in
    let lp : length p ≡ d = last_dimension d s c.simplex in
    ap₂ translate (last_stays d s c) (turned-moved p s)
    ∙ ap (λ (x : List ℤ). translate x (translate (scale (negsuc 0) p) s)) (sym (opposite_twice p))
    ∙ translate-back d s (scale (negsuc 0) p) c.simplex.points (length-scale (negsuc 0) p ∙ lp)

-- ---- no class is its own negative

pub not_own_negative : (d : ℕ) (s : List (List ℤ)) → 2 ≤ d → IsClassOf d (negated s) s → ⊥
not_own_negative d s h k = choose first.0 (first.1) (λ u. is u 0 first.0 first.2)
  where
    c : IsClass d s
    c = k.«class»

    -- v_a and v_b add up to less the shift
    opposite : (a : ℕ) → a < length s → (b : ℕ) × (b < length s) × (plus (get_or s b []) k.shift ≡ scale (negsuc 0) (get_or s a []))
    opposite a ha =
        let m = from_translate k.shift s (scale (negsuc 0) (get_or s a [])) ((k.same (scale (negsuc 0) (get_or s a []))).0 (negated_has s (get_or s a []) (at_place s a ha))) in
        let i = index_of s m.0 m.1 in
        (i.0, i.1, ap (λ (v : List ℤ). plus v k.shift) i.2 ∙ m.2)

    is : (u : List ℤ) (a b : ℕ) → plus (get_or s b []) k.shift ≡ scale (negsuc 0) (get_or s a []) → dot u (get_or s a []) +ℤ dot u (get_or s b []) ≡ negsuc 0 *ℤ dot u k.shift
    is u a b e =
        let f : dot u (get_or s b []) +ℤ dot u k.shift ≡ negsuc 0 *ℤ dot u (get_or s a []) = sym (dot-plus u (get_or s b []) k.shift) ∙ ap (dot u) e ∙ dot-scale u (negsuc 0) (get_or s a []) in
        omega (arith, ints, f)

    first : (b : ℕ) × (b < length s) × (plus (get_or s b []) k.shift ≡ scale (negsuc 0) (get_or s 0 []))
    first = opposite 0 (omega (arith, c.simplex.count))

    -- a third vertex would be one of the two
    third : (j a : ℕ) → a < length s → j < length s → ((u : List ℤ) → dot u (get_or s 0 []) +ℤ dot u (get_or s j []) ≡ negsuc 0 *ℤ dot u k.shift) → (a ≡ 0) ⊎ (a ≡ j)
    third j a ha hj e =
        let o = opposite a ha in
        one_of_two d s 0 j a o.0 c.simplex (omega (arith, c.simplex.count)) hj ha o.1 (λ u. omega (arith, ints, e u, is u a o.0 o.2))

    choose : (j : ℕ) → j < length s → ((u : List ℤ) → dot u (get_or s 0 []) +ℤ dot u (get_or s j []) ≡ negsuc 0 *ℤ dot u k.shift) → ⊥
    choose (suc zero) hj e = elim (third 1 2 (omega (arith, c.simplex.count)) hj e) [ inl z ↦ absurd (omega arith) | inr z ↦ absurd (omega arith) ]
    choose zero hj e = elim (third 0 1 (omega (arith, c.simplex.count)) hj e) [ inl z ↦ absurd (omega arith) | inr z ↦ absurd (omega arith) ]
    choose (suc (suc j)) hj e = elim (third (suc (suc j)) 1 (omega (arith, c.simplex.count)) hj e) [ inl z ↦ absurd (omega arith) | inr z ↦ absurd (omega arith) ]

pub negatives_are_members : (d : ℕ) (q : List ℤ) (t : List (List (List ℤ))) (s : List (List ℤ)) → 2 ≤ d → IsDelaunay d q t → Contains t s →
    ((s' : List (List ℤ)) × IsClassOf d (negated s) s') × ((s' : List (List ℤ)) → IsClassOf d (negated s) s' → Contains t s' × (s' ≢ s))
negatives_are_members d q t s h del m =
    let c = (del.members s).0 m in
    let own = negative_of d s c.0 in
    let member : Contains t (negative s) = (del.members (negative s)).1 (negative_is_class d s c.0, negative_empty d q s c.0 c.1) in
    ((negative s, own), λ s' k. (subst (λ (r : List (List ℤ)). Contains t r) (one_class d (negated s) (negative s) s' own k) member, λ e. not_own_negative d s h (subst (λ (r : List (List ℤ)). IsClassOf d (negated s) r) e k)))
