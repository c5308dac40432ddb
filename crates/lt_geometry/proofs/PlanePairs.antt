-- The worked example of dimension 2: the six facets of its members, each with its neighbour, numbers and regulator.
use Rattle.std.proofs.Common.{◌≡◌, ℕ, ℤ, pos, negsuc, ◌-ℤ◌, ◌*ℤ◌, ◌<ℤ◌, ◌<◌, refl, ap, arith, sym, ◌∙◌, subst, List, [], ◌∷◌, length, map, get_or, inl, inr}
use Rattle.std.proofs.lemmas.Int.{ints}
use Rattle.std.specs.List.{Contains}
use Rattle.lt_model.specs.Vectors.{scale, dot, IsPrimitive}
use Rattle.lt_model.specs.Forms.{value}
use Rattle.lt_model.specs.Simplices.{IsSimplex, IsExpression, excess, translate}
use Rattle.lt_model.specs.Facets.{IsBeyond, IsNeighbour}
use Rattle.lt_model.specs.Walls.{excess_normal, IsPair}
use Rattle.lt_model.specs.Principal.{principal_numbers}
use Rattle.lt_model.proofs.Ring.{ring, var, num, ◌⊖◌, ◌⊗◌}
use Rattle.lt_model.proofs.Vectors.{dot-scale}
use Rattle.lt_model.proofs.Squares.{length-scale}
use Rattle.lt_model.proofs.Excess.{scale-dot}
use Rattle.lt_model.proofs.Expressions.{one_expression}
use Rattle.lt_model.proofs.Points.{weighted, scale-one}
use Rattle.lt_geometry.specs.Plane.{point, left_class, right_class, plane, diagonal_normal, upright_normal, level_normal}
use Rattle.lt_geometry.proofs.Unique.{one_neighbour}
use Rattle.lt_geometry.proofs.Primitive.{same_primitive, primitive_from_one}
use Rattle.lt_geometry.proofs.Neighbours.{principal_paving}
use Rattle.lt_geometry.proofs.Normals.{normal_dot, length-normal}
use Rattle.lt_geometry.proofs.Plane.{left_is_class, right_is_class, has_left, has_right, plane_is_principal}

-- facet i of the member s: the outer vertex w across it, its numbers b over the member, and the regulator n
pub record IsKnown (s : List (List ℤ)) (i : ℕ) (w b n : List ℤ) : Type 0 where
  pub next : List (List ℤ)
  pub shift : List ℤ
  pub outer : ℕ
  pub simplex : IsSimplex 2 s
  pub member : Contains plane s
  pub place : i < 3
  pub neighbour : IsNeighbour 2 plane s i next shift outer
  pub vertex : w ≡ get_or (translate shift next) outer []
  pub dimension : length w ≡ 2
  pub count : length n ≡ 3
  pub expression : IsExpression s w (pos 1) b
  pub primitive : IsPrimitive n
  pub normal : excess_normal s w (pos 1) b ≡ n

pub known_pair : (s : List (List ℤ)) (i : ℕ) (w b n : List ℤ) → IsKnown s i w b n → IsPair 2 plane n s w (pos 1) b
known_pair s i w b n k = record {
  member = k.member;
  facet = i;
  place = k.place;
  next = k.next;
  shift = k.shift;
  outer = k.outer;
  neighbour = k.neighbour;
  vertex = k.vertex;
  expression = k.expression;
  primitive = k.primitive;
  factor = 1;
  some = omega arith;
  multiple = k.normal ∙ sym (scale-one n);
}

excess_scaled : (q : List ℤ) (s : List (List ℤ)) (w b : List ℤ) (c : ℤ) → excess q s w c (scale c b) ≡ c *ℤ excess q s w (pos 1) b
excess_scaled q s w b c = rw (scale-dot c b (map (value q) s)) (end c (value q w) (dot b (map (value q) s)))
  where
    end : (c x y : ℤ) → c *ℤ x -ℤ c *ℤ y ≡ c *ℤ (pos 1 *ℤ x -ℤ y)
    end c x y = ring (c ∷ x ∷ y ∷ []) (var 0 ⊗ var 1 ⊖ var 0 ⊗ var 2) (var 0 ⊗ (num (pos 1) ⊗ var 1 ⊖ var 2)) tt

-- a pair at a known facet has the known vertex, multiples of the known numbers, and the known regulator
pub record IsThat (w b n w' : List ℤ) (c : ℤ) (b' n' : List ℤ) : Type 0 where
  pub vertex : w' ≡ w
  pub multiple : b' ≡ scale c b
  pub normal : n' ≡ n

pub that : (s : List (List ℤ)) (i : ℕ) (w b n : List ℤ) → IsKnown s i w b n → (n' w' : List ℤ) (c : ℤ) (b' : List ℤ) (h : IsPair 2 plane n' s w' c b') → h.facet ≡ i → IsThat w b n w' c b' n'
that s i w b n k n' w' c b' h at = record { vertex = vertex; multiple = multiple; normal = normal c h.expression.positive refl }
  where
    vertex : w' ≡ w
    vertex =
        h.vertex
        ∙ sym (one_neighbour 2 (principal_numbers 2) plane s i k.next h.next k.shift h.shift k.outer h.outer (principal_paving 2 plane (omega arith) plane_is_principal) k.member k.place k.neighbour (subst (λ (f : ℕ). IsNeighbour 2 plane s f h.next h.shift h.outer) at h.neighbour))
        ∙ sym k.vertex

    multiple : b' ≡ scale c b
    multiple =
        let e : IsExpression s w c b' = subst (λ (x : List ℤ). IsExpression s x c b') vertex h.expression in
        sym (one_expression 2 s (pos 1) w b b' (pos 1) c k.simplex (weighted s w (pos 1) b k.expression) (weighted s w c b' e) ∙ scale-one b')

    at_form : (u : List ℤ) → pos h.factor *ℤ dot u n' ≡ c *ℤ dot u n
    at_form u =
        let e1 : dot u (excess_normal s w' c b') ≡ pos h.factor *ℤ dot u n' = ap (dot u) h.multiple ∙ dot-scale u (pos h.factor) n' in
        let e2 : dot u (excess_normal s w' c b') ≡ excess u s w c (scale c b) = normal_dot u s w' c b' ∙ rw (vertex, multiple) refl in
        let e3 : excess u s w (pos 1) b ≡ dot u n = sym (normal_dot u s w (pos 1) b) ∙ ap (dot u) k.normal in
        sym e1 ∙ e2 ∙ excess_scaled u s w b c ∙ ap (λ (x : ℤ). c *ℤ x) e3

    count : length n' ≡ length n
    count =
        let l : length (excess_normal s w' c b') ≡ 3 = length-normal 2 s w' c b' k.simplex.points (omega (arith, k.simplex.count)) (ap length vertex ∙ k.dimension) h.expression.one_each in
        let m : length (scale (pos h.factor) n') ≡ 3 = sym (ap length h.multiple) ∙ l in
        sym (length-scale (pos h.factor) n') ∙ m ∙ sym k.count

    normal : (e : ℤ) → pos 0 <ℤ e → c ≡ e → n' ≡ n
    normal (pos m) p is = same_primitive h.factor m n' n h.some (omega (arith, ints)) count h.primitive k.primitive (λ u. at_form u ∙ ap (λ (x : ℤ). x *ℤ dot u n) is)
    normal (negsuc m) p is = absurd (omega (arith, ints))

diagonal_primitive : IsPrimitive diagonal_normal
diagonal_primitive = primitive_from_one diagonal_normal (pos 0 ∷ pos 1 ∷ pos 0 ∷ []) (inr refl)

upright_primitive : IsPrimitive upright_normal
upright_primitive = primitive_from_one upright_normal (pos 0 ∷ pos 1 ∷ pos 0 ∷ []) (inl refl)

level_primitive : IsPrimitive level_normal
level_primitive = primitive_from_one level_normal (pos 0 ∷ pos 1 ∷ pos 0 ∷ []) (inl refl)

pub left_first : IsKnown left_class 0 (point (pos 1) (pos 2)) (negsuc 0 ∷ pos 1 ∷ pos 1 ∷ []) upright_normal
left_first = record {
  next = right_class;
  shift = point (pos 0) (pos 1);
  outer = 2;
  simplex = left_is_class.simplex;
  member = has_left;
  place = omega arith;
  neighbour = record { member = has_right; dimension = refl; place = omega arith; facet = refl; beyond = beyond };
  vertex = refl;
  dimension = refl;
  count = refl;
  expression = expression;
  primitive = upright_primitive;
  normal = refl;
}
  where
    expression : IsExpression left_class (point (pos 1) (pos 2)) (pos 1) (negsuc 0 ∷ pos 1 ∷ pos 1 ∷ [])
    expression = record { positive = record { lt = tt }; one_each = refl; point = refl; sum = refl }

    beyond : IsBeyond left_class 0 (point (pos 1) (pos 2))
    beyond = record { scale = pos 1; coefficients = (negsuc 0 ∷ pos 1 ∷ pos 1 ∷ []); expression = expression; negative = record { lt = tt } }

pub left_second : IsKnown left_class 1 (point (pos 1) (pos 0)) (pos 1 ∷ negsuc 0 ∷ pos 1 ∷ []) diagonal_normal
left_second = record {
  next = right_class;
  shift = point (pos 0) (pos 0);
  outer = 1;
  simplex = left_is_class.simplex;
  member = has_left;
  place = omega arith;
  neighbour = record { member = has_right; dimension = refl; place = omega arith; facet = refl; beyond = beyond };
  vertex = refl;
  dimension = refl;
  count = refl;
  expression = expression;
  primitive = diagonal_primitive;
  normal = refl;
}
  where
    expression : IsExpression left_class (point (pos 1) (pos 0)) (pos 1) (pos 1 ∷ negsuc 0 ∷ pos 1 ∷ [])
    expression = record { positive = record { lt = tt }; one_each = refl; point = refl; sum = refl }

    beyond : IsBeyond left_class 1 (point (pos 1) (pos 0))
    beyond = record { scale = pos 1; coefficients = (pos 1 ∷ negsuc 0 ∷ pos 1 ∷ []); expression = expression; negative = record { lt = tt } }

pub left_third : IsKnown left_class 2 (point (negsuc 0) (pos 0)) (pos 1 ∷ pos 1 ∷ negsuc 0 ∷ []) level_normal
left_third = record {
  next = right_class;
  shift = point (negsuc 0) (pos 0);
  outer = 0;
  simplex = left_is_class.simplex;
  member = has_left;
  place = omega arith;
  neighbour = record { member = has_right; dimension = refl; place = omega arith; facet = refl; beyond = beyond };
  vertex = refl;
  dimension = refl;
  count = refl;
  expression = expression;
  primitive = level_primitive;
  normal = refl;
}
  where
    expression : IsExpression left_class (point (negsuc 0) (pos 0)) (pos 1) (pos 1 ∷ pos 1 ∷ negsuc 0 ∷ [])
    expression = record { positive = record { lt = tt }; one_each = refl; point = refl; sum = refl }

    beyond : IsBeyond left_class 2 (point (negsuc 0) (pos 0))
    beyond = record { scale = pos 1; coefficients = (pos 1 ∷ pos 1 ∷ negsuc 0 ∷ []); expression = expression; negative = record { lt = tt } }

pub right_first : IsKnown right_class 0 (point (pos 2) (pos 1)) (negsuc 0 ∷ pos 1 ∷ pos 1 ∷ []) level_normal
right_first = record {
  next = left_class;
  shift = point (pos 1) (pos 0);
  outer = 2;
  simplex = right_is_class.simplex;
  member = has_right;
  place = omega arith;
  neighbour = record { member = has_left; dimension = refl; place = omega arith; facet = refl; beyond = beyond };
  vertex = refl;
  dimension = refl;
  count = refl;
  expression = expression;
  primitive = level_primitive;
  normal = refl;
}
  where
    expression : IsExpression right_class (point (pos 2) (pos 1)) (pos 1) (negsuc 0 ∷ pos 1 ∷ pos 1 ∷ [])
    expression = record { positive = record { lt = tt }; one_each = refl; point = refl; sum = refl }

    beyond : IsBeyond right_class 0 (point (pos 2) (pos 1))
    beyond = record { scale = pos 1; coefficients = (negsuc 0 ∷ pos 1 ∷ pos 1 ∷ []); expression = expression; negative = record { lt = tt } }

pub right_second : IsKnown right_class 1 (point (pos 0) (pos 1)) (pos 1 ∷ negsuc 0 ∷ pos 1 ∷ []) diagonal_normal
right_second = record {
  next = left_class;
  shift = point (pos 0) (pos 0);
  outer = 1;
  simplex = right_is_class.simplex;
  member = has_right;
  place = omega arith;
  neighbour = record { member = has_left; dimension = refl; place = omega arith; facet = refl; beyond = beyond };
  vertex = refl;
  dimension = refl;
  count = refl;
  expression = expression;
  primitive = diagonal_primitive;
  normal = refl;
}
  where
    expression : IsExpression right_class (point (pos 0) (pos 1)) (pos 1) (pos 1 ∷ negsuc 0 ∷ pos 1 ∷ [])
    expression = record { positive = record { lt = tt }; one_each = refl; point = refl; sum = refl }

    beyond : IsBeyond right_class 1 (point (pos 0) (pos 1))
    beyond = record { scale = pos 1; coefficients = (pos 1 ∷ negsuc 0 ∷ pos 1 ∷ []); expression = expression; negative = record { lt = tt } }

pub right_third : IsKnown right_class 2 (point (pos 0) (negsuc 0)) (pos 1 ∷ pos 1 ∷ negsuc 0 ∷ []) upright_normal
right_third = record {
  next = left_class;
  shift = point (pos 0) (negsuc 0);
  outer = 0;
  simplex = right_is_class.simplex;
  member = has_right;
  place = omega arith;
  neighbour = record { member = has_left; dimension = refl; place = omega arith; facet = refl; beyond = beyond };
  vertex = refl;
  dimension = refl;
  count = refl;
  expression = expression;
  primitive = upright_primitive;
  normal = refl;
}
  where
    expression : IsExpression right_class (point (pos 0) (negsuc 0)) (pos 1) (pos 1 ∷ pos 1 ∷ negsuc 0 ∷ [])
    expression = record { positive = record { lt = tt }; one_each = refl; point = refl; sum = refl }

    beyond : IsBeyond right_class 2 (point (pos 0) (negsuc 0))
    beyond = record { scale = pos 1; coefficients = (pos 1 ∷ pos 1 ∷ negsuc 0 ∷ []); expression = expression; negative = record { lt = tt } }
