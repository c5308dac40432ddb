-- The matrix that takes the vertices of a simplex to targets, number by number.
use Rattle.std.proofs.Common.{◌≡◌, ◌<◌, ◌≤◌, ◌+◌, ◌*◌, ℕ, zero, suc, ℤ, pos, negsuc, ◌+ℤ◌, ◌*ℤ◌, refl, ap, ap₂, arith, sym, ◌∙◌, subst, List, [], ◌∷◌, length, map, get_or, drop, Bool, true, false, cond}
use Rattle.std.specs.Prelude.{◌≤ℤ◌, ◌<ℤ◌, nat_le}
use Rattle.std.specs.List.{AllByRecursion}
use Rattle.std.proofs.lemmas.Int.{ints}
use Rattle.std.proofs.lemmas.List.{get_or-drop, length-map}
use Rattle.lt_model.specs.Vectors.{plus, scale, dot, unit, zeros, combine, AreLinearlyIndependent}
use Rattle.lt_model.specs.Facets.{number_at}
use Rattle.lt_model.specs.Matrices.{apply, identity, IsSquare}
use Rattle.lt_model.specs.Flat.{rows}
use Rattle.lt_model.specs.Simplices.{AllOfDimension, IsSimplex}
use Rattle.lt_model.proofs.Ring.{var, ◌⊕◌, ◌⊗◌, ring}
use Rattle.lt_model.proofs.Integers.{mul_comm_z, mul_left_comm_z}
use Rattle.lt_model.proofs.Inequalities.{cancel_z, mul_pos_z}
use Rattle.lt_model.proofs.Vectors.{dot-plus, dot-scale, dot_comm, scale-plus, scale-scale}
use Rattle.lt_model.proofs.Squares.{length-scale, length-plus}
use Rattle.lt_model.proofs.Excess.{plus-dot, scale-dot, dot-combine}
use Rattle.lt_model.proofs.Walk.{plus-nil, number_at-map, length-combine}
use Rattle.lt_model.proofs.Opposite.{length-unit, unit-dot}
use Rattle.lt_model.proofs.Flat.{identity_square, get-identity}
use Rattle.lt_model.proofs.Points.{get_dimension, minus_itself, length-apply, count_rest}
use Rattle.lt_geometry.proofs.Matrices.{apply-identity, apply-zeros, same_from_dots_at}
use Rattle.lt_geometry.proofs.Induced.{combine-plus, scale-combine}
use Rattle.lt_geometry.proofs.LocalWalk.{zeros-plus, plus-forth}
use Rattle.lt_lattice.proofs.Places.{get-apply, square_row, length_row}
use Rattle.lt_solve.specs.Systems.{column_limit}
use Rattle.lt_triang.proofs.Columned.{drop_dimension}
use Rattle.lt_match.specs.Images.{TakesTo}
use Rattle.lt_match.specs.Bases.{IsBasis, IsEntry}
use Rattle.lt_match.proofs.Multiples.{rest_independent}
use Rattle.lt_match.proofs.Orders.{all_at}

-- ---- what a row does to a vector is known from what it is to do to the points

record IsKnown (points : List (List ℤ)) (values r e : List ℤ) : Type 0 where
  factor : ℤ
  numbers : List ℤ
  positive : pos 0 <ℤ factor
  count : length numbers ≡ length points
  sum : combine numbers points ≡ scale factor e
  value : dot numbers values ≡ factor *ℤ dot r e

known_scaled : (points : List (List ℤ)) (values r e : List ℤ) (x : ℤ) → IsKnown points values r e → IsKnown points values r (scale x e)
known_scaled points values r e x k = record {
  factor = k.factor;
  numbers = scale x k.numbers;
  positive = k.positive;
  count = length-scale x k.numbers ∙ k.count;
  sum = scale-combine x k.numbers points ∙ ap (scale x) k.sum ∙ scale-scale x k.factor e ∙ ap (λ z. scale z e) (mul_comm_z x k.factor) ∙ sym (scale-scale k.factor x e);
  value = scale-dot x k.numbers values ∙ ap (λ z. x *ℤ z) k.value ∙ mul_left_comm_z x k.factor (dot r e) ∙ ap (λ z. k.factor *ℤ z) (sym (dot-scale r x e));
}

known_sum : (points : List (List ℤ)) (values r e f : List ℤ) → IsKnown points values r e → IsKnown points values r f → IsKnown points values r (plus e f)
known_sum points values r e f k l = record {
  factor = k.factor *ℤ l.factor;
  numbers = plus (scale l.factor k.numbers) (scale k.factor l.numbers);
  positive = mul_pos_z k.factor l.factor k.positive l.positive;
  count = length-plus (scale l.factor k.numbers) (scale k.factor l.numbers) (length-scale l.factor k.numbers ∙ k.count ∙ sym (length-scale k.factor l.numbers ∙ l.count)) ∙ length-scale l.factor k.numbers ∙ k.count;
  sum =
      combine-plus (scale l.factor k.numbers) (scale k.factor l.numbers) points
      ∙ ap₂ plus (scale-combine l.factor k.numbers points ∙ ap (scale l.factor) k.sum ∙ scale-scale l.factor k.factor e ∙ ap (λ z. scale z e) (mul_comm_z l.factor k.factor)) (scale-combine k.factor l.numbers points ∙ ap (scale k.factor) l.sum ∙ scale-scale k.factor l.factor f)
      ∙ sym (scale-plus (k.factor *ℤ l.factor) e f);
  value =
      plus-dot (scale l.factor k.numbers) (scale k.factor l.numbers) values
      ∙ ap₂ (λ (a b : ℤ). a +ℤ b) (scale-dot l.factor k.numbers values ∙ ap (λ z. l.factor *ℤ z) k.value) (scale-dot k.factor l.numbers values ∙ ap (λ z. k.factor *ℤ z) l.value)
      ∙ both k.factor l.factor (dot r e) (dot r f)
      ∙ ap (λ z. (k.factor *ℤ l.factor) *ℤ z) (sym (dot-plus r e f));
}
  where
    both : (p q a b : ℤ) → q *ℤ (p *ℤ a) +ℤ p *ℤ (q *ℤ b) ≡ (p *ℤ q) *ℤ (a +ℤ b)
    both p q a b = ring (p ∷ q ∷ a ∷ b ∷ []) (var 1 ⊗ (var 0 ⊗ var 2) ⊕ var 0 ⊗ (var 1 ⊗ var 3)) ((var 0 ⊗ var 1) ⊗ (var 2 ⊕ var 3)) tt

known_combine : (points : List (List ℤ)) (values r xs : List ℤ) (es : List (List ℤ)) → 0 < length xs → length xs ≡ length es → AllByRecursion (IsKnown points values r) es → IsKnown points values r (combine xs es)
known_combine points values r [] es some l all = absurd (omega arith)
known_combine points values r (x ∷ xs) [] some l all = absurd (omega arith)
known_combine points values r (x ∷ []) (e ∷ es) some l all = subst (IsKnown points values r) (sym (plus-nil (scale x e))) (known_scaled points values r e x all.0)
known_combine points values r (x ∷ y ∷ xs) (e ∷ es) some l all = known_sum points values r (scale x e) (combine (y ∷ xs) es) (known_scaled points values r e x all.0) (known_combine points values r (y ∷ xs) es (omega arith) (omega arith) all.1)

combine-identity : (d : ℕ) (x : List ℤ) → 0 < d → length x ≡ d → combine x (identity d) ≡ x
combine-identity d x some l =
    let square = identity_square d in
    same_from_dots_at d (combine x (identity d)) x (length-combine d x (identity d) square.columns (l ∙ sym square.rows) (omega (arith, square.rows, some))) l
    (λ w lw. dot-combine w x (identity d) ∙ ap (dot x) (turned w (identity d) ∙ apply-identity d w lw) ∙ dot_comm x w)
  where
    turned : (w : List ℤ) (vs : List (List ℤ)) → map (dot w) vs ≡ apply vs w
    turned w [] = refl
    turned w (v ∷ vs) = rw (turned w vs, dot_comm w v) refl

-- what is known of the unit vectors is known of each vector
known_all : (d : ℕ) (points : List (List ℤ)) (values r x : List ℤ) → 0 < d → length x ≡ d → ((j : ℕ) → j < d → IsKnown points values r (unit d j)) → IsKnown points values r x
known_all d points values r x some l h =
    let square = identity_square d in
    subst (IsKnown points values r) (combine-identity d x some l)
    (known_combine points values r x (identity d) (omega (arith, l, some)) (l ∙ sym square.rows)
    (all_at (IsKnown points values r) (identity d) (λ i k. subst (IsKnown points values r) (sym (get-identity d i (omega (arith, square.rows, k)))) (h i (omega (arith, square.rows, k))))))

combine-unit : (d i : ℕ) (points : List (List ℤ)) → AllOfDimension d points → length points ≡ d → i < d → combine (unit d i) points ≡ get_or points i []
combine-unit d i points all l h =
    same_from_dots_at d (combine (unit d i) points) (get_or points i []) (length-combine d (unit d i) points all (length-unit d i ∙ sym l) (omega (arith, l, h))) (get_dimension d i points [] all (omega (arith, l, h)))
    (λ w lw. dot-combine w (unit d i) points ∙ unit-dot d i (map (dot w) points) (length-map points (dot w) ∙ l) ∙ number_at-map (dot w) i points [] (omega (arith, l, h)))

-- a row that is known at the unit vectors does to each point what it is to do
row_takes : (d i : ℕ) (points : List (List ℤ)) (values r : List ℤ) → 0 < d → AreLinearlyIndependent points → AllOfDimension d points → length points ≡ d → length values ≡ d → i < d → ((j : ℕ) → j < d → IsKnown points values r (unit d j)) →
    dot r (get_or points i []) ≡ number_at i values
row_takes d i points values r some free all l lv h known =
    let a : List ℤ = get_or points i [] in
    let la : length a ≡ d = get_dimension d i points [] all (omega (arith, l, h)) in
    let k = known_all d points values r a some la known in
    let c : List ℤ = scale k.factor (unit d i) in
    let lc : length c ≡ d = length-scale k.factor (unit d i) ∙ length-unit d i in
    let lk : length k.numbers ≡ d = k.count ∙ l in
    let same : combine k.numbers points ≡ combine c points = k.sum ∙ sym (scale-combine k.factor (unit d i) points ∙ ap (scale k.factor) (combine-unit d i points all l h)) in
    let lx : length (combine c points) ≡ d = length-combine d c points all (lc ∙ sym l) (omega (arith, l, h)) in
    let none : combine (plus k.numbers (scale (negsuc 0) c)) points ≡ zeros (length points) =
    combine-plus k.numbers (scale (negsuc 0) c) points ∙ ap₂ plus same (scale-combine (negsuc 0) c points) ∙ minus_itself d (combine c points) lx ∙ ap zeros (sym l)
    in
    let ld : length (plus k.numbers (scale (negsuc 0) c)) ≡ length points = length-plus k.numbers (scale (negsuc 0) c) (lk ∙ sym (length-scale (negsuc 0) c ∙ lc)) ∙ k.count in
    let gone : plus k.numbers (scale (negsuc 0) c) ≡ zeros d = free (plus k.numbers (scale (negsuc 0) c)) ld none ∙ ap zeros l in
    let equal : k.numbers ≡ c = sym (plus-forth d k.numbers c lk lc) ∙ ap (λ (z : List ℤ). plus z c) gone ∙ zeros-plus d c lc in
    let value : k.factor *ℤ number_at i values ≡ dot k.numbers values = sym (ap (λ (z : List ℤ). dot z values) equal ∙ scale-dot k.factor (unit d i) values ∙ ap (λ z. k.factor *ℤ z) (unit-dot d i values lv)) in
    sym (cancel_z k.factor (number_at i values) (dot r a) k.positive (value ∙ k.value))

-- ---- entries

pub same_lists : (xs ys : List ℤ) → length xs ≡ length ys → ((i : ℕ) → i < length xs → number_at i xs ≡ number_at i ys) → xs ≡ ys
same_lists [] [] l h = refl
same_lists [] (y ∷ ys) l h = absurd (omega arith)
same_lists (x ∷ xs) [] l h = absurd (omega arith)
same_lists (x ∷ xs) (y ∷ ys) l h = ap₂ (λ (a : ℤ) (l : List ℤ). a ∷ l) (h 0 (omega arith)) (same_lists xs ys (omega arith) (λ i p. h (suc i) (omega arith)))

positive_column : (d : ℕ) → 0 < column_limit d
positive_column d = at (nat_le d 5)
  where
    at : (b : Bool) → 0 < 2 * cond b 400 100
    at true = omega arith
    at false = omega arith

positive_scale : (d : ℕ) (x : ℤ) → pos (column_limit d) ≤ℤ x → pos 0 <ℤ x
positive_scale d x h = let p = positive_column d in omega (arith, ints, p)

-- what a matrix that takes the points to the targets has at each place
pub entries_taken : (d : ℕ) (points targets : List (List ℤ)) (scales terms : List ℤ) (w : List (List ℤ)) → IsSimplex d points → IsBasis d points scales terms → length targets ≡ suc d → IsSquare d w → TakesTo d w points targets → (k j : ℕ) → k < d → j < d →
    IsEntry d scales terms targets k j (number_at j (get_or w k []))
entries_taken d points targets scales terms w s b lt square takes k j hk hj =
    let r : List ℤ = get_or w k [] in
    let lr : length r ≡ d = square_row d w k square hk in
    let n : List ℤ = get_or (rows d terms) j [] in
    let at : scale (get_or scales j (pos 0)) (unit d j) ≡ combine n (drop 1 points) = sym (b.each j hj) in
    ap (λ z. get_or scales j (pos 0) *ℤ z) (sym (unit-dot d j r lr) ∙ dot_comm (unit d j) r) ∙ sym (dot-scale r (get_or scales j (pos 0)) (unit d j)) ∙ ap (dot r) at ∙ dot-combine r n (drop 1 points) ∙ ap (dot n) (same_lists (map (dot r) (drop 1 points)) (map (number_at k) (drop 1 targets)) (length-map (drop 1 points) (dot r) ∙ count_rest d points s.count ∙ sym (length-map (drop 1 targets) (number_at k) ∙ count_rest d targets lt)) each)
  where
    next : (i : ℕ) → 1 + i ≡ suc i
    next i = omega arith

    each : (i : ℕ) → i < length (map (dot (get_or w k [])) (drop 1 points)) → number_at i (map (dot (get_or w k [])) (drop 1 points)) ≡ number_at i (map (number_at k) (drop 1 targets))
    each i hi =
        let li : i < d = omega (arith, hi, length-map (drop 1 points) (dot (get_or w k [])), count_rest d points s.count) in
        let one : get_or (drop 1 points) i [] ≡ get_or points (suc i) [] = get_or-drop 1 points i [] ∙ ap (λ m. get_or points m []) (next i) in
        let two : get_or (drop 1 targets) i [] ≡ get_or targets (suc i) [] = get_or-drop 1 targets i [] ∙ ap (λ m. get_or targets m []) (next i) in
        let image : dot (get_or w k []) (get_or points (suc i) []) ≡ number_at k (get_or targets (suc i) []) = sym (get-apply k w (get_or points (suc i) []) (omega (arith, square.rows, hk))) ∙ ap (number_at k) (takes (suc i) (omega arith)) in
        number_at-map (dot (get_or w k [])) i (drop 1 points) [] (omega (arith, count_rest d points s.count, li)) ∙ ap (dot (get_or w k [])) one ∙ image ∙ sym (number_at-map (number_at k) i (drop 1 targets) [] (omega (arith, count_rest d targets lt, li)) ∙ ap (number_at k) two)

-- a matrix with these numbers takes the points to the targets
pub entries_take : (d : ℕ) (points targets : List (List ℤ)) (scales terms : List ℤ) (u : List (List ℤ)) → 2 ≤ d → IsSimplex d points → get_or points 0 [] ≡ zeros d → IsBasis d points scales terms → length targets ≡ suc d → AllOfDimension d targets → get_or targets 0 [] ≡ zeros d → IsSquare d u →
    ((k j : ℕ) → k < d → j < d → IsEntry d scales terms targets k j (number_at j (get_or u k []))) → TakesTo d u points targets
entries_take d points targets scales terms u low s first b lt dimension zero_first square h zero hi =
    ap (apply u) first ∙ apply-zeros u d ∙ ap zeros square.rows ∙ sym zero_first
entries_take d points targets scales terms u low s first b lt dimension zero_first square h (suc i) hi =
    let p : List ℤ = get_or points (suc i) [] in
    let t : List ℤ = get_or targets (suc i) [] in
    let lp : length (apply u p) ≡ d = length-apply u p ∙ square.rows in
    let l : length t ≡ d = get_dimension d (suc i) targets [] dimension (omega (arith, lt, hi)) in
    same_lists (apply u p) t (lp ∙ sym l) (λ k hk. get-apply k u p (omega (arith, hk, length-apply u p)) ∙ each k (omega (arith, hk, lp)))
  where
    next : (i : ℕ) → 1 + i ≡ suc i
    next i = omega arith

    each : (k : ℕ) → k < d → dot (get_or u k []) (get_or points (suc i) []) ≡ number_at k (get_or targets (suc i) [])
    each k hk =
        let r : List ℤ = get_or u k [] in
        let lr : length r ≡ d = square_row d u k square hk in
        let values : List ℤ = map (number_at k) (drop 1 targets) in
        let one : get_or (drop 1 points) i [] ≡ get_or points (suc i) [] = get_or-drop 1 points i [] ∙ ap (λ m. get_or points m []) (next i) in
        let two : get_or (drop 1 targets) i [] ≡ get_or targets (suc i) [] = get_or-drop 1 targets i [] ∙ ap (λ m. get_or targets m []) (next i) in
        let taken : dot r (get_or (drop 1 points) i []) ≡ number_at i values =
        row_takes d i (drop 1 points) values r (omega (arith, low)) (rest_independent d points low s first) (drop_dimension d 1 points s.points) (count_rest d points s.count) (length-map (drop 1 targets) (number_at k) ∙ count_rest d targets lt) (omega (arith, hi))
        (λ j hj. record {
          factor = get_or scales j (pos 0);
          numbers = get_or (rows d terms) j [];
          positive = positive_scale d (get_or scales j (pos 0)) (b.great j hj);
          count = length_row d j terms b.terms_count hj ∙ sym (count_rest d points s.count);
          sum = b.each j hj;
          value = sym (h k j hk hj) ∙ ap (λ z. get_or scales j (pos 0) *ℤ z) (sym (unit-dot d j r lr) ∙ dot_comm (unit d j) r);
        })
        in
        ap (dot r) (sym one) ∙ taken ∙ number_at-map (number_at k) i (drop 1 targets) [] (omega (arith, count_rest d targets lt, hi)) ∙ ap (number_at k) two
