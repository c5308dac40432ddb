-- A walk towards a point, across facets beyond which it lies, ends where heights are bounded.
use Rattle.std.proofs.Common.{◌≡◌, ℕ, zero, suc, ℤ, pos, ◌+ℤ◌, ◌*ℤ◌, ◌<ℤ◌, ◌≤ℤ◌, ◌<◌, neg_ℤ, refl, ap, arith, sym, ◌∙◌, subst, List, [], ◌∷◌, length, map, get_or, inl, inr}
use Rattle.std.proofs.lemmas.Int.{ints}
use Rattle.std.specs.List.{AllByRecursion, Contains}
use Rattle.lt_model.proofs.Vectors.{plus_assoc}
use Rattle.lt_model.proofs.Squares.{length-plus}
use Rattle.lt_model.proofs.Excess.{length-translate, excess-moved, scale-dot}
use Rattle.lt_model.proofs.Walk.{IsWeighted, IsStep, next_coefficients, next_expression, value_rises}
use Rattle.lt_model.proofs.Expressions.{one_expression}
use Rattle.lt_model.proofs.Moved.{simplex_moved, translate_all}
use Rattle.lt_geometry.proofs.WalkEnds.{HasCommon, over_translate, negative_or_none, less_from_multiples, positive_excess}
use Rattle.lt_walls.proofs.Beside.{expression_moved}
use Rattle.lt_model.specs.Vectors.{plus, scale, dot}
use Rattle.lt_model.specs.Forms.{value}
use Rattle.lt_model.specs.Simplices.{IsSimplex, excess, translate}
use Rattle.lt_model.specs.Facets.{number_at, without, IsNeighbour}
use Rattle.lt_model.proofs.Translates.{get-translate, without-translate}
use Rattle.lt_model.proofs.Points.{get_dimension}
pub use Rattle.lt_geometry.specs.Paving.{IsPaving}

-- a member, moved, with the numbers of x / m over it
pub record IsAt (d : ℕ) (t : List (List (List ℤ))) (m : ℤ) (x : List ℤ) (c : ℤ) (s : List (List ℤ)) (p b : List ℤ) : Type 0 where
  pub member : Contains t s
  pub dimension : length p ≡ d
  pub weighted : IsWeighted (translate p s) m x c b

abbrev pub height : List ℤ → List (List ℤ) → List ℤ → List ℤ → ℤ
height q s p b = dot b (map (value q) (translate p s))

pub record Holds (d : ℕ) (t : List (List (List ℤ))) (m : ℤ) (x : List ℤ) (c : ℤ) : Type 0 where
  pub s : List (List ℤ)
  pub p : List ℤ
  pub b : List ℤ
  pub there : IsAt d t m x c s p b
  pub inside : AllByRecursion (λ z. pos 0 ≤ℤ z) b

translate-translate : (p r : List ℤ) (vs : List (List ℤ)) → translate p (translate r vs) ≡ translate (plus r p) vs
translate-translate p r [] = refl
translate-translate p r (v ∷ vs) = rw (translate-translate p r vs, plus_assoc v r p) refl

-- the next member of the walk
pub record IsNext (d : ℕ) (q : List ℤ) (t : List (List (List ℤ))) (m : ℤ) (x : List ℤ) (c : ℤ) (s : List (List ℤ)) (p b : List ℤ) : Type 0 where
  pub next : List (List ℤ)
  pub shift : List ℤ
  pub numbers : List ℤ
  pub there : IsAt d t m x c next shift numbers
  pub higher : height q s p b <ℤ height q next shift numbers

height_end : (c c' h g k : ℤ) → pos 0 <ℤ c' → (c' *ℤ h) <ℤ (c *ℤ g) → c *ℤ g ≡ c' *ℤ k → h <ℤ k
height_end c c' h g k pc less same = less_from_multiples c' h k pc (subst (λ (z : ℤ). (c' *ℤ h) <ℤ z) same less)

pub next_member : (d : ℕ) (q : List ℤ) (t : List (List (List ℤ))) (k : HasCommon d t) (m : ℤ) (x : List ℤ) (s : List (List ℤ)) (p b : List ℤ) (i : ℕ) → IsPaving d q t → length x ≡ d →
    IsAt d t m x k.c s p b → i < length b → number_at i b <ℤ pos 0 → IsNext d q t m x k.c s p b
next_member d q t k m x s p b i paving lx here within neg =
    let simplex : IsSimplex d s = (paving.classes s here.member).simplex in
    let lb : length b ≡ suc d = here.weighted.one_each ∙ length-translate p s ∙ simplex.count in
    let found = paving.closed s i here.member (omega arith) in
    let r : List (List ℤ) = found.0 in
    let p' : List ℤ = found.1 in
    let j : ℕ = found.2 in
    let n : IsNeighbour d t s i r p' j = found.3 in
    let other : IsSimplex d r = (paving.classes r n.member).simplex in
    let shift : List ℤ = plus p' p in
    let ls : length shift ≡ d = length-plus p' p (n.dimension ∙ sym here.dimension) ∙ n.dimension in
    let w0 : List ℤ = get_or (translate p' r) j [] in
    let lr : length (translate p' r) ≡ suc d = length-translate p' r ∙ other.count in
    let lw : length w0 ≡ d = get_dimension d j (translate p' r) [] (translate_all d p' r n.dimension other.points) (omega (arith, n.place)) in
    let e : ℤ = n.beyond.scale in
    let f : List ℤ = n.beyond.coefficients in
    let moved : translate p (translate p' r) ≡ translate shift r = translate-translate p p' r in
    let step : IsStep d i j (translate p s) (translate shift r) (plus w0 p) m x b f k.c e = record {
      dimension = lx;
      points = translate_all d p s here.dimension simplex.points;
      next_points = translate_all d shift r ls other.points;
      place = omega (arith, length-translate p s, simplex.count);
      next_place = omega (arith, length-translate shift r, other.count, n.place);
      count = length-translate shift r ∙ other.count ∙ sym (length-translate p s ∙ simplex.count);
      facet = ap (without j) (sym moved) ∙ without-translate p j (translate p' r) ∙ ap (translate p) n.facet ∙ sym (without-translate p i s);
      vertex = ap (λ l. get_or l j (plus w0 p)) (sym moved) ∙ get-translate p j (translate p' r) [] (plus w0 p) (omega (arith, n.place));
      expression = here.weighted;
      beyond = neg;
      vertex_expression = expression_moved d s p w0 f e simplex here.dimension lw n.beyond.expression;
      vertex_beyond = n.beyond.negative;
    } in
    let gain : pos 0 <ℤ excess q (translate p s) (plus w0 p) e f =
    rw (excess-moved q f s w0 p e (rw here.dimension simplex.points) (lw ∙ sym here.dimension) n.beyond.expression)
    (positive_excess d q s w0 f e i simplex (paving.empty s here.member) lw n.beyond.expression n.beyond.negative)
    in
    let rises = value_rises q d i j (translate p s) (translate shift r) (plus w0 p) m x b f k.c e step gain in
    let new = next_expression d i j (translate p s) (translate shift r) (plus w0 p) m x b f k.c e step in
    let own = over_translate d t k r shift m x n.member other ls lx in
    let same : scale (neg_ℤ (number_at i f) *ℤ k.c) own.0 ≡ scale k.c (next_coefficients i j b f e) =
    one_expression d (translate shift r) m x own.0 (next_coefficients i j b f e) k.c (neg_ℤ (number_at i f) *ℤ k.c) (simplex_moved d r shift ls other) own.1 new
    in
    let heights : k.c *ℤ dot (next_coefficients i j b f e) (map (value q) (translate shift r)) ≡ neg_ℤ (number_at i f) *ℤ k.c *ℤ height q r shift own.0 =
    sym (scale-dot k.c (next_coefficients i j b f e) (map (value q) (translate shift r))) ∙ ap (λ l. dot l (map (value q) (translate shift r))) (sym same)
    ∙ scale-dot (neg_ℤ (number_at i f) *ℤ k.c) own.0 (map (value q) (translate shift r))
    in
    record {
      next = r;
      shift = shift;
      numbers = own.0;
      there = record { member = n.member; dimension = ls; weighted = own.1 };
      higher = height_end k.c (neg_ℤ (number_at i f) *ℤ k.c) (height q s p b) (dot (next_coefficients i j b f e) (map (value q) (translate shift r))) (height q r shift own.0) new.positive rises heights;
    }

nearer : (bound a z : ℤ) (fuel : ℕ) → a <ℤ z → bound ≤ℤ (a +ℤ pos (suc fuel)) → bound ≤ℤ (z +ℤ pos fuel)
nearer bound a z fuel h near = omega (arith, ints)

-- the walk ends, where all heights stay below a bound
pub walk : (d : ℕ) (q : List ℤ) (t : List (List (List ℤ))) (k : HasCommon d t) (m : ℤ) (x : List ℤ) (bound : ℤ) → IsPaving d q t → length x ≡ d →
    ((s : List (List ℤ)) (p b : List ℤ) → IsAt d t m x k.c s p b → height q s p b ≤ℤ bound) →
    (fuel : ℕ) (s : List (List ℤ)) (p b : List ℤ) → IsAt d t m x k.c s p b → bound ≤ℤ (height q s p b +ℤ pos fuel) → Holds d t m x k.c
walk d q t k m x bound paving lx bounded zero s p b here near =
    elim (negative_or_none b) [
      | inr all ↦ record { s = s; p = p; b = b; there = here; inside = all }
      | inl (i, h, neg) ↦ absurd (too_high i h neg)
    ]
  where
    too_high : (i : ℕ) → i < length b → number_at i b <ℤ pos 0 → ⊥
    too_high i h neg =
        let n = next_member d q t k m x s p b i paving lx here h neg in
        omega (arith, ints, n.higher, near, bounded n.next n.shift n.numbers n.there)
walk d q t k m x bound paving lx bounded (suc fuel) s p b here near =
    elim (negative_or_none b) [
      | inr all ↦ record { s = s; p = p; b = b; there = here; inside = all }
      | inl (i, h, neg) ↦
          let n = next_member d q t k m x s p b i paving lx here h neg in
          walk d q t k m x bound paving lx bounded fuel n.next n.shift n.numbers n.there (nearer bound (height q s p b) (height q n.next n.shift n.numbers) fuel n.higher near)
    ]
