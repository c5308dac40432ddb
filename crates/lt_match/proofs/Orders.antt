-- Orders of the vertices of a class.
use Rattle.std.proofs.Common.{◌≡◌, ◌<◌, ◌+◌, ◌++◌, ℕ, zero, suc, ℤ, refl, ap, arith, sym, ◌∙◌, subst, List, [], ◌∷◌, length, map, get_or, drop, append_assoc}
use Rattle.std.specs.List.{All, AllByRecursion, Contains}
use Rattle.std.proofs.lemmas.List.{drop_more, length-map}
use Rattle.std.proofs.lemmas.List.Elements.{Contains-get_or}
use Rattle.lt_model.specs.Vectors.{minus, zeros}
use Rattle.lt_model.specs.Matrices.{IsSquare}
use Rattle.lt_model.specs.Principal.{IsOrder}
use Rattle.lt_model.specs.Simplices.{AllOfDimension, IsClass}
use Rattle.lt_model.proofs.Points.{get_dimension, minus_itself}
use Rattle.lt_geometry.specs.Carrying.{IsCandidate}
use Rattle.lt_geometry.proofs.Candidates.{below}
use Rattle.lt_lattice.specs.Ranges.{IsWithin}
use Rattle.lt_triang.specs.Bounds.{AreWithin, AreNear}
use Rattle.lt_lattice.proofs.Padded.{length-minus}
use Rattle.lt_match.specs.Images.{TakesTo}
use Rattle.lt_match.specs.Matches.{in_order}

-- an order of d + 1 places has each place below d + 1
pub order_below : (d : ℕ) (p : List ℕ) (i : ℕ) → IsOrder (suc d) p → i < suc d → get_or p i 0 < suc d
order_below d p i o h = below p (suc d) (suc d) o.count refl o.each i h

pub vertex_length : (d k : ℕ) (s : List (List ℤ)) → IsClass d s → k < suc d → length (get_or s k []) ≡ d
vertex_length d k s c h = get_dimension d k s [] c.simplex.points (omega (arith, c.simplex.count, h))

-- ---- the vertices in an order

pub count_order : (d : ℕ) (s : List (List ℤ)) (p : List ℕ) → IsOrder (suc d) p → length (in_order s p) ≡ suc d
count_order d s p o = length-map p (λ k. minus (get_or s k []) (get_or s (get_or p 0 0) [])) ∙ o.count

get-vertex : (f : ℕ → List ℤ) (p : List ℕ) (i : ℕ) → i < length p → get_or (map f p) i [] ≡ f (get_or p i 0)
get-vertex f [] i h = absurd (omega arith)
get-vertex f (k ∷ p) zero h = refl
get-vertex f (k ∷ p) (suc i) h = get-vertex f p i (omega arith)

pub order_at : (d : ℕ) (s : List (List ℤ)) (p : List ℕ) (i : ℕ) → IsOrder (suc d) p → i < suc d → get_or (in_order s p) i [] ≡ minus (get_or s (get_or p i 0) []) (get_or s (get_or p 0 0) [])
order_at d s p i o h = get-vertex (λ k. minus (get_or s k []) (get_or s (get_or p 0 0) [])) p i (omega (arith, o.count, h))

pub all_at : (P : List ℤ → Type 0) (vs : List (List ℤ)) → ((i : ℕ) → i < length vs → P (get_or vs i [])) → AllByRecursion P vs
all_at P [] h = tt
all_at P (v ∷ vs) h = (h 0 (omega arith), all_at P vs (λ i k. h (suc i) (omega arith)))

pub order_dimension : (d : ℕ) (s : List (List ℤ)) (p : List ℕ) → IsClass d s → IsOrder (suc d) p → AllOfDimension d (in_order s p)
order_dimension d s p c o = all_at (λ v. length v ≡ d) (in_order s p) each
  where
    each : (i : ℕ) → i < length (in_order s p) → length (get_or (in_order s p) i []) ≡ d
    each i h =
        let hi : i < suc d = omega (arith, h, count_order d s p o) in
        let a = vertex_length d (get_or p i 0) s c (order_below d p i o hi) in
        let b = vertex_length d (get_or p 0 0) s c (order_below d p 0 o (omega arith)) in
        ap length (order_at d s p i o hi) ∙ length-minus (get_or s (get_or p i 0) []) (get_or s (get_or p 0 0) []) (a ∙ sym b) ∙ a

pub order_first : (d : ℕ) (s : List (List ℤ)) (p : List ℕ) → IsClass d s → IsOrder (suc d) p → get_or (in_order s p) 0 [] ≡ zeros d
order_first d s p c o = order_at d s p 0 o (omega arith) ∙ minus_itself d (get_or s (get_or p 0 0) []) (vertex_length d (get_or p 0 0) s c (order_below d p 0 o (omega arith)))

pub order_near : (m d : ℕ) (s : List (List ℤ)) (p : List ℕ) → IsClass d s → AreNear m s → IsOrder (suc d) p → AreWithin m (in_order s p)
order_near m d s p c near o = all_at (All (IsWithin m)) (in_order s p) each
  where
    each : (i : ℕ) → i < length (in_order s p) → All (IsWithin m) (get_or (in_order s p) i [])
    each i h =
        let hi : i < suc d = omega (arith, h, count_order d s p o) in
        let a : Contains s (get_or s (get_or p i 0) []) = Contains-get_or s (get_or p i 0) [] (omega (arith, c.simplex.count, order_below d p i o hi)) in
        let b : Contains s (get_or s (get_or p 0 0) []) = Contains-get_or s (get_or p 0 0) [] (omega (arith, c.simplex.count, order_below d p 0 o (omega arith))) in
        subst (All (IsWithin m)) (sym (order_at d s p i o hi)) (near (get_or s (get_or p i 0) []) (get_or s (get_or p 0 0) []) a b)

-- ---- candidates

pub candidate_from : (d : ℕ) (s s2 : List (List ℤ)) (p : List ℕ) (u : List (List ℤ)) → IsOrder (suc d) p → IsSquare d u → TakesTo d u s (in_order s2 p) → IsCandidate d s s2 p u
candidate_from d s s2 p u o square takes = record { square = square; images = λ i h. takes i h ∙ order_at d s2 p i o h }

pub takes_from : (d : ℕ) (s s2 : List (List ℤ)) (p : List ℕ) (u : List (List ℤ)) → IsOrder (suc d) p → IsCandidate d s s2 p u → TakesTo d u s (in_order s2 p)
takes_from d s s2 p u o k = λ i h. k.images i h ∙ sym (order_at d s2 p i o h)

-- one vertex more is written
pub written_more : {X : Type 0} (f : ℕ → X) (p : List ℕ) (all m : List X) (i : ℕ) → i < length p → all ++ map f (drop i p) ≡ m → (all ++ f (get_or p i 0) ∷ []) ++ map f (drop (i + 1) p) ≡ m
written_more f p all m i h e = let k = drop_more p i 0 h in rw append_assoc (rw k at e)
