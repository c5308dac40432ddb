-- The class of a wide mark: its coordinates are at most twice the limit of spans.
use Rattle.std.proofs.Common.{◌≡◌, ℕ, suc, ℤ, negsuc, ◌+◌, ◌*◌, ◌<◌, ◌≤◌, inl, inr, refl, sym, ap, ◌∙◌, subst, arith, List, [], ◌∷◌, ◌++◌, map, length}
use Rattle.std.specs.List.{All, Contains}
use Rattle.std.proofs.lemmas.List.Elements.{recursion_from_All, All-weaker}
use Rattle.lt_model.specs.Flat.{flat}
use Rattle.lt_model.specs.Flips.{IsExchanged}
use Rattle.lt_model.specs.Limits.{class_span, span, span_limit}
use Rattle.lt_model.specs.Simplices.{IsClass}
use Rattle.lt_model.specs.Vectors.{plus}
use Rattle.lt_model.specs.Walls.{IsAcross}
use Rattle.lt_model.proofs.Flat.{length-flat}
use Rattle.lt_model.proofs.Sets.{each_holds, Contains-map}
use Rattle.lt_geometry.proofs.Listed.{across_is_flip}
use Rattle.lt_lattice.specs.Ranges.{IsWithin}
use Rattle.lt_triang.specs.Across.{IsOuterVertex}
use Rattle.lt_triang.specs.Bounds.{AreNear}
use Rattle.lt_triang.specs.Kept.{IsTriangulation}
use Rattle.lt_triang.proofs.Columned.{All-flat}
use Rattle.lt_triang.proofs.Gaps.{le_greatest, within_from_near}
use Rattle.lt_triang.proofs.Least.{minus-plus}
use Rattle.lt_triang.proofs.Shifts.{contains_without}
use Rattle.lt_flip.proofs.Near.{outer_near}
use Rattle.lt_scan.specs.Reading.{IsBelow, AreBelow}
use Rattle.lt_text.specs.Texts.{class_numbers}

-- ---- the numbers of a class

pub numbers_flat : (s : List (List ℤ)) → class_numbers s ≡ flat s
numbers_flat [] = refl
numbers_flat (v ∷ s) = ap (λ (l : List ℤ). v ++ l) (numbers_flat s)

pub class_below : (d m : ℕ) (s : List (List ℤ)) → IsClass d s → AreNear m s → AreBelow (m + 1) ((d + 1) * d) (class_numbers s)
class_below d m s k near =
    let all = All-flat (IsWithin m) s (within_from_near m d s k near) in
    let long : length (flat s) ≡ (d + 1) * d = length-flat d s k.simplex.points ∙ (let c = k.simplex.count in ap (λ (n : ℕ). n * d) c ∙ (let e : suc d ≡ d + 1 = omega arith in ap (λ (n : ℕ). n * d) e)) in
    subst (AreBelow (m + 1) ((d + 1) * d)) (sym (numbers_flat s)) (long, recursion_from_All (IsBelow (m + 1)) (flat s) (All-weaker (IsWithin m) (IsBelow (m + 1)) (λ x h. omega (arith, h)) (flat s) all))

-- ---- the classes of a flip

exchanged_near : (d : ℕ) (t : List (List (List ℤ))) (n : List ℤ) (sign : ℤ) (s : List (List ℤ)) → IsTriangulation d t → IsExchanged d t n sign s → AreNear (2 * span_limit d) s
exchanged_near d t n sign s tri e x y cx cy =
    let pair = e.pair in
    let outer : IsOuterVertex d t e.base pair.facet e.vertex = record { next = pair.next; shift = pair.shift; outer = pair.outer; neighbour = pair.neighbour; vertex = pair.vertex } in
    let near = (outer_near d t e.base pair.facet e.vertex tri pair.member pair.place outer).near in
    let k = e.class_of in
    let p = k.shift in
    let there : (z : List ℤ) → Contains s z → Contains (e.vertex ∷ e.base) (plus z p) = (λ z c. contains_without e.place (e.vertex ∷ e.base) (plus z p) ((k.same (plus z p)).1 (Contains-map (λ v. plus v p) s z c))) in
    let long : (z : List ℤ) → Contains s z → length z ≡ d = (λ z c. each_holds (λ v. length v ≡ d) s z k.«class».simplex.points c) in
    subst (All (IsWithin (2 * span_limit d))) (minus-plus d x y p (long x cx) (long y cy) k.dimension) (near (plus x p) (plus y p) (there x cx) (there y cy))

pub record IsNearClass (d : ℕ) (s : List (List ℤ)) : Type 0 where
  pub «class» : IsClass d s
  pub near : AreNear (2 * span_limit d) s

-- a class across that is wider than the limit isn't much wider
pub wide_near : (d : ℕ) (n : List ℤ) (t t' : List (List (List ℤ))) (s : List (List ℤ)) → 2 ≤ d → d ≤ 6 → span t ≤ span_limit d → IsAcross d t n t' → Contains t' s → span_limit d < class_span s → IsNearClass d s
wide_near d n t t' s low high narrow x c above =
    elim (((across_is_flip d n t t' low x).members s).0 c) [
      | inl old ↦ (let l = le_greatest (map class_span t) (class_span s) (Contains-map class_span t s old.0) in absurd (omega (arith, l, narrow, above)))
      | inr e ↦ record { «class» = e.class_of.«class»; near = exchanged_near d t n (negsuc 0) s tri e }
    ]
  where
    tri : IsTriangulation d t
    tri = record { low = low; high = high; occupied = x.delaunay.occupied; ascending = x.delaunay.ascending; classes = λ r m. ((x.delaunay.members r).0 m).0; closed = x.delaunay.closed; narrow = narrow }
