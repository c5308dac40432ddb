-- A walk leads to one triangulation after so many crossings, and there is one reason at most to end there.
use Rattle.std.proofs.Common.{◌≡◌, ℕ, zero, suc, ℤ, pos, ◌≤ℤ◌, ◌≤◌, refl, ap, arith, sym, ◌∙◌, subst, List, [], get_or, map}
use Rattle.std.proofs.lemmas.Int.{ints}
use Rattle.std.proofs.lemmas.List.Elements.{Contains-get_or}
use native.Mathlib.Decide.{dec_le}
use Rattle.lt_model.specs.Vectors.{dot}
use Rattle.lt_model.specs.Limits.{weight, class_span, span, span_limit}
use Rattle.lt_model.specs.Principal.{IsPrincipal}
use Rattle.lt_model.specs.Walls.{IsFacet, IsAcross}
use Rattle.lt_model.proofs.Sets.{same_members, simplex_cmp_total, Contains-map}
use Rattle.lt_model.specs.Order.{simplex_cmp}
use Rattle.lt_geometry.proofs.Listed.{same_across}
use Rattle.lt_triang.proofs.Gaps.{le_greatest}
use Rattle.lt_flip.specs.Flipped.{IsFirstWide}
use Rattle.lt_regulator.proofs.Distinct.{one_list}
use Rattle.lt_laws.specs.Facets.{IsInside}
use Rattle.lt_locate.specs.Firsts.{IsFirst}
use Rattle.lt_locate.specs.Walks.{IsNegativeFacet, IsZeroFacet, IsWalked}
use Rattle.lt_locate.specs.Endings.{Ending, not_positive, heavy, on_wall, inside, out_of_steps, wide, IsBadEdge, IsHeavy, AreEdgesPositive, IsOpen, IsWideAcross, IsReason, Passes}
use Rattle.lt_locate.proofs.First.{one_first}

one_principal : (d : ℕ) (t s : List (List (List ℤ))) → IsPrincipal d t → IsPrincipal d s → t ≡ s
one_principal d t s h k =
    same_members simplex_cmp simplex_cmp_total t s h.ascending k.ascending (λ x. ((λ c. (k.members x).1 ((h.members x).0 c)), (λ c. (h.members x).1 ((k.members x).0 c))))

pub one_walked : (d : ℕ) (q : List ℤ) (i : ℕ) (t s : List (List (List ℤ))) → 2 ≤ d → IsWalked d q i t → IsWalked d q i s → t ≡ s
one_walked d q zero t s two h k = one_principal d t s h k
one_walked d q (suc i) t s two (u, n, w, f, a) (v, m, x, g, b) =
    let e : u ≡ v = one_walked d q i u v two w x in
    let n_is : m ≡ n = one_first (IsNegativeFacet d u q) m n (subst (λ (y : List (List (List ℤ))). IsFirst (IsNegativeFacet d y q) m) (sym e) g) f in
    let b' : IsAcross d u n s = subst (λ (l : List ℤ). IsAcross d u l s) n_is (subst (λ (y : List (List (List ℤ))). IsAcross d y m s) (sym e) b) in
    same_across d n u t s two a b'

-- ---- what excludes what

module _ (d : ℕ) (q : List ℤ) (t : List (List (List ℤ))) where
  bad_edge : (x : List ℤ) → IsFirst (IsBadEdge d t q) x → AreEdgesPositive d t q → ⊥
  bad_edge x f p = let h = p x f.is.0 in let k = f.is.1 in omega (arith, ints, h, k)

  too_heavy : (w : ℤ) → IsHeavy d t w → IsOpen d t q → ⊥
  too_heavy w h o = let l = o.light h.0 h.1 in let k = h.3 in omega (arith, l, k)

  not_negative : (n : List ℤ) → IsFirst (IsNegativeFacet d t q) n → ((m : List ℤ) → IsFacet d t m → pos 0 ≤ℤ dot m q) → ⊥
  not_negative n f h = let k = h n f.is.0 in let l = f.is.1 in omega (arith, ints, k, l)

  negative_inside : (n : List ℤ) → IsFirst (IsNegativeFacet d t q) n → IsInside d t q → ⊥
  negative_inside n f h = let k = h n f.is.0 in let l = f.is.1 in omega (arith, ints, k, l)

  zero_inside : (n : List ℤ) → IsFirst (IsZeroFacet d t q) n → IsInside d t q → ⊥
  zero_inside n f h = let k = h n f.is.0 in let l = f.is.1 in omega (arith, ints, k, l)

  one_weight : (w v : ℤ) → IsHeavy d t w → IsHeavy d t v → w ≡ v
  one_weight w v h k = h.2 ∙ ap (λ (ns : List (List ℤ)). pos (weight d ns)) (one_list d t h.0 k.0 h.1 k.1) ∙ sym k.2

one_wide : (d : ℕ) (t : List (List (List ℤ))) (i k : ℕ) → IsFirstWide d t i → IsFirstWide d t k → i ≡ k
one_wide d t i k h g = go (dec_le i k) (dec_le k i)
  where
    go : Dec (i ≤ k) → Dec (k ≤ i) → i ≡ k
    go (yes a) (yes b) = omega arith
    go (yes a) (no b) = let c = g.before i (omega arith) in let w = h.wide in absurd (omega arith)
    go (no a) b = let c = h.before k (omega arith) in let w = g.wide in absurd (omega arith)

one_span : (d : ℕ) (t : List (List (List ℤ))) (n : List ℤ) (c e : ℤ) → 2 ≤ d → IsWideAcross d t n c → IsWideAcross d t n e → c ≡ e
one_span d t n c e two h k =
    let same : k.next ≡ h.next = same_across d n t k.next h.next two k.across h.across in
    let g : IsFirstWide d h.next k.place = subst (λ (s : List (List (List ℤ))). IsFirstWide d s k.place) same k.first in
    let place : h.place ≡ k.place = one_wide d h.next h.place k.place h.first g in
    h.span_is ∙ ap (λ (i : ℕ). pos (class_span (get_or h.next i []))) place ∙ ap (λ (s : List (List (List ℤ))). pos (class_span (get_or s k.place []))) (sym same) ∙ sym k.span_is

not_narrow : (d : ℕ) (t next : List (List (List ℤ))) (n : List ℤ) (c : ℤ) → 2 ≤ d → IsWideAcross d t n c → IsAcross d t n next → span next ≤ span_limit d → ⊥
not_narrow d t next n c two h a l =
    let same : h.next ≡ next = same_across d n t h.next next two h.across a in
    let s = get_or h.next h.place [] in
    let most : class_span s ≤ span h.next = le_greatest (map class_span h.next) (class_span s) (Contains-map class_span h.next s (Contains-get_or h.next h.place [] h.first.place)) in
    let k : span h.next ≤ span_limit d = subst (λ (u : List (List (List ℤ))). span u ≤ span_limit d) (sym same) l in
    let w = h.first.wide in
    omega (arith, most, k, w)

-- the walk does not go on where there is a reason to end
pub no_reason : (d : ℕ) (q : List ℤ) (steps i : ℕ) (t : List (List (List ℤ))) (e : Ending) → 2 ≤ d → Passes d q steps i t → IsReason d q steps i t e → ⊥
no_reason d q steps i t (not_positive x) two p r = bad_edge d q t x r p.is_open.edges
no_reason d q steps i t (heavy w) two p r = too_heavy d q t w r.1 p.is_open
no_reason d q steps i t (on_wall n) two p r = not_negative d q t p.facet p.first r.1
no_reason d q steps i t inside two p r = negative_inside d q t p.facet p.first r.1
no_reason d q steps i t out_of_steps two p r = let b = p.below in let e = r.2 in omega (arith, b, e)
no_reason d q steps i t (wide c) two p r =
    let same : r.1.0 ≡ p.facet = one_first (IsNegativeFacet d t q) r.1.0 p.facet r.1.1 p.first in
    not_narrow d t p.next p.facet c two (subst (λ (n : List ℤ). IsWideAcross d t n c) same r.1.2) p.across p.narrow

-- and there is one reason at most
pub one_reason : (d : ℕ) (q : List ℤ) (steps i : ℕ) (t : List (List (List ℤ))) (e f : Ending) → 2 ≤ d → IsReason d q steps i t e → IsReason d q steps i t f → e ≡ f
one_reason d q steps i t (not_positive x) (not_positive y) two r s = ap not_positive (one_first (IsBadEdge d t q) x y r s)
one_reason d q steps i t (not_positive x) (heavy w) two r s = absurd (bad_edge d q t x r s.0)
one_reason d q steps i t (not_positive x) (on_wall n) two r s = absurd (bad_edge d q t x r s.0.edges)
one_reason d q steps i t (not_positive x) inside two r s = absurd (bad_edge d q t x r s.0.edges)
one_reason d q steps i t (not_positive x) out_of_steps two r s = absurd (bad_edge d q t x r s.0.edges)
one_reason d q steps i t (not_positive x) (wide c) two r s = absurd (bad_edge d q t x r s.0.edges)
one_reason d q steps i t (heavy w) (not_positive x) two r s = absurd (bad_edge d q t x s r.0)
one_reason d q steps i t (heavy w) (heavy v) two r s = ap heavy (one_weight d q t w v r.1 s.1)
one_reason d q steps i t (heavy w) (on_wall n) two r s = absurd (too_heavy d q t w r.1 s.0)
one_reason d q steps i t (heavy w) inside two r s = absurd (too_heavy d q t w r.1 s.0)
one_reason d q steps i t (heavy w) out_of_steps two r s = absurd (too_heavy d q t w r.1 s.0)
one_reason d q steps i t (heavy w) (wide c) two r s = absurd (too_heavy d q t w r.1 s.0)
one_reason d q steps i t (on_wall n) (not_positive x) two r s = absurd (bad_edge d q t x s r.0.edges)
one_reason d q steps i t (on_wall n) (heavy w) two r s = absurd (too_heavy d q t w s.1 r.0)
one_reason d q steps i t (on_wall n) (on_wall m) two r s = ap on_wall (one_first (IsZeroFacet d t q) n m r.2 s.2)
one_reason d q steps i t (on_wall n) inside two r s = absurd (zero_inside d q t n r.2 s.1)
one_reason d q steps i t (on_wall n) out_of_steps two r s = absurd (not_negative d q t s.1.0 s.1.1 r.1)
one_reason d q steps i t (on_wall n) (wide c) two r s = absurd (not_negative d q t s.1.0 s.1.1 r.1)
one_reason d q steps i t inside (not_positive x) two r s = absurd (bad_edge d q t x s r.0.edges)
one_reason d q steps i t inside (heavy w) two r s = absurd (too_heavy d q t w s.1 r.0)
one_reason d q steps i t inside (on_wall n) two r s = absurd (zero_inside d q t n s.2 r.1)
one_reason d q steps i t inside inside two r s = refl
one_reason d q steps i t inside out_of_steps two r s = absurd (negative_inside d q t s.1.0 s.1.1 r.1)
one_reason d q steps i t inside (wide c) two r s = absurd (negative_inside d q t s.1.0 s.1.1 r.1)
one_reason d q steps i t out_of_steps (not_positive x) two r s = absurd (bad_edge d q t x s r.0.edges)
one_reason d q steps i t out_of_steps (heavy w) two r s = absurd (too_heavy d q t w s.1 r.0)
one_reason d q steps i t out_of_steps (on_wall n) two r s = absurd (not_negative d q t r.1.0 r.1.1 s.1)
one_reason d q steps i t out_of_steps inside two r s = absurd (negative_inside d q t r.1.0 r.1.1 s.1)
one_reason d q steps i t out_of_steps out_of_steps two r s = refl
one_reason d q steps i t out_of_steps (wide c) two r s = let a = r.2 in let b = s.2 in absurd (omega (arith, a, b))
one_reason d q steps i t (wide c) (not_positive x) two r s = absurd (bad_edge d q t x s r.0.edges)
one_reason d q steps i t (wide c) (heavy w) two r s = absurd (too_heavy d q t w s.1 r.0)
one_reason d q steps i t (wide c) (on_wall n) two r s = absurd (not_negative d q t r.1.0 r.1.1 s.1)
one_reason d q steps i t (wide c) inside two r s = absurd (negative_inside d q t r.1.0 r.1.1 s.1)
one_reason d q steps i t (wide c) out_of_steps two r s = let a = r.2 in let b = s.2 in absurd (omega (arith, a, b))
one_reason d q steps i t (wide c) (wide e) two r s =
    let same : s.1.0 ≡ r.1.0 = one_first (IsNegativeFacet d t q) s.1.0 r.1.0 s.1.1 r.1.1 in
    ap wide (one_span d t r.1.0 c e two r.1.2 (subst (λ (n : List ℤ). IsWideAcross d t n e) same s.1.2))
