-- What a wall says is enough to find the neighbour and its vertex outside.
use Rattle.std.proofs.Common.{◌≡◌, ℕ, suc, ℤ, ◌<◌, ◌-◌, arith, ap, sym, ◌∙◌, subst, List, [], ◌∷◌, inl, inr, length, get_or}
use Rattle.std.proofs.lemmas.Bool.{cases_lt}
use Rattle.std.proofs.lemmas.List.Elements.{Contains-get_or}
use Rattle.lt_model.specs.Simplices.{IsClass, IsExpression}
use Rattle.lt_model.specs.Vectors.{plus}
use Rattle.lt_model.specs.Limits.{span_limit}
use Rattle.lt_triang.specs.Bounds.{AreWithin}
use Rattle.lt_triang.specs.Across.{HasFacet, IsFirstAcross}
use Rattle.lt_triang.specs.Kept.{IsTriangulation}
use Rattle.lt_triang.specs.Walled.{AreKept, IsWall, shift_to, vertex_to}
use Rattle.lt_triang.specs.Indexed.{IsOuterIn}
use Rattle.lt_triang.specs.declared.walls.Wall.{Wall}
use Rattle.lt_triang.proofs.Expressed.{IsOuter, outer, member_dimension}
use Rattle.lt_triang.proofs.Gaps.{member_near, within_from_near}
use Rattle.lt_triang.proofs.Made.{classes_of}
use Rattle.lt_triang.proofs.Shifts.{only_shift, count_without}

less_one : (d n : ℕ) → n ≡ suc d → n - 1 ≡ d
less_one d n e = omega arith

-- the numbers that are kept are all of them, unless they are none
pub kept_all : (all kept : List ℤ) (c : ℤ) (b : List ℤ) → AreKept all kept → kept ≡ c ∷ b → all ≡ c ∷ b
kept_all all kept c b h e = elim h [
  | inl none ↦ absurd (cc)
  | inr same ↦ sym same ∙ e
]

pub kept_some : (all kept : List ℤ) → AreKept all kept → (kept ≡ [] → ⊥) → kept ≡ all
kept_some all kept h some = elim h [
  | inl none ↦ absurd (some none)
  | inr same ↦ same
]

pub outer_same : (s next : List (List ℤ)) (p : List ℤ) (j : ℕ) (v : List ℤ) (c : ℤ) (b : List ℤ) (x : ℤ) (y : List ℤ) → IsOuterIn s next p j v c b → c ∷ b ≡ x ∷ y → IsOuterIn s next p j v x y
outer_same s next p j v c b x y o e =
    let h : c ≡ x = cc in
    let r : b ≡ y = cc in
    subst (λ (z : ℤ). IsOuterIn s next p j v z y) h (subst (λ (z : List ℤ). IsOuterIn s next p j v c z) r o)

-- ---- the first member across a facet is one

one_vertex : (d : ℕ) (t : List (List (List ℤ))) (s : List (List ℤ)) (i n : ℕ) (p : List ℤ) (j : ℕ) (q : List ℤ) (k : ℕ) → IsFirstAcross d t s i n p j → IsFirstAcross d t s i n q k → j ≡ k
one_vertex d t s i n p j q k f g =
    elim (cases_lt j k) [
      | inl l ↦ absurd (g.before j l p f.facing)
      | inr l ↦
          elim (cases_lt k j) [
            | inl l' ↦ absurd (f.before k l' q g.facing)
            | inr l' ↦ omega (arith, l, l')
          ]
    ]

one_member : (d : ℕ) (t : List (List (List ℤ))) (s : List (List ℤ)) (i n : ℕ) (p : List ℤ) (j m : ℕ) (q : List ℤ) (k : ℕ) → IsFirstAcross d t s i n p j → IsFirstAcross d t s i m q k → n ≡ m
one_member d t s i n p j m q k f g =
    elim (cases_lt n m) [
      | inl l ↦ absurd (g.earlier n j l f.place p f.facing)
      | inr l ↦
          elim (cases_lt m n) [
            | inl l' ↦ absurd (f.earlier m k l' g.place q g.facing)
            | inr l' ↦ omega (arith, l, l')
          ]
    ]

-- facet i of the one class and facet j of the other, each near 0
pub record AreFacets (d : ℕ) (s : List (List ℤ)) (i : ℕ) (next : List (List ℤ)) (j : ℕ) : Type 0 where
  pub facet : HasFacet d s i
  pub facet_too : HasFacet d next j
  pub near : AreWithin (span_limit d) s
  pub near_too : AreWithin (span_limit d) next

module _ (d : ℕ) (t : List (List (List ℤ))) (n i : ℕ) (h : IsTriangulation d t) (ln : n < length t) (li : i < length (get_or t n [])) where
  -- the member at the place
  abbrev pub s : List (List ℤ)
  s = get_or t n []

  count : length s ≡ suc d
  count = member_dimension d t n h ln

  pub facets_of : (m j : ℕ) → m < length t → j < suc d → AreFacets d s i (get_or t m []) j
  facets_of m j lm lj =
      let next = get_or t m [] in
      let cs = Contains-get_or t n [] ln in
      let cn = Contains-get_or t m [] lm in
      let k : IsClass d s = h.classes s cs in
      let k' : IsClass d next = h.classes next cn in
      let a = classes_of d t h in
      record {
        facet = record { low = h.low; high = h.high; count = k.simplex.count; dimension = k.simplex.points; place = omega (arith, li, count) };
        facet_too = record { low = h.low; high = h.high; count = k'.simplex.count; dimension = k'.simplex.points; place = lj };
        near = within_from_near (span_limit d) d s k (member_near d t s a cs);
        near_too = within_from_near (span_limit d) d next k' (member_near d t next a cn);
      }

  -- the same in the dimension that the triangulation keeps
  pub first_here : (m j : ℕ) (p : List ℤ) → IsFirstAcross (length s - 1) t s i m p j → IsFirstAcross d t s i m p j
  first_here m j p f = subst (λ (e : ℕ). IsFirstAcross e t s i m p j) (less_one d (length s) count) f

  pub outer_here : (m j : ℕ) (p : List ℤ) → IsFirstAcross (length s - 1) t s i m p j → IsOuter d t s i (get_or t m []) p j
  outer_here m j p f = outer d t s i m p j h (Contains-get_or t n [] ln) (omega (arith, li, count)) (first_here m j p f)

  pub wall_facets : (w : Wall) → IsWall (length s - 1) t s i w → AreFacets d s i (get_or t w.class []) w.vertex
  wall_facets w k = (let f = first_here w.class w.vertex (shift_to s i (get_or t w.class []) w.vertex) k.first in facets_of w.class w.vertex f.member f.place)

  pub shift_here : (m j : ℕ) (p : List ℤ) → IsFirstAcross (length s - 1) t s i m p j → p ≡ shift_to s i (get_or t m []) j
  shift_here m j p g =
      let f = first_here m j p g in
      let k : IsClass d (get_or t m []) = h.classes (get_or t m []) (Contains-get_or t m [] f.member) in
      (only_shift d s i (get_or t m []) j p k.simplex.points (count_without d j (get_or t m []) h.low k.simplex.count f.place) f.facing).0

  -- the first member across the facet is the one of which the wall tells
  pub wall_outer : (w : Wall) (k : IsWall (length s - 1) t s i w) (m j : ℕ) (p v : List ℤ) → IsFirstAcross (length s - 1) t s i m p j → v ≡ plus (get_or (get_or t m []) j []) p → IsOuterIn s (get_or t m []) p j v k.scale k.coefficients
  wall_outer w k m j p v f e =
      let q : List ℤ = shift_to s i (get_or t w.class []) w.vertex in
      let em : w.class ≡ m = one_member (length s - 1) t s i w.class q w.vertex m p j k.first f in
      let ej : w.vertex ≡ j =
      one_vertex (length s - 1) t s i m (shift_to s i (get_or t m []) w.vertex) w.vertex p j (subst (λ (n : ℕ). IsFirstAcross (length s - 1) t s i n (shift_to s i (get_or t n []) w.vertex) w.vertex) em k.first) f in
      let x : v ≡ vertex_to s i (get_or t w.class []) w.vertex = rw (em, ej) (e ∙ ap (plus (get_or (get_or t m []) j [])) (shift_here m j p f)) in
      record {
        vertex = e;
        expression = subst (λ (z : List ℤ). IsExpression s z k.scale k.coefficients) (sym x) k.outer.expression;
        primitive = k.outer.primitive;
        below = k.outer.below;
      }
