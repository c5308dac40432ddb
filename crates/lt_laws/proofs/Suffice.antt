-- Facets suffice: a form that is positive at all normals of a list that have a wall form is positive at all normals of the list.
use Rattle.std.proofs.Common.{◌≡◌, ◌≢◌, ℕ, zero, suc, ℤ, pos, negsuc, ◌+ℤ◌, ◌*ℤ◌, ◌<ℤ◌, ◌<◌, ◌≤◌, refl, ap, ap₂, arith, sym, ◌∙◌, subst, List, [], ◌∷◌, length, map, get_or, ◌⊎◌, inl, inr}
use Rattle.std.proofs.lemmas.Int.{ints}
use Rattle.std.specs.List.{All, AllByRecursion, Contains}
use Rattle.std.proofs.lemmas.List.{length-map}
use Rattle.std.proofs.lemmas.List.Elements.{All-head, All-tail, Contains-get_or}
use Rattle.lt_model.proofs.Integers.{zero_mul_z}
use Rattle.lt_model.proofs.Ring.{ring, var, ◌⊕◌, ◌⊗◌}
use Rattle.lt_model.proofs.Inequalities.{mul_pos_z}
use Rattle.lt_model.proofs.Vectors.{dot-plus, dot-scale, dot_comm}
use Rattle.lt_model.proofs.Excess.{dot-nil}
use Rattle.lt_model.proofs.Walk.{length-without}
use Rattle.lt_model.proofs.Sets.{Contains-head, Contains-tail, Contains-cases, Contains-none}
use Rattle.lt_model.specs.Vectors.{plus, scale, dot, total, zeros, combine, IsPrimitive}
use Rattle.lt_model.specs.Simplices.{AllOfDimension}
use Rattle.lt_model.specs.Facets.{without}
use Rattle.lt_model.specs.Cones.{coefficients, places}
use Rattle.lt_geometry.proofs.Parity.{index_of}
use Rattle.lt_geometry.proofs.Primitive.{same_primitive}
use Rattle.lt_geometry.proofs.Rearranged.{IsDistinct, Contains-without, Contains-with, not_in_without, distinct_without}
use Rattle.lt_geometry.proofs.Regulators.{from_multiple}
use Rattle.lt_geometry.proofs.Values.{list_dec}
use Rattle.lt_geometry.proofs.Motions.{all_from_members}
use Rattle.lt_lp.specs.Positive.{IsPositiveAt}
use Rattle.lt_lp.specs.Alternatives.{IsCombination}
use Rattle.lt_lp.proofs.FromZeros.{dot_from_zeros}
use Rattle.lt_lp.proofs.OneAlternative.{one_alternative}
use Rattle.lt_laws.proofs.RegulatorLists.{last_or_below}

-- a positive multiple of u is the sum of members of vs times positive numbers
record IsSumOf (vs : List (List ℤ)) (u : List ℤ) (multiple : ℤ) (cs : List ℤ) (us : List (List ℤ)) : Type 0 where
  pub some : pos 0 <ℤ multiple
  pub one_each : length cs ≡ length us
  pub positive : AllByRecursion (λ x. pos 0 <ℤ x) cs
  pub from : (v : List ℤ) → Contains us v → Contains vs v
  pub sum : plus (zeros (length u)) (combine cs us) ≡ scale multiple u

abbrev HasSum : List (List ℤ) → List ℤ → Type 0
HasSum vs u = (multiple : ℤ) × (cs : List ℤ) × (us : List (List ℤ)) × IsSumOf vs u multiple cs us

-- n is 0 at w, and each other member is positive there
pub record IsWallIn (m : ℕ) (ns : List (List ℤ)) (n w : List ℤ) : Type 0 where
  pub numbers : length w ≡ m
  pub zero_there : dot n w ≡ pos 0
  pub others : (v : List ℤ) → Contains ns v → v ≢ n → pos 0 <ℤ dot v w

abbrev HasWall : ℕ → List (List ℤ) → List ℤ → Type 0
HasWall m ns n = (w : List ℤ) × IsWallIn m ns n w

-- ---- the alternatives for a normal u and others

all_positive : (cs : List ℤ) → All (λ x. pos 0 <ℤ x) cs → AllByRecursion (λ x. pos 0 <ℤ x) cs
all_positive [] h = tt
all_positive (c ∷ cs) h = (All-head (λ x. pos 0 <ℤ x) c cs h, all_positive cs (All-tail (λ x. pos 0 <ℤ x) c cs h))

later_members : (u : List ℤ) (vs : List (List ℤ)) (ps : List ℕ) → All (λ i. i < length (u ∷ vs)) ps → All (λ i. i ≢ 0) ps → (v : List ℤ) → Contains (map (λ i. get_or (u ∷ vs) i []) ps) v → Contains vs v
later_members u vs [] a b v c = Contains-none v c
later_members u vs (p ∷ ps) a b v c =
    elim (Contains-cases (get_or (u ∷ vs) p []) (map (λ i. get_or (u ∷ vs) i []) ps) v c) [
      | inl e ↦ subst (λ (x : List ℤ). Contains vs x) e (here p (All-head (λ i. i < length (u ∷ vs)) p ps a) (All-head (λ i. i ≢ 0) p ps b))
      | inr r ↦ later_members u vs ps (All-tail (λ i. i < length (u ∷ vs)) p ps a) (All-tail (λ i. i ≢ 0) p ps b) v r
    ]
  where
    here : (p : ℕ) → p < length (u ∷ vs) → p ≢ 0 → Contains vs (get_or (u ∷ vs) p [])
    here zero l n = absurd (n refl)
    here (suc p) l n = Contains-get_or vs p [] (omega arith)

from_terms : (u : List ℤ) (vs : List (List ℤ)) (multiple : ℤ) (terms : List (ℕ × ℤ)) → IsCombination (u ∷ vs) 0 multiple terms → HasSum vs u
from_terms u vs multiple terms h = (
  multiple,
  coefficients terms,
  map (λ i. get_or (u ∷ vs) i []) (places terms),
  record {
    some = h.some;
    one_each = length-map terms (λ p. p.1) ∙ sym (length-map (places terms) (λ i. get_or (u ∷ vs) i []) ∙ length-map terms (λ p. p.0));
    positive = all_positive (coefficients terms) h.positive;
    from = later_members u vs (places terms) h.within h.other;
    sum = h.sum;
  },
)

abbrev IsWallBeside : ℕ → List ℤ → List (List ℤ) → List ℤ → Type 0
IsWallBeside m u vs w = (length w ≡ m) × (dot u w ≡ pos 0) × ((v : List ℤ) → Contains vs v → pos 0 <ℤ dot v w)

alternative : (m : ℕ) (u : List ℤ) (vs : List (List ℤ)) (form : List ℤ) → length u ≡ m → AllOfDimension m vs → pos 0 <ℤ dot u form → ((v : List ℤ) → Contains vs v → pos 0 <ℤ dot v form) →
    ((w : List ℤ) × IsWallBeside m u vs w) ⊎ HasSum vs u
alternative m u vs form lu all pu pv =
    elim (one_alternative m (u ∷ vs) 0 form (lu, all) (omega arith) at).0 [
      | inl h ↦ inl (h.0, (h.1.numbers, h.1.zero_there, λ v c. let k = index_of vs v c in subst (λ (x : List ℤ). pos 0 <ℤ dot x h.0) k.2 (h.1.others (suc k.0) (omega (arith, k.1)) (λ e. omega (arith, e)))))
      | inr h ↦ inr (from_terms u vs h.0 h.1 h.2)
    ]
  where
    at : IsPositiveAt form (u ∷ vs)
    at zero l = pu
    at (suc i) l = pv (get_or vs i []) (Contains-get_or vs i [] (omega arith))

-- ---- a sum at a form that is 0 at n and positive at the other members

abbrev IsMultipleOf : List ℤ → List ℤ → List (List ℤ) → Type 0
IsMultipleOf n cs us = (y : List ℤ) → dot y (combine cs us) ≡ total cs *ℤ dot y n

sum_at : (w n cs : List ℤ) (us : List (List ℤ)) → length cs ≡ length us → AllByRecursion (λ x. pos 0 <ℤ x) cs → dot n w ≡ pos 0 → ((v : List ℤ) → Contains us v → (v ≡ n) ⊎ (pos 0 <ℤ dot v w)) →
    (pos 0 <ℤ dot w (combine cs us)) ⊎ ((dot w (combine cs us) ≡ pos 0) × IsMultipleOf n cs us)
sum_at w n [] us l p z h = inr (dot-nil w, λ y. dot-nil y ∙ sym (zero_mul_z (dot y n)))
sum_at w n (c ∷ cs) [] l p z h = absurd (omega arith)
sum_at w n (c ∷ cs) (v ∷ us) l p z h = go (h v (Contains-head v us)) (sum_at w n cs us (omega arith) p.1 z (λ x m. h x (Contains-tail v us x m)))
  where
    first : (y : List ℤ) → dot y (combine (c ∷ cs) (v ∷ us)) ≡ c *ℤ dot y v +ℤ dot y (combine cs us)
    first y = dot-plus y (scale c v) (combine cs us) ∙ ap (λ (x : ℤ). x +ℤ dot y (combine cs us)) (dot-scale y c v)

    none : v ≡ n → c *ℤ dot w v ≡ pos 0
    none e = ap (λ (x : List ℤ). c *ℤ dot w x) e ∙ ap (λ (x : ℤ). c *ℤ x) (dot_comm w n ∙ z) ∙ omega (arith, ints)

    up : pos 0 <ℤ dot v w → pos 0 <ℤ (c *ℤ dot w v)
    up q = mul_pos_z c (dot w v) p.0 (subst (λ (x : ℤ). pos 0 <ℤ x) (dot_comm v w) q)

    go : (v ≡ n) ⊎ (pos 0 <ℤ dot v w) → (pos 0 <ℤ dot w (combine cs us)) ⊎ ((dot w (combine cs us) ≡ pos 0) × IsMultipleOf n cs us) → (pos 0 <ℤ dot w (combine (c ∷ cs) (v ∷ us))) ⊎ ((dot w (combine (c ∷ cs) (v ∷ us)) ≡ pos 0) × IsMultipleOf n (c ∷ cs) (v ∷ us))
    go (inr q) (inl r) = inl (omega (arith, ints, first w, up q, r))
    go (inr q) (inr r) = inl (omega (arith, ints, first w, up q, r.0))
    go (inl e) (inl r) = inl (omega (arith, ints, first w, none e, r))
    go (inl e) (inr r) = inr (
      omega (arith, ints, first w, none e, r.0),
      λ y. first y ∙ ap₂ (λ (a b : ℤ). a +ℤ b) (ap (λ (x : List ℤ). c *ℤ dot y x) e) (r.1 y) ∙ ring (c ∷ total cs ∷ dot y n ∷ []) (var 0 ⊗ var 2 ⊕ var 1 ⊗ var 2) ((var 0 ⊕ var 1) ⊗ var 2) tt,
    )

whole : (z : ℤ) → pos 0 <ℤ z → (i : ℕ) × (0 < i) × (z ≡ pos i)
whole (pos i) h = (i, omega (arith, ints, h), refl)
whole (negsuc i) h = absurd (omega (arith, ints, h))

-- primitive lists of which positive multiples agree are equal
same_by_multiples : (a b : ℤ) (u v : List ℤ) → pos 0 <ℤ a → pos 0 <ℤ b → length u ≡ length v → IsPrimitive u → IsPrimitive v → ((y : List ℤ) → a *ℤ dot y u ≡ b *ℤ dot y v) → u ≡ v
same_by_multiples a b u v pa pb l pu pv e =
    let i = whole a pa in
    let j = whole b pb in
    same_primitive i.0 j.0 u v i.1 j.1 l pu pv (λ y. ap (λ (x : ℤ). x *ℤ dot y u) (sym i.2) ∙ e y ∙ ap (λ (x : ℤ). x *ℤ dot y v) j.2)

-- ---- lists of different primitive normals that are positive at a form

pub record AreSeparate (m : ℕ) (form : List ℤ) (ns : List (List ℤ)) : Type 0 where
  pub distinct : IsDistinct ns
  pub dimension : (n : List ℤ) → Contains ns n → length n ≡ m
  pub primitive : (n : List ℤ) → Contains ns n → IsPrimitive n
  pub above : (n : List ℤ) → Contains ns n → pos 0 <ℤ dot n form

separate_without : (m : ℕ) (form : List ℤ) (ns : List (List ℤ)) (i : ℕ) → AreSeparate m form ns → AreSeparate m form (without i ns)
separate_without m form ns i h = record {
  distinct = distinct_without ns i h.distinct;
  dimension = λ n c. h.dimension n (Contains-with ns i n c);
  primitive = λ n c. h.primitive n (Contains-with ns i n c);
  above = λ n c. h.above n (Contains-with ns i n c);
}

-- all of the first j places have a wall form, or some place is a sum of others
search : (m : ℕ) (form : List ℤ) (ns : List (List ℤ)) → AreSeparate m form ns → (j : ℕ) → j ≤ length ns → ((i : ℕ) → i < j → HasWall m ns (get_or ns i [])) ⊎ ((i : ℕ) × (i < length ns) × HasSum (without i ns) (get_or ns i []))
search m form ns h zero l = inl (λ i k. absurd (omega arith))
search m form ns h (suc j) l = go (search m form ns h j (omega arith)) (alternative m u (without j ns) form (h.dimension u here) (all_from_members m (without j ns) (λ n c. h.dimension n (Contains-with ns j n c))) (h.above u here) (λ n c. h.above n (Contains-with ns j n c)))
  where
    u : List ℤ
    u = get_or ns j []

    below : j < length ns
    below = omega (arith, l)

    here : Contains ns u
    here = Contains-get_or ns j [] below

    pick : ((i : ℕ) → i < j → HasWall m ns (get_or ns i [])) → HasWall m ns u → (i : ℕ) → i < suc j → (i ≡ j) ⊎ (i < j) → HasWall m ns (get_or ns i [])
    pick f w i k (inl e) = subst (λ (x : ℕ). HasWall m ns (get_or ns x [])) (sym e) w
    pick f w i k (inr r) = f i r

    go : ((i : ℕ) → i < j → HasWall m ns (get_or ns i [])) ⊎ ((i : ℕ) × (i < length ns) × HasSum (without i ns) (get_or ns i [])) → ((w : List ℤ) × IsWallBeside m u (without j ns) w) ⊎ HasSum (without j ns) u →
        ((i : ℕ) → i < suc j → HasWall m ns (get_or ns i [])) ⊎ ((i : ℕ) × (i < length ns) × HasSum (without i ns) (get_or ns i []))
    go (inr r) x = inr r
    go (inl f) (inr s) = inr (j, below, s)
    go (inl f) (inl w) = inl (λ i k. pick f (w.0, record { numbers = w.1.0; zero_there = w.1.1; others = λ v c n. w.1.2 v (Contains-without ns j v [] c (λ e. n (sym e))) }) i k (last_or_below i j k))

pub suffice : (k m : ℕ) (form q : List ℤ) (ns : List (List ℤ)) → length ns ≡ k → AreSeparate m form ns → ((n : List ℤ) → Contains ns n → (w : List ℤ) → IsWallIn m ns n w → pos 0 <ℤ dot n q) → (n : List ℤ) → Contains ns n → pos 0 <ℤ dot n q
suffice k m form q [] l h f n c = Contains-none n c
suffice zero m form q (x ∷ ns) l h f n c = absurd (omega arith)
suffice (suc k) m form q (x ∷ xs) l h f n c = go (search m form ns h (length ns) (omega arith)) (λ i b. suffice k m form q (without i ns) (omega (arith, length-without i ns b, l)) (separate_without m form ns i h))
  where
    ns : List (List ℤ)
    ns = x ∷ xs

    go : ((i : ℕ) → i < length ns → HasWall m ns (get_or ns i [])) ⊎ ((i : ℕ) × (i < length ns) × HasSum (without i ns) (get_or ns i [])) →
        ((i : ℕ) → i < length ns → ((n : List ℤ) → Contains (without i ns) n → (w : List ℤ) → IsWallIn m (without i ns) n w → pos 0 <ℤ dot n q) → (n : List ℤ) → Contains (without i ns) n → pos 0 <ℤ dot n q) → pos 0 <ℤ dot n q
    go (inl all) rec = let i = index_of ns n c in let w = all i.0 i.1 in f n c w.0 (subst (λ (y : List ℤ). IsWallIn m ns y w.0) i.2 w.1)
    go (inr (i, b, (a, cs, us, s))) rec = end (list_dec n u)
      where
        u : List ℤ
        u = get_or ns i []

        vs : List (List ℤ)
        vs = without i ns

        here : Contains ns u
        here = Contains-get_or ns i [] b

        at : (y : List ℤ) → dot y (combine cs us) ≡ a *ℤ dot y u
        at y = sym (dot_from_zeros y (length u) (combine cs us)) ∙ ap (dot y) s.sum ∙ dot-scale y a u

        above : pos 0 <ℤ (a *ℤ dot form u)
        above = mul_pos_z a (dot form u) s.some (subst (λ (z : ℤ). pos 0 <ℤ z) (dot_comm u form) (h.above u here))

        -- where a form is 0 at one of the others and positive at the rest, it is positive at u
        rises : (v w : List ℤ) → Contains vs v → IsWallIn m vs v w → pos 0 <ℤ dot u w
        rises v w cv wall = case (sum_at w v cs us s.one_each s.positive wall.zero_there (λ y e. each y e (list_dec y v)))
          where
            each : (y : List ℤ) → Contains us y → Dec (y ≡ v) → (y ≡ v) ⊎ (pos 0 <ℤ dot y w)
            each y e (yes g) = inl g
            each y e (no g) = inr (wall.others y (s.from y e) g)

            case : (pos 0 <ℤ dot w (combine cs us)) ⊎ ((dot w (combine cs us) ≡ pos 0) × IsMultipleOf v cs us) → pos 0 <ℤ dot u w
            case (inl r) = subst (λ (z : ℤ). pos 0 <ℤ z) (dot_comm w u) (from_multiple a (dot w u) s.some (subst (λ (z : ℤ). pos 0 <ℤ z) (at w) r))
            case (inr r) =
                let cn : Contains ns v = Contains-with ns i v cv in
                let e : (y : List ℤ) → a *ℤ dot y u ≡ total cs *ℤ dot y v = λ y. sym (at y) ∙ r.1 y in
                let g : pos 0 <ℤ dot form v = subst (λ (z : ℤ). pos 0 <ℤ z) (dot_comm v form) (h.above v cn) in
                let t : pos 0 <ℤ total cs = from_multiple (dot form v) (total cs) g (subst (λ (z : ℤ). pos 0 <ℤ z) (e form ∙ ring (total cs ∷ dot form v ∷ []) (var 0 ⊗ var 1) (var 1 ⊗ var 0) tt) above) in
                let same : u ≡ v = same_by_multiples a (total cs) u v s.some t (h.dimension u here ∙ sym (h.dimension v cn)) (h.primitive u here) (h.primitive v cn) e in
                absurd (not_in_without ns i [] h.distinct b (subst (λ (y : List ℤ). Contains vs y) (sym same) cv))

        below : (v : List ℤ) → Contains vs v → pos 0 <ℤ dot v q
        below = rec i b (λ v cv w wall. f v (Contains-with ns i v cv) w (record { numbers = wall.numbers; zero_there = wall.zero_there; others = λ y cy ne. other v w cv wall y cy ne (list_dec y u) }))
          where
            other : (v w : List ℤ) → Contains vs v → IsWallIn m vs v w → (y : List ℤ) → Contains ns y → y ≢ v → Dec (y ≡ u) → pos 0 <ℤ dot y w
            other v w cv wall y cy ne (yes e) = subst (λ (z : List ℤ). pos 0 <ℤ dot z w) (sym e) (rises v w cv wall)
            other v w cv wall y cy ne (no e) = wall.others y (Contains-without ns i y [] cy (λ g. e (sym g))) ne

        own : pos 0 <ℤ dot u q
        own = case (sum_at q [] cs us s.one_each s.positive refl (λ y e. inr (below y (s.from y e))))
          where
            case : (pos 0 <ℤ dot q (combine cs us)) ⊎ ((dot q (combine cs us) ≡ pos 0) × IsMultipleOf [] cs us) → pos 0 <ℤ dot u q
            case (inl r) = subst (λ (z : ℤ). pos 0 <ℤ z) (dot_comm q u) (from_multiple a (dot q u) s.some (subst (λ (z : ℤ). pos 0 <ℤ z) (at q) r))
            case (inr r) =
                let e : a *ℤ dot form u ≡ total cs *ℤ pos 0 = sym (at form) ∙ r.1 form ∙ ap (λ (z : ℤ). total cs *ℤ z) (dot-nil form) in
                absurd (omega (arith, ints, above, e))

        end : Dec (n ≡ u) → pos 0 <ℤ dot n q
        end (yes e) = subst (λ (y : List ℤ). pos 0 <ℤ dot y q) (sym e) own
        end (no e) = below n (Contains-without ns i n [] c (λ g. e (sym g)))
