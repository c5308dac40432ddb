-- A matrix that carries one triangulation onto another has small numbers, where both are within the limit of spans.
use Rattle.std.proofs.Common.{◌≡◌, ◌⊎◌, ℕ, suc, ℤ, pos, nat_abs, ◌*◌, ◌^◌, ◌<◌, ◌≤◌, Bool, true, false, cond, inl, inr, sym, ap, ◌∙◌, subst, arith, List, [], length, get_or, set, mul-le-mul}
use Rattle.std.specs.Prelude.{nat_le}
use Rattle.std.specs.List.{All, Contains}
use Rattle.std.proofs.lemmas.Bool.{cases_eq, cases_lt}
use Rattle.std.proofs.lemmas.Int.{ints}
use Rattle.std.proofs.lemmas.List.{get_or-map, length-map, get_or_default, get_or_past, get_or-set_same, get_or-set_other, length-set}
use Rattle.std.proofs.lemmas.List.Elements.{All-from_recursion, recursion_from_All, All-from_get_or, Contains-get_or}
use Rattle.lt_model.specs.Exterior.{volume}
use Rattle.lt_model.specs.Facets.{number_at}
use Rattle.lt_model.specs.Flat.{flat}
use Rattle.lt_model.specs.Limits.{span, span_limit}
use Rattle.lt_model.specs.Matrices.{apply, Carries}
use Rattle.lt_model.specs.Simplices.{IsClass}
use Rattle.lt_model.specs.Vectors.{minus, dot, unit}
use Rattle.lt_model.proofs.Flat.{length-flat, number_at-unit_same, number_at-unit_other}
use Rattle.lt_model.proofs.Opposite.{length-unit, unit-dot}
use Rattle.lt_model.proofs.Sets.{each_holds}
use Rattle.lt_model.proofs.Vectors.{dot_comm}
use Rattle.lt_geometry.specs.Carrying.{AreClasses, IsFromAnOrder}
use Rattle.lt_geometry.proofs.Candidates.{carries_is_candidate}
use Rattle.lt_lattice.specs.Ranges.{IsWithin}
use Rattle.lt_match.proofs.Orders.{order_below}
use Rattle.lt_scan.specs.Reading.{IsBelow, AreBelow}
use Rattle.lt_triang.proofs.Columned.{All-flat}
use Rattle.lt_triang.proofs.Gaps.{small_limit, near_from_span, within_from_near}
use Rattle.lt_read.proofs.Volumes.{IsFilled, vertices_filled}
use Rattle.lt_read.proofs.Expressed.{product_most}
use Rattle.lt_read.proofs.SmallMatrices.{volume_most}

some_limit : (d : ℕ) → 1 ≤ span_limit d
some_limit d = at (nat_le d 5)
  where
    at : (b : Bool) → 1 ≤ cond b 400 100
    at true = omega arith
    at false = omega arith

-- the numbers of a unit vector
unit_within : (d j : ℕ) → All (IsWithin (span_limit d)) (unit d j)
unit_within d j = All-from_get_or (IsWithin (span_limit d)) (unit d j) (pos 0) (λ i l. at i (cases_lt j d))
  where
    one : (z : ℤ) → z ≡ pos 1 → nat_abs z ≤ span_limit d
    one z e = let s = some_limit d in omega (arith, ints, e, s)

    none : (z : ℤ) → z ≡ pos 0 → nat_abs z ≤ span_limit d
    none z e = omega (arith, ints, e)

    at : (i : ℕ) → (j < d) ⊎ (d ≤ j) → nat_abs (number_at i (unit d j)) ≤ span_limit d
    at i side = elim (cases_eq j i) [
      | inr n ↦ none (number_at i (unit d j)) (number_at-unit_other d j i n)
      | inl e ↦ elim side [
        | inl l ↦ one (number_at i (unit d j)) (ap (λ (k : ℕ). number_at k (unit d j)) (sym e) ∙ number_at-unit_same d j l)
        | inr g ↦ none (number_at i (unit d j)) (get_or_past (unit d j) i (pos 0) (let l = length-unit d j in omega (arith, l, e, g)))
      ]
    ]

-- what stands in a list in which one place was written
set_cases : {A : Type 0} (xs : List A) (i : ℕ) (x y : A) → Contains (set xs i x) y → (x ≡ y) ⊎ Contains xs y
set_cases xs i x y (m, l, e) =
    let n = length-set xs i x in
    elim (cases_eq m i) [
      | inl s ↦ inl (sym (get_or-set_same xs i x y (omega (arith, l, n, s))) ∙ ap (λ (k : ℕ). get_or (set xs i x) k y) (sym s) ∙ e)
      | inr ne ↦ inr (m, omega (arith, l, n), sym (get_or-set_other xs i m x y ne) ∙ e)
    ]

module _ (d : ℕ) (low : 2 ≤ d) (high : d ≤ 6) (u : List (List ℤ)) (t t2 : List (List (List ℤ))) (classes : AreClasses d t) (classes2 : AreClasses d t2) (some : 0 < length t) (narrow : span t ≤ span_limit d) (narrow2 : span t2 ≤ span_limit d) (h : Carries d u t t2) where
  abbrev s : List (List ℤ)
  s = get_or t 0 []

  own : Contains t s
  own = Contains-get_or t 0 [] some

  cls : IsClass d s
  cls = classes s own

  -- the products of a row with the vertices of the first class
  image : (k : ℕ) (v : List ℤ) → k < d → Contains s v → nat_abs (dot (get_or u k []) v) ≤ span_limit d
  image k v hk (j, l, e) = by (carries_is_candidate d u t t2 s classes h own)
    where
      is : get_or s j [] ≡ v
      is = get_or_default s j [] v l ∙ e

      by : IsFromAnOrder d t2 s u → nat_abs (dot (get_or u k []) v) ≤ span_limit d
      by o =
          let to : IsClass d o.to = classes2 o.to o.member in
          let a : List ℤ = get_or o.to (get_or o.order j 0) [] in
          let b : List ℤ = get_or o.to (get_or o.order 0 0) [] in
          let hj : j < suc d = (let c = cls.simplex.count in omega (arith, l, c)) in
          let pj : get_or o.order j 0 < length o.to = (let c = to.simplex.count in let p = order_below d o.order j o.is_order hj in omega (arith, c, p)) in
          let p0 : get_or o.order 0 0 < length o.to = (let c = to.simplex.count in let p = order_below d o.order 0 o.is_order (omega arith) in omega (arith, c, p)) in
          let near : All (IsWithin (span_limit d)) (minus a b) = near_from_span (span_limit d) t2 o.to narrow2 o.member a b (Contains-get_or o.to (get_or o.order j 0) [] pj) (Contains-get_or o.to (get_or o.order 0 0) [] p0) in
          let moved : apply u v ≡ minus a b = ap (apply u) (sym is) ∙ o.candidate.images j hj in
          let rows : length u ≡ d = o.candidate.square.rows in
          let long : k < length (minus a b) = (let m = ap length moved in let n = length-map u (λ (row : List ℤ). dot row v) in omega (arith, hk, rows, m, n)) in
          let number : dot (get_or u k []) v ≡ get_or (minus a b) k (pos 0) = sym (get_or-map (λ (row : List ℤ). dot row v) u k [] (pos 0) (omega (arith, hk, rows))) ∙ ap (λ (y : List ℤ). get_or y k (pos 0)) moved in
          subst (λ (z : ℤ). nat_abs z ≤ span_limit d) (sym number) (near k (pos 0) long)

  vertex : (v : List ℤ) → Contains s v → (length v ≡ d) × All (IsWithin (span_limit d)) v
  vertex v c = (
    each_holds (λ z. length z ≡ d) s v cls.simplex.points c,
    each_holds (All (IsWithin (span_limit d))) s v (within_from_near (span_limit d) d s cls (near_from_span (span_limit d) t s narrow own)) c,
  )

  vertex_of : (ms : List (List ℤ)) → IsFilled d s d ms → (v : List ℤ) → Contains ms v → Contains s v
  vertex_of ms f v (m, l, e) = subst (Contains s) (get_or_default ms m [] v l ∙ e) (f.vertices m (let n = f.long in omega (arith, l, n)))

  columns : (k : ℕ) → k < d → length (get_or u k []) ≡ d
  columns k l = All-from_recursion (λ z. length z ≡ d) u h.square.columns k [] (let r = h.square.rows in omega (arith, l, r))

  number_small : (k j : ℕ) → k < d → j < d → nat_abs (number_at j (get_or u k [])) < 2 ^ 62
  number_small k j hk hj = by (vertices_filled d s cls.simplex)
    where
      by : (ms : List (List ℤ)) × IsFilled d s d ms → nat_abs (number_at j (get_or u k [])) < 2 ^ 62
      by (ms, f) =
          let r : List ℤ = get_or u k [] in
          let x : List ℤ = unit d j in
          let volumes : (i : ℕ) → i < d → nat_abs (volume d (set ms i x)) ≤ 2 ^ 50 = (λ i l. volume_most d low high (set ms i x) (length-set ms i x ∙ f.long) (λ c m. elim (set_cases ms i x c m) [
            | inl e ↦ subst (λ (v : List ℤ). (length v ≡ d) × All (IsWithin (span_limit d)) v) e (length-unit d j, unit_within d j)
            | inr q ↦ vertex c (vertex_of ms f c q)
          ])) in
          let p = product_most d s ms f (omega (arith, low)) x (length-unit d j) r (span_limit d) (2 ^ 50) (λ i l. image k (get_or ms i []) hk (f.vertices i l)) volumes in
          let number : dot r x ≡ number_at j r = dot_comm r x ∙ unit-dot d j r (columns k hk) in
          let most : d * (2 ^ 50 * span_limit d) ≤ 6 * (2 ^ 50 * 400) = mul-le-mul high (mul-le-mul (same (2 ^ 50)) (small_limit d)) in
          let q = ap nat_abs number in
          omega (arith, p, most, q)
        where
          same : (n : ℕ) → n ≤ n
          same n = omega arith

  pub numbers_small : AreBelow (2 ^ 62) (d * d) (flat u)
  numbers_small = (
    length-flat d u h.square.columns ∙ ap (λ (n : ℕ). n * d) h.square.rows,
    recursion_from_All (IsBelow (2 ^ 62)) (flat u) (All-flat (IsBelow (2 ^ 62)) u (recursion_from_All (All (IsBelow (2 ^ 62))) u (All-from_get_or (All (IsBelow (2 ^ 62))) u [] (λ k l.
        let hk : k < d = (let r = h.square.rows in omega (arith, l, r)) in
        All-from_get_or (IsBelow (2 ^ 62)) (get_or u k []) (pos 0) (λ j m. number_small k j hk (let c = columns k hk in omega (arith, m, c))))))),
  )
