-- The system of a class: its columns, how many numbers they have, and how large these are.
use Rattle.std.proofs.Common.{◌≡◌, ℕ, ℤ, pos, ◌≤ℤ◌, ◌<◌, ◌*◌, ap, arith, ◌∙◌, subst, List, [], ◌∷◌, length, map, drop, get_or}
use Rattle.std.proofs.lemmas.Int.{ints}
use Rattle.std.specs.List.{All, AllByRecursion, Contains}
use Rattle.std.proofs.lemmas.List.{get_or_default}
use Rattle.std.proofs.lemmas.List.Elements.{All-nil, All-cons}
use Rattle.lt_model.proofs.Flat.{rows-flat, length-flat}
use Rattle.lt_model.proofs.Walk.{length-map}
use Rattle.lt_model.proofs.Sets.{Contains-head, Contains-tail}
use Rattle.lt_model.specs.Flat.{flat, rows}
use Rattle.lt_model.specs.Forms.{value, polar}
use Rattle.lt_model.specs.Limits.{span_limit}
use Rattle.lt_model.specs.Matrices.{IsSquare}
use Rattle.lt_model.specs.Simplices.{AllOfDimension}
use Rattle.lt_model.proofs.Points.{count_rest}
use Rattle.lt_lattice.specs.Ranges.{IsWithin}
use Rattle.lt_solve.specs.Systems.{IsSmall}
use Rattle.lt_triang.proofs.Columned.{All-flat}
use Rattle.lt_cover.specs.Gram.{gram, IsMeasured}
use Rattle.lt_cover.proofs.Centres.{length-gram}
use Rattle.lt_cover.proofs.Measures.{from_first, low_at, short_at, high_at, some_vertex, product_small}

all_mapped : (P : ℤ → Type 0) (f : List ℤ → ℤ) (vs : List (List ℤ)) → ((v : List ℤ) → Contains vs v → P (f v)) → All P (map f vs)
all_mapped P f [] h = All-nil P
all_mapped P f (v ∷ vs) h = All-cons P (f v) (map f vs) (h v (Contains-head v vs)) (all_mapped P f vs (λ w c. h w (Contains-tail v vs w c)))

rest_in : (s : List (List ℤ)) (v : List ℤ) → Contains (drop 1 s) v → Contains s v
rest_in [] v c = c
rest_in (u ∷ vs) v c = Contains-tail u vs v c

columns_all : (d : ℕ) (q : List ℤ) (vs ws : List (List ℤ)) → length vs ≡ d → AllOfDimension d (map (λ w. map (λ v. polar q v w) vs) ws)
columns_all d q vs [] l = tt
columns_all d q vs (w ∷ ws) l = (length-map (λ v. polar q v w) vs ∙ l, columns_all d q vs ws l)

columns_small : (P : ℤ → Type 0) (q : List ℤ) (vs ws : List (List ℤ)) → ((v w : List ℤ) → Contains vs v → Contains ws w → P (polar q v w)) → AllByRecursion (All P) (map (λ w. map (λ v. polar q v w) vs) ws)
columns_small P q vs [] h = tt
columns_small P q vs (w ∷ ws) h = (all_mapped P (λ v. polar q v w) vs (λ v c. h v w c (Contains-head w ws)), columns_small P q vs ws (λ v u c k. h v u c (Contains-tail w ws u k)))

module _ (d : ℕ) (q : List ℤ) (s : List (List ℤ)) (h : IsMeasured d q s) where
  abbrev vs : List (List ℤ)
  vs = drop 1 s

  pub count : length vs ≡ d
  count = count_rest d s h.class.simplex.count

  square : IsSquare d (gram q vs)
  square = record { rows = length-gram q vs vs ∙ count; columns = columns_all d q vs vs count }

  pub gram_rows : rows d (flat (gram q vs)) ≡ gram q vs
  gram_rows = rows-flat d (gram q vs) square

  pub gram_square : length (flat (gram q vs)) ≡ d * d
  gram_square = length-flat d (gram q vs) square.columns ∙ ap (λ (n : ℕ). n * d) square.rows

  pub length-columns : length (gram q vs) ≡ d
  length-columns = square.rows

  at_place : (P : List ℤ → Type 0) → ((i : ℕ) → i < length s → P (get_or s i [])) → (v : List ℤ) → Contains vs v → P v
  at_place P p v c = go (rest_in s v c)
    where
      go : Contains s v → P v
      go (i, l, e) = subst P (get_or_default s i [] v l ∙ e) (p i l)

  pub gram_small : All (IsSmall d) (flat (gram q vs))
  gram_small = All-flat (IsSmall d) (gram q vs) (columns_small (IsSmall d) q vs vs (λ v w cv cw. at_place (λ x. IsSmall d (polar q x w)) (λ i li. at_place (λ y. IsSmall d (polar q (get_or s i []) y)) (λ j lj. product_small d q s h i j li lj) w cw) v cv))

  value_low : (i : ℕ) → i < length s → pos 0 ≤ℤ value q (get_or s i [])
  value_low i l = let e = from_first d q s h i l in let a = low_at d q s h i 0 l (some_vertex d q s h) in omega (arith, ints, e, a)

  value_short : (i : ℕ) → i < length s → value q (get_or s i []) ≤ℤ pos (span_limit d)
  value_short i l = let e = from_first d q s h i l in let a = short_at d q s h i 0 l (some_vertex d q s h) in omega (arith, ints, e, a)

  value_high : (i : ℕ) → i < length s → value q (get_or s i []) ≤ℤ pos 400
  value_high i l = let e = from_first d q s h i l in let a = high_at d q s h i 0 l (some_vertex d q s h) in omega (arith, ints, e, a)

  pub values_small : All (IsSmall d) (map (value q) vs)
  values_small = all_mapped (IsSmall d) (value q) vs (at_place (λ v. IsSmall d (value q v)) (λ i l. (let a = value_low i l in let b = value_short i l in omega (arith, ints, a, b))))

  pub values_within : All (IsWithin 400) (map (value q) vs)
  values_within = all_mapped (IsWithin 400) (value q) vs (at_place (λ v. IsWithin 400 (value q v)) (λ i l. (let a = value_low i l in let b = value_high i l in omega (arith, ints, a, b))))
