use Rattle.std.proofs.Common.{arith, ◌≡◌, ◌<◌, ◌≤◌, ◌+◌, ◌^◌, ◌∙◌, ap, sym, ℕ, ℤ, List, pos, ◌*ℤ◌, length, drop, nat_abs, refl, suc, [], ◌∷◌, ◌++◌}
use Rattle.std.proofs.lemmas.Int.{ints, to_z-of_z}
use Rattle.std.proofs.lemmas.List.Elements.{All-head, All-tail}
use mir.Val.{SFits, to_z, of_z}
use mir.Syntax.{w64, w128}
use Rattle.lt_model.specs.Vectors.{scale, unit, combine}
use Rattle.lt_model.proofs.Vectors.{scale-scale}
use Rattle.lt_model.specs.Cones.{AreBelow}
use Rattle.lt_model.proofs.Points.{count_rest}
use Rattle.lt_solve.specs.Systems.{Solution, IsSolution, IsColumnDependency, column_limit, answer_limit}
use Rattle.lt_match.proofs.Multiples.{IsBasisUpTo, rest_independent, independent_columns, basis_more, basis_done, small_column, scaled_great, scaled_small, multiple_small, length-multiple}
use Rattle.lt_match.proofs.bases.basis_of.Goals as goal

short : (n : ℕ) → n ≤ 2 ^ 20 → SFits w64 (pos n)
short n h = omega (arith, ints)

-- what `solve` is given
given : (d j : ℕ) (m : ℤ) (items now : List ℤ) → m ≡ pos (column_limit d) → items ≡ scale (to_z w64 (of_z w64 m)) (unit d j) → now ≡ items → now ≡ scale (pos (column_limit d)) (unit d j)
given d j m items now em ei en =
    let f : SFits w64 (pos (column_limit d)) = short (column_limit d) (small_column d) in
    en ∙ ei ∙ (rw (em, to_z-of_z w64 (pos (column_limit d)) f) refl)

long : (d : ℕ) (points columns : List (List ℤ)) → length points ≡ suc d → columns ≡ drop 1 points → length columns ≡ d
long d points columns l e = ap length e ∙ count_rest d points l

pub solve-requires-clause-same : goal.solve-requires-clause-same
solve-requires-clause-same c =
    let x = given c.args.d c.loop-j.j c.greatest_number-greatest.result c.multiple.result.items c.as_slice.result.now c.greatest_number-greatest.ensures c.multiple.ensures c.as_slice.ensures.value in
    let l = long c.args.d c.args.points.now c.columns_of-columns.result c.requires.simplex.count c.columns_of-columns.ensures in
    ap length x ∙ length-multiple (pos (column_limit c.args.d)) c.args.d c.loop-j.j ∙ sym l

pub solve-requires-clause-small : goal.solve-requires-clause-small
solve-requires-clause-small c =
    let x = given c.args.d c.loop-j.j c.greatest_number-greatest.result c.multiple.result.items c.as_slice.result.now c.greatest_number-greatest.ensures c.multiple.ensures c.as_slice.ensures.value in
    let l = long c.args.d c.args.points.now c.columns_of-columns.result c.requires.simplex.count c.columns_of-columns.ensures in
    rw (x, l) (multiple_small (column_limit c.args.d) c.args.d c.loop-j.j)

-- the factor, as the code reads it
factor : (d : ℕ) (m from : ℤ) → m ≡ pos (column_limit d) → from ≡ to_z w64 (of_z w64 m) → from ≡ pos (column_limit d)
factor d m from em ef = ef ∙ (rw em (to_z-of_z w64 (pos (column_limit d)) (short (column_limit d) (small_column d))))

below_fits : (x : ℤ) → nat_abs x < 2 ^ 80 → SFits w128 x
below_fits x h = omega (arith, ints)

den_below : (den : ℤ) (nums : List ℤ) → AreBelow answer_limit (den ∷ nums) → nat_abs den < answer_limit
den_below den nums h = All-head (λ x. nat_abs x < answer_limit) den nums h

pub overflow_mul-found-inside : goal.overflow_mul-found-inside
overflow_mul-found-inside c =
    let h : IsSolution c.columns_of-columns.result c.as_slice.result.now c.in-Ok.found.den c.in-Ok.found.nums = c.in-Ok.ensures.solution in
    let below = den_below c.in-Ok.found.den c.in-Ok.found.nums h.below in
    let fd : SFits w128 c.in-Ok.found.den = below_fits c.in-Ok.found.den (omega (arith, below)) in
    let ff : SFits w128 (pos (column_limit c.args.d)) = below_fits (pos (column_limit c.args.d)) (omega (arith, ints, small_column c.args.d)) in
    rw (factor c.args.d c.greatest_number-greatest.result c.from.result c.greatest_number-greatest.ensures c.from.ensures, ap (λ (x : Solution). x.den) c.found.view_is, to_z-of_z w128 c.in-Ok.found.den fd, to_z-of_z w128 (pos (column_limit c.args.d)) ff)
    (below_fits (c.in-Ok.found.den *ℤ pos (column_limit c.args.d)) (scaled_small c.in-Ok.found.den (column_limit c.args.d) below (small_column c.args.d)))

pub unreachable-requires : goal.unreachable-requires
unreachable-requires c =
    let h : IsColumnDependency (drop 1 c.args.points.now) c.in-Err.field-0 = rw c.columns_of-columns.ensures at c.in-Err.ensures.singular in
    independent_columns (drop 1 c.args.points.now) c.in-Err.field-0 (rest_independent c.args.d c.args.points.now c.requires.low c.requires.simplex c.requires.first) h

-- one row more
more : (d j : ℕ) (points : List (List ℤ)) (columns : List (List ℤ)) (now : List ℤ) (den : ℤ) (nums : List ℤ) (scales terms : List ℤ) → length points ≡ suc d → columns ≡ drop 1 points → now ≡ scale (pos (column_limit d)) (unit d j) →
    IsSolution columns now den nums → IsBasisUpTo d points j scales terms → IsBasisUpTo d points (j + 1) (scales ++ (den *ℤ pos (column_limit d)) ∷ []) (terms ++ nums)
more d j points columns now den nums scales terms lp ec en h b =
    let row : length nums ≡ d = h.one_each ∙ long d points columns lp ec in
    let sum : combine nums (drop 1 points) ≡ scale (den *ℤ pos (column_limit d)) (unit d j) = ap (combine nums) (sym ec) ∙ h.sum ∙ ap (scale den) en ∙ scale-scale den (pos (column_limit d)) (unit d j) in
    basis_more d points j scales terms (den *ℤ pos (column_limit d)) nums b row (All-tail (λ x. nat_abs x < answer_limit) den nums h.below) (scaled_great den (column_limit d) h.positive) (scaled_small den (column_limit d) (den_below den nums h.below) (small_column d)) sum

pub loop-j-preserved : goal.loop-j-preserved
loop-j-preserved c =
    let d = c.args.d in
    let den = c.in-Ok.found.den in
    let nums = c.in-Ok.found.nums in
    let h : IsSolution c.columns_of-columns.result c.as_slice.result.now den nums = c.in-Ok.ensures.solution in
    let below = den_below den nums h.below in
    let fd : SFits w128 den = below_fits den (omega (arith, below)) in
    let ff : SFits w128 (pos (column_limit d)) = below_fits (pos (column_limit d)) (omega (arith, ints, small_column d)) in
    let fp : SFits w128 (den *ℤ pos (column_limit d)) = below_fits (den *ℤ pos (column_limit d)) (scaled_small den (column_limit d) below (small_column d)) in
    let x = given d c.loop-j.j c.greatest_number-greatest.result c.multiple.result.items c.as_slice.result.now c.greatest_number-greatest.ensures c.multiple.ensures c.as_slice.ensures.value in
    let scales : c.push.new.self.items ≡ c.loop-j.scales.items ++ (den *ℤ pos (column_limit d)) ∷ [] =
    rw (factor d c.greatest_number-greatest.result c.from.result c.greatest_number-greatest.ensures c.from.ensures, ap (λ (x : Solution). x.den) c.found.view_is, to_z-of_z w128 den fd, to_z-of_z w128 (pos (column_limit d)) ff, to_z-of_z w128 (den *ℤ pos (column_limit d)) fp) at c.push.ensures.items
    in
    let terms : c.push_numbers.new.all.items ≡ c.loop-j.terms.items ++ nums = c.push_numbers.ensures ∙ ap (λ (l : List ℤ). c.loop-j.terms.items ++ l) (c.as_slice-in-Ok.ensures.value ∙ ap (λ (x : Solution). x.nums) c.found.view_is) in
    rw (scales, terms) (more d c.loop-j.j c.args.points.now c.columns_of-columns.result c.as_slice.result.now den nums c.loop-j.scales.items c.loop-j.terms.items c.requires.simplex.count c.columns_of-columns.ensures x h c.loop-j.invariant)

pub returns : goal.returns
returns c = basis_done c.args.d c.args.points.now c.loop-j.j c.loop-j.scales.items c.loop-j.terms.items (omega arith) c.loop-j.invariant
