use Rattle.std.proofs.Common.{◌≡◌, ◌<◌, ◌≤◌, ◌*◌, ◌^◌, suc, ◌∷◌, drop, length, ℕ, ℤ, ◌-ℤ◌, FitsSigned, arith, ap, ◌∙◌, List, nat_abs}
use Rattle.std.proofs.lemmas.Int.{ints, to_z-of_z}
use Rattle.std.proofs.lemmas.List.Elements.{All-head, All-tail}
use mir.Syntax.{w128}
use Rattle.lt_model.specs.Vectors.{total}
use Rattle.lt_model.specs.Simplices.{IsClass, IsExpression}
use Rattle.lt_solve.specs.Systems.{Solution, IsSolution, IsColumnDependency, answer_limit}
use Rattle.lt_triang.proofs.Beyond.{expression_of, no_dependency}
use Rattle.lt_triang.proofs.Columned.{columns-class}
use Rattle.lt_triang.proofs.Expressed.{primitive_more, below_all}
use Rattle.lt_triang.proofs.classes.Class.expression_by.Goals.{After-total_of}
use Rattle.lt_triang.proofs.classes.Class.expression_by.Goals as goal

fits : (x : ℤ) → nat_abs x < answer_limit → FitsSigned w128 x
fits x h = omega (arith, ints)

fits_sum : (x : ℤ) → nat_abs x ≤ 6 * 2 ^ 56 → FitsSigned w128 x
fits_sum x h = omega (arith, ints)

fits_difference : (x y : ℤ) → nat_abs x < answer_limit → nat_abs y ≤ 6 * 2 ^ 56 → FitsSigned w128 (x -ℤ y)
fits_difference x y h k = omega (arith, ints)

same_dimension : (d : ℕ) (s : List (List ℤ)) (x : List ℤ) → IsClass d s → length s ≡ suc (length x) → length x ≡ d
same_dimension d s x k l = omega (arith, k.simplex.count)

-- the solution, over the vertices but the first
record IsFound (s : List (List ℤ)) (x : List ℤ) (den : ℤ) (nums : List ℤ) (sum : ℤ) : Type 0 where
  expression : IsExpression s x den ((den -ℤ sum) ∷ nums)
  fits_den : FitsSigned w128 den
  fits_total : FitsSigned w128 sum
  fits_first : FitsSigned w128 (den -ℤ sum)

found : (d : ℕ) (s columns : List (List ℤ)) (x : List ℤ) (den : ℤ) (nums : List ℤ) (sum : ℤ) → IsClass d s → length s ≡ suc (length x) → columns ≡ drop 1 s → IsSolution columns x den nums → sum ≡ total nums → nat_abs sum ≤ 6 * 2 ^ 56 → IsFound s x den nums sum
found d s columns x den nums sum k l e h t small =
    let h' : IsSolution (drop 1 s) x den nums = rw e at h in
    let b : nat_abs den < answer_limit = All-head (λ x. nat_abs x < answer_limit) den nums h.below in
    record {
      expression = rw t (expression_of d s x den nums k (same_dimension d s x k l) h');
      fits_den = fits den b;
      fits_total = fits_sum sum small;
      fits_first = fits_difference den sum b small;
    }

pub total_of-requires-clause-below : goal.total_of-requires-clause-below
total_of-requires-clause-below c =
    let h : IsSolution c.args.columns.now c.as_slice.result.now c.in-Ok.found.den c.in-Ok.found.nums = c.in-Ok.ensures.solution in
    rw (c.as_slice-nums.ensures.value, ap (λ (x : Solution). x.nums) c.found.view_is) (All-tail (λ x. nat_abs x < answer_limit) c.in-Ok.found.den c.in-Ok.found.nums h.below)

at_found : (c : After-total_of) → IsFound c.args.self.now c.args.x.now c.in-Ok.found.den c.in-Ok.found.nums c.total_of.result
at_found c =
    let e = c.requires.columns ∙ columns-class c.dimension-dimension.result c.args.self.now c.dimension-dimension.ensures.class in
    let x = c.as_slice.ensures.value ∙ c.widened.ensures ∙ c.coords.ensures.value in
    let h : IsSolution c.args.columns.now c.as_slice.result.now c.in-Ok.found.den c.in-Ok.found.nums = c.in-Ok.ensures.solution in
    let n : c.as_slice-nums.result.now ≡ c.in-Ok.found.nums = c.as_slice-nums.ensures.value ∙ ap (λ (x : Solution). x.nums) c.found.view_is in
    found c.dimension-dimension.result c.args.self.now c.args.columns.now c.args.x.now c.in-Ok.found.den c.in-Ok.found.nums c.total_of.result c.dimension-dimension.ensures.class c.requires.dimension e (rw x at h) (c.total_of.ensures.value ∙ ap total n) c.total_of.ensures.small

pub overflow_sub-found-inside : goal.overflow_sub-found-inside
overflow_sub-found-inside c =
    let f = at_found c in
    rw (ap (λ (x : Solution). x.den) c.found.view_is, to_z-of_z w128 c.in-Ok.found.den f.fits_den, to_z-of_z w128 c.total_of.result f.fits_total) f.fits_first

pub unreachable-requires : goal.unreachable-requires
unreachable-requires c =
    let e = c.requires.columns ∙ columns-class c.dimension-dimension.result c.args.self.now c.dimension-dimension.ensures.class in
    let h : IsColumnDependency c.args.columns.now c.in-Err.field-0 = c.in-Err.ensures.singular in
    no_dependency c.dimension-dimension.result c.args.self.now c.in-Err.field-0 c.dimension-dimension.ensures.class (rw e at h)

pub returns : goal.returns
returns c =
    let e = c.requires.columns ∙ columns-class c.dimension-dimension.result c.args.self.now c.dimension-dimension.ensures.class in
    let x = c.as_slice.ensures.value ∙ c.widened.ensures ∙ c.coords.ensures.value in
    let h : IsSolution c.args.columns.now c.as_slice.result.now c.in-Ok.found.den c.in-Ok.found.nums = c.in-Ok.ensures.solution in
    let n : c.as_slice-nums.result.now ≡ c.in-Ok.found.nums = c.as_slice-nums.ensures.value ∙ ap (λ (x : Solution). x.nums) c.found.view_is in
    let t : c.total_of.result ≡ total c.in-Ok.found.nums = c.total_of.ensures.value ∙ ap total n in
    let f : IsFound c.args.self.now c.args.x.now c.in-Ok.found.den c.in-Ok.found.nums c.total_of.result = found c.dimension-dimension.result c.args.self.now c.args.columns.now c.args.x.now c.in-Ok.found.den c.in-Ok.found.nums c.total_of.result c.dimension-dimension.ensures.class c.requires.dimension e (rw x at h) t c.total_of.ensures.small in
    let w : c.with_first.result.items ≡ (c.in-Ok.found.den -ℤ c.total_of.result) ∷ c.in-Ok.found.nums = rw (ap (λ (x : Solution). x.den) c.found.view_is, to_z-of_z w128 c.in-Ok.found.den f.fits_den, to_z-of_z w128 c.total_of.result f.fits_total, to_z-of_z w128 (c.in-Ok.found.den -ℤ c.total_of.result) f.fits_first, n) at c.with_first.ensures in
    rw (ap (λ (x : Solution). x.den) c.found.view_is, to_z-of_z w128 c.in-Ok.found.den f.fits_den, w) (record {
      expression = f.expression;
      primitive = primitive_more c.in-Ok.found.den (c.in-Ok.found.den -ℤ c.total_of.result) c.in-Ok.found.nums h.primitive;
      below = rw t (below_all c.in-Ok.found.den c.in-Ok.found.nums h.below (rw t at c.total_of.ensures.small));
    })
