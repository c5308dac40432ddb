use Rattle.std.proofs.Common.{ℕ, arith, ◌≡◌, ◌≤◌, ◌<◌, ◌+◌, ◌*◌, ◌^◌, suc, get_or, [], sym, ap, ◌∙◌, List, ℤ, length, refl, subst, nat_abs, pos, ◌≤ℤ◌, Bool, not, T}
use Rattle.std.proofs.lemmas.Int.{ints, to_z-of_z}
use Rattle.std.proofs.lemmas.List.Elements.{All-tail}
use Rattle.std.specs.Int.Signed.{lt_z_yes, lt_z_no}
use mir.Val.{SFits, to_z, of_z}
use mir.Syntax.{w128}
use Rattle.lt_model.specs.Facets.{number_at, IsBeyond}
use Rattle.lt_triang.proofs.Beyond.{negative_from}
use Rattle.std.specs.List.{All}
use Rattle.lt_lattice.specs.Ranges.{IsWithin}
use Rattle.std.proofs.lemmas.Bool.{false≢true}
use Rattle.lt_model.specs.Vectors.{minus}
use Rattle.lt_model.specs.Facets.{without}
use Rattle.lt_model.specs.Simplices.{IsClass}
use Rattle.lt_model.specs.Limits.{span_limit}
use Rattle.lt_triang.specs.Bounds.{AreNear}
use Rattle.lt_triang.specs.Across.{HasFacet}
use Rattle.lt_triang.specs.Expressions.{Expression}
use Rattle.lt_triang.proofs.Gaps.{twice_limit, double_limit, within_from_near}
use Rattle.lt_triang.proofs.Shifts.{count_without, facing_made, not_moved, not_beyond, within_more, shift_bounds, ShiftBounds}
use Rattle.lt_triang.proofs.neighbours.facing.Goals as goal

has_facet : (d : ℕ) (s : List (List ℤ)) (i : ℕ) → 2 ≤ d → d ≤ 6 → IsClass d s → i < suc d → HasFacet d s i
has_facet d s i low high k p = record { low = low; high = high; count = k.simplex.count; dimension = k.simplex.points; place = p }

pub are_parallel-requires-clause-facet : goal.are_parallel-requires-clause-facet
are_parallel-requires-clause-facet c = rw c.vertices-points.ensures (has_facet c.args.d c.args.s.now c.args.i c.requires.low c.requires.high c.requires.class c.requires.place)

pub are_parallel-requires-clause-facet_too : goal.are_parallel-requires-clause-facet_too
are_parallel-requires-clause-facet_too c = has_facet c.args.d c.args.next.now c.args.j c.requires.low c.requires.high c.requires.class_too c.requires.place_too

pub shift_of-shift-requires-clause-facet : goal.shift_of-shift-requires-clause-facet
shift_of-shift-requires-clause-facet c = rw c.vertices-points.ensures (has_facet c.args.d c.args.s.now c.args.i c.requires.low c.requires.high c.requires.class c.requires.place)

pub shift_of-shift-requires-clause-facet_too : goal.shift_of-shift-requires-clause-facet_too
shift_of-shift-requires-clause-facet_too c = has_facet c.args.d c.args.next.now c.args.j c.requires.low c.requires.high c.requires.class_too c.requires.place_too

pub shift_of-shift-requires-clause-near : goal.shift_of-shift-requires-clause-near
shift_of-shift-requires-clause-near c = rw c.vertices-points.ensures (within_from_near (span_limit c.args.d) c.args.d c.args.s.now c.requires.class c.requires.near)

pub shift_of-shift-requires-clause-near_too : goal.shift_of-shift-requires-clause-near_too
shift_of-shift-requires-clause-near_too c = within_from_near (span_limit c.args.d) c.args.d c.args.next.now c.requires.class_too c.requires.near_too

pub returns-then-not-are_parallel-clause-facing : goal.returns-then-not-are_parallel-clause-facing
returns-then-not-are_parallel-clause-facing c =
    let told = rw c.vertices-points.ensures at c.are_parallel.ensures in
    not_moved c.args.d c.args.s.now c.args.i c.args.next.now c.args.j _ c.requires.class_too.simplex.points
    (count_without c.args.d c.args.j c.args.next.now c.requires.low c.requires.class_too.simplex.count c.requires.place_too) refl
    (λ m. false≢true (sym c.if-not-are_parallel.true ∙ told.1 m))

bounds : (d : ℕ) (s : List (List ℤ)) (i : ℕ) (next : List (List ℤ)) (j : ℕ) (p : List ℤ) → 2 ≤ d → IsClass d s → IsClass d next → i < suc d → j < suc d → AreNear (span_limit d) s → AreNear (span_limit d) next →
    p ≡ minus (get_or (without i s) 0 []) (get_or (without j next) 0 []) → ShiftBounds d (span_limit d) next j p
bounds d s i next j p low k k' pi pj near near' e = shift_bounds d (span_limit d) s i next j p low k k' pi pj (within_from_near (span_limit d) d s k near) near' e

pub vertex_moved-vertex-requires-clause-dimension : goal.vertex_moved-vertex-requires-clause-dimension
vertex_moved-vertex-requires-clause-dimension c =
    let r = c.requires in
    let b = bounds c.args.d c.args.s.now c.args.i c.args.next.now c.args.j _ r.low r.class r.class_too r.place r.place_too r.near r.near_too (rw c.vertices-points.ensures at c.shift_of-shift.ensures) in
    rw b.dimension r.class_too.simplex.points

pub vertex_moved-vertex-requires-clause-within : goal.vertex_moved-vertex-requires-clause-within
vertex_moved-vertex-requires-clause-within c =
    let r = c.requires in
    let d = c.args.d in
    let b = bounds d c.args.s.now c.args.i c.args.next.now c.args.j _ r.low r.class r.class_too r.place r.place_too r.near r.near_too (rw c.vertices-points.ensures at c.shift_of-shift.ensures) in
    within_more (span_limit d + span_limit d) (2 ^ 20) _ (omega (arith, twice_limit d)) b.outer

pub expression_by-expression-requires-clause-dimension : goal.expression_by-expression-requires-clause-dimension
expression_by-expression-requires-clause-dimension c =
    let r = c.requires in
    let b = bounds c.args.d c.args.s.now c.args.i c.args.next.now c.args.j _ r.low r.class r.class_too r.place r.place_too r.near r.near_too (rw c.vertices-points.ensures at c.shift_of-shift.ensures) in
    r.class.simplex.count ∙ ap suc (sym (ap length c.vertex_moved-vertex.ensures ∙ b.outer_dimension))

pub expression_by-expression-requires-clause-near : goal.expression_by-expression-requires-clause-near
expression_by-expression-requires-clause-near c =
    let r = c.requires in
    let d = c.args.d in
    let b = bounds d c.args.s.now c.args.i c.args.next.now c.args.j _ r.low r.class r.class_too r.place r.place_too r.near r.near_too (rw c.vertices-points.ensures at c.shift_of-shift.ensures) in
    let e : length c.vertex_moved-vertex.result ≡ d = ap length c.vertex_moved-vertex.ensures ∙ b.outer_dimension in
    let v : All (IsWithin (2 * span_limit d)) c.vertex_moved-vertex.result = rw c.vertex_moved-vertex.ensures (within_more (span_limit d + span_limit d) (2 * span_limit d) _ (omega (arith, double_limit d)) b.outer) in
    subst (λ (n : ℕ). All (IsWithin (2 * span_limit n)) c.vertex_moved-vertex.result) (sym e) v

-- the number at the place is as the code reads it
read : (x : ℤ) → nat_abs x < 2 ^ 59 → to_z w128 (of_z w128 x) ≡ x
read x h = to_z-of_z w128 x (fits x h)
  where
    fits : (x : ℤ) → nat_abs x < 2 ^ 59 → SFits w128 x
    fits x h = omega (arith, ints)

pub returns-then-deref-i-lt0-clause-facing : goal.returns-then-deref-i-lt0-clause-facing
returns-then-deref-i-lt0-clause-facing c =
    let r = c.requires in
    let d = c.args.d in
    let s = c.args.s.now in
    let b = bounds d s c.args.i c.args.next.now c.args.j _ r.low r.class r.class_too r.place r.place_too r.near r.near_too (rw c.vertices-points.ensures at c.shift_of-shift.ensures) in
    let moved = rw (sym (rw c.vertices-points.ensures at c.shift_of-shift.ensures)) at ((rw c.vertices-points.ensures at c.are_parallel.ensures).0 c.if-not-are_parallel.false) in
    let o = c.expression_by-expression in
    let e = o.ensures.expression in
    let here : c.args.i < length o.result.coefficients = omega (arith, e.one_each, r.class.simplex.count, r.place) in
    let small : nat_abs (number_at c.args.i o.result.coefficients) < 2 ^ 59 = All-tail (λ x. nat_abs x < 2 ^ 59) o.result.scale o.result.coefficients o.ensures.below c.args.i (pos 0) here in
    let told = rw (c.deref.ensures.0, ap (λ (e : Expression). e.coefficients) c.expression.view_is, read _ small) at c.if-deref-i-lt0.true in
    let beyond : IsBeyond s c.args.i c.vertex_moved-vertex.result = record { scale = o.result.scale; coefficients = o.result.coefficients; expression = e; negative = lt_z_yes (subst T (sym told) tt) } in
    facing_made d s c.args.i c.args.next.now c.args.j c.shift_of-shift.result b.dimension (omega (arith, r.class_too.simplex.count, r.place_too)) moved (rw c.vertex_moved-vertex.ensures at beyond)

pub returns-else-deref-i-lt0-clause-facing : goal.returns-else-deref-i-lt0-clause-facing
returns-else-deref-i-lt0-clause-facing c =
    let r = c.requires in
    let d = c.args.d in
    let s = c.args.s.now in
    let o = c.expression_by-expression in
    let e = o.ensures.expression in
    let here : c.args.i < length o.result.coefficients = omega (arith, e.one_each, r.class.simplex.count, r.place) in
    let small : nat_abs (number_at c.args.i o.result.coefficients) < 2 ^ 59 = All-tail (λ x. nat_abs x < 2 ^ 59) o.result.scale o.result.coefficients o.ensures.below c.args.i (pos 0) here in
    let told = rw (c.deref.ensures.0, ap (λ (e : Expression). e.coefficients) c.expression.view_is, read _ small) at c.if-deref-i-lt0.false in
    let above : pos 0 ≤ℤ number_at c.args.i o.result.coefficients = lt_z_no (subst (λ (t : Bool). T (not t)) (sym told) tt) in
    not_beyond d s c.args.i c.args.next.now c.args.j c.shift_of-shift.result r.class_too.simplex.points
    (count_without d c.args.j c.args.next.now r.low r.class_too.simplex.count r.place_too) (omega (arith, r.class_too.simplex.count, r.place_too)) (rw c.vertices-points.ensures at c.shift_of-shift.ensures)
    (λ k.
    let negative = negative_from d s c.args.i c.vertex_moved-vertex.result o.result.scale o.result.coefficients r.class e (rw (sym c.vertex_moved-vertex.ensures) at k) in
    absurd (omega (arith, ints, negative, above)))
