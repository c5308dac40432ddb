use Rattle.std.proofs.Common.{◌≡◌, ◌∙◌, ◌^◌, arith, sym, subst, ℤ, List, [], get_or}
use Rattle.std.specs.List.{All}
use Rattle.std.proofs.Common.{rules}
use Rattle.std.proofs.lemmas.Int.{to_z-of_z}
use mir.Syntax.{w128}
use mir.Val.{to_z, of_z}
use Rattle.std.proofs.lemmas.List.{get_or_default}
use Rattle.lt_model.specs.Vectors.{dot}
use Rattle.lt_lattice.specs.Ranges.{IsBelow}
use Rattle.lt_tableau.proofs.Bounds.{normals_small}
use Rattle.lt_locate.specs.Facing.{IsOfSign}
use Rattle.lt_locate.proofs.Walls.{more_unmet, untrue, value_at}
use Rattle.lt_locate.proofs.facing.first_facet.Goals.{else-is_of-via-then-is_of+in_ok-has_wall+else-branch, else-is_of-via-else-is_of}
use Rattle.lt_locate.proofs.facing.first_facet.Goals as goal

pub pair-requires-clause-normal_below : goal.pair-requires-clause-normal_below
pair-requires-clause-normal_below c =
    let ns = c.args.normals.now in
    subst (λ (v : List ℤ). All (IsBelow (2 ^ 56)) v) (sym c.index-normals-k.is) (normals_small c.requires.light.0 ns c.requires.light.2 c.loop-k.k c.index-normals-k.result c.loop-k-test.true)

pub returns-then-branch : goal.returns-then-branch
returns-then-branch c = λ d a. (
    let ns = c.args.normals.now in
    let q = c.args.q.now in
    let k = c.loop-k.k in
    let r : to_z w128 (of_z w128 c.pair.result) ≡ c.pair.result = to_z-of_z w128 c.pair.result (search rules) in
    let v : to_z w128 (of_z w128 c.pair.result) ≡ dot (get_or ns k []) q = r ∙ value_at ns q c.index-normals-k.result k c.pair.result c.loop-k-test.true c.index-normals-k.is c.pair.ensures in
    record {
      place = k;
      within = c.loop-k-test.true;
      is = c.copy.ensures ∙ c.index-normals-k-then-branch.is ∙ get_or_default ns k c.index-normals-k-then-branch.result [] c.loop-k-test.true;
      met = (subst (λ (x : ℤ). IsOfSign c.args.sign x) v (c.is_of.ensures.0 c.if-is_of.true), (c.in_ok-has_wall.ensures d a).0 c.if-branch.true);
      before = c.loop-k.invariant d a;
    }
    )

pub loop-k-preserved : goal.loop-k-preserved
loop-k-preserved c = λ d a. (
    let ns = c.args.normals.now in
    let q = c.args.q.now in
    let k = c.loop-k.k in
    let r : to_z w128 (of_z w128 c.pair.result) ≡ c.pair.result = to_z-of_z w128 c.pair.result (search rules) in
    let v : to_z w128 (of_z w128 c.pair.result) ≡ dot (get_or ns k []) q = r ∙ value_at ns q c.index-normals-k.result k c.pair.result c.loop-k-test.true c.index-normals-k.is c.pair.ensures in
    more_unmet d ns q c.args.sign k (c.loop-k.invariant d a)
    (λ m. elim c.else-is_of.branch [
      | else-is_of-via-then-is_of+in_ok-has_wall+else-branch w ↦ untrue w.in_ok-has_wall.field-0 w.if-branch.false ((w.in_ok-has_wall.ensures d a).1 m.1)
      | else-is_of-via-else-is_of w ↦ untrue c.is_of.result w.if-is_of.false (c.is_of.ensures.1 (subst (λ (x : ℤ). IsOfSign c.args.sign x) (sym v) m.0))
    ])
    )

pub returns : goal.returns
returns c = λ d a k l m. c.loop-k.invariant d a k (omega (arith, c.loop-k-test.false)) m
