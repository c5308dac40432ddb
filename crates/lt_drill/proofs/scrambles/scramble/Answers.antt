use Rattle.std.proofs.Common.{◌≡◌, ◌∙◌, ◌+◌, ◌*◌, ◌^◌, suc, IfSome, IfNone, Result, Ok, Err, OnErr, sym, ap, subst, refl, arith, add-one}
use Rattle.lt_triang.specs.Kept.{dimension_of}
use Rattle.lt_match.proofs.Tested.{dimension_is}
use Rattle.lt_model.specs.Flat.{rows, flat}
use Rattle.lt_model.specs.Matrices.{times}
use Rattle.lt_drill.specs.States.{after}
use Rattle.lt_drill.specs.Scrambles.{turn_factor, HasInverse, IsScramble, IsNarrowImage, HasWideImage}
use Rattle.lt_drill.proofs.Pictures.{image_form}
use Rattle.lt_drill.proofs.Turns.{drew}
use Rattle.lt_drill.proofs.Standing.{Stands, begins, takes, leaves}
use Rattle.lt_drill.proofs.scrambles.scramble.Goals as goal
use Rattle.lt_drill.proofs.scrambles.scramble.Goals.{in-Some, in_default}

pub loop-turn-init : goal.loop-turn-init
loop-turn-init c = record {
  stands = begins c.dimension-d.result c.args.t.now c.in_ok-scrambled.scrambled c.args.draws.now c.identity-u.result c.dimension-d.ensures c.identity-u.ensures c.in_ok-scrambled.ensures;
  draws = refl;
}

pub narrow_image-requires-clause-square : goal.narrow_image-requires-clause-square
narrow_image-requires-clause-square c =
    let same = dimension_is c.dimension-d.result c.args.t.now c.dimension-d.ensures in
    c.turned-product.ensures.square ∙ ap (λ n. n * n) (sym same)

pub narrow_image-requires-clause-inverse : goal.narrow_image-requires-clause-inverse
narrow_image-requires-clause-inverse c =
    let same = dimension_is c.dimension-d.result c.args.t.now c.dimension-d.ensures in
    let carries = c.loop-turn.invariant.stands.image.carries in
    subst (λ n. HasInverse n (rows n c.turned-product.result)) (sym same) (c.turned-product.ensures.inverse (carries.inverse, carries.is_inverse))

on_err : {T E : Type 0} {P : Type 0} (r : Result T E) → P → OnErr r P
on_err (Ok x) p = tt
on_err (Err e) p = p

pub returns-in_err-pictured-clause-refused : goal.returns-in_err-pictured-clause-refused
returns-in_err-pictured-clause-refused c =
    on_err c.from_residual-in_err-pictured.result (c.loop-turn._turn + 1, omega arith, drew c.loop-turn._turn c.args.draws.now c.loop-turn.draws c.turned-product.new.draws c.turned-product.ensures.draws c.loop-turn.invariant.draws)

pub loop-turn-preserved : goal.loop-turn-preserved
loop-turn-preserved c =
    let d = c.dimension-d.result in
    let t = c.args.t.now in
    let x = c.args.draws.now in
    let n = c.loop-turn._turn in
    let u = c.loop-turn.u in
    let p = c.turned-product.result in
    let r = c.loop-turn.scrambled in
    let h = c.dimension-d.ensures in
    let same = dimension_is d t h in
    let is : p ≡ flat (times (turn_factor d (after (3 * n) x)) (rows d u)) = c.turned-product.ensures.value ∙ ap (λ y. flat (times (turn_factor d y) (rows d u))) c.loop-turn.invariant.draws in
    let stands : Stands (suc n) d t x c.match-pictured.u c.match-pictured.scrambled =
    elim c.match-pictured.branch [
      | in-Some w ↦ rw (w.u-is, w.scrambled-is)
          (takes n d t x u p r h.low c.loop-turn.invariant.stands is w.in-Some.narrow c.turned-product.ensures.square (c.turned-product.ensures.small (2 ^ n) c.loop-turn.invariant.stands.small)
          (subst (λ m. IsNarrowImage m (rows m p) t w.in-Some.narrow) same (subst (λ o. IfSome o (IsNarrowImage (dimension_of t) (rows (dimension_of t) p) t)) w.in-Some.is c.in_ok-pictured.ensures.some)))
      | in_default w ↦ rw (w.u-is, w.scrambled-is)
          (leaves n d t x u p r h.low c.loop-turn.invariant.stands is
          (subst (λ m. HasWideImage m (rows m p) t) same (subst (λ o. IfNone o (HasWideImage (dimension_of t) (rows (dimension_of t) p) t)) w.in_default.is c.in_ok-pictured.ensures.none)))
    ] in
    record { stands = rw add-one stands; draws = drew n x c.loop-turn.draws c.turned-product.new.draws c.turned-product.ensures.draws c.loop-turn.invariant.draws }

pub returns-clause-square : goal.returns-clause-square
returns-clause-square c =
    let same = dimension_is c.dimension-d.result c.args.t.now c.dimension-d.ensures in
    c.loop-turn.invariant.stands.square ∙ ap (λ n. n * n) (sym same)

pub returns-clause-scramble : goal.returns-clause-scramble
returns-clause-scramble c =
    let same = dimension_is c.dimension-d.result c.args.t.now c.dimension-d.ensures in
    let three : c.loop-turn._turn ≡ 3 = omega arith in
    let stands = subst (λ n. Stands n c.dimension-d.result c.args.t.now c.args.draws.now c.loop-turn.u c.loop-turn.scrambled) three c.loop-turn.invariant.stands in
    subst (λ n. IsScramble n c.args.t.now c.args.draws.now (rows n c.loop-turn.u) c.loop-turn.scrambled) (sym same) (record { turns = stands.turns; is_image = stands.image })

pub returns-clause-dimension : goal.returns-clause-dimension
returns-clause-dimension c =
    let d = c.dimension-d.result in
    dimension_is d c.loop-turn.scrambled c.loop-turn.invariant.stands.triangulation ∙ sym (dimension_is d c.args.t.now c.dimension-d.ensures)

pub returns-clause-form : goal.returns-clause-form
returns-clause-form c =
    let d = c.dimension-d.result in
    let stands = c.loop-turn.invariant.stands in
    image_form d (rows d c.loop-turn.u) c.args.t.now c.loop-turn.scrambled c.dimension-d.ensures stands.triangulation stands.image.carries

pub returns-clause-draws : goal.returns-clause-draws
returns-clause-draws c =
    let three : c.loop-turn._turn ≡ 3 = omega arith in
    c.loop-turn.invariant.draws ∙ ap (λ n. after (3 * n) c.args.draws.now) three
