use Rattle.std.proofs.Common.{◌≡◌, ◌∙◌, ◌*◌, ◌^◌, ap, sym, subst, length}
use Rattle.std.specs.List.{All}
use Rattle.lt_model.specs.Flat.{rows, flat}
use Rattle.lt_model.specs.Matrices.{times}
use Rattle.lt_lattice.specs.Ranges.{IsWithin, IsBelow}
use Rattle.lt_drill.specs.Scrambles.{turn_factor}
use Rattle.lt_drill.proofs.Products.{length-turn, length-product, product_value, product_within, product_below, product_inverse}
use Rattle.lt_drill.proofs.scrambles.turned.Goals as goal
use Rattle.lt_drill.proofs.scrambles.turned.Goals.{In-Ok}

pub times-requires : goal.times-requires
times-requires c = ap length c.drawn_factor-factor.ensures.value ∙ length-turn c.args.d c.args.draws.now c.requires.low ∙ sym c.requires.square

pub unreachable-requires : goal.unreachable-requires
unreachable-requires c =
    let d = c.args.d in
    let x = c.args.draws.now in
    let count = ap length c.drawn_factor-factor.ensures.value ∙ length-turn d x c.requires.low in
    let is = product_value d x c.requires.low c.args.u.now c.requires.square c.drawn_factor-factor.result c.drawn_factor-factor.ensures.value in
    let fine = (c.in-Err.ensures.below d count).1 (subst (λ m. All (IsBelow (2 ^ 62)) (flat m)) (sym is) (product_below d x c.requires.low c.args.u.now c.requires.square c.requires.small)) in
    cc

-- the product
made : (c : In-Ok) → c.in-Ok.product ≡ flat (times (turn_factor c.args.d c.args.draws.now) (rows c.args.d c.args.u.now))
made c =
    let d = c.args.d in
    let x = c.args.draws.now in
    let count = ap length c.drawn_factor-factor.ensures.value ∙ length-turn d x c.requires.low in
    c.in-Ok.ensures.value d count ∙ ap flat (product_value d x c.requires.low c.args.u.now c.requires.square c.drawn_factor-factor.result c.drawn_factor-factor.ensures.value)

pub returns-clause-value : goal.returns-clause-value
returns-clause-value c = made c

pub returns-clause-square : goal.returns-clause-square
returns-clause-square c = ap length (made c) ∙ length-product c.args.d c.args.draws.now c.requires.low c.args.u.now c.requires.square

pub returns-clause-small : goal.returns-clause-small
returns-clause-small c = λ bound h. subst (All (IsWithin (2 * bound))) (sym (made c)) (product_within c.args.d c.args.draws.now c.requires.low c.args.u.now c.requires.square bound h)

pub returns-clause-inverse : goal.returns-clause-inverse
returns-clause-inverse c = product_inverse c.args.d c.args.draws.now c.requires.low c.args.u.now c.requires.square c.in-Ok.product (made c)
