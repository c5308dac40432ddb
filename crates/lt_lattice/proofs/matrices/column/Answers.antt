use Rattle.std.proofs.Common.{rules, arith, ◌≡◌, ◌∙◌, ◌<◌, ◌+◌, ◌*◌, pos, [], length, map, get_or}
use Rattle.std.proofs.lemmas.List.{take_more, take_all, length-map}
use Rattle.lt_model.specs.Facets.{number_at}
use Rattle.lt_model.specs.Flat.{rows}
use Rattle.lt_model.proofs.Walk.{number_at-map}
use Rattle.lt_model.proofs.Flat.{length-first_rows, number_at-first_rows}
use Rattle.lt_lattice.proofs.matrices.column.Goals as goal

pub loop-i-preserved : goal.loop-i-preserved
loop-i-preserved c =
    let d = c.args.d in
    let u = rows d c.args.numbers.now in
    let i = c.loop-i.i in
    let few : i < length u = omega (arith, length-first_rows d d c.args.numbers.now, c.loop-i-test.true) in
    let all : i < length (map (number_at c.args.j) u) = omega (arith, few, length-map u (number_at c.args.j)) in
    let here : get_or (map (number_at c.args.j) u) i (pos 0) ≡ get_or c.args.numbers.now (i * d + c.args.j) (pos 0) =
    number_at-map (number_at c.args.j) i u [] few ∙ number_at-first_rows d d i c.args.j c.args.numbers.now c.loop-i-test.true c.requires.place in
    rw (take_more (map (number_at c.args.j) u) i (pos 0) all, here, c.push.ensures.items, c.loop-i.invariant) (search rules)

pub returns : goal.returns
returns c =
    let d = c.args.d in
    let u = rows d c.args.numbers.now in
    c.loop-i.invariant ∙ take_all c.loop-i.i (map (number_at c.args.j) u) (omega (arith, length-first_rows d d c.args.numbers.now, length-map u (number_at c.args.j), c.loop-i-test.false))
