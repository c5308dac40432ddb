use Rattle.std.proofs.Common.{◌≡◌, ◌^◌, ◌∙◌, ap, take, length}
use Rattle.std.specs.List.{refill}
use Rattle.lt_num.specs.Divisors.{IsGcdOf}
use Rattle.lt_lp.proofs.Checked.{no_large_divisor}
use Rattle.lt_section.proofs.Lowering.{lowered_front, lowered_below, front_below}
use Rattle.lt_section.proofs.walls.lowered.Goals as goal

pub unreachable-requires : goal.unreachable-requires
unreachable-requires c =
    let w = c.args.wall.now in
    let e : c.as_mut_slice.result.now ≡ take c.args.count w = c.as_mut_slice.ensures.value ∙ c.front-at.ensures ∙ ap (take c.args.count) c.numbers.ensures.value in
    let large : IsGcdOf (take c.args.count w) 170141183460469231731687303715884105728 = rw e at c.in-Err.ensures.0 in
    no_large_divisor (take c.args.count w) (front_below c.args.count (2 ^ 62) w c.requires.below) large

pub returns-clause-lowered : goal.returns-clause-lowered
returns-clause-lowered c =
    lowered_front (take c.args.count c.args.wall.now) c.front-at.result.items c.as_mut_slice.result.now c.primitive.new.list c.in-Ok.field-0 (c.front-at.ensures ∙ ap (take c.args.count) c.numbers.ensures.value) c.as_mut_slice.ensures.value c.in-Ok.ensures

pub returns-clause-below : goal.returns-clause-below
returns-clause-below c =
    let w = c.args.wall.now in
    let l = lowered_front (take c.args.count w) c.front-at.result.items c.as_mut_slice.result.now c.primitive.new.list c.in-Ok.field-0 (c.front-at.ensures ∙ ap (take c.args.count) c.numbers.ensures.value) c.as_mut_slice.ensures.value c.in-Ok.ensures in
    lowered_below (2 ^ 62) (take c.args.count w) (refill (length c.front-at.result.items) c.front-at.result.items c.primitive.new.list) l (front_below c.args.count (2 ^ 62) w c.requires.below)
