use Rattle.std.proofs.Common.{arith, ◌≡◌, ◌<◌, map, get_or, length, ap, ◌∙◌, sym, pos, nat_abs}
use Rattle.std.proofs.lemmas.List.{length-map, get_or_default}
use Rattle.lt_model.specs.Vectors.{minus}
use Rattle.lt_lattice.proofs.Coordinates.{cast_difference}
use Rattle.lt_triang.proofs.Gaps.{widest_more, widest_all, get_or-map_at}
use Rattle.lt_lattice.proofs.Padded.{length-minus, get_or-minus}
use Rattle.lt_triang.proofs.spans.gap_of.Goals as goal

pub loop-k-preserved : goal.loop-k-preserved
loop-k-preserved c =
    let x = c.args.x.now in
    let y = c.args.y.now in
    let k = c.loop-k.k in
    let m = minus x y in
    let l = length-minus x y c.requires.same in
    let within : k < length m = omega (arith, l, c.loop-k-test.true) in
    let cast = cast_difference (get_or x k (pos 0)) (get_or y k (pos 0)) (c.requires.left k (pos 0) c.loop-k-test.true) (c.requires.right k (pos 0) (omega (arith, c.requires.same, c.loop-k-test.true))) in
    let here : c.unsigned_abs.result ≡ nat_abs (get_or m k (pos 0)) =
    c.unsigned_abs.ensures.value ∙ ap nat_abs (cast ∙ sym (get_or-minus k x y c.requires.same c.loop-k-test.true)) in
    let there : nat_abs (get_or m k (pos 0)) ≡ get_or (map nat_abs m) k 0 =
    get_or-map_at nat_abs m k (get_or m k (pos 0)) within (get_or_default m k (pos 0) (get_or m k (pos 0)) within) in
    let more = widest_more (map nat_abs m) k c.loop-k.widest c.unsigned_abs.result _ (omega (arith, within, length-map m nat_abs)) (here ∙ there) c.loop-k.invariant in
    rw c.max-widest.ensures more

pub returns : goal.returns
returns c =
    let m = minus c.args.x.now c.args.y.now in
    let l = length-minus c.args.x.now c.args.y.now c.requires.same in
    widest_all (map nat_abs m) c.loop-k.k c.loop-k.widest _ (omega (arith, length-map m nat_abs, l, c.loop-k-test.false)) c.loop-k.invariant
