use Rattle.std.proofs.Common.{arith, ◌≡◌, ◌-◌, get_or, negsuc, length, ap, ◌∙◌, ℤ, List, [], refl}
use Rattle.std.proofs.lemmas.List.{get_or_read}
use Rattle.lt_model.specs.Vectors.{scale}
use Rattle.lt_model.proofs.Squares.{length-scale}
use Rattle.lt_model.proofs.Points.{get_dimension}
use Rattle.lt_triang.proofs.Columned.{room}
use Rattle.lt_triang.proofs.vertices.differences.Goals as goal

pub push_differences-requires-clause-room : goal.push_differences-requires-clause-room
push_differences-requires-clause-room c =
    let ps = c.args.points.now in
    let d = length ps - 1 in
    let i = c.loop-i.i in
    let here : c.index-points-i.result ≡ get_or ps i [] = get_or_read ps i _ c.loop-i-test.true c.index-points-i.is [] in
    let long : length c.coords.result.now ≡ d = ap length (c.coords.ensures.value ∙ here) ∙ get_dimension d i ps [] c.requires.dimension c.loop-i-test.true in
    let q : List ℤ = scale (negsuc 0) (get_or ps 0 []) in
    let lq : length q ≡ d = length-scale (negsuc 0) (get_or ps 0 []) ∙ get_dimension d 0 ps [] c.requires.dimension (omega (arith, c.requires.low)) in
    room d i _ _ ps q c.loop-i.all.items (omega (arith, c.requires.low)) (omega (arith, c.requires.high)) c.requires.dimension lq long c.loop-i-test.true c.loop-i.invariant refl
