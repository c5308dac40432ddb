use Rattle.std.proofs.Common.{arith, ◌≡◌, ◌<◌, ◌∙◌, ap, ℤ, List, [], map, get_or, length}
use Rattle.std.proofs.lemmas.List.{length-map, get_or_default}
use Rattle.lt_model.specs.Flat.{rows}
use Rattle.lt_triang.proofs.Gaps.{widest_more, get_or-map_at}
use Rattle.lt_match.specs.Wide.{told_span}
use Rattle.lt_match.proofs.transforms.widest_image.Goals as goal

pub loop-n-preserved : goal.loop-n-preserved
loop-n-preserved c =
    let t = c.args.t.now in
    let u : List (List ℤ) = rows c.args.d c.args.u.now in
    let hn : c.loop-n.n < length t = omega (arith, c.loop-n-test.true, c.len-n-end.ensures) in
    let here : c.image_span.result ≡ told_span u (get_or t c.loop-n.n []) = c.image_span.ensures ∙ ap (told_span u) (c.vertices.ensures ∙ c.class.ensures) in
    let there = get_or-map_at (told_span u) t c.loop-n.n (get_or t c.loop-n.n []) hn (get_or_default t c.loop-n.n [] _ hn) in
    let more = widest_more (map (told_span u) t) c.loop-n.n c.loop-n.widest c.image_span.result _ (omega (arith, hn, length-map t (told_span u))) (here ∙ there) c.loop-n.invariant in
    rw c.max-widest.ensures more
