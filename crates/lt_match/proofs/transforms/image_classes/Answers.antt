use Rattle.std.proofs.Common.{arith, [], get_or}
use Rattle.std.proofs.lemmas.List.Elements.{Contains-get_or}
use Rattle.lt_model.specs.Flat.{rows}
use Rattle.lt_match.proofs.Spans.{told_at}
use Rattle.lt_match.proofs.transforms.image_classes.Goals as goal

pub image_class-requires-clause-class : goal.image_class-requires-clause-class
image_class-requires-clause-class c =
    let t = c.args.t.now in
    let hn = c.loop-n-test.true in
    rw (c.vertices.ensures, c.class.ensures) (c.requires.origin.classes (get_or t c.loop-n.n []) (Contains-get_or t c.loop-n.n [] (omega (arith, hn, c.len-n-end.ensures))))

pub image_class-requires-clause-near : goal.image_class-requires-clause-near
image_class-requires-clause-near c =
    rw (c.vertices.ensures, c.class.ensures) (told_at c.args.d c.loop-n.n (rows c.args.d c.args.u.now) c.args.t.now (omega (arith, c.loop-n-test.true, c.len-n-end.ensures)) c.requires.near)
