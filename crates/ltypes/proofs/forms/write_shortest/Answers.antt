use Rattle.std.proofs.Common.{inl, refl}
use Rattle.lt_triang.specs.Kept.{dimension_of}
use Rattle.ltypes.specs.Forms.{shortest_text}
use Rattle.ltypes.proofs.forms.write_shortest.Goals as goal

pub returns : goal.returns
returns g c =
    let l = c.in-Ok.located in
    let s = c.in-Ok-shortest.shortest in
    let e = c.in-Err-write_least.ensures in
    let text = shortest_text s.least s.vectors.items in
    inl (e.cause.failed, (text, (dimension_of l.triangulation, l.crossed, l.triangulation, c.in-Ok.ensures.found, (s.least, s.vectors.items, c.in-Ok-shortest.ensures.shortest, refl)), e.bytes.front))
