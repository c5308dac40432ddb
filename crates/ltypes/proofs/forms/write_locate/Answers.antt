use Rattle.std.proofs.Common.{inl, refl}
use Rattle.lt_triang.specs.Kept.{dimension_of}
use Rattle.ltypes.specs.Forms.{locate_text}
use Rattle.ltypes.proofs.forms.write_locate.Goals as goal

pub returns : goal.returns
returns g c =
    let l = c.in-Ok.located in
    let e = c.in-Err-write_located.ensures in
    inl (e.cause.failed, (locate_text l.crossed l.triangulation, (dimension_of l.triangulation, l.crossed, l.triangulation, c.in-Ok.ensures.found, refl), e.bytes.front))
