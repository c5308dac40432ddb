use Rattle.std.proofs.Common.{[], get_or, inl, refl}
use Rattle.lt_triang.specs.Kept.{dimension_of}
use Rattle.ltypes.specs.Forms.{cover_text}
use Rattle.ltypes.proofs.forms.write_cover.Goals as goal

pub returns : goal.returns
returns g c =
    let l = c.in-Ok.located in
    let v = c.in-Ok-covered.cover in
    let e = c.in-Err-write_covered.ensures in
    let told = c.in-Ok-covered.ensures in
    let text = cover_text l.crossed v.radius (get_or l.triangulation v.class []) in
    inl (e.cause.failed, (text, (dimension_of l.triangulation, l.crossed, l.triangulation, c.in-Ok.ensures.found, (v.radius, v.class, told.lowest, told.short, told.cover, refl)), e.bytes.front))
