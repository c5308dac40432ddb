use Rattle.std.proofs.Common.{ℕ, List, inl, refl, subst}
use Rattle.lt_text.specs.Texts.{atlas_text}
use Rattle.ltypes.specs.Merges.{IsMergedOf}
use Rattle.ltypes.proofs.merges.write_merge.Goals as goal

pub returns-in-Ok-write_atlas : goal.returns-in-Ok-write_atlas
returns-in-Ok-write_atlas g c =
    let a = c.in-Ok-merged.atlas in
    let bytes = c.in-Ok.bytes.items in
    let merged = subst (λ (z : List ℕ). IsMergedOf c.args.d z a) c.deref.ensures.value c.in-Ok-merged.ensures.merged in
    inl (atlas_text a, (bytes, a, c.in-Ok.ensures.read, merged, refl), c.in-Ok-write_atlas.ensures.bytes.whole)

pub returns : goal.returns
returns g c =
    let a = c.in-Ok-merged.atlas in
    let bytes = c.in-Ok.bytes.items in
    let e = c.in-Err-write_atlas.ensures in
    let merged = subst (λ (z : List ℕ). IsMergedOf c.args.d z a) c.deref.ensures.value c.in-Ok-merged.ensures.merged in
    inl (e.cause.failed, (atlas_text a, (bytes, a, c.in-Ok.ensures.read, merged, refl), e.bytes.front))
