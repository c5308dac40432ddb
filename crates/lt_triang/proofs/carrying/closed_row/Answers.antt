use Rattle.std.proofs.Common.{◌∙◌, ap, Err, get_or, []}
use Rattle.std.proofs.lemmas.List.Elements.{Contains-get_or}
use Rattle.lt_triang.specs.Across.{IsFirstOpenOf}
use Rattle.lt_triang.proofs.Made.{not_open}
use Rattle.lt_triang.proofs.carrying.closed_row.Goals as goal

pub unreachable-requires : goal.unreachable-requires
unreachable-requires c =
    let t = c.args.classes.now in
    let s = get_or t c.args.n [] in
    let i = c.in-Err-OpenFacet.field-0-1 in
    let f : IsFirstOpenOf c.args.d t s i =
    (c.row_of.ensures.«open» c.in-Err-OpenFacet.field-0-0 i (c.in-Err-OpenFacet.is ∙ ap Err c.in-Err-OpenFacet.field-0-is)).1 in
    not_open c.args.d t s i c.requires.triangulation (Contains-get_or t c.args.n [] c.requires.class) f.place (λ m j g l. f.none m j g l)
