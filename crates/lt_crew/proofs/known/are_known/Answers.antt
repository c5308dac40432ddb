use Rattle.std.proofs.Common.{◌≡◌, ◌<◌, ◌∙◌, ap, sym, arith, length, map, get_or, []}
use Rattle.std.proofs.lemmas.List.{get_or-map, length-map}
use Rattle.std.specs.Arc.{arc_value}
use Rattle.lt_model.specs.Atlases.{Entry}
use Rattle.lt_crew.proofs.Standing.{one_known}
use Rattle.lt_crew.proofs.known.are_known.Goals as goal

pub loop-from-preserved : goal.loop-from-preserved
loop-from-preserved c =
    let l = c.loop-from in
    let n : l.seen < length c.args.known.now = omega (arith, c.if-seen-known.false) in
    let m : length (map arc_value c.args.known.now) ≡ length c.args.known.now = length-map c.args.known.now arc_value in
    let here : get_or (map arc_value c.args.known.now) l.seen [] ≡ arc_value c.index-known-seen.result = get_or-map arc_value c.args.known.now l.seen c.index-known-seen.result [] n ∙ ap arc_value (sym c.index-known-seen.is) in
    let same = sym (ap (λ (z : Entry). z.triangulation) c.entry.ensures) ∙ c.eq-same.ensures.same.0 c.if-not-same.false ∙ c.deref.ensures in
    one_known c.args.atlas.now c.args.print.now (map arc_value c.args.known.now) l.from c.in-Some.k l.seen l.invariant c.in-Some.ensures.before (omega (arith, n, m)) (same ∙ sym here)
