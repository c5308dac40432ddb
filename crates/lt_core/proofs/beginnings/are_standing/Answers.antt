use Rattle.std.proofs.Common.{◌<◌, length, get_or, map, arith, subst, sym, ◌∙◌}
use Rattle.std.proofs.lemmas.Bool.{false≢true}
use Rattle.std.proofs.lemmas.List.{length-map}
use Rattle.lt_model.specs.Atlases.{no_mark}
use Rattle.lt_core.specs.Beginnings.{Stands}
use Rattle.lt_core.specs.Marks.{mark_of}
use Rattle.lt_core.proofs.Standing.{one_more, mark_stands}
use Rattle.lt_core.proofs.beginnings.are_standing.Goals as goal

pub returns-then-not-stands : goal.returns-then-not-stands
returns-then-not-stands c = (
  λ t. absurd (false≢true t),
  λ h.
      let i = c.loop-i.i in
      let here : i < length c.args.marks.now = c.loop-i-test.true in
      let there : i < length c.args.now.now = (let l = c.requires in omega arith) in
      let l = length-map c.args.marks.now mark_of in
      let s = mark_stands c.args.marks.now c.args.now.now i c.index-marks-i.result c.index-now-i.result here there c.index-marks-i.is c.index-now-i.is in
      sym c.if-not-stands.true ∙ c.stands.ensures.1 (subst (λ X. X) (sym s) (h i (omega arith))),
)

pub loop-i-preserved : goal.loop-i-preserved
loop-i-preserved c =
    let i = c.loop-i.i in
    let here : i < length c.args.marks.now = c.loop-i-test.true in
    let there : i < length c.args.now.now = (let l = c.requires in omega arith) in
    let s = mark_stands c.args.marks.now c.args.now.now i c.index-marks-i.result c.index-now-i.result here there c.index-marks-i.is c.index-now-i.is in
    one_more (λ f. Stands (get_or (map mark_of c.args.marks.now) f no_mark) (get_or (map mark_of c.args.now.now) f no_mark)) i c.loop-i.invariant
    (subst (λ X. X) s (c.stands.ensures.0 c.if-not-stands.false))
