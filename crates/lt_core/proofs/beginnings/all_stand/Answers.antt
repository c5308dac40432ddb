use Rattle.std.proofs.Common.{◌≡◌, ◌<◌, [], length, get_or, map, arith, subst, sym, ◌∙◌}
use Rattle.std.proofs.lemmas.Bool.{false≢true}
use Rattle.std.proofs.lemmas.List.{length-map}
use Rattle.lt_core.specs.Beginnings.{AreStanding}
use Rattle.lt_core.specs.Marks.{mark_of, marks_of}
use Rattle.lt_core.proofs.Standing.{one_more, row_stands, row_length}
use Rattle.lt_core.proofs.beginnings.all_stand.Goals as goal

pub are_standing-requires : goal.are_standing-requires
are_standing-requires c =
    let k = c.loop-k.k in
    let here : k < length c.args.marks.now = c.loop-k-test.true in
    let there : k < length c.args.now.now = (let l = c.requires.rows in omega arith) in
    let f = c.requires.facets k here in
    let a = row_length c.args.marks.now k c.index-marks-k.result c.deref.result.now here c.index-marks-k.is c.deref.ensures.value in
    let b = row_length c.args.now.now k c.index-now-k.result c.deref-in-loop-k.result.now there c.index-now-k.is c.deref-in-loop-k.ensures.value in
    omega arith

pub returns-then-not-are_standing : goal.returns-then-not-are_standing
returns-then-not-are_standing c = (
  λ t. absurd (false≢true t),
  λ h.
      let k = c.loop-k.k in
      let here : k < length c.args.marks.now = c.loop-k-test.true in
      let there : k < length c.args.now.now = (let l = c.requires.rows in omega arith) in
      let l : length (marks_of c.args.marks.now) ≡ length c.args.marks.now = length-map c.args.marks.now (λ v. map mark_of v.items) in
      let s = row_stands c.args.marks.now c.args.now.now k c.index-marks-k.result c.index-now-k.result c.deref.result.now c.deref-in-loop-k.result.now here there c.index-marks-k.is c.index-now-k.is c.deref.ensures.value c.deref-in-loop-k.ensures.value in
      sym c.if-not-are_standing.true ∙ c.are_standing.ensures.1 (subst (λ X. X) (sym s) (h k (omega arith))),
)

pub loop-k-preserved : goal.loop-k-preserved
loop-k-preserved c =
    let k = c.loop-k.k in
    let here : k < length c.args.marks.now = c.loop-k-test.true in
    let there : k < length c.args.now.now = (let l = c.requires.rows in omega arith) in
    let s = row_stands c.args.marks.now c.args.now.now k c.index-marks-k.result c.index-now-k.result c.deref.result.now c.deref-in-loop-k.result.now here there c.index-marks-k.is c.index-now-k.is c.deref.ensures.value c.deref-in-loop-k.ensures.value in
    one_more (λ j. AreStanding (get_or (marks_of c.args.marks.now) j []) (get_or (marks_of c.args.now.now) j [])) k c.loop-k.invariant
    (subst (λ X. X) s (c.are_standing.ensures.0 c.if-not-are_standing.false))
