use Rattle.std.proofs.Common.{arith, add-one, ◌≡◌, ◌<◌, ◌^◌, sym, ◌∙◌, ap, length, get_or, List, []}
use Rattle.std.proofs.lemmas.List.{length-map}
use Rattle.lt_model.specs.Atlases.{Mark, count_in, one_if_crossed}
use Rattle.lt_core.specs.Marks.{mark_of}
use Rattle.lt_core.proofs.FewFacets.{few_marks}
use Rattle.ltypes.specs.Summaries.{one_for_each}
use Rattle.ltypes.proofs.Counts.{count_more, each_counts}
use Rattle.ltypes.proofs.totals.totals_of.Goals.{After-marks-marks}
use Rattle.ltypes.proofs.totals.totals_of.Goals as goal

row_is : (c : After-marks-marks) → length c.marks-marks.result.now ≡ length (get_or c.args.atlas.now.marks c.loop-k.k [])
row_is c = sym (length-map c.marks-marks.result.now mark_of) ∙ ap (length {A = Mark}) c.marks-marks.ensures

within : (c : After-marks-marks) → c.loop-k.k < length c.args.atlas.now.marks
within c = let lists = c.keeps.ensures.kept.right.parts.lists in omega (arith, lists)

few : (c : After-marks-marks) → length c.marks-marks.result.now < 2 ^ 32
few c =
    let a = c.args.atlas.now in
    let e = row_is c in
    let f = few_marks a.dimension a.entries a.marks c.keeps.ensures.low c.keeps.ensures.high c.keeps.ensures.kept.right.parts c.loop-k.k (within c) in
    omega (arith, e, f)

pub loop-k-preserved : goal.loop-k-preserved
loop-k-preserved c =
    let b = (goal.at.loop-k-preserved c).After-marks-marks in
    let a = c.args.atlas.now in
    let k = c.loop-k.k in
    let row : List Mark = get_or a.marks k [] in
    let all = count_more one_for_each a.marks k (within b) in
    let crossed = count_more one_if_crossed a.marks k (within b) in
    let each = each_counts row in
    let long = row_is b in
    let short = few b in
    let value : c.crossed_in-crossed.result ≡ count_in one_if_crossed row = c.crossed_in-crossed.ensures.value ∙ ap (count_in one_if_crossed) c.marks-marks.ensures in
    let most = c.crossed_in-crossed.ensures.within in
    let i = c.loop-k.invariant in
    record {
      facets = rw (add-one k) (let f = i.facets in omega (arith, all, each, long, f));
      crossed = rw (add-one k) (let f = i.crossed in omega (arith, crossed, value, f));
      few = let f = i.few in omega (arith, short, f);
      within = let f = i.within in omega (arith, most, f);
    }
