use Rattle.std.proofs.Common.{arith, rules, sym, subst, ℕ, ◌<◌, ◌^◌, ◌∙◌, ◌+◌}
use Rattle.lt_model.specs.Atlases as model
use Rattle.lt_core.specs.Marks.{matrix_rows}
use Rattle.lt_core.proofs.FewFacets.{few_marks}
use Rattle.lt_crew.specs.Settled.{IsFirstKnown}
use Rattle.lt_merge.specs.Merged.{IsMergedTo}
use Rattle.lt_merge.proofs.Advance.{passed_over, entry_ends}
use Rattle.lt_merge.proofs.Covered.{begin_dimension, still_same}
use Rattle.lt_merge.proofs.Placed.{entry_one}
use Rattle.lt_merge.proofs.turns.take_over_entry.Goals.{then-is_cross+in_ok-take_over, else-is_cross}
use Rattle.lt_merge.proofs.turns.take_over_entry.Goals as goal

pub overflow_cast-facet-end : goal.overflow_cast-facet-end
overflow_cast-facet-end c =
    let t = c.args.second.now in
    let parts = c.keeps.ensures.kept.right.parts in
    let lists = parts.lists in
    let few = few_marks t.dimension t.entries t.marks c.keeps.ensures.low c.keeps.ensures.high parts c.args.k (omega (arith, lists, c.requires.entry)) in
    let k : c.facets-facet-end.result < 2 ^ 32 = omega (arith, few, c.facets-facet-end.ensures) in
    search (rules, k)

pub loop-facet-preserved : goal.loop-facet-preserved
loop-facet-preserved c =
    let s = model.begin c.args.atlas.now in
    let t = c.args.second.now in
    let l = c.loop-facet in
    let end : ℕ × ℕ = (c.args.k, l.facet + 1) in
    let entry = (model.entry_at t.entries c.args.k).triangulation in
    elim c.if-is_cross.branch [
      | then-is_cross+in_ok-take_over w ↦ (record {
        merged = subst (λ (z : model.Atlas). IsMergedTo s t end z) (sym w.atlas-is) (subst (λ (z : model.Atlas). IsMergedTo z t end w.take_over.new.atlas) l.invariant.merged.begins w.in_ok-take_over.ensures.merged);
        placed = subst (λ (z : model.Atlas). IsFirstKnown z entry c.args.place (matrix_rows c.args.u.now)) (sym w.atlas-is) w.in_ok-take_over.ensures.placed;
      })
      | else-is_cross w ↦ (record {
        merged = subst (λ (z : model.Atlas). IsMergedTo s t end z) (sym w.atlas-is) (passed_over s t l.atlas c.args.k l.facet l.invariant.merged (λ x. let told = c.is_cross.ensures.1 (x.0, x.1, c.mark.ensures ∙ x.2) in let f = w.if-is_cross.false in cc));
        placed = subst (λ (z : model.Atlas). IsFirstKnown z entry c.args.place (matrix_rows c.args.u.now)) (sym w.atlas-is) l.invariant.placed;
      })
    ]

pub returns : goal.returns
returns c =
    let s = model.begin c.args.atlas.now in
    let t = c.args.second.now in
    let a = c.loop-facet.atlas in
    let h = c.loop-facet.invariant.merged in
    let same = still_same s a t h.begins (begin_dimension c.args.atlas.now ∙ c.requires.same) in
    entry_ends s t a c.args.k c.loop-facet.facet h (omega (arith, c.facets-facet-end.ensures, c.loop-facet-test.false)) c.args.place
    (entry_one a t same c.keeps.ensures.low c.keeps.ensures.kept c.args.k c.requires.entry h.kept c.args.place (matrix_rows c.args.u.now) c.loop-facet.invariant.placed)
