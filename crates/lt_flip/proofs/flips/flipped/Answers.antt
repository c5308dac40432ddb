use Rattle.std.proofs.Common.{◌≡◌, sym, subst, arith, length, List, ℕ, ℤ, []}
use Rattle.std.proofs.lemmas.Result.{IfOk-weaker}
use Rattle.lt_model.specs.Flips.{IsFlipOf}
use Rattle.lt_triang.specs.Kept.{dimension_of}
use Rattle.lt_flip.specs.Merged.{classes_at, AreMerged}
use Rattle.lt_flip.specs.Flipped.{AreParts}
use Rattle.lt_flip.proofs.Collected.{IsFlippable, no_parts, flip_from}
use Rattle.lt_flip.proofs.flips.flipped.Goals as goal

pub loop-class-init : goal.loop-class-init
loop-class-init c =
    let t = c.args.t.now in
    subst (λ (l : List ℕ). AreParts (dimension_of t) t c.args.facet.now 0 l c.new-made.result.items) (sym c.new-kept.ensures.items)
    (subst (λ (l : List (List (List ℤ))). AreParts (dimension_of t) t c.args.facet.now 0 [] l) (sym c.new-made.ensures.items) (no_parts (dimension_of t) t c.args.facet.now))

pub returns : goal.returns
returns c =
    let t = c.args.t.now in
    let d = dimension_of t in
    let kept = c.loop-class.kept.items in
    let made = c.loop-class.made.items in
    let k : IsFlippable d c.requires.delaunay.0 t c.args.facet.now = record { two = c.requires.low; delaunay = c.requires.delaunay.1; facet = c.requires.facet } in
    let end : c.loop-class.class ≡ length t = omega (arith, c.loop-class.auto.class-end, c.loop-class-test.false, c.len-class-end.ensures) in
    let parts : AreParts d t c.args.facet.now (length t) kept made = subst (λ m. AreParts d t c.args.facet.now m kept made) end c.loop-class.invariant in
    IfOk-weaker c.merged.result (λ all. AreMerged (classes_at t c.as_slice.result.now) c.as_slice-2.result.now all.items) (λ all. IsFlipOf d t c.args.facet.now all.items)
    (λ all h. flip_from d c.requires.delaunay.0 t c.args.facet.now kept made c.sorted_distinct-made.result.items all.items k parts c.sorted_distinct-made.ensures.members
    (subst (λ (l : List ℕ). AreMerged (classes_at t l) c.sorted_distinct-made.result.items all.items) c.as_slice.ensures.value
    (subst (λ (l : List (List (List ℤ))). AreMerged (classes_at t c.as_slice.result.now) l all.items) c.as_slice-2.ensures.value h)))
    c.merged.ensures
