use Rattle.std.proofs.Common.{◌≡◌, ◌+◌, ◌∷◌, ◌++◌, [], ◌∙◌, sym, subst, arith, length, get_or, List, ℤ}
use Rattle.std.proofs.lemmas.List.{get_or_default}
use Rattle.lt_flip.specs.Merged.{classes_at, AreMergedBelow}
use Rattle.lt_flip.proofs.Merged.{class_at, count_at, none_merged, first_more, all_merged}
use Rattle.lt_flip.proofs.merging.merged.Goals as goal

pub loop-next-init : goal.loop-next-init
loop-next-init c =
    let xs = classes_at c.args.t.now c.args.kept.now in
    subst (λ (l : List (List (List ℤ))). AreMergedBelow xs c.args.made.now 0 0 l) (sym c.in_ok-all.ensures.items) (none_merged xs c.args.made.now)

pub loop-next-preserved : goal.loop-next-preserved
loop-next-preserved c =
    let xs = classes_at c.args.t.now c.args.kept.now in
    let pushed : c.copy.result ≡ get_or c.args.made.now c.loop-next.next [] = c.copy.ensures ∙ c.index-made-next.is ∙ get_or_default c.args.made.now c.loop-next.next c.index-made-next.result [] c.loop-next-test.true in
    subst (λ (l : List (List (List ℤ))). AreMergedBelow xs c.args.made.now c.in_ok-from.from (c.loop-next.next + 1) l) (sym {A = List (List (List ℤ))} c.in_ok-push.ensures.items)
    (subst (λ (s : List (List ℤ)). AreMergedBelow xs c.args.made.now c.in_ok-from.from (c.loop-next.next + 1) (c.push_below.new.all.items ++ s ∷ [])) (sym pushed) c.in_ok-from.ensures)

pub loop-place-init : goal.loop-place-init
loop-place-init c =
    let end : c.loop-next.next ≡ length c.args.made.now = omega (arith, c.loop-next.invariant.second, c.loop-next-test.false) in
    subst (λ k. AreMergedBelow (classes_at c.args.t.now c.args.kept.now) c.args.made.now c.loop-next.from k c.loop-next.all.items) end c.loop-next.invariant

pub loop-place-preserved : goal.loop-place-preserved
loop-place-preserved c =
    let xs = classes_at c.args.t.now c.args.kept.now in
    let k = length c.args.made.now in
    let pushed : c.copy-in-loop-place.result ≡ get_or xs c.loop-place.place [] = c.copy-in-loop-place.ensures ∙ c.class.ensures ∙ class_at c.args.t.now c.args.kept.now c.loop-place.place c.loop-place-test.true in
    subst (λ (l : List (List (List ℤ))). AreMergedBelow xs c.args.made.now (c.loop-place.place + 1) k l) (sym {A = List (List (List ℤ))} c.in_ok-push-2.ensures.items)
    (subst (λ (s : List (List ℤ)). AreMergedBelow xs c.args.made.now (c.loop-place.place + 1) k (c.loop-place.all.items ++ s ∷ [])) (sym pushed)
    (first_more xs c.args.made.now c.loop-place.place k c.loop-place.all.items c.requires.kept (omega (arith, c.loop-place-test.true, count_at c.args.t.now c.args.kept.now)) (λ i p h. absurd (omega (arith, p, h))) c.loop-place.invariant))

pub returns : goal.returns
returns c =
    all_merged (classes_at c.args.t.now c.args.kept.now) c.args.made.now c.loop-place.place (length c.args.made.now) c.loop-place.all.items
    (omega (arith, c.loop-place-test.false, count_at c.args.t.now c.args.kept.now)) (omega arith) c.loop-place.invariant
