use Rattle.std.proofs.Common.{◌≡◌, ◌<◌, ◌+◌, ◌∷◌, ◌++◌, [], ◌∙◌, ap₂, sym, subst, arith, length, get_or, List, ℤ}
use Rattle.std.proofs.lemmas.List.{get_or_default}
use Rattle.lt_model.specs.Order.{simplex_cmp}
use Rattle.lt_flip.specs.Merged.{classes_at, AreMergedBelow}
use Rattle.lt_flip.proofs.Merged.{class_at, count_at, below_more, above_more, both_more, end_more}
use Rattle.lt_flip.proofs.merging.push_below.Goals.{After-cmp}
use Rattle.lt_flip.proofs.merging.push_below.Goals as goal

-- the kept class at the place is there
here : (c : After-cmp) → c.loop-place.place < length (classes_at c.args.t.now c.args.kept.now)
here c = omega (arith, c.loop-place-test.true, count_at c.args.t.now c.args.kept.now)

-- the two classes as they were compared
compared : (c : After-cmp) → simplex_cmp (get_or (classes_at c.args.t.now c.args.kept.now) c.loop-place.place []) (get_or c.args.made.now c.args.next []) ≡ c.cmp.result
compared c =
    let kept : c.vertices.result.now ≡ get_or (classes_at c.args.t.now c.args.kept.now) c.loop-place.place [] = c.vertices.ensures ∙ c.class-class.ensures ∙ class_at c.args.t.now c.args.kept.now c.loop-place.place c.loop-place-test.true in
    let made : c.vertices-in-loop-place.result.now ≡ get_or c.args.made.now c.args.next [] = c.vertices-in-loop-place.ensures ∙ c.index-made-next.is ∙ get_or_default c.args.made.now c.args.next c.index-made-next.result [] c.requires.next in
    sym (c.cmp.ensures ∙ ap₂ simplex_cmp kept made)

pub returns-in-Equal : goal.returns-in-Equal
returns-in-Equal c =
    let p = (goal.at.returns-in-Equal c).After-cmp in
    both_more (classes_at c.args.t.now c.args.kept.now) c.args.made.now c.loop-place.place c.args.next c.loop-place.all.items c.requires.kept c.requires.made (here p) c.requires.next (compared p ∙ c.in-Equal.is) c.loop-place.invariant

pub returns-in-Greater : goal.returns-in-Greater
returns-in-Greater c =
    let p = (goal.at.returns-in-Greater c).After-cmp in
    above_more (classes_at c.args.t.now c.args.kept.now) c.args.made.now c.loop-place.place c.args.next c.loop-place.all.items c.requires.kept c.requires.made c.requires.next (compared p ∙ c.in-Greater.is) c.loop-place.invariant

pub loop-place-preserved : goal.loop-place-preserved
loop-place-preserved c =
    let p = (goal.at.loop-place-preserved c).After-cmp in
    let xs = classes_at c.args.t.now c.args.kept.now in
    let pushed : c.copy.result ≡ get_or xs c.loop-place.place [] = c.copy.ensures ∙ c.class-class.ensures ∙ class_at c.args.t.now c.args.kept.now c.loop-place.place c.loop-place-test.true in
    subst (λ (l : List (List (List ℤ))). AreMergedBelow xs c.args.made.now (c.loop-place.place + 1) c.args.next l) (sym {A = List (List (List ℤ))} c.in_ok-push-in-Less.ensures.items)
    (subst (λ (s : List (List ℤ)). AreMergedBelow xs c.args.made.now (c.loop-place.place + 1) c.args.next (c.loop-place.all.items ++ s ∷ [])) (sym pushed)
    (below_more xs c.args.made.now c.loop-place.place c.args.next c.loop-place.all.items c.requires.kept c.requires.made (here p) (compared p ∙ c.in-Less.is) c.loop-place.invariant))

pub returns : goal.returns
returns c =
    let xs = classes_at c.args.t.now c.args.kept.now in
    let end : c.loop-place.place ≡ length c.args.kept.now = omega (arith, count_at c.args.t.now c.args.kept.now, c.loop-place.invariant.first, c.loop-place-test.false) in
    subst (λ m. AreMergedBelow xs c.args.made.now m (c.args.next + 1) (c.loop-place.all.items ++ get_or c.args.made.now c.args.next [] ∷ [])) end
    (end_more xs c.args.made.now c.loop-place.place c.args.next c.loop-place.all.items c.requires.made c.requires.next (omega (arith, end, count_at c.args.t.now c.args.kept.now)) c.loop-place.invariant)
