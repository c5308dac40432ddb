use Rattle.std.proofs.Common.{arith, ◌≡◌, ◌<◌, ◌≤◌, ◌+◌, ◌-◌, ◌∙◌, ◌++◌, ◌∷◌, [], ℕ, suc, List, length, subst, ap, inl, inr}
use Rattle.std.proofs.lemmas.Bool.{cases_lt}
use Rattle.std.proofs.lemmas.List.{length-append}
use Rattle.std.specs.List.{Contains}
use Rattle.lt_model.specs.Flat.{rows}
use Rattle.lt_match.specs.Matches.{IsBeginning, IsFirstOrder}
use Rattle.lt_match.proofs.Beginnings.{HasNoneFrom, whole_order, beginning_more, none_twice, none_signed, none_from, found_more, leaf}
use Rattle.lt_match.proofs.matching.+search.Goals.{then-may_follow+in-None, else-may_follow}
use Rattle.lt_match.proofs.matching.+search.Goals as goal

full : (d n : ℕ) → d < n → n ≤ suc d → n ≡ suc d
full d n h k = omega arith

pub attempt-requires-clause-order : goal.attempt-requires-clause-order
attempt-requires-clause-order t c = whole_order (suc c.args.d) c.args.chosen.now c.requires.chosen (full c.args.d (length c.args.chosen.now) c.if-chosen-d.true c.requires.chosen.few)

pub returns-then-chosen-d : goal.returns-then-chosen-d
returns-then-chosen-d t c = leaf c.args.d c.args.from.now c.args.to.now c.args.s.now c.args.chosen.now c.attempt.result (full c.args.d (length c.args.chosen.now) c.if-chosen-d.true c.requires.chosen.few) c.attempt.ensures

pub search-requires : goal.search-requires
search-requires t c =
    let chosen = c.args.chosen.now in
    let k = c.loop-k.k in
    let new : Contains chosen k → ⊥ = c.may_follow.ensures.yes c.if-may_follow.true in
    let is : c.as_slice.result.now ≡ chosen ++ k ∷ [] = c.as_slice.ensures.value ∙ c.with_last-longer.ensures in
    let more : IsBeginning (suc c.args.d) c.as_slice.result.now = rw is (beginning_more (suc c.args.d) chosen k c.requires.chosen (omega (arith, c.if-chosen-d.false)) (omega (arith, c.loop-k-test.true)) new) in
    let long : length c.as_slice.result.now ≡ length chosen + 1 = ap length is ∙ length-append chosen (k ∷ []) in
    let now : suc c.args.d - length chosen ≡ t = c.decreases in
    let falls : suc c.args.d - length c.as_slice.result.now < t = omega (arith, now, long, c.if-chosen-d.false) in
    (falls, (c.requires.origin, (c.requires.target, (c.requires.count, (c.requires.basis, (c.requires.member, (c.requires.signed, more)))))))

pub returns-in-Some : goal.returns-in-Some
returns-in-Some t c =
    let chosen = c.args.chosen.now in
    let is : c.as_slice.result.now ≡ chosen ++ c.loop-k.k ∷ [] = c.as_slice.ensures.value ∙ c.with_last-longer.ensures in
    let first : IsFirstOrder c.args.d c.args.from.now c.args.to.now c.args.s.now (chosen ++ c.loop-k.k ∷ []) (rows c.args.d c.in-Some.u) = subst (λ (l : List ℕ). IsFirstOrder c.args.d c.args.from.now c.args.to.now c.args.s.now l (rows c.args.d c.in-Some.u)) is c.in-Some.ensures.1 in
    (c.in-Some.ensures.0, found_more c.args.d c.args.from.now c.args.to.now c.args.s.now chosen c.loop-k.k (rows c.args.d c.in-Some.u) c.loop-k.invariant first)

pub loop-k-preserved : goal.loop-k-preserved
loop-k-preserved t c =
    let d = c.args.d in
    let from = c.args.from.now in
    let to = c.args.to.now in
    let s = c.args.s.now in
    let chosen = c.args.chosen.now in
    let k = c.loop-k.k in
    let here : HasNoneFrom d from to s (chosen ++ k ∷ []) =
    elim c.if-may_follow.branch [
      | then-may_follow+in-None w ↦ let is : w.as_slice.result.now ≡ chosen ++ k ∷ [] = w.as_slice.ensures.value ∙ w.with_last-longer.ensures in subst (HasNoneFrom d from to s) is w.in-None.ensures
      | else-may_follow w ↦ elim (c.may_follow.ensures.no w.if-may_follow.false) [
        | inl twice ↦ none_twice d from to s chosen k (omega (arith, c.if-chosen-d.false)) twice
        | inr other ↦ none_signed d from to s chosen c.args.own.now c.args.facets.now k c.requires.signed (omega (arith, c.if-chosen-d.false)) other
      ]
    ]
    in
    λ j h. elim (cases_lt j k) [
      | inl l ↦ c.loop-k.invariant j l
      | inr g ↦ let e : k ≡ j = omega arith in subst (λ (i : ℕ). HasNoneFrom d from to s (chosen ++ i ∷ [])) e here
    ]

pub returns : goal.returns
returns t c = none_from c.args.d c.args.from.now c.args.to.now c.args.s.now c.args.chosen.now (omega (arith, c.if-chosen-d.false)) (λ k h. c.loop-k.invariant k (omega (arith, h, c.loop-k-test.false)))
