use Rattle.std.proofs.Common.{arith, ◌≡◌, ◌<◌, [], length, get_or, subst, inl, inr}
use Rattle.std.proofs.lemmas.Bool.{cases_lt}
use Rattle.lt_match.proofs.Attempts.{class_within, first_class}
use Rattle.lt_match.proofs.Tested.{first_member}
use Rattle.lt_match.proofs.Firsts.{HasNone}
use Rattle.lt_match.proofs.matching.first_match.Goals as goal

pub basis_of-basis-requires-clause-near : goal.basis_of-basis-requires-clause-near
basis_of-basis-requires-clause-near c =
    rw (c.vertices.ensures, c.class.ensures) (class_within c.args.d c.args.from.now (get_or c.args.from.now 0 []) c.requires.origin (first_member c.args.d c.args.from.now c.requires.origin))

pub basis_of-basis-requires-clause-simplex : goal.basis_of-basis-requires-clause-simplex
basis_of-basis-requires-clause-simplex c = rw (c.vertices.ensures, c.class.ensures) (first_class c.args.d c.args.from.now c.requires.origin).simplex

pub basis_of-basis-requires-clause-first : goal.basis_of-basis-requires-clause-first
basis_of-basis-requires-clause-first c = rw (c.vertices.ensures, c.class.ensures) (first_class c.args.d c.args.from.now c.requires.origin).first

pub returns-in-Some : goal.returns-in-Some
returns-in-Some c =
    let within : c.loop-n.n < length c.args.to.now = omega (arith, c.loop-n-test.true, c.len-n-end.ensures) in
    (c.in-Some.ensures.0, record { member = c.loop-n.n; within = within; first = c.in-Some.ensures.1; earlier = c.loop-n.invariant })

pub loop-n-preserved : goal.loop-n-preserved
loop-n-preserved c =
    let none : HasNone c.args.d c.args.from.now c.args.to.now c.loop-n.n = c.in-None.ensures in
    λ i h. elim (cases_lt i c.loop-n.n) [
      | inl l ↦ c.loop-n.invariant i l
      | inr g ↦ let e : c.loop-n.n ≡ i = omega arith in subst (HasNone c.args.d c.args.from.now c.args.to.now) e none
    ]

pub returns : goal.returns
returns c = λ n h. c.loop-n.invariant n (omega (arith, h, c.loop-n-test.false, c.loop-n.auto.n-end, c.len-n-end.ensures))
