use Rattle.std.proofs.Common.{◌≡◌, ◌^◌, ◌∙◌, ap, subst, ℤ, List, length}
use Rattle.std.specs.List.{All}
use Rattle.lt_num.specs.Divisors.{IsGcdOf}
use Rattle.lt_lattice.specs.Ranges.{IsBelow}
use Rattle.lt_laws.specs.Sections.{restricted}
use Rattle.lt_section.specs.Filled.{filled}
use Rattle.lt_section.proofs.Restricted.{made_within, not_too_large, filled_of}
use Rattle.lt_section.proofs.restricting.restricted_normal.Goals as goal

pub unreachable-requires : goal.unreachable-requires
unreachable-requires c =
    let fs = c.args.forms.now in
    let n = c.args.regulator.now in
    let e : c.as_mut_slice.result.now ≡ restricted fs n = c.as_mut_slice.ensures.value ∙ c.values-numbers.ensures.value in
    let large : IsGcdOf (restricted fs n) 170141183460469231731687303715884105728 = rw e at c.in-Err.ensures.0 in
    not_too_large fs n c.requires.some c.requires.positive (subst (λ (x : List ℤ). All (IsBelow (2 ^ 80)) x) c.values-numbers.ensures.value c.values-numbers.ensures.below) large

pub filled_up-requires-clause-below : goal.filled_up-requires-clause-below
filled_up-requires-clause-below c =
    let m = made_within c.args.forms.now c.args.regulator.now c.values-numbers.result.items c.as_mut_slice.result.now c.primitive.new.list c.as_slice.result.now c.in-Ok.field-0 c.requires.some c.requires.positive c.values-numbers.ensures.value c.values-numbers.ensures.below c.as_mut_slice.ensures.value c.in-Ok.ensures c.as_slice.ensures.value in
    m.below

pub returns : goal.returns
returns c =
    let n = c.args.regulator.now in
    let m = made_within c.args.forms.now n c.values-numbers.result.items c.as_mut_slice.result.now c.primitive.new.list c.as_slice.result.now c.in-Ok.field-0 c.requires.some c.requires.positive c.values-numbers.ensures.value c.values-numbers.ensures.below c.as_mut_slice.ensures.value c.in-Ok.ensures c.as_slice.ensures.value in
    let e : c.filled_up.result ≡ filled (length n) c.as_slice.result.now = c.filled_up.ensures ∙ ap (λ (x : List ℤ). filled (length x) c.as_slice.result.now) c.numbers-count.ensures.value in
    filled_of c.args.forms.now n c.as_slice.result.now c.filled_up.result m e
