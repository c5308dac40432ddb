use Rattle.std.proofs.Common.{◌≡◌, ◌∙◌, ◌+◌, ◌*◌, ◌^◌, ap, sym, subst, length, arith, set}
use Rattle.std.proofs.lemmas.Int.{ints, to_z-of_z}
use Rattle.std.proofs.lemmas.Nat.{mul-add-lt}
use mir.Val.{SFits, to_z, of_z}
use mir.Syntax.{w128}
use Rattle.std.specs.List.{All, refill}
use Rattle.lt_lattice.specs.Ranges.{IsBelow}
use Rattle.lt_model.specs.Flat.{flat}
use Rattle.lt_drill.specs.Scrambles.{factor}
use Rattle.lt_drill.proofs.Factors.{all_taken, length-identity, written, length-factor, factor_small}
use Rattle.lt_drill.proofs.scrambles.factor.Goals as goal
use Rattle.lt_drill.proofs.scrambles.factor.Goals.{After-as_slice}

pub bounds-deref_mut-i : goal.bounds-deref_mut-i
bounds-deref_mut-i c =
    let d = c.args.d in
    let all = ap length (c.deref_mut.ensures.value ∙ all_taken d c.loop-entry.entry-index c.numbers-entry-items.result.now c.loop-entry.numbers.items (c.numbers-entry-items.ensures.value ∙ c.identity.ensures) c.loop-entry.invariant c.loop-entry-test.false) ∙ length-identity d in
    omega (arith, all, mul-add-lt c.args.i d c.args.j d c.requires.row c.requires.column)

-- the numbers with one written over
made : (c : After-as_slice) → c.as_slice.result.now ≡ flat (factor c.args.d c.args.i c.args.j c.args.number)
made c =
    let items = c.loop-entry.numbers.items in
    let place = c.args.i * c.args.d + c.args.j in
    let fits : SFits w128 c.args.number = omega (arith, ints, c.requires.small) in
    let number = to_z-of_z w128 c.args.number fits in
    let value : c.as_slice.result.now ≡ refill (length items) items (set items place c.args.number) =
    c.as_slice.ensures.value ∙ ap (λ ws. refill (length items) items (set ws place (to_z w128 (of_z w128 c.args.number)))) c.deref_mut.ensures.value ∙ ap (λ z. refill (length items) items (set items place z)) number in
    written c.args.d c.args.i c.args.j c.args.number items c.as_slice.result.now c.requires.row c.requires.column (all_taken c.args.d c.loop-entry.entry-index c.numbers-entry-items.result.now items (c.numbers-entry-items.ensures.value ∙ c.identity.ensures) c.loop-entry.invariant c.loop-entry-test.false) value

pub of-requires-clause-count : goal.of-requires-clause-count
of-requires-clause-count c = ap length (made (goal.at.of-requires-clause-count c).After-as_slice) ∙ length-factor c.args.d c.args.i c.args.j c.args.number c.requires.row c.requires.column

pub of-requires-clause-below : goal.of-requires-clause-below
of-requires-clause-below c = subst (All (IsBelow (2 ^ 62))) (sym (made (goal.at.of-requires-clause-below c).After-as_slice)) (factor_small c.args.d c.args.i c.args.j c.args.number c.requires.row c.requires.column c.requires.small)

pub returns : goal.returns
returns c = c.of.ensures ∙ made (goal.at.returns c).After-as_slice
