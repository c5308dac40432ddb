use Rattle.std.proofs.Common.{rules, arith, ◌≡◌, ◌<◌, ◌^◌, ◌∙◌, refl, ℤ, pos, [], get_or, map, drop, nat_abs}
use Rattle.std.proofs.lemmas.Int.{ints, to_z-of_z}
use mir.Val.{SFits}
use mir.Syntax.{w128}
use Rattle.lt_model.specs.Vectors.{dot}
use Rattle.lt_model.specs.Facets.{number_at}
use Rattle.lt_model.specs.Flat.{rows}
use Rattle.lt_lattice.proofs.Places.{length_row}
use Rattle.lt_solve.specs.Systems.{answer_limit}
use Rattle.lt_match.proofs.Entries.{row_below, entry_found}
use Rattle.lt_match.proofs.bases.entry.Goals as goal

pub sum_at-sum-requires-clause-terms : goal.sum_at-sum-requires-clause-terms
sum_at-sum-requires-clause-terms c =
    let b = c.requires.basis.1 in
    rw (c.terms_at.ensures, c.as_slice.ensures.value) (length_row c.args.d c.args.j c.args.basis.now.terms.items b.terms_count c.requires.column)

pub sum_at-sum-requires-clause-below : goal.sum_at-sum-requires-clause-below
sum_at-sum-requires-clause-below c =
    let b = c.requires.basis.1 in
    rw (c.terms_at.ensures, c.as_slice.ensures.value) (row_below answer_limit c.args.d c.args.j c.args.basis.now.terms.items c.requires.column b.below)

below_fits : (x : ℤ) → nat_abs x < 2 ^ 80 → SFits w128 x
below_fits x h = omega (arith, ints)

pub returns : goal.returns
returns c =
    let b = c.requires.basis.1 in
    let d = c.args.d in
    let scale = get_or c.args.basis.now.scales.items c.args.j (pos 0) in
    let fs : SFits w128 scale = below_fits scale (b.small c.args.j (pos 0) (omega (arith, b.count, c.requires.column))) in
    let fr : SFits w128 c.sum_at-sum.result = search rules in
    let sum : c.sum_at-sum.result ≡ dot (get_or (rows d c.args.basis.now.terms.items) c.args.j []) (map (number_at c.args.k) (drop 1 c.args.targets.now)) =
    c.sum_at-sum.ensures.value ∙ (rw (c.terms_at.ensures, c.as_slice.ensures.value) refl)
    in
    let told = rw (c.deref.ensures.0, to_z-of_z w128 scale fs, to_z-of_z w128 c.sum_at-sum.result fr) at c.exact_quotient.ensures in
    entry_found d c.args.basis.now.scales.items c.args.basis.now.terms.items c.args.targets.now c.args.k c.args.j scale c.sum_at-sum.result c.exact_quotient.result c.requires.few refl (b.great c.args.j c.requires.column) sum c.sum_at-sum.ensures.small told
