use Rattle.std.proofs.Common.{◌≡◌, sym, ◌∙◌, ap, subst, arith, ◌<◌, inl, inr, ℕ, length, ◌*◌, IfSome, MatchOption}
use Rattle.std.proofs.lemmas.Bool.{cases_lt}
use Rattle.lt_model.specs.Flat.{rows}
use Rattle.lt_model.specs.Matrices.{AreEquivalent}
use Rattle.lt_model.specs.Atlases.{Classes, Entry, entry_at}
use Rattle.lt_triang.specs.Kept.{dimension_of, IsOfSomeForm}
use Rattle.lt_colour.specs.Signatures.{IsFingerprint}
use Rattle.lt_match.specs.Matches.{IsFirstMatch}
use Rattle.lt_crew.proofs.Places.{entry_dimension, entry_delaunay}
use Rattle.lt_crew.proofs.Beyond.{first_known, no_match}
use Rattle.lt_crew.proofs.Prints.{skipped}
use Rattle.lt_crew.proofs.settling.first_known.Goals as goal

pub returns-in-None-clause-none : goal.returns-in-None-clause-none
returns-in-None-clause-none c =
    let f = c.as_slice.result.now in
    let p : IsFingerprint (dimension_of c.args.t.now) c.args.t.now f = subst (λ z. IsFingerprint (dimension_of c.args.t.now) c.args.t.now z) (sym c.as_slice.ensures.value) c.in_ok-print.ensures in
    skipped c.args.atlas.now c.keeps.ensures.low c.keeps.ensures.kept c.args.t.now c.requires f p c.loop-from.from (length c.args.atlas.now.entries) (omega arith) c.loop-from.invariant.1 c.in-None.ensures.none

pub match_types-requires-clause-same : goal.match_types-requires-clause-same
match_types-requires-clause-same c =
    let same = ap (λ (z : Entry). z.triangulation) c.entry.ensures in
    ap dimension_of same ∙ entry_dimension c.args.atlas.now c.keeps.ensures.low c.keeps.ensures.kept c.in-Some.k c.in-Some.ensures.found.1 ∙ sym c.requires.dimension

pub match_types-requires-clause-delaunay_too : goal.match_types-requires-clause-delaunay_too
match_types-requires-clause-delaunay_too c =
    let same = ap (λ (z : Entry). z.triangulation) c.entry.ensures in
    subst (λ (z : Classes). IsOfSomeForm z) (sym same) (entry_delaunay c.args.atlas.now c.keeps.ensures.low c.keeps.ensures.kept c.in-Some.k c.in-Some.ensures.found.1)

pub returns-in-Some-2-clause-found : goal.returns-in-Some-2-clause-found
returns-in-Some-2-clause-found c =
    let same = ap (λ (z : Entry). z.triangulation) c.entry.ensures in
    let l : c.in-Some.k < length c.args.atlas.now.entries = c.in-Some.ensures.found.1 in
    let f = c.as_slice.result.now in
    let p : IsFingerprint (dimension_of c.args.t.now) c.args.t.now f = subst (λ z. IsFingerprint (dimension_of c.args.t.now) c.args.t.now z) (sym c.as_slice.ensures.value) c.in_ok-print.ensures in
    let before = skipped c.args.atlas.now c.keeps.ensures.low c.keeps.ensures.kept c.args.t.now c.requires f p c.loop-from.from c.in-Some.k (omega (arith, l)) c.loop-from.invariant.1 c.in-Some.ensures.before in
    first_known c.args.atlas.now c.args.t.now c.entry.result.now.triangulation c.in-Some.k c.in-Some-2.u c.keeps.ensures.low c.keeps.ensures.high c.requires l same (subst (λ r. IfSome r (λ u. length u ≡ dimension_of c.args.t.now * dimension_of c.args.t.now)) c.in-Some-2.is c.in_ok-u.ensures.size) (subst (λ r. MatchOption r (AreEquivalent (dimension_of c.args.t.now) c.args.t.now c.entry.result.now.triangulation → ⊥) (λ u. IsFirstMatch (dimension_of c.args.t.now) c.args.t.now c.entry.result.now.triangulation (rows (dimension_of c.args.t.now) u))) c.in-Some-2.is c.in_ok-u.ensures.first) before

pub loop-from-preserved : goal.loop-from-preserved
loop-from-preserved c =
    let same = ap (λ (z : Entry). z.triangulation) c.entry.ensures in
    let l : c.in-Some.k < length c.args.atlas.now.entries = c.in-Some.ensures.found.1 in
    let f = c.as_slice.result.now in
    let p : IsFingerprint (dimension_of c.args.t.now) c.args.t.now f = subst (λ z. IsFingerprint (dimension_of c.args.t.now) c.args.t.now z) (sym c.as_slice.ensures.value) c.in_ok-print.ensures in
    let before = skipped c.args.atlas.now c.keeps.ensures.low c.keeps.ensures.kept c.args.t.now c.requires f p c.loop-from.from c.in-Some.k (omega (arith, l)) c.loop-from.invariant.1 c.in-Some.ensures.before in
    let none = no_match c.args.atlas.now c.args.t.now c.entry.result.now.triangulation c.in-Some.k c.requires same (subst (λ r. MatchOption r (AreEquivalent (dimension_of c.args.t.now) c.args.t.now c.entry.result.now.triangulation → ⊥) (λ u. IsFirstMatch (dimension_of c.args.t.now) c.args.t.now c.entry.result.now.triangulation (rows (dimension_of c.args.t.now) u))) c.in-None-2.is c.in_ok-u.ensures.first) in (
      omega (arith, l),
      λ i h. elim (cases_lt i c.in-Some.k) [
        | inl less ↦ before i less
        | inr more ↦ (
            let e : i ≡ c.in-Some.k = omega (arith, h, more) in
            subst (λ (z : ℕ). AreEquivalent c.args.atlas.now.dimension c.args.t.now (entry_at c.args.atlas.now.entries z).triangulation → ⊥) (sym e) none
            )
      ],
    )

pub returns-clause-none : goal.returns-clause-none
returns-clause-none c = λ i l. c.loop-from.invariant.1 i (omega (arith, l, c.loop-from-test.false, c.entries.ensures))
