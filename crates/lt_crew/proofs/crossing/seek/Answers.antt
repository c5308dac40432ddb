use Rattle.std.proofs.Common.{◌≡◌, ◌*◌, ◌∙◌, sym, ap, subst, length, IfSome, MatchOption, refl, ◌++◌, ◌∷◌, []}
use Rattle.lt_model.specs.Atlases.{Classes}
use Rattle.lt_model.specs.Flat.{rows}
use Rattle.lt_model.specs.Matrices.{AreEquivalent}
use Rattle.lt_core.specs.Marks.{matrix_rows}
use Rattle.lt_triang.specs.Kept.{dimension_of}
use Rattle.lt_match.specs.Matches.{IsFirstMatch}
use Rattle.lt_crew.proofs.Standing.{same_dimension, match_first, test_same, test_more}
use Rattle.lt_crew.proofs.crossing.seek.Goals as goal

pub match_types-requires-clause-same : goal.match_types-requires-clause-same
match_types-requires-clause-same g c =
    ap dimension_of (c.deref-then-dimension.ensures ∙ sym c.deref.ensures) ∙ same_dimension _ _ c.deref.result.now c.args.beyond.now c.dimension.ensures c.dimension-in-seeks.ensures c.if-dimension.true

pub returns-in-Some-2-clause-found : goal.returns-in-Some-2-clause-found
returns-in-Some-2-clause-found g c =
    let t = c.args.beyond.now in
    let image = c.deref-then-dimension.result.now in
    let first = match_first c.dimension-in-seeks.result t image c.in-Some-2.matrix c.dimension-in-seeks.ensures
    (subst (λ r. IfSome r (λ u. length u ≡ dimension_of t * dimension_of t)) c.in-Some-2.is c.in_ok-matrix.ensures.size)
    (subst (λ r. MatchOption r (AreEquivalent (dimension_of t) t image → ⊥) (λ u. IsFirstMatch (dimension_of t) t image (rows (dimension_of t) u))) c.in-Some-2.is c.in_ok-matrix.ensures.first) in
    subst (λ (z : Classes). IsFirstMatch (dimension_of t) t z (matrix_rows c.in-Some-2.matrix)) c.deref-then-dimension.ensures first

pub returns-in_err-reserve-clause-kept : goal.returns-in_err-reserve-clause-kept
returns-in_err-reserve-clause-kept g c = test_same c.args.beyond.now c.seeks.test (record { print = c.seeks.test.print; known = c.reserve.new.self; tested = c.seeks.test.tested }) refl c.reserve.ensures.items c.seeks.invariant

pub returns-in_err-matrix-clause-kept : goal.returns-in_err-matrix-clause-kept
returns-in_err-matrix-clause-kept g c = test_same c.args.beyond.now c.seeks.test (record { print = c.seeks.test.print; known = c.reserve.new.self; tested = c.seeks.test.tested }) refl c.reserve.ensures.items c.seeks.invariant

pub returns-in-Some-2-clause-kept : goal.returns-in-Some-2-clause-kept
returns-in-Some-2-clause-kept g c = test_same c.args.beyond.now c.seeks.test (record { print = c.seeks.test.print; known = c.reserve.new.self; tested = c.seeks.test.tested }) refl c.reserve.ensures.items c.seeks.invariant

pub seeks-preserved-in-None-2 : goal.seeks-preserved-in-None-2
seeks-preserved-in-None-2 g c =
    let t = c.args.beyond.now in
    let known = c.in-Some-next.known.1 in
    let image = c.deref-then-dimension.result.now in
    let none : AreEquivalent (dimension_of t) t image → ⊥ = subst (λ r. MatchOption r (AreEquivalent (dimension_of t) t image → ⊥) (λ u. IsFirstMatch (dimension_of t) t image (rows (dimension_of t) u))) c.in-None-2.is c.in_ok-matrix.ensures.first in
    test_more t known c.seeks.test (record { print = c.seeks.test.print; known = c.push_reserved.new.self; tested = c.seeks.test.tested }) refl
    (c.push_reserved.ensures.items ∙ ap (λ z. z ++ known ∷ []) c.reserve.ensures.items) c.seeks.invariant
    (λ e. none (subst (λ (z : Classes). AreEquivalent (dimension_of t) t z) (sym c.deref-then-dimension.ensures) e))
