use Rattle.std.proofs.Common.{◌≡◌, sym, ◌∙◌, ap, subst, [], get_or}
use Rattle.std.proofs.lemmas.Bool.{false≢true, not-false, not-true}
use Rattle.std.specs.Cmp.Rules.{signed_items}
use Rattle.lt_model.specs.Cones.{Row, IsRightVerdict}
use Rattle.lt_lp.specs.Verdicts.{verdict_of}
use Rattle.lt_tableau.proofs.Turned.{get_or_any}
use Rattle.lt_cone.proofs.checks.is_row.Goals as goal

pub returns-then-ne : goal.returns-then-ne
returns-then-ne c = λ d h.
    let ns = c.args.normals.now in
    let k = c.args.k in
    let z : c.index-normals-k.result ≡ get_or ns k [] = c.index-normals-k.is ∙ get_or_any ns k _ [] c.requires.place in
    let n : c.row.inside.normal ≡ c.args.row.now.normal = ap (λ (r : Row). r.normal) c.row.view_is in (
      (λ t. absurd (false≢true t)),
      (λ p. absurd (false≢true (sym (not-true _ (sym c.if-ne.ensures)) ∙ (signed_items c.row.inside.normal c.index-normals-k.result).1 (n ∙ p.0 ∙ sym z)))),
    )

pub returns : goal.returns
returns c = λ d h.
    let ns = c.args.normals.now in
    let k = c.args.k in
    let z : c.index-normals-k.result ≡ get_or ns k [] = c.index-normals-k.is ∙ get_or_any ns k _ [] c.requires.place in
    let n : c.row.inside.normal ≡ c.args.row.now.normal = ap (λ (r : Row). r.normal) c.row.view_is in
    let v : verdict_of c.row.inside.verdict ≡ c.args.row.now.verdict = ap (λ (r : Row). r.verdict) c.row.view_is in
    let e : c.row.inside.normal ≡ c.index-normals-k.result = (signed_items c.row.inside.normal c.index-normals-k.result).0 (not-false _ (sym c.if-ne.ensures)) in (
      (λ t. (sym n ∙ e ∙ z, subst (IsRightVerdict d ns k) v ((c.check.ensures d h).0 t))),
      (λ p. (c.check.ensures d h).1 (subst (IsRightVerdict d ns k) (sym v) p.1)),
    )
