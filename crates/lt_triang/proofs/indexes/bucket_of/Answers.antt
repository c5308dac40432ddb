use Rattle.std.proofs.Common.{rules, ◌≡◌, ◌∙◌, ◌*◌, ◌%◌, ap, length, get_or, [], w64, FitsSigned}
use Rattle.std.proofs.lemmas.Int.{to_z-of_z}
use Rattle.lt_model.specs.Facets.{without}
use Rattle.lt_triang.specs.Codes.{digits_of, facet_code, spread}
use Rattle.lt_triang.proofs.Coded.{facet_digits}
use Rattle.lt_triang.proofs.indexes.bucket_of.Goals as goal

pub returns-clause-value : goal.returns-clause-value
returns-clause-value c =
    let t = c.args.classes.now in
    let e : c.facet_code.result ≡ facet_code (without c.args.j (get_or t c.args.n [])) = c.facet_code.ensures ∙ ap (λ xs. digits_of (without c.args.j xs)) c.requires.codes ∙ facet_digits c.args.j (get_or t c.args.n []) in
    let x : FitsSigned w64 c.facet_code.result = search rules in
    let v = rw (to_z-of_z w64 _ x) at c.spread-code.ensures in
    ap (λ k. k % (4 * length t)) (v ∙ ap spread e)
