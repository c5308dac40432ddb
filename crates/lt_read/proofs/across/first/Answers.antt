use Rattle.std.proofs.Common.{◌∙◌, map, sym, ap}
use Rattle.std.proofs.lemmas.Bool.{both_ways}
use Rattle.lt_core.proofs.Reaching.{one_principal}
use Rattle.lt_model.specs.Principal.{principal_numbers}
use Rattle.lt_text.specs.Texts.{class_numbers}
use Rattle.lt_text.specs.Values.{listed}
use Rattle.lt_triang.proofs.SomeForm.{delaunay_dimension, some_form}
use Rattle.lt_read.proofs.across.first.Goals as goal

pub returns-clause-form : goal.returns-clause-form
returns-clause-form c =
    let d = c.args.d in
    let q = principal_numbers d in
    record { dimension = sym (delaunay_dimension d q c.in-Ok.t c.in-Ok.ensures.delaunay); delaunay = some_form d q c.in-Ok.t c.in-Ok.ensures.delaunay }

pub returns-then-not-lists-clause-why : goal.returns-then-not-lists-clause-why
returns-then-not-lists-clause-why c t p l =
    let is = one_principal c.args.d t c.in-Ok.t p c.in-Ok.ensures.principal in
    both_ways c.lists.result c.if-not-lists.true (c.lists.ensures.1 (ap (λ z. map class_numbers (listed c.args.version z)) (c.classes.ensures ∙ sym is) ∙ l))
