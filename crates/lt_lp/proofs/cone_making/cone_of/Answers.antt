use Rattle.std.proofs.Common.{◌≡◌, ◌∙◌, sym}
use Rattle.lt_model.specs.Forms.{numbers_of_form}
use Rattle.lt_lp.proofs.Extreme.{AreDistinct}
use Rattle.lt_lp.proofs.RowSums.{IsConeReady, cone_ready}
use Rattle.std.proofs.lemmas.Result.{err_from_is_err_and}
use Rattle.lt_lp.proofs.cone_making.cone_of.Goals as goal

pub rows_of-requires-clause-same : goal.rows_of-requires-clause-same
rows_of-requires-clause-same c = λ k x l. c.requires.lengths k x l ∙ sym (c.requires.lengths 0 _ c.requires.some)

pub returns-in_err-rows-clause-heavy : goal.returns-in_err-rows-clause-heavy
returns-in_err-rows-clause-heavy c =
    let p = err_from_is_err_and c.from_residual.result c.from_residual.ensures.1 in
    let same : p.0 ≡ c.in_err-rows.field-0.0 = p.2 in
    rw (p.1, same) (c.in_err-rows.ensures.heavy c.args.d c.requires.lengths)

ready : (c : goal.After-as_slice) → IsConeReady c.args.d c.in_ok-rows.rows.items
ready c =
    let d = c.args.d in
    let ns = c.args.normals.now in
    let dis : AreDistinct (numbers_of_form d) c.requires.positive.0 ns = record { lengths = c.requires.lengths; positive = c.requires.positive.1; rays = c.requires.rays } in
    cone_ready d c.requires.positive.0 ns c.in_ok-rows.rows.items c.requires.low dis c.requires.some c.requires.few c.in_ok-rows.ensures.normals (c.in_ok-rows.ensures.right d c.requires.lengths)

pub form_of-form-requires-clause-few : goal.form_of-form-requires-clause-few
form_of-form-requires-clause-few c = rw (c.as_slice.ensures.value) (ready c).few

pub form_of-form-requires-clause-walls : goal.form_of-form-requires-clause-walls
form_of-form-requires-clause-walls c = rw (c.as_slice.ensures.value) (ready c).walls

pub form_of-form-requires-clause-some : goal.form_of-form-requires-clause-some
form_of-form-requires-clause-some c = rw (c.as_slice.ensures.value) (ready c).some

pub returns-clause-right : goal.returns-clause-right
returns-clause-right c = record {
  names = c.in_ok-rows.ensures.normals;
  verdicts = c.in_ok-rows.ensures.right c.args.d c.requires.lengths;
  light = c.in_ok-rows.ensures.light c.args.d c.requires.lengths c.requires.some;
  form = rw (← c.as_slice.ensures.value) c.form_of-form.ensures;
}
