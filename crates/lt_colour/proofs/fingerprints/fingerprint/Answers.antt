use Rattle.std.proofs.Common.{◌∙◌, ap}
use Rattle.std.proofs.lemmas.Result.{IfOk-weaker}
use Rattle.lt_model.specs.Flat.{flat}
use Rattle.lt_triang.specs.Kept.{dimension_of}
use Rattle.lt_colour.specs.Signatures.{IsFingerprint}
use Rattle.lt_colour.proofs.fingerprints.fingerprint.Goals as goal

pub returns : goal.returns
returns c =
    let t = c.args.t.now in
    IfOk-weaker c.joined.result _ (λ f. IsFingerprint (dimension_of t) t f.items)
    (λ f e. record {
      classes = c.in_ok-short_class_signatures.field-0.items;
      signatures = c.in_ok-short_class_signatures.ensures;
      ascending = c.sorted-ascending.result.items;
      in_order = record { permutation = c.sorted-ascending.ensures.permutation; ascending = c.sorted-ascending.ensures.ascending };
      is = e ∙ ap flat c.as_slice.ensures.value;
    })
    c.joined.ensures
