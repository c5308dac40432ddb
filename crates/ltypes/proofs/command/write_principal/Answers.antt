use Rattle.std.proofs.Common.{◌∙◌, ap, List, ℤ}
use Rattle.ltypes.specs.Texts.{type_text}
use Rattle.ltypes.proofs.command.write_principal.Goals as goal

pub returns : goal.returns
returns g c =
    let same = ap (λ (f : List ℤ). type_text c.args.d f c.in-Ok.triangulation) (c.numbers.ensures.value ∙ c.principal_form-form.ensures) in
    let text = type_text c.args.d c.numbers.result.now c.in-Ok.triangulation in
    record { answer = (c.in-Err-write_type.ensures.cause.failed, (text, (c.in-Ok.triangulation, c.in-Ok.ensures.principal, same), c.in-Err-write_type.ensures.bytes.front)) }
