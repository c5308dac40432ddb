use Rattle.std.proofs.Common.{◌≡◌, ap, subst, None, rules, unwrap_or, []}
use Rattle.lt_words.specs.declared.words.Command.TheVariants.{Run}
use Rattle.lt_words.specs.Rests.{IsRest}
use Rattle.lt_words.proofs.Ends.{missing_dimension, plain, whole}
use Rattle.lt_words.proofs.options.Options.command.Goals as goal

pub returns-in_err-d-clause-missing : goal.returns-in_err-d-clause-missing
returns-in_err-d-clause-missing c =
    let due : c.args.self.due ≡ None = search rules in
    rw c.from_residual.ensures (missing_dimension c.args.self due c.in_err-d.was)

pub returns-clause-whole : goal.returns-clause-whole
returns-clause-whole c =
    let due : c.args.self.due ≡ None = search rules in
    let d = c.in_ok-d.d in
    let same : plain c.args.self ≡ Run d c.unwrap_or.result c.unwrap_or-2.result c.args.self.resume = let e : unwrap_or c.args.self.d 2 ≡ d = ap (λ m. unwrap_or m 2) c.in_ok-d.was in cc in
    subst (λ k. IsRest c.args.self k []) same (whole c.args.self d c.requires due c.in_ok-d.was)
