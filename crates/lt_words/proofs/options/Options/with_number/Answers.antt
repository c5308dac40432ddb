use Rattle.std.proofs.Common.{◌≡◌, None, sym, subst}
use Rattle.lt_words.specs.declared.options.Setting.TheVariants.{Workers, Steps}
use Rattle.lt_words.specs.Rests.{named, TakesNumber}
use Rattle.lt_words.proofs.Steps.{with_number, takes_number}
use Rattle.lt_words.proofs.options.Options.with_number.Goals as goal

pub returns-in-Workers-clause-read : goal.returns-in-Workers-clause-read
returns-in-Workers-clause-read c =
    let o = c.args.self in
    let n = c.args.n in
    subst (λ s. TakesNumber o s n (with_number o Workers n)) (sym c.in-Workers.is)
    (takes_number o Workers n (subst (λ s. named o s ≡ None) c.in-Workers.is c.requires.new) c.requires.open)

pub returns-in-Steps-clause-read : goal.returns-in-Steps-clause-read
returns-in-Steps-clause-read c =
    let o = c.args.self in
    let n = c.args.n in
    subst (λ s. TakesNumber o s n (with_number o Steps n)) (sym c.in-Steps.is)
    (takes_number o Steps n (subst (λ s. named o s ≡ None) c.in-Steps.is c.requires.new) c.requires.open)
