use Rattle.std.proofs.Common.{◌≡◌, arith, subst, sym, rules}
use Rattle.std.proofs.lemmas.Fmt.{parse-decimal}
use Rattle.lt_words.proofs.Decimals.{IsBare, bare_decimal, spelt_bare}
use Rattle.lt_words.proofs.numbers.number_of.Goals as goal

pub returns-then-not-is_bare-clause-none : goal.returns-then-not-is_bare-clause-none
returns-then-not-is_bare-clause-none c =
    λ n within e. let bare : IsBare c.args.word.now = subst IsBare (sym e) (bare_decimal n (omega (arith, within.1))) in let yes = c.is_bare.ensures.1 bare in let no = c.if-not-is_bare.true in cc

pub returns-in-Ok-clause-found : goal.returns-in-Ok-clause-found
returns-in-Ok-clause-found c =
    let bare : IsBare c.args.word.now = search rules in
    ((omega arith, omega arith), spelt_bare c.args.word.now c.in-Ok.n _ bare (omega arith) c.parse.ensures.value.0 c.in-Ok.is)

pub returns-in_default-clause-none : goal.returns-in_default-clause-none
returns-in_default-clause-none c =
    λ n within e. let read = parse-decimal 64 n _ _ (omega (arith, within.1)) (omega (arith, within.1)) e c.parse.ensures.value.0 in
    let is = c.in-Ok.is in
    let same : c.in-Ok.n ≡ n = cc in
    omega (arith, same, within.1)

pub returns-in_default-2-clause-none : goal.returns-in_default-2-clause-none
returns-in_default-2-clause-none c =
    λ n within e. let read = parse-decimal 64 n _ _ (omega (arith, within.1)) (omega (arith, within.1)) e c.parse.ensures.value.0 in
    let is = c.in-Ok.is in
    let same : c.in-Ok.n ≡ n = cc in
    omega (arith, same, within.0)

pub returns-in_default-3-clause-none : goal.returns-in_default-3-clause-none
returns-in_default-3-clause-none c =
    λ n within e. let read = parse-decimal 64 n _ _ (omega (arith, within.1)) (omega (arith, within.1)) e c.parse.ensures.value.0 in
    let is = c.in_default.is in
    cc
