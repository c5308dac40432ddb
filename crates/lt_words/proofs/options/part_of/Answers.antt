use Rattle.std.proofs.Common.{sym, subst, ◌∙◌}
use Rattle.lt_words.specs.Grammar.{IsInSetting}
use Rattle.lt_words.proofs.Joins.{split_part, one_setting}
use Rattle.lt_words.proofs.options.part_of.Goals as goal

pub returns-in_err-setting-clause-none : goal.returns-in_err-setting-clause-none
returns-in_err-setting-clause-none c =
    rw c.from_residual.ensures (λ p q e. let (s, n, range, name, number) = split_part c.args.word.now c.split_once.result c.in-Some.name c.in-Some.number c.split_once.ensures.cases c.in-Some.is p q e in
    c.in_err-setting.ensures.none s name)

pub returns-in_err-n-clause-none : goal.returns-in_err-n-clause-none
returns-in_err-n-clause-none c =
    rw c.from_residual-in_err-n.ensures (λ p q e. let (s, n, range, name, number) = split_part c.args.word.now c.split_once.result c.in-Some.name c.in-Some.number c.split_once.ensures.cases c.in-Some.is p q e in
    let same = one_setting s c.in_ok-setting.setting (sym name ∙ c.in_ok-setting.ensures.found) in
    c.in_err-n.ensures.none n (subst (λ t. IsInSetting t n) same range) number)
