use Rattle.std.proofs.Common.{sym, subst, ◌∙◌}
use Rattle.lt_words.specs.Rests.{IsInLimit}
use Rattle.lt_words.proofs.Spellings.{same_number}
use Rattle.lt_words.proofs.Goings.{goes_number, stops_at_number, stops_at_none}
use Rattle.lt_words.proofs.options.Options.with_word.Goals as goal

pub returns-in_err-part_of-in-None-clause-stops : goal.returns-in_err-part_of-in-None-clause-stops
returns-in_err-part_of-in-None-clause-stops c = rw c.from_residual.ensures (stops_at_none c.args.self c.args.word.now c.in-None.is c.in_err-part_of-in-None.ensures.none)

pub returns-then-not-is_in_limit-clause-stops : goal.returns-then-not-is_in_limit-clause-stops
returns-then-not-is_in_limit-clause-stops c =
    let (range, is) = c.in_ok-n-in-Some.ensures.found in
    stops_at_number c.args.self c.in-Some.setting c.args.word.now c.in-Some.is
    (λ n r limit e. let same = same_number c.in-Some.setting n c.in_ok-n-in-Some.n r range (sym e ∙ is) in
    let yes = c.is_in_limit.ensures.1 (subst (IsInLimit c.args.self c.in-Some.setting) same limit) in
    let no = c.if-not-is_in_limit.true in
    cc)

pub returns-else-not-is_in_limit-clause-goes : goal.returns-else-not-is_in_limit-clause-goes
returns-else-not-is_in_limit-clause-goes c =
    let (range, is) = c.in_ok-n-in-Some.ensures.found in
    goes_number c.args.self c.with_number.result c.in-Some.setting c.in_ok-n-in-Some.n c.args.word.now c.in-Some.is c.with_number.ensures.due range is c.with_number.ensures.read
