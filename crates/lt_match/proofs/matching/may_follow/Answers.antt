use Rattle.std.proofs.Common.{sym, ◌∙◌, inr, [], length}
use Rattle.std.proofs.lemmas.List.{get_or_default}
use Rattle.std.proofs.lemmas.Bool.{false≢true}
use Rattle.std.specs.Cmp.Rules.{signed_items}
use Rattle.lt_match.proofs.matching.may_follow.Goals as goal

pub returns-then-not-stands_among-clause-no : goal.returns-then-not-stands_among-clause-no
returns-then-not-stands_among-clause-no c = λ f. inr (λ e. false≢true (sym f ∙ c.eq.ensures ∙ (signed_items c.index-own-chosen.result c.index-facets-k.result).1 (c.index-own-chosen.is ∙ get_or_default c.args.own.now (length c.args.chosen.now) c.index-own-chosen.result [] c.requires.next ∙ e ∙ get_or_default c.args.facets.now c.args.k [] c.index-facets-k.result c.requires.vertex ∙ sym c.index-facets-k.is)))
