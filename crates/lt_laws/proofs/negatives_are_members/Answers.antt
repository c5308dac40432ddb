use Rattle.lt_laws.proofs.Negated as negated
use Rattle.lt_laws.proofs.Halved as halved
use Rattle.lt_laws.proofs.negatives_are_members.Goals as goal

pub returns-clause-members : goal.returns-clause-members
returns-clause-members c = negated.negatives_are_members

pub returns-clause-classes : goal.returns-clause-classes
returns-clause-classes c = negated.negative_of

pub returns-clause-halved : goal.returns-clause-halved
returns-clause-halved c = λ d q t low del. halved.halved d low q t del
