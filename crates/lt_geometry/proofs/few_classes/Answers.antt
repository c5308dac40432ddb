use Rattle.lt_geometry.proofs.Fewness as counts
use Rattle.lt_geometry.proofs.few_classes.Goals as goal

pub returns-clause-choices : goal.returns-clause-choices
returns-clause-choices c = counts.classes_are_choices

pub returns-clause-few : goal.returns-clause-few
returns-clause-few c = counts.few_classes
