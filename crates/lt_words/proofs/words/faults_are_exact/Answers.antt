use Rattle.lt_words.proofs.Laws.{one_place, one_command}
use Rattle.lt_words.proofs.Ranges.{drills_within}
use Rattle.lt_words.proofs.words.faults_are_exact.Goals as goal

pub returns-clause-one_place : goal.returns-clause-one_place
returns-clause-one_place c = one_place

pub returns-clause-one_command : goal.returns-clause-one_command
returns-clause-one_command c = one_command

pub returns-clause-drills : goal.returns-clause-drills
returns-clause-drills c = drills_within
