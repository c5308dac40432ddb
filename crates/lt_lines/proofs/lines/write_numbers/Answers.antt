use Rattle.lt_lines.proofs.Parts.{first_of_line}
use Rattle.lt_lines.proofs.lines.write_numbers.Goals as goal

pub returns-in-len1-up-clause-bytes : goal.returns-in-len1-up-clause-bytes
returns-in-len1-up-clause-bytes g c = rw (← first_of_line c.args.numbers.now c.in-len1-up.len_at_least) c.write_started.ensures.bytes
