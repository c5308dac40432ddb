use Rattle.ltypes.proofs.Outputs.{one_text, one_start, one_of_bytes, one_conversion}
use Rattle.ltypes.proofs.command.outputs_are_exact.Goals as goal

pub returns : goal.returns
returns c = record { principal = one_text; start = one_start; bytes = one_of_bytes; conversion = one_conversion }
