use Rattle.lt_read.proofs.Exact.{one_refusal_of_bytes}
use Rattle.lt_read.proofs.Read.{read_not_refused, one_read}
use Rattle.lt_read.proofs.laws.refusals_are_exact.Goals as goal

pub returns : goal.returns
returns c = record { one = one_refusal_of_bytes; apart = read_not_refused; once = one_read }
