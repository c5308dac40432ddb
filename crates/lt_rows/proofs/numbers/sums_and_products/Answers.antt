use Rattle.std.proofs.Common.{negsuc, refl}
use Rattle.lt_rows.proofs.numbers.sums_and_products.Goals as goal

pub exact_div-requires-clause-exact : goal.exact_div-requires-clause-exact
exact_div-requires-clause-exact g c = (negsuc 2, refl)
