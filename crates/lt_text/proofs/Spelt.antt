-- The text of the example, line by line.
use Rattle.std.proofs.Common.{refl}
use Rattle.std.specs.Fmt.{digits}
use Rattle.lt_text.specs.Example.{ExampleIsSpelt}

pub spelt : ExampleIsSpelt
unfolding digits
spelt = refl
