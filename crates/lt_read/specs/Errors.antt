-- The errors of the calls that reading makes, as its own.
use Rattle.lt_io.specs.declared.source.ReadAllError.{ReadAllError}
use Rattle.lt_io.specs.declared.source.ReadAllError.TheVariants as source
use Rattle.lt_grammar.specs.declared.parsed.ParseError.{ParseError}
use Rattle.lt_grammar.specs.declared.parsed.ParseError.TheVariants as parse
use Rattle.lt_read.specs.declared.refusals.Refusal.TheVariants.{TooLong, Syntax, OtherDimension}
use Rattle.lt_read.specs.declared.refusals.Stop.{Stop}
use Rattle.lt_read.specs.declared.refusals.Stop.TheVariants as stop
use Rattle.lt_read.specs.declared.refusals.ReadError.{ReadError}
use Rattle.lt_read.specs.declared.refusals.ReadError.TheVariants.{Failed, Refused, Memory}

abbrev pub of_source : ReadAllError → ReadError
of_source source.Failed = Failed
of_source source.TooLong = Refused TooLong
of_source source.Memory = Memory

abbrev pub of_parse : ParseError → ReadError
of_parse (parse.Syntax line) = Refused (Syntax line)
of_parse (parse.OtherDimension found) = Refused (OtherDimension found)
of_parse parse.Memory = Memory

abbrev pub of_stop : Stop → ReadError
of_stop (stop.Refused refusal) = Refused refusal
of_stop stop.Memory = Memory
