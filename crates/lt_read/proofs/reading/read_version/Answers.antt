use Rattle.lt_io.specs.Whole.{ReadsAll}
use Rattle.lt_model.specs.Limits.{input_limit}
use Rattle.lt_grammar.specs.Parsed.{text_of}
use Rattle.lt_read.proofs.ReadAtlases.{AreText, unread, no_text, stopped, reads}
use Rattle.lt_read.proofs.reading.read_version.Given.{Over}
use Rattle.lt_read.proofs.reading.read_version.Goals.{In_ok-bytes, In_ok-parsed}
use Rattle.lt_read.proofs.reading.read_version.Goals as goal

-- all that the source had left was taken
all_here : (g : Over) (c : In_ok-bytes g) → ReadsAll (g.S.Source.left c.args.source.now) (g.S.Source.left c.read_all.new.source) c.in_ok-bytes.bytes.items (input_limit c.args.d)
all_here g c = rw c.input_limit.ensures at c.in_ok-bytes.ensures.read

-- and is a text
text_here : (g : Over) (c : In_ok-parsed g) → AreText c.args.version c.args.d c.in_ok-bytes.bytes.items (text_of c.in_ok-parsed.parsed)
text_here g c = let p = c.in_ok-parsed.ensures in record { fits = p.fits; dimension = p.dimension; spelt = rw c.deref.ensures.value at p.spelt }

pub returns-in_err-bytes-clause-why : goal.returns-in_err-bytes-clause-why
returns-in_err-bytes-clause-why g c =
    unread c.args.version c.args.d (g.S.Source.left c.args.source.now) (g.S.Source.left c.read_all.new.source) (g.S.Source.faults c.args.source.now) (g.S.Source.faults c.read_all.new.source) c.from_residual.result c.in_err-bytes.field-0.0 c.from_residual.ensures.1 (rw c.input_limit.ensures at c.in_err-bytes.ensures.why)

pub returns-in_err-parsed-clause-why : goal.returns-in_err-parsed-clause-why
returns-in_err-parsed-clause-why g c =
    no_text c.args.version c.args.d (g.S.Source.left c.args.source.now) (g.S.Source.left c.read_all.new.source) (g.S.Source.faults c.args.source.now) (g.S.Source.faults c.read_all.new.source) c.from_residual-in_err-parsed.result c.in_ok-bytes.bytes.items
    (all_here g (goal.at.returns-in_err-parsed-clause-why g c).In_ok-bytes) c.in_err-parsed.field-0.0 c.from_residual-in_err-parsed.ensures.1 (rw c.deref.ensures.value at c.in_err-parsed.ensures.why)

pub returns-in_err-atlas_of-clause-why : goal.returns-in_err-atlas_of-clause-why
returns-in_err-atlas_of-clause-why g c =
    let s = goal.at.returns-in_err-atlas_of-clause-why g c in
    stopped c.args.version c.args.d (g.S.Source.left c.args.source.now) (g.S.Source.left c.read_all.new.source) (g.S.Source.faults c.args.source.now) (g.S.Source.faults c.read_all.new.source) c.from_residual-in_err-atlas_of.result c.in_ok-bytes.bytes.items
    (all_here g s.In_ok-bytes) (text_of c.in_ok-parsed.parsed) (text_here g s.In_ok-parsed) c.in_err-atlas_of.field-0.0 c.from_residual-in_err-atlas_of.ensures.1 c.in_err-atlas_of.ensures.why

pub returns-clause-read : goal.returns-clause-read
returns-clause-read g c =
    let s = goal.at.returns-clause-read g c in
    reads c.args.version c.args.d (g.S.Source.left c.args.source.now) (g.S.Source.left c.read_all.new.source) c.in_ok-bytes.bytes.items (text_of c.in_ok-parsed.parsed) c.in_ok-atlas_of.field-0 (all_here g s.In_ok-bytes) (text_here g s.In_ok-parsed) c.in_ok-atlas_of.ensures.atlas c.in_ok-atlas_of.ensures.right
