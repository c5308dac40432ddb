use Rattle.std.proofs.Common.{◌≡◌, ◌<◌, ◌∙◌, ap, subst, arith, ℕ, [], length}
use Rattle.std.specs.Prelude.{Some}
use Rattle.lt_io.specs.Streams.{Outgoing}
use Rattle.lt_text.specs.Texts.{atlas_text}
use Rattle.lt_read.specs.Reading.{IsWhyUnread}
use Rattle.lt_read.specs.declared.refusals.ReadError.{ReadError}
use Rattle.ltypes.proofs.Drilled.{gained_too_long, gained_all, read_resumed, refused_long}
use Rattle.ltypes.proofs.drill.read_again.Goals as goal

pub returns-then-bytes-limit-clause-why : goal.returns-then-bytes-limit-clause-why
returns-then-bytes-limit-clause-why c =
    let old = c.in-Ok.sink.held in
    let held = c.write_atlas.new.out.held in
    let none : old ≡ [] = ap (λ (s : Outgoing). s.held) c.in-Ok.ensures in
    let same : length c.bytes.result.now ≡ length held = ap (length {A = ℕ}) c.bytes.ensures in
    let more : c.input_limit-limit.result < length held = omega (arith, c.if-bytes-limit.true, same) in
    gained_too_long c.args.d c.input_limit-limit.result old held (atlas_text c.args.atlas.now) none c.input_limit-limit.ensures c.in-Err.ensures.bytes.front more

pub returns-in-Ok-read_atlas-clause-resumed : goal.returns-in-Ok-read_atlas-clause-resumed
returns-in-Ok-read_atlas-clause-resumed c =
    let old = c.in-Ok.sink.held in
    let held = c.write_atlas.new.out.held in
    let none : old ≡ [] = ap (λ (s : Outgoing). s.held) c.in-Ok.ensures in
    let all : held ≡ atlas_text c.args.atlas.now = gained_all old held (atlas_text c.args.atlas.now) none c.in-Ok-write_atlas.ensures.bytes.whole in
    read_resumed c.args.d c.args.atlas.now c.requires.run c.requires.dimension c.requires.few c.new-source.result (Some c.read_atlas.new.source) (c.new-source.ensures ∙ c.bytes-2.ensures ∙ all) c.in-Ok-read_atlas.again c.in-Ok-read_atlas.ensures.read

pub returns-in-Err-Refused-clause-why : goal.returns-in-Err-Refused-clause-why
returns-in-Err-Refused-clause-why c =
    let old = c.in-Ok.sink.held in
    let held = c.write_atlas.new.out.held in
    let none : old ≡ [] = ap (λ (s : Outgoing). s.held) c.in-Ok.ensures in
    let all : held ≡ atlas_text c.args.atlas.now = gained_all old held (atlas_text c.args.atlas.now) none c.in-Ok-write_atlas.ensures.bytes.whole in
    refused_long c.args.d c.args.atlas.now c.requires.run c.requires.dimension c.requires.few c.new-source.result (Some c.read_atlas.new.source) (c.new-source.ensures ∙ c.bytes-2.ensures ∙ all) 0 0 c.in-Err-Refused.refusal
    (subst (λ (e : ReadError). IsWhyUnread 2 c.args.d (Some c.new-source.result) (Some c.read_atlas.new.source) 0 0 e) c.in-Err-Refused.field-0-is c.in-Err-Refused.ensures.why)
