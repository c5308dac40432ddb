use Rattle.std.proofs.Common.{ℤ, List, refl, subst}
use Rattle.lt_io.specs.Bytes.{AppendsFront}
use Rattle.ltypes.specs.Forms.{vectors_text}
use Rattle.ltypes.proofs.vectors.write_relevant.Goals as goal

pub returns : goal.returns
returns g c =
    let vs = c.in-Ok-vectors_of.vectors.items in
    let e = c.in-Err-write_vectors.ensures in (
      e.cause.failed,
      (
        vectors_text vs,
        (c.in-Ok.atlas, vs, c.in-Ok.ensures.begins, c.in-Ok-vectors_of.ensures, refl),
        subst (λ (z : List (List ℤ)). AppendsFront (g.K.Sink.held c.args.out.now) (g.K.Sink.held c.write_vectors.new.out) (vectors_text z)) c.deref.ensures.value e.bytes.front,
      ),
    )
