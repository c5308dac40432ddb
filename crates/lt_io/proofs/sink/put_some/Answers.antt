use Rattle.std.proofs.Common.{subst, arith}
use Rattle.std.specs.Io.KnownBytes.{Appends}
use Rattle.lt_io.proofs.Compose.{appended_then, appended_kept, front_grows}
use Rattle.lt_io.proofs.sink.put_some.Goals as goal

pub returns-in-Err-clause-bytes : goal.returns-in-Err-clause-bytes
returns-in-Err-clause-bytes g c = appended_kept _ _ _ _ c.loop-done.invariant.so_far c.in-Err.ensures.bytes

pub loop-done-preserved : goal.loop-done-preserved
loop-done-preserved g c = record {
  in_range = omega (arith, c.in-Ok.ensures.bound);
  so_far = subst (λ l. Appends (g.K.Sink.held c.args.sink.now) (g.K.Sink.held c.put.new.self) l) (front_grows c.args.bytes.now c.loop-done.done c.in-Ok.count) (appended_then _ _ _ _ _ c.loop-done.invariant.so_far c.in-Ok.ensures.bytes);
  later = omega (arith, c.in-Ok.ensures.cause.later, c.loop-done.invariant.later);
}
