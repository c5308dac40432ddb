use Rattle.std.proofs.Common.{arith, ◌≡◌, ◌<◌, length, List, ℤ}
use Rattle.std.proofs.lemmas.List.{length-map}
use Rattle.arrayvec.specs.ArrayVec.{ArrayVec}
use Rattle.lt_principal.specs.Paths.{points_of}
use Rattle.lt_principal.proofs.Members.{near_member}
use Rattle.lt_principal.proofs.triangulations.classes_with.Goals as goal

pub class_with-requires-clause-near : goal.class_with-requires-clause-near
class_with-requires-clause-near c = rw c.points_at.ensures (near_member c.args.d (points_of c.args.all.now) c.loop-n.n c.requires (omega (arith, length-map c.args.all.now (λ (v : ArrayVec (List ℤ)). v.items))))
