use Rattle.std.proofs.Common.{◌≡◌, ◌<◌, ℕ, map, length, get_or, []}
use Rattle.lt_model.specs.Flat.{rows}
use Rattle.lt_model.specs.Matrices.{apply}
use Rattle.lt_model.specs.Simplices.{IsClassOf}
use Rattle.lt_match.proofs.transforms.image_classes.Given as goal

abbrev pub invariant-loop-n : goal.invariant-loop-n
invariant-loop-n l = record {
  count : length l.classes.items ≡ l.n;
  each : (m : ℕ) → m < l.n → IsClassOf l.d (map (apply (rows l.d l.u)) (get_or l.t m [])) (get_or l.classes.items m []);
}
