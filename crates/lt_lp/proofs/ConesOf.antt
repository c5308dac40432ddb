-- The cone of the regulators of a triangulation is its right cone.
use Rattle.std.proofs.Common.{ℕ, ℤ, List, ◌<◌, sym, subst, length, get_or}
use Rattle.lt_model.specs.Cones.{Row, Cone, IsRightCone, IsRightVerdict}
use Rattle.lt_model.specs.Limits.{weight, weight_limit}
use Rattle.lt_model.specs.Walls.{AreRegulators}
use Rattle.lt_lp.specs.Rows.{IsConeOf}

pub right_cone : (d : ℕ) (t : List (List (List ℤ))) (ns : List (List ℤ)) (c : Cone) → AreRegulators d t ns → IsConeOf d ns c → IsRightCone d t c
right_cone d t ns c r h = record {
  regulators = subst (λ (ms : List (List ℤ)). AreRegulators d t ms) (sym h.names) r;
  verdicts = subst (λ (ms : List (List ℤ)). (k : ℕ) (r : Row) → k < length c.rows → IsRightVerdict d ms k (get_or c.rows k r).verdict) (sym h.names) h.verdicts;
  light = subst (λ (ms : List (List ℤ)). weight d ms < weight_limit) (sym h.names) h.light;
  primitive = h.form.primitive;
  factor = h.form.factor;
  some = h.form.some;
  sum = h.form.times;
}
