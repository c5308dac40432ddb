use Rattle.std.proofs.Common.{arith, refl, ◌≡◌, ◌≢◌, ◌∙◌, ap, ◌-◌, ◌++◌, [], ◌∷◌, length, length-append, pos}
use Rattle.std.proofs.lemmas.Int.{ints}
use Rattle.lt_principal.proofs.classes.+push_paths.Goals.{then-coord-eq0+in_ok-push_paths, else-coord-eq0}
use Rattle.lt_model.specs.Vectors.{plus, unit}
use Rattle.lt_model.specs.Facets.{number_at}
use Rattle.lt_model.proofs.Points.{all_appended}
use Rattle.lt_geometry.proofs.Paths.{length-step}
use Rattle.lt_principal.specs.Paths.{points_of, last_point, ways, before_each}
use Rattle.lt_principal.proofs.Ways.{some_steps, way_taken, way_passed, last_dimension, last_appended}
use Rattle.lt_principal.proofs.classes.+push_paths.Goals as goal

pub loop-j-init : goal.loop-j-init
loop-j-init t c =
    let e : c.args.d - 0 ≡ c.args.d = omega arith in
    rw (e, c.last_of-last.ensures, some_steps c.args.d c.args.steps (last_point c.args.path.now) c.if-steps-eq0.false) refl

pub push_paths-requires : goal.push_paths-requires
push_paths-requires t c =
    let d = c.args.d in
    let x = c.last_of-last.result.now in
    let l : length x ≡ d = ap length c.last_of-last.ensures ∙ last_dimension d c.args.path.now c.requires.dimension c.requires.some in
    let e : c.as_slice.result.now ≡ c.args.path.now ++ c.raised.result ∷ [] = c.as_slice.ensures.value ∙ c.with_last-longer.ensures in
    let lr : length c.raised.result ≡ d = ap length c.raised.ensures ∙ length-step (length x) (d - 1 - c.loop-j.j) x refl ∙ l in
    rw e (omega arith, (c.requires.few, (omega (arith, length-append c.args.path.now (c.raised.result ∷ [])), (omega (arith, length-append c.args.path.now (c.raised.result ∷ [])), all_appended d c.args.path.now c.raised.result c.requires.dimension lr))))

pub loop-j-preserved : goal.loop-j-preserved
loop-j-preserved t c =
    let d = c.args.d in
    let j = c.loop-j.j in
    let x = c.last_of-last.result.now in
    let path = c.args.path.now in
    let goal = points_of c.args.out.now.items ++ before_each path (ways d c.args.steps (last_point path)) in
    elim c.if-coord-eq0.branch [
      | then-coord-eq0+in_ok-push_paths w ↦
          let zero : number_at (d - 1 - j) x ≡ pos 0 = omega (arith, ints, w.if-coord-eq0, c.coord.ensures.value) in
          let l : length x ≡ d = ap length c.last_of-last.ensures ∙ last_dimension d path c.requires.dimension c.requires.some in
          let y : w.raised.result ≡ plus x (unit d (d - 1 - j)) = w.raised.ensures ∙ ap (λ n. plus x (unit n (d - 1 - j))) l in
          let longer : w.as_slice.result.now ≡ path ++ plus x (unit d (d - 1 - j)) ∷ [] = w.as_slice.ensures.value ∙ w.with_last-longer.ensures ∙ ap (λ v. path ++ v ∷ []) y in
          let more : points_of w.push_paths.new.out.items ≡ points_of c.loop-j.out.items ++ before_each (path ++ plus x (unit d (d - 1 - j)) ∷ []) (ways d (c.args.steps - 1) (plus x (unit d (d - 1 - j)))) =
          rw (longer, last_appended path (plus x (unit d (d - 1 - j)))) at w.in_ok-push_paths.ensures
          in
          way_taken d (ways d (c.args.steps - 1)) path x j (points_of c.loop-j.out.items) (points_of c.if-coord-eq0.out.items) goal c.loop-j-test.true zero (ap (λ v. points_of v.items) w.out-is ∙ more) c.loop-j.invariant
      | else-coord-eq0 w ↦
          let other : number_at (d - 1 - j) x ≢ pos 0 = λ e. absurd (omega (arith, ints, w.if-coord-eq0, c.coord.ensures.value, e)) in
          way_passed d (ways d (c.args.steps - 1)) path x j (points_of c.if-coord-eq0.out.items) goal c.loop-j-test.true other (rw w.out-is c.loop-j.invariant)
    ]
