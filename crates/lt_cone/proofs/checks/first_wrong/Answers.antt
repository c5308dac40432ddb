use Rattle.std.proofs.Common.{arith, ◌≡◌, sym, ◌∙◌, subst, ◌<◌, ◌+◌, ℕ, [], length, get_or}
use native.Mathlib.Decide.{ℕ_discrete}
use Rattle.lt_model.specs.Cones.{Row, IsRightVerdict}
use Rattle.lt_tableau.specs.Errors.{AreOfDimension}
use Rattle.lt_tableau.proofs.Turned.{get_or_any}
use Rattle.lt_cone.specs.Faults.{IsRowOf}
use Rattle.lt_cone.proofs.checks.first_wrong.Goals as goal

pub loop-k-preserved : goal.loop-k-preserved
loop-k-preserved c = λ d h j l. each d h j l (ℕ_discrete j c.loop-k.k)
  where
    here : c.loop-k.k < length c.args.rows.now
    here = omega (arith, c.if-k-rows.false)

    own : (d : ℕ) → AreOfDimension d c.args.normals.now → IsRowOf d c.args.normals.now c.args.rows.now c.loop-k.k
    own d h = (
      here,
      λ r. subst (λ (x : Row). (x.normal ≡ get_or c.args.normals.now c.loop-k.k []) × IsRightVerdict d c.args.normals.now c.loop-k.k x.verdict)
          (c.index-rows-k.is ∙ get_or_any c.args.rows.now c.loop-k.k _ r here) ((c.is_row.ensures d h).0 c.if-not-is_row.false),
    )

    each : (d : ℕ) → AreOfDimension d c.args.normals.now → (j : ℕ) → j < c.loop-k.k + 1 → Dec (j ≡ c.loop-k.k) → IsRowOf d c.args.normals.now c.args.rows.now j
    each d h j l (yes e) = subst (IsRowOf d c.args.normals.now c.args.rows.now) (sym e) (own d h)
    each d h j l (no e) = c.loop-k.invariant d h j (omega arith)

pub returns-clause-before : goal.returns-clause-before
returns-clause-before c = λ d h k l. c.loop-k.invariant d h k (omega (arith, c.loop-k-test.false))
