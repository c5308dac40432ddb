use Rattle.std.proofs.Common.{arith, ◌≡◌, ◌-◌, ◌*◌, ◌∙◌, ap, sym, subst, ℕ, suc, ℤ, List, length, map}
use Rattle.std.proofs.lemmas.Bool.{false≢true}
use Rattle.lt_model.specs.Flat.{rows}
use Rattle.lt_model.specs.Limits.{span_limit}
use Rattle.lt_model.specs.Matrices.{apply, IsSquare}
use Rattle.lt_model.specs.Simplices.{AllOfDimension}
use Rattle.lt_model.proofs.Flat.{rows_square}
use Rattle.lt_triang.specs.Bounds.{AreNear}
use Rattle.lt_triang.specs.Flat.{IsFlat, IsClassAt}
use Rattle.lt_match.proofs.Spans.{images_near, images_within, images_simplex, not_flat}
use Rattle.lt_match.proofs.transforms.image_class.Goals as goal

less_one : (d n : ℕ) → n ≡ suc d → n - 1 ≡ d
less_one d n e = omega arith

pub of-requires-clause-dimension : goal.of-requires-clause-dimension
of-requires-clause-dimension c =
    let u : List (List ℤ) = rows c.args.d c.args.u.now in
    let square : IsSquare c.args.d u = rows_square c.args.d c.args.u.now c.requires.square in
    let k = images_simplex c.args.d u c.requires.inverse.0 c.args.s.now square c.requires.inverse.1 c.requires.class in
    let is : c.as_slice.result.now ≡ map (apply u) c.args.s.now = c.as_slice.ensures.value ∙ c.in-Some.ensures.value in
    let e : length c.as_slice.result.now - 1 ≡ c.args.d = less_one c.args.d (length c.as_slice.result.now) (ap length is ∙ k.count) in
    subst (λ (n : ℕ). AllOfDimension n c.as_slice.result.now) (sym e) (rw is k.points)

pub of-requires-clause-near : goal.of-requires-clause-near
of-requires-clause-near c =
    let u : List (List ℤ) = rows c.args.d c.args.u.now in
    let square : IsSquare c.args.d u = rows_square c.args.d c.args.u.now c.requires.square in
    let k = images_simplex c.args.d u c.requires.inverse.0 c.args.s.now square c.requires.inverse.1 c.requires.class in
    let is : c.as_slice.result.now ≡ map (apply u) c.args.s.now = c.as_slice.ensures.value ∙ c.in-Some.ensures.value in
    let e : length c.as_slice.result.now - 1 ≡ c.args.d = less_one c.args.d (length c.as_slice.result.now) (ap length is ∙ k.count) in
    subst (λ (n : ℕ). AreNear (2 * span_limit n) c.as_slice.result.now) (sym e) (subst (AreNear (2 * span_limit c.args.d)) (sym is) (images_near c.args.d u c.args.s.now c.requires.near))

pub unreachable-requires : goal.unreachable-requires
unreachable-requires c =
    let u : List (List ℤ) = rows c.args.d c.args.u.now in
    let square : IsSquare c.args.d u = rows_square c.args.d c.args.u.now c.requires.square in
    let k = images_simplex c.args.d u c.requires.inverse.0 c.args.s.now square c.requires.inverse.1 c.requires.class in
    let is : c.as_slice.result.now ≡ map (apply u) c.args.s.now = c.as_slice.ensures.value ∙ c.in-Some.ensures.value in
    let e : length c.as_slice.result.now - 1 ≡ c.args.d = less_one c.args.d (length c.as_slice.result.now) (ap length is ∙ k.count) in
    let flat : IsFlat c.args.d (map (apply u) c.args.s.now) c.in-Err.field-0 = subst (λ (p : List (List ℤ)). IsFlat c.args.d p c.in-Err.field-0) is (subst (λ (n : ℕ). IsFlat n c.as_slice.result.now c.in-Err.field-0) e c.in-Err.ensures.flat) in
    not_flat c.args.d (map (apply u) c.args.s.now) c.in-Err.field-0 (λ b lb sb nb. k.independent b lb sb nb) flat

pub unreachable-requires-in-None : goal.unreachable-requires-in-None
unreachable-requires-in-None c =
    false≢true (c.in-None.ensures.within.1 (images_within c.args.d (rows c.args.d c.args.u.now) c.args.s.now (rows_square c.args.d c.args.u.now c.requires.square) c.requires.class c.requires.near))

pub returns : goal.returns
returns c =
    let u : List (List ℤ) = rows c.args.d c.args.u.now in
    let square : IsSquare c.args.d u = rows_square c.args.d c.args.u.now c.requires.square in
    let k = images_simplex c.args.d u c.requires.inverse.0 c.args.s.now square c.requires.inverse.1 c.requires.class in
    let is : c.as_slice.result.now ≡ map (apply u) c.args.s.now = c.as_slice.ensures.value ∙ c.in-Some.ensures.value in
    let e : length c.as_slice.result.now - 1 ≡ c.args.d = less_one c.args.d (length c.as_slice.result.now) (ap length is ∙ k.count) in
    let k2 : IsClassAt c.args.d (map (apply u) c.args.s.now) c.in-Ok.class c.in-Ok.field-0-1 =
    subst (λ (p : List (List ℤ)). IsClassAt c.args.d p c.in-Ok.class c.in-Ok.field-0-1) is (subst (λ (n : ℕ). IsClassAt n c.as_slice.result.now c.in-Ok.class c.in-Ok.field-0-1) e c.in-Ok.ensures.class)
    in
    record { shift = c.in-Ok.field-0-1; dimension = k2.dimension; «class» = k2.«class»; same = k2.same }
