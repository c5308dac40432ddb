use Rattle.std.proofs.Common.{arith, ◌≡◌, inl, inr, sym, ◌∙◌, ap, subst, ℕ, zero, suc, ◌^◌, ◌+◌, ◌<◌, ◌≤◌, ℤ, pos, ◌≤ℤ◌, List, length, get_or, Bool, true, false, T}
use Rattle.std.proofs.lemmas.Int.{ints, to_z-of_z}
use Rattle.std.proofs.Math.Nat.{min-le_left}
use mir.Val.{SFits, to_z, of_z}
use mir.Syntax.{w128}
use lib.Signed.{le_z}
use Rattle.std.specs.Int.Signed.{le_z_yes}
use Rattle.std.proofs.lemmas.Bool.{false≢true, not-false, not-true}
use Rattle.std.specs.Cmp.Rules.{signed_items}
use Rattle.lt_model.specs.Forms.{numbers_of_form}
use Rattle.lt_model.specs.Cones.{Row, Cone, normals, sum_of_walls, IsRightVerdict}
use Rattle.lt_model.specs.Limits.{weight, weight_limit}
use Rattle.lt_model.specs.Walls.{AreRegulators}
use Rattle.lt_lp.specs.Reduced.{IsReduced}
use Rattle.lt_model.specs.Triangulations.{IsDelaunay}
use Rattle.lt_triang.specs.Kept.{dimension_of, IsTriangulation}
use Rattle.lt_triang.proofs.Expressed.{dimension_is}
use Rattle.lt_geometry.proofs.Fewness.{few_regulators}
use Rattle.lt_cone.specs.declared.error.ConeFault.{ConeFault}
use Rattle.lt_cone.specs.declared.error.ConeFault.TheVariants.{Wrong}
use Rattle.lt_cone.specs.Faults.{IsRowOf, IsFault}
use Rattle.lt_cone.proofs.AllRows.{names_all, one_form}
use Rattle.lt_lp.proofs.RowSums.{IsConeReady}
use Rattle.lt_regulator.proofs.Distinct.{one_list, regulator_lengths}
use Rattle.lt_cone.proofs.RightCones.{rows_ready}
use Rattle.lt_cone.proofs.checks.check_cone.Goals.{After-as_slice-2, After-first_wrong-wrong, After-dimension, After-form_of}
use Rattle.lt_cone.proofs.checks.check_cone.Goals as goal

moved : (P : List (List ℤ) → List Row → Type 0) (ns ms : List (List ℤ)) (rows others : List Row) → ns ≡ ms → rows ≡ others → P ns rows → P ms others
moved P ns ms rows others e f p = subst (P ms) f (subst (λ (xs : List (List ℤ)). P xs rows) e p)

fits : (w : ℕ) → w ≤ 2 ^ 120 → SFits w128 (pos w)
fits w h = omega (arith, ints, h)

-- what the test says of the weight
told : (w : ℕ) (x : ℤ) (b : Bool) → w ≤ 2 ^ 120 → x ≡ pos w → le_z (pos (2 ^ 112)) (to_z w128 (of_z w128 x)) ≡ b → le_z (pos (2 ^ 112)) (pos w) ≡ b
told w x b small e h = rw (e, to_z-of_z w128 (pos w) (fits w small)) at h

heavy : (w : ℕ) → le_z (pos (2 ^ 112)) (pos w) ≡ true → weight_limit ≤ w
heavy w e = let l : pos (2 ^ 112) ≤ℤ pos w = le_z_yes (subst T (sym e) tt) in omega (arith, ints, l)

light : (w : ℕ) → le_z (pos (2 ^ 112)) (pos w) ≡ false → w < weight_limit
light w e = omega (arith, ints, e)

small : (d : ℕ) (ns : List (List ℤ)) → weight d ns ≤ 2 ^ 120
small d ns = min-le_left (2 ^ 120) _

pub returns-then-weight-clause-wrong : goal.returns-then-weight-clause-wrong
returns-then-weight-clause-wrong c =
    let d = dimension_of c.args.t.now in
    let ns = c.in-Ok.normals.items in
    let all = regulator_lengths d c.requires.0 c.args.t.now ns c.requires.1 c.in-Ok.ensures in
    let w : c.weight.result ≡ pos (weight d ns) = rw (c.as_slice.ensures.value) at (c.weight.ensures d (rw (c.as_slice.ensures.value) all)) in
    (ns, c.in-Ok.ensures, inl (heavy (weight d ns) (told (weight d ns) c.weight.result true (small d ns) w c.if-weight.true), ap (λ (m : ℕ). m + 1) (c.len-count.ensures ∙ c.in-Ok.normals.ok.0)))

-- the weight of the regulators where the rows are looked at
light_there : (c : After-as_slice-2) → weight (dimension_of c.args.t.now) c.in-Ok.normals.items < weight_limit
light_there c =
    let d = dimension_of c.args.t.now in
    let ns = c.in-Ok.normals.items in
    let all = regulator_lengths d c.requires.0 c.args.t.now ns c.requires.1 c.in-Ok.ensures in
    let w : c.weight.result ≡ pos (weight d ns) = rw (c.as_slice.ensures.value) at (c.weight.ensures d (rw (c.as_slice.ensures.value) all)) in
    light (weight d ns) (told (weight d ns) c.weight.result false (small d ns) w c.if-weight.false)

pub first_wrong-wrong-requires : goal.first_wrong-wrong-requires
first_wrong-wrong-requires c =
    let d = dimension_of c.args.t.now in
    let ns = c.in-Ok.normals.items in
    let all = regulator_lengths d c.requires.0 c.args.t.now ns c.requires.1 c.in-Ok.ensures in
    record { light = (d, rw (c.as_slice-2.ensures.value) all, rw (c.as_slice-2.ensures.value) (light_there c)) }

count_is : (c : After-first_wrong-wrong) → c.len-count.result ≡ length c.in-Ok.normals.items
count_is c = c.len-count.ensures ∙ c.in-Ok.normals.ok.0

rows_are : (c : After-first_wrong-wrong) → c.as_slice-rows.result.now ≡ c.args.cone.now.rows
rows_are c = c.as_slice-rows.ensures.value ∙ ap (λ (x : Cone). x.rows) c.cone.view_is

before : (c : After-first_wrong-wrong) (k : ℕ) → k < c.first_wrong-wrong.result → IsRowOf (dimension_of c.args.t.now) c.in-Ok.normals.items c.args.cone.now.rows k
before c =
    let d = dimension_of c.args.t.now in
    let ns = c.in-Ok.normals.items in
    let all = regulator_lengths d c.requires.0 c.args.t.now ns c.requires.1 c.in-Ok.ensures in
    moved (λ (xs : List (List ℤ)) (rows : List Row). (k : ℕ) → k < c.first_wrong-wrong.result → IsRowOf d xs rows k) c.as_slice-2.result.now ns c.as_slice-rows.result.now c.args.cone.now.rows c.as_slice-2.ensures.value (rows_are c)
    (c.first_wrong-wrong.ensures.before d (rw (c.as_slice-2.ensures.value) all))

pub returns-then-wrong-count-clause-wrong : goal.returns-then-wrong-count-clause-wrong
returns-then-wrong-count-clause-wrong c =
    let d = dimension_of c.args.t.now in
    let ns = c.in-Ok.normals.items in
    let all = regulator_lengths d c.requires.0 c.args.t.now ns c.requires.1 c.in-Ok.ensures in
    let w = (goal.at.returns-then-wrong-count-clause-wrong c).After-first_wrong-wrong in
    let l : c.first_wrong-wrong.result < length ns = rw (count_is w) at c.if-wrong-count.true in
    let n = moved (λ (xs : List (List ℤ)) (rows : List Row). c.first_wrong-wrong.result < length xs → IsRowOf d xs rows c.first_wrong-wrong.result → ⊥) c.as_slice-2.result.now ns c.as_slice-rows.result.now c.args.cone.now.rows c.as_slice-2.ensures.value (rows_are w)
    (c.first_wrong-wrong.ensures.wrong d (rw (c.as_slice-2.ensures.value) all)) in
    (ns, c.in-Ok.ensures, inr (inl (light_there (goal.at.returns-then-wrong-count-clause-wrong c).After-as_slice-2, l, before w, n l)))

-- all places below the number of the regulators are right
right_all : (c : After-first_wrong-wrong) → c.len-count.result ≤ c.first_wrong-wrong.result → (k : ℕ) → k < c.len-count.result → IsRowOf (dimension_of c.args.t.now) c.in-Ok.normals.items c.args.cone.now.rows k
right_all c h k l = before c k (omega (arith, h))

pub returns-then-rows-count-clause-wrong : goal.returns-then-rows-count-clause-wrong
returns-then-rows-count-clause-wrong c =
    let d = dimension_of c.args.t.now in
    let ns = c.in-Ok.normals.items in
    let w = (goal.at.returns-then-rows-count-clause-wrong c).After-first_wrong-wrong in
    let more : c.len-count.result < length c.args.cone.now.rows = rw (rows_are w) at c.if-rows-count.true in
    let n = count_is w in (
      ns,
      c.in-Ok.ensures,
      inr (inr (
        light_there (goal.at.returns-then-rows-count-clause-wrong c).After-as_slice-2,
        n,
        right_all w c.if-wrong-count.false,
        λ p. (let m = p.0 in absurd (omega (arith, more, m, n))),
      )),
    )

at_least : (n m : ℕ) → ((k : ℕ) → k < n → k < m) → n ≤ m
at_least zero m h = omega arith
at_least (suc n) m h = let a = h n (omega arith) in omega arith

-- where the form is looked at, the rows are those of the regulators
all_right : (c : After-dimension) (k : ℕ) → k < c.len-count.result → IsRowOf (dimension_of c.args.t.now) c.in-Ok.normals.items c.args.cone.now.rows k
all_right c = right_all (goal.at.form_of-requires-clause-few c).After-first_wrong-wrong c.if-wrong-count.false

rows_count : (c : After-dimension) → length c.args.cone.now.rows ≡ c.len-count.result
rows_count c =
    let a = at_least c.len-count.result (length c.args.cone.now.rows) (λ k l. (all_right c k l).0) in
    let b : length c.args.cone.now.rows ≤ c.len-count.result = rw (rows_are (goal.at.form_of-requires-clause-few c).After-first_wrong-wrong) at c.if-rows-count.false in
    omega (arith, a, b)

names_are : (c : After-dimension) → normals c.args.cone.now.rows ≡ c.in-Ok.normals.items
names_are c =
    let n = count_is (goal.at.form_of-requires-clause-few c).After-first_wrong-wrong in
    names_all c.in-Ok.normals.items c.args.cone.now.rows (rows_count c ∙ n) (λ k r l. ((all_right c k (rw n l)).1 r).0)

verdicts_are : (c : After-dimension) (k : ℕ) (r : Row) → k < length c.args.cone.now.rows → IsRightVerdict (dimension_of c.args.t.now) c.in-Ok.normals.items k (get_or c.args.cone.now.rows k r).verdict
verdicts_are c k r l = ((all_right c k (rw (rows_count c) at l)).1 r).1

ready : (c : After-dimension) → IsConeReady c.dimension.result c.as_slice-rows.result.now
ready c =
    let d = dimension_of c.args.t.now in
    let ns = c.in-Ok.normals.items in
    rw (rows_are (goal.at.form_of-requires-clause-few c).After-first_wrong-wrong) (rows_ready d c.dimension.result c.requires.0 c.args.t.now ns c.args.cone.now.rows c.requires.1 c.dimension.ensures c.in-Ok.ensures (names_are c) (verdicts_are c))

pub form_of-requires-clause-few : goal.form_of-requires-clause-few
form_of-requires-clause-few c = (ready c).few

pub form_of-requires-clause-walls : goal.form_of-requires-clause-walls
form_of-requires-clause-walls c = (ready c).walls

pub form_of-requires-clause-some : goal.form_of-requires-clause-some
form_of-requires-clause-some c = (ready c).some

reduced : (c : After-form_of) (rows : List Row) → c.as_slice-rows.result.now ≡ rows → IsReduced (sum_of_walls (numbers_of_form (dimension_of c.args.t.now)) rows) c.form_of.result
reduced c rows e =
    subst (λ (d : ℕ). IsReduced (sum_of_walls (numbers_of_form d) rows) c.form_of.result) (dimension_is c.dimension.result c.args.t.now c.dimension.ensures)
    (subst (λ (xs : List Row). IsReduced (sum_of_walls (numbers_of_form c.dimension.result) xs) c.form_of.result) e c.form_of.ensures)

pub returns-then-ne-clause-wrong : goal.returns-then-ne-clause-wrong
returns-then-ne-clause-wrong c =
    let d = dimension_of c.args.t.now in
    let ns = c.in-Ok.normals.items in
    let w = (goal.at.returns-then-ne-clause-wrong c).After-first_wrong-wrong in
    let r = reduced (goal.at.returns-then-ne-clause-wrong c).After-form_of c.args.cone.now.rows (rows_are w) in
    let form : c.cone.inside.form ≡ c.args.cone.now.form = ap (λ (x : Cone). x.form) c.cone.view_is in (
      ns,
      c.in-Ok.ensures,
      inr (inr (
        light_there (goal.at.returns-then-ne-clause-wrong c).After-as_slice-2,
        count_is w,
        right_all w c.if-wrong-count.false,
        λ p. absurd (false≢true (sym (not-true _ (sym c.if-ne.ensures)) ∙ (signed_items c.cone.inside.form c.form_of.result).1 (form ∙ one_form (sum_of_walls (numbers_of_form d) c.args.cone.now.rows) c.args.cone.now.form c.form_of.result p.1 r))),
      )),
    )

pub returns-clause-right : goal.returns-clause-right
returns-clause-right c =
    let w = (goal.at.returns-clause-right c).After-first_wrong-wrong in
    let b = (goal.at.returns-clause-right c).After-dimension in
    let names = names_are b in
    let form : c.cone.inside.form ≡ c.args.cone.now.form = ap (λ (x : Cone). x.form) c.cone.view_is in
    let is : c.args.cone.now.form ≡ c.form_of.result = sym form ∙ (signed_items c.cone.inside.form c.form_of.result).0 (not-false _ (sym c.if-ne.ensures)) in
    let total = sum_of_walls (numbers_of_form (dimension_of c.args.t.now)) c.args.cone.now.rows in
    let f : IsReduced total c.form_of.result = reduced (goal.at.returns-clause-right c).After-form_of c.args.cone.now.rows (rows_are w) in
    let r : IsReduced total c.args.cone.now.form = subst (IsReduced total) (sym is) f in
    record {
      regulators = rw names c.in-Ok.ensures;
      verdicts = rw names (verdicts_are b);
      light = rw names (light_there (goal.at.returns-clause-right c).After-as_slice-2);
      primitive = r.primitive;
      factor = r.factor;
      some = r.some;
      sum = r.times;
    }

few : (d : ℕ) (q : List ℤ) (t : List (List (List ℤ))) (ns : List (List ℤ)) → IsTriangulation d t → IsDelaunay (dimension_of t) q t → AreRegulators (dimension_of t) t ns → length ns ≤ 2 ^ 29
few d q t ns h k r =
    let same = dimension_is d t h in
    few_regulators (dimension_of t) q t ns (omega (arith, same, h.low)) (omega (arith, same, h.high)) k r

pub returns-then-weight-clause-small : goal.returns-then-weight-clause-small
returns-then-weight-clause-small c =
    let most = few c.dimension-dimension.result c.requires.0 c.args.t.now c.in-Ok.normals.items c.dimension-dimension.ensures c.requires.1 c.in-Ok.ensures in
    omega (arith, most, c.len-count.ensures, c.in-Ok.normals.ok.0)

pub returns-then-wrong-count-clause-small : goal.returns-then-wrong-count-clause-small
returns-then-wrong-count-clause-small c =
    let most = few c.dimension-dimension.result c.requires.0 c.args.t.now c.in-Ok.normals.items c.dimension-dimension.ensures c.requires.1 c.in-Ok.ensures in
    omega (arith, most, c.len-count.ensures, c.in-Ok.normals.ok.0, c.if-wrong-count.true)

pub returns-then-rows-count-clause-small : goal.returns-then-rows-count-clause-small
returns-then-rows-count-clause-small c =
    let most = few c.dimension-dimension.result c.requires.0 c.args.t.now c.in-Ok.normals.items c.dimension-dimension.ensures c.requires.1 c.in-Ok.ensures in
    omega (arith, most, c.len-count.ensures, c.in-Ok.normals.ok.0)

pub returns-then-ne-clause-small : goal.returns-then-ne-clause-small
returns-then-ne-clause-small c =
    let most = few c.dimension-dimension.result c.requires.0 c.args.t.now c.in-Ok.normals.items c.dimension-dimension.ensures c.requires.1 c.in-Ok.ensures in
    omega (arith, most, c.len-count.ensures, c.in-Ok.normals.ok.0)
