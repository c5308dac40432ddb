use Rattle.std.proofs.Common.{rules, arith, ◌≡◌, ◌≢◌, ◌∙◌, sym, ap, ◌≤◌, ◌<◌, ℕ, ℤ, pos, List, [], length, get_or, FitsSigned, to_z, of_z}
use Rattle.std.specs.Int.{w128}
use Rattle.std.proofs.lemmas.Int.{to_z-of_z}
use Rattle.lt_model.specs.Forms.{numbers_of_form}
use Rattle.lt_lp.specs.Rule.{objective_of}
use Rattle.lt_lp.specs.Verdicts.{verdict_of}
use Rattle.lt_tableau.proofs.Turned.{get_or_any}
use Rattle.lt_lattice.proofs.Lengths.{at_most_21}
use Rattle.lt_lp.proofs.Combined.{case_scale, case_few}
use Rattle.lt_lp.proofs.OneAlternative.{no_wall}
use Rattle.lt_lp.proofs.Decided.{case_of, wall_occupied, decided_wall, decided_combination, some_numbers}
use Rattle.lt_lp.proofs.deciding.decide_light.Goals as goal

-- the number of coefficients, by the dimension that the normal at the place tells
told : (normals : List (List ℤ)) (k d : ℕ) (x : List ℤ) → k < length normals → x ≡ get_or normals k [] → length x ≡ numbers_of_form d → length (get_or normals k []) ≡ length (get_or normals 0 []) → length (get_or normals 0 []) ≡ numbers_of_form d
told normals k d x p e l s = sym s ∙ ap (length {A = ℤ}) (sym e) ∙ l

pub combination-requires-clause-few : goal.combination-requires-clause-few
combination-requires-clause-few c =
    let x : FitsSigned w128 c.objective.result = search rules in
    let e : c.index-normals-k.result ≡ get_or c.args.normals.now c.args.k [] = c.index-normals-k.is ∙ get_or_any c.args.normals.now c.args.k c.index-normals-k.result [] c.requires.place in
    let n = told c.args.normals.now c.args.k c.dimension-d.result c.index-normals-k.result c.requires.place e c.dimension-d.ensures.value (c.requires.same c.args.k [] c.requires.place) in
    let s = case_of c.in-Ok.last c.args.normals.now c.args.k c.dimension-d.result c.in-Ok.ensures.ready c.in-Ok.ensures.system c.in-Ok.ensures.rows c.requires.place c.requires.same n (at_most_21 c.dimension-d.result c.dimension-d.ensures.high) in
    let o : objective_of c.in-Ok.last ≡ pos 0 = sym c.objective.ensures ∙ (simp to_z-of_z at (ap (to_z w128) c.if-objective-eq0.true)) in
    let p = case_scale c.in-Ok.last c.args.normals.now c.args.k c.dimension-d.result c.requires.positive.0 s o c.requires.positive.1 in
    let f = case_few c.in-Ok.last c.args.normals.now c.args.k c.dimension-d.result s p in
    let m = at_most_21 c.dimension-d.result c.dimension-d.ensures.high in
    omega arith

pub combination-requires-clause-positive : goal.combination-requires-clause-positive
combination-requires-clause-positive c =
    let x : FitsSigned w128 c.objective.result = search rules in
    let e : c.index-normals-k.result ≡ get_or c.args.normals.now c.args.k [] = c.index-normals-k.is ∙ get_or_any c.args.normals.now c.args.k c.index-normals-k.result [] c.requires.place in
    let n = told c.args.normals.now c.args.k c.dimension-d.result c.index-normals-k.result c.requires.place e c.dimension-d.ensures.value (c.requires.same c.args.k [] c.requires.place) in
    let s = case_of c.in-Ok.last c.args.normals.now c.args.k c.dimension-d.result c.in-Ok.ensures.ready c.in-Ok.ensures.system c.in-Ok.ensures.rows c.requires.place c.requires.same n (at_most_21 c.dimension-d.result c.dimension-d.ensures.high) in
    let o : objective_of c.in-Ok.last ≡ pos 0 = sym c.objective.ensures ∙ (simp to_z-of_z at (ap (to_z w128) c.if-objective-eq0.true)) in
    case_scale c.in-Ok.last c.args.normals.now c.args.k c.dimension-d.result c.requires.positive.0 s o c.requires.positive.1

pub returns-then-objective-eq0-clause-right : goal.returns-then-objective-eq0-clause-right
returns-then-objective-eq0-clause-right c = λ d h.
    let x : FitsSigned w128 c.objective.result = search rules in
    let e : c.index-normals-k.result ≡ get_or c.args.normals.now c.args.k [] = c.index-normals-k.is ∙ get_or_any c.args.normals.now c.args.k c.index-normals-k.result [] c.requires.place in
    let n = told c.args.normals.now c.args.k c.dimension-d.result c.index-normals-k.result c.requires.place e c.dimension-d.ensures.value (c.requires.same c.args.k [] c.requires.place) in
    let n2 : length (get_or c.args.normals.now 0 []) ≡ numbers_of_form d = h 0 [] (let a = c.requires.place in omega arith) in
    let f : numbers_of_form d ≤ 21 = (let m = at_most_21 c.dimension-d.result c.dimension-d.ensures.high in omega arith) in
    let s = case_of c.in-Ok.last c.args.normals.now c.args.k d c.in-Ok.ensures.ready c.in-Ok.ensures.system c.in-Ok.ensures.rows c.requires.place c.requires.same n2 f in
    let o : objective_of c.in-Ok.last ≡ pos 0 = sym c.objective.ensures ∙ (simp to_z-of_z at (ap (to_z w128) c.if-objective-eq0.true)) in
    decided_combination c.in-Ok.last c.args.normals.now c.args.k d c.requires.positive.0 (verdict_of c.combination.result) s o c.requires.positive.1 c.combination.ensures

pub returns-then-objective-eq0-clause-alone : goal.returns-then-objective-eq0-clause-alone
returns-then-objective-eq0-clause-alone c = λ d h.
    let x : FitsSigned w128 c.objective.result = search rules in
    let e : c.index-normals-k.result ≡ get_or c.args.normals.now c.args.k [] = c.index-normals-k.is ∙ get_or_any c.args.normals.now c.args.k c.index-normals-k.result [] c.requires.place in
    let n = told c.args.normals.now c.args.k c.dimension-d.result c.index-normals-k.result c.requires.place e c.dimension-d.ensures.value (c.requires.same c.args.k [] c.requires.place) in
    let n2 : length (get_or c.args.normals.now 0 []) ≡ numbers_of_form d = h 0 [] (let a = c.requires.place in omega arith) in
    let f : numbers_of_form d ≤ 21 = (let m = at_most_21 c.dimension-d.result c.dimension-d.ensures.high in omega arith) in
    let s = case_of c.in-Ok.last c.args.normals.now c.args.k d c.in-Ok.ensures.ready c.in-Ok.ensures.system c.in-Ok.ensures.rows c.requires.place c.requires.same n2 f in
    let o : objective_of c.in-Ok.last ≡ pos 0 = sym c.objective.ensures ∙ (simp to_z-of_z at (ap (to_z w128) c.if-objective-eq0.true)) in
    no_wall d c.args.normals.now c.args.k c.requires.positive.0 (verdict_of c.combination.result) c.requires.place c.requires.positive.1
    (decided_combination c.in-Ok.last c.args.normals.now c.args.k d c.requires.positive.0 (verdict_of c.combination.result) s o c.requires.positive.1 c.combination.ensures)

pub wall-requires-clause-some : goal.wall-requires-clause-some
wall-requires-clause-some c =
    let e : c.index-normals-k.result ≡ get_or c.args.normals.now c.args.k [] = c.index-normals-k.is ∙ get_or_any c.args.normals.now c.args.k c.index-normals-k.result [] c.requires.place in
    let n = told c.args.normals.now c.args.k c.dimension-d.result c.index-normals-k.result c.requires.place e c.dimension-d.ensures.value (c.requires.same c.args.k [] c.requires.place) in
    let s = case_of c.in-Ok.last c.args.normals.now c.args.k c.dimension-d.result c.in-Ok.ensures.ready c.in-Ok.ensures.system c.in-Ok.ensures.rows c.requires.place c.requires.same n (at_most_21 c.dimension-d.result c.dimension-d.ensures.high) in
    let o : objective_of c.in-Ok.last ≢ pos 0 = λ z. c.if-objective-eq0.false (ap (of_z w128) (c.objective.ensures ∙ z)) in
    wall_occupied c.in-Ok.last c.args.normals.now c.args.k c.dimension-d.result s (some_numbers c.dimension-d.result c.dimension-d.ensures.low) o c.in-Ok.ensures.stopped

pub returns-in-Ok-clause-right : goal.returns-in-Ok-clause-right
returns-in-Ok-clause-right c = λ d h.
    let e : c.index-normals-k.result ≡ get_or c.args.normals.now c.args.k [] = c.index-normals-k.is ∙ get_or_any c.args.normals.now c.args.k c.index-normals-k.result [] c.requires.place in
    let n = told c.args.normals.now c.args.k c.dimension-d.result c.index-normals-k.result c.requires.place e c.dimension-d.ensures.value (c.requires.same c.args.k [] c.requires.place) in
    let n2 : length (get_or c.args.normals.now 0 []) ≡ numbers_of_form d = h 0 [] (let a = c.requires.place in omega arith) in
    let f : numbers_of_form d ≤ 21 = (let m = at_most_21 c.dimension-d.result c.dimension-d.ensures.high in omega arith) in
    let s = case_of c.in-Ok.last c.args.normals.now c.args.k d c.in-Ok.ensures.ready c.in-Ok.ensures.system c.in-Ok.ensures.rows c.requires.place c.requires.same n2 f in
    let o : objective_of c.in-Ok.last ≢ pos 0 = λ z. c.if-objective-eq0.false (ap (of_z w128) (c.objective.ensures ∙ z)) in
    decided_wall c.in-Ok.last c.args.normals.now c.args.k d c.wall.result s o c.in-Ok.ensures.stopped c.wall.ensures.reduced c.wall.ensures.below
