use Rattle.std.proofs.Common.{◌≡◌, ◌∙◌, ℕ, ℤ, List, [], get_or, sym, subst}
use Rattle.std.proofs.lemmas.Bool.{false≢true}
use Rattle.lt_model.specs.Limits.{span_limit}
use Rattle.lt_model.specs.Flat.{rows}
use Rattle.lt_model.specs.Matrices.{IsSquare}
use Rattle.lt_model.proofs.Flat.{rows_square}
use Rattle.lt_match.specs.Images.{TakesTo}
use Rattle.lt_match.specs.Matches.{in_order}
use Rattle.lt_match.proofs.Orders.{order_dimension, order_first, order_near, takes_from}
use Rattle.lt_match.proofs.Tested.{first_member}
use Rattle.lt_match.proofs.Attempts.{first_class, class_near, class_within, order_simplex, match_goes, match_comes_back, match_made}
use Rattle.lt_match.proofs.matching.attempt.Goals as goal

pub targets-targets-requires-clause-near : goal.targets-targets-requires-clause-near
targets-targets-requires-clause-near c = class_near c.args.d c.args.to.now c.args.s.now c.requires.target c.requires.member

pub matrix_taking-requires-clause-dimension : goal.matrix_taking-requires-clause-dimension
matrix_taking-requires-clause-dimension c =
    rw (c.as_slice.ensures.value, c.targets-targets.ensures) (order_dimension c.args.d c.args.s.now c.args.order.now (c.requires.target.classes c.args.s.now c.requires.member) c.requires.order)

pub matrix_taking-requires-clause-first : goal.matrix_taking-requires-clause-first
matrix_taking-requires-clause-first c =
    rw (c.as_slice.ensures.value, c.targets-targets.ensures) (order_first c.args.d c.args.s.now c.args.order.now (c.requires.target.classes c.args.s.now c.requires.member) c.requires.order)

pub matrix_taking-requires-clause-near : goal.matrix_taking-requires-clause-near
matrix_taking-requires-clause-near c =
    rw (c.as_slice.ensures.value, c.targets-targets.ensures)
    (order_near (span_limit c.args.d) c.args.d c.args.s.now c.args.order.now (c.requires.target.classes c.args.s.now c.requires.member) (class_near c.args.d c.args.to.now c.args.s.now c.requires.target c.requires.member) c.requires.order)

pub returns-in-None : goal.returns-in-None
returns-in-None c = λ w m.
    let d = c.args.d in
    let s = first_class d c.args.from.now c.requires.origin in
    let told = rw (c.as_slice.ensures.value, c.targets-targets.ensures) at (c.in-None.ensures.taking (get_or c.args.from.now 0 []) s.simplex s.first c.requires.basis) in
    told w m.candidate.square (takes_from d (get_or c.args.from.now 0 []) c.args.s.now c.args.order.now w c.requires.order m.candidate)

-- where the found matrix takes the first class
taking : (d : ℕ) (from to : List (List (List ℤ))) (u : List ℤ) (now items : List (List ℤ)) (s : List (List ℤ)) (order : List ℕ) → now ≡ items → items ≡ in_order s order → TakesTo d (rows d u) (get_or from 0 []) now → TakesTo d (rows d u) (get_or from 0 []) (in_order s order)
taking d from to u now items s order e f h = subst (TakesTo d (rows d u) (get_or from 0 [])) (e ∙ f) h

pub returns-then-not-all_go : goal.returns-then-not-all_go
returns-then-not-all_go c = λ w m.
    let d = c.args.d in
    let from = c.args.from.now in
    let to = c.args.to.now in
    let s = first_class d from c.requires.origin in
    let square : IsSquare d (rows d c.in-Some.u) = rows_square d c.in-Some.u c.in-Some.ensures.size in
    let takes = taking d from to c.in-Some.u c.as_slice.result.now c.targets-targets.result.items c.args.s.now c.args.order.now c.as_slice.ensures.value c.targets-targets.ensures (c.in-Some.ensures.taking (get_or from 0 []) s.simplex s.first c.requires.basis) in
    let all = match_goes d from to c.args.s.now c.args.order.now (rows d c.in-Some.u) c.requires.origin c.requires.target c.requires.member c.requires.order square takes w m in
    false≢true (sym c.if-not-all_go.true ∙ (rw c.classes.ensures at c.all_go.ensures).1 (λ n _ l. all n l))

pub comes_back-requires-clause-count : goal.comes_back-requires-clause-count
comes_back-requires-clause-count c = let s = first_class c.args.d c.args.from.now c.requires.origin in rw (c.vertices.ensures, c.class.ensures) s.simplex.count

pub comes_back-requires-clause-dimension : goal.comes_back-requires-clause-dimension
comes_back-requires-clause-dimension c = let s = first_class c.args.d c.args.from.now c.requires.origin in rw (c.vertices.ensures, c.class.ensures) s.simplex.points

pub comes_back-requires-clause-first : goal.comes_back-requires-clause-first
comes_back-requires-clause-first c = let s = first_class c.args.d c.args.from.now c.requires.origin in rw (c.vertices.ensures, c.class.ensures) s.first

pub comes_back-requires-clause-near : goal.comes_back-requires-clause-near
comes_back-requires-clause-near c = rw (c.vertices.ensures, c.class.ensures) (class_within c.args.d c.args.from.now (get_or c.args.from.now 0 []) c.requires.origin (first_member c.args.d c.args.from.now c.requires.origin))

pub comes_back-requires-clause-simplex : goal.comes_back-requires-clause-simplex
comes_back-requires-clause-simplex c =
    let d = c.args.d in
    let from = c.args.from.now in
    let to = c.args.to.now in
    let s = first_class d from c.requires.origin in
    let square : IsSquare d (rows d c.in-Some.u) = rows_square d c.in-Some.u c.in-Some.ensures.size in
    let takes = taking d from to c.in-Some.u c.as_slice.result.now c.targets-targets.result.items c.args.s.now c.args.order.now c.as_slice.ensures.value c.targets-targets.ensures (c.in-Some.ensures.taking (get_or from 0 []) s.simplex s.first c.requires.basis) in
    rw (c.as_slice-2.ensures.value, c.targets-targets.ensures) (order_simplex d from to c.args.s.now c.args.order.now (rows d c.in-Some.u) c.requires.origin c.requires.target c.requires.member c.requires.order square takes)

pub comes_back-requires-clause-first_image : goal.comes_back-requires-clause-first_image
comes_back-requires-clause-first_image c =
    rw (c.as_slice-2.ensures.value, c.targets-targets.ensures) (order_first c.args.d c.args.s.now c.args.order.now (c.requires.target.classes c.args.s.now c.requires.member) c.requires.order)

pub comes_back-requires-clause-near_images : goal.comes_back-requires-clause-near_images
comes_back-requires-clause-near_images c =
    rw (c.as_slice-2.ensures.value, c.targets-targets.ensures)
    (order_near (span_limit c.args.d) c.args.d c.args.s.now c.args.order.now (c.requires.target.classes c.args.s.now c.requires.member) (class_near c.args.d c.args.to.now c.args.s.now c.requires.target c.requires.member) c.requires.order)

pub returns-then-not-comes_back : goal.returns-then-not-comes_back
returns-then-not-comes_back c = λ w m.
    let d = c.args.d in
    let from = c.args.from.now in
    let to = c.args.to.now in
    let s = first_class d from c.requires.origin in
    let square : IsSquare d (rows d c.in-Some.u) = rows_square d c.in-Some.u c.in-Some.ensures.size in
    let takes = taking d from to c.in-Some.u c.as_slice.result.now c.targets-targets.result.items c.args.s.now c.args.order.now c.as_slice.ensures.value c.targets-targets.ensures (c.in-Some.ensures.taking (get_or from 0 []) s.simplex s.first c.requires.basis) in
    let back = match_comes_back d from to c.args.s.now c.args.order.now (rows d c.in-Some.u) c.requires.origin c.requires.target c.requires.member c.requires.order square takes w m in
    let told = rw (c.vertices.ensures, c.class.ensures, c.as_slice-2.ensures.value, c.targets-targets.ensures) at c.comes_back.ensures in
    false≢true (sym c.if-not-comes_back.true ∙ told.1 back)

pub returns : goal.returns
returns c =
    let d = c.args.d in
    let from = c.args.from.now in
    let to = c.args.to.now in
    let s = first_class d from c.requires.origin in
    let square : IsSquare d (rows d c.in-Some.u) = rows_square d c.in-Some.u c.in-Some.ensures.size in
    let takes = taking d from to c.in-Some.u c.as_slice.result.now c.targets-targets.result.items c.args.s.now c.args.order.now c.as_slice.ensures.value c.targets-targets.ensures (c.in-Some.ensures.taking (get_or from 0 []) s.simplex s.first c.requires.basis) in
    let told = rw (c.vertices.ensures, c.class.ensures, c.as_slice-2.ensures.value, c.targets-targets.ensures) at c.comes_back.ensures in (
      c.in-Some.ensures.size,
      match_made d from to c.args.s.now c.args.order.now (rows d c.in-Some.u) c.requires.origin c.requires.target c.requires.member c.requires.order square takes c.requires.count ((rw c.classes.ensures at c.all_go.ensures).0 c.if-not-all_go.false) (told.0 c.if-not-comes_back.false),
    )
