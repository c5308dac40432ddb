use Rattle.std.proofs.Common.{arith, ◌≡◌, ◌∙◌, ℕ, ℤ, List, [], length, get_or, sym, subst}
use Rattle.std.proofs.lemmas.Bool.{false≢true}
use Rattle.std.specs.List.{Contains}
use Rattle.lt_model.specs.Limits.{span_limit}
use Rattle.lt_model.specs.Flat.{rows}
use Rattle.lt_model.specs.Matrices.{IsSquare}
use Rattle.lt_model.proofs.Flat.{rows_square}
use Rattle.lt_triang.proofs.Gaps.{member_near, within_from_near}
use Rattle.lt_triang.proofs.Made.{classes_of}
use Rattle.lt_match.specs.Images.{GoesInto}
use Rattle.lt_triang.specs.Kept.{IsTriangulation}
use Rattle.lt_match.proofs.Tested.{dimension_is, first_member, carries_tested, tested_count, tested_all, tested_inverse}
use Rattle.lt_match.proofs.carrying.carries_classes.Goals.{After-dimension-dimension}
use Rattle.lt_match.proofs.carrying.carries_classes.Goals as goal

target : (c : After-dimension-dimension) → IsTriangulation c.args.d c.args.to.now
target c = subst (λ (n : ℕ). IsTriangulation n c.args.to.now) (sym (dimension_is c.dimension-dimension.result c.args.to.now c.dimension-dimension.ensures) ∙ c.requires.target) c.dimension-dimension.ensures

pub all_go-requires-clause-target : goal.all_go-requires-clause-target
all_go-requires-clause-target c = target (goal.at.all_go-requires-clause-target c).After-dimension-dimension

pub returns-then-from-len : goal.returns-then-from-len
returns-then-from-len c =
    let d = c.args.d in
    ((λ e. absurd (false≢true e)), (λ g. absurd (c.if-from-len.true (tested_count d (rows d c.args.u.now) c.args.from.now c.args.to.now c.requires.origin (target (goal.at.returns-then-from-len c).After-dimension-dimension) g ∙ sym c.len.ensures))))

pub returns-then-not-all_go : goal.returns-then-not-all_go
returns-then-not-all_go c =
    let d = c.args.d in
    ((λ e. absurd (false≢true e)), (λ g. absurd (false≢true (sym c.if-not-all_go.true ∙ c.all_go.ensures.1 (λ n _ p. tested_all d (rows d c.args.u.now) c.args.from.now c.args.to.now c.requires.origin g n p)))))

pub has_inverse-requires-clause-near : goal.has_inverse-requires-clause-near
has_inverse-requires-clause-near c =
    let d = c.args.d in
    let from = c.args.from.now in
    let h = c.requires.origin in
    let m : Contains from (get_or from 0 []) = first_member d from h in
    rw c.member.ensures (within_from_near (span_limit d) d (get_or from 0 []) (h.classes (get_or from 0 []) m) (member_near d from (get_or from 0 []) (classes_of d from h) m))

pub has_inverse-requires-clause-goes : goal.has_inverse-requires-clause-goes
has_inverse-requires-clause-goes c =
    let d = c.args.d in
    let from = c.args.from.now in
    let g : GoesInto d (rows d c.args.u.now) (get_or from 0 []) c.args.to.now = c.all_go.ensures.0 c.if-not-all_go.false 0 (omega arith) c.requires.origin.occupied in
    (c.args.to.now, (target (goal.at.has_inverse-requires-clause-goes c).After-dimension-dimension), rw c.member.ensures g)

pub returns : goal.returns
returns c =
    let d = c.args.d in
    let from = c.args.from.now in
    let to = c.args.to.now in
    let u : List (List ℤ) = rows d c.args.u.now in
    let square : IsSquare d u = rows_square d c.args.u.now c.requires.square in
    let count : length from ≡ length to = c.if-from-len.false ∙ c.len.ensures in (
      λ e. carries_tested d u from to c.requires.origin square count (λ n p. c.all_go.ensures.0 c.if-not-all_go.false n (omega arith) p) (c.has_inverse.ensures.0 e),
      λ g. c.has_inverse.ensures.1 (tested_inverse d u from to g),
    )
