use Rattle.lt_lattice.proofs.Padded.{fields, difference_holds}
use Rattle.lt_lattice.proofs.points.Point.minus.Goals as goal

pub differences-requires-clause-left : goal.differences-requires-clause-left
differences-requires-clause-left c = (fields _ _ c.args.self.now c.self.view_is c.self.told c.self.invariant).all_within

pub differences-requires-clause-right : goal.differences-requires-clause-right
differences-requires-clause-right c = (fields _ _ c.args.other.now c.other.view_is c.other.told c.other.invariant).all_within

pub checked-requires-clause-padded : goal.checked-requires-clause-padded
checked-requires-clause-padded c =
    let a = fields _ _ c.args.self.now c.self.view_is c.self.told c.self.invariant in
    let b = fields _ _ c.args.other.now c.other.view_is c.other.told c.other.invariant in
    (difference_holds _ _ _ _ c.args.self.now c.args.other.now _ a b c.requires c.self.invariant.high c.differences.ensures).padded

pub returns-clause-value : goal.returns-clause-value
returns-clause-value c =
    let a = fields _ _ c.args.self.now c.self.view_is c.self.told c.self.invariant in
    let b = fields _ _ c.args.other.now c.other.view_is c.other.told c.other.invariant in
    rw (difference_holds _ _ _ _ c.args.self.now c.args.other.now _ a b c.requires c.self.invariant.high c.differences.ensures).is at c.checked.ensures.value

pub returns-clause-within : goal.returns-clause-within
returns-clause-within c =
    let a = fields _ _ c.args.self.now c.self.view_is c.self.told c.self.invariant in
    let b = fields _ _ c.args.other.now c.other.view_is c.other.told c.other.invariant in
    rw (difference_holds _ _ _ _ c.args.self.now c.args.other.now _ a b c.requires c.self.invariant.high c.differences.ensures).is at c.checked.ensures.within
