use Rattle.lt_lattice.proofs.Padded.{fields, sum_holds}
use Rattle.lt_lattice.proofs.points.Point.plus.Goals as goal

pub sums-requires-clause-left : goal.sums-requires-clause-left
sums-requires-clause-left c = (fields _ _ c.args.self.now c.self.view_is c.self.told c.self.invariant).all_within

pub sums-requires-clause-right : goal.sums-requires-clause-right
sums-requires-clause-right c = (fields _ _ c.args.other.now c.other.view_is c.other.told c.other.invariant).all_within

pub checked-requires-clause-padded : goal.checked-requires-clause-padded
checked-requires-clause-padded c =
    let a = fields _ _ c.args.self.now c.self.view_is c.self.told c.self.invariant in
    let b = fields _ _ c.args.other.now c.other.view_is c.other.told c.other.invariant in
    (sum_holds _ _ _ _ c.args.self.now c.args.other.now _ a b c.requires c.self.invariant.high c.sums.ensures).padded

pub returns-clause-value : goal.returns-clause-value
returns-clause-value c =
    let a = fields _ _ c.args.self.now c.self.view_is c.self.told c.self.invariant in
    let b = fields _ _ c.args.other.now c.other.view_is c.other.told c.other.invariant in
    rw (sum_holds _ _ _ _ c.args.self.now c.args.other.now _ a b c.requires c.self.invariant.high c.sums.ensures).is at c.checked.ensures.value

pub returns-clause-within : goal.returns-clause-within
returns-clause-within c =
    let a = fields _ _ c.args.self.now c.self.view_is c.self.told c.self.invariant in
    let b = fields _ _ c.args.other.now c.other.view_is c.other.told c.other.invariant in
    rw (sum_holds _ _ _ _ c.args.self.now c.args.other.now _ a b c.requires c.self.invariant.high c.sums.ensures).is at c.checked.ensures.within
