use Rattle.std.proofs.Common.{get_or, []}
use Rattle.std.proofs.lemmas.List.Elements.{Contains-get_or}
use Rattle.lt_triang.specs.Across.{IsOpen}
use Rattle.lt_triang.specs.Carried.{IsTakenOver}
use Rattle.lt_triang.proofs.Carried.{carried_wall}
use Rattle.lt_triang.proofs.Made.{not_open}
use Rattle.lt_triang.proofs.carrying.wall_of.Goals as goal

pub returns-in-Some : goal.returns-in-Some
returns-in-Some c =
    let t = c.args.classes.now in
    let s = get_or t c.args.n [] in
    let k : IsTakenOver c.args.places.now c.args.known.now c.in-Some.wall = rw c.in-Some.is at c.in_ok-wall.ensures in
    let old = c.requires.known in
    carried_wall c.args.d t old.0 c.args.places.now s c.args.i k.place c.args.known.now c.in-Some.wall c.requires.one
    (Contains-get_or t c.args.n [] c.requires.class) c.requires.place old.1 old.2 k.known k.moved

pub unreachable-requires : goal.unreachable-requires
unreachable-requires c =
    let t = c.args.classes.now in
    let s = get_or t c.args.n [] in
    let none : IsOpen c.args.d t s c.args.i = rw c.in-None.is at c.in_ok-wall-2.ensures in
    not_open c.args.d t s c.args.i c.requires.triangulation (Contains-get_or t c.args.n [] c.requires.class) c.requires.place (λ m j g l. none m j g l)
