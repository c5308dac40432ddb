use Rattle.std.proofs.Common.{get_or, []}
use Rattle.lt_triang.specs.Walled.{IsWall}
use Rattle.lt_triang.proofs.Mirrored.{wall_places, wall_mirrored}
use Rattle.lt_triang.proofs.Rowed.{row_wall, wall_made}
use Rattle.lt_triang.proofs.indexes.wall_at.Goals as goal

pub mirrored-requires : goal.mirrored-requires
mirrored-requires c =
    let t = c.args.classes.now in
    let w = c.at-wall.result.now in
    let k : IsWall c.args.d t (get_or t c.args.class []) c.args.vertex w = row_wall c.args.d t c.args.n c.args.rows.now c.args.class c.args.vertex c.index-rows-class.result w c.requires.rows c.if-class-n.true c.requires.place_too c.index-rows-class.is c.at-wall.ensures in
    wall_places c.args.d t c.args.class c.args.vertex w c.requires.members c.requires.class_too c.requires.place_too k

pub returns-in-Some : goal.returns-in-Some
returns-in-Some c =
    let t = c.args.classes.now in
    let w = c.at-wall.result.now in
    let k : IsWall c.args.d t (get_or t c.args.class []) c.args.vertex w = row_wall c.args.d t c.args.n c.args.rows.now c.args.class c.args.vertex c.index-rows-class.result w c.requires.rows c.if-class-n.true c.requires.place_too c.index-rows-class.is c.at-wall.ensures in
    wall_mirrored c.args.d t c.args.n c.args.i c.args.class c.args.vertex w c.in-Some.mirrored c.requires.members c.requires.class_too c.requires.place_too k (cc) (cc) c.in-Some.ensures

pub returns-in_ok-wall-in-Some-facing_at : goal.returns-in_ok-wall-in-Some-facing_at
returns-in_ok-wall-in-Some-facing_at c =
    let t = c.args.classes.now in
    let o = c.in-Some-facing_at.outer in
    wall_made c.args.d t (get_or t c.args.n []) c.args.i c.args.class c.args.vertex c.in-Some-facing_at._shift o.vertex o.expression.scale o.expression.coefficients c.in_ok-wall-in-Some-facing_at.wall c.requires.members c.requires.class_too c.requires.place_too c.in-Some-facing_at.ensures.facing c.in-Some-facing_at.ensures.outer c.in_ok-wall-in-Some-facing_at.ensures
