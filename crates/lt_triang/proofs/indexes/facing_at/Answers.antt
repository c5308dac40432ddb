use Rattle.std.proofs.Common.{get_or, []}
use Rattle.std.proofs.lemmas.List.Elements.{Contains-get_or}
use Rattle.lt_triang.proofs.Gaps.{member_near}
use Rattle.lt_triang.proofs.Itself.{not_itself}
use Rattle.lt_triang.proofs.indexes.facing_at.Goals as goal

pub facing-requires : goal.facing-requires
facing-requires c =
    let t = c.args.classes.now in
    let h = c.requires.members in
    let mine = Contains-get_or t c.args.n [] c.requires.class in
    let theirs = Contains-get_or t c.args.class [] c.requires.class_too in
    rw (c.class_at.ensures, c.member.ensures) (record {
      columns = c.requires.columns;
      low = h.low;
      high = h.high;
      class = h.classes (get_or t c.args.n []) mine;
      class_too = h.classes (get_or t c.args.class []) theirs;
      place = c.requires.place;
      place_too = c.requires.place_too;
      near = member_near c.args.d t (get_or t c.args.n []) h mine;
      near_too = member_near c.args.d t (get_or t c.args.class []) h theirs;
    })

pub returns-then-vertex-i-clause-facing : goal.returns-then-vertex-i-clause-facing
returns-then-vertex-i-clause-facing c =
    let t = c.args.classes.now in
    let h = c.requires.members in
    rw (c.if-class-n.true, c.if-vertex-i.true) (not_itself c.args.d (get_or t c.args.n []) c.args.i h.low (h.classes (get_or t c.args.n []) (Contains-get_or t c.args.n [] c.requires.class)) c.requires.place)

pub returns-else-class-n : goal.returns-else-class-n
returns-else-class-n c = rw (c.class_at.ensures, c.member.ensures) at c.facing.ensures
