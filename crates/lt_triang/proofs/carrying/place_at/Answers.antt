use Rattle.std.proofs.Common.{arith, ◌≡◌, ◌<◌, ◌∙◌, sym, ℕ, subst, length, get_or, []}
use Rattle.std.proofs.lemmas.List.{get_or_read}
use Rattle.std.specs.Bool.{Decides}
use Rattle.lt_triang.proofs.Carried.{same_class}
use Rattle.lt_triang.proofs.carrying.place_at.Goals as goal

pub returns-then-eq : goal.returns-then-eq
returns-then-eq c = λ n h.
    let e : c.args.next ≡ n = cc in
    let l : n < length c.args.classes.now = omega (arith, e, c.if-next-classes.true) in
    let decides : Decides c.eq.result (c.index-classes-next.result ≡ c.args.class.now) = rw c.eq.ensures (same_class c.index-classes-next.result c.args.class.now) in
    let same : c.index-classes-next.result ≡ c.args.class.now = decides.0 c.if-eq.true in
    let there : c.index-classes-next.result ≡ get_or c.args.classes.now n [] =
    get_or_read c.args.classes.now n c.index-classes-next.result l (subst (λ (m : ℕ). c.index-classes-next.result ≡ get_or c.args.classes.now m c.index-classes-next.result) e c.index-classes-next.is) [] in
    (l, sym there ∙ same)
