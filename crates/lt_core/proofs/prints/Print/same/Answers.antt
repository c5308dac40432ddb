use Rattle.std.proofs.Common.{◌≡◌, ◌∙◌, refl, arith, length, pos}
use Rattle.std.proofs.lemmas.List.{get_or_default, same_lists}
use Rattle.lt_core.proofs.prints.Print.same.Goals as goal

pub returns : goal.returns
returns c =
    let xs = c.args.self.now in
    let ys = c.args.other.now in
    let n : length xs ≡ length ys = omega (arith, c.len.ensures, c.len-else-self-other.ensures, c.if-len.false) in
    let e : xs ≡ ys = same_lists xs ys n (λ k d h. get_or_default xs k d (pos 0) h ∙ c.loop-k.invariant k (omega (arith, h, n, c.loop-k-test.false, c.len-k-end.ensures)) ∙ get_or_default ys k (pos 0) d (omega (arith, h, n))) in
    ((λ y. e), (λ y. refl))
