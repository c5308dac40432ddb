use Rattle.std.proofs.Common.{◌≡◌, ◌<◌, ◌≤◌, length, get_or, arith, sym, ◌∙◌, []}
use Rattle.std.proofs.lemmas.Bool.{false≢true}
use Rattle.lt_core.proofs.Printed.{print_within, print_read, print_is, is_print}
use Rattle.lt_core.proofs.Standing.{one_more}
use Rattle.lt_core.proofs.atlas.Atlas.likely.Goals as goal

pub loop-k-init : goal.loop-k-init
loop-k-init c = λ i l f e. absurd (omega (arith, l, f))

pub returns-then-has_numbers-clause-found : goal.returns-then-has_numbers-clause-found
returns-then-has_numbers-clause-found c =
    let k = c.loop-k.k in
    let l : k < length c.args.self.now.entries = omega (arith, c.loop-k-test.true, c.entries-k-end.ensures) in
    let read = print_read c.self.inside.prints.items k c.index.result.now (print_within c.self.inside c.self.invariant c.args.self.now c.self.view_is k l) c.index.ensures in
    let same = c.has_numbers.ensures.0 c.if-has_numbers.true in (
      omega (arith, c.loop-k.auto.k),
      l,
      print_is c.self.inside c.self.invariant c.args.self.now c.self.view_is k l c.args.print.now (read ∙ same),
    )

pub returns-then-has_numbers-clause-before : goal.returns-then-has_numbers-clause-before
returns-then-has_numbers-clause-before c = λ i f l p.
    let h : i < length c.args.self.now.entries = omega (arith, l, c.loop-k-test.true, c.entries-k-end.ensures) in
    c.loop-k.invariant i l f (is_print c.self.inside c.self.invariant c.args.self.now c.self.view_is i h c.args.print.now p)

pub loop-k-preserved : goal.loop-k-preserved
loop-k-preserved c =
    let k = c.loop-k.k in
    let l : k < length c.args.self.now.entries = omega (arith, c.loop-k-test.true, c.entries-k-end.ensures) in
    let read = print_read c.self.inside.prints.items k c.index.result.now (print_within c.self.inside c.self.invariant c.args.self.now c.self.view_is k l) c.index.ensures in
    one_more (λ i. c.args.from ≤ i → get_or c.self.inside.prints.items i [] ≡ c.args.print.now → ⊥) k c.loop-k.invariant
    (λ f e. false≢true (sym c.if-has_numbers.false ∙ c.has_numbers.ensures.1 (sym read ∙ e)))

pub returns-clause-none : goal.returns-clause-none
returns-clause-none c = λ i f l p.
    c.loop-k.invariant i (omega (arith, l, c.loop-k-test.false, c.entries-k-end.ensures)) f (is_print c.self.inside c.self.invariant c.args.self.now c.self.view_is i l c.args.print.now p)
