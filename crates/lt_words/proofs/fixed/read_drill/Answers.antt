use Rattle.lt_words.specs.declared.words.Kind.TheVariants as kind
use Rattle.lt_words.specs.Grammar.{texts}
use Rattle.std.proofs.lemmas.List.{length-map}
use Rattle.lt_words.proofs.Tails.{dimension_fault, seed_fault, turns_fault, fifth_word, with_dimension, with_seed, with_turns, fault_at_exit}
use Rattle.std.proofs.Common.{◌≤◌, sym, subst, arith}
use Rattle.lt_words.proofs.fixed.read_drill.Goals as goal

pub returns-in_err-d-clause-fault : goal.returns-in_err-d-clause-fault
returns-in_err-d-clause-fault c =
    let ws = texts c.args.words.now in
    fault_at_exit c.from_residual.result c.in_err-d.field-0.0 ws 1 c.from_residual.ensures.1 c.in_err-d.ensures.place (dimension_fault ws kind.Drill (λ e. cc) c.requires c.in_err-d.ensures.none)

pub returns-in_err-seed-clause-fault : goal.returns-in_err-seed-clause-fault
returns-in_err-seed-clause-fault c =
    let ws = texts c.args.words.now in
    let (r, w) = c.in_ok-d.ensures.found in
    let front = with_dimension ws kind.Drill c.in_ok-d.d c.requires w in
    fault_at_exit c.from_residual-in_err-seed.result c.in_err-seed.field-0.0 ws 2 c.from_residual-in_err-seed.ensures.1 c.in_err-seed.ensures.place
    (seed_fault ws c.in_ok-d.d r front (λ s below has. c.in_err-seed.ensures.none s (omega arith, omega (arith, below)) has))

pub returns-in_err-length-clause-fault : goal.returns-in_err-length-clause-fault
returns-in_err-length-clause-fault c =
    let ws = texts c.args.words.now in
    let (r, w) = c.in_ok-d.ensures.found in
    let (below, v) = c.in_ok-seed.ensures.found in
    let front = with_seed ws c.in_ok-d.d c.in_ok-seed.seed (with_dimension ws kind.Drill c.in_ok-d.d c.requires w) v in
    fault_at_exit c.from_residual-in_err-length.result c.in_err-length.field-0.0 ws 3 c.from_residual-in_err-length.ensures.1 c.in_err-length.ensures.place
    (turns_fault ws c.in_ok-d.d c.in_ok-seed.seed r (omega (arith, below.1)) front (λ l few has. c.in_err-length.ensures.none l (omega arith, subst (λ m. l ≤ m) (sym c.turn_limit.ensures) few) has))

pub returns-in_err-end_at-clause-fault : goal.returns-in_err-end_at-clause-fault
returns-in_err-end_at-clause-fault c =
    let ws = texts c.args.words.now in
    let (r, w) = c.in_ok-d.ensures.found in
    let (below, v) = c.in_ok-seed.ensures.found in
    let (few, u) = c.in_ok-length.ensures.found in
    let front = with_turns ws c.in_ok-d.d c.in_ok-seed.seed c.in_ok-length.length (with_seed ws c.in_ok-d.d c.in_ok-seed.seed (with_dimension ws kind.Drill c.in_ok-d.d c.requires w) v) u in
    let more = c.in_err-end_at.ensures.more in
    fault_at_exit c.from_residual-in_err-end_at.result c.in_err-end_at.field-0.0 ws 4 c.from_residual-in_err-end_at.ensures.1 c.in_err-end_at.ensures.place
    (fifth_word ws c.in_ok-d.d c.in_ok-seed.seed c.in_ok-length.length r (omega (arith, below.1)) (subst (λ m. c.in_ok-length.length ≤ m) c.turn_limit.ensures few.1) front (omega (arith, more, length-map c.args.words.now (λ x. x.now))))
