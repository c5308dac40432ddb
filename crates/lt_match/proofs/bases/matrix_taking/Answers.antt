use Rattle.std.proofs.Common.{rules, arith, ◌≡◌, ◌*◌, ◌∙◌, subst, ℕ, [], get_or}
use Rattle.std.proofs.lemmas.Int.{to_z-of_z}
use mir.Val.{SFits}
use mir.Syntax.{w128}
use Rattle.lt_model.specs.Facets.{number_at}
use Rattle.lt_model.specs.Flat.{rows}
use Rattle.lt_model.proofs.Flat.{rows_square}
use Rattle.lt_match.proofs.Entries.{AreEntries, entries_more, entries_at}
use Rattle.lt_match.proofs.Taking.{entries_take, entries_taken}
use Rattle.lt_match.proofs.bases.matrix_taking.Goals as goal

pub returns-in-None-clause-taking : goal.returns-in-None-clause-taking
returns-in-None-clause-taking c = λ points s first b w square takes.
    c.in-None.ensures (number_at c.loop-j.j (get_or w c.loop-k.k [])) (entries_taken c.args.d points c.args.targets.now c.args.basis.now.scales.items c.args.basis.now.terms.items w s b c.requires.count square takes c.loop-k.k c.loop-j.j c.loop-k-test.true c.loop-j-test.true)

pub loop-j-preserved : goal.loop-j-preserved
loop-j-preserved c =
    let f : SFits w128 c.in-Some.number = search rules in
    rw (c.push.ensures.items, to_z-of_z w128 c.in-Some.number f)
    (entries_more c.args.d c.args.basis.now.scales.items c.args.basis.now.terms.items c.args.targets.now c.loop-k.k c.loop-j.j c.loop-j.numbers.items c.in-Some.number c.loop-j.invariant c.loop-j-test.true c.in-Some.ensures.0 c.in-Some.ensures.1)

pub returns-clause-taking : goal.returns-clause-taking
returns-clause-taking c = λ points s first b.
    let d = c.args.d in
    let full : c.loop-k.k ≡ d = omega arith in
    let numbers = c.loop-k.numbers.items in
    let all : AreEntries d c.args.basis.now.scales.items c.args.basis.now.terms.items c.args.targets.now (d * d) numbers = subst (λ (k : ℕ). AreEntries d c.args.basis.now.scales.items c.args.basis.now.terms.items c.args.targets.now (k * d) numbers) full c.loop-k.invariant in
    let is : c.of.result ≡ numbers = c.of.ensures ∙ c.as_slice.ensures.value in
    rw is (entries_take d points c.args.targets.now c.args.basis.now.scales.items c.args.basis.now.terms.items (rows d numbers) c.requires.low s first b c.requires.count c.requires.dimension c.requires.first (rows_square d numbers all.count) (entries_at d c.args.basis.now.scales.items c.args.basis.now.terms.items c.args.targets.now numbers all))
