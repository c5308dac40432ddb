use Rattle.std.proofs.Common.{rules, arith, ◌≡◌, ◌<◌, ◌≤◌, ℕ, ◌++◌, ◌∷◌, [], length, FitsSigned}
use Rattle.std.proofs.lemmas.Int.{to_z-of_z}
use Rattle.std.specs.Int.{w128}
use Rattle.lt_model.specs.Forms.{numbers_of_form}
use Rattle.lt_lattice.proofs.Lengths.{at_most_21}
use Rattle.lt_regulator.proofs.Numbered.{place_below}
use Rattle.lt_regulator.proofs.Excesses.{written_start, written_more, written_end, written_whole, written_below}
use Rattle.lt_regulator.proofs.excess.excess_of.Goals as goal

room : (d k : ℕ) → d ≤ 6 → k < numbers_of_form d → k < 21
room d k h p = let e : numbers_of_form d ≤ 21 = at_most_21 d h in omega (arith, e, p)

pub loop-j-init : goal.loop-j-init
loop-j-init c = written_start c.args.d c.loop-i.i c.args.s.now c.args.w.now c.args.numbers.now c.loop-i.all.items c.loop-i.invariant c.loop-i-test.true

pub push-requires : goal.push-requires
push-requires c =
    (omega arith, room c.args.d (length c.loop-j.all.items) c.requires.high (place_below c.args.d c.loop-i.i c.loop-j.j (length c.loop-j.all.items) c.loop-j.invariant.place c.loop-j-test.true))

pub loop-j-preserved : goal.loop-j-preserved
loop-j-preserved c =
    let x = c.excess_at.result in
    let fits : FitsSigned w128 x = search rules in
    let e : c.push.new.self.items ≡ c.loop-j.all.items ++ x ∷ [] = rw (to_z-of_z w128 x fits) at c.push.ensures.items in
    written_more c.args.d c.args.s.now c.args.w.now c.args.numbers.now c.requires.count c.requires.points c.requires.dimension c.requires.numbers c.loop-i.i c.loop-j.j c.loop-j.all.items c.push.new.self.items x c.loop-j.invariant c.loop-j-test.true c.excess_at.ensures e

pub loop-i-preserved : goal.loop-i-preserved
loop-i-preserved c = written_end c.args.d c.loop-i.i c.loop-j.j c.args.s.now c.args.w.now c.args.numbers.now c.loop-j.all.items c.loop-j.invariant c.loop-j-test.false

pub returns : goal.returns
returns c = record {
  value = written_whole c.args.d c.args.s.now c.args.w.now c.args.numbers.now c.requires.count c.requires.points c.requires.dimension c.requires.numbers c.loop-i.i c.loop-i.all.items c.loop-i.invariant c.loop-i-test.false;
  below = written_below c.args.d c.args.s.now c.args.w.now c.args.numbers.now c.requires.count c.requires.points c.requires.dimension c.requires.numbers c.loop-i.i c.loop-i.all.items c.loop-i.invariant c.loop-i-test.false c.requires.high c.requires.near c.requires.near_too c.requires.below;
}
