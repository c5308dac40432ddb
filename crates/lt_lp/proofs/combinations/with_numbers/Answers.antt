use Rattle.std.proofs.Common.{rules, arith, ◌≡◌, ◌∙◌, sym, ap, ◌≤◌, ℕ, length, take}
use Rattle.std.proofs.lemmas.List.{length-map}
use Rattle.lt_model.specs.Cones.{places}
use Rattle.lt_lp.proofs.combinations.with_numbers.Goals as goal

pub push-requires : goal.push-requires
push-requires c =
    let a : length (places c.loop-i.all.items) ≡ length c.loop-i.all.items = length-map c.loop-i.all.items (λ p. p.0) in
    let b : length (places (take c.loop-i.i c.args.terms.now)) ≡ length (take c.loop-i.i c.args.terms.now) = length-map (take c.loop-i.i c.args.terms.now) (λ p. p.0) in
    let l : length c.loop-i.all.items ≡ length (take c.loop-i.i c.args.terms.now) = sym a ∙ ap (length {A = ℕ}) c.loop-i.invariant.places ∙ b in
    let m : length (take c.loop-i.i c.args.terms.now) ≤ c.loop-i.i = search rules in
    let f = c.requires.few in
    omega arith
