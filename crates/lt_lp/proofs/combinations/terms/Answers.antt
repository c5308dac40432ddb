use Rattle.std.proofs.Common.{refl, rules, FitsSigned, ◌≡◌, ◌≢◌, ◌∙◌, sym, ap, ◌++◌, ◌∷◌, [], pos, to_z}
use Rattle.std.specs.Int.{w128}
use Rattle.std.proofs.lemmas.Int.{to_z-of_z}
use Rattle.lt_lp.specs.Terms.{value_of, place_of, terms_from}
use Rattle.lt_lp.proofs.TermLoops.{terms_some, terms_none}
use Rattle.lt_lp.proofs.combinations.terms.Goals as goal
use Rattle.lt_lp.proofs.combinations.terms.Goals.{then-number-ne0, else-number-ne0}

pub loop-column-preserved : goal.loop-column-preserved
loop-column-preserved c =
    let k = c.args.k in
    let f = value_of c.args.t.now in
    let j = c.loop-column.column in
    let x : FitsSigned w128 c.value-number.result = search rules in
    let v = c.value-number.ensures.value in
    elim c.if-number-ne0.branch [
      | then-number-ne0 w ↦
          let n : f j ≢ pos 0 = λ e. w.if-number-ne0.true (rw (v, e) refl) in
          let p : w.push.new.self.items ≡ c.loop-column.all.items ++ (place_of k j, f j) ∷ [] = rw (w.place.ensures, v) at (simp to_z-of_z at w.push.ensures.items) in
          rw (w.all-is, p) (terms_some k f j c.args.columns c.loop-column.all.items (terms_from k f 0 c.args.columns) c.loop-column-test.true n c.loop-column.invariant)
      | else-number-ne0 w ↦
          let z : f j ≡ pos 0 = sym v ∙ (simp to_z-of_z at (ap (to_z w128) w.if-number-ne0.false)) in
          rw w.all-is (terms_none k f j c.args.columns c.loop-column.all.items (terms_from k f 0 c.args.columns) c.loop-column-test.true z c.loop-column.invariant)
    ]
