use Rattle.std.proofs.Common.{refl, ◌≡◌, ◌<◌, ◌≤◌, ◌+◌, ◌*◌, ◌^◌, ◌+ℤ◌, sym, ◌∙◌, ℕ, ℤ, pos, get_or, nat_abs, arith, rules, FitsSigned}
use Rattle.std.specs.Int.{w64, w128}
use Rattle.std.proofs.lemmas.Int.{ints, to_z-of_z, fits_signed_from_abs}
use native.Mathlib.Decide.{dec_le}
use Rattle.lt_model.specs.Padded.{lookup}
use Rattle.lt_tableau.specs.Table.{units_of}
use Rattle.lt_tableau.proofs.Sums.{lookup_is}
use Rattle.lt_lp.specs.Rule.{unit_entry}
use Rattle.lt_lp.proofs.WallSums.{add_step}
use Rattle.lt_lp.proofs.sums.add_row.Goals as goal

sizes : (s x : ℤ) (row : ℕ) → row < 22 → nat_abs s ≤ row * 2 ^ 56 → nat_abs x < 2 ^ 56 → record { fits : FitsSigned w64 (s +ℤ x); small : nat_abs (s +ℤ x) ≤ (row + 1) * 2 ^ 56 }
sizes s x row l h k =
    let a : nat_abs (s +ℤ x) ≤ nat_abs s + nat_abs x = omega (arith, ints) in
    record { fits = fits_signed_from_abs w64 (s +ℤ x) (omega arith); small = omega arith }

pub word-requires : goal.word-requires
word-requires c =
    let x : FitsSigned w128 c.unit.result = search rules in
    simp to_z-of_z (rw c.unit.ensures (c.rows-unit-end.ensures.tableau.small c.args.row (units_of c.args.t.now + c.loop-unit.unit)))

pub overflow_add-sums : goal.overflow_add-sums
overflow_add-sums c =
    let t = c.args.t.now in
    let i = c.loop-unit.unit in
    let w = c.rows-unit-end.ensures.tableau in
    let few = w.few_rows in
    let n = unit_entry t c.args.row i in
    let x : FitsSigned w128 c.unit.result = search rules in
    let y : FitsSigned w64 c.word.result = search rules in
    let z : FitsSigned w64 (get_or c.loop-unit.sums i (pos 0)) = search rules in
    let a : get_or c.loop-unit.sums i (pos 0) ≡ lookup c.args.sums.now i = sym (lookup_is c.loop-unit.sums i) ∙ c.loop-unit.invariant.rest i (omega arith) in
    let e : c.word.result ≡ n = (simp to_z-of_z at c.word.ensures) ∙ c.unit.ensures in
    let s = sizes (lookup c.args.sums.now i) n c.args.row (let r = c.requires.row_in in omega arith) (c.requires.small i) (w.small c.args.row (units_of t + i)) in
    let g : FitsSigned w64 (get_or c.loop-unit.sums i (pos 0) +ℤ c.word.result) = rw (a, e) s.fits in
    simp to_z-of_z g

pub loop-unit-preserved : goal.loop-unit-preserved
loop-unit-preserved c =
    let t = c.args.t.now in
    let i = c.loop-unit.unit in
    let u = c.loop-unit.invariant in
    let w = c.rows-unit-end.ensures.tableau in
    let few = w.few_rows in
    let old = c.args.sums.now in
    let n = unit_entry t c.args.row i in
    let x : FitsSigned w128 c.unit.result = search rules in
    let y : FitsSigned w64 c.word.result = search rules in
    let z : FitsSigned w64 (get_or c.loop-unit.sums i (pos 0)) = search rules in
    let a : get_or c.loop-unit.sums i (pos 0) ≡ lookup old i = sym (lookup_is c.loop-unit.sums i) ∙ u.rest i (omega arith) in
    let e : c.word.result ≡ n = (simp to_z-of_z at c.word.ensures) ∙ c.unit.ensures in
    let s = sizes (lookup old i) n c.args.row (let r = c.requires.row_in in omega arith) (c.requires.small i) (w.small c.args.row (units_of t + i)) in
    let v = get_or c.loop-unit.sums i (pos 0) +ℤ c.word.result in
    let j : v ≡ lookup old i +ℤ n = rw (a, e) refl in
    let g : FitsSigned w64 v = rw j s.fits in
    simp to_z-of_z (add_step old c.loop-unit.sums (unit_entry t c.args.row) i v (omega arith) u.size u.done u.rest j)

pub returns-clause-small : goal.returns-clause-small
returns-clause-small c = λ q. pick q (dec_le c.loop-unit.unit q)
  where
    pick : (q : ℕ) → Dec (c.loop-unit.unit ≤ q) → nat_abs (lookup c.loop-unit.sums q) ≤ (c.args.row + 1) * 2 ^ 56
    pick q (yes l) = rw (c.loop-unit.invariant.rest q l) (let k = c.requires.small q in omega arith)
    pick q (no l) =
        let t = c.args.t.now in
        let w = c.rows-unit-end.ensures.tableau in
        let few = w.few_rows in
        rw (c.loop-unit.invariant.done q (omega arith)) (sizes (lookup c.args.sums.now q) (unit_entry t c.args.row q) c.args.row (let r = c.requires.row_in in omega arith) (c.requires.small q) (w.small c.args.row (units_of t + q))).small
