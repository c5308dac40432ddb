use Rattle.std.proofs.Common.{arith, ◌≡◌, ◌+◌, ◌-◌, ◌*◌, ◌∙◌, ℕ, ap, sym, take, drop}
use Rattle.lt_model.proofs.Flat.{get-first_rows}
use Rattle.lt_match.proofs.bases.terms_at.Goals as goal

width : (a d : ℕ) → a + d - a ≡ d
width a d = omega arith

pub returns : goal.returns
returns c = ap (λ n. take n (drop (c.args.j * c.args.d) c.args.terms.now)) (width (c.args.j * c.args.d) c.args.d) ∙ sym (get-first_rows c.args.d c.args.d c.args.j c.args.terms.now c.requires.place)
