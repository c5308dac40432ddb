use Rattle.std.proofs.Common.{ℕ, sym, ◌≡◌, ◌≢◌, ◌<◌, pos, [], get_or}
use Rattle.lt_model.specs.Facets.{number_at}
use Rattle.lt_model.specs.Matrices.{identity}
use Rattle.lt_model.proofs.Flat.{get-identity, number_at-unit_same, number_at-unit_other}
use Rattle.lt_lattice.proofs.matrices.identity_entry.Goals as goal

one : (d i j : ℕ) → i < d → i ≡ j → number_at j (get_or (identity d) i []) ≡ pos 1
one d i j h e = rw (get-identity d i h, ← e) (number_at-unit_same d i h)

other : (d i j : ℕ) → i < d → i ≢ j → number_at j (get_or (identity d) i []) ≡ pos 0
other d i j h e = rw (get-identity d i h) (number_at-unit_other d i j e)

pub returns-then-i-j : goal.returns-then-i-j
returns-then-i-j c = λ d h. sym (one d c.args.i c.args.j h c.if-i-j.true)

pub returns-else-i-j : goal.returns-else-i-j
returns-else-i-j c = λ d h. sym (other d c.args.i c.args.j h c.if-i-j.false)
