-- The generator of a drill, as its number.
use Rattle.std.specs.Prelude.{ℕ, zero, suc, ◌+◌, ◌*◌, ◌/◌, ◌%◌, ◌^◌}

-- the number after x
abbrev pub next_state : ℕ → ℕ
next_state x = (x * 6364136223846793005 + 1442695040888963407) % 2 ^ 64

-- the answer below a number, where the generator's number is x
abbrev pub answer_at : ℕ → ℕ → ℕ
answer_at x below = (x / 2 ^ 33) % below

-- the number after so many draws
abbrev pub after : ℕ → ℕ → ℕ
after zero x = x
after (suc n) x = next_state (after n x)

-- the answer of draw n, counted from 1, where the number was x before the first
abbrev pub drawn : ℕ → ℕ → ℕ → ℕ
drawn n x below = answer_at (after n x) below
