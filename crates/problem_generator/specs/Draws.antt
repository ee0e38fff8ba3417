-- Pseudorandom numbers from a seed.
use Rattle.std.specs.Prelude.{ℕ, ◌+◌, ◌*◌, ◌/◌, ◌%◌, ◌^◌}
use Rattle.std.specs.Fn.{iterate}

-- the state behind another one
abbrev pub next_state : ℕ → ℕ
next_state x = (1103515245 * x + 12345) % 2 ^ 31

-- the state behind so many draws, where the seed is the first state
abbrev pub state_behind : ℕ → ℕ → ℕ
state_behind seed n = iterate next_state n seed

-- the number below m that is drawn from a state
abbrev pub drawn_from : ℕ → ℕ → ℕ
drawn_from x m = x / 65536 % m

-- draw n, counted from 1
abbrev pub draw : ℕ → ℕ → ℕ → ℕ
draw seed n m = drawn_from (state_behind seed n) m
