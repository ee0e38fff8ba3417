-- How large the sum of a form can be.
use Rattle.std.specs.Prelude.{ℕ, ◌*◌, ◌^◌, ℤ, pos, neg_ℤ, ◌≤ℤ◌}

-- within what n products of a factor and an end can come to
abbrev pub InSum : ℕ → ℤ → Type 0
InSum n z = (neg_ℤ (pos (n * (10 ^ 15 * 2 ^ 63))) ≤ℤ z) × (z ≤ℤ pos (n * (10 ^ 15 * 2 ^ 63)))
