use Rattle.std.proofs.Common.{ℕ, ◌<◌}
use Rattle.problem_data.specs.Pieces.{IsInRange, range_at}
use Rattle.layout_text.proofs.pieces.is_in_pieces.Given as goal

-- no piece so far has the number
abbrev pub invariant-loop-range : goal.invariant-loop-range
invariant-loop-range l = (n : ℕ) → n < l.range-index → IsInRange (range_at l.pieces n) l.number.value → ⊥
