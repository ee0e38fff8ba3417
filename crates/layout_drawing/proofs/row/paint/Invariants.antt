use Rattle.std.proofs.Common.{◌≡◌, ◌<◌, ◌≤◌, ℕ}
use Rattle.layout_drawing.specs.Painting.{owner_at, owner_with}
use Rattle.layout_drawing.proofs.row.paint.Given as goal

-- the object was counted at the places so far, and nowhere else
abbrev pub invariant-loop-i : goal.invariant-loop-i
invariant-loop-i l = record {
  inside : (k : ℕ) → l.from ≤ k → k < l.i → owner_at l.row k ≡ owner_with (owner_at l.fn.row k) l.object;
  before : (k : ℕ) → k < l.from → owner_at l.row k ≡ owner_at l.fn.row k;
  behind : (k : ℕ) → l.i ≤ k → owner_at l.row k ≡ owner_at l.fn.row k;
}
