use Rattle.std.proofs.Common.{◌≡◌, length, ℤ, pos}
use Rattle.std.specs.List.{All}
use Rattle.trail_search.proofs.start.zeros.Given as goal

abbrev pub invariant-loop-i : goal.invariant-loop-i
invariant-loop-i l = (length l.all.items ≡ l._i) × All (λ (z : ℤ). z ≡ pos 0) l.all.items
