use Rattle.std.proofs.Common.{◌≡◌, ◌<◌, ◌≤◌, ℕ, true, get_or, false}
use Rattle.fixpoint.proofs.marks.take_away.Given as goal

-- what is set lies from the next one on
abbrev pub invariant-loop-u : goal.invariant-loop-u
invariant-loop-u l = (v : ℕ) → get_or l.there v false ≡ true → (l.u ≤ v) × (v < l.end)
