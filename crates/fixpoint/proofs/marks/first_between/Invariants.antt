use Rattle.std.proofs.Common.{◌≡◌, ◌<◌, ◌≤◌, ℕ, get_or, false}
use Rattle.fixpoint.proofs.marks.first_between.Given as goal

-- none before the next one is set
abbrev pub invariant-loop-u : goal.invariant-loop-u
invariant-loop-u l = (v : ℕ) → l.from ≤ v → v < l.u → get_or l.there v false ≡ false
