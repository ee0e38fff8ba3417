use Rattle.std.proofs.Common.{◌≡◌, ◌<◌, ◌≤◌, ℕ, get_or, false}
use Rattle.fixpoint.proofs.links.first_marked.Given as goal

-- none before the next one is marked
abbrev pub invariant-loop-o : goal.invariant-loop-o
invariant-loop-o l = (v : ℕ) → l.from ≤ v → v < l.o → get_or l.marks v false ≡ false
