use Rattle.std.proofs.Common.{◌≡◌, length}
use Rattle.search_tests.proofs.tests.trail.descend.Given as goal

abbrev pub invariant-loop-level : goal.invariant-loop-level
invariant-loop-level l = (l.t.levels ≡ 50) × (length l.t.restores ≡ l.level)
