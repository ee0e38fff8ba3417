use Rattle.std.proofs.Common.{◌≡◌}
use Rattle.search_tests.proofs.tests.trail.change_often.Given as goal

abbrev pub invariant-loop-i : goal.invariant-loop-i
invariant-loop-i l = (l.t.levels ≡ l.initial.t.levels) × (l.t.restores ≡ l.initial.t.restores)
