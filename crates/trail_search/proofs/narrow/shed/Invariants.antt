use Rattle.std.proofs.Common.{◌≡◌, ◌≤◌}
use Rattle.trail_search.specs.Shed.{Clears, Sheds}
use Rattle.trail_search.proofs.narrow.shed.Given as goal

abbrev pub invariant-loop-place : goal.invariant-loop-place
invariant-loop-place g l = Sheds l.fn.t.state l.t.state l.o.0 l.from l.place × (l.t.levels ≡ l.fn.t.levels) × (l.t.restores ≡ l.fn.t.restores) × (l.from ≤ l.place) × (l.place ≤ l.to) × Clears l.fn.t.state l.t.state l.o.0 l.from l.place
