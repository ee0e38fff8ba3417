use Rattle.std.proofs.Common.{◌≡◌, ◌++◌, map, take, drop}
use Rattle.derivation.specs.Renumbered.{renumbered}
use Rattle.derivation.proofs.renumbering.Renumbering.events.Given as goal

abbrev pub invariant-loop-e : goal.invariant-loop-e
invariant-loop-e l = l.events ≡ map (renumbered l.self) (take l.e-index l.fn.events) ++ drop l.e-index l.fn.events
