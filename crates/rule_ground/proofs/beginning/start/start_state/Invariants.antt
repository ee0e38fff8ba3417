use Rattle.std.proofs.Common.{◌≡◌, map, take}
use Rattle.rule_ground.specs.Start.{whole_reach}
use Rattle.rule_ground.proofs.beginning.start.start_state.Given as goal

abbrev pub invariant-loop-object : goal.invariant-loop-object
invariant-loop-object g l = l.state ≡ map whole_reach (take l.object-index l.object-items)
