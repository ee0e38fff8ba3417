use Rattle.std.proofs.Common.{◌≡◌, ◌++◌, map, take}
use Rattle.std.specs.List.{flat_map}
use Rattle.linear_conditions.specs.CondTree.{cond_view}
use Rattle.problem_data.specs.ProblemView.{range_data}
use Rattle.rule_ground.specs.Within.{within_of_box}
use Rattle.rule_ground.proofs.within.push_shape.Given as goal

abbrev pub invariant-loop-b : goal.invariant-loop-b
invariant-loop-b l = map cond_view l.out.items ≡ map cond_view l.initial.out.items ++ flat_map (within_of_box l.problem (map range_data l.ranges) l.at.object.0 l.at.place) (take l.b-index l.own)
