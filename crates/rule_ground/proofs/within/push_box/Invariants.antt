use Rattle.std.proofs.Common.{◌≡◌, ◌++◌, map}
use Rattle.std.specs.List.{flat_map, range_with_len}
use Rattle.linear_conditions.specs.CondTree.{cond_view}
use Rattle.problem_data.specs.ProblemView.{range_data}
use Rattle.rule_ground.specs.Within.{within_in}
use Rattle.rule_ground.proofs.within.push_box.Given as goal

abbrev pub invariant-loop-d : goal.invariant-loop-d
invariant-loop-d l = map cond_view l.out.items ≡ map cond_view l.initial.out.items ++ flat_map (within_in l.problem (map range_data l.ranges) l.at.object.0 l.at.place l.b) (range_with_len 0 l.d)
