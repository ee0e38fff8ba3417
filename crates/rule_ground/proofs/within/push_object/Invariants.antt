use Rattle.std.proofs.Common.{◌≡◌, ◌++◌, map}
use Rattle.std.specs.List.{flat_map, range_with_len}
use Rattle.linear_conditions.specs.CondTree.{cond_view}
use Rattle.problem_data.specs.ProblemView.{range_data}
use Rattle.rule_ground.specs.Within.{within_at_place}
use Rattle.rule_ground.proofs.within.push_object.Given as goal

abbrev pub invariant-loop-before : goal.invariant-loop-before
invariant-loop-before l = map cond_view l.out.items ≡ map cond_view l.initial.out.items ++ flat_map (within_at_place l.problem (map range_data l.ranges) l.o.0) (range_with_len 1 l.before)
