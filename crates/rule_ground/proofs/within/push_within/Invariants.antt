use Rattle.std.proofs.Common.{◌≡◌, ◌++◌, map}
use Rattle.std.specs.List.{flat_map, range_with_len}
use Rattle.linear_conditions.specs.CondTree.{cond_view}
use Rattle.problem_data.specs.ProblemView.{range_data}
use Rattle.rule_ground.specs.Within.{within_of}
use Rattle.rule_ground.proofs.within.push_within.Given as goal

abbrev pub invariant-loop-o : goal.invariant-loop-o
invariant-loop-o l = map cond_view l.out.items ≡ map cond_view l.initial.out.items ++ flat_map (within_of l.problem (map range_data l.ranges)) (range_with_len 0 l.o)
