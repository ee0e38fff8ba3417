use Rattle.std.proofs.Common.{◌≡◌, ◌++◌, map}
use Rattle.std.specs.List.{range_with_len}
use Rattle.linear_conditions.specs.CondTree.{cond_view}
use Rattle.problem_data.specs.ProblemView.{range_data}
use Rattle.rule_ground.specs.Own.{hole_behind}
use Rattle.rule_ground.proofs.own.push_holes.Given as goal

abbrev pub invariant-loop-n : goal.invariant-loop-n
invariant-loop-n l = map cond_view l.out.items ≡ map cond_view l.initial.out.items ++ map (hole_behind l.o.0 l.d (map range_data l.pieces)) (range_with_len 0 l.n)
