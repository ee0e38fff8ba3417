use Rattle.std.proofs.Common.{◌≡◌, ◌++◌, map}
use Rattle.std.specs.List.{flat_map, range_with_len}
use Rattle.linear_conditions.specs.CondTree.{cond_view}
use Rattle.rule_ground.specs.Apart.{apart_behind}
use Rattle.rule_ground.proofs.apart.push_apart.Given as goal

abbrev pub invariant-loop-i : goal.invariant-loop-i
invariant-loop-i l = map cond_view l.out.items ≡ map cond_view l.initial.out.items ++ flat_map (apart_behind l.problem) (range_with_len 0 l.i)
