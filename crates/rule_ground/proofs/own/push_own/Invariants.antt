use Rattle.std.proofs.Common.{◌≡◌, ◌++◌, map}
use Rattle.std.specs.List.{flat_map, range_with_len}
use Rattle.linear_conditions.specs.CondTree.{cond_view}
use Rattle.rule_ground.specs.Own.{own_of}
use Rattle.rule_ground.proofs.own.push_own.Given as goal

abbrev pub invariant-loop-o : goal.invariant-loop-o
invariant-loop-o l = map cond_view l.out.items ≡ map cond_view l.initial.out.items ++ flat_map (own_of l.problem) (range_with_len 0 l.o)
