use Rattle.std.proofs.Common.{◌≡◌, ◌++◌, map}
use Rattle.std.specs.List.{range_with_len}
use Rattle.linear_conditions.specs.CondTree.{cond_view}
use Rattle.rule_ground.specs.Own.{origin_condition}
use Rattle.rule_ground.proofs.own.push_origin.Given as goal

abbrev pub invariant-loop-d : goal.invariant-loop-d
invariant-loop-d l = map cond_view l.out.items ≡ map cond_view l.initial.out.items ++ map (origin_condition l.problem l.o.0) (range_with_len 0 l.d)
