use Rattle.std.proofs.Common.{◌≡◌, ◌++◌, map}
use Rattle.std.specs.List.{flat_map, range_with_len}
use Rattle.linear_conditions.specs.CondTree.{cond_view}
use Rattle.rule_ground.specs.Own.{holes_at}
use Rattle.rule_ground.proofs.own.push_ranges.Given as goal

abbrev pub invariant-loop-d : goal.invariant-loop-d
invariant-loop-d l = map cond_view l.out.items ≡ map cond_view l.initial.out.items ++ flat_map (holes_at l.problem l.o.0) (range_with_len 0 l.d)
