use Rattle.std.proofs.Common.{◌≡◌, ◌++◌, ◌+◌, ◌-◌, map}
use Rattle.std.specs.List.{flat_map, range_with_len}
use Rattle.linear_conditions.specs.CondTree.{cond_view}
use Rattle.rule_ground.specs.Apart.{apart_of}
use Rattle.rule_ground.proofs.apart.push_behind.Given as goal

abbrev pub invariant-loop-j : goal.invariant-loop-j
invariant-loop-j l = map cond_view l.out.items ≡ map cond_view l.initial.out.items ++ flat_map (apart_of l.problem l.i) (range_with_len (l.i + 1) (l.j - (l.i + 1)))
