use Rattle.std.proofs.Common.{◌≡◌, ◌++◌, map}
use Rattle.std.specs.List.{flat_map, range_with_len}
use Rattle.linear_conditions.specs.CondTree.{cond_view}
use Rattle.rule_ground.specs.Apart.{apart_at_places}
use Rattle.rule_ground.proofs.apart.push_shape.Given as goal

abbrev pub invariant-loop-before : goal.invariant-loop-before
invariant-loop-before l = map cond_view l.out.items ≡ map cond_view l.initial.out.items ++ flat_map (apart_at_places l.problem l.first.object.0 l.first.place l.j.0) (range_with_len 1 l.before)
