use Rattle.std.proofs.Common.{◌≡◌, ◌++◌, map, take}
use Rattle.std.specs.List.{flat_map}
use Rattle.linear_conditions.specs.CondTree.{cond_view}
use Rattle.rule_ground.specs.Apart.{apart_from_box}
use Rattle.rule_ground.proofs.apart.push_shapes.Given as goal

abbrev pub invariant-loop-a : goal.invariant-loop-a
invariant-loop-a l = map cond_view l.out.items ≡ map cond_view l.initial.out.items ++ flat_map (apart_from_box l.problem l.first.object.0 l.first.place l.second.object.0 l.second.place) (take l.a-index l.own)
