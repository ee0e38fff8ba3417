use Rattle.std.proofs.Common.{◌≡◌, ◌++◌, map}
use Rattle.std.specs.List.{flat_map, range_with_len}
use Rattle.linear_conditions.specs.CondTree.{cond_view}
use Rattle.rule_ground.specs.Apart.{parted_in}
use Rattle.rule_ground.specs.Shapes.{other_shape}
use Rattle.rule_ground.proofs.apart.box_condition.Given as goal

abbrev pub invariant-loop-d : goal.invariant-loop-d
invariant-loop-d l = map cond_view l.parts.items.items ≡ (other_shape l.problem l.first.object.0 l.first.place ++ other_shape l.problem l.second.object.0 l.second.place) ++ flat_map (parted_in l.first.object.0 l.a l.second.object.0 l.b) (range_with_len 0 l.d)
