use Rattle.std.proofs.Common.{◌≡◌, ◌++◌, map, take}
use Rattle.linear_conditions.specs.CondTree.{cond_view}
use Rattle.rule_ground.specs.Apart.{apart_condition}
use Rattle.rule_ground.proofs.apart.push_box.Given as goal

abbrev pub invariant-loop-b : goal.invariant-loop-b
invariant-loop-b l = map cond_view l.out.items ≡ map cond_view l.initial.out.items ++ map (apart_condition l.problem l.first.object.0 l.first.place l.second.object.0 l.second.place l.a) (take l.b-index l.others)
