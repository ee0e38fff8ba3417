use Rattle.std.proofs.Common.{◌≡◌, ◌++◌, map, take}
use Rattle.std.specs.List.{flat_map}
use Rattle.linear_conditions.specs.CondTree.{cond_view}
use Rattle.rule_ground.specs.Rules.{conds_of}
use Rattle.rule_ground.proofs.flat.+flat.Given as goal

abbrev pub invariant-push_each-loop-child : goal.invariant-push_each-loop-child
invariant-push_each-loop-child l = map cond_view l.out.items ≡ map cond_view l.fn.out.items ++ flat_map conds_of (map cond_view (take l.child-index l.child-items))
