use Rattle.std.proofs.Common.{◌≡◌, map, take}
use Rattle.linear_conditions.specs.CondTree.{cond_view}
use Rattle.rule_ground.proofs.flat.+copied.Given as goal

abbrev pub invariant-copied_children-loop-child : goal.invariant-copied_children-loop-child
invariant-copied_children-loop-child l = map cond_view l.list.items.items ≡ map cond_view (take l.child-index l.child-items)
