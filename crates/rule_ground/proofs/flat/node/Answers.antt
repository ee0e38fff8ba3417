use Rattle.std.proofs.Common.{◌∙◌, ap, map, rules, w64}
use Rattle.std.proofs.lemmas.Int.{to_z-of_z}
use mir.Val.{to_z, of_z}
use Rattle.linear_conditions.specs.CondTree.{at_least, conds, cond_view}
use Rattle.linear_conditions.proofs.CondViews.{view-at_least}
use Rattle.rule_ground.proofs.flat.node.Goals as goal

pub returns : goal.returns
returns c =
    view-at_least (to_z w64 (of_z w64 c.args.n.now)) c.args.children
    ∙ ap (λ z. at_least z (conds (map cond_view c.args.children.items.items))) (to_z-of_z w64 c.args.n.now (search rules))
