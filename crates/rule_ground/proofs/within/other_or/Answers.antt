use Rattle.std.proofs.Common.{◌∙◌, ap, List, pos}
use Rattle.geo_conditions.specs.declared.cond.Cond.{NotShape}
use Rattle.linear_conditions.specs.CondTree.{CondTree, at_least, conds}
use Rattle.linear_conditions.proofs.CondViews.{view-at_least, two-made}
use Rattle.rule_ground.proofs.within.other_or.Goals as goal

pub returns : goal.returns
returns c =
    view-at_least (pos 1) c.push-2.new.self
    ∙ ap (λ (cs : List CondTree). at_least (pos 1) (conds cs)) (two-made _ _ _ (NotShape c.args.at.object c.args.at.place) c.args.c c.new-parts.ensures c.in_ok-push.ensures.ok c.in_ok-push-2.ensures.ok)
