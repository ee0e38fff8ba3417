use Rattle.std.proofs.Common.{◌∙◌}
use Rattle.linear_conditions.specs.CondTree.{cond_view}
use Rattle.linear_conditions.proofs.JoinSteps.{open-alone}
use Rattle.linear_conditions.proofs.fold.open_with.Goals as goal

pub returns-in_default : goal.returns-in_default
returns-in_default c = open-alone c.args.all (cond_view c.args.first) (cond_view c.args.second) c.requires.first c.requires.second (λ h. c.in_default.not-Open (c.verdict.ensures ∙ h))
