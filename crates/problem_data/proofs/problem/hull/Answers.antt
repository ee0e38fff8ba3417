use Rattle.std.proofs.Common.{◌∙◌}
use Rattle.problem_data.proofs.Ends.{hull-made}
use Rattle.problem_data.proofs.problem.hull.Goals as goal

pub returns : goal.returns
returns c = c.between.ensures ∙ hull-made c.args.ranges.now _ _ c.requires
