use Rattle.problem_data.proofs.SomeRules.{wholly_said}
use Rattle.problem_data.proofs.problem.Problem.new.Goals as goal

pub invariant_of-result : goal.invariant_of-result
invariant_of-result c = wholly_said _ c.requires
