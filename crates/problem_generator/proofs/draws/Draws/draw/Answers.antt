use Rattle.std.proofs.Common.{refl}
use Rattle.problem_generator.proofs.draws.Draws.draw.Goals as goal

pub returns-clause-number : goal.returns-clause-number
returns-clause-number c = refl
