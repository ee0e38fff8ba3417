use Rattle.std.proofs.Common.{◌∙◌, ap}
use Rattle.problem_data.specs.Problem.{BoxData}
use Rattle.problem_data.proofs.problem.BoxDef.sizes.Goals as goal

pub returns : goal.returns
returns c = c.as_slice.ensures.value ∙ ap (λ (b : BoxData). b.sizes) c.self.view_is
