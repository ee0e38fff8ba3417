use Rattle.std.proofs.Common.{sym, subst}
use Rattle.std.specs.Prelude.{All}
use Rattle.problem_data.specs.WellFormed.{IsBox}
use Rattle.rule_values.proofs.Boxes.{boxes-good}
use Rattle.rule_values.proofs.shapes.boxes_at.Goals as goal

pub returns-clause-boxes : goal.returns-clause-boxes
returns-clause-boxes c = subst (All (IsBox c.args.problem.now.dims)) (sym c.shape_boxes.ensures) (boxes-good c.args.problem.now c.args.o c.args.place c.is_said.ensures.formed)
