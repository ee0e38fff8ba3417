use Rattle.std.proofs.Common.{◌∙◌, ap}
use Rattle.rule_values.specs.Shapes.{boxes_at}
use Rattle.box_ends.proofs.placed.boxes.Goals as goal

pub returns-clause-same : goal.returns-clause-same
returns-clause-same c = c.boxes_at.ensures.same ∙ ap (boxes_at c.args.problem.now c.args.o.0) c.place.ensures
