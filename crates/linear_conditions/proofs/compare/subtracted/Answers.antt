use Rattle.linear_conditions.specs.Views.{wide_view}
use Rattle.linear_conditions.proofs.CompareSteps.{can-subtract}
use Rattle.linear_conditions.proofs.FormSteps.{can-negate}
use Rattle.linear_conditions.proofs.compare.subtracted.Goals as goal

pub scaled-requires : goal.scaled-requires
scaled-requires c = can-negate (wide_view c.args.right.now) c.requires.right

pub add-requires : goal.add-requires
add-requires c = can-subtract (wide_view c.args.left) (wide_view c.args.right.now) (wide_view c.in_ok-other.other) c.requires.left c.requires.right c.requires.ordered c.in_ok-other.ensures
