use Rattle.std.proofs.Common.{length}
use Rattle.linear_conditions.specs.Forms.{sum_of_expr}
use Rattle.linear_conditions.proofs.Placed.{sum-placed, all-below}
use Rattle.linear_conditions.proofs.laws.forms_are_placed.Goals as goal

pub returns : goal.returns
returns c = λ p fix env e. ((sum-placed p env fix e).0, all-below (length p.objects) p.dims (sum_of_expr p e env fix).terms (sum-placed p env fix e).1)
