use Rattle.std.proofs.Common.{length, ap, arith}
use Rattle.linear_conditions.proofs.fields.coordinate_sum.Goals as goal

pub overflow_cast-result : goal.overflow_cast-result
overflow_cast-result c = let few = c.is_said.ensures.formed.few in omega (arith, few, c.if-o-objects.true, ap length c.objects.ensures)
