use Rattle.std.proofs.Common.{arith}
use Rattle.rule_ground.proofs.Said.{few-places}
use Rattle.rule_ground.proofs.elements.place_count.Goals as goal

pub overflow_cast-result : goal.overflow_cast-result
overflow_cast-result c = let h = few-places c.args.problem.now c.args.object.0 c.is_said.ensures.formed in omega (arith, h, c.places_of.ensures)
