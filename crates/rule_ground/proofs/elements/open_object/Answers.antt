use Rattle.std.proofs.Common.{arith}
use Rattle.rule_ground.proofs.Said.{small-object}
use Rattle.rule_ground.proofs.elements.open_object.Goals as goal

pub overflow_cast-result : goal.overflow_cast-result
overflow_cast-result c = let h = small-object c.args.problem.now c.args.o c.places_of.result c.is_said.ensures.formed c.places_of.ensures c.if-places_of-gt1.true in omega arith
