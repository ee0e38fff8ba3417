use Rattle.std.proofs.Common.{true, false, pos, refl}
use Rattle.linear_conditions.proofs.FoldSteps.{made-certain}
use Rattle.linear_conditions.proofs.fold.certain.Goals as goal

pub returns-then-holds : goal.returns-then-holds
returns-then-holds c = made-certain (pos 0) c.new.result true c.args.holds c.new.ensures c.if-holds.true refl

pub returns-else-holds : goal.returns-else-holds
returns-else-holds c = made-certain (pos 1) c.new-else-holds.result false c.args.holds c.new-else-holds.ensures c.if-holds.false refl
