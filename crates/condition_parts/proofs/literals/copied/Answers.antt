use Rattle.std.proofs.Common.{sym}
use Rattle.condition_parts.proofs.literals.copied.Goals as goal

pub returns-in-NotShape : goal.returns-in-NotShape
returns-in-NotShape c = sym c.in-NotShape.is
