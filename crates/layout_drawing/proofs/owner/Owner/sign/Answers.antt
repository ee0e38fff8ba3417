use Rattle.std.proofs.Common.{sym, ap}
use Rattle.layout_drawing.specs.Drawing.{signs}
use Rattle.layout_drawing.specs.Painting.{owner_sign}
use Rattle.layout_drawing.proofs.owner.Owner.sign.Goals as goal

pub returns-in-One : goal.returns-in-One
unfolding signs
returns-in-One c = ap owner_sign (sym c.in-One.is)

pub returns-in-Several : goal.returns-in-Several
returns-in-Several c = ap owner_sign (sym c.in-Several.is)
