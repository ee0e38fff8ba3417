use Rattle.std.proofs.Common.{rules}
use Rattle.linear_conditions.proofs.SideSteps.{lowered-number, lowered-shifted}
use Rattle.linear_conditions.proofs.short.lowered.Goals as goal

pub returns-in-Number : goal.returns-in-Number
returns-in-Number c = lowered-number c.number.result c.args.f c.in-Number.x c.args.z _ c.in-Number.is c.number.ensures (search rules)

pub returns-in-Shifted : goal.returns-in-Shifted
returns-in-Shifted c = lowered-shifted c.shifted.result c.args.f c.in-Shifted.object c.in-Shifted.dimension c.in-Shifted.x c.args.z _ c.in-Shifted.is c.shifted.ensures (search rules)
