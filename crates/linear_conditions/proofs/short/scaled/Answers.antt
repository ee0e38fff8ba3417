use Rattle.std.proofs.Common.{rules}
use Rattle.linear_conditions.proofs.SideSteps.{scaled-number, wide-product}
use Rattle.linear_conditions.proofs.short.scaled.Goals as goal

pub returns-in-Number : goal.returns-in-Number
returns-in-Number c =
    scaled-number c.number.result c.args.g c.args.x c.in-Number.z _ c.in-Number.is c.number.ensures
    (wide-product c.args.x c.in-Number.z c.from.result c.from-in-Number.result c.ranges.x (search rules) (search rules) (search rules))
