use Rattle.std.proofs.Common.{ap, rules}
use Rattle.std.specs.Int.{int_div_euclid}
use Rattle.rule_values.proofs.floor.floor_quotient.Goals as goal

pub returns : goal.returns
returns c = search (rules, ap (int_div_euclid c.args.z) c.from.ensures)
