use Rattle.std.proofs.Common.{map}
use Rattle.problem_data.specs.Faults.{PastLimit, Repeated}
use Rattle.problem_data.proofs.Firsts.{joined}
use Rattle.statement_faults.proofs.names.limited.Goals as goal

pub returns : goal.returns
returns g c = joined (PastLimit c.args.most (map g.T.Named.name_of c.args.items.now)) (Repeated (map g.T.Named.name_of c.args.items.now)) _ _ _ c.earlier.ensures c.past_limit-past.ensures c.requires
