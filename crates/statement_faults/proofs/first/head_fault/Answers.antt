use Rattle.problem_data.specs.Faults.{VersionFault, DimsFault}
use Rattle.problem_data.proofs.Firsts.{joined}
use Rattle.statement_faults.proofs.first.head_fault.Goals as goal

pub returns : goal.returns
returns c = joined (VersionFault c.args.said.now.version) (DimsFault c.args.said.now.version c.args.said.now.dims) _ _ _ c.earlier.ensures c.version_fault-version.ensures c.dims_fault-dims.ensures
