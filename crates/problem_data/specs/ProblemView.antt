-- What the plain parts of a problem stand for.
use Rattle.std.specs.Prelude.{map}
use Rattle.rule_syntax.specs.View.{formula_view}
use Rattle.problem_data.specs.declared.problem.RangeDef.{RangeDef}
use Rattle.problem_data.specs.declared.problem.AttributeDef.{AttributeDef}
use Rattle.problem_data.specs.declared.problem.ParamDef.{ParamDef}
use Rattle.problem_data.specs.declared.problem.Demand.{Demand}
use Rattle.problem_data.specs.declared.problem.Demand.TheVariants as demands
use Rattle.problem_data.specs.Problem.{RangeData, AttributeData, ParamData, DemandData, apart, within, plain}

abbrev pub range_data : RangeDef → RangeData
range_data r = record { low = r.low; high = r.high }

abbrev pub attribute_data : AttributeDef → AttributeData
attribute_data a = record { name = a.name; value = a.value }

abbrev pub param_data : ParamDef → ParamData
param_data p = record { name = p.name; kind = p.kind }

abbrev pub demand_data : Demand → DemandData
demand_data demands.Apart = apart
demand_data (demands.Within rs) = within (map range_data rs.items)
demand_data (demands.Plain f) = plain (formula_view f)
