use Rattle.std.proofs.Common.{◌≡◌, map, drop}
use Rattle.problem_data.specs.ProblemView.{param_data}
use Rattle.rule_names.specs.Sight.{kind_of}
use Rattle.rule_names.proofs.scope.kind_of_parameter.Given as goal

-- the name is among the parameters that are left, as it is among all
abbrev pub invariant-loop-param : goal.invariant-loop-param
invariant-loop-param l = kind_of l.problem (map param_data (drop l.param-index l.params)) l.name ≡ kind_of l.problem (map param_data l.params) l.name
