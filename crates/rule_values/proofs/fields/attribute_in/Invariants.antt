use Rattle.std.proofs.Common.{◌≡◌, map, drop}
use Rattle.problem_data.specs.ProblemView.{attribute_data}
use Rattle.problem_data.specs.Value.{attribute_in}
use Rattle.rule_values.proofs.fields.attribute_in.Given as goal

-- the name is among the attributes that are left, as it is among all
abbrev pub invariant-loop-attribute : goal.invariant-loop-attribute
invariant-loop-attribute l = attribute_in l.name (map attribute_data (drop l.attribute-index l.attributes)) ≡ attribute_in l.name (map attribute_data l.attributes)
