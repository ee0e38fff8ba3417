use Rattle.std.proofs.Common.{map}
use Rattle.problem_data.specs.Limits.{most_attributes}
use Rattle.problem_data.specs.Faults.{Among, NamesFault, FieldFault, attribute_name}
use Rattle.problem_data.proofs.Firsts.{joined}
use Rattle.statement_faults.proofs.objects.attributes_fault.Goals as goal

pub returns : goal.returns
returns c = joined (NamesFault most_attributes (map attribute_name c.args.attributes.now)) (Among (λ before. FieldFault) c.args.attributes.now) _ _ _ c.earlier.ensures c.in_ok-names.ensures c.each_fault-each.ensures
