use Rattle.linear_conditions.proofs.Values.{sum-value}
use Rattle.linear_conditions.proofs.laws.forms_have_values.Goals as goal

pub returns : goal.returns
returns c = λ p t fix env e tuple covered unbroken. sum-value p t fix env tuple e covered unbroken
