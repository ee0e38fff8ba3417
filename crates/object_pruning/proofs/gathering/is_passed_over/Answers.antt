use Rattle.std.proofs.Common.{Some, ap, ◌∙◌}
use Rattle.std.proofs.lemmas.Bool.{eqb-true}
use Rattle.object_pruning.proofs.gathering.is_passed_over.Goals as goal

pub returns-in-Some : goal.returns-in-Some
returns-in-Some c = λ h. c.in-Some.is ∙ ap Some (eqb-true _ _ h)
