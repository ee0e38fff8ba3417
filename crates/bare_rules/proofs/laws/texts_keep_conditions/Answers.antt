use Rattle.problem_text.proofs.PrintingProblem.{may_state_canonical}
use Rattle.problem_text.specs.Canonical.{needs_order, needs_sides}
use Rattle.bare_rules.proofs.Again.{texts_keep}
use Rattle.bare_rules.proofs.laws.texts_keep_conditions.Goals as goal

pub returns-clause-stated : goal.returns-clause-stated
returns-clause-stated c = texts_keep

pub returns-clause-canonical : goal.returns-clause-canonical
returns-clause-canonical c = λ p again said accepts h. texts_keep (needs_order p) (needs_sides p) p again said (may_state_canonical p) accepts h
