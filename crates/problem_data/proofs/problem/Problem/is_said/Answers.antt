use Rattle.std.proofs.Common.{sym, subst}
use Rattle.problem_data.specs.Problem.{ProblemData}
use Rattle.problem_data.specs.WellFormed.{IsWellFormed}
use Rattle.problem_data.specs.Accepted.{IsSaid}
use Rattle.problem_data.proofs.Accepted.{accepted_well_formed}
use Rattle.problem_data.proofs.SomeRules.{well_formed_kept}
use Rattle.problem_data.proofs.problem.Problem.is_said.Goals as goal

well_formed : (p : ProblemData) → IsSaid p → IsWellFormed p
well_formed p s = subst IsWellFormed (sym s.is) (well_formed_kept s.whole s.keep s.kept (accepted_well_formed s.said.text s.whole s.said.accepts))

pub returns-clause-formed : goal.returns-clause-formed
returns-clause-formed c = subst IsWellFormed c.self.view_is (well_formed _ c.self.invariant)
