-- That a text says a problem that is shown with a given text.
use Rattle.std.specs.Prelude.{◌≡◌, ℕ, List}
use Rattle.problem_data.specs.Accepted.{Accepts}
use Rattle.problem_data.specs.Problem.{ProblemData}
use Rattle.problem_text.specs.Canonical.{problem_text}
use Rattle.fewer_rules.specs.Fewer.{HasConditions}

-- The text says a problem whose rules have no fault, and this is the canonical text of that
-- problem.
pub record IsShownAgain (text shown : List ℕ) : Type 0 where
  pub problem : ProblemData
  pub accepts : Accepts text problem
  pub has : HasConditions problem
  pub says : problem_text problem ≡ shown
