-- What is answered where the words name a dimension that the problem of the input has not.
use Rattle.std.specs.Prelude.{◌≡◌, ◌<◌, ◌≤◌, ℕ, List, codes, Option, None, Some, Result, Ok, Err}
use Rattle.geo_tokens.specs.declared.fault.FaultWord.{FaultWord}
use Rattle.geo_tokens.specs.declared.fault.TextFault.{TextFault}
use Rattle.geo_tokens.specs.declared.fault.TextFault.TheVariants as faults
use Rattle.layout_text.specs.FirstFault as layouts
use Rattle.problem_data.specs.Problem.{ProblemData}
use Rattle.command_reply.specs.Accepted.{IsAccepted}
use Rattle.command_reply.specs.Given.{IsGiven}
use Rattle.command_reply.specs.Texts.{AreTextsOf, IsRefusedPair}
use Rattle.command_reply.specs.declared.given.Given.{Given}

-- the input is a problem, or two texts of which the first is one
abbrev pub IsAlone : List ℕ → ProblemData → Type 0
IsAlone input p = IsAccepted input p

pub record IsFirst (input : List ℕ) (p : ProblemData) : Type 0 where
  pub first : List ℕ
  pub second : List ℕ
  pub cut : AreTextsOf input first second
  pub accepted : IsAccepted first p

-- the problem that the input gives has fewer than d dimensions
pub record HasFewerDimensions (Gives : List ℕ → ProblemData → Type 0) (d : ℕ) (input text : List ℕ) : Type 0 where
  pub problem : ProblemData
  pub given : Gives input problem
  pub fewer : problem.dims < d
  pub says : text ≡ codes "bad dimension\n"

-- the faults of a layout text are looked for where the problem has the dimension
abbrev pub HasFaultIn : ℕ → ProblemData → List ℕ → ℕ → ℕ → FaultWord → Type 0
HasFaultIn d p text from place word = (d ≤ p.dims) × layouts.HasFaultFrom p text from place word

-- a call's answer: what the two texts give; None, where the problem has fewer than d dimensions; or
-- their first fault, unless memory ran out
abbrev pub AnswersGivenIn : ℕ → Result (Option Given) TextFault → List ℕ → Type 0
AnswersGivenIn d (Ok None) text = (p : ProblemData) × IsFirst text p × (p.dims < d)
AnswersGivenIn d (Ok (Some g)) text = IsGiven text g × (d ≤ g.accepted.problem.dims)
AnswersGivenIn d (Err (faults.At place word)) text = IsRefusedPair (HasFaultIn d) text place word
AnswersGivenIn d (Err faults.Memory) text = Unit {0}
