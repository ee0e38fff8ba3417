-- What `make` writes of an outcome.
use Rattle.std.specs.Prelude.{ℕ, List, ◌++◌, codes}
use Rattle.derivation.specs.declared.recorder.NoRecord.{NoRecord}
use Rattle.layout_search.specs.declared.first.Outcome.{Outcome}
use Rattle.layout_search.specs.declared.first.Outcome.TheVariants.{Found, Nothing, OutOfBudget}
use Rattle.layout_text.specs.Block.{token_line}
use Rattle.problem_data.specs.Problem.{ProblemData}
use Rattle.problem_data.specs.Cells.{IsShaped}
use Rattle.command_input.specs.declared.command.Status.{Status}
use Rattle.command_input.specs.declared.command.Status.TheVariants.{Answered, No, Budget}

-- answer layout and the line of its token, answer none or answer budget
abbrev pub answer_lines : Outcome NoRecord → List ℕ
answer_lines (Found t) = codes "answer layout\n" ++ token_line t
answer_lines (Nothing kept) = codes "answer none\n"
answer_lines OutOfBudget = codes "answer budget\n"

abbrev pub outcome_status : Outcome NoRecord → Status
outcome_status (Found t) = Answered
outcome_status (Nothing kept) = No
outcome_status OutOfBudget = Budget

-- a layout that was found has the form of one of the problem
abbrev pub IsShapedFor : ProblemData → Outcome NoRecord → Type 0
IsShapedFor p (Found t) = IsShaped p t
IsShapedFor p (Nothing kept) = Unit {0}
IsShapedFor p OutOfBudget = Unit {0}
