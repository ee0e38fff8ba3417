-- What `to_json` answers.
use Rattle.std.specs.Prelude.{◌≡◌, ◌++◌, ◌∷◌, [], List, ℕ}
use Rattle.serde_json.specs.Written.{compact_text}
use Rattle.problem_data.specs.Problem.{ProblemData}
use Rattle.json_sheets.specs.Sheet.{sheet_json}
use Rattle.geo_json.specs.SheetOf.{sheet_of}
use Rattle.command_input.specs.declared.command.Status.{Status}
use Rattle.command_input.specs.declared.command.Status.TheVariants.{Answered, Refused}
use Rattle.command_reply.specs.Accepted.{IsAccepted}
use Rattle.command_reply.specs.Question.{Question}
use Rattle.command_reply.specs.Refusal.{RefusedAnswer}

-- the compact text of the problem's value, and a line feed
abbrev pub json_line : ProblemData → List ℕ
json_line p = compact_text (sheet_json (sheet_of p)) ++ 10 ∷ []

-- the text is the problem's value as a line
pub record WritesProblem (input text : List ℕ) : Type 0 where
  pub problem : ProblemData
  pub accepted : IsAccepted input problem
  pub says : text ≡ json_line problem

-- `to_json`. The problem's value as a line; any other text is refused at its first fault.
abbrev pub ToJsonAnswer : List ℕ → List ℕ → Status → Type 0
ToJsonAnswer input text Answered = WritesProblem input text
ToJsonAnswer input text Refused = RefusedAnswer input text
ToJsonAnswer input text _ = ⊥

abbrev pub to_json_question : Question
to_json_question = record {
  answer = ToJsonAnswer;
  differ = λ input status text other. ⊥;
  faultless = λ input. (p : ProblemData) × IsAccepted input p;
  most = 1048577;
}
