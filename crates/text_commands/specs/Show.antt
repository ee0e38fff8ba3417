-- What `show` answers.
use Rattle.std.specs.Prelude.{◌≡◌, List, ℕ}
use Rattle.problem_data.specs.Problem.{ProblemData}
use Rattle.problem_text.specs.Canonical.{problem_text}
use Rattle.command_input.specs.declared.command.Status.{Status}
use Rattle.command_input.specs.declared.command.Status.TheVariants.{Answered, Refused}
use Rattle.command_reply.specs.Accepted.{IsAccepted}
use Rattle.command_reply.specs.Question.{Question}
use Rattle.command_reply.specs.Refusal.{RefusedAnswer}

-- the text is the canonical spelling of the problem
pub record ShowsProblem (input text : List ℕ) : Type 0 where
  pub problem : ProblemData
  pub accepted : IsAccepted input problem
  pub says : text ≡ problem_text problem

-- `show`. The problem in its canonical spelling; any other text is refused at its first fault.
abbrev pub ShowAnswer : List ℕ → List ℕ → Status → Type 0
ShowAnswer input text Answered = ShowsProblem input text
ShowAnswer input text Refused = RefusedAnswer input text
ShowAnswer input text _ = ⊥

abbrev pub show_question : Question
show_question = record {
  answer = ShowAnswer;
  differ = λ input status text other. ⊥;
  faultless = λ input. (p : ProblemData) × IsAccepted input p;
  most = 1048577;
}
